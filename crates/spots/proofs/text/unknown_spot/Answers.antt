-- `spots::text::unknown_spot` meets its contract.
-- Assumes nothing.
use Rattle.std.proofs.Common.{sym, ap, ◌∙◌, arith}
use Rattle.scanner.specs.Tokens.{lead_of}
use Rattle.spots.specs.TextLaws.{word_inside, last_unknown}
use Rattle.spots.proofs.text.unknown_spot.Goals as goal

-- where the word stands

pub overflow_add-from : goal.overflow_add-from
overflow_add-from c =
    let t = c.last_text-t.ensures in
    rw (c.lead_of-l.ensures, c.part.ensures) (omega (arith, word_inside _ _ _ t.order t.inside))

pub overflow_add-from-2 : goal.overflow_add-from-2
overflow_add-from-2 c =
    let t = c.last_text-t.ensures in
    rw (c.lead_of-l.ensures, c.part.ensures) (omega (arith, word_inside _ _ _ t.order t.inside))

pub returns : goal.returns
returns c =
    let t = c.last_text-t.ensures in
    let l = ap (λ v. lead_of v) c.part.ensures in
    record {
      placed = c.spot_in.ensures.placed;
      word =
          λ table w k.
          let p = rw (sym (c.lead_of-l.ensures ∙ l)) at (last_unknown _ _ _ _ t.last table w k) in
          rw (c.spot_in.ensures.same (omega (arith, p.0)) p.1.0) p.1.1;
    }
