-- `texts::page::Page::hex` meets its contract: the digits go where the text ends, and there is room for them.
-- Assumes nothing.
use Rattle.std.proofs.Common.{◌≡◌, ◌+◌, ◌-◌, ◌*◌, ◌/◌, ◌∙◌, ℕ, min, sym, ap, arith, length, take, drop}
use Rattle.std.proofs.lemmas.List.{length-take, length-drop, take_all, take_min}
use Rattle.texts.specs.Hex.{hex_of}
use Rattle.texts.specs.Written.{up_to, with}
use Rattle.texts.specs.WrittenLaws.{up_to_part, adds_more}
use Rattle.texts.proofs.page.Page.hex.Goals as goal

pub returns-clause-exact : goal.returns-clause-exact
unfolding up_to
returns-clause-exact c =
    let p = c.self.inside in
    let s = c.args.s.now in
    let digits = c.set_hex.new.out in
    let n = 2 * c.min-n.result in
    let size : length digits ≡ n = omega (
      arith,
      c.set_hex.auto.out,
      length-take (p.end + n - p.end) (drop p.end p.out.now),
      length-drop p.end p.out.now,
      c.min-n.ensures,
      c.self.invariant,
    ) in
    let room : c.args.self.now.room ≡ length p.out.now - p.end = sym (ap (λ w. w.room) c.self.view_is) in
    let least : c.min-n.result ≡ min (c.args.self.now.room / 2) (length s) = omega (arith, c.min-n.ensures, room) in
    let half : take c.min-n.result s ≡ take (c.args.self.now.room / 2) s = ap (λ (m : ℕ). take m s) least ∙ take_min (c.args.self.now.room / 2) s in
    up_to_part p.out.now digits digits p.end n c.self.invariant (omega (arith, size, c.min-n.ensures)) (sym (take_all n digits (omega (arith, size))))
    ∙ ap (λ w. with w digits) c.self.view_is
    ∙ ap (with c.args.self.now) (c.set_hex.ensures ∙ ap hex_of half)

pub returns-clause-adds : goal.returns-clause-adds
returns-clause-adds c = adds_more (hex_of (take (c.args.self.now.room / 2) c.args.s.now)) (returns-clause-exact c)
