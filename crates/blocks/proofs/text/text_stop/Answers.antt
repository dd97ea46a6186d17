-- `text::text_stop` meets its contract.
-- Assumes nothing.
use Rattle.std.proofs.Common.{◌-◌, length, ◌∙◌, sym, arith}
use Rattle.scan.specs.Bytes.{is_text}
use Rattle.scan.specs.RunLaws.{run_at_end, run_all}
use Rattle.blocks.proofs.text.text_stop.Goals as goal

pub returns-then-s-eq0 : goal.returns-then-s-eq0
returns-then-s-eq0 c = sym (run_at_end _ _ _ (omega arith))

pub returns-then-all_long : goal.returns-then-all_long
returns-then-all_long c = let s = c.args.s.now in
    c.run_end.ensures
    ∙ sym (run_all is_text s 0 (length s - 1) (omega arith) (omega arith) (sym c.all_long.ensures ∙ c.if-all_long.true))
