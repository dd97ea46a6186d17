-- `line::text_from` meets its contract.
-- Assumes nothing.
use mathlib.Core.Path.{◌∙◌, sym}
use native.Mathlib.Omega.{arith}
use Rattle.scan.specs.Bytes.{is_text}
use Rattle.scan.specs.RunLaws.{run_at_later}
use Rattle.reading.proofs.line.text_from.Goals as goal

pub returns-then-a-stop : goal.returns-then-a-stop
returns-then-a-stop c = let e = c.requires in
    e ∙ sym (run_at_later is_text _ 0 c.args.a (omega arith) (omega (arith, e)))
