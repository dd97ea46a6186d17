-- `bytes::all_words` meets its contract.
-- Assumes nothing.
use Rattle.std.proofs.Common.{◌∙◌, sym}
use Rattle.scan.specs.Bytes.{is_letter, is_word}
use Rattle.tables.specs.AllLaws.{all_wider, letter_word}
use Rattle.tables.proofs.bytes.all_words.Goals as goal

pub returns-then-all_numbered : goal.returns-then-all_numbered
returns-then-all_numbered c = let a = c.args in
    c.if-all_numbered.true ∙ sym (all_wider is_letter is_word letter_word a.b.now (sym c.all_numbered.ensures ∙ c.if-all_numbered.true))
