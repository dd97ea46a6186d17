-- `classes::classes` meets its contract: the table's rule is one test at each of its 256 entries, which antt computes.
-- Assumes nothing.
use mathlib.Core.Path.{refl}
use Rattle.scan.specs.Bytes.{class_of, is_space, is_colon, is_digit, is_word, is_mark, is_text, is_plain, is_quoted}
use Rattle.scan.proofs.ByteLaws.{classes_rule}
use Rattle.scan.proofs.classes.classes.Goals as goal

pub returns : goal.returns
unfolding class_of is_space is_colon is_digit is_word is_mark is_text is_plain is_quoted
returns c = classes_rule _ refl tt
