-- `text::refusal_text` meets its contract.
-- Assumes nothing.
use mathlib.Core.Path.{◌≡◌, ◌∙◌, ap}
use Rattle.spellings.specs.Spellings.{word_of}
use Rattle.sentences.specs.Sentences.{sentence}
use Rattle.pagyolint.proofs.text.refusal_text.Goals as goal

pub returns : goal.returns
unfolding sentence
returns c = let a = c.args in
    let e : c.word_of.result.now ≡ sentence a.n = c.word_of.ensures ∙ ap (λ rs. word_of rs a.n) c.sentences-rows.ensures in
    rw e at c.copy.ensures
