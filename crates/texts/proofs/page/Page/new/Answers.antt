-- `texts::page::Page::new` meets its contract.
-- Assumes nothing.
use Rattle.std.proofs.Common.{refl, length}
use Rattle.texts.specs.WrittenLaws.{minus_zero}
use Rattle.texts.specs.Written.{up_to, blank}
use Rattle.texts.proofs.page.Page.new.Goals as goal

pub returns : goal.returns
unfolding up_to blank
returns c = rw (minus_zero (length c.args.out.now)) refl
