-- `texts::page::Page::byte` meets its contract.
-- Assumes nothing.
use Rattle.std.proofs.Common.{◌∙◌, ap, ◌∷◌, []}
use Rattle.texts.specs.Written.{with}
use Rattle.texts.specs.WrittenLaws.{up_to_byte, no_room, with_full, adds_more, adds_none}
use Rattle.texts.proofs.page.Page.byte.Goals as goal

pub returns-then-self-clause-exact : goal.returns-then-self-clause-exact
returns-then-self-clause-exact c =
    up_to_byte c.self.inside.out.now c.self.inside.end c.args.b c.if-self.true ∙ ap (λ w. with w (c.args.b ∷ [])) c.self.view_is

pub returns-then-self-clause-adds : goal.returns-then-self-clause-adds
returns-then-self-clause-adds c = adds_more (c.args.b ∷ []) (returns-then-self-clause-exact c)

pub returns-else-self-clause-exact : goal.returns-else-self-clause-exact
returns-else-self-clause-exact c = with_full c.args.self.now (c.args.b ∷ []) (no_room c.self.inside.out.now c.self.inside.end c.args.self.now c.if-self.false c.self.view_is)

pub returns-else-self-clause-adds : goal.returns-else-self-clause-adds
returns-else-self-clause-adds c = adds_none c.args.self.now
