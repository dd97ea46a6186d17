-- `texts::page::Page::text` meets its contract.
-- Assumes nothing.
use Rattle.std.proofs.Common.{◌∙◌, ap}
use Rattle.texts.specs.Written.{with}
use Rattle.texts.specs.WrittenLaws.{up_to_part, adds_more}
use Rattle.texts.proofs.page.Page.text.Goals as goal

pub returns-clause-exact : goal.returns-clause-exact
returns-clause-exact c =
    let p = c.self.inside in
    up_to_part p.out.now c.copy_from_slice.new.self c.args.s.now p.end c.min-n.result c.self.invariant c.min-n.ensures c.copy_from_slice.ensures.after
    ∙ ap (λ w. with w c.args.s.now) c.self.view_is

pub returns-clause-adds : goal.returns-clause-adds
returns-clause-adds c = adds_more c.args.s.now (returns-clause-exact c)
