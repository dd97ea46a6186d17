-- `texts::page::Page::cut` meets its contract.
-- Assumes nothing.
use Rattle.std.proofs.Common.{◌∙◌, ap}
use Rattle.texts.specs.Written.{cut}
use Rattle.texts.specs.WrittenLaws.{up_to_cut}
use Rattle.texts.proofs.page.Page.cut.Goals as goal

pub returns : goal.returns
returns c =
    let p = c.self.inside in
    up_to_cut p.out.now p.end c.args.n c.min-self-inside.result c.self.invariant c.min-self-inside.ensures ∙ ap (λ w. cut w c.args.n) c.self.view_is
