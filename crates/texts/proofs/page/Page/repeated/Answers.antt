-- `texts::page::Page::repeated` meets its contract.
-- Assumes nothing.
use Rattle.std.proofs.Common.{◌∙◌, ap, replicate}
use Rattle.std.proofs.lemmas.List.{length-replicate}
use Rattle.texts.specs.Written.{with}
use Rattle.texts.specs.WrittenLaws.{up_to_part, repeated_part, adds_more}
use Rattle.texts.proofs.page.Page.repeated.Goals as goal

pub returns-clause-exact : goal.returns-clause-exact
returns-clause-exact c =
    let p = c.self.inside in
    let bytes = replicate c.args.count c.args.b in
    up_to_part p.out.now c.fill.new.self bytes p.end c.min-n.result c.self.invariant (rw (length-replicate c.args.count c.args.b) c.min-n.ensures)
    (c.fill.ensures.after (λ y e. e) ∙ repeated_part p.out.now p.end c.min-n.result c.args.count c.args.b c.self.invariant c.min-n.ensures)
    ∙ ap (λ w. with w bytes) c.self.view_is

pub returns-clause-adds : goal.returns-clause-adds
returns-clause-adds c = adds_more (replicate c.args.count c.args.b) (returns-clause-exact c)
