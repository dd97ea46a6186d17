-- `table::Table::good` meets its contract.
-- Assumes nothing.
use Rattle.std.proofs.Common.{sym, ◌∙◌, arith, refl, Some}
use Rattle.tables.specs.FrameLaws.{framed_told, test_unframed, test_empty, lengths_fit}
use Rattle.tables.specs.GoodLaws.{test_unordered, words_end_lem, test_commands, test_words}
use Rattle.tables.proofs.table.Table.good.Goals as goal

pub returns-then-not-framed : goal.returns-then-not-framed
returns-then-not-framed c = let a = c.args.self.now in
    sym (test_unframed a.at a.most a.b.now (sym c.framed.ensures ∙ c.if-not-framed.true))

pub returns-then-n-eq0 : goal.returns-then-n-eq0
returns-then-n-eq0 c = let a = c.args.self.now in
    let is = sym c.framed.ensures ∙ c.if-not-framed.false in
    sym (test_empty a.at a.most a.b.now is (sym c.count-n.ensures.value ∙ c.if-n-eq0.true))

pub returns-in_default : goal.returns-in_default
returns-in_default c = let a = c.args.self.now in
    let is = sym c.framed.ensures ∙ c.if-not-framed.false in
    sym (test_unordered a.at a.most a.b.now is (omega (arith, c.count-n.ensures.value)) c.ordered.result c.ordered.ensures c.in_default.is)

pub slice_bounds-all_commands-end : goal.slice_bounds-all_commands-end
slice_bounds-all_commands-end c = let a = c.args.self.now in
    let is = sym c.framed.ensures ∙ c.if-not-framed.false in
    let f = framed_told a.at a.most a.b.now is in omega (arith, c.count-n.ensures.value, f.size, f.few)

pub returns-then-not-all_commands : goal.returns-then-not-all_commands
returns-then-not-all_commands c = let a = c.args.self.now in
    let is = sym c.framed.ensures ∙ c.if-not-framed.false in
    sym (test_commands a.at a.most a.b.now is (omega (arith, c.count-n.ensures.value)) (Some c.in-Some.end) c.in-Some.ensures c.in-Some.end refl
    _ (omega (arith, c.count-n.ensures.value)) (rw c.count-n.ensures.value at (sym c.all_commands.ensures ∙ c.if-not-all_commands.true)))

pub slice_bounds-all_words-end : goal.slice_bounds-all_words-end
slice_bounds-all_words-end c = let a = c.args.self.now in
    let is = sym c.framed.ensures ∙ c.if-not-framed.false in
    let e = words_end_lem a.at a.most a.b.now is (omega (arith, c.count-n.ensures.value)) (Some c.in-Some.end) c.in-Some.ensures c.in-Some.end refl in
    omega (arith, e, lengths_fit a.at a.most a.b.now (framed_told a.at a.most a.b.now is) (omega (arith, c.count-n.ensures.value)))

pub returns : goal.returns
returns c = let a = c.args.self.now in
    let is = sym c.framed.ensures ∙ c.if-not-framed.false in
    c.all_words.ensures
    ∙ sym (test_words a.at a.most a.b.now is (omega (arith, c.count-n.ensures.value)) (Some c.in-Some.end) c.in-Some.ensures c.in-Some.end refl
    _ _ (omega (arith, c.count-n.ensures.value)) (omega (arith, c.count-n.ensures.value)) (rw c.count-n.ensures.value at (sym c.all_commands.ensures ∙ c.if-not-all_commands.false)))
