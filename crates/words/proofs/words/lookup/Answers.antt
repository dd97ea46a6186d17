-- `words::lookup` meets its contract.
-- Assumes nothing.
use mathlib.Core.Path.{refl, ◌∙◌, sym}
use native.Mathlib.Omega.{arith}
use Rattle.words.specs.KeyLaws.{all_bytes, short_found, long_found, none_found}
use Rattle.words.proofs.words.lookup.Goals as goal

pub returns-in-1 : goal.returns-in-1
returns-in-1 c = let w = c.args.w.now in
    c.word1.ensures
    ∙ short_found w 1 _ (all_bytes w (λ i. omega (arith, c.shared_slice_known-1.given i))) c.in-1.is (omega arith) c.number.ensures

pub returns-in-2 : goal.returns-in-2
returns-in-2 c = let w = c.args.w.now in
    c.word2.ensures
    ∙ short_found w 2 _ (all_bytes w (λ i. omega (arith, c.shared_slice_known-1.given i))) c.in-2.is (omega arith) c.number-in-2.ensures

pub returns-in-3 : goal.returns-in-3
returns-in-3 c = let w = c.args.w.now in
    c.word3.ensures
    ∙ short_found w 3 _ (all_bytes w (λ i. omega (arith, c.shared_slice_known-1.given i))) c.in-3.is (omega arith) c.number-in-3.ensures

pub returns-in-4 : goal.returns-in-4
returns-in-4 c = let w = c.args.w.now in
    c.word4.ensures
    ∙ short_found w 4 _ (all_bytes w (λ i. omega (arith, c.shared_slice_known-1.given i))) c.in-4.is (omega arith) c.number-in-4.ensures

pub returns-in-5 : goal.returns-in-5
returns-in-5 c = let w = c.args.w.now in
    c.word5.ensures
    ∙ short_found w 5 _ (all_bytes w (λ i. omega (arith, c.shared_slice_known-1.given i))) c.in-5.is (omega arith) c.number-in-5.ensures

pub returns-in-6 : goal.returns-in-6
returns-in-6 c = let w = c.args.w.now in
    c.word6.ensures
    ∙ short_found w 6 _ (all_bytes w (λ i. omega (arith, c.shared_slice_known-1.given i))) c.in-6.is (omega arith) c.number-in-6.ensures

pub returns-in-7 : goal.returns-in-7
returns-in-7 c = let w = c.args.w.now in
    c.word7.ensures
    ∙ short_found w 7 _ (all_bytes w (λ i. omega (arith, c.shared_slice_known-1.given i))) c.in-7.is (omega arith) c.number-in-7.ensures

pub returns-in-8 : goal.returns-in-8
returns-in-8 c = let w = c.args.w.now in
    c.word8.ensures
    ∙ short_found w 8 _ (all_bytes w (λ i. omega (arith, c.shared_slice_known-1.given i))) c.in-8.is (omega arith) c.eight.ensures

pub returns-in-9 : goal.returns-in-9
returns-in-9 c = let w = c.args.w.now in
    c.word9.ensures
    ∙ long_found w 9 1 _ _ (all_bytes w (λ i. omega (arith, c.shared_slice_known-1.given i))) c.in-9.is
    (omega arith) c.eight-in-9.ensures c.number-in-9.ensures

pub returns-in-10 : goal.returns-in-10
returns-in-10 c = let w = c.args.w.now in
    c.word10.ensures
    ∙ long_found w 10 2 _ _ (all_bytes w (λ i. omega (arith, c.shared_slice_known-1.given i))) c.in-10.is
    (omega arith) c.eight-in-10.ensures c.number-in-10.ensures

pub returns-in-11 : goal.returns-in-11
returns-in-11 c = let w = c.args.w.now in
    c.word11.ensures
    ∙ long_found w 11 3 _ _ (all_bytes w (λ i. omega (arith, c.shared_slice_known-1.given i))) c.in-11.is
    (omega arith) c.eight-in-11.ensures c.number-in-11.ensures

pub returns-in_default : goal.returns-in_default
returns-in_default c = let w = c.args.w.now in
    let r = c.in_default.in_default-own.rest in
    sym
    (none_found w _ (all_bytes w (λ i. omega (arith, c.shared_slice_known-1.given i))) refl
    r.0.0.0.0.0.0.0.0.0.0.1
    r.0.0.0.0.0.0.0.0.0.1
    r.0.0.0.0.0.0.0.0.1
    r.0.0.0.0.0.0.0.1
    r.0.0.0.0.0.0.1
    r.0.0.0.0.0.1
    r.0.0.0.0.1
    r.0.0.0.1
    r.0.0.1
    r.0.1
    r.1)
