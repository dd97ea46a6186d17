-- `text::put_tokens` meets its contract. The invariant: what is left is that of the tokens from `i` on.
-- Assumes nothing.
use mathlib.Core.Path.{◌≡◌, ◌∙◌}
use Prim.Native.Nat.{◌<◌}
use lib.ListN.{length}
use native.Mathlib.Omega.{arith}
use Rattle.scanner.specs.Tokens.{token_at}
use Rattle.scanner.specs.TokensLaws.{token_good}
use Rattle.store.specs.Splice.{writing_room, writing_put, writing_end}
use Rattle.tokens.specs.ThroughLaws.{left_on, left_end, token_in_lem}
use Rattle.tokens.proofs.text.put_tokens.Goals as goal

pub put_token-j-requires : goal.put_token-j-requires
put_token-j-requires c = let a = c.args in
    let i = c.loop-i.i in
    let inside : i < length a.s.now = omega (arith, c.loop-i-test.true, c.requires.to_in_bounds) in
    let g = token_good a.s.now i inside in
    let is : c.line_token-t.result ≡ token_at a.s.now i = c.line_token-t.ensures ∙ token_in_lem a.s.now a.lead i c.requires.lead_value in
    rw is
    record {
      o_bound = omega (arith, g.starts, c.requires.o_len_bound);
      o_bound_2 = omega (arith, g.inside, c.requires.o_len_bound);
      room = writing_room _ _ c.requires.room (left_on a.w a.o a.s.now a.to i c.loop-i-test.true inside) c.loop-i.invariant;
    }

pub loop-i-smaller : goal.loop-i-smaller
loop-i-smaller c = let a = c.args in
    let i = c.loop-i.i in
    let inside : i < length a.s.now = omega (arith, c.loop-i-test.true, c.requires.to_in_bounds) in
    let is : c.line_token-t.result ≡ token_at a.s.now i = c.line_token-t.ensures ∙ token_in_lem a.s.now a.lead i c.requires.lead_value in
    rw is (omega (arith, (token_good a.s.now i inside).past, c.loop-i-test.true))

pub loop-i-preserved : goal.loop-i-preserved
loop-i-preserved c = let a = c.args in
    let i = c.loop-i.i in
    let inside : i < length a.s.now = omega (arith, c.loop-i-test.true, c.requires.to_in_bounds) in
    let is : c.line_token-t.result ≡ token_at a.s.now i = c.line_token-t.ensures ∙ token_in_lem a.s.now a.lead i c.requires.lead_value in
    rw is (writing_put _ (rw is at c.put_token-j.ensures) (left_on a.w a.o a.s.now a.to i c.loop-i-test.true inside) c.loop-i.invariant)

pub returns : goal.returns
returns c = let a = c.args in
    writing_end (left_end a.w a.o a.s.now a.to c.loop-i.i c.loop-i-test.false) c.loop-i.invariant
