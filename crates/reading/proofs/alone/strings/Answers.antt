-- `alone::strings` meets its contract.
-- Assumes nothing.
use native.Mathlib.Omega.{arith}
use Rattle.std.proofs.lemmas.Result.{err_from_is_err_and}
use lib.ListN.{length}
use Rattle.lists.specs.Lists.{text_at}
use Rattle.lists.specs.ListLaws.{text_length}
use Rattle.reading.specs.Alone.{strings_alone, reply_told}
use Rattle.reading.specs.Checks.{list_by_item, replied_refused, replied_beyond, replied_item, said_refused, said_beyond, said_item, item_room}
use Rattle.reading.proofs.alone.strings.Goals as goal

pub returns-in_err-listed : goal.returns-in_err-listed
unfolding strings_alone reply_told
returns-in_err-listed c =
    let p = err_from_is_err_and c.from_residual.result c.from_residual.ensures.1 in
    let e = list_by_item (λ x. text_at c.args.text.now x.start) c.args.text.now c.args.place _ in
    let both = said_refused length (λ t. t) _ _ _ (replied_refused _ e _ c.list_at.ensures.answer _ c.in_err-listed.was) in
    record { answer = rw (p.1, p.2) both.0; written = both.1 }

pub returns-in-None : goal.returns-in-None
unfolding strings_alone reply_told
returns-in-None c =
    let e = list_by_item (λ x. text_at c.args.text.now x.start) c.args.text.now c.args.place _ in
    let both = said_beyond length (λ t. t) _ _ _ (replied_beyond _ e _ c.list_at.ensures.answer _ c.in_ok-listed.was c.in-None.is) in
    record { answer = both.0; written = both.1 }

pub copy_item-requires : goal.copy_item-requires
copy_item-requires c = item_room c.args.text.now c.args.store.now c.in-Some.x.start c.in_ok-listed.ensures.room

pub returns-in-Some : goal.returns-in-Some
unfolding strings_alone reply_told
returns-in-Some c =
    let e = list_by_item (λ x. text_at c.args.text.now x.start) c.args.text.now c.args.place _ in
    let p = c.copy_item.ensures in
    let both = said_item length (λ t. t) _ _ _ _ (replied_item _ e _ c.list_at.ensures.answer _ c.in_ok-listed.was _ c.in-Some.is)
    (omega (arith, p.place)) (omega (arith, text_length c.args.text.now c.in-Some.x.start, c.in_ok-listed.ensures.room)) p.store in
    record { answer = both.0; written = both.1 }
