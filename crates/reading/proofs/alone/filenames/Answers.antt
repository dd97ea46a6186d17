-- `alone::filenames` meets its contract.
-- Assumes nothing.
use native.Mathlib.Omega.{arith}
use Rattle.std.proofs.lemmas.Result.{err_from_is_err_and}
use Rattle.lists.specs.Lists.{filename_of}
use Rattle.reading.specs.Alone.{filenames_alone, reply_told, filename_seen, filename_bytes}
use Rattle.reading.specs.Checks.{list_by_item, replied_refused, replied_beyond, replied_item, said_refused, said_beyond, said_item, item_room, filename_short}
use Rattle.reading.proofs.alone.filenames.Goals as goal

pub returns-in_err-listed : goal.returns-in_err-listed
unfolding filenames_alone reply_told
returns-in_err-listed c =
    let p = err_from_is_err_and c.from_residual.result c.from_residual.ensures.1 in
    let e = list_by_item (filename_of c.args.text.now) c.args.text.now c.args.place _ in
    let both = said_refused filename_seen filename_bytes _ _ _ (replied_refused _ e _ c.list_at.ensures.answer _ c.in_err-listed.was) in
    record { answer = rw (p.1, p.2) both.0; written = both.1 }

pub returns-in-None : goal.returns-in-None
unfolding filenames_alone reply_told
returns-in-None c =
    let e = list_by_item (filename_of c.args.text.now) c.args.text.now c.args.place _ in
    let both = said_beyond filename_seen filename_bytes _ _ _ (replied_beyond _ e _ c.list_at.ensures.answer _ c.in_ok-listed.was c.in-None.is) in
    record { answer = both.0; written = both.1 }

pub filename-requires : goal.filename-requires
filename-requires c = item_room c.args.text.now c.args.store.now c.in-Some.x.start c.in_ok-listed.ensures.room

pub returns-in-Some : goal.returns-in-Some
unfolding filenames_alone reply_told
returns-in-Some c =
    let e = list_by_item (filename_of c.args.text.now) c.args.text.now c.args.place _ in
    let both = said_item filename_seen filename_bytes _ _ _ _ (replied_item _ e _ c.list_at.ensures.answer _ c.in_ok-listed.was _ c.in-Some.is)
    c.filename.ensures.kind (omega (arith, filename_short c.args.text.now c.in-Some.x, c.in_ok-listed.ensures.room)) c.filename.ensures.written in
    record { answer = both.0; written = both.1 }
