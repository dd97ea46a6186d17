-- `alone::options` meets its contract.
-- Assumes nothing.
use mathlib.Core.Path.{◌∙◌, ap}
use native.Mathlib.Omega.{arith}
use Rattle.std.proofs.lemmas.Result.{err_from_is_err_and}
use Rattle.lists.specs.Listed.{option_bytes}
use Rattle.reading.specs.Alone.{reply_told, option_counts}
use Rattle.reading.specs.Told.{option_told}
use Rattle.reading.specs.ToldLaws.{option_told_lem}
use Rattle.reading.specs.Checks.{options_by_item, replied_refused, replied_beyond, replied_item, said_refused, said_beyond, said_item, item_room, option_short}
use Rattle.reading.proofs.alone.options.Goals as goal

pub returns-in_err-listed : goal.returns-in_err-listed
unfolding reply_told
returns-in_err-listed c =
    let p = err_from_is_err_and c.from_residual.result c.from_residual.ensures.1 in
    let e = options_by_item c.args.text.now c.args.place _ in
    let both = said_refused option_counts option_bytes _ _ _ (replied_refused _ e _ c.list_at.ensures.answer _ c.in_err-listed.was) in
    record { answer = rw (p.1, p.2) both.0; written = both.1 }

pub returns-in-None : goal.returns-in-None
unfolding reply_told
returns-in-None c =
    let e = options_by_item c.args.text.now c.args.place _ in
    let both = said_beyond option_counts option_bytes _ _ _ (replied_beyond _ e _ c.list_at.ensures.answer _ c.in_ok-listed.was c.in-None.is) in
    record { answer = both.0; written = both.1 }

pub copy_option-requires : goal.copy_option-requires
copy_option-requires c = item_room c.args.text.now c.args.store.now c.in-Some.x.start c.in_ok-listed.ensures.room

pub returns-in-Some : goal.returns-in-Some
unfolding reply_told
returns-in-Some c =
    let e = options_by_item c.args.text.now c.args.place _ in
    let both = said_item option_counts option_bytes _ _ _ _ (replied_item _ e _ c.list_at.ensures.answer _ c.in_ok-listed.was _ c.in-Some.is)
    (ap option_told c.copy_option.ensures.kind ∙ option_told_lem _) (omega (arith, option_short c.args.text.now c.in-Some.x.start, c.in_ok-listed.ensures.room)) c.copy_option.ensures.written in
    record { answer = both.0; written = both.1 }
