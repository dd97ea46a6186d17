-- `option::copy_option` meets its contract.
-- Assumes nothing.
use mathlib.Core.Path.{◌∙◌, sym}
use Rattle.lists.specs.OptionLaws.{seen_plain, room_key, seen_flag, room_value, seen_value}
use Rattle.lists.proofs.option.copy_option.Goals as goal

pub returns-in_default : goal.returns-in_default
returns-in_default c =
    let both = seen_plain c.item_text-t.ensures.bytes c.requires (rw c.in_default.is at c.flag_start.ensures) c.copy_text.ensures in
    record { kind = both.0; written = both.1 }

pub copy_key-key-requires : goal.copy_key-key-requires
copy_key-key-requires c = (room_key c.item_text-t.ensures.bytes c.requires (rw c.in-Some.is at c.flag_start.ensures))

pub returns-in_default-emit_at : goal.returns-in_default-emit_at
returns-in_default-emit_at c =
    let f = rw c.in-Some.is at c.flag_start.ensures in
    let e = rw c.in_default-emit_at.is at c.emit_at.ensures in
    let both = seen_flag c.item_text-t.ensures.bytes c.requires f c.copy_key-key.ensures.put (sym c.copy_key-key.ensures.left ∙ e) in
    record { kind = both.0; written = both.1 }

pub copy_text-e-requires : goal.copy_text-e-requires
copy_text-e-requires c =
    let f = rw c.in-Some.is at c.flag_start.ensures in
    let e = rw c.in-Some-emit_at.is at c.emit_at.ensures in
    (room_value c.item_text-t.ensures.bytes c.requires f c.copy_key-key.ensures.put (sym c.copy_key-key.ensures.left ∙ e.0))

pub returns : goal.returns
returns c =
    let f = rw c.in-Some.is at c.flag_start.ensures in
    let e = rw c.in-Some-emit_at.is at c.emit_at.ensures in
    let both = seen_value c.item_text-t.ensures.bytes c.requires f c.copy_key-key.ensures.put (sym c.copy_key-key.ensures.left ∙ e.0)
    c.copy_text-e.ensures in
    record { kind = both.0; written = both.1 }
