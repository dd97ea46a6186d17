-- The numbers of the shipped words, by their lengths, each list computed by antt.
-- Assumes nothing.
use mathlib.Core.Path.{◌≡◌, refl}
use mathlib.Core.List.{[], ◌∷◌}
use Rattle.words.specs.Words.{aliases, names, shipped}
use Rattle.words.specs.Keys.{pack_from, pack, of_length, keys_of}

pub keys_1 : keys_of (of_length 1 shipped) ≡
    record { front = 0x7E; back = 0; command = 1 } ∷
    record { front = 0x72; back = 0; command = 2 } ∷
    record { front = 0x70; back = 0; command = 3 } ∷
    record { front = 0x73; back = 0; command = 4 } ∷
    record { front = 0x71; back = 0; command = 7 } ∷
    record { front = 0x77; back = 0; command = 22 } ∷
    record { front = 0x21; back = 0; command = 0 } ∷
    record { front = 0x26; back = 0; command = 1 } ∷
    []
unfolding aliases names shipped pack_from pack of_length keys_of
keys_1 = refl

pub keys_2 : keys_of (of_length 2 shipped) ≡
    record { front = 0x2626; back = 0; command = 1 } ∷
    record { front = 0x7E26; back = 0; command = 1 } ∷
    record { front = 0x6F6E; back = 0; command = 6 } ∷
    record { front = 0x7161; back = 0; command = 8 } ∷
    record { front = 0x7370; back = 0; command = 10 } ∷
    record { front = 0x7673; back = 0; command = 11 } ∷
    record { front = 0x7761; back = 0; command = 23 } ∷
    []
unfolding aliases names shipped pack_from pack of_length keys_of
keys_2 = refl

pub keys_3 : keys_of (of_length 3 shipped) ≡
    record { front = 0x636C6F; back = 0; command = 5 } ∷
    record { front = 0x726573; back = 0; command = 9 } ∷
    record { front = 0x767370; back = 0; command = 11 } ∷
    record { front = 0x766965; back = 0; command = 12 } ∷
    record { front = 0x686F72; back = 0; command = 24 } ∷
    record { front = 0x61626F; back = 0; command = 26 } ∷
    record { front = 0x62656C; back = 0; command = 27 } ∷
    record { front = 0x746162; back = 0; command = 13 } ∷
    []
unfolding aliases names shipped pack_from pack of_length keys_of
keys_3 = refl

pub keys_4 : keys_of (of_length 4 shipped) ≡
    record { front = 0x6F6E6C79; back = 0; command = 6 } ∷
    record { front = 0x71616C6C; back = 0; command = 8 } ∷
    record { front = 0x74616263; back = 0; command = 14 } ∷
    record { front = 0x74616265; back = 0; command = 15 } ∷
    record { front = 0x7461626D; back = 0; command = 16 } ∷
    record { front = 0x7461626E; back = 0; command = 17 } ∷
    record { front = 0x7461626F; back = 0; command = 18 } ∷
    record { front = 0x74616270; back = 0; command = 19 } ∷
    record { front = 0x7461624E; back = 0; command = 19 } ∷
    record { front = 0x74616272; back = 0; command = 20 } ∷
    record { front = 0x7461626C; back = 0; command = 21 } ∷
    record { front = 0x76657274; back = 0; command = 25 } ∷
    record { front = 0x72656164; back = 0; command = 2 } ∷
    record { front = 0x6F6E6C79; back = 0; command = 6 } ∷
    record { front = 0x71756974; back = 0; command = 7 } ∷
    record { front = 0x76696577; back = 0; command = 12 } ∷
    record { front = 0x77616C6C; back = 0; command = 23 } ∷
    []
unfolding aliases names shipped pack_from pack of_length keys_of
keys_4 = refl

pub keys_5 : keys_of (of_length 5 shipped) ≡
    record { front = 0x636C6F7365; back = 0; command = 5 } ∷
    record { front = 0x7175697461; back = 0; command = 8 } ∷
    record { front = 0x6C65667461; back = 0; command = 26 } ∷
    record { front = 0x7072696E74; back = 0; command = 3 } ∷
    record { front = 0x636C6F7365; back = 0; command = 5 } ∷
    record { front = 0x73706C6974; back = 0; command = 10 } ∷
    record { front = 0x7772697465; back = 0; command = 22 } ∷
    []
unfolding aliases names shipped pack_from pack of_length keys_of
keys_5 = refl

pub keys_6 : keys_of (of_length 6 shipped) ≡
    record { front = 0x7461626E6577; back = 0; command = 15 } ∷
    record { front = 0x746162666972; back = 0; command = 20 } ∷
    record { front = 0x726967687462; back = 0; command = 27 } ∷
    record { front = 0x726573697A65; back = 0; command = 9 } ∷
    record { front = 0x7673706C6974; back = 0; command = 11 } ∷
    []
unfolding aliases names shipped pack_from pack of_length keys_of
keys_6 = refl

pub keys_7 : keys_of (of_length 7 shipped) ≡
    record { front = 0x7461624E657874; back = 0; command = 19 } ∷
    record { front = 0x71756974616C6C; back = 0; command = 8 } ∷
    record { front = 0x74616265646974; back = 0; command = 15 } ∷
    record { front = 0x7461626D6F7665; back = 0; command = 16 } ∷
    record { front = 0x7461626E657874; back = 0; command = 17 } ∷
    record { front = 0x7461626F6E6C79; back = 0; command = 18 } ∷
    record { front = 0x7461626C617374; back = 0; command = 21 } ∷
    []
unfolding aliases names shipped pack_from pack of_length keys_of
keys_7 = refl

pub keys_8 : keys_of (of_length 8 shipped) ≡
    record { front = 0x746162636C6F7365; back = 0; command = 14 } ∷
    record { front = 0x7461626669727374; back = 0; command = 20 } ∷
    record { front = 0x766572746963616C; back = 0; command = 25 } ∷
    []
unfolding aliases names shipped pack_from pack of_length keys_of
keys_8 = refl

pub keys_9 : keys_of (of_length 9 shipped) ≡
    record { front = 0x746162726577696E; back = 0x64; command = 20 } ∷
    record { front = 0x6C65667461626F76; back = 0x65; command = 26 } ∷
    record { front = 0x61626F76656C6566; back = 0x74; command = 26 } ∷
    []
unfolding aliases names shipped pack_from pack of_length keys_of
keys_9 = refl

pub keys_10 : keys_of (of_length 10 shipped) ≡
    record { front = 0x726967687462656C; back = 0x6F77; command = 27 } ∷
    record { front = 0x7375627374697475; back = 0x7465; command = 4 } ∷
    record { front = 0x686F72697A6F6E74; back = 0x616C; command = 24 } ∷
    record { front = 0x62656C6F77726967; back = 0x6874; command = 27 } ∷
    []
unfolding aliases names shipped pack_from pack of_length keys_of
keys_10 = refl

pub keys_11 : keys_of (of_length 11 shipped) ≡
    record { front = 0x7461627072657669; back = 0x6F7573; command = 19 } ∷
    []
unfolding aliases names shipped pack_from pack of_length keys_of
keys_11 = refl
