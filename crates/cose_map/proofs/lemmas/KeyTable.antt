-- A table holds what was read into it, where there is room.
use Rattle.std.proofs.Common.{◌≡◌, ℕ, ◌≤◌, ◌<◌, List, [], ◌∷◌, ◌++◌, length, Ok, refl, arith}
use Rattle.std.proofs.lemmas.Bool.{lt-ltb, le-ltb}
use Rattle.std.proofs.lemmas.List.{append-nil, length-append}
use Rattle.cose_map.specs.Key.Value.{KeyValue}
use Rattle.cose_map.specs.KeyTable.{table_of, too_many_keys}
use Rattle.cose_map.specs.Map.Read.{Read}

fits_table : (n : ℕ) (held : List KeyValue) → length held ≤ n → Ok held ≡ table_of n (Ok held)
fits_table n held fits = rw (le-ltb n (length held) fits) refl

fills_table : (n : ℕ) (all : List KeyValue) → n < length all → too_many_keys ≡ table_of n (Ok all)
fills_table n all more = rw (lt-ltb n (length all) more) refl

pub table_holds : (n : ℕ) (held : List KeyValue) (set : Read (List KeyValue)) → Ok (held ++ []) ≡ set → length held ≤ n → Ok held ≡ table_of n set
table_holds n held set whole fits = rw (← whole, append-nil held) (fits_table n held fits)

pub table_is_full : (n : ℕ) (held others : List KeyValue) (next : KeyValue) (set : Read (List KeyValue)) →
    Ok (held ++ next ∷ others) ≡ set → length held ≡ n → too_many_keys ≡ table_of n set
table_is_full n held others next set whole full =
    rw (← whole) (fills_table n (held ++ next ∷ others) (omega (arith, length-append held (next ∷ others), full)))
