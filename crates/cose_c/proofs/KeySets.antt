-- The items of a key set that was read.
use Rattle.std.proofs.Common.{◌≡◌, ℕ, Bool, true, false, List, length, Ok, Err, if◌then◌else◌}
use Rattle.std.specs.Prelude.{nat_lt, ◌==◌}
use Rattle.cose_head.specs.declared.reason.Reason.TheVariants.{BadKeySet}
use Rattle.cose_head.specs.declared.refusal.Refusal.{Refusal}
use Rattle.cose_head.specs.Placed.{Placed}
use Rattle.cose_head.specs.Whole.{whole}
use Rattle.cose_map.specs.Key.Value.{KeyValue}
use Rattle.cose_map.specs.KeySet.{items_in, keys_of, usable_keys}
use Rattle.cose_map.specs.Map.Read.{Read, refuse, ◌>>=◌}

abbrev read_as : Placed → Read Placed
read_as s = Ok s

by_items : (b : Bool) (s : Placed) (keys : List KeyValue) (p : Placed) → (if b then refuse BadKeySet s else Ok (usable_keys s)) ≡ Ok keys → read_as s ≡ read_as p → keys ≡ usable_keys p
by_items true s keys p e is = absurd cc
by_items false s keys p e is = cc

by_size : (b : Bool) (set : Placed) (read : Read Placed) (keys : List KeyValue) (p : Placed) →
    (if b then refuse BadKeySet set else (read >>= (λ s. if length (items_in s) == 0 then refuse BadKeySet s else Ok (usable_keys s)))) ≡ Ok keys → read ≡ Ok p → keys ≡ usable_keys p
by_size true set read keys p e is = absurd cc
by_size false set (Ok s) keys p e is = by_items (length (items_in s) == 0) s keys p e is
by_size false set (Err refusal) keys p e is = absurd cc

pub keys_of_set : (bytes : List ℕ) (keys : List KeyValue) (p : Placed) → keys_of bytes ≡ Ok keys → whole 8 (record { bytes = bytes; place = 0 }) ≡ Ok p → keys ≡ usable_keys p
unfolding keys_of
keys_of_set bytes keys p e is = by_size (nat_lt 65535 (length bytes)) (record { bytes = bytes; place = 0 }) (whole 8 (record { bytes = bytes; place = 0 })) keys p e is

refused_whole : (b : Bool) (set : Placed) (read : Read Placed) (keys : List KeyValue) (refusal : Refusal) →
    (if b then refuse BadKeySet set else (read >>= (λ s. if length (items_in s) == 0 then refuse BadKeySet s else Ok (usable_keys s)))) ≡ Ok keys → read ≡ Err refusal → ⊥
refused_whole true set read keys refusal e is = absurd cc
refused_whole false set (Ok s) keys refusal e is = absurd cc
refused_whole false set (Err other) keys refusal e is = absurd cc

pub a_set_is_whole : (bytes : List ℕ) (keys : List KeyValue) (refusal : Refusal) → keys_of bytes ≡ Ok keys → whole 8 (record { bytes = bytes; place = 0 }) ≡ Err refusal → ⊥
unfolding keys_of
a_set_is_whole bytes keys refusal e is = refused_whole (nat_lt 65535 (length bytes)) (record { bytes = bytes; place = 0 }) (whole 8 (record { bytes = bytes; place = 0 })) keys refusal e is
