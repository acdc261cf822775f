-- Keys that are few are those of a table, which has room for more.
use Rattle.std.proofs.Common.{◌≡◌, arith, ℕ, Bool, true, false, List, length, Option, Some, Ok, Err, refl, if◌then◌else◌}
use Rattle.std.specs.Prelude.{◌≤◌, nat_lt, option_map}
use Rattle.std.proofs.lemmas.Bool.{ltb-false, le-ltb}
use Rattle.cose_map.specs.Key.Value.{KeyValue}
use Rattle.cose_map.specs.KeyTable.{table_of, too_many_keys}
use Rattle.cose_map.specs.Map.Read.{Read}
use Rattle.cose_c.specs.declared.key_set.CoseKeySet.{CoseKeySet}
use Rattle.cose_c.specs.KeySet.{key_set_numbers}
use Rattle.cose_c.specs.Table.{keys_read}

few_fit : (more : Bool) (usable found : List KeyValue) → nat_lt 8 (length usable) ≡ more →
    (if more then too_many_keys else Ok usable) ≡ Ok found → table_of 64 (Ok usable) ≡ Ok found
few_fit true usable found is same = absurd cc
few_fit false usable found is same =
    let le : length usable ≤ 8 = ltb-false 8 (length usable) is in
    rw (le-ltb 64 (length usable) (omega (arith, le))) same

pub few_are_all : (read : Read (List KeyValue)) (found : List KeyValue) → table_of 8 read ≡ Ok found → table_of 64 read ≡ Ok found
few_are_all (Ok usable) found is = few_fit (nat_lt 8 (length usable)) usable found refl is
few_are_all (Err refusal) found is = absurd cc

abbrev pub counted_as : ℕ → CoseKeySet
counted_as count = record { status = 7; reason = 0; place = 0; usable = count }

module _ (read : Read (List KeyValue)) (count : ℕ) where
  numbers_by : (few : Read (List KeyValue)) → table_of 8 read ≡ few → Some count ≡ option_map length (keys_read few) →
      counted_as count ≡ key_set_numbers (table_of 64 read)
  numbers_by (Ok found) is counts = let same : count ≡ length found = cc in rw (few_are_all read found is, same) refl
  numbers_by (Err refusal) is counts = absurd cc

  keys_by : (few : Read (List KeyValue)) (kept : Option (List KeyValue)) → table_of 8 read ≡ few → Some count ≡ option_map length (keys_read few) →
      ((found : List KeyValue) → table_of 8 read ≡ Ok found → kept ≡ Some found) → kept ≡ keys_read (table_of 64 read)
  keys_by (Ok found) kept is counts has = rw (few_are_all read found is, has found is) refl
  keys_by (Err refusal) kept is counts has = absurd cc

  -- Where few were read, their number and themselves are those of the whole table.
  pub numbers_few : Some count ≡ option_map length (keys_read (table_of 8 read)) → counted_as count ≡ key_set_numbers (table_of 64 read)
  numbers_few counts = numbers_by (table_of 8 read) refl counts

  pub keys_few : (kept : Option (List KeyValue)) → Some count ≡ option_map length (keys_read (table_of 8 read)) →
      ((found : List KeyValue) → table_of 8 read ≡ Ok found → kept ≡ Some found) → kept ≡ keys_read (table_of 64 read)
  keys_few kept counts has = keys_by (table_of 8 read) kept refl counts has
