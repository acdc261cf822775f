-- Tables that are read under terms, on examples, by computing.
use Rattle.std.specs.Prelude.{ℕ, pos, List, [], ◌∷◌, replicate, Err, refl, ◌≡◌}
use Rattle.std.specs.Borrow.{Bor}
use Rattle.cose_head.specs.Head.{bare_head}
use Rattle.cose_head.specs.Placed.{children_of, head_of_item, items_from, look}
use Rattle.cose_head.specs.Reading.{head, read}
use Rattle.cose_map.specs.Key.{key_of}
use Rattle.cose_map.specs.Key.Form.{key_table}
use Rattle.cose_map.specs.Key.Material.{material_of}
use Rattle.cose_map.specs.KeySet.{keys_of}
use Rattle.cose_map.specs.Map.Read.{check_pairs}
use Rattle.cose_c.specs.declared.key_set.CoseKeySet.{CoseKeySet}
use Rattle.cose_c.specs.declared.stated.CoseTerms.{CoseTerms}
use Rattle.cose_c.specs.Numbers.{plain_status}
use Rattle.cose_c.specs.TableUnder.{setting_left, setting_of_table, table_numbers}

abbrev bytes_at : List ℕ → Bor (List ℕ)
bytes_at bytes = record { ref_ptr = (0, 0); now = bytes }

-- Terms of this size, for messages of these kinds, with these flags.
abbrev terms : ℕ → ℕ → ℕ → List ℕ → CoseTerms
terms size kind permitted keys = record {
  size = size;
  kind = kind;
  permitted = permitted;
  least_secret = 0;
  payload_limit = 0;
  keys = bytes_at keys;
  aad = bytes_at [];
  algorithms = replicate 16 (pos 0);
  understood = replicate 16 (pos 0);
}

-- A secret for HMAC 256/256, and one for HMAC 256/64.
abbrev two_keys : List ℕ
two_keys = 130 ∷ 163 ∷ 1 ∷ 4 ∷ 3 ∷ 5 ∷ 32 ∷ 65 ∷ 97 ∷ 163 ∷ 1 ∷ 4 ∷ 3 ∷ 4 ∷ 32 ∷ 65 ∷ 98 ∷ []

abbrev taken : ℕ → CoseKeySet
taken count = record { status = 7; reason = 0; place = 0; usable = count }

-- By default a key for HMAC 256/64 isn't taken, and with the flag 1 it is.
one_taken : table_numbers (setting_of_table (terms 248 0 0 two_keys)) ≡ taken 1
unfolding keys_of key_of key_table material_of check_pairs children_of items_from look head_of_item bare_head read head
one_taken = refl

both_taken : table_numbers (setting_of_table (terms 248 0 1 two_keys)) ≡ taken 2
unfolding keys_of key_of key_table material_of check_pairs children_of items_from look head_of_item bare_head read head
both_taken = refl

-- A struct of another version, and a number that names no kind, are refused before the key set is.
other_version : table_numbers (setting_of_table (terms 247 0 0 two_keys)) ≡ record { status = 12; reason = 0; place = 0; usable = 0 }
other_version = refl

no_kind : table_numbers (setting_of_table (terms 248 16 0 [])) ≡ record { status = 12; reason = 0; place = 0; usable = 0 }
no_kind = refl

-- An empty array is no key set.
no_set : table_numbers (setting_of_table (terms 248 0 0 (128 ∷ []))) ≡ record { status = 4; reason = 31; place = 0; usable = 0 }
unfolding keys_of key_of key_table material_of check_pairs children_of items_from look head_of_item bare_head read head
no_set = refl

-- Such a table is closed.
closed : setting_left (setting_of_table (terms 248 0 0 (128 ∷ []))) ≡ Err (plain_status 10)
unfolding keys_of key_of key_table material_of check_pairs children_of items_from look head_of_item bare_head read head
closed = refl
