-- What is read again of bytes in which there is no fault.
use Rattle.std.proofs.Common.{◌≡◌, ◌∙◌, ℕ, Bool, true, false, List, [], ◌∷◌, ◌++◌, length, Ok, Err, refl, sym, ap, append-nil, append_assoc}
use Rattle.std.specs.Prelude.{if◌then◌else◌, ◌==◌}
use Rattle.cose_head.specs.declared.reason.Reason.TheVariants.{NotMap}
use Rattle.cose_head.specs.Placed.{Placed, look, is_a_map, children_of}
use Rattle.cose_head.specs.Whole.{whole}
use Rattle.cose_map.specs.Bucket.{bucket_of}
use Rattle.cose_map.specs.Bucket.Form.{bucket_table}
use Rattle.cose_map.specs.Map.Form.{Table}
use Rattle.cose_map.specs.Map.Pairs.{Pair, pairs_of}
use Rattle.cose_map.specs.Map.Read.{Read, ◌>>=◌, pair_after, check_pairs, check_map, read_map, refuse}
use Rattle.cose_map.proofs.lemmas.Map.Read.{checked_named}

same_pairs : (x y : List Pair) → ◌≡◌ {A = Read (List Pair)} (Ok x) (Ok y) → x ≡ y
same_pairs x y e = cc

-- the pairs of a map that has no fault are its children two by two
checked_all : (table : Table) (earlier : List Pair) (rest : List Placed) (pairs : List Pair) → check_pairs table earlier rest ≡ Ok pairs → earlier ++ pairs_of rest ≡ pairs
unfolding check_pairs pairs_of
checked_all table earlier [] pairs e = append-nil earlier ∙ same_pairs earlier pairs e
checked_all table earlier (label ∷ []) pairs e = append-nil earlier ∙ same_pairs earlier pairs e
checked_all table earlier (label ∷ value ∷ others) pairs e = at (pair_after table earlier label value) refl e (λ pair same. checked_all table (earlier ++ pair ∷ []) others pairs same)
  where
    at : (next : Read Pair) → pair_after table earlier label value ≡ next → (next >>= λ pair. check_pairs table (earlier ++ pair ∷ []) others) ≡ Ok pairs →
        ((pair : Pair) → check_pairs table (earlier ++ pair ∷ []) others ≡ Ok pairs → (earlier ++ pair ∷ []) ++ pairs_of others ≡ pairs) →
        earlier ++ pairs_of (label ∷ value ∷ others) ≡ pairs
    at (Err refusal) is same onward = cc
    at (Ok pair) is same onward = ap (λ l. earlier ++ l) (checked_named table earlier label value pair others is) ∙ sym (append_assoc earlier (pair ∷ []) (pairs_of others)) ∙ onward pair same

checked_map : (table : Table) (item : Placed) (pairs : List Pair) → check_map table item ≡ Ok pairs → pairs_of (children_of item) ≡ pairs
checked_map table item pairs e = at (is_a_map (look item)) e
  where
    at : (is_map : Bool) → (if is_map then check_pairs table [] (children_of item) else refuse NotMap item) ≡ Ok pairs → pairs_of (children_of item) ≡ pairs
    at true same = checked_all table [] (children_of item) pairs same
    at false same = cc

read_again : (table : Table) (depth : ℕ) (p : Placed) (pairs : List Pair) (item : Placed) → read_map table depth p ≡ Ok pairs → Ok item ≡ whole depth p → pairs_of (children_of item) ≡ pairs
read_again table depth p pairs item e is = checked_map table item pairs (ap (λ (found : Read Placed). found >>= check_map table) is ∙ e)

-- where there are bytes, and where there are none
pub bucket_again : (depth : ℕ) (p : Placed) (pairs : List Pair) (item : Placed) (items : List Placed) → (length p.bytes == 0) ≡ false → items ≡ children_of item → Ok item ≡ whole depth p → bucket_of depth p ≡ Ok pairs → pairs_of items ≡ pairs
unfolding bucket_of
bucket_again depth p pairs item items some its is e = ap pairs_of its ∙ at (length p.bytes == 0) some e
  where
    at : (none : Bool) → none ≡ false → (if none then Ok [] else read_map bucket_table depth p) ≡ Ok pairs → pairs_of (children_of item) ≡ pairs
    at true same found = cc
    at false same found = read_again bucket_table depth p pairs item found is

pub none_again : (depth : ℕ) (p : Placed) (pairs : List Pair) (items : List Placed) → (length p.bytes == 0) ≡ true → items ≡ [] → bucket_of depth p ≡ Ok pairs → pairs_of items ≡ pairs
unfolding bucket_of pairs_of
none_again depth p pairs items none its e = ap pairs_of its ∙ at (length p.bytes == 0) none e
  where
    at : (empty : Bool) → empty ≡ true → (if empty then Ok [] else read_map bucket_table depth p) ≡ Ok pairs → [] ≡ pairs
    at true same found = same_pairs [] pairs found
    at false same found = cc
