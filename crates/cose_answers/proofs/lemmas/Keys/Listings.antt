-- The items of a key set, and their lines.
use Rattle.std.proofs.Common.{◌≡◌, ◌∙◌, ℕ, Bool, true, false, List, [], ◌∷◌, ◌++◌, length, map, Option, Ok, Err, ap, append_assoc, sym, subst, refl}
use Rattle.std.specs.Prelude.{IfOk, Result, nat_lt, ◌==◌, if◌then◌else◌}
use Rattle.std.specs.List.{concat}
use Rattle.std.proofs.lemmas.List.{append-nil}
use Rattle.cose_head.specs.declared.reason.Reason.TheVariants.{BadKeySet}
use Rattle.cose_head.specs.declared.refusal.Refusal.{Refusal}
use Rattle.cose_head.specs.Placed.{Placed}
use Rattle.cose_head.specs.Whole.{whole}
use Rattle.cose_map.specs.Key.Value.{KeyValue}
use Rattle.cose_map.specs.KeySet.{items_in, keys_of, usable_keys}
use Rattle.cose_map.specs.Map.Read.{Read, refuse, ◌>>=◌}
use Rattle.cose_map.specs.Choice.{Question}
use Rattle.cose_answers.specs.KeysListed.{item_line}

module _ {E : Type 0} (asked : Option Question) (reply : Result ℕ E) (before after : List ℕ) where
  -- The lines of equal items, and their number.
  pub all_listed : (told wanted : List Placed) → wanted ≡ told → IfOk reply (λ _. after ≡ before ++ concat (map (item_line asked) told)) →
      IfOk reply (λ _. after ≡ before ++ concat (map (item_line asked) wanted))
  all_listed told wanted e lines = subst (λ (items : List Placed). IfOk reply (λ _. after ≡ before ++ concat (map (item_line asked) items))) (sym e) lines

  pub one_listed : (item : Placed) (wanted : List Placed) → wanted ≡ item ∷ [] → IfOk reply (λ _. after ≡ before ++ item_line asked item) →
      IfOk reply (λ _. after ≡ before ++ concat (map (item_line asked) wanted))
  one_listed item wanted e line =
      let one : concat (map (item_line asked) wanted) ≡ item_line asked item = rw e (append-nil (item_line asked item)) in
      subst (λ (text : List ℕ). IfOk reply (λ _. after ≡ before ++ text)) (sym one) line

pub all_counted : {E : Type 0} (reply : Result ℕ E) (told wanted : List Placed) → wanted ≡ told → IfOk reply (λ count. count ≡ length told) → IfOk reply (λ count. count ≡ length wanted)
all_counted reply told wanted e counted = subst (λ (items : List Placed). IfOk reply (λ count. count ≡ length items)) (sym e) counted

pub one_counted : {E : Type 0} (reply : Result ℕ E) (item : Placed) (wanted : List Placed) → wanted ≡ item ∷ [] → IfOk reply (λ count. count ≡ 1) → IfOk reply (λ count. count ≡ length wanted)
one_counted reply item wanted e counted = subst (λ (n : ℕ). IfOk reply (λ count. count ≡ n)) (sym (ap (λ (items : List Placed). length items) e)) counted

pub none_listed : (asked : Option Question) (before : List ℕ) (wanted : List Placed) → wanted ≡ [] → before ≡ before ++ concat (map (item_line asked) wanted)
none_listed asked before wanted e = rw e (sym (append-nil before))

pub none_counted : (wanted : List Placed) → wanted ≡ [] → 0 ≡ length wanted
none_counted wanted e = rw e refl

-- Two parts of a line, one after the other.
pub two_more : (before middle after first second : List ℕ) → middle ≡ before ++ first → after ≡ middle ++ second → after ≡ before ++ (first ++ second)
two_more before middle after first second m a = a ∙ ap (λ (text : List ℕ). text ++ second) m ∙ append_assoc before first second

-- A set that is read is one item.
not_kept : (long : Bool) (p : Placed) (found : Read Placed) (next : Placed → Read (List KeyValue)) (refusal : Refusal) (set : List KeyValue) → found ≡ Err refusal →
    (if long then refuse BadKeySet p else (found >>= next)) ≡ Ok set → ⊥
not_kept true p found next refusal set e is = cc
not_kept false p found next refusal set e is =
    let none : Err refusal ≡ Ok set = rw e at is in
    cc

pub no_item : (bytes : List ℕ) (refusal : Refusal) (set : List KeyValue) → whole 8 (record { bytes = bytes; place = 0 }) ≡ Err refusal → keys_of bytes ≡ Ok set → ⊥
unfolding keys_of
no_item bytes refusal set e is =
    not_kept (nat_lt 65535 (length bytes)) (record { bytes = bytes; place = 0 }) (whole 8 (record { bytes = bytes; place = 0 }))
    (λ item. if length (items_in item) == 0 then refuse BadKeySet item else Ok (usable_keys item)) refusal set e is
