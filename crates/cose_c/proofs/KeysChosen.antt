-- The first fitting key of a list: step by step, and it is the key that is chosen.
use Rattle.std.proofs.Common.{◌≡◌, ℕ, Bool, true, false, List, [], ◌∷◌, Option, Some, None, Result, Ok, Err, refl, sym, ap, ◌∙◌, if◌then◌else◌}
use Rattle.std.specs.Prelude.{ℤ, ◌&&◌, filter, filter_map, is_some, option_and_then}
use Rattle.std.specs.List.{cons_option}
use Rattle.cose_head.specs.Placed.{Placed}
use Rattle.cose_head.specs.declared.reason.Reason.TheVariants.{UnknownAlg}
use Rattle.cose_map.specs.Choice.{◌>>=◌, Question, algorithm_used, chosen, fits, fitting, integer_in_label, is_answerable, only_one}
use Rattle.cose_map.specs.Key.Value.{KeyValue}
use Rattle.cose_map.specs.KeySet.{items_in, keys_of, usable}
use Rattle.cose_map.specs.Label.{LabelValue}
use Rattle.cose_map.specs.Map.Read.{Read}
use Rattle.cose_head.specs.Whole.{whole}
use Rattle.cose_c.specs.declared.numbers.CoseStatus.{CoseStatus}
use Rattle.cose_c.specs.KeyChoice.{first_fitting, fitting_in, key_chosen}
use Rattle.cose_c.specs.Permitted.{PermissionValue, is_fitting, permits, permitted_in, permitted_of}
use Rattle.cose_c.proofs.KeySets.{a_set_is_whole, keys_of_set}

-- A key that fits is the one that is found.
from_fits : (b : Bool) (k : KeyValue) (n : ℤ) (found : KeyValue × ℤ) → (if b then Some (k, n) else None) ≡ Some found → found.0 ≡ k
from_fits true k n found e = cc
from_fits false k n found e = absurd cc

from_number : (b : ℤ → Bool) (k : KeyValue) (number : Option ℤ) (found : KeyValue × ℤ) → (number >>= (λ n. if b n then Some (k, n) else None)) ≡ Some found → found.0 ≡ k
from_number b k (Some n) found e = from_fits (b n) k n found e
from_number b k None found e = absurd cc

from_label : (b : ℤ → Bool) (k : KeyValue) (label : Option LabelValue) (found : KeyValue × ℤ) →
    (label >>= (λ alg. integer_in_label alg >>= (λ n. if b n then Some (k, n) else None))) ≡ Some found → found.0 ≡ k
from_label b k (Some alg) found e = from_number b k (integer_in_label alg) found e
from_label b k None found e = absurd cc

fitting_itself : (q : Question) (k : KeyValue) (found : KeyValue × ℤ) → fitting q k ≡ Some found → found.0 ≡ k
fitting_itself q k found e = from_label (fits q k) k (algorithm_used q.protected_alg q.unprotected_alg k.alg) found e

module _ (q : Question) (p : PermissionValue) where
  by_test : (b : Bool) (item : Placed) (others : List Placed) → is_fitting q p (usable item) ≡ b → first_fitting q p (item ∷ others) ≡ (if b then Some item else first_fitting q p others)
  by_test b item others is = ap (λ t. if t then Some item else first_fitting q p others) is

  pub this_one : (item : Placed) (items others : List Placed) (all : Option Placed) → items ≡ item ∷ others → is_fitting q p (usable item) ≡ true → first_fitting q p items ≡ all → Some item ≡ all
  this_one item items others all is good so_far = sym (by_test true item others good) ∙ ap (first_fitting q p) (sym is) ∙ so_far

  pub a_later_one : (item : Placed) (items others : List Placed) (all : Option Placed) → items ≡ item ∷ others → is_fitting q p (usable item) ≡ false → first_fitting q p items ≡ all → first_fitting q p others ≡ all
  a_later_one item items others all is bad so_far = sym (by_test false item others bad) ∙ ap (first_fitting q p) (sym is) ∙ so_far

  pub no_more : (items : List Placed) (all : Option Placed) → items ≡ [] → first_fitting q p items ≡ all → None ≡ all
  no_more items all is so_far = ap (first_fitting q p) (sym is) ∙ so_far

  -- What fits among the usable keys of an item and of others, by what fits among those of the others alone.
  module _ (item : Placed) (keys : List KeyValue) (later : Option Placed) (tail : (one : KeyValue × ℤ) (rest : List (KeyValue × ℤ)) → filter_map (fitting q) (filter (permits p) keys) ≡ one ∷ rest → option_and_then usable later ≡ Some one.0) where
    by_fit : (k : KeyValue) (f : Option (KeyValue × ℤ)) (one : KeyValue × ℤ) (rest : List (KeyValue × ℤ)) → usable item ≡ Some k → ((found : KeyValue × ℤ) → f ≡ Some found → found.0 ≡ k) →
        cons_option f (filter_map (fitting q) (filter (permits p) keys)) ≡ one ∷ rest → option_and_then usable (if is_some f then Some item else later) ≡ Some one.0
    by_fit k (Some m) one rest is itself e =
        let same : m ≡ one = cc in
        is ∙ ap (λ (x : KeyValue). Some x) (sym (itself m refl) ∙ ap (λ (x : KeyValue × ℤ). x.0) same)
    by_fit k None one rest is itself e = tail one rest e

    by_permit : (b : Bool) (k : KeyValue) (one : KeyValue × ℤ) (rest : List (KeyValue × ℤ)) → usable item ≡ Some k →
        filter_map (fitting q) (if b then k ∷ filter (permits p) keys else filter (permits p) keys) ≡ one ∷ rest → option_and_then usable (if b && is_some (fitting q k) then Some item else later) ≡ Some one.0
    by_permit true k one rest is e = by_fit k (fitting q k) one rest is (fitting_itself q k) e
    by_permit false k one rest is e = tail one rest e

    by_usable : (o : Option KeyValue) (one : KeyValue × ℤ) (rest : List (KeyValue × ℤ)) → usable item ≡ o →
        filter_map (fitting q) (filter (permits p) (cons_option o keys)) ≡ one ∷ rest → option_and_then usable (if is_fitting q p o then Some item else later) ≡ Some one.0
    by_usable (Some k) one rest is e = by_permit (permits p k) k one rest is e
    by_usable None one rest is e = tail one rest e

  first_of_fitting : (items : List Placed) (one : KeyValue × ℤ) (rest : List (KeyValue × ℤ)) → filter_map (fitting q) (filter (permits p) (filter_map usable items)) ≡ one ∷ rest → option_and_then usable (first_fitting q p items) ≡ Some one.0
  first_of_fitting [] one rest e = absurd cc
  first_of_fitting (item ∷ others) one rest e = by_usable item (filter_map usable others) (first_fitting q p others) (first_of_fitting others) (usable item) one rest refl e

  alone : (fits : List (KeyValue × ℤ)) (found : KeyValue × ℤ) → only_one q fits ≡ Ok found → fits ≡ found ∷ []
  alone [] found e = absurd cc
  alone (one ∷ []) found e = cc
  alone (one ∷ (another ∷ others)) found e = absurd cc

  by_answerable : (b : Bool) (items : List Placed) (found : KeyValue × ℤ) → (if b then only_one q (filter_map (fitting q) (filter (permits p) (filter_map usable items))) else Err UnknownAlg) ≡ Ok found →
      option_and_then usable (first_fitting q p items) ≡ Some found.0
  by_answerable true items found e = first_of_fitting items found [] (alone (filter_map (fitting q) (filter (permits p) (filter_map usable items))) found e)
  by_answerable false items found e = absurd cc

  chosen_among : (items : List Placed) (found : KeyValue × ℤ) → chosen q (filter (permits p) (filter_map usable items)) ≡ Ok found → option_and_then usable (first_fitting q p items) ≡ Some found.0
  unfolding chosen
  chosen_among items found e = by_answerable (is_answerable q.kind q.protected_alg q.unprotected_alg) items found e

  in_set : (bytes : List ℕ) (found : KeyValue × ℤ) (ks : List KeyValue) (set : Read Placed) → keys_of bytes ≡ Ok ks → whole 8 (record { bytes = bytes; place = 0 }) ≡ set → chosen q (permitted_of p ks) ≡ Ok found →
      option_and_then usable (fitting_in q p set) ≡ Some found.0
  in_set bytes found ks (Ok set) is whole_is e = chosen_among (items_in set) found (ap (λ (l : List KeyValue). chosen q (permitted_of p l)) (sym (keys_of_set bytes ks set is whole_is)) ∙ e)
  in_set bytes found ks (Err refusal) is whole_is e = absurd (a_set_is_whole bytes ks refusal is whole_is)

  by_keys : (bytes : List ℕ) (found : KeyValue × ℤ) (keys : List KeyValue) (read : Read (List KeyValue)) → keys_of bytes ≡ read → permitted_in p read ≡ Ok keys → chosen q keys ≡ Ok found →
      option_and_then usable (fitting_in q p (whole 8 (record { bytes = bytes; place = 0 }))) ≡ Some found.0
  by_keys bytes found keys (Ok ks) is permitted e =
      let same : permitted_of p ks ≡ keys = cc in
      in_set bytes found ks _ is refl (ap (chosen q) same ∙ e)
  by_keys bytes found keys (Err refusal) is permitted e = absurd cc

  -- The key of the first item whose key is permitted and fits is the one that is chosen.
  pub chosen_is_first : (bytes : List ℕ) (found : KeyValue × ℤ) (keys : List KeyValue) → permitted_in p (keys_of bytes) ≡ Ok keys → chosen q keys ≡ Ok found →
      option_and_then usable (fitting_in q p (whole 8 (record { bytes = bytes; place = 0 }))) ≡ Some found.0
  chosen_is_first bytes found keys permitted e = by_keys bytes found keys (keys_of bytes) refl permitted e

  pub chosen_of : (asked : Result Question CoseStatus) (bytes : List ℕ) (found : KeyValue × ℤ) (keys : List KeyValue) → asked ≡ Ok q → permitted_in p (keys_of bytes) ≡ Ok keys → chosen q keys ≡ Ok found →
      option_and_then usable (key_chosen asked p bytes) ≡ Some found.0
  chosen_of asked bytes found keys is permitted e = rw is (chosen_is_first bytes found keys permitted e)
