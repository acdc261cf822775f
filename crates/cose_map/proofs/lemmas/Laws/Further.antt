-- The OKP key that is chosen is one of the list and fits, and no other one does. Of each key x is as long as its curve says.
use Rattle.std.proofs.Common.{◌≡◌, ◌∙◌, ℤ, pos, Bool, true, false, List, [], ◌∷◌, ◌++◌, length, Option, Some, None, Ok, Err, refl, sym, ap, subst, arith}
use Rattle.std.specs.Prelude.{◌&&◌, cond, filter_map, if◌then◌else◌, option_and_then}
use Rattle.std.specs.List.{AllByRecursion, Contains, cons_option, slice_get}
use Rattle.std.specs.Ordering.{int_eq}
use Rattle.cose_head.specs.declared.further.FurtherAlg.{FurtherAlg}
use Rattle.cose_head.specs.declared.kind.Kind.{Kind}
use Rattle.cose_head.specs.declared.kind.Kind.TheVariants.{Mac0, Sign1}
use Rattle.cose_head.specs.declared.reason.Reason.{Reason}
use Rattle.cose_head.specs.declared.reason.Reason.TheVariants.{UnknownKey}
use Rattle.cose_head.specs.Further.{public_key_length_of, takes_curve}
use Rattle.cose_head.specs.Placed.{Placed, bytes_in, integer_in, look}
use Rattle.cose_map.specs.Choice.{◌>>=◌, Question, algorithm_used, allows_algorithm, allows_kid, allows_operation, integer_in_label}
use Rattle.cose_map.specs.Choice.Further.{chosen, first_fitting, fits, fitting, further_of, further_with, is_answerable, only_one, place_of}
use Rattle.cose_map.specs.Key.Form.{key_table}
use Rattle.cose_map.specs.Key.Labels.{crv, d, kty, x}
use Rattle.cose_map.specs.Key.Material.{coordinate_in, member, private_part}
use Rattle.cose_map.specs.Key.Okp.{OkpValue, octet_key_pair, okp_by, okp_curve_in, okp_in, okp_of, okp_with}
use Rattle.cose_map.specs.KeySet.{items_in}
use Rattle.cose_map.specs.KeySet.Okp.{okp_keys_in, usable_okp, usable_okp_with}
use Rattle.cose_map.specs.Label.{LabelValue, number, words}
use Rattle.cose_map.specs.Laws.Further.{HasFullX}
use Rattle.cose_map.specs.Map.Pairs.{Pair, value_of}
use Rattle.cose_map.specs.Map.Read as maps
use Rattle.cose_map.specs.Map.Read.{Read, read_map, refuse}
use Rattle.cose_map.proofs.lemmas.Laws.Chosen.{found_at, none_besides}
use Rattle.cose_map.proofs.lemmas.Laws.Place.{placed}
use Rattle.cose_map.proofs.lemmas.Laws.Points.{full_x, read_by, same_value}

-- What is known of a key that is found: it is the one that was tried, it fits, and the algorithm is the one named.
record Found (q : Question) (own key : OkpValue) (alg : FurtherAlg) : Type 0 where
  same : own ≡ key
  fit : fits q key alg ≡ true
  named : further_with q key.alg ≡ Some alg

module _ (q : Question) where
  abbrev if_it_is : Bool → OkpValue → FurtherAlg → Option (OkpValue × FurtherAlg)
  if_it_is fit own alg = if fit then Some (own, alg) else None

  fits_if : (fit : Bool) (own key : OkpValue) (used alg : FurtherAlg) → fits q own used ≡ fit → further_with q own.alg ≡ Some used →
      if_it_is fit own used ≡ Some (key, alg) → Found q own key alg
  fits_if true own key used alg e named found =
      let same : ◌≡◌ {A = OkpValue × FurtherAlg} (own, used) (key, alg) = cc in
      record {
        same = ap (λ pair. pair.0) same;
        fit = subst (λ (pair : OkpValue × FurtherAlg). fits q pair.0 pair.1 ≡ true) same e;
        named = subst (λ (pair : OkpValue × FurtherAlg). further_with q pair.0.alg ≡ Some pair.1) same named;
      }
  fits_if false own key used alg e named found = absurd cc

  fits_used : (used : Option FurtherAlg) (own key : OkpValue) (alg : FurtherAlg) → further_with q own.alg ≡ used →
      (used >>= λ a. if_it_is (fits q own a) own a) ≡ Some (key, alg) → Found q own key alg
  fits_used None own key alg named found = absurd cc
  fits_used (Some used) own key alg named found = fits_if (fits q own used) own key used alg refl named found

  found_fits : (own key : OkpValue) (alg : FurtherAlg) → fitting q own ≡ Some (key, alg) → Found q own key alg
  found_fits own key alg found = fits_used (further_with q own.alg) own key alg refl found

  one_of : (found : List (OkpValue × FurtherAlg)) (key : OkpValue) (alg : FurtherAlg) → only_one q found ≡ Ok (key, alg) → found ≡ (key, alg) ∷ []
  one_of [] key alg e = absurd cc
  one_of (one ∷ []) key alg e = let same : one ≡ (key, alg) = cc in ap (λ o. o ∷ []) same
  one_of (one ∷ another ∷ others) key alg e = absurd cc

  answered : (answerable : Bool) (found : List (OkpValue × FurtherAlg)) (reason : Reason) (key : OkpValue) (alg : FurtherAlg) →
      (if answerable then only_one q found else Err reason) ≡ Ok (key, alg) → found ≡ (key, alg) ∷ []
  answered true found reason key alg e = one_of found key alg e
  answered false found reason key alg e = absurd cc

  only_fitting : (keys : List OkpValue) (key : OkpValue) (alg : FurtherAlg) → chosen q keys ≡ Ok (key, alg) → filter_map (fitting q) keys ≡ (key, alg) ∷ []
  unfolding chosen
  only_fitting keys key alg e = answered (is_answerable q.kind q.protected_alg q.unprotected_alg) (filter_map (fitting q) keys) _ key alg e

-- What holds of each key that is found holds of the one that is chosen.
of_found : (q : Question) (keys : List OkpValue) (key : OkpValue) (alg : FurtherAlg) (Fact : Type 0) → chosen q keys ≡ Ok (key, alg) →
    ((own : OkpValue) → Contains keys own → Found q own key alg → Fact) → Fact
of_found q keys key alg Fact e each = found_at (fitting q) Fact keys (key, alg) (only_fitting q keys key alg e)
    (λ own among found. each own among (found_fits q own key alg found))

pub okp_key_among : (q : Question) (keys : List OkpValue) (key : OkpValue) (alg : FurtherAlg) → chosen q keys ≡ Ok (key, alg) → Contains keys key
okp_key_among q keys key alg e = of_found q keys key alg (Contains keys key) e (λ own among found. subst (Contains keys) found.same among)

pub okp_key_fits : (q : Question) (keys : List OkpValue) (key : OkpValue) (alg : FurtherAlg) → chosen q keys ≡ Ok (key, alg) → fits q key alg ≡ true
okp_key_fits q keys key alg e = of_found q keys key alg (fits q key alg ≡ true) e (λ own among found. found.fit)

pub further_named : (q : Question) (keys : List OkpValue) (key : OkpValue) (alg : FurtherAlg) → chosen q keys ≡ Ok (key, alg) → further_with q key.alg ≡ Some alg
further_named q keys key alg e = of_found q keys key alg (further_with q key.alg ≡ Some alg) e (λ own among found. found.named)

first_of_three : (a b c : Bool) → (a && b && c) ≡ true → a ≡ true
first_of_three true b c e = refl
first_of_three false b c e = absurd cc

pub further_takes_curve : (q : Question) (keys : List OkpValue) (key : OkpValue) (alg : FurtherAlg) → chosen q keys ≡ Ok (key, alg) → takes_curve alg key.curve ≡ true
further_takes_curve q keys key alg e =
    first_of_three (takes_curve alg key.curve) (allows_operation key.operations q.operation) (allows_kid key.kid q.kid) (okp_key_fits q keys key alg e)

no_mac : (allowed : Bool) (alg : FurtherAlg) → (if allowed then None else None) ≡ Some alg → Mac0 ≡ Sign1
no_mac true alg e = absurd cc
no_mac false alg e = absurd cc

signed_with : (kind : Kind) (label own : Option LabelValue) (alg : FurtherAlg) →
    (label >>= λ l. integer_in_label l >>= λ n. if allows_algorithm own (number n) then further_of kind n else None) ≡ Some alg → kind ≡ Sign1
signed_with Sign1 label own alg e = refl
signed_with Mac0 None own alg e = absurd cc
signed_with Mac0 (Some (words name)) own alg e = absurd cc
signed_with Mac0 (Some (number n)) own alg e = no_mac (allows_algorithm own (number n)) alg e

pub further_signed : (q : Question) (keys : List OkpValue) (key : OkpValue) (alg : FurtherAlg) → chosen q keys ≡ Ok (key, alg) → q.kind ≡ Sign1
further_signed q keys key alg e = signed_with q.kind (algorithm_used q.protected_alg q.unprotected_alg key.alg) key.alg alg (further_named q keys key alg e)

pub no_other_okp_key_fits : (q : Question) (before after : List OkpValue) (key : OkpValue) (alg : FurtherAlg) → chosen q (before ++ key ∷ after) ≡ Ok (key, alg) →
    AllByRecursion (λ other. fitting q other ≡ None) (before ++ after)
no_other_okp_key_fits q before after key alg e =
    let only = only_fitting q (before ++ key ∷ after) key alg e in
    found_at (fitting q) _ (before ++ key ∷ after) (key, alg) only
    (λ own among found. none_besides (fitting q) before after key (key, alg) (key, alg) (sym (ap (fitting q) (found_fits q own key alg found).same) ∙ found) only)

pub okp_key_stands_there : (q : Question) (keys : List OkpValue) (key : OkpValue) (alg : FurtherAlg) → chosen q keys ≡ Ok (key, alg) →
    option_and_then (slice_get keys) (place_of q keys) ≡ Some key
okp_key_stands_there q keys key alg e =
    let p = placed (fitting q) 0 keys (key, alg) (only_fitting q keys key alg e) in
    let first : first_fitting q 0 keys ≡ Some p.at = p.first ∙ ap Some (omega arith) in
    rw (e, first) (p.there ∙ ap Some (found_fits q p.element key alg p.found).same)

pub no_place_of_no_okp_key : (q : Question) (keys : List OkpValue) (reason : Reason) → chosen q keys ≡ Err reason → place_of q keys ≡ None
no_place_of_no_okp_key q keys reason e = rw e refl

-- ---- the length of x

module _ (key : Placed) (pairs : List Pair) where
  pair_full : (found : OkpValue) → octet_key_pair key pairs ≡ Ok found → HasFullX found
  pair_full found e =
      let (curve_value, a, at_curve) = read_by (member key pairs crv) _ found e in
      let (curve, b, at_x) = read_by (okp_curve_in key curve_value (integer_in (look curve_value))) _ found at_curve in
      let (x_value, c, past_x) = read_by (member key pairs x) _ found at_x in
      let (x_bytes, has_x, at_d) = read_by (coordinate_in (public_key_length_of curve) x_value (bytes_in (look x_value))) _ found past_x in
      let (unused, g, done) = read_by (private_part (value_of d pairs)) (λ unused. Ok (okp_with pairs curve x_bytes)) found at_d in
      let is : okp_with pairs curve x_bytes ≡ found = same_value done in
      subst HasFullX is (full_x (public_key_length_of curve) x_value (bytes_in (look x_value)) x_bytes has_x)

  by_type : (type : Option ℤ) (found : OkpValue) → okp_in key pairs type ≡ Ok found → HasFullX found
  by_type None found e = absurd cc
  by_type (Some z) found e = go (int_eq z (pos 1)) e
    where
      go : (is_okp : Bool) → cond is_okp (octet_key_pair key pairs) (refuse UnknownKey key) ≡ Ok found → HasFullX found
      go true read = pair_full found read
      go false read = absurd cc

  by_full : (found : OkpValue) → okp_by key pairs ≡ Ok found → HasFullX found
  unfolding okp_by
  by_full found e =
      let (value, a, read) = read_by (member key pairs kty) (λ value. okp_in key pairs (integer_in (look value))) found e in
      by_type (integer_in (look value)) found read

pub okp_full : (p : Placed) (key : OkpValue) → okp_of p ≡ Ok key → HasFullX key
unfolding okp_of
okp_full p key e =
    let (pairs, a, read) = read_by (read_map key_table 8 p) (okp_by p) key e in
    by_full p pairs key read

usable_full : (items : List Placed) → AllByRecursion HasFullX (filter_map usable_okp items)
usable_full [] = tt
usable_full (p ∷ items) = go (okp_of p) refl (usable_full items)
  where
    go : (read : Read OkpValue) → okp_of p ≡ read → AllByRecursion HasFullX (filter_map usable_okp items) →
        AllByRecursion HasFullX (cons_option (usable_okp_with (okp_of p)) (filter_map usable_okp items))
    go (Ok key) e rest = rw e (okp_full p key e, rest)
    go (Err refusal) e rest = rw e rest

pub okp_keys_full : (set : Placed) → AllByRecursion HasFullX (okp_keys_in set)
okp_keys_full set = usable_full (items_in set)
