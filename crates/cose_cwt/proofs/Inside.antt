-- No place of a refusal of claims, of a confirmation or of admission is after the bytes.
use Rattle.std.proofs.Common.{◌≡◌, ℕ, ◌≤◌, Bool, true, false, List, length, Option, Some, None, Ok, Err, refl, sym, subst, if◌then◌else◌, arith}
use Rattle.std.specs.Prelude.{⊤, Result, IfErr, IfSome, option_map}
use Rattle.cose_head.specs.declared.reason.Reason.{Reason}
use Rattle.cose_head.specs.declared.reason.Reason.TheVariants.{NestedCwt, PlainKey, Expired, NotYet, WrongAudience}
use Rattle.cose_head.specs.declared.refusal.Refusal.{Refusal}
use Rattle.cose_head.specs.Placed.{Placed, look, bytes_in, tag_in}
use Rattle.cose_head.specs.PlacedLaws.{end_of, EndsBy, StandsIn, WholeIsItem, WholeIsRefusedInside}
use Rattle.cose_head.specs.Whole.{whole}
use Rattle.cose_map.specs.Key.{key_of}
use Rattle.cose_map.specs.Key.Value.{KeyValue}
use Rattle.cose_map.specs.Label.{LabelValue}
use Rattle.cose_map.specs.Laws.Inside.{FoundEndsInside, MapIsRefusedInside, PairEndsBy, RefusedBy}
use Rattle.cose_map.specs.Map.Form.{Table}
use Rattle.cose_map.specs.Map.Pairs.{Pair, pair_of, value_of}
use Rattle.cose_map.specs.Map.Read.{Read, check_map, refuse, ◌>>=◌}
use Rattle.cose_map.specs.Map.View.{seen_by}
use Rattle.cose_cwt.specs.Admission.{PolicyValue, admitted, admitted_claims, not_early, not_expired, unless}
use Rattle.cose_cwt.specs.Claims.{ClaimsValue, claims_at, claims_of, claims_with, confirmation_at, is_token, not_nested, some_confirmation}
use Rattle.cose_cwt.specs.Claims.Form.{claims_table}
use Rattle.cose_cwt.specs.Claims.Labels.{aud, cnf, exp, nbf}
use Rattle.cose_cwt.specs.Confirmation.{confirmation_of, confirmed_key, confirmed_kid, cose_key, encrypted_cose_key, identifier, is_symmetric, kid, members_table, one_public_key, public_key}

-- an answer, or a refusal no later than a place
abbrev AnswersBy : {A : Type 0} → ℕ → (A → Type 0) → Read A → Type 0
AnswersBy end P (Ok a) = P a
AnswersBy end P (Err refusal) = refusal.place ≤ end

abbrev AnyBy : {A : Type 0} → ℕ → Read A → Type 0
AnyBy end answer = AnswersBy end (λ a. ⊤) answer

refused_by : {A : Type 0} (end : ℕ) (P : A → Type 0) (answer : Read A) → AnswersBy end P answer → RefusedBy end answer
refused_by end P (Ok a) s = tt
refused_by end P (Err refusal) s = s

any_by : {A : Type 0} (end : ℕ) (P : A → Type 0) (answer : Read A) → AnswersBy end P answer → AnyBy end answer
any_by end P (Ok a) s = tt
any_by end P (Err refusal) s = s

later : {A : Type 0} (end after : ℕ) (answer : Read A) → AnyBy end answer → end ≤ after → AnyBy after answer
later end after (Ok a) s le = tt
later end after (Err refusal) s le = omega (arith, s, le)

then_by : {A B : Type 0} (end : ℕ) (P : A → Type 0) (Q : B → Type 0) (answer : Read A) (next : A → Read B) → AnswersBy end P answer →
    ((a : A) → P a → AnswersBy end Q (next a)) → AnswersBy end Q (answer >>= next)
then_by end P Q (Ok a) next s each = each a s
then_by end P Q (Err refusal) next s each = s

-- The pair that pairs have for a label ends by a place, for each label.
abbrev FoundBy : ℕ → List Pair → Type 0
FoundBy end pairs = (name : LabelValue) → IfSome (pair_of name pairs) (PairEndsBy end)

value_by : (end : ℕ) (found : Option Pair) → IfSome found (PairEndsBy end) → IfSome (option_map (λ pair. pair.value) found) (EndsBy end)
value_by end None s = tt
value_by end (Some pair) s = s.1

value_of_by : (end : ℕ) (pairs : List Pair) → FoundBy end pairs → (name : LabelValue) → IfSome (value_of name pairs) (EndsBy end)
value_of_by end pairs found name = value_by end (pair_of name pairs) (found name)

module _ (end : ℕ) where
  unless_by : {A : Type 0} (a : A) (reason : Reason) (value : Placed) (b : Bool) → EndsBy end value → AnyBy end (if b then refuse reason value else Ok a)
  unless_by a reason value true s = omega (arith, s)
  unless_by a reason value false s = tt

  -- the members of a confirmation
  public_by : (value : Placed) (key : Read KeyValue) → EndsBy end value → AnyBy end (public_key value key)
  public_by value (Err refusal) s = omega (arith, s)
  public_by value (Ok key) s = unless_by key PlainKey value (is_symmetric key.material) s

  one_by : (value : Placed) → EndsBy end value → AnyBy end (one_public_key value)
  one_by value s = then_by end (λ key. ⊤) (λ key. ⊤) (public_key value (key_of value)) _ (public_by value (key_of value) s) (λ key t. tt)

  key_by : (value : Placed) (encrypted : Option Pair) (key : Option Placed) → EndsBy end value → IfSome encrypted (PairEndsBy end) →
      IfSome key (EndsBy end) → AnyBy end (confirmed_key value encrypted key)
  key_by value (Some encrypted) (Some key) s e k = omega (arith, s)
  key_by value (Some encrypted) None s e k = omega (arith, e.0)
  key_by value None (Some key) s e k = one_by key k
  key_by value None None s e k = tt

  identifier_by : (value : Placed) (content : Option (List ℕ)) → EndsBy end value → AnyBy end (identifier value content)
  identifier_by value None s = omega (arith, s)
  identifier_by value (Some content) s = tt

  kid_by : (value : Option Placed) → IfSome value (EndsBy end) → AnyBy end (confirmed_kid value)
  kid_by None s = tt
  kid_by (Some value) s = identifier_by value (bytes_in (look value)) s

  -- a rule of admission
  rule_by : (reason : Reason) (breaks : Placed → Bool) (value : Option Placed) → IfSome value (EndsBy end) → AnyBy end (unless reason breaks value)
  rule_by reason breaks None s = tt
  rule_by reason breaks (Some value) s = unless_by tt reason value (breaks value) s

  pub admission_by : (policy : PolicyValue) (claims : ClaimsValue) → FoundBy end claims.pairs → AnyBy end (admitted policy claims)
  unfolding admitted
  admission_by policy claims found =
      then_by end (λ t. ⊤) (λ t. ⊤) (not_expired policy claims) _ (rule_by Expired _ (value_of exp claims.pairs) (value_of_by end claims.pairs found exp))
      (λ t u. then_by end (λ t. ⊤) (λ t. ⊤) (not_early policy claims) _ (rule_by NotYet _ (value_of nbf claims.pairs) (value_of_by end claims.pairs found nbf))
      (λ t u. rule_by WrongAudience _ (value_of aud claims.pairs) (value_of_by end claims.pairs found aud)))

-- a refusal in a view of the result is that of the code
pub seen_inside : {X Y : Type 0} (view : X → Y) (result : Result X Refusal) (end : ℕ) (answer : Read Y) → seen_by view result ≡ answer → RefusedBy end answer →
    IfErr result (λ refusal. refusal.place ≤ end)
seen_inside view (Ok x) end answer e s = tt
seen_inside view (Err refusal) end answer e s = rw (← e) at s

-- given the laws of reading and of maps
module _ (wholes : WholeIsItem) (inside : WholeIsRefusedInside) (maps : MapIsRefusedInside) (found : FoundEndsInside) where
  map_by : (table : Table) (p : Placed) (answer : Read (List Pair)) → check_map table p ≡ answer → AnswersBy (end_of p) (FoundBy (end_of p)) answer
  map_by table p (Ok pairs) e = λ name. found table p pairs name e
  map_by table p (Err refusal) e = let s : RefusedBy (end_of p) (check_map table p) = maps table p in rw e at s

  whole_by : (depth : ℕ) (p : Placed) (answer : Read Placed) → whole depth p ≡ answer → AnswersBy (end_of p) (λ item. item ≡ p) answer
  whole_by depth p (Ok item) e = (wholes depth p item e).2
  whole_by depth p (Err refusal) e = let s : StandsIn p refusal.place = rw e at (inside depth p) in s.1

  confirmation_by : (p : Placed) → AnyBy (end_of p) (confirmation_of p)
  unfolding confirmation_of
  confirmation_by p =
      then_by (end_of p) (FoundBy (end_of p)) (λ c. ⊤) (check_map members_table p) _ (map_by members_table p (check_map members_table p) refl)
      (λ members there. then_by (end_of p) (λ key. ⊤) (λ c. ⊤) (confirmed_key p (pair_of encrypted_cose_key members) (value_of cose_key members)) _
      (key_by (end_of p) p (pair_of encrypted_cose_key members) (value_of cose_key members) (omega arith) (there encrypted_cose_key) (value_of_by (end_of p) members there cose_key))
      (λ key t. then_by (end_of p) (λ id. ⊤) (λ c. ⊤) (confirmed_kid (value_of kid members)) _
      (kid_by (end_of p) (value_of kid members) (value_of_by (end_of p) members there kid)) (λ id u. tt)))

  at_value : (end : ℕ) (value : Option Placed) → IfSome value (EndsBy end) → AnyBy end (confirmation_at value)
  at_value end None s = tt
  at_value end (Some value) s = then_by end (λ c. ⊤) (λ c. ⊤) (confirmation_of value) some_confirmation
      (later (end_of value) end (confirmation_of value) (confirmation_by value) s) (λ c t. tt)

  not_nested_by : (p : Placed) (b : Bool) → AnswersBy (end_of p) (λ item. item ≡ p) (if b then refuse NestedCwt p else Ok p)
  not_nested_by p true = omega arith
  not_nested_by p false = refl

  claims_at_by : (p : Placed) → AnswersBy (end_of p) (λ claims. FoundBy (end_of p) claims.pairs) (claims_at p)
  claims_at_by p = then_by (end_of p) (λ item. item ≡ p) _ (not_nested p) _ (not_nested_by p (is_token (tag_in p)))
      (λ item same. subst (λ (q : Placed). AnswersBy (end_of p) (λ claims. FoundBy (end_of p) claims.pairs)
      (check_map claims_table q >>= (λ pairs. confirmation_at (value_of cnf pairs) >>= (λ confirmation. Ok (claims_with pairs confirmation))))) (sym same)
      (then_by (end_of p) (FoundBy (end_of p)) _ (check_map claims_table p) _ (map_by claims_table p (check_map claims_table p) refl)
      (λ pairs there. then_by (end_of p) (λ c. ⊤) _ (confirmation_at (value_of cnf pairs)) _
      (at_value (end_of p) (value_of cnf pairs) (value_of_by (end_of p) pairs there cnf)) (λ c t. there))))

  claims_by : (depth : ℕ) (p : Placed) → AnswersBy (end_of p) (λ claims. FoundBy (end_of p) claims.pairs) (claims_of depth p)
  unfolding claims_of
  claims_by depth p = then_by (end_of p) (λ item. item ≡ p) _ (whole depth p) claims_at (whole_by depth p (whole depth p) refl)
      (λ item same. subst (λ (q : Placed). AnswersBy (end_of p) (λ claims. FoundBy (end_of p) claims.pairs) (claims_at q)) (sym same) (claims_at_by p))

  pub confirmation_inside : (p : Placed) → RefusedBy (end_of p) (confirmation_of p)
  confirmation_inside p = refused_by (end_of p) _ (confirmation_of p) (confirmation_by p)

  pub claims_inside : (depth : ℕ) (p : Placed) → RefusedBy (end_of p) (claims_of depth p)
  claims_inside depth p = refused_by (end_of p) _ (claims_of depth p) (claims_by depth p)

  pub admission_inside : (depth : ℕ) (policy : PolicyValue) (payload : List ℕ) → RefusedBy (length payload) (admitted_claims depth policy payload)
  admission_inside depth policy payload =
      let p : Placed = record { bytes = payload; place = 0 } in
      let by : AnyBy (end_of p) (admitted_claims depth policy payload) =
      then_by (end_of p) (λ claims. FoundBy (end_of p) claims.pairs) _ (claims_of depth p) _ (claims_by depth p)
      (λ claims there. then_by (end_of p) (λ t. ⊤) (λ c. ⊤) (admitted policy claims) _ (admission_by (end_of p) policy claims there) (λ t u. tt)) in
      let e : end_of p ≡ length payload = omega arith in
      subst (λ (n : ℕ). RefusedBy n (admitted_claims depth policy payload)) e (refused_by (end_of p) _ (admitted_claims depth policy payload) by)
