-- The parts of a message that isn't refused, phase by phase, the last first: each is spelled, and passes its tests.
use Rattle.std.proofs.Common.{◌≡◌, ℕ, ◌+◌, ◌-◌, ◌≤◌, Bool, true, false, cond, List, [], ◌++◌, length, Option, Some, None, Result, Ok, Err, refl, inl, subst, ap, ◌∙◌, take}
use Rattle.std.specs.Prelude.{nat_lt, ◌==◌, ◌&&◌}
use Rattle.std.proofs.lemmas.Bool.{eqb-true, ltb-false}
use Rattle.std.proofs.lemmas.List.{length-take-le}
use Rattle.cose_head.specs.declared.head.Head.{Head}
use Rattle.cose_head.specs.declared.kind.Kind.{Kind}
use Rattle.cose_head.specs.declared.reason.Reason.{Reason}
use Rattle.cose_head.specs.declared.reason.Reason.TheVariants.{Truncated, PastRoom, WrongType, Detached, Attached, BadAuthLength, PayloadTooLong}
use Rattle.cose_head.specs.Item.{Item, IsHead, byte_string, simple, depth_of, Spells}
use Rattle.cose_map.specs.Bucket.{bucket_of}
use Rattle.cose_map.specs.Bucket.Both.{pair_fault}
use Rattle.cose_map.specs.Map.Pairs.{Pair}
use Rattle.cose_msg.specs.Answer.{Answer, Chosen, Headers, Whole}
use Rattle.cose_msg.specs.Phases.{nothing_so_far, protected_so_far, unprotected_so_far, headers_so_far, is_nil, is_too_long, finish, auth_fault_where, auth_head_fault, auth_head, past_payload, payload_fault_within, payload_head_fault, nil_fault_within, detached_payload, past_payload_head_from, is_bytes_head, payload_head, past_choice, key_choice, both_buckets, placed_at, headers_of, past_unprotected, unprotected, past_protected, protected_fault_within, protected_head_fault, protected_head}
use Rattle.cose_msg.specs.Rules.{Rules}
use Rattle.cose_msg.specs.Source.{Source, attached, detached}
use Rattle.cose_msg.specs.Grammar.{HasCome, payload_element}
use Rattle.cose_msg.specs.Reading.{awaits, with_head}
use Rattle.cose_msg.proofs.lemmas.Accepted.FoundForms.{Comes, NotRefused, ValueFound, past_refusal, head_found, unless_fault_found, unless_found, value_found, string_found, item_found}
use Rattle.cose_msg.proofs.lemmas.Spelling.Spelled.{SpellingLaws}

-- ---- what the tests of the heads leave

pub first_test : (b : Bool) (x y : Option Reason) → (y ≡ None → ⊥) → cond b x y ≡ None → (b ≡ true) × (x ≡ None)
first_test true x y h e = (refl, e)
first_test false x y h e = absurd (h e)

pub passes : (b : Bool) (reason : Reason) → cond b None (Some reason) ≡ None → b ≡ true
passes true reason e = refl
passes false reason e = absurd cc

passes_not : (b : Bool) (reason : Reason) → cond b (Some reason) None ≡ None → b ≡ false
passes_not true reason e = absurd cc
passes_not false reason e = refl

some_reason : (b : Bool) (reason other : Reason) → cond b (Some reason) (Some other) ≡ None → ⊥
some_reason true reason other e = cc
some_reason false reason other e = cc

pub is_major : (major wanted : ℕ) → (major == wanted) ≡ true → major ≡ wanted
is_major major wanted e = eqb-true major wanted e

auth_passes : (fits : ℕ → Bool) (head : Head) → auth_fault_where fits head ≡ None → (head.major ≡ 2) × (fits head.arg ≡ true)
auth_passes fits head e =
    let both = first_test (head.major == 2) (cond (fits head.arg) None (Some BadAuthLength)) (Some WrongType) (λ never. cc) e in
    (is_major head.major 2 both.0, passes (fits head.arg) BadAuthLength both.1)

payload_passes : (limit : ℕ) (head : Head) → payload_fault_within limit head ≡ None → (head.major ≡ 2) × (is_too_long limit head.arg ≡ false)
payload_passes limit head e =
    let both = first_test (head.major == 2) (cond (is_too_long limit head.arg) (Some PayloadTooLong) None) (cond (is_nil head) (Some Detached) (Some WrongType)) (some_reason (is_nil head) Detached WrongType) e in
    (is_major head.major 2 both.0, passes_not (is_too_long limit head.arg) PayloadTooLong both.1)

both_tests : (b c : Bool) → (b && c) ≡ true → (b ≡ true) × (c ≡ true)
both_tests true c e = (refl, e)
both_tests false c e = absurd cc

nil_passes : (limit detached_length : ℕ) (head : Head) → nil_fault_within limit detached_length head ≡ None → (head.major ≡ 7) × (head.width ≡ 1) × (head.arg ≡ 22) × (is_too_long limit detached_length ≡ false)
nil_passes limit detached_length head e =
    let both = first_test (is_nil head) (cond (is_too_long limit detached_length) (Some PayloadTooLong) None) (cond (is_bytes_head head) (Some Attached) (Some WrongType)) (some_reason (is_bytes_head head) Attached WrongType) e in
    let major = both_tests (head.major == 7) (head.width == 1 && head.arg == 22) both.0 in
    let others = both_tests (head.width == 1) (head.arg == 22) major.1 in
    (eqb-true head.major 7 major.0, eqb-true head.width 1 others.0, eqb-true head.arg 22 others.1, passes_not (is_too_long limit detached_length) PayloadTooLong both.1)

-- nil is spelled by its head alone.
nil_spelled : (part : List ℕ) (head : Head) → IsHead part head.major head.arg → length part ≡ head.width → head.major ≡ 7 → head.width ≡ 1 → head.arg ≡ 22 → Spells part (simple 22)
unfolding Spells
nil_spelled part head is wide major width arg =
    (subst (λ (n : ℕ). IsHead part 7 n) arg (subst (λ (n : ℕ). IsHead part n head.arg) major is), inl (wide ∙ width))

protected_passes : (room : ℕ) (head : Head) → protected_fault_within room head ≡ None → (head.major ≡ 2) × (head.arg ≤ room)
protected_passes room head e =
    let both = first_test (head.major == 2) (cond (nat_lt room head.arg) (Some PastRoom) None) (Some WrongType) (λ never. cc) e in
    (is_major head.major 2 both.0, ltb-false room head.arg (passes_not (nat_lt room head.arg) PastRoom both.1))

-- ---- what is found, the last part first

abbrev pub whole_of : Headers → Option Chosen → List ℕ → ℕ → List ℕ → ℕ → Whole
whole_of headers chosen payload auth_at auth taken =
    record { headers = headers; chosen = chosen; payload = payload; auth = auth; auth_at = auth_at; taken = taken }

pub record AuthFound (rules : Rules) (headers : Headers) (chosen : Option Chosen) (payload : List ℕ) (place : ℕ) (bytes : List ℕ) (answer : Answer) : Type 0 where
  pub auth : List ℕ
  pub part : List ℕ
  pub rest : List ℕ
  pub is : bytes ≡ part ++ rest
  pub spelled : Spells part (byte_string auth)
  pub fits : rules.auth_fits chosen (length auth) ≡ true
  pub comes : rules.finish (whole_of headers chosen payload place auth (place + length part)) ≡ answer

pub record PayloadFound (source : Source) (rules : Rules) (headers : Headers) (chosen : Option Chosen) (place : ℕ) (bytes : List ℕ) (answer : Answer) : Type 0 where
  pub payload : List ℕ
  pub part : List ℕ
  pub rest : List ℕ
  pub is : bytes ≡ part ++ rest
  pub spelled : Spells part (payload_element source payload)
  pub come : HasCome source payload
  pub fits : is_too_long rules.payload_limit (length payload) ≡ false
  pub next : AuthFound rules headers chosen payload (place + length part) rest answer

pub record UnprotectedFound (rules : Rules) (kind : Kind) (protected : List ℕ) (pairs : List Pair) (place : ℕ) (bytes : List ℕ) (answer : Answer) : Type 0 where
  pub bucket : Item
  pub part : List ℕ
  pub rest : List ℕ
  pub is : bytes ≡ part ++ rest
  pub spelled : Spells part bucket
  pub fits : length part ≤ rules.room
  pub nests : depth_of bucket ≤ rules.nesting
  pub found : List Pair
  pub read : bucket_of rules.nesting (placed_at place part) ≡ Ok found
  pub together : pair_fault pairs found rules.understood (place + length part) ≡ None
  pub chosen : Option Chosen
  pub chosen_is : rules.choice (headers_of kind protected pairs found) ≡ Ok chosen
  pub next : PayloadFound rules.source rules (headers_of kind protected pairs found) chosen (place + length part) rest answer

pub record ProtectedFound (rules : Rules) (kind : Kind) (place : ℕ) (bytes : List ℕ) (answer : Answer) : Type 0 where
  pub protected : List ℕ
  pub part : List ℕ
  pub rest : List ℕ
  pub is : bytes ≡ part ++ rest
  pub spelled : Spells part (byte_string protected)
  pub fits : length protected ≤ rules.room
  pub found : List Pair
  pub read : bucket_of rules.nesting (placed_at (place + length part - length protected) protected) ≡ Ok found
  pub next : UnprotectedFound rules kind protected found (place + length part) rest answer

-- ---- the phases

module _ (answer : Answer) (unrefused : NotRefused answer) (laws : SpellingLaws) (rules : Rules) where
  auth_found : (headers : Headers) (chosen : Option Chosen) (payload : List ℕ) (place : ℕ) (bytes : List ℕ) → Comes (auth_head rules headers chosen payload) place bytes answer → AuthFound rules headers chosen payload place bytes answer
  auth_found headers chosen payload place bytes comes =
      let s = string_found answer unrefused laws (headers_so_far headers payload) (λ list. headers_so_far headers payload) (auth_head_fault rules chosen) (λ n. rules.auth_fits chosen n ≡ true)
      (auth_passes (rules.auth_fits chosen)) (finish rules headers chosen payload) place bytes comes in
      record { auth = s.content; part = s.part; rest = s.rest; is = s.is; spelled = s.spelled; fits = s.fits; comes = s.comes }

  payload_found_from : (source : Source) (headers : Headers) (chosen : Option Chosen) (place : ℕ) (bytes : List ℕ) → Comes (with_head (headers_so_far headers []) (past_payload_head_from source rules headers chosen)) place bytes answer → PayloadFound source rules headers chosen place bytes answer
  payload_found_from attached headers chosen place bytes comes =
      let s = string_found answer unrefused laws (headers_so_far headers []) (headers_so_far headers) (payload_head_fault rules) (λ n. is_too_long rules.payload_limit n ≡ false)
      (payload_passes rules.payload_limit) (λ at. past_payload rules headers chosen) place bytes comes in
      record { payload = s.content; part = s.part; rest = s.rest; is = s.is; spelled = s.spelled; come = tt; fits = s.fits; next = auth_found headers chosen s.content (place + length s.part) s.rest s.comes }
  payload_found_from (detached came detached_length) headers chosen place bytes comes =
      let h = head_found answer unrefused laws (headers_so_far headers []) (past_payload_head_from (detached came detached_length) rules headers chosen) place bytes comes in
      let tested = unless_fault_found answer unrefused (headers_so_far headers []) place (nil_fault_within rules.payload_limit detached_length h.head) (detached_payload rules headers chosen came detached_length place) (place + length h.part) h.rest h.comes in
      let nil = nil_passes rules.payload_limit detached_length h.head tested.0 in
      let there = past_refusal answer unrefused (nat_lt (length came) detached_length) (awaits (headers_so_far headers came) (detached_length - length came) place) (auth_head rules headers chosen (take detached_length came) (place + length h.part) h.rest) (unrefused Truncated place) tested.1 in
      let enough : detached_length ≤ length came = ltb-false (length came) detached_length there.0 in
      let long : length (take detached_length came) ≡ detached_length = length-take-le detached_length came enough in
      record {
        payload = take detached_length came;
        part = h.part;
        rest = h.rest;
        is = h.is;
        spelled = nil_spelled h.part h.head h.is_head h.wide nil.0 nil.1 nil.2;
        come = (enough, refl);
        fits = ap (is_too_long rules.payload_limit) long ∙ nil.3;
        next = auth_found headers chosen (take detached_length came) (place + length h.part) h.rest there.1;
      }

  payload_found : (headers : Headers) (chosen : Option Chosen) (place : ℕ) (bytes : List ℕ) → Comes (payload_head rules headers chosen) place bytes answer → PayloadFound rules.source rules headers chosen place bytes answer
  payload_found headers chosen place bytes comes = payload_found_from rules.source headers chosen place bytes comes

  choice_found : (headers : Headers) (choice : Result (Option Chosen) Reason) (place : ℕ) (bytes : List ℕ) → Comes (past_choice rules headers choice) place bytes answer → ValueFound choice (payload_head rules headers) place bytes answer
  choice_found headers (Ok chosen) place bytes comes = record { found = chosen; is = refl; comes = comes }
  choice_found headers (Err reason) place bytes comes = absurd (unrefused reason place comes)

  unprotected_found : (kind : Kind) (protected : List ℕ) (pairs : List Pair) (place : ℕ) (bytes : List ℕ) → Comes (unprotected rules kind protected pairs) place bytes answer → UnprotectedFound rules kind protected pairs place bytes answer
  unprotected_found kind protected pairs place bytes comes =
      let s = item_found answer unrefused laws (unprotected_so_far pairs) rules.room rules.nesting (past_unprotected rules kind protected pairs) place bytes comes in
      let end : ℕ = place + length s.part in
      let v = value_found answer unrefused (protected_so_far pairs) (bucket_of rules.nesting (placed_at place s.part)) (λ found. both_buckets rules (headers_of kind protected pairs found)) end s.rest s.comes in
      let headers : Headers = headers_of kind protected pairs v.found in
      let both = unless_found answer unrefused (headers_so_far headers []) (pair_fault pairs v.found rules.understood end) (key_choice rules headers) end s.rest v.comes in
      let c = choice_found headers (rules.choice headers) end s.rest both.1 in
      record {
        bucket = s.content;
        part = s.part;
        rest = s.rest;
        is = s.is;
        spelled = s.spelled;
        fits = s.fits;
        nests = s.nests;
        found = v.found;
        read = v.is;
        together = both.0;
        chosen = c.found;
        chosen_is = c.is;
        next = payload_found headers c.found end s.rest c.comes;
      }

  pub protected_found : (kind : Kind) (place : ℕ) (bytes : List ℕ) → Comes (protected_head rules kind) place bytes answer → ProtectedFound rules kind place bytes answer
  protected_found kind place bytes comes =
      let s = string_found answer unrefused laws nothing_so_far (λ list. nothing_so_far) (protected_head_fault rules) (λ n. n ≤ rules.room)
      (protected_passes rules.room) (λ at. past_protected rules kind) place bytes comes in
      let end : ℕ = place + length s.part in
      let v = value_found answer unrefused nothing_so_far (bucket_of rules.nesting (placed_at (end - length s.content) s.content)) (unprotected rules kind s.content) end s.rest s.comes in
      record {
        protected = s.content;
        part = s.part;
        rest = s.rest;
        is = s.is;
        spelled = s.spelled;
        fits = s.fits;
        found = v.found;
        read = v.is;
        next = unprotected_found kind s.content v.found end s.rest v.comes;
      }
