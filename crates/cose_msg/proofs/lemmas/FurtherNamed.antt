-- A message that names an algorithm which is left to the caller is authentic nowhere else.
use Rattle.std.proofs.Common.{◌≡◌, ℕ, ℤ, negsuc, ◌≤◌, Bool, true, false, cond, List, length, take, Option, Some, None, Result, Ok, Err, refl, sym, ap, subst, ◌∙◌, arith}
use Rattle.std.specs.Prelude.{is_some}
use Rattle.std.specs.Ordering.{int_eq}
use Rattle.std.proofs.lemmas.Bool.Decides.{Decides-int_eq}
use Rattle.std.proofs.lemmas.Bool.{eqb-true, le-leb, leb-true}
use Rattle.std.proofs.lemmas.List.{take_all}
use Rattle.cose_head.specs.declared.kind.Kind.{Kind}
use Rattle.cose_head.specs.declared.kind.Kind.TheVariants.{Mac0, Sign1}
use Rattle.cose_head.specs.declared.reason.Reason.{Reason}
use Rattle.cose_head.specs.declared.reason.Reason.TheVariants.{UnknownAlg}
use Rattle.cose_head.specs.Algorithm.{auth_length_of}
use Rattle.cose_head.specs.Further.{further_numbered}
use Rattle.cose_map.specs.Bucket.{alg_of}
use Rattle.cose_map.specs.Choice as known
use Rattle.cose_map.specs.Choice.Algorithm.{algorithm_of}
use Rattle.cose_map.specs.Choice.Further as further
use Rattle.cose_map.specs.Key.Okp.{OkpValue}
use Rattle.cose_map.specs.Key.Value.{KeyValue}
use Rattle.cose_map.specs.Label.{LabelValue, number, words}
use Rattle.cose_msg.specs.Answer.{Chosen, Headers, Whole, complete}
use Rattle.cose_msg.specs.Authentic.{IsAuthentic}
use Rattle.cose_msg.specs.Further.{OkpChosen, okp_choice, okp_chosen}
use Rattle.cose_msg.specs.FurtherLaws.{AuthenticNowhereElse, names_algorithm}
use Rattle.cose_msg.specs.Grammar.{IsFront, IsMessage, untagged, tagged, in_cwt}
use Rattle.cose_msg.specs.GrammarLaws.{AuthenticIsMessage}
use Rattle.cose_msg.specs.Message.{Setting, as_choice, either, has_auth_length, inspecting, key_choice_of, past_chosen, rules_with}
use Rattle.cose_msg.specs.Unrefused.{OneMessage}
use Rattle.cose_msg.proofs.lemmas.Reading.Bounds.{algorithms_are_short}

-- ---- the algorithm

is_number : (one n : ℤ) → int_eq one n ≡ true → is_some (algorithm_of Sign1 one) ≡ false → is_some (algorithm_of Sign1 n) ≡ false
is_number one n e no_other = subst (λ (z : ℤ). is_some (algorithm_of Sign1 z) ≡ false) ((Decides-int_eq one n).0 e) no_other

by_number : (n : ℤ) (a b c : Bool) → int_eq (negsuc 7) n ≡ a → int_eq (negsuc 18) n ≡ b → int_eq (negsuc 52) n ≡ c →
    is_some (further_numbered n) ≡ true → is_some (algorithm_of Sign1 n) ≡ false
by_number n true b c x y z h = is_number (negsuc 7) n x refl
by_number n false true c x y z h = is_number (negsuc 18) n y refl
by_number n false false true x y z h = is_number (negsuc 52) n z refl
by_number n false false false x y z h = absurd (let never : false ≡ true = (rw (x, y, z) at h) in cc)

is_no_other : (n : ℤ) → is_some (further_numbered n) ≡ true → is_some (algorithm_of Sign1 n) ≡ false
is_no_other n h = by_number n (int_eq (negsuc 7) n) (int_eq (negsuc 18) n) (int_eq (negsuc 52) n) refl refl refl h

of_one_kind : (kind : Kind) (label : LabelValue) → further.is_known kind label ≡ true → known.is_known kind label ≡ true → ⊥
of_one_kind Mac0 (number n) f k = absurd cc
of_one_kind Sign1 (number n) f k = let never : false ≡ true = sym (is_no_other n f) ∙ k in absurd cc
of_one_kind kind (words name) f k = absurd cc

both_answerable : (kind : Kind) (protected unprotected : Option LabelValue) → is_some (either protected unprotected) ≡ true →
    further.is_answerable kind protected unprotected ≡ true → known.is_answerable kind protected unprotected ≡ true → ⊥
both_answerable kind (Some label) unprotected named f k = of_one_kind kind label f k
both_answerable kind None (Some label) named f k = of_one_kind kind label f k
both_answerable kind None None named f k = absurd cc

-- ---- the choice

is_answered : (b : Bool) (x : Result OkpChosen Reason) (found : OkpChosen) → cond b x (Err UnknownAlg) ≡ Ok found → b ≡ true
is_answered true x found e = refl
is_answered false x found e = absurd cc

okp_answerable : (keys : List OkpValue) (headers : Headers) (found : OkpChosen) → okp_chosen keys headers ≡ Ok found →
    further.is_answerable headers.kind (alg_of headers.protected_pairs) (alg_of headers.unprotected_pairs) ≡ true
unfolding further.chosen
okp_answerable keys headers found e = is_answered _ _ found e

is_answered_here : (b : Bool) (x : Result (KeyValue × ℤ) Reason) (chosen : Option Chosen) → as_choice (past_chosen (cond b x (Err UnknownAlg))) ≡ Ok chosen → b ≡ true
is_answered_here true x chosen e = refl
is_answered_here false x chosen e = absurd cc

key_answerable : (keys : List KeyValue) (headers : Headers) (chosen : Option Chosen) → key_choice_of keys headers ≡ Ok chosen →
    known.is_answerable headers.kind (alg_of headers.protected_pairs) (alg_of headers.unprotected_pairs) ≡ true
unfolding known.chosen
key_answerable keys headers chosen e = is_answered_here _ _ chosen e

not_both : (keys : List OkpValue) (others : List KeyValue) (headers : Headers) (found : OkpChosen) (chosen : Option Chosen) → names_algorithm headers ≡ true →
    okp_chosen keys headers ≡ Ok found → key_choice_of others headers ≡ Ok chosen → ⊥
not_both keys others headers found chosen named f k =
    both_answerable headers.kind (alg_of headers.protected_pairs) (alg_of headers.unprotected_pairs) named (okp_answerable keys headers found f) (key_answerable others headers chosen k)

-- ---- the message, which is the same without its key

abbrev keyless : Whole → Whole
keyless whole = record whole { chosen = None }

module _ (room nesting : ℕ) (setting : Setting) (choice : Headers → Result (Option Chosen) Reason) where
  front : (kind : Kind) (bytes : List ℕ) → IsFront (rules_with room nesting setting choice complete) kind bytes → IsFront (inspecting room nesting setting) kind bytes
  front kind bytes (untagged wanted is) = untagged wanted is
  front kind bytes (tagged wanted begins) = tagged wanted begins
  front kind bytes (in_cwt admitted wanted begins) = in_cwt admitted wanted begins

  is_inspected : (bytes : List ℕ) (whole : Whole) → length whole.auth ≤ 65535 → IsMessage (rules_with room nesting setting choice complete) bytes whole →
      IsMessage (inspecting room nesting setting) bytes (keyless whole)
  is_inspected bytes whole short m = record {
    spelled = m.spelled;
    is = m.is;
    front = front whole.headers.kind m.spelled.front m.front;
    protected = m.protected;
    protected_fits = m.protected_fits;
    protected_read = m.protected_read;
    bucket = m.bucket;
    unprotected = m.unprotected;
    unprotected_fits = m.unprotected_fits;
    unprotected_nests = m.unprotected_nests;
    unprotected_read = m.unprotected_read;
    together = m.together;
    chosen = refl;
    payload = m.payload;
    payload_comes = m.payload_comes;
    payload_fits = m.payload_fits;
    auth = m.auth;
    auth_fits = le-leb _ _ short;
    auth_place = m.auth_place;
    ends = m.ends;
  }

auth_is_short : (chosen : Option Chosen) (n : ℕ) → has_auth_length chosen n ≡ true → n ≤ 65535
auth_is_short (Some found) n e = omega (arith, eqb-true n (auth_length_of found.alg) e, algorithms_are_short found.alg)
auth_is_short None n e = leb-true n 65535 e

module _ (authentic : AuthenticIsMessage) (one : OneMessage) where
  pub authentic_nowhere_else : AuthenticNowhereElse
  authentic_nowhere_else room nesting setting keys decides bytes alg payload signed named other kind algorithm n taken e =
      let there : IsAuthentic room nesting setting other bytes kind algorithm n taken = (authentic room nesting setting other bytes kind algorithm n taken).0 e in
      let mine = is_inspected room nesting setting (okp_choice keys) bytes signed.whole (auth_is_short signed.whole.chosen (length signed.whole.auth) signed.message.auth_fits) signed.message in
      let theirs = is_inspected room nesting setting (key_choice_of setting.keys) (take taken bytes) there.whole (auth_is_short there.whole.chosen (length there.whole.auth) there.message.auth_fits) there.message in
      let all : take signed.whole.taken bytes ≡ bytes = take_all signed.whole.taken bytes (omega (arith, signed.message.ends)) in
      let same = one (inspecting room nesting setting) bytes (keyless signed.whole) (keyless there.whole)
      (record { within = omega (arith, signed.message.ends); message = subst (λ (b : List ℕ). IsMessage (inspecting room nesting setting) b (keyless signed.whole)) (sym all) mine })
      (record {
        within = subst (λ (t : ℕ). t ≤ length bytes) there.taken_is there.within;
        message = subst (λ (t : ℕ). IsMessage (inspecting room nesting setting) (take t bytes) (keyless there.whole)) there.taken_is theirs;
      }) in
      let headers : signed.whole.headers ≡ there.whole.headers = ap (λ (w : Whole). w.headers) same in
      not_both keys setting.keys signed.whole.headers (signed.key, alg) there.whole.chosen named signed.chosen
      (subst (λ (h : Headers). key_choice_of setting.keys h ≡ Ok there.whole.chosen) (sym headers) there.message.chosen)
