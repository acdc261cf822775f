-- Messages whose signature the caller verifies: what is asked, and what is answered.
use Rattle.std.proofs.Common.{◌≡◌, ℕ, Bool, true, false, cond, List, length, take, Option, Some, None, Result, Ok, Err, refl, sym, ap, subst, ◌∙◌, arith}
use Rattle.std.specs.Prelude.{nat_lt, ◌==◌, option_map}
use Rattle.std.proofs.lemmas.Bool.{eq-eqb, eqb-true, le-ltb, ltb-false}
use Rattle.std.proofs.lemmas.List.{take_all}
use Rattle.cose_head.specs.declared.further.FurtherAlg.{FurtherAlg}
use Rattle.cose_head.specs.declared.reason.Reason.{Reason}
use Rattle.cose_head.specs.declared.reason.Reason.TheVariants.{BadAuthLength}
use Rattle.cose_head.specs.declared.refusal.Refusal.{Refusal}
use Rattle.cose_head.specs.Further.{signature_length_of}
use Rattle.cose_map.specs.Key.Okp.{OkpValue}
use Rattle.cose_msg.specs.declared.verdict.Verdict.TheVariants.{Authentic, Refused}
use Rattle.cose_msg.specs.Answer.{Answer, Whole, decided, complete, shaped}
use Rattle.cose_msg.specs.Further.{FurtherDecides, OkpChosen, answered, asked_in, asked_of_chosen, asked_of_whole, asked_with, decided_by, further_rules, okp_chosen, past_authentic, refuse, trailing_of}
use Rattle.cose_msg.specs.FurtherLaws.{FurtherIsMessage, IsSigned, NoIsRefused, RefusedUnasked}
use Rattle.cose_msg.specs.Grammar.{IsMessage}
use Rattle.cose_msg.specs.Message.{Setting, message, structure}
use Rattle.cose_msg.specs.Unrefused.{WholeIsMessage}

pub asked_at_length : (count : ℕ) (aad : List ℕ) (whole : Whole) (found : OkpChosen) → length whole.auth ≡ signature_length_of found.0.curve →
    Ok (asked_with count aad whole found) ≡ asked_of_whole count aad whole found
asked_at_length count aad whole found e = rw (eq-eqb _ _ e) refl

-- What is answered of an answer.
abbrev result : ℕ → List ℕ → List OkpValue → FurtherDecides → Answer → Option (Result (FurtherAlg × List ℕ) Refusal)
result count aad keys decides answer = option_map (decided_by decides) (asked_in count aad keys answer)

abbrev Outcome : Type 0
Outcome = Result (FurtherAlg × List ℕ) Refusal

both_ok : (one other : FurtherAlg × List ℕ) → (let o : Outcome = Ok one in o) ≡ Ok other → one ≡ other
both_ok one other e = cc

-- What is known of a whole message that is authentic.
record Facts (count : ℕ) (aad : List ℕ) (keys : List OkpValue) (decides : FurtherDecides) (whole : Whole) (alg : FurtherAlg) (payload : List ℕ) : Type 0 where
  key : OkpValue
  chosen : okp_chosen keys whole.headers ≡ Ok (key, alg)
  auth_length : length whole.auth ≡ signature_length_of key.curve
  holds : decides key alg (structure aad whole.headers whole.payload) whole.auth ≡ true
  payload_is : payload ≡ whole.payload
  ends : nat_lt whole.taken count ≡ false

module _ (count : ℕ) (aad : List ℕ) (decides : FurtherDecides) (whole : Whole) (alg : FurtherAlg) (payload : List ℕ) where
  ended : (found : OkpChosen) (follows : Bool) → past_authentic (asked_with count aad whole found) (cond follows (Some whole.taken) None) ≡ Ok (alg, payload) →
      (found.1 ≡ alg) × (payload ≡ whole.payload) × (follows ≡ false)
  ended found true e = absurd cc
  ended found false e =
      let same = both_ok _ _ e in
      (ap (λ (p : FurtherAlg × List ℕ). p.0) same, sym (ap (λ (p : FurtherAlg × List ℕ). p.1) same), refl)

  held : (found : OkpChosen) (holds : Bool) → answered (asked_with count aad whole found) holds ≡ Ok (alg, payload) →
      (holds ≡ true) × (past_authentic (asked_with count aad whole found) (trailing_of count whole.taken) ≡ Ok (alg, payload))
  held found true e = (refl, e)
  held found false e = absurd cc

  long : (found : OkpChosen) (fits : Bool) → decided_by decides (cond fits (Ok (asked_with count aad whole found)) (refuse BadAuthLength whole.auth_at)) ≡ Ok (alg, payload) →
      (fits ≡ true) × (decided_by decides (Ok (asked_with count aad whole found)) ≡ Ok (alg, payload))
  long found true e = (refl, e)
  long found false e = absurd cc

  known : (keys : List OkpValue) (found : OkpChosen) → okp_chosen keys whole.headers ≡ Ok found → decided_by decides (asked_of_whole count aad whole found) ≡ Ok (alg, payload) →
      Facts count aad keys decides whole alg payload
  known keys found is e =
      let fits = long found (length whole.auth == signature_length_of found.0.curve) e in
      let holds = held found (decides found.0 found.1 (structure aad whole.headers whole.payload) whole.auth) fits.1 in
      let ends = ended found (nat_lt whole.taken count) holds.1 in
      record {
        key = found.0;
        chosen = is ∙ ap (λ (a : FurtherAlg). Ok (found.0, a)) ends.0;
        auth_length = eqb-true _ _ fits.0;
        holds = subst (λ (a : FurtherAlg). decides found.0 a (structure aad whole.headers whole.payload) whole.auth ≡ true) ends.0 holds.0;
        payload_is = ends.1;
        ends = ends.2;
      }

  of_chosen : (keys : List OkpValue) (chosen : Result OkpChosen Reason) → okp_chosen keys whole.headers ≡ chosen →
      option_map (decided_by decides) (asked_of_chosen count aad whole chosen) ≡ Some (Ok (alg, payload)) → Facts count aad keys decides whole alg payload
  of_chosen keys (Ok found) is e = known keys found is cc
  of_chosen keys (Err reason) is e = absurd cc

of_answer : (count : ℕ) (aad : List ℕ) (keys : List OkpValue) (decides : FurtherDecides) (alg : FurtherAlg) (payload : List ℕ) (answer : Answer) → result count aad keys decides answer ≡ Some (Ok (alg, payload)) →
    (whole : Whole) × (answer ≡ complete whole) × Facts count aad keys decides whole alg payload
of_answer count aad keys decides alg payload (complete whole) e = (whole, refl, of_chosen count aad decides whole alg payload keys (okp_chosen keys whole.headers) refl e)
of_answer count aad keys decides alg payload (decided (Refused refusal)) e = absurd cc
of_answer count aad keys decides alg payload (decided (Authentic kind other n taken)) e = absurd cc
of_answer count aad keys decides alg payload (shaped kind n auth taken) e = absurd cc

-- Conversely, these facts of a whole message make the result.
made : (count : ℕ) (aad : List ℕ) (keys : List OkpValue) (decides : FurtherDecides) (whole : Whole) (alg : FurtherAlg) (payload : List ℕ) → Facts count aad keys decides whole alg payload →
    result count aad keys decides (complete whole) ≡ Some (Ok (alg, payload))
made count aad keys decides whole alg payload facts = rw (facts.chosen, eq-eqb _ _ facts.auth_length, facts.holds, facts.ends, facts.payload_is) refl

module _ (law : WholeIsMessage) where
  is_signed : (room nesting : ℕ) (setting : Setting) (keys : List OkpValue) (decides : FurtherDecides) (bytes : List ℕ) (alg : FurtherAlg) (payload : List ℕ) (whole : Whole) →
      (message (further_rules room nesting setting keys) bytes).answer ≡ complete whole → Facts (length bytes) setting.aad keys decides whole alg payload →
      IsSigned room nesting setting keys decides bytes alg payload
  is_signed room nesting setting keys decides bytes alg payload whole e facts =
      let begins = (law (further_rules room nesting setting keys) (λ w. refl) bytes whole).0 e in
      let all : take whole.taken bytes ≡ bytes = take_all whole.taken bytes (ltb-false _ _ facts.ends) in
      record {
        whole = whole;
        message = subst (λ (b : List ℕ). IsMessage (further_rules room nesting setting keys) b whole) all begins.message;
        payload_is = facts.payload_is;
        key = facts.key;
        chosen = facts.chosen;
        auth_length = facts.auth_length;
        holds = facts.holds;
      }

  is_read : (room nesting : ℕ) (setting : Setting) (keys : List OkpValue) (decides : FurtherDecides) (bytes : List ℕ) (alg : FurtherAlg) (payload : List ℕ) →
      (signed : IsSigned room nesting setting keys decides bytes alg payload) → (message (further_rules room nesting setting keys) bytes).answer ≡ complete signed.whole
  is_read room nesting setting keys decides bytes alg payload signed =
      let all : take signed.whole.taken bytes ≡ bytes = take_all signed.whole.taken bytes (omega (arith, signed.message.ends)) in
      (law (further_rules room nesting setting keys) (λ w. refl) bytes signed.whole).1 (record {
        within = omega (arith, signed.message.ends);
        message = subst (λ (b : List ℕ). IsMessage (further_rules room nesting setting keys) b signed.whole) (sym all) signed.message;
      })

  pub further_is_message : FurtherIsMessage
  further_is_message room nesting setting keys decides bytes alg payload = (
    λ e. let found = of_answer (length bytes) setting.aad keys decides alg payload (message (further_rules room nesting setting keys) bytes).answer e in
        is_signed room nesting setting keys decides bytes alg payload found.0 found.1 found.2,
    λ signed. let facts : Facts (length bytes) setting.aad keys decides signed.whole alg payload = record {
      key = signed.key;
      chosen = signed.chosen;
      auth_length = signed.auth_length;
      holds = signed.holds;
      payload_is = signed.payload_is;
      ends = le-ltb _ _ (omega (arith, signed.message.ends));
    } in
        ap (result (length bytes) setting.aad keys decides) (is_read room nesting setting keys decides bytes alg payload signed)
        ∙ made (length bytes) setting.aad keys decides signed.whole alg payload facts,
  )

pub no_is_refused : NoIsRefused
no_is_refused room nesting setting keys decides bytes asked e denied =
    ap (option_map (decided_by decides)) e ∙ ap (λ (holds : Bool). Some (answered asked holds)) denied

pub refused_unasked : RefusedUnasked
refused_unasked room nesting setting keys decides bytes refusal e = ap (option_map (decided_by decides)) e
