-- From a run of the verifier to the result for a token.
use Rattle.std.proofs.Common.{◌≡◌, ◌∙◌, ℕ, ◌≤◌, Bool, true, false, List, [], ◌++◌, length, Option, Some, None, Ok, Err, refl, sym, ap, subst}
use Rattle.std.specs.Prelude.{Result, ◌↔◌}
use Rattle.std.proofs.lemmas.List.{append-nil}
use Rattle.cose_head.specs.declared.refusal.Refusal.{Refusal}
use Rattle.cose_map.specs.Laws.Inside.{RefusedBy}
use Rattle.cose_map.specs.Map.Read.{Read}
use Rattle.cose_msg.specs.declared.verdict.Stop.{Stop}
use Rattle.cose_msg.specs.declared.verdict.Stop.TheVariants.{Again}
use Rattle.cose_msg.specs.declared.verdict.Verdict.{Verdict}
use Rattle.cose_msg.specs.declared.verdict.Verdict.TheVariants.{Authentic, Refused}
use Rattle.cose_msg.specs.Change.{IntakeChange, intake_from, sink_from}
use Rattle.cose_msg.specs.Kept.{answer_kept}
use Rattle.cose_msg.specs.Laws.{MessageStays}
use Rattle.cose_msg.specs.Message.{Decides, Setting, verifying}
use Rattle.cose_msg.specs.Reading.{Reading}
use Rattle.cose_msg.specs.Answer.{decided}
use Rattle.cose_msg.specs.Rules.{Rules}
use Rattle.cose_msg.specs.Run.{Run, is_intake_stop, is_sink_stop, stop_in as stop_of, stops_for_sink}
use Rattle.cose_cwt.specs.declared.token.CwtStop.TheVariants as stops
use Rattle.cose_cwt.specs.Admission.{PolicyValue, admitted_claims}
use Rattle.cose_cwt.specs.Claims.{ClaimsValue}
use Rattle.cose_cwt.specs.Token.{IsToken, Outcome, UnlessStopped, is_for_intake, is_for_store, of_claims, read_as, stop_in, token_of}

-- the contents of a store before and after, where they are known
pub with_contents : (rules : Rules) (intake : IntakeChange) (contents contents_after : Option (List ℕ)) (verdict : Result Verdict Stop) (taken payload : List ℕ) →
    contents ≡ Some [] → contents_after ≡ Some payload →
    Run rules decided [] [] intake (sink_from contents contents_after) verdict taken →
    Run rules decided [] [] intake (sink_from (Some []) (Some payload)) verdict taken
with_contents rules intake contents contents_after verdict taken payload before after run =
    subst (λ (old : Option (List ℕ)). Run rules decided [] [] intake (sink_from old (Some payload)) verdict taken) before
    (subst (λ (new : Option (List ℕ)). Run rules decided [] [] intake (sink_from contents new) verdict taken) after run)

-- The reading of the bytes taken is that of all bytes.
same_reading : MessageStays → (H D : ℕ) (setting : Setting) (decides : Decides) (taken rest : List ℕ) (settled : Bool) → (read_as H D setting decides taken).settled ≡ settled →
    ((read_as H D setting decides taken).settled ≡ false → rest ≡ []) → read_as H D setting decides (taken ++ rest) ≡ read_as H D setting decides taken
same_reading stays H D setting decides taken rest true is ends = stays (verifying H D setting decides) taken rest is
same_reading stays H D setting decides taken rest false is ends =
    ap (read_as H D setting decides) (ap (λ (more : List ℕ). taken ++ more) (ends is) ∙ append-nil taken)

-- All bytes have the verdict that the bytes taken have, and the payload that was among them.
pub read_whole : MessageStays → (H D : ℕ) (setting : Setting) (decides : Decides) (come_after : Option (List ℕ)) (ended : Bool) (verdict : Verdict) (taken payload bytes : List ℕ) →
    Run (verifying H D setting decides) decided [] [] (intake_from (Some bytes) come_after ended) (sink_from (Some []) (Some payload)) (Ok verdict) taken →
    ((read_as H D setting decides bytes).answer ≡ decided verdict) × ((read_as H D setting decides bytes).so_far.payload ≡ payload)
read_whole stays H D setting decides None ended verdict taken payload bytes run = absurd run.bytes
read_whole stays H D setting decides (Some rest) ended verdict taken payload bytes run =
    let whole : bytes ≡ taken ++ rest = run.bytes in
    let same : read_as H D setting decides bytes ≡ read_as H D setting decides taken =
    ap (read_as H D setting decides) whole
    ∙ same_reading stays H D setting decides taken rest (read_as H D setting decides taken).settled refl (λ open_yet. (run.answer.ends.unsettled open_yet).1) in
    let grown : (read_as H D setting decides taken).so_far.payload ≡ payload = run.payload.1 ∙ sym run.payload.2 in
    (ap (λ (reading : Reading). reading.answer) same ∙ run.answer.answer, ap (λ (reading : Reading). reading.so_far.payload) same ∙ grown)

judged : MessageStays → (H D : ℕ) (setting : Setting) (decides : Decides) (policy : PolicyValue) (come_after : Option (List ℕ)) (ended : Bool) (verdict : Verdict) (taken payload bytes : List ℕ) (outcome : Outcome) →
    Run (verifying H D setting decides) decided [] [] (intake_from (Some bytes) come_after ended) (sink_from (Some []) (Some payload)) (Ok verdict) taken → outcome ≡ token_of D policy (Ok verdict) payload →
    IsToken H D setting decides policy bytes outcome
judged stays H D setting decides policy come_after ended verdict taken payload bytes outcome run comes =
    let read = read_whole stays H D setting decides come_after ended verdict taken payload bytes run in
    record {
      verdict = verdict;
      judged = read.0;
      comes = comes ∙ ap (token_of D policy (Ok verdict)) (sym read.1);
    }

pub unless_stopped : {Says : Type 0} (outcome : Outcome) → Says → UnlessStopped outcome Says
unless_stopped (Ok claims) says = says
unless_stopped (Err (stops.Stopped stop)) says = tt
unless_stopped (Err (stops.Message refusal)) says = says
unless_stopped (Err (stops.Claims refusal)) says = says

pub token_of_run : MessageStays → (H D : ℕ) (setting : Setting) (decides : Decides) (policy : PolicyValue) (come come_after : Option (List ℕ)) (ended : Bool) (verdict : Result Verdict Stop) (taken payload bytes : List ℕ) (outcome : Outcome) →
    Run (verifying H D setting decides) decided [] [] (intake_from come come_after ended) (sink_from (Some []) (Some payload)) verdict taken → outcome ≡ token_of D policy verdict payload → come ≡ Some bytes →
    UnlessStopped outcome (IsToken H D setting decides policy bytes outcome)
token_of_run stays H D setting decides policy come come_after ended (Ok verdict) taken payload bytes outcome run comes e =
    unless_stopped outcome (judged stays H D setting decides policy come_after ended verdict taken payload bytes outcome
    (subst (λ (old : Option (List ℕ)). Run (verifying H D setting decides) decided [] [] (intake_from old come_after ended) (sink_from (Some []) (Some payload)) (Ok verdict) taken) e run) comes)
token_of_run stays H D setting decides policy come come_after ended (Err stop) taken payload bytes outcome run comes e =
    subst (λ (o : Outcome). UnlessStopped o (IsToken H D setting decides policy bytes outcome)) (sym comes) tt

-- The place of a refusal of the claims is in the payload, or at its end.
claims_placed : (read : Read ClaimsValue) (end : ℕ) (refusal : Refusal) → of_claims read ≡ Err (stops.Claims refusal) → RefusedBy end read → refusal.place ≤ end
claims_placed (Ok claims) end refusal e s = absurd cc
claims_placed (Err other) end refusal e s = let same : other ≡ refusal = cc in subst (λ (r : Refusal). r.place ≤ end) same s

pub token_placed : (depth : ℕ) (policy : PolicyValue) (verdict : Result Verdict Stop) (payload : List ℕ) (outcome : Outcome) (refusal : Refusal) → outcome ≡ token_of depth policy verdict payload →
    outcome ≡ Err (stops.Claims refusal) → RefusedBy (length payload) (admitted_claims depth policy payload) → refusal.place ≤ length payload
token_placed depth policy (Ok (Authentic kind alg n taken)) payload outcome refusal comes e s =
    claims_placed (admitted_claims depth policy payload) (length payload) refusal (sym comes ∙ e) s
token_placed depth policy (Ok (Refused other)) payload outcome refusal comes e s = let clash : Err (stops.Message other) ≡ Err (stops.Claims refusal) = sym comes ∙ e in absurd cc
token_placed depth policy (Err stop) payload outcome refusal comes e s = let clash : Err (stops.Stopped stop) ≡ Err (stops.Claims refusal) = sym comes ∙ e in absurd cc

-- Where the verifier doesn't stop for the store, the token doesn't either.
no_stop : (read : Read ClaimsValue) → stop_in (of_claims read) ≡ None
no_stop (Ok claims) = refl
no_stop (Err refusal) = refl

store_stop : (depth : ℕ) (policy : PolicyValue) (verdict : Result Verdict Stop) (payload : List ℕ) → stops_for_sink verdict ≡ false → is_for_store (stop_in (token_of depth policy verdict payload)) ≡ false
store_stop depth policy (Ok (Authentic kind alg length taken)) payload e = ap is_for_store (no_stop (admitted_claims depth policy payload))
store_stop depth policy (Ok (Refused refusal)) payload e = refl
store_stop depth policy (Err stop) payload e = e

pub store_suffices : (depth : ℕ) (policy : PolicyValue) (verdict : Result Verdict Stop) (payload : List ℕ) (outcome : Outcome) → outcome ≡ token_of depth policy verdict payload →
    stops_for_sink verdict ≡ false → is_for_store (stop_in outcome) ≡ false
store_suffices depth policy verdict payload outcome comes e = ap (λ (o : Outcome). is_for_store (stop_in o)) comes ∙ store_stop depth policy verdict payload e

pub none_or_some : {A P : Type 0} (option : Option A) → (option ≡ None → P) → ((value : A) → option ≡ Some value → P) → P
none_or_some None none some = none refl
none_or_some (Some value) none some = some value refl

-- A kept answer is a verdict, or says that the verifier had stopped: it isn't a failure in this call.
no_failure : (depth : ℕ) (policy : PolicyValue) (payload : List ℕ) (stopped : Bool) (verdict : Option Verdict) (answer : Result Verdict Stop) → answer_kept stopped verdict ≡ Some answer →
    (is_for_intake (stop_in (token_of depth policy answer payload)) ≡ false) × (is_for_store (stop_in (token_of depth policy answer payload)) ≡ false)
no_failure depth policy payload true verdict (Ok other) kept = absurd cc
no_failure depth policy payload true verdict (Err stop) kept =
    let same : Again ≡ stop = cc in
    subst (λ (s : Stop). (is_intake_stop (Some s) ≡ false) × (is_sink_stop (Some s) ≡ false)) same (refl, refl)
no_failure depth policy payload false None answer kept = absurd cc
no_failure depth policy payload false (Some verdict) (Err stop) kept = absurd cc
no_failure depth policy payload false (Some verdict) (Ok (Refused refusal)) kept = (refl, refl)
no_failure depth policy payload false (Some verdict) (Ok (Authentic kind alg length taken)) kept =
    let none = no_stop (admitted_claims depth policy payload) in
    (ap is_for_intake none, ap is_for_store none)

pub kept_is_no_failure : (depth : ℕ) (policy : PolicyValue) (payload : List ℕ) (stopped : Bool) (known : Option Verdict) (verdict answer : Result Verdict Stop) (outcome : Outcome) →
    outcome ≡ token_of depth policy verdict payload → answer_kept stopped known ≡ Some answer → verdict ≡ answer →
    (is_for_intake (stop_in outcome) ≡ false) × (is_for_store (stop_in outcome) ≡ false)
kept_is_no_failure depth policy payload stopped known verdict answer outcome comes kept same =
    let all : outcome ≡ token_of depth policy answer payload = comes ∙ ap (λ (a : Result Verdict Stop). token_of depth policy a payload) same in
    subst (λ (o : Outcome). (is_for_intake (stop_in o) ≡ false) × (is_for_store (stop_in o) ≡ false)) (sym all) (no_failure depth policy payload stopped known answer kept)

-- A kept answer comes with nothing in the store, which was cleared.
pub answers_again : (depth : ℕ) (policy : PolicyValue) (verdict answer : Result Verdict Stop) (payload : List ℕ) (outcome : Outcome) →
    outcome ≡ token_of depth policy verdict payload → verdict ≡ answer → payload ≡ [] → outcome ≡ token_of depth policy answer []
answers_again depth policy verdict answer payload outcome comes same none =
    comes ∙ ap (λ (v : Result Verdict Stop). token_of depth policy v payload) same ∙ ap (token_of depth policy answer) none

pub nothing_held : {S : Type 0} (contents : S → Option (List ℕ)) (before after : S) (payload : List ℕ) →
    contents before ≡ Some [] → after ≡ before → contents after ≡ Some payload → payload ≡ []
nothing_held {S} contents before after payload empty same held =
    let e : Some payload ≡ Some [] = sym held ∙ ap contents same ∙ empty in cc

-- The token stops for what the verifier stops for.
pub token_stop : (depth : ℕ) (policy : PolicyValue) (verdict : Result Verdict Stop) (payload : List ℕ) → stop_in (token_of depth policy verdict payload) ≡ stop_of verdict
token_stop depth policy (Ok (Authentic kind alg length taken)) payload = no_stop (admitted_claims depth policy payload)
token_stop depth policy (Ok (Refused refusal)) payload = refl
token_stop depth policy (Err stop) payload = refl

pub stops_for : (verdict : Result Verdict Stop) (stop : Stop) → stop_of verdict ≡ Some stop → verdict ≡ Err stop
stops_for (Ok verdict) stop e = absurd cc
stops_for (Err other) stop e = cc

pub stopped_before : {P : Type 0} (depth : ℕ) (policy : PolicyValue) (verdict : Result Verdict Stop) (payload : List ℕ) (outcome : Outcome) → outcome ≡ token_of depth policy verdict payload →
    ((verdict ≡ Err Again) ↔ P) → ((outcome ≡ Err (stops.Stopped Again)) ↔ P)
stopped_before {P} depth policy verdict payload outcome comes before = (
  λ e. before.0 (stops_for verdict Again (sym (token_stop depth policy verdict payload) ∙ sym (ap stop_in comes) ∙ ap stop_in e)),
  λ p. comes ∙ ap (λ (v : Result Verdict Stop). token_of depth policy v payload) (before.1 p),
)
