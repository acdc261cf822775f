-- A reply with the outcome for a whole input as a token.
use Rattle.std.proofs.Common.{◌≡◌, ◌∙◌, ℕ, ◌<◌, ◌≤◌, Bool, true, false, List, [], ◌∷◌, ◌++◌, length, Option, Some, None, Ok, Err, refl, sym, ap, subst, arith, append-nil, append_assoc, length-append}
use Rattle.std.specs.Prelude.{IfOk, Result}
use Rattle.std.proofs.lemmas.Bool.{lt-ltb, le-ltb}
use Rattle.cose_map.specs.Key.Value.{KeyValue}
use Rattle.cose_msg.specs.declared.verdict.Stop.{Stop}
use Rattle.cose_msg.specs.declared.verdict.Verdict.{Verdict}
use Rattle.cose_msg.specs.declared.verdict.Verdict.TheVariants.{Authentic, Refused}
use Rattle.cose_msg.specs.declared.verifier.Verifier.{Verifier}
use Rattle.cose_msg.specs.Answer.{Answer, decided}
use Rattle.cose_msg.specs.Change.{intake_from, sink_from}
use Rattle.cose_msg.specs.Laws.{VerdictStays}
use Rattle.cose_msg.specs.Message.{Decides, Setting, verdict_of, verifying}
use Rattle.cose_msg.specs.Run.{Run}
use Rattle.cose_msg.specs.Reader.{Counts}
use Rattle.cose_cwt.specs.declared.required.TokenStop.TheVariants.{Cwt}
use Rattle.cose_cwt.specs.declared.requirements.Unmet.{Unmet as UnmetRequirement}
use Rattle.cose_cwt.specs.declared.token.CwtStop.{CwtStop}
use Rattle.cose_cwt.specs.declared.token.CwtStop.TheVariants as stops
use Rattle.cose_cwt.specs.Admission.{PolicyValue, admitted_claims}
use Rattle.cose_cwt.specs.Claims.{ClaimsValue}
use Rattle.cose_cwt.specs.Requirements.{RequirementsValue, met}
use Rattle.cose_cwt.specs.Token.{IsRun, IsToken, Outcome, UnlessStopped, of_claims, read_as, stop_in, token_of}
use Rattle.cose_answers.specs.declared.reply.Reply.{Reply}
use Rattle.cose_answers.specs.declared.request.Printing.{Printing}
use Rattle.cose_answers.specs.Admitted.{Admission, if_admitted, if_met, input_token, or_trailing, required_then, stopped_in, token_told, unless_trailed}
use Rattle.cose_answers.specs.Printed.{Says, admitted_under, trailing_refusal, outcome_said, token_setting}
use Rattle.cose_answers.specs.Under.{Under}
use Rattle.cose_answers.specs.Vouch.{vouching}
use Rattle.cose_answers.proofs.lemmas.Messages.Replies.{said_with_keys}

-- The lines of a part after those so far, by the values that the code gave for it.
pub first_lines : {A : Type 0} (lines : A → List ℕ) (told wanted : A) (before all : List ℕ) → told ≡ wanted → all ≡ before ++ lines told → all ≡ before ++ lines wanted
first_lines {A} lines told wanted before all same part = part ∙ ap (λ (x : A). before ++ lines x) same

pub then_lines : {A : Type 0} (lines : A → List ℕ) (told wanted : A) (before so_far after all : List ℕ) → after ≡ before ++ so_far → told ≡ wanted → all ≡ after ++ lines told →
    all ≡ before ++ (so_far ++ lines wanted)
then_lines {A} lines told wanted before so_far after all earlier same part =
    part ∙ ap (λ (x : A). after ++ lines x) same ∙ ap (λ (t : List ℕ). t ++ lines wanted) earlier ∙ append_assoc before so_far (lines wanted)

-- An outcome of a verifier that didn't stop is that of the token.
unless_stopped : {S : Type 0} (outcome : Outcome) → UnlessStopped outcome S → stop_in outcome ≡ None → S
unless_stopped (Ok claims) says none = says
unless_stopped (Err (stops.Message refusal)) says none = says
unless_stopped (Err (stops.Claims refusal)) says none = says
unless_stopped (Err (stops.Stopped stop)) says none = absurd cc

-- In buckets of at most `header` bytes that nest at most `nesting` deep, as claims do.
module _ (header nesting : ℕ) where
  -- After a token that isn't admitted nothing is required, and no byte is looked for.
  refused_token : (verdict : Verdict) (n : ℕ) (policy : PolicyValue) (requirements : RequirementsValue) (payload : List ℕ) (answer : Answer) (outcome : Outcome) (stop : CwtStop) → answer ≡ decided verdict →
      outcome ≡ token_of nesting policy (Ok verdict) payload → outcome ≡ Err stop → Err (Cwt stop) ≡ token_told nesting n policy requirements payload answer
  refused_token (Refused refusal) n policy requirements payload answer outcome stop judged comes e =
      let both : Err (stops.Message refusal) ≡ Err stop = sym comes ∙ e in
      let same : stops.Message refusal ≡ stop = cc in
      sym (ap (token_told nesting n policy requirements payload) judged ∙ ap (λ (s : CwtStop). Err (Cwt s)) same)
  refused_token (Authentic kind alg size taken) n policy requirements payload answer outcome stop judged comes e =
      let refused : of_claims (admitted_claims nesting policy payload) ≡ Err stop = sym comes ∙ e in
      sym (ap (token_told nesting n policy requirements payload) judged ∙ ap (λ (o : Outcome). unless_trailed n taken (if_admitted requirements o)) refused)

  pub unless_admitted : (setting : Setting) (decides : Decides) (policy : PolicyValue) (requirements : RequirementsValue) (bytes : List ℕ) (stop : CwtStop) →
      UnlessStopped (Err stop) (IsToken header nesting setting decides policy bytes (Err stop)) → stopped_in (Err (Cwt stop)) ≡ None → Err (Cwt stop) ≡ input_token header nesting setting decides policy requirements bytes
  unless_admitted setting decides policy requirements bytes stop says none =
      let token = unless_stopped (Err stop) says none in
      refused_token token.verdict (length bytes) policy requirements (read_as header nesting setting decides bytes).so_far.payload (read_as header nesting setting decides bytes).answer (Err stop) stop token.judged token.comes refl

  -- A byte after a token that is admitted, and meets what is required, refuses it.
  unless_followed : (rest taken bytes : List ℕ) (count : ℕ) (claims : ClaimsValue) → bytes ≡ taken ++ rest → count ≡ length taken →
      unless_trailed (length bytes) count (Ok claims) ≡ or_trailing (trailing_refusal rest count) claims
  unless_followed [] taken bytes count claims whole counted =
      let short : length bytes ≤ count = rw (whole, counted) (omega (arith, length-append taken [])) in
      rw (le-ltb count (length bytes) short) refl
  unless_followed (byte ∷ rest) taken bytes count claims whole counted =
      let long : count < length bytes = rw (whole, counted) (omega (arith, length-append taken (byte ∷ rest))) in
      rw (lt-ltb count (length bytes) long) refl

  required_unless_followed : (rest taken bytes : List ℕ) (count : ℕ) (claims : ClaimsValue) (meets : Result (Unit {0}) UnmetRequirement) → bytes ≡ taken ++ rest → count ≡ length taken →
      unless_trailed (length bytes) count (if_met meets (Ok claims)) ≡ if_met meets (or_trailing (trailing_refusal rest count) claims)
  required_unless_followed rest taken bytes count claims (Ok done) whole counted = unless_followed rest taken bytes count claims whole counted
  required_unless_followed rest taken bytes count claims (Err unmet) whole counted = refl

  admitted_token : (verdict : Verdict) (rest taken bytes : List ℕ) (policy : PolicyValue) (requirements : RequirementsValue) (payload : List ℕ) (answer : Answer) (claims : ClaimsValue) → bytes ≡ taken ++ rest → Counts verdict (length taken) →
      answer ≡ decided verdict → Ok claims ≡ token_of nesting policy (Ok verdict) payload →
      token_told nesting (length bytes) policy requirements payload answer ≡ required_then requirements (trailing_refusal rest (length taken)) claims
  admitted_token (Refused refusal) rest taken bytes policy requirements payload answer claims whole counted judged comes = absurd cc
  admitted_token (Authentic kind alg size count) rest taken bytes policy requirements payload answer claims whole counted judged comes =
      ap (token_told nesting (length bytes) policy requirements payload) judged ∙ ap (λ (o : Outcome). unless_trailed (length bytes) count (if_admitted requirements o)) (sym comes)
      ∙ required_unless_followed rest taken bytes count claims (met requirements claims) whole counted ∙ ap (λ (n : ℕ). required_then requirements (trailing_refusal rest n) claims) counted

  -- The verdict of the bytes taken is that of all.
  same_verdict : VerdictStays → (setting : Setting) (decides : Decides) (taken rest : List ℕ) (settled : Bool) → (read_as header nesting setting decides taken).settled ≡ settled →
      ((read_as header nesting setting decides taken).settled ≡ false → rest ≡ []) → verdict_of header nesting setting decides (taken ++ rest) ≡ verdict_of header nesting setting decides taken
  same_verdict stays setting decides taken rest true is ends = stays header nesting setting decides taken rest is
  same_verdict stays setting decides taken rest false is ends =
      ap (verdict_of header nesting setting decides) (ap (λ (more : List ℕ). taken ++ more) (ends is) ∙ append-nil taken)

  -- What is left of the input, and the outcome for the whole by it.
  abbrev IsLeft : Setting → Decides → PolicyValue → RequirementsValue → List ℕ → Option (List ℕ) → ℕ → ClaimsValue → Type 0
  IsLeft setting decides policy requirements bytes come_after count claims =
      (rest : List ℕ) × (come_after ≡ Some rest) × (input_token header nesting setting decides policy requirements bytes ≡ required_then requirements (trailing_refusal rest count) claims)

  left_by : VerdictStays → (setting : Setting) (decides : Decides) (policy : PolicyValue) (requirements : RequirementsValue) (come_after : Option (List ℕ)) (ended : Bool) (verdict : Result Verdict Stop) (taken payload bytes : List ℕ) (claims : ClaimsValue) →
      Run (verifying header nesting setting decides) decided [] [] (intake_from (Some bytes) come_after ended) (sink_from (Some []) (Some payload)) verdict taken → Ok claims ≡ token_of nesting policy verdict payload →
      IsToken header nesting setting decides policy bytes (Ok claims) → IsLeft setting decides policy requirements bytes come_after (length taken) claims
  left_by stays setting decides policy requirements come_after ended (Err stop) taken payload bytes claims run comes token = absurd cc
  left_by stays setting decides policy requirements None ended (Ok verdict) taken payload bytes claims run comes token = absurd run.bytes
  left_by stays setting decides policy requirements (Some rest) ended (Ok verdict) taken payload bytes claims run comes token =
      let whole : bytes ≡ taken ++ rest = run.bytes in
      let same : verdict_of header nesting setting decides bytes ≡ verdict_of header nesting setting decides taken =
      ap (verdict_of header nesting setting decides) whole
      ∙ same_verdict stays setting decides taken rest (read_as header nesting setting decides taken).settled refl (λ open_yet. (run.answer.ends.unsettled open_yet).1) in
      let found : decided token.verdict ≡ decided verdict = sym token.judged ∙ same ∙ run.answer.answer in
      let one : verdict ≡ token.verdict = cc in
      let counted : Counts token.verdict (length taken) = subst (λ (v : Verdict). Counts v (length taken)) one run.answer.counted in
      (rest, refl, admitted_token token.verdict rest taken bytes policy requirements (read_as header nesting setting decides bytes).so_far.payload (read_as header nesting setting decides bytes).answer claims whole counted token.judged token.comes)

  pub left_of_run : VerdictStays → (setting : Setting) (decides : Decides) (policy : PolicyValue) (requirements : RequirementsValue) (come come_after : Option (List ℕ)) (ended : Bool) {S : Type 0} {K : _} (v : Verifier header nesting S K) (bytes : List ℕ) (claims : ClaimsValue) (count : ℕ) →
      IsRun setting decides policy (intake_from come come_after ended) v (Ok claims) → IsToken header nesting setting decides policy bytes (Ok claims) → come ≡ Some bytes → count ≡ v.taken →
      IsLeft setting decides policy requirements bytes come_after count claims
  left_of_run stays setting decides policy requirements come come_after ended v bytes claims count run token told counts =
      let all = subst (λ (old : Option (List ℕ)). Run (verifying header nesting setting decides) decided [] [] (intake_from old come_after ended) (sink_from (Some []) (Some run.payload)) run.verdict run.taken) told run.run in
      subst (λ n. IsLeft setting decides policy requirements bytes come_after n claims) (sym (counts ∙ run.counted))
      (left_by stays setting decides policy requirements come_after ended run.verdict run.taken run.payload bytes claims all run.comes token)

  pub of_left : (setting : Setting) (decides : Decides) (policy : PolicyValue) (requirements : RequirementsValue) (bytes : List ℕ) (come_after : Option (List ℕ)) (count : ℕ) (claims : ClaimsValue) (seen : Admission) →
      IsLeft setting decides policy requirements bytes come_after count claims → ((rest : List ℕ) → come_after ≡ Some rest → seen ≡ required_then requirements (trailing_refusal rest count) claims) →
      seen ≡ input_token header nesting setting decides policy requirements bytes
  of_left setting decides policy requirements bytes come_after count claims seen left h = h left.0 left.1 ∙ sym left.2

-- A reply with the outcome for a token, where nothing stopped it.
says_unless : {F : Type 0} (printing : Printing) (outcome whole : Admission) (reply : Result Reply F) → (stopped_in outcome ≡ None → outcome ≡ whole) → IfOk reply (Says (outcome_said printing outcome)) → IfOk reply (λ _. stopped_in outcome ≡ None) →
    IfOk reply (Says (outcome_said printing whole))
says_unless printing outcome whole (Err fault) is says unstopped = tt
says_unless printing outcome whole (Ok reply) is says unstopped = subst (λ (o : Admission). Says (outcome_said printing o) reply) (is unstopped) says

pub says_admitted : {F : Type 0} (under : Under) (keys : List KeyValue) (setting : Setting) (policy : PolicyValue) (requirements : RequirementsValue) (printing : Printing) (bytes : List ℕ) (outcome : Admission) (reply : Result Reply F) →
    under.keys ≡ Ok keys → setting ≡ token_setting under.room.claims keys under.aad under.wanted → (stopped_in outcome ≡ None → outcome ≡ input_token under.room.header under.room.nesting setting (vouching under.vouch) policy requirements bytes) → IfOk reply (Says (outcome_said printing outcome)) →
    IfOk reply (λ _. stopped_in outcome ≡ None) → IfOk reply (Says (admitted_under under policy requirements printing bytes))
says_admitted under keys setting policy requirements printing bytes outcome reply usable set is says unstopped =
    let said = says_unless printing outcome (input_token under.room.header under.room.nesting setting (vouching under.vouch) policy requirements bytes) reply is says unstopped in
    let same : outcome_said printing (input_token under.room.header under.room.nesting setting (vouching under.vouch) policy requirements bytes) ≡ admitted_under under policy requirements printing bytes =
    ap (λ (x : Setting). outcome_said printing (input_token under.room.header under.room.nesting x (vouching under.vouch) policy requirements bytes)) set ∙ sym (said_with_keys under.keys keys _ usable) in
    subst (λ o. IfOk reply (Says o)) same said
