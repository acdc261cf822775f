-- The next token of a sequence, by what a run of `verify_cwt` did.
use Rattle.std.proofs.Common.{◌≡◌, ◌∙◌, ℕ, Bool, true, List, [], length, Option, Some, None, Result, Ok, Err, refl, sym, ap, subst, arith}
use Rattle.std.proofs.lemmas.Bool.{le-ltb}
use Rattle.cose_msg.specs.declared.verdict.Stop.{Stop}
use Rattle.cose_msg.specs.declared.verdict.Verdict.{Verdict}
use Rattle.cose_msg.specs.declared.verdict.Verdict.TheVariants.{Authentic, Refused}
use Rattle.cose_msg.specs.declared.verifier.Verifier.{Verifier}
use Rattle.cose_msg.specs.Answer.{decided}
use Rattle.cose_msg.specs.Change.{intake_from, sink_from}
use Rattle.cose_msg.specs.Kept.{bytes_taken}
use Rattle.cose_msg.specs.Laws.{MessageEndsTruncated}
use Rattle.cose_msg.specs.Message.{Decides, Setting, verifying}
use Rattle.cose_msg.specs.Reader.{Counts}
use Rattle.cose_msg.specs.Run.{Run}
use Rattle.cose_cwt.specs.declared.token.CwtStop.TheVariants as stops
use Rattle.cose_cwt.specs.Admission.{PolicyValue, admitted_claims}
use Rattle.cose_cwt.specs.Claims.{ClaimsValue}
use Rattle.cose_cwt.specs.Requirements.{RequirementsValue}
use Rattle.cose_cwt.specs.Token.{IsRun, Outcome, of_claims, read_as, token_of}
use Rattle.cose_map.specs.Map.Read.{Read}
use Rattle.cose_answers.specs.Admitted.{Admission, if_admitted, input_token, stopped_in, token_told, unless_trailed}
use Rattle.cose_answers.specs.Sequence.{is_read_to_its_end, is_whole}
use Rattle.cose_answers.proofs.lemmas.Sequences.NextMessages.{Took, took}

-- After the last byte of a token no byte follows it.
none_trails : (n count : ℕ) (admission : Admission) → count ≡ n → unless_trailed n count admission ≡ admission
none_trails n count (Ok claims) counted = rw (le-ltb count n (omega (arith, counted))) refl
none_trails n count (Err stop) counted = refl

-- The outcome for a token that all these bytes are.
outcome_alone : (nesting n : ℕ) (policy : PolicyValue) (requirements : RequirementsValue) (payload : List ℕ) (verdict : Verdict) → Counts verdict n →
    if_admitted requirements (token_of nesting policy (Ok verdict) payload) ≡ token_told nesting n policy requirements payload (decided verdict)
outcome_alone nesting n policy requirements payload (Refused refusal) counted = refl
outcome_alone nesting n policy requirements payload (Authentic kind alg size count) counted =
    sym (none_trails n count (if_admitted requirements (of_claims (admitted_claims nesting policy payload))) counted)

-- Where the claims of a message are refused, it was read to its end.
read_to_its_end : (nesting : ℕ) (policy : PolicyValue) (payload : List ℕ) (verdict : Verdict) → is_read_to_its_end (token_of nesting policy (Ok verdict) payload) ≡ is_whole (decided verdict)
read_to_its_end nesting policy payload (Refused refusal) = refl
read_to_its_end nesting policy payload (Authentic kind alg size count) = go (admitted_claims nesting policy payload)
  where
    go : (claims : Read ClaimsValue) → is_read_to_its_end (of_claims claims) ≡ true
    go (Ok claims) = refl
    go (Err refusal) = refl

-- The bytes that the run took of an input, and the outcome for the token that they are.
pub record TookToken (header nesting : ℕ) (setting : Setting) (decides : Decides) (policy : PolicyValue) (requirements : RequirementsValue) (bytes : List ℕ) (come_after : Option (List ℕ)) (count : ℕ) (outcome : Outcome) : Type 0 where
  pub taken : List ℕ
  pub verdict : Verdict
  pub these : Took (verifying header nesting setting decides) bytes come_after taken verdict
  pub counted : count ≡ length taken
  pub alone : if_admitted requirements outcome ≡ input_token header nesting setting decides policy requirements taken
  pub whole : is_read_to_its_end outcome ≡ is_whole (decided verdict)

pub took_token : MessageEndsTruncated → (header nesting : ℕ) (setting : Setting) (decides : Decides) (policy : PolicyValue) (requirements : RequirementsValue) (come come_after : Option (List ℕ)) (ended : Bool) {S : Type 0} {K : _} (v : Verifier header nesting S K) (outcome : Outcome) (count : ℕ) (bytes : List ℕ) →
    come ≡ Some bytes → IsRun setting decides policy (intake_from come come_after ended) v outcome → count ≡ bytes_taken v → stopped_in (if_admitted requirements outcome) ≡ None →
    TookToken header nesting setting decides policy requirements bytes come_after count outcome
took_token truncated header nesting setting decides policy requirements come come_after ended v outcome count bytes known run counts unstopped = go run.verdict refl
  where
    go : (verdict : Result Verdict Stop) → run.verdict ≡ verdict → TookToken header nesting setting decides policy requirements bytes come_after count outcome
    go (Err stop) is =
        let stopped : outcome ≡ Err (stops.Stopped stop) = run.comes ∙ ap (λ (r : Result Verdict Stop). token_of nesting policy r run.payload) is in
        let some : Some stop ≡ None = sym (ap (λ (o : Outcome). stopped_in (if_admitted requirements o)) stopped) ∙ unstopped in
        absurd cc
    go (Ok verdict) is =
        let its_run = subst (λ (r : Result Verdict Stop). Run (verifying header nesting setting decides) decided [] [] (intake_from come come_after ended) (sink_from (Some []) (Some run.payload)) r run.taken) is run.run in
        let these = took truncated (verifying header nesting setting decides) come come_after ended (sink_from (Some []) (Some run.payload)) verdict run.taken bytes known its_run in
        let comes : outcome ≡ token_of nesting policy (Ok verdict) run.payload = run.comes ∙ ap (λ (r : Result Verdict Stop). token_of nesting policy r run.payload) is in
        let payload : (read_as header nesting setting decides run.taken).so_far.payload ≡ run.payload = its_run.payload.1 ∙ sym its_run.payload.2 in
        record {
          taken = run.taken;
          verdict = verdict;
          these = these;
          counted = counts ∙ run.counted;
          alone = ap (if_admitted requirements) comes ∙ outcome_alone nesting (length run.taken) policy requirements run.payload verdict these.counted
              ∙ ap (λ (p : List ℕ). token_told nesting (length run.taken) policy requirements p (decided verdict)) (sym payload)
              ∙ ap (token_told nesting (length run.taken) policy requirements (read_as header nesting setting decides run.taken).so_far.payload) (sym these.answer);
          whole = ap is_read_to_its_end comes ∙ read_to_its_end nesting policy run.payload verdict;
        }
