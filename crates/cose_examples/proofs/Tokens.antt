-- A token that is admitted, with nothing after it.
use Rattle.std.proofs.Common.{◌≡◌, ℕ, Bool, List, [], ◌++◌, length, take, Option, None, Some, Result, Ok, Err, sym, ap, subst, ◌∙◌}
use Rattle.std.specs.Io.KnownBytes.{Consumes, IsAtEnd}
use Rattle.std.proofs.lemmas.List.{append-nil}
use Rattle.cose_head.specs.declared.algorithm.Alg.{Alg}
use Rattle.cose_head.specs.declared.kind.Kind.{Kind}
use Rattle.cose_map.specs.Key.Value.{KeyValue}
use Rattle.cose_map.specs.Map.Read.{Read}
use Rattle.cose_msg.specs.declared.verdict.Stop.{Stop}
use Rattle.cose_msg.specs.declared.verdict.Verdict.{Verdict}
use Rattle.cose_msg.specs.declared.verdict.Verdict.TheVariants.{Authentic, Refused}
use Rattle.cose_msg.specs.declared.verifier.Verifier.{Verifier}
use Rattle.cose_msg.specs.Answer.{decided}
use Rattle.cose_msg.specs.Change.{intake_from, sink_from}
use Rattle.cose_msg.specs.Message.{Setting, verdict_of, verifying}
use Rattle.cose_msg.specs.Run.{Run}
use Rattle.cose_cwt.specs.Admission.{PolicyValue, admitted_claims}
use Rattle.cose_cwt.specs.Claims.{ClaimsValue}
use Rattle.cose_cwt.specs.Token.{IsRun, IsToken, Outcome, of_claims, read_as, token_of}
use Rattle.cose_examples.specs.Memory.{never}
use Rattle.cose_examples.specs.Token.{IsAdmitted, token_setting}

-- Where no byte is given, none was to come.
pub none_left : (old new : Option (List ℕ)) (n : ℕ) (into : List ℕ) → n ≡ 0 → Consumes old new (take n into) → IsAtEnd new → IsAtEnd old
none_left None new n into zero took end = tt
none_left (Some xs) None n into zero took end = absurd took
none_left (Some xs) (Some ys) n into zero took end = let here = rw zero at took in here ∙ end

abbrev got : ClaimsValue → Outcome
got claims = Ok claims

admitted_as : (read : Read ClaimsValue) (claims : ClaimsValue) → got claims ≡ of_claims read → read ≡ Ok claims
admitted_as (Ok x) claims e = cc
admitted_as (Err refusal) claims e = absurd cc

pub record IsJudged (keys : List KeyValue) (token : List ℕ) : Type 0 where
  pub kind : Kind
  pub alg : Alg
  pub payload : ℕ
  pub judged : verdict_of 1024 8 (token_setting keys) never token ≡ decided (Authentic kind alg payload (length token))

module _ (keys : List KeyValue) (policy : PolicyValue) (token : List ℕ) (claims : ClaimsValue) where
  abbrev outcome : Outcome
  outcome = Ok claims

  abbrev setting : Setting
  setting = token_setting keys

  by_run : (after : Option (List ℕ)) (ended : Bool) (verdict : Result Verdict Stop) (payload taken : List ℕ) → outcome ≡ token_of 8 policy verdict payload →
      Run (verifying 1024 8 setting never) decided [] [] (intake_from (Some token) after ended) (sink_from (Some []) (Some payload)) verdict taken → IsAtEnd after → IsJudged keys token
  by_run None ended (Ok (Authentic kind alg n t)) payload taken comes run end = absurd run.bytes
  by_run (Some rest) ended (Ok (Authentic kind alg n t)) payload taken comes run end =
      let all : token ≡ taken = run.bytes ∙ ap (λ (l : List ℕ). taken ++ l) end ∙ append-nil taken in
      let count : t ≡ length token = run.answer.counted ∙ ap length (sym all) in
      record { kind = kind; alg = alg; payload = n; judged = ap (verdict_of 1024 8 setting never) all ∙ run.answer.answer ∙ ap (λ (k : ℕ). decided (Authentic kind alg n k)) count }
  by_run after ended (Ok (Refused refusal)) payload taken comes run end = absurd cc
  by_run after ended (Err stop) payload taken comes run end = absurd cc

  pub admits : {S : Type 0} {K : _} {v : Verifier 1024 8 S K} (after : Option (List ℕ)) (ended : Bool) → IsToken 1024 8 setting never policy token outcome → IsRun setting never policy (intake_from (Some token) after ended) v outcome → IsAtEnd after →
      IsAdmitted keys policy token claims
  admits after ended t r end =
      let j = by_run after ended r.verdict r.payload r.taken r.comes r.run end in
      let same : decided t.verdict ≡ decided (Authentic j.kind j.alg j.payload (length token)) = sym t.judged ∙ j.judged in
      let verdict : t.verdict ≡ Authentic j.kind j.alg j.payload (length token) = cc in
      let comes : outcome ≡ of_claims (admitted_claims 8 policy (read_as 1024 8 setting never token).so_far.payload) =
      t.comes ∙ ap (λ (v : Verdict). token_of 8 policy (Ok v) (read_as 1024 8 setting never token).so_far.payload) verdict in
      record { kind = j.kind; alg = j.alg; payload = j.payload; judged = j.judged; admitted = admitted_as _ claims comes }

pub admits_in : {S : Type 0} {K : _} {v : Verifier 1024 8 S K} (keys : List KeyValue) (policy : PolicyValue) (token : List ℕ) (claims : ClaimsValue) (under : Setting) (conditions : PolicyValue) (come after : Option (List ℕ)) (ended : Bool) →
    under ≡ token_setting keys → conditions ≡ policy → come ≡ Some token → IsToken 1024 8 under never conditions token (got claims) → IsRun under never conditions (intake_from come after ended) v (got claims) → IsAtEnd after → IsAdmitted keys policy token claims
admits_in {v = v} keys policy token claims under conditions come after ended e f told t r end =
    let same : IsToken 1024 8 (token_setting keys) never policy token (got claims) =
    subst (λ (p : PolicyValue). IsToken 1024 8 (token_setting keys) never p token (got claims)) f (subst (λ (s : Setting). IsToken 1024 8 s never conditions token (got claims)) e t) in
    let ran : IsRun (token_setting keys) never policy (intake_from (Some token) after ended) v (got claims) =
    subst (λ (c : Option (List ℕ)). IsRun (token_setting keys) never policy (intake_from c after ended) v (got claims)) told
    (subst (λ (p : PolicyValue). IsRun (token_setting keys) never p (intake_from come after ended) v (got claims)) f (subst (λ (s : Setting). IsRun s never conditions (intake_from come after ended) v (got claims)) e r)) in
    admits keys policy token claims after ended same ran end
