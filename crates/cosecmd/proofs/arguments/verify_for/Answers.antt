use Rattle.std.proofs.Common.{◌≡◌, ◌∙◌, ◌==◌, false, List, length, refl, string_bytes, subst, sym, true, ℕ}
use Rattle.std.proofs.lemmas.Result.{IfOk-weaker}
use Rattle.cosecmd.specs.PayloadTo.{AsksToVerify}
use Rattle.cose_answers.specs.Under.{under_of}
use Rattle.cose_answers.proofs.lemmas.Messages.HeaderLabels.{no_labels, some_headed}
use Rattle.cose_answers.proofs.lemmas.Requests.KeptRequests.{none_named}
use Rattle.cosecmd.proofs.arguments.verify_for.Goals as goal

pub returns-then-is_empty-clause-asks : goal.returns-then-is_empty-clause-asks
returns-then-is_empty-clause-asks c =
    let none : (length c.args.labels.items == 0) ≡ true = rw (← c.as_slice-named.ensures.value) (sym c.is_empty.ensures ∙ c.if-is_empty.true) in
    IfOk-weaker c.verify_or_keep.result _ _ (λ request asks. subst (λ (labels : List (List ℕ)). AsksToVerify labels c.args.checks c.args.payload request) (no_labels string_bytes c.args.labels.items none) asks) c.verify_or_keep.ensures.asks

pub returns-clause-asks : goal.returns-clause-asks
returns-clause-asks c =
    let some : (length c.args.labels.items == 0) ≡ false = rw (← c.as_slice-named.ensures.value) (sym c.is_empty.ensures ∙ c.if-is_empty.false) in
    record {
      payload_is = λ content. refl;
      asked = λ detached bytes. some_headed string_bytes c.args.labels.items (under_of c.args.checks) detached bytes some;
      makes_none = refl;
      one = refl;
      kept = λ name named. none_named name _ named;
    }
