use Rattle.std.proofs.Common.{◌≡◌, ◌∙◌, Err, IfOk, Ok, Result, Some, ap, false, sym, true}
use Rattle.std.specs.Result.{MatchResult, is_ok}
use Rattle.std.proofs.lemmas.Result.{IfOk-weaker}
use Rattle.cose_files.specs.NewFile.{Made}
use Rattle.cose_answers.proofs.answers.payload_to.new_file.Goals as goal

-- What holds of a value holds of that of a result which differs in its fault alone.
mapped : {T E F : Type 0} (r : Result T E) (s : Result T F) (P : T → Type 0) (Q : E → Type 0) → MatchResult r (λ x. s ≡ Ok x) Q → is_ok s ≡ is_ok r → IfOk r P → IfOk s P
mapped (Ok x) s P Q is same good = rw is good
mapped (Err e) (Ok x) P Q is same good = absurd cc
mapped (Err e) (Err f) P Q is same good = tt

pub returns-in-Ok-false-clause-made : goal.returns-in-Ok-false-clause-made
returns-in-Ok-false-clause-made g c =
    let file = ap (λ (made : Made). made.file) c.in-Ok-false.ensures.looked in
    mapped c.create.result c.map_err.result _ _ c.map_err.ensures.cases c.map_err.ensures.variant (IfOk-weaker c.create.result _ _ (λ new first. (sym file ∙ first.0, first.1)) c.create.ensures.made)

pub returns-in-Ok-false-clause-taken : goal.returns-in-Ok-false-clause-taken
returns-in-Ok-false-clause-taken g c = λ taken.
    let looked = ap (λ (made : Made). made.is_taken) c.in-Ok-false.ensures.looked in
    let contrary : Some false ≡ Some true = sym (c.create.ensures.looked ∙ looked ∙ ap Some c.in-Ok-false.field-0-test) ∙ taken in
    absurd cc
