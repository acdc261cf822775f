use Rattle.std.proofs.Common.{◌≡◌, arith, Ok, Err, refl, sym, ap, ◌∙◌}
use Rattle.cose_msg.specs.Verifier.{setting_in}
use Rattle.cose_c.specs.Stated.{setting_stated}
use Rattle.cose_c.proofs.authenticate.authenticated.Goals as goal

pub returns-in-Ok-clause-verdict : goal.returns-in-Ok-clause-verdict
returns-in-Ok-clause-verdict g c =
    let given : setting_stated c.args.terms.now ≡ Ok (setting_in c.new-verifier.result) = sym (rw c.labels_of-labels.ensures at c.in-Ok.ensures.setting) ∙ sym (ap Ok c.new-verifier.ensures.context) in
    rw given c.read_whole.ensures.verdict

pub returns-in-Ok-clause-payload : goal.returns-in-Ok-clause-payload
returns-in-Ok-clause-payload g c =
    let given : setting_stated c.args.terms.now ≡ Ok (setting_in c.new-verifier.result) = sym (rw c.labels_of-labels.ensures at c.in-Ok.ensures.setting) ∙ sym (ap Ok c.new-verifier.ensures.context) in
    rw given c.read_whole.ensures.payload

pub returns-in-Ok-clause-input : goal.returns-in-Ok-clause-input
returns-in-Ok-clause-input g c =
    let given : setting_stated c.args.terms.now ≡ Ok (setting_in c.new-verifier.result) = sym (rw c.labels_of-labels.ensures at c.in-Ok.ensures.setting) ∙ sym (ap Ok c.new-verifier.ensures.context) in
    rw given c.read_whole.ensures.input

pub returns-in-Err-clause-verdict : goal.returns-in-Err-clause-verdict
returns-in-Err-clause-verdict g c =
    let given : setting_stated c.args.terms.now ≡ Err c.in-Err.status = sym (rw c.labels_of-labels.ensures at c.in-Err.ensures.setting) in
    rw given c.no_message.ensures

pub returns-in-Err-clause-payload : goal.returns-in-Err-clause-payload
returns-in-Err-clause-payload g c =
    let given : setting_stated c.args.terms.now ≡ Err c.in-Err.status = sym (rw c.labels_of-labels.ensures at c.in-Err.ensures.setting) in
    λ _. rw (given, c.no_message.ensures) (record { inside = omega arith; has = refl })
