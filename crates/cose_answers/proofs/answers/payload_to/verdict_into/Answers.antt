use Rattle.std.proofs.Common.{◌≡◌, [], Err, Ok, Result, false, refl}
use Rattle.std.specs.Prelude.{IfErr, is_err, option_map}
use Rattle.cose_map.specs.Key.View.{contents}
use Rattle.cose_map.specs.KeyTable.{keys as usable}
use Rattle.cose_msg.specs.Message.{verifying}
use Rattle.cose_msg.specs.Verifier.{setting_of}
use Rattle.cose_answers.specs.Faults.{fails_by_file, fails_by_input}
use Rattle.cose_answers.specs.Vouch.{vouching}
use Rattle.cose_answers.specs.declared.fault.Fault.{Fault}
use Rattle.cose_answers.specs.declared.fault.Fault.TheVariants as faults
use Rattle.cose_answers.proofs.lemmas.Files.Failures.{failed_as_answered, then_failed}
use Rattle.cose_answers.proofs.lemmas.Payloads.KeptPayloads.{payload_of_whole, where_ok}
use Rattle.cose_answers.proofs.lemmas.Messages.Trailing.{verdict_of_whole}
use Rattle.cose_answers.proofs.answers.payload_to.verdict_into.Goals as goal

-- Whether it fails, where only the input can.
by_input : {A : Type 0} (result : Result A Fault) → IfErr result (λ fault. fault ≡ faults.Input) → fails_by_input result ≡ is_err result
by_input (Ok answer) is = refl
by_input (Err fault) is = rw is refl

not_by_file : {A : Type 0} (result : Result A Fault) → IfErr result (λ fault. fault ≡ faults.Input) → fails_by_file result ≡ false
not_by_file (Ok answer) is = refl
not_by_file (Err fault) is = rw is refl

pub returns-in-Ok-clause-verdict : goal.returns-in-Ok-clause-verdict
returns-in-Ok-clause-verdict g c = λ bytes e.
    let none = c.new-verifier.ensures.none_taken in
    let run = c.in-Ok.ensures.run (setting_of usable c.args.context) [] [] none in
    verdict_of_whole _ _ bytes run.0 _ c.in-Ok.verdict c.whole_verdict.result e run.1.bytes run.1.answer.counted
    (c.in-Ok.ensures.answer (setting_of usable c.args.context) [] [] bytes none e)
    c.whole_verdict.ensures.whole

pub returns-in-Ok-clause-payload : goal.returns-in-Ok-clause-payload
returns-in-Ok-clause-payload g c = λ bytes e.
    let setting = setting_of usable c.args.context in
    let run = c.in-Ok.ensures.run setting [] [] c.new-verifier.ensures.none_taken in
    where_ok c.whole_verdict.result _
    (payload_of_whole c.settled_stays.ensures.message (verifying g.row.H g.row.D setting (vouching (option_map contents c.args.vouch.now.word))) bytes run.0 run.1.payload.0 _ _ _ _ e run.1.bytes
    (λ unsettled. (run.1.answer.ends.unsettled unsettled).1) run.1.payload.1 run.1.payload.2)

pub returns-in-Ok-clause-failure : goal.returns-in-Ok-clause-failure
returns-in-Ok-clause-failure g c = failed_as_answered _ _ _ _ (then_failed _ _ _ _ c.in-Ok.ensures.intake_failure c.whole_verdict.ensures.failure) (by_input c.whole_verdict.result c.whole_verdict.ensures.fault)

pub returns-in-Ok-clause-sink_failure : goal.returns-in-Ok-clause-sink_failure
returns-in-Ok-clause-sink_failure g c = rw (not_by_file c.whole_verdict.result c.whole_verdict.ensures.fault) c.in-Ok.ensures.sink_failure
