use Rattle.std.proofs.Common.{◌≡◌, ◌+◌, List, ap, length, Some, None, Ok, Err, refl, sym, ◌∙◌, arith}
use Rattle.cose_map.specs.Label.{LabelValue}
use Rattle.std.proofs.lemmas.Grind.{common_steps}
use Rattle.std.proofs.lemmas.Result.{err_from_is_err_and}
use Rattle.cose_map.specs.Bucket.Both.{pair_fault}
use Rattle.std.specs.Prelude.{option_map}
use Rattle.cose_msg.specs.Chosen.{chosen_value}
use Rattle.cose_msg.specs.Phases.{headers_of}
use Rattle.cose_msg.specs.Task.{choice_for, is_keyless}
use Rattle.cose_msg.proofs.lemmas.Choosing.ChoiceReadings.{chosen_among}
use Rattle.cose_msg.proofs.lemmas.Choosing.Choices.{key_found, key_refused, pair_refused}
use Rattle.cose_msg.proofs.reader.choice.choose.Goals as goal

pub returns-in_err-ask : goal.returns-in_err-ask
returns-in_err-ask g c = λ task pairs others e among good found_good.
    let fault : pair_fault pairs others task.setting.understood (c.args.stores.now.at + length c.args.stores.now.unprotected.now.items) ≡ Some c.in_err-ask.field-0.0 = ap (λ (u : List LabelValue). pair_fault pairs others u (c.args.stores.now.at + length c.args.stores.now.unprotected.now.items)) (sym e) ∙ sym (c.in_err-ask.ensures.refused pairs others good found_good) in
    let p = err_from_is_err_and c.from_residual.result c.from_residual.ensures.1 in
    rw (p.1, pair_refused task (headers_of c.args.stores.now.kind c.args.stores.now.protected.now.items pairs others) (c.args.stores.now.at + length c.args.stores.now.unprotected.now.items) c.in_err-ask.field-0.0 fault) p.2

pub returns-in-Ok : goal.returns-in-Ok
returns-in-Ok g c = λ task pairs others e among good found_good.
    let fault : pair_fault pairs others task.setting.understood (c.args.stores.now.at + length c.args.stores.now.unprotected.now.items) ≡ None = ap (λ (u : List LabelValue). pair_fault pairs others u (c.args.stores.now.at + length c.args.stores.now.unprotected.now.items)) (sym e) ∙ sym (c.in_ok-ask.ensures.refused pairs others good found_good) in
    let found : choice_for (is_keyless task) task.setting (headers_of c.args.stores.now.kind c.args.stores.now.protected.now.items pairs others) ≡ Ok (option_map chosen_value c.key_for.new.into) = chosen_among task _ (headers_of c.args.stores.now.kind c.args.stores.now.protected.now.items pairs others) among ∙ sym (c.in-Ok.ensures (headers_of c.args.stores.now.kind c.args.stores.now.protected.now.items pairs others) (c.in_ok-ask.ensures.query pairs others good found_good)) in
    rw (key_found task (headers_of c.args.stores.now.kind c.args.stores.now.protected.now.items pairs others) (c.args.stores.now.at + length c.args.stores.now.unprotected.now.items) (option_map chosen_value c.key_for.new.into) fault found) (refl, c.in_ok-ask.ensures.bare pairs others good found_good)

pub returns-in-Err : goal.returns-in-Err
returns-in-Err g c = λ task pairs others e among good found_good.
    let fault : pair_fault pairs others task.setting.understood (c.args.stores.now.at + length c.args.stores.now.unprotected.now.items) ≡ None = ap (λ (u : List LabelValue). pair_fault pairs others u (c.args.stores.now.at + length c.args.stores.now.unprotected.now.items)) (sym e) ∙ sym (c.in_ok-ask.ensures.refused pairs others good found_good) in
    let none : choice_for (is_keyless task) task.setting (headers_of c.args.stores.now.kind c.args.stores.now.protected.now.items pairs others) ≡ Err c.in-Err.reason = chosen_among task _ (headers_of c.args.stores.now.kind c.args.stores.now.protected.now.items pairs others) among ∙ sym (c.in-Err.ensures (headers_of c.args.stores.now.kind c.args.stores.now.protected.now.items pairs others) (c.in_ok-ask.ensures.query pairs others good found_good)) in
    rw (key_refused task (headers_of c.args.stores.now.kind c.args.stores.now.protected.now.items pairs others) (c.args.stores.now.at + length c.args.stores.now.unprotected.now.items) c.in-Err.reason fault none, c.len.ensures.value) refl

pub overflow_add-place : goal.overflow_add-place
overflow_add-place g c = grind (arith, common_steps)
