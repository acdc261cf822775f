use Rattle.std.proofs.Common.{◌≡◌, ℕ, Bool, true, false, List, [], Option, None, Some, Err, option_map, refl, sym, ◌∙◌, arith}
use Rattle.std.proofs.Math.Bool.{or-false, or-true}
use Rattle.std.specs.Prelude.{is_some, if◌then◌else◌}
use Rattle.std.proofs.lemmas.Bool.{false≢true, true≢false}
use Rattle.std.proofs.lemmas.Grind.{common_steps}
use Rattle.std.proofs.lemmas.Option.{none-some}
use Rattle.std.proofs.lemmas.Result.{err_from_is_err_and}
use Rattle.cose_mac.specs.declared.running.Running.{Running}
use Rattle.cose_map.specs.Key.View.{contents, material_value}
use Rattle.cose_msg.specs.declared.make.MakeFault.{MakeFault}
use Rattle.cose_msg.specs.declared.make.MakeFault.TheVariants as faults
use Rattle.cose_msg.specs.Make.{argument_fault}
use Rattle.cose_msg.specs.Message.{secret_of}
use Rattle.cose_msg.specs.Writes.{Seen, Streams}
use Rattle.cose_msg.proofs.lemmas.Deciding.KeptAnswers.{then_failed}
use Rattle.cose_msg.proofs.lemmas.Made.Makes.{all_made, answered, auth_is, front_failed, front_sure, no_fault, parts_of, payload_failed, payload_sure, same_length, secret_is, tail_failed, tail_sure, too_long, wrong_key}
use Rattle.cose_msg.proofs.make.make_mac0.Goals as goal

-- The payload's fault is none of the arguments.
of_payload : {n : ℕ} {come come_after : Option (List ℕ)} {ended : Bool} {old new : Seen} {before after : Running} {taken : List ℕ} (fault : MakeFault) → Streams n come come_after ended old new before after (Err fault) taken →
    argument_fault (Err fault) ≡ None
of_payload {n} {come} {come_after} {ended} {old} {new} {before} {after} {taken} faults.ShortPayload p = refl
of_payload {n} {come} {come_after} {ended} {old} {new} {before} {after} {taken} faults.WrongKey p = absurd p.bytes
of_payload {n} {come} {come_after} {ended} {old} {new} {before} {after} {taken} faults.Intake p = refl
of_payload {n} {come} {come_after} {ended} {old} {new} {before} {after} {taken} faults.Sink p = refl
of_payload {n} {come} {come_after} {ended} {old} {new} {before} {after} {taken} faults.TooLong p = absurd p.bytes

unfaulted : (fault : Option MakeFault) → fault ≡ None → is_some fault ≡ true → ⊥
unfaulted None e some = false≢true some
unfaulted (Some fault) e some = none-some fault (sym e)

pub returns-in_err-front-clause-makes : goal.returns-in_err-front-clause-makes
returns-in_err-front-clause-makes g c =
    let p = err_from_is_err_and c.from_residual.result c.from_residual.ensures.1 in
    let parts = parts_of c.args.alg (secret_of (material_value c.args.key.now.material)) (option_map contents c.args.kid) c.args.aad.now c.args.length in
    let front = rw c.protected_header-protected.ensures at c.in_err-front.ensures.written in
    rw (p.1, p.2) (λ none. ([], front_failed _ _ _ _ parts _ _ front))

pub returns-in_err-front-clause-sure : goal.returns-in_err-front-clause-sure
returns-in_err-front-clause-sure g c =
    let parts = parts_of c.args.alg (secret_of (material_value c.args.key.now.material)) (option_map contents c.args.kid) c.args.aad.now c.args.length in
    let front = rw c.protected_header-protected.ensures at c.in_err-front.ensures.written in
    λ payload count enough. absurd (front_sure _ _ _ _ parts payload count enough front)

pub returns-in_err-payload-clause-makes : goal.returns-in_err-payload-clause-makes
returns-in_err-payload-clause-makes g c =
    let p = err_from_is_err_and c.from_residual-in_err-payload.result c.from_residual-in_err-payload.ensures.1 in
    let parts = parts_of c.args.alg (secret_of (material_value c.args.key.now.material)) (option_map contents c.args.kid) c.args.aad.now c.args.length in
    let front = rw c.protected_header-protected.ensures at c.in_ok-front.ensures.written in
    let streams = c.in_err-payload.ensures.streams in
    rw (p.1, p.2) (λ none. (streams.0, payload_failed _ _ _ _ parts streams.0 _ front streams.1))

pub returns-in_err-payload-clause-sure : goal.returns-in_err-payload-clause-sure
returns-in_err-payload-clause-sure g c =
    let p = err_from_is_err_and c.from_residual-in_err-payload.result c.from_residual-in_err-payload.ensures.1 in
    let parts = parts_of c.args.alg (secret_of (material_value c.args.key.now.material)) (option_map contents c.args.kid) c.args.aad.now c.args.length in
    let front = rw c.protected_header-protected.ensures at c.in_ok-front.ensures.written in
    let streams = c.in_err-payload.ensures.streams in
    rw (p.1, p.2) (λ payload count enough. payload_sure _ _ _ _ parts streams.0 payload count enough front streams.1)

pub returns-in_err-auth-clause-makes : goal.returns-in_err-auth-clause-makes
returns-in_err-auth-clause-makes g c =
    let p = err_from_is_err_and c.from_residual-in_err-auth.result c.from_residual-in_err-auth.ensures.1 in
    let secret = secret_is _ c.in-Some.secret.now _ (rw c.in-Some.is at c.secret_for.ensures) in
    let parts = parts_of c.args.alg (secret_of (material_value c.args.key.now.material)) (option_map contents c.args.kid) c.args.aad.now c.args.length in
    let front = rw c.protected_header-protected.ensures at c.in_ok-front.ensures.written in
    let streams = c.in_ok-payload.ensures.streams in
    let auth = auth_is c.args.aad.now streams.0 secret c.protected_header-protected.ensures c.hmac-running.ensures c.structure_front.ensures.appended.fed_mac (streams.1.fed refl) (c.structure_front.ensures.front streams.0 streams.1.count) c.finish_mac.ensures.value in
    let bytes : c.deref.result.now ≡ c.finish_mac.result.items = c.deref.ensures.0 in
    let tail = rw (bytes, auth) at c.in_err-auth.ensures.written in
    rw (p.1, p.2) (λ none. (streams.0, tail_failed _ _ _ _ parts streams.0 front streams.1 tail))

pub returns-in_err-auth-clause-sure : goal.returns-in_err-auth-clause-sure
returns-in_err-auth-clause-sure g c =
    let secret = secret_is _ c.in-Some.secret.now _ (rw c.in-Some.is at c.secret_for.ensures) in
    let parts = parts_of c.args.alg (secret_of (material_value c.args.key.now.material)) (option_map contents c.args.kid) c.args.aad.now c.args.length in
    let front = rw c.protected_header-protected.ensures at c.in_ok-front.ensures.written in
    let streams = c.in_ok-payload.ensures.streams in
    let auth = auth_is c.args.aad.now streams.0 secret c.protected_header-protected.ensures c.hmac-running.ensures c.structure_front.ensures.appended.fed_mac (streams.1.fed refl) (c.structure_front.ensures.front streams.0 streams.1.count) c.finish_mac.ensures.value in
    let bytes : c.deref.result.now ≡ c.finish_mac.result.items = c.deref.ensures.0 in
    let tail = rw (bytes, auth) at c.in_err-auth.ensures.written in
    λ payload count enough. absurd (tail_sure _ _ _ _ parts streams.0 payload count enough (same_length c.mac_has_its_length.ensures c.args.alg c.hmac-running.ensures.mac_algorithm _ _ streams.0 payload) front streams.1 tail)

pub returns-clause-makes : goal.returns-clause-makes
returns-clause-makes g c =
    let secret = secret_is _ c.in-Some.secret.now _ (rw c.in-Some.is at c.secret_for.ensures) in
    let parts = parts_of c.args.alg (secret_of (material_value c.args.key.now.material)) (option_map contents c.args.kid) c.args.aad.now c.args.length in
    let front = rw c.protected_header-protected.ensures at c.in_ok-front.ensures.written in
    let streams = c.in_ok-payload.ensures.streams in
    let auth = auth_is c.args.aad.now streams.0 secret c.protected_header-protected.ensures c.hmac-running.ensures c.structure_front.ensures.appended.fed_mac (streams.1.fed refl) (c.structure_front.ensures.front streams.0 streams.1.count) c.finish_mac.ensures.value in
    let bytes : c.deref.result.now ≡ c.finish_mac.result.items = c.deref.ensures.0 in
    let tail = rw (bytes, auth) at c.in_ok-auth.ensures.written in
    λ none. (streams.0, all_made _ _ _ _ parts streams.0 front streams.1 tail)

pub returns-clause-answer : goal.returns-clause-answer
returns-clause-answer g c = λ bytes none come intake sink.
    let r = returns-clause-makes g c refl in
    answered _ r.0 bytes r.1 come

pub returns-in_default-clause-fault : goal.returns-in_default-clause-fault
returns-in_default-clause-fault g c = wrong_key _ _ _ c.in_default.ensures

pub returns-in_default-clause-untouched : goal.returns-in_default-clause-untouched
returns-in_default-clause-untouched g c = λ fault. (refl, refl)

pub returns-in_default-clause-makes : goal.returns-in_default-clause-makes
returns-in_default-clause-makes g c = λ none. absurd (none-some faults.WrongKey (sym none))

pub returns-in_default-clause-answer : goal.returns-in_default-clause-answer
returns-in_default-clause-answer g c = λ bytes none come intake sink. absurd (none-some faults.WrongKey (sym none))

pub returns-in_default-clause-intake_failure : goal.returns-in_default-clause-intake_failure
returns-in_default-clause-intake_failure g c = sym (or-false _)

pub returns-in_default-clause-sink_failure : goal.returns-in_default-clause-sink_failure
returns-in_default-clause-sink_failure g c = sym (or-false _)

pub returns-in_default-clause-sure : goal.returns-in_default-clause-sure
returns-in_default-clause-sure g c = λ payload count enough. refl

pub returns-then-is_too_long-clause-fault : goal.returns-then-is_too_long-clause-fault
returns-then-is_too_long-clause-fault g c = too_long _ _ _ _ (rw c.in-Some.is at c.secret_for.ensures) (sym c.is_too_long.ensures ∙ c.if-is_too_long.true)

pub returns-then-is_too_long-clause-untouched : goal.returns-then-is_too_long-clause-untouched
returns-then-is_too_long-clause-untouched g c = λ fault. (refl, refl)

pub returns-then-is_too_long-clause-makes : goal.returns-then-is_too_long-clause-makes
returns-then-is_too_long-clause-makes g c = λ none. absurd (none-some faults.TooLong (sym none))

pub returns-then-is_too_long-clause-answer : goal.returns-then-is_too_long-clause-answer
returns-then-is_too_long-clause-answer g c = λ bytes none come intake sink. absurd (none-some faults.TooLong (sym none))

pub returns-then-is_too_long-clause-sure : goal.returns-then-is_too_long-clause-sure
returns-then-is_too_long-clause-sure g c = λ payload count enough. refl

pub slice_bounds-structure_front-end : goal.slice_bounds-structure_front-end
slice_bounds-structure_front-end g c = grind (arith, common_steps)

pub slice_bounds-put_front-end : goal.slice_bounds-put_front-end
slice_bounds-put_front-end g c = grind (arith, common_steps)

pub returns-in_err-front-clause-fault : goal.returns-in_err-front-clause-fault
returns-in_err-front-clause-fault g c =
    let p = err_from_is_err_and c.from_residual.result c.from_residual.ensures.1 in
    rw (p.1, p.2, c.in_err-front.ensures.written.put.1) (no_fault _ _ _ _ (rw c.in-Some.is at c.secret_for.ensures) (sym c.is_too_long.ensures ∙ c.if-is_too_long.false))

pub returns-in_err-front-clause-untouched : goal.returns-in_err-front-clause-untouched
returns-in_err-front-clause-untouched g c =
    let p = err_from_is_err_and c.from_residual.result c.from_residual.ensures.1 in
    rw (p.1, p.2, c.in_err-front.ensures.written.put.1) (λ some. absurd (false≢true some))

pub returns-in_err-front-clause-answer : goal.returns-in_err-front-clause-answer
returns-in_err-front-clause-answer g c =
    let p = err_from_is_err_and c.from_residual.result c.from_residual.ensures.1 in
    rw (p.1, p.2, c.in_err-front.ensures.written.put.1) (λ bytes none come intake sink. absurd (true≢false sink))

pub returns-in_err-front-clause-intake_failure : goal.returns-in_err-front-clause-intake_failure
returns-in_err-front-clause-intake_failure g c =
    let p = err_from_is_err_and c.from_residual.result c.from_residual.ensures.1 in
    rw (p.1, p.2, c.in_err-front.ensures.written.put.1) (sym (or-false _))

pub returns-in_err-front-clause-sink_failure : goal.returns-in_err-front-clause-sink_failure
returns-in_err-front-clause-sink_failure g c =
    let p = err_from_is_err_and c.from_residual.result c.from_residual.ensures.1 in
    rw (p.1, p.2, c.in_err-front.ensures.written.put.1) (c.in_err-front.ensures.written.failure ∙ sym (or-true _))

pub returns-in_err-payload-clause-fault : goal.returns-in_err-payload-clause-fault
returns-in_err-payload-clause-fault g c =
    let p = err_from_is_err_and c.from_residual-in_err-payload.result c.from_residual-in_err-payload.ensures.1 in
    rw (p.1, p.2) (of_payload _ c.in_err-payload.ensures.streams.1 ∙ no_fault _ _ _ _ (rw c.in-Some.is at c.secret_for.ensures) (sym c.is_too_long.ensures ∙ c.if-is_too_long.false))

pub returns-in_err-payload-clause-untouched : goal.returns-in_err-payload-clause-untouched
returns-in_err-payload-clause-untouched g c =
    let p = err_from_is_err_and c.from_residual-in_err-payload.result c.from_residual-in_err-payload.ensures.1 in
    rw (p.1, p.2) (λ some. absurd (unfaulted _ (of_payload _ c.in_err-payload.ensures.streams.1) some))

pub returns-in_err-payload-clause-answer : goal.returns-in_err-payload-clause-answer
returns-in_err-payload-clause-answer g c = grind (arith, common_steps)

pub returns-in_err-payload-clause-sink_failure : goal.returns-in_err-payload-clause-sink_failure
returns-in_err-payload-clause-sink_failure g c =
    let p = err_from_is_err_and c.from_residual-in_err-payload.result c.from_residual-in_err-payload.ensures.1 in
    rw (p.1, p.2) (then_failed _ _ _ _ c.in_ok-front.ensures.written.failure c.in_err-payload.ensures.streams.1.failure)

pub returns-in_err-auth-clause-fault : goal.returns-in_err-auth-clause-fault
returns-in_err-auth-clause-fault g c =
    let p = err_from_is_err_and c.from_residual-in_err-auth.result c.from_residual-in_err-auth.ensures.1 in
    rw (p.1, p.2, c.in_err-auth.ensures.written.put.1) (no_fault _ _ _ _ (rw c.in-Some.is at c.secret_for.ensures) (sym c.is_too_long.ensures ∙ c.if-is_too_long.false))

pub returns-in_err-auth-clause-untouched : goal.returns-in_err-auth-clause-untouched
returns-in_err-auth-clause-untouched g c =
    let p = err_from_is_err_and c.from_residual-in_err-auth.result c.from_residual-in_err-auth.ensures.1 in
    rw (p.1, p.2, c.in_err-auth.ensures.written.put.1) (λ some. absurd (false≢true some))

pub returns-in_err-auth-clause-answer : goal.returns-in_err-auth-clause-answer
returns-in_err-auth-clause-answer g c =
    let p = err_from_is_err_and c.from_residual-in_err-auth.result c.from_residual-in_err-auth.ensures.1 in
    rw (p.1, p.2, c.in_err-auth.ensures.written.put.1) (λ bytes none come intake sink. absurd (true≢false sink))

pub returns-in_err-auth-clause-intake_failure : goal.returns-in_err-auth-clause-intake_failure
returns-in_err-auth-clause-intake_failure g c =
    let p = err_from_is_err_and c.from_residual-in_err-auth.result c.from_residual-in_err-auth.ensures.1 in
    rw (p.1, p.2, c.in_err-auth.ensures.written.put.1) c.in_ok-payload.ensures.intake_failure

pub returns-in_err-auth-clause-sink_failure : goal.returns-in_err-auth-clause-sink_failure
returns-in_err-auth-clause-sink_failure g c =
    let p = err_from_is_err_and c.from_residual-in_err-auth.result c.from_residual-in_err-auth.ensures.1 in
    rw (p.1, p.2, c.in_err-auth.ensures.written.put.1) (c.in_err-auth.ensures.written.failure ∙ sym (or-true _))

pub overflow_add-result : goal.overflow_add-result
overflow_add-result g c = grind (arith, common_steps)

pub overflow_add-result-2 : goal.overflow_add-result-2
overflow_add-result-2 g c = grind (arith, common_steps)

pub returns-clause-fault : goal.returns-clause-fault
returns-clause-fault g c = no_fault _ _ _ _ (rw c.in-Some.is at c.secret_for.ensures) (sym c.is_too_long.ensures ∙ c.if-is_too_long.false)

pub returns-clause-untouched : goal.returns-clause-untouched
returns-clause-untouched g c = λ some. absurd (false≢true some)

pub returns-clause-intake_failure : goal.returns-clause-intake_failure
returns-clause-intake_failure g c = c.in_ok-payload.ensures.intake_failure

pub returns-clause-sink_failure : goal.returns-clause-sink_failure
returns-clause-sink_failure g c = c.in_ok-auth.ensures.written.failure ∙ then_failed _ _ _ false c.in_ok-front.ensures.written.failure c.in_ok-payload.ensures.streams.1.failure

pub returns-clause-sure : goal.returns-clause-sure
returns-clause-sure g c = λ payload count enough. refl
