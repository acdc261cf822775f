use Rattle.std.proofs.Common.{◌≡◌, Bool, true, false, sym, ap, ◌∙◌}
use Rattle.std.specs.Prelude.{◌&&◌, is_some}
use Rattle.cose_msg.specs.Elsewhere.{key_asked}
use Rattle.cose_msg.specs.Task.{to_verify_elsewhere}
use Rattle.cose_msg.specs.Verifier.{is_elsewhere, is_framed}
use Rattle.cose_c.specs.Elsewhere.{is_asked}
use Rattle.cose_c.proofs.Streams.{read_in}
use Rattle.cose_c.proofs.elsewhere.asked_key.Goals as goal

pub returns-in_default-asked_key-clause-some : goal.returns-in_default-asked_key-clause-some
returns-in_default-asked_key-clause-some g c = λ setting taken payload read.
    let h = (read_in (to_verify_elsewhere setting) taken payload _ c.in-Some.verifier c.in-Some.is read).0 in
    let asking : is_elsewhere c.in-Some.verifier ≡ true = sym c.is_elsewhere.ensures ∙ c.if-not-is_elsewhere.false in
    let unframed : false ≡ is_framed c.in-Some.verifier = sym (ap is_some c.in_default-asked_key.is) ∙ c.asked_key.ensures.some setting taken payload h in
    unframed ∙ sym (ap is_asked c.in-Some.is ∙ ap (λ (b : Bool). b && is_framed c.in-Some.verifier) asking)

pub returns-clause-key : goal.returns-clause-key
returns-clause-key g c = λ _. (
  key_asked (c.in-Some-asked_key.key, c.in-Some-asked_key.alg),
  c.asked_key_of.ensures,
  λ setting taken payload read.
      c.in-Some-asked_key.ensures.key setting taken payload (read_in (to_verify_elsewhere setting) taken payload _ c.in-Some.verifier c.in-Some.is read).0,
)
