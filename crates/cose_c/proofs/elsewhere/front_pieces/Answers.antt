use Rattle.std.proofs.Common.{◌≡◌, Bool, true, false, sym, ap, ◌∙◌}
use Rattle.std.specs.Prelude.{◌&&◌, is_some}
use Rattle.cose_msg.specs.Task.{to_verify_elsewhere}
use Rattle.cose_msg.specs.Verifier.{is_elsewhere, is_framed}
use Rattle.cose_c.specs.Elsewhere.{is_asked}
use Rattle.cose_c.proofs.Streams.{read_in}
use Rattle.cose_c.proofs.elsewhere.front_pieces.Goals as goal

pub returns-in_default-front_pieces-clause-some : goal.returns-in_default-front_pieces-clause-some
returns-in_default-front_pieces-clause-some g c = λ setting taken payload read.
    let h = (read_in (to_verify_elsewhere setting) taken payload _ c.in-Some.verifier c.in-Some.is read).0 in
    let asking : is_elsewhere c.in-Some.verifier ≡ true = sym c.is_elsewhere.ensures ∙ c.if-not-is_elsewhere.false in
    let unframed : false ≡ is_framed c.in-Some.verifier = sym (ap is_some c.in_default-front_pieces.is) ∙ c.front_pieces.ensures.some setting taken payload h in
    unframed ∙ sym (ap is_asked c.in-Some.is ∙ ap (λ (b : Bool). b && is_framed c.in-Some.verifier) asking)

pub returns-clause-some : goal.returns-clause-some
returns-clause-some g c = λ setting taken payload read.
    let h = (read_in (to_verify_elsewhere setting) taken payload _ c.in-Some.verifier c.in-Some.is read).0 in
    let asking : is_elsewhere c.in-Some.verifier ≡ true = sym c.is_elsewhere.ensures ∙ c.if-not-is_elsewhere.false in
    c.in-Some-front_pieces.ensures.some setting taken payload h ∙ sym (ap is_asked c.in-Some.is ∙ ap (λ (b : Bool). b && is_framed c.in-Some.verifier) asking)
