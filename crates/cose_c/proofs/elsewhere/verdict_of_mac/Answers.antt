use Rattle.std.proofs.Common.{◌≡◌, true, false, Some, sym, ap, subst, ◌∙◌}
use Rattle.std.proofs.lemmas.Bool.{true≢false}
use Rattle.cose_msg.specs.Task.{to_verify_elsewhere}
use Rattle.cose_msg.specs.Verifier.{is_elsewhere, is_framed}
use Rattle.cose_c.specs.Elsewhere.{is_asked, is_ready}
use Rattle.cose_c.specs.Numbers.{always_authentic, verdict_numbers}
use Rattle.cose_c.specs.Stream.{Content}
use Rattle.cose_c.proofs.Asked.{right_of}
use Rattle.cose_c.proofs.Streams.{read_in}
use Rattle.cose_c.proofs.elsewhere.verdict_of_mac.Goals as goal
use Rattle.cose_c.proofs.elsewhere.verdict_of_mac.Goals.{then-not-is_ready-via-then-not-is_ready, then-not-is_ready-via-else-not-is_ready+then-not-takes_mac}

pub returns-then-not-is_ready-clause-verdict : goal.returns-then-not-is_ready-clause-verdict
returns-then-not-is_ready-clause-verdict g c = λ setting taken payload found whole read is ready asked fits.
    let h = (read_in (to_verify_elsewhere setting) taken payload _ c.in-Some.verifier c.in-Some.is read).0 in
    let here : is_ready (Some c.in-Some.verifier) ≡ true = subst (λ (content : Content _ _ _ _). is_ready content ≡ true) c.in-Some.is ready in
    let framed : is_framed c.in-Some.verifier ≡ true =
    right_of (is_elsewhere c.in-Some.verifier) (is_framed c.in-Some.verifier) (subst (λ (content : Content _ _ _ _). is_asked content ≡ true) c.in-Some.is asked) in
    elim c.then-not-is_ready.branch [
      | then-not-is_ready-via-then-not-is_ready w ↦ absurd (true≢false (sym (c.is_ready.ensures ∙ here) ∙ w.if-not-is_ready.true))
      | then-not-is_ready-via-else-not-is_ready+then-not-takes_mac w ↦
          absurd (true≢false (sym (w.takes_mac.ensures.whole setting taken payload found whole h is framed ∙ fits) ∙ w.if-not-takes_mac.true))
    ]

pub returns-clause-other_length : goal.returns-clause-other_length
returns-clause-other_length g c = λ setting taken payload found whole read is ready asked short.
    let h = (read_in (to_verify_elsewhere setting) taken payload _ c.in-Some.verifier c.in-Some.is read).0 in
    let framed : is_framed c.in-Some.verifier ≡ true =
    right_of (is_elsewhere c.in-Some.verifier) (is_framed c.in-Some.verifier) (subst (λ (content : Content _ _ _ _). is_asked content ≡ true) c.in-Some.is asked) in
    absurd (true≢false (sym c.if-not-takes_mac.false ∙ c.takes_mac.ensures.whole setting taken payload found whole h is framed ∙ short))

pub returns-clause-verdict : goal.returns-clause-verdict
returns-clause-verdict g c = λ setting taken payload found whole read is ready asked fits.
    let h = (read_in (to_verify_elsewhere setting) taken payload _ c.in-Some.verifier c.in-Some.is read).0 in
    c.numbers_of.ensures ∙ sym (ap (verdict_numbers always_authentic 0) (c.verdict_of_mac.ensures.answer setting taken payload h))
