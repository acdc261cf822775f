use Rattle.std.proofs.Common.{◌≡◌, ℕ, Bool, true, false, sym, ap, ◌∙◌}
use Rattle.std.proofs.lemmas.Bool.{false≢true}
use Rattle.std.specs.Prelude.{◌&&◌, ◌==◌}
use Rattle.cose_head.specs.Algorithm.{auth_length_of}
use Rattle.cose_msg.specs.Elsewhere.{key_asked}
use Rattle.cose_c.specs.Elsewhere.{makes_macs_of}
use Rattle.cose_c.proofs.Asked.{asked_is_found}
use Rattle.cose_c.proofs.elsewhere.takes_mac.Goals as goal

pub returns-then-is_mac-clause-whole : goal.returns-then-is_mac-clause-whole
returns-then-is_mac-clause-whole g c = λ setting taken payload found whole h is framed.
    let same : key_asked (c.in-Some._key, c.in-Some.alg) ≡ found =
    asked_is_found g.row.H g.row.D setting taken payload _ found whole (c.in-Some.ensures.key setting taken payload h) h.came is in
    ap (λ (n : ℕ). c.args.count == n) c.auth_length.ensures
    ∙ sym (ap (λ (b : Bool). b && (c.args.count == auth_length_of c.in-Some.alg)) (sym c.is_mac.ensures ∙ c.if-is_mac.true))
    ∙ ap (makes_macs_of c.args.count) same

pub returns-else-is_mac-clause-whole : goal.returns-else-is_mac-clause-whole
returns-else-is_mac-clause-whole g c = λ setting taken payload found whole h is framed.
    let same : key_asked (c.in-Some._key, c.in-Some.alg) ≡ found =
    asked_is_found g.row.H g.row.D setting taken payload _ found whole (c.in-Some.ensures.key setting taken payload h) h.came is in
    c.if-is_mac.false
    ∙ sym (ap (λ (b : Bool). b && (c.args.count == auth_length_of c.in-Some.alg)) (sym c.is_mac.ensures ∙ c.if-is_mac.false))
    ∙ ap (makes_macs_of c.args.count) same

pub returns-in-None-clause-whole : goal.returns-in-None-clause-whole
returns-in-None-clause-whole g c = λ setting taken payload found whole h is framed.
    absurd (false≢true (c.in-None.ensures.some setting taken payload h ∙ framed))
