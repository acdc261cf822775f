use Rattle.std.proofs.Common.{◌≡◌, refl, sym, ap, ◌∙◌, Option}
use Rattle.cose_head.specs.Placed.{Placed}
use Rattle.cose_head.specs.declared.kind.Kind.{Kind}
use Rattle.cose_msg.specs.Message.{message as message_read}
use Rattle.cose_msg.specs.Reading.{Findings, Reading}
use Rattle.cose_msg.specs.Status.{status_of_reading}
use Rattle.cose_msg.specs.Task.{rules_of, to_inspect}
use Rattle.cose_msg.specs.Verifier.{setting_in}
use Rattle.cose_msg.specs.declared.status.Status.{Status}
use Rattle.cose_msg.specs.declared.status.Status.TheVariants as statuses
use Rattle.cose_c.specs.Item.{item_at}
use Rattle.cose_c.specs.KeyChoice as spec
use Rattle.cose_c.specs.Permitted.{PermissionValue}
use Rattle.cose_c.specs.Stated.{permission_stated}
use Rattle.cose_c.specs.Stream.{status_numbers}
use Rattle.cose_c.proofs.key_choice.fit_at.Goals as goal

-- A message that isn't complete asks nothing: its status says why.
unasked : (kind : Kind) (found : Findings) (s : Status) (p : PermissionValue) (item : Option Placed) → (s ≡ statuses.Complete → ⊥) →
    spec.fit_asked (spec.asked_in kind found s) p item ≡ spec.no_fit (status_numbers s)
unasked kind found statuses.More p item other = refl
unasked kind found statuses.PayloadNext p item other = refl
unasked kind found (statuses.Refused refusal) p item other = refl
unasked kind found statuses.Complete p item other = absurd (other refl)
unasked kind found statuses.Stopped p item other = refl

pub returns-in_default : goal.returns-in_default
returns-in_default g c =
    let reading : Reading = message_read (rules_of g.row.H g.row.D (to_inspect (setting_in c.args.verifier.now))) c.args.message.now in
    let status : c.take.result ≡ status_of_reading reading = c.take.ensures.status in
    let asked = unasked c.args.kind reading.so_far (status_of_reading reading) (permission_stated c.args.terms.now) (item_at c.args.terms.now.keys.now c.args.place) (λ is. c.in_default.not-Complete (status ∙ is)) in
    c.no_fit.ensures ∙ ap spec.no_fit (c.status_numbers.ensures ∙ ap status_numbers status) ∙ sym asked
