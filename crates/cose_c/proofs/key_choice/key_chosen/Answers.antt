use Rattle.std.proofs.Common.{◌≡◌, List, ℕ, refl, sym, ap, ◌∙◌, None}
use Rattle.cose_head.specs.declared.kind.Kind.{Kind}
use Rattle.cose_msg.specs.Message.{message as message_read}
use Rattle.cose_msg.specs.Reading.{Findings, Reading}
use Rattle.cose_msg.specs.Status.{status_of_reading}
use Rattle.cose_msg.specs.Task.{rules_of, to_inspect}
use Rattle.cose_msg.specs.Verifier.{setting_in}
use Rattle.cose_msg.specs.declared.status.Status.{Status}
use Rattle.cose_msg.specs.declared.status.Status.TheVariants as statuses
use Rattle.cose_c.specs.Item.{item_numbers}
use Rattle.cose_c.specs.KeyChoice as spec
use Rattle.cose_c.specs.Permitted.{PermissionValue}
use Rattle.cose_c.specs.Stated.{permission_stated}
use Rattle.cose_c.proofs.key_choice.key_chosen.Goals as goal

-- A message that isn't complete asks nothing.
unasked : (kind : Kind) (found : Findings) (s : Status) (p : PermissionValue) (keys : List ℕ) → (s ≡ statuses.Complete → ⊥) →
    spec.key_chosen (spec.asked_in kind found s) p keys ≡ None
unasked kind found statuses.More p keys other = refl
unasked kind found statuses.PayloadNext p keys other = refl
unasked kind found (statuses.Refused refusal) p keys other = refl
unasked kind found statuses.Complete p keys other = absurd (other refl)
unasked kind found statuses.Stopped p keys other = refl

pub returns-in_default : goal.returns-in_default
returns-in_default g c =
    let reading : Reading = message_read (rules_of g.row.H g.row.D (to_inspect (setting_in c.args.verifier.now))) c.args.message.now in
    let status : c.take.result ≡ status_of_reading reading = c.take.ensures.status in
    c.no_item.ensures ∙ ap item_numbers (sym (unasked c.args.kind reading.so_far (status_of_reading reading) (permission_stated c.args.terms.now) c.args.terms.now.keys.now (λ is. c.in_default.not-Complete (status ∙ is))))
