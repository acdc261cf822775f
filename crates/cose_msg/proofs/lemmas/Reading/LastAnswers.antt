-- Rules that differ only in the answer for a whole message: the readings differ only in that answer, phase by phase.
use Rattle.std.proofs.Common.{◌≡◌, ℕ, Bool, true, false, cond, List, [], length, take, Option, Some, None, refl, sym, ap}
use Rattle.std.specs.Prelude.{◌-◌, nat_lt}
use Rattle.std.specs.Str.{bytes_eq}
use Rattle.cose_head.specs.declared.head.Head.{Head}
use Rattle.cose_head.specs.declared.reason.Reason.{Reason}
use Rattle.cose_head.specs.declared.reason.Reason.TheVariants.{Truncated}
use Rattle.cose_head.specs.Algorithm.{is_mac_of}
use Rattle.cose_msg.specs.Answer.{Answer, complete, refused, Chosen, Headers, Whole}
use Rattle.cose_msg.specs.Laws.{answered, then_compared, then_verified, FinishGoesLast, ComparingGoesLast, VerifyingGoesLast}
use Rattle.cose_msg.specs.Message.{Decides, message, tag_of, judged, compare_tag, compared, verified, uncompared, comparing}
use Rattle.cose_msg.specs.Phases.{headers_so_far, finish, auth, auth_head_fault, past_auth_head, auth_head, past_payload, payload, payload_head_fault, nil_fault_within, detached_payload, past_payload_head_from}
use Rattle.cose_msg.specs.Reading.{Findings, Reading, Phase, settled, awaits, stop, cut}
use Rattle.cose_msg.specs.Rules.{Rules}
use Rattle.cose_msg.specs.Source.{Source, attached, detached}
use Rattle.cose_msg.proofs.lemmas.Detached.PayloadElsewhere.{Goes, choose-goes, first_head-goes, unless_fault-goes, with_head-goes, with_string-goes}

module _ (change : Answer → Answer) (keeps : (reason : Reason) (place : ℕ) → change (refused reason place) ≡ refused reason place) where
  -- The answer of one reading is that of another, changed.
  abbrev IsChanged : Reading → Reading → Type 0
  IsChanged reading other = other ≡ answered change reading

  cuts : (so_far : Findings) (wanted place : ℕ) → IsChanged (cut so_far wanted place) (cut so_far wanted place)
  cuts so_far wanted place = ap (λ (answer : Answer). let reading : Reading = record { answer = answer; settled = false; wanted = wanted; payload_wanted = 0; so_far = so_far } in reading) (sym (keeps Truncated place))

  awaits-follows : (so_far : Findings) (missing place : ℕ) → IsChanged (awaits so_far missing place) (awaits so_far missing place)
  awaits-follows so_far missing place = ap (λ (answer : Answer). let reading : Reading = record { answer = answer; settled = true; wanted = 0; payload_wanted = missing; so_far = so_far } in reading) (sym (keeps Truncated place))

  stops : (so_far : Findings) (reason : Reason) (place : ℕ) → IsChanged (stop so_far reason place) (stop so_far reason place)
  stops so_far reason place = ap (settled so_far) (sym (keeps reason place))

  abbrev Follows : Phase → Phase → Type 0
  Follows = Goes IsChanged cuts stops

  -- ---- the phases after the payload's head, the last first

  module _ (rules : Rules) (last : Whole → Answer) (same : (whole : Whole) → last whole ≡ change (rules.finish whole)) where
    abbrev changed : Rules
    changed = record rules { finish = last }

    finish-follows : (headers : Headers) (chosen : Option Chosen) (B : List ℕ) (auth_at at : ℕ) (tag : List ℕ) → Follows (finish rules headers chosen B auth_at at tag) (finish changed headers chosen B auth_at at tag)
    finish-follows headers chosen B auth_at at tag place bytes = ap (settled (headers_so_far headers B)) (same (record { headers = headers; chosen = chosen; payload = B; auth = tag; auth_at = auth_at; taken = place }))

    auth-follows : (headers : Headers) (chosen : Option Chosen) (B : List ℕ) (auth_at n : ℕ) → Follows (auth rules headers chosen B auth_at n) (auth changed headers chosen B auth_at n)
    auth-follows headers chosen B auth_at n = with_string-goes IsChanged cuts stops (λ bytes. headers_so_far headers B) n (finish rules headers chosen B auth_at) (finish changed headers chosen B auth_at) (finish-follows headers chosen B auth_at)

    auth_head-follows : (headers : Headers) (chosen : Option Chosen) (B : List ℕ) → Follows (auth_head rules headers chosen B) (auth_head changed headers chosen B)
    auth_head-follows headers chosen B = with_head-goes IsChanged cuts stops (headers_so_far headers B) (past_auth_head rules headers chosen B) (past_auth_head changed headers chosen B)
        (λ at head. unless_fault-goes IsChanged cuts stops (headers_so_far headers B) at (auth_head_fault rules chosen head) (auth rules headers chosen B at head.arg) (auth changed headers chosen B at head.arg) (auth-follows headers chosen B at head.arg))

    payload-follows : (headers : Headers) (chosen : Option Chosen) (n : ℕ) → Follows (payload rules headers chosen n) (payload changed headers chosen n)
    payload-follows headers chosen n = with_string-goes IsChanged cuts stops (headers_so_far headers) n (past_payload rules headers chosen) (past_payload changed headers chosen) (λ at B. auth_head-follows headers chosen B)

    detached_payload-follows : (headers : Headers) (chosen : Option Chosen) (came : List ℕ) (detached_length at : ℕ) → Follows (detached_payload rules headers chosen came detached_length at) (detached_payload changed headers chosen came detached_length at)
    detached_payload-follows headers chosen came detached_length at place bytes = choose-goes IsChanged cuts stops (nat_lt (length came) detached_length) (awaits (headers_so_far headers came) (detached_length - length came) at) (auth_head rules headers chosen (take detached_length came) place bytes) _ _
        (awaits-follows (headers_so_far headers came) (detached_length - length came) at) (auth_head-follows headers chosen (take detached_length came) place bytes)

    past_payload_head-follows : (source : Source) (headers : Headers) (chosen : Option Chosen) (at : ℕ) (head : Head) → Follows (past_payload_head_from source rules headers chosen at head) (past_payload_head_from source changed headers chosen at head)
    past_payload_head-follows attached headers chosen at head = unless_fault-goes IsChanged cuts stops (headers_so_far headers []) at (payload_head_fault rules head) (payload rules headers chosen head.arg) (payload changed headers chosen head.arg) (payload-follows headers chosen head.arg)
    past_payload_head-follows (detached came detached_length) headers chosen at head = unless_fault-goes IsChanged cuts stops (headers_so_far headers []) at (nil_fault_within rules.payload_limit detached_length head) (detached_payload rules headers chosen came detached_length at) (detached_payload changed headers chosen came detached_length at) (detached_payload-follows headers chosen came detached_length at)

-- ---- the message

pub finish_goes_last : FinishGoesLast
unfolding message
finish_goes_last rules finish change keeps same bytes =
    first_head-goes (IsChanged change keeps) (cuts change keeps) (stops change keeps) rules rules.source finish (past_payload_head-follows change keeps rules finish same rules.source) 0 bytes

pub comparing_goes_last : ComparingGoesLast
comparing_goes_last room nesting setting bytes =
    finish_goes_last (uncompared room nesting setting) (λ whole. compared setting.aad whole.chosen whole) (then_compared setting.aad) (λ reason place. refl) (λ whole. refl) bytes

-- A tag that was compared is decided, and a signature that is left is decided on with the key that was chosen.
judged-left : (holds : Bool) (aad : List ℕ) (decides : Decides) (found : Chosen) (whole : Whole) → verified aad decides (Some found) (judged holds found whole) ≡ then_verified aad decides (judged holds found whole)
judged-left true aad decides found whole = refl
judged-left false aad decides found whole = refl

either-left : (b : Bool) (aad : List ℕ) (decides : Decides) (found : Chosen) (whole : Whole) → whole.chosen ≡ Some found →
    verified aad decides (Some found) (cond b (compare_tag aad found whole) (complete whole)) ≡ then_verified aad decides (cond b (compare_tag aad found whole) (complete whole))
either-left true aad decides found whole is = judged-left (bytes_eq whole.auth (tag_of aad found whole)) aad decides found whole
either-left false aad decides found whole is = rw is refl

left : (chosen : Option Chosen) (aad : List ℕ) (decides : Decides) (whole : Whole) → whole.chosen ≡ chosen →
    verified aad decides chosen (compared aad chosen whole) ≡ then_verified aad decides (compared aad chosen whole)
left (Some found) aad decides whole is = either-left (is_mac_of found.alg) aad decides found whole is
left None aad decides whole is = rw is refl

pub verifying_goes_last : VerifyingGoesLast
verifying_goes_last room nesting setting decides bytes =
    finish_goes_last (comparing room nesting setting) (λ whole. verified setting.aad decides whole.chosen (compared setting.aad whole.chosen whole)) (then_verified setting.aad decides) (λ reason place. refl)
    (λ whole. left whole.chosen setting.aad decides whole refl) bytes
