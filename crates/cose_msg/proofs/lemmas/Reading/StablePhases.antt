-- Every phase of a message is stable: a settled reading stays, and one that isn't settled is Truncated where the bytes end.
use Rattle.std.proofs.Common.{◌≡◌, ℕ, Bool, true, false, List, [], length, take, Option, Result, Ok, Err, refl, sym, ap, ◌∙◌, zero-add}
use Rattle.std.specs.Prelude.{◌-◌, nat_lt}
use Rattle.cose_head.specs.declared.head.Head.{Head}
use Rattle.cose_head.specs.declared.kind.Kind.{Kind}
use Rattle.cose_head.specs.declared.kind.Kind.TheVariants as kinds
use Rattle.cose_head.specs.declared.reason.Reason.{Reason}
use Rattle.cose_head.specs.declared.reason.Reason.TheVariants.{Truncated, WrongType, WrongTag}
use Rattle.cose_map.specs.Bucket.{bucket_of}
use Rattle.cose_map.specs.Map.Pairs.{Pair}
use Rattle.cose_map.specs.Bucket.Both.{pair_fault}
use Rattle.cose_msg.specs.declared.context.Wanted.{Wanted}
use Rattle.cose_msg.specs.declared.context.Wanted.TheVariants as wants
use Rattle.cose_msg.specs.Answer.{Chosen, Headers, refused}
use Rattle.cose_msg.specs.Front.{array_head_fault, past_array_head, array_head, kind_of_tag, past_tag, tag_after_cwt, past_second_head, second_head, past_untagged, is_cwt_tag, is_tag, is_array, past_first_head, first_head}
use Rattle.cose_msg.specs.Laws.{MessageStays, MessageEndsTruncated, OpenEarlier, VerdictStays}
use Rattle.cose_msg.specs.Message.{message, verifying}
use Rattle.cose_msg.specs.Phases.{nothing_so_far, protected_so_far, unprotected_so_far, headers_so_far, finish, auth, auth_head_fault, past_auth_head, auth_head, past_payload, payload, payload_head_fault, nil_fault_within, detached_payload, past_payload_head_from, past_payload_head, payload_head, past_choice, key_choice, both_buckets, placed_at, headers_of, past_unprotected, unprotected, past_protected, protected, protected_head_fault, past_protected_head, protected_head}
use Rattle.cose_msg.specs.Reading.{Reading, awaits, stop}
use Rattle.cose_msg.specs.Rules.{Rules}
use Rattle.cose_msg.specs.Source.{Source, attached, detached}
use Rattle.cose_msg.proofs.lemmas.Reading.Forms.{HeadLaws, Stable, settled-stable, with_head-stable, with_string-stable, with_item-stable, unless_fault-stable, unless_at-stable, with_value-stable, either-stable}

module _ (laws : HeadLaws) (rules : Rules) where
  finish-stable : (headers : Headers) (chosen : Option Chosen) (B : List ℕ) (auth_at at : ℕ) (tag : List ℕ) → Stable (finish rules headers chosen B auth_at at tag)
  finish-stable headers chosen B auth_at at tag = settled-stable (λ place. finish rules headers chosen B auth_at at tag place []) (λ place. refl)

  auth-stable : (headers : Headers) (chosen : Option Chosen) (B : List ℕ) (auth_at n : ℕ) → Stable (auth rules headers chosen B auth_at n)
  auth-stable headers chosen B auth_at n = with_string-stable (λ bytes. headers_so_far headers B) n (finish rules headers chosen B auth_at) (finish-stable headers chosen B auth_at)

  auth_head-stable : (headers : Headers) (chosen : Option Chosen) (B : List ℕ) → Stable (auth_head rules headers chosen B)
  auth_head-stable headers chosen B = with_head-stable laws (headers_so_far headers B) (past_auth_head rules headers chosen B)
      (λ at head. unless_fault-stable (headers_so_far headers B) at (auth_head_fault rules chosen head) (auth rules headers chosen B at head.arg) (auth-stable headers chosen B at head.arg))

  payload-stable : (headers : Headers) (chosen : Option Chosen) (n : ℕ) → Stable (payload rules headers chosen n)
  payload-stable headers chosen n = with_string-stable (headers_so_far headers) n (past_payload rules headers chosen) (λ at B. auth_head-stable headers chosen B)

  detached_payload-stable : (headers : Headers) (chosen : Option Chosen) (came : List ℕ) (detached_length at : ℕ) → Stable (detached_payload rules headers chosen came detached_length at)
  detached_payload-stable headers chosen came detached_length at = either-stable (nat_lt (length came) detached_length) (λ place bytes. awaits (headers_so_far headers came) (detached_length - length came) at) (auth_head rules headers chosen (take detached_length came))
      (settled-stable (λ place. awaits (headers_so_far headers came) (detached_length - length came) at) (λ place. refl)) (auth_head-stable headers chosen (take detached_length came))

  past_payload_head-stable : (source : Source) (headers : Headers) (chosen : Option Chosen) (at : ℕ) (head : Head) → Stable (past_payload_head_from source rules headers chosen at head)
  past_payload_head-stable attached headers chosen at head = unless_fault-stable (headers_so_far headers []) at (payload_head_fault rules head) (payload rules headers chosen head.arg) (payload-stable headers chosen head.arg)
  past_payload_head-stable (detached came detached_length) headers chosen at head = unless_fault-stable (headers_so_far headers []) at (nil_fault_within rules.payload_limit detached_length head) (detached_payload rules headers chosen came detached_length at) (detached_payload-stable headers chosen came detached_length at)

  payload_head-stable : (headers : Headers) (chosen : Option Chosen) → Stable (payload_head rules headers chosen)
  payload_head-stable headers chosen = with_head-stable laws (headers_so_far headers []) (past_payload_head rules headers chosen) (λ at head. past_payload_head-stable rules.source headers chosen at head)

  past_choice-stable : (headers : Headers) (found : Result (Option Chosen) Reason) → Stable (past_choice rules headers found)
  past_choice-stable headers (Ok chosen) = payload_head-stable headers chosen
  past_choice-stable headers (Err reason) = settled-stable (λ place. stop (headers_so_far headers []) reason place) (λ place. refl)

  both_buckets-stable : (headers : Headers) → Stable (both_buckets rules headers)
  both_buckets-stable headers = unless_at-stable (headers_so_far headers []) (pair_fault headers.protected_pairs headers.unprotected_pairs rules.understood) (key_choice rules headers) (past_choice-stable headers (rules.choice headers))

  unprotected-stable : (kind : Kind) (P : List ℕ) (pairs : List Pair) → Stable (unprotected rules kind P pairs)
  unprotected-stable kind P pairs = with_item-stable laws (unprotected_so_far pairs) rules.room rules.nesting (past_unprotected rules kind P pairs)
      (λ at content. with_value-stable (protected_so_far pairs) (bucket_of rules.nesting (placed_at at content)) (λ others. both_buckets rules (headers_of kind P pairs others)) (λ others. both_buckets-stable (headers_of kind P pairs others)))

  protected-stable : (kind : Kind) (n : ℕ) → Stable (protected rules kind n)
  protected-stable kind n = with_string-stable (λ bytes. nothing_so_far) n (past_protected rules kind)
      (λ at P. with_value-stable nothing_so_far (bucket_of rules.nesting (placed_at at P)) (unprotected rules kind P) (unprotected-stable kind P))

  protected_head-stable : (kind : Kind) → Stable (protected_head rules kind)
  protected_head-stable kind = with_head-stable laws nothing_so_far (past_protected_head rules kind)
      (λ at head. unless_fault-stable nothing_so_far at (protected_head_fault rules head) (protected rules kind head.arg) (protected-stable kind head.arg))

  past_array_head-stable : (kind : Kind) (at : ℕ) (head : Head) → Stable (past_array_head rules kind at head)
  past_array_head-stable kind at head = unless_fault-stable nothing_so_far at (array_head_fault head) (protected_head rules kind) (protected_head-stable kind)

  array_head-stable : (kind : Kind) → Stable (array_head rules kind)
  array_head-stable kind = with_head-stable laws nothing_so_far (past_array_head rules kind) (past_array_head-stable kind)

  past_tag-stable : (at : ℕ) (kind : Result Kind Reason) → Stable (past_tag rules at kind)
  past_tag-stable at (Ok kind) = array_head-stable kind
  past_tag-stable at (Err reason) = settled-stable (λ place. stop nothing_so_far reason at) (λ place. refl)

  second_head-stable : Stable (second_head rules)
  second_head-stable = with_head-stable laws nothing_so_far (past_second_head rules) (λ at head. past_tag-stable at (tag_after_cwt rules.wanted head))

  past_untagged-stable : (wanted : Wanted) (at : ℕ) (head : Head) → Stable (past_untagged rules wanted at head)
  past_untagged-stable wants.Mac0 at head = past_array_head-stable kinds.Mac0 at head
  past_untagged-stable wants.Sign1 at head = past_array_head-stable kinds.Sign1 at head
  past_untagged-stable wants.Tagged at head = settled-stable (λ place. stop nothing_so_far WrongTag at) (λ place. refl)

  past_first_head-stable : (at : ℕ) (head : Head) → Stable (past_first_head rules at head)
  past_first_head-stable at head =
      either-stable (is_cwt_tag rules.cwt head) (second_head rules) _ second_head-stable
      (either-stable (is_tag head) (past_tag rules at (kind_of_tag rules.wanted head.arg)) _ (past_tag-stable at (kind_of_tag rules.wanted head.arg))
      (either-stable (is_array head) (past_untagged rules rules.wanted at head) (λ place bytes. stop nothing_so_far WrongType at) (past_untagged-stable rules.wanted at head)
      (settled-stable (λ place. stop nothing_so_far WrongType at) (λ place. refl))))

  pub first_head-stable : Stable (first_head rules)
  first_head-stable = with_head-stable laws nothing_so_far (past_first_head rules) past_first_head-stable

-- ---- the message

pub message_stays : HeadLaws → MessageStays
unfolding message
message_stays laws rules bytes more done = (first_head-stable laws rules).stays more 0 bytes done

pub message_ends_truncated : HeadLaws → MessageEndsTruncated
unfolding message
message_ends_truncated laws rules bytes unsettled = (first_head-stable laws rules).ends 0 bytes unsettled ∙ ap (refused Truncated) (zero-add (length bytes))

open_if_not : (b : Bool) → (b ≡ true → ⊥) → b ≡ false
open_if_not true h = absurd (h refl)
open_if_not false h = refl

pub open_earlier : HeadLaws → OpenEarlier
open_earlier laws rules bytes more unsettled = open_if_not (message rules bytes).settled (λ done.
    let never : true ≡ false = sym done ∙ (sym (ap (λ (reading : Reading). reading.settled) (message_stays laws rules bytes more done)) ∙ unsettled) in absurd cc)

pub verdict_stays : HeadLaws → VerdictStays
verdict_stays laws room nesting setting decides bytes more done = ap (λ (reading : Reading). reading.answer) (message_stays laws (verifying room nesting setting decides) bytes more done)
