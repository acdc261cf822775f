-- No more of a payload is known than a payload may have.
use Rattle.std.proofs.Common.{◌≡◌, ℕ, ◌≤◌, ◌^◌, Bool, true, false, inl, inr, cond, List, [], length, take, Option, Some, None, Result, Ok, Err, refl, arith}
use Rattle.std.specs.Prelude.{nat_lt, nat_le, ◌||◌}
use Rattle.std.proofs.lemmas.Bool.{cases_lt, le-ltb, lt-ltb, ltb-false}
use Rattle.std.proofs.lemmas.List.{length-take-le}
use Rattle.cose_head.specs.declared.head.Head.{Head}
use Rattle.cose_head.specs.declared.kind.Kind.{Kind}
use Rattle.cose_head.specs.declared.kind.Kind.TheVariants as kinds
use Rattle.cose_head.specs.declared.reason.Reason.{Reason}
use Rattle.cose_head.specs.declared.reason.Reason.TheVariants.{WrongType}
use Rattle.cose_map.specs.Bucket.{bucket_of}
use Rattle.cose_map.specs.Map.Pairs.{Pair}
use Rattle.cose_map.specs.Bucket.Both.{pair_fault}
use Rattle.cose_msg.specs.declared.context.Wanted.{Wanted}
use Rattle.cose_msg.specs.declared.context.Wanted.TheVariants as wants
use Rattle.cose_msg.specs.Answer.{Chosen, Headers}
use Rattle.cose_msg.specs.Front.{array_head_fault, past_array_head, array_head, kind_of_tag, past_tag, tag_after_cwt, past_second_head, second_head, past_untagged, is_cwt_tag, is_tag, is_array, past_first_head}
use Rattle.cose_msg.specs.Message.{message}
use Rattle.cose_msg.specs.Phases.{nothing_so_far, protected_so_far, unprotected_so_far, headers_so_far, finish, auth, auth_head_fault, past_auth_head, auth_head, past_payload, payload, payload_head_fault, payload_fault_within, nil_fault_within, detached_payload, past_payload_head_from, is_bytes_head, is_nil, past_payload_head, payload_head, past_choice, key_choice, both_buckets, placed_at, headers_of, past_unprotected, unprotected, past_protected, protected, protected_head_fault, past_protected_head, protected_head}
use Rattle.cose_msg.specs.Reading.{Findings, Phase, stop}
use Rattle.cose_msg.specs.Rules.{Rules}
use Rattle.cose_msg.specs.Source.{Source, attached, detached}
use Rattle.cose_msg.proofs.lemmas.Reading.FindingForms.{HoldsThroughout, choose-holds, unless-holds, unless_fault-holds, with_head-holds, with_item-holds, with_string-holds, with_value-holds}

fault_cases : (bytes large over : Bool) (a : Reason) (b : Option Reason) (nil : Bool) (c : Reason) (n limit : ℕ) → (over ≡ false → n ≤ limit) → cond bytes (cond (large || over) (Some a) None) (cond nil b (Some c)) ≡ None → (b ≡ None → ⊥) → n ≤ limit
fault_cases false large over a b true c n limit h e none = absurd (none e)
fault_cases false large over a b false c n limit h e none = absurd cc
fault_cases true true over a b nil c n limit h e none = absurd cc
fault_cases true false true a b nil c n limit h e none = absurd cc
fault_cases true false false a b nil c n limit h e none = h refl

payload_is_within : (limit : ℕ) (head : Head) → payload_fault_within limit head ≡ None → head.arg ≤ limit
payload_is_within limit head e = fault_cases (is_bytes_head head) (nat_le (2 ^ 56) head.arg) (nat_lt limit head.arg) _ _ (is_nil head) _ head.arg limit (λ short. ltb-false limit head.arg short) e (λ none. absurd cc)

nil_cases : (nil large over bytes : Bool) (a b c : Reason) (n limit : ℕ) → (over ≡ false → n ≤ limit) → cond nil (cond (large || over) (Some a) None) (cond bytes (Some b) (Some c)) ≡ None → n ≤ limit
nil_cases false large over true a b c n limit h e = absurd cc
nil_cases false large over false a b c n limit h e = absurd cc
nil_cases true true over bytes a b c n limit h e = absurd cc
nil_cases true false true bytes a b c n limit h e = absurd cc
nil_cases true false false bytes a b c n limit h e = h refl

stated_is_within : (limit detached_length : ℕ) (head : Head) → nil_fault_within limit detached_length head ≡ None → detached_length ≤ limit
stated_is_within limit detached_length head e = nil_cases (is_nil head) (nat_le (2 ^ 56) detached_length) (nat_lt limit detached_length) (is_bytes_head head) _ _ _ detached_length limit (λ short. ltb-false limit detached_length short) e

module _ (rules : Rules) where
  abbrev Small : Findings → Type 0
  Small so_far = length so_far.payload ≤ rules.payload_limit

  none_small : Small nothing_so_far
  none_small = omega arith

  abbrev Fits : Phase → Type 0
  Fits phase = HoldsThroughout Small phase

  auth_head-fits : (headers : Headers) (chosen : Option Chosen) (B : List ℕ) → length B ≤ rules.payload_limit → Fits (auth_head rules headers chosen B)
  auth_head-fits headers chosen B le = with_head-holds Small (headers_so_far headers B) (past_auth_head rules headers chosen B) le
      (λ at head. unless_fault-holds Small (headers_so_far headers B) at (auth_head_fault rules chosen head) (auth rules headers chosen B at head.arg) le
      (λ e. with_string-holds Small (λ bytes. headers_so_far headers B) head.arg (finish rules headers chosen B at) (λ bytes lt. le) (λ from string short place bytes. le)))

  payload-fits : (headers : Headers) (chosen : Option Chosen) (n : ℕ) → n ≤ rules.payload_limit → Fits (payload rules headers chosen n)
  payload-fits headers chosen n le = with_string-holds Small (headers_so_far headers) n (past_payload rules headers chosen) (λ bytes lt. omega (arith, lt, le))
      (λ at B short. auth_head-fits headers chosen B (omega (arith, short, le)))

  detached_payload-fits : (headers : Headers) (chosen : Option Chosen) (came : List ℕ) (detached_length at : ℕ) → detached_length ≤ rules.payload_limit → Fits (detached_payload rules headers chosen came detached_length at)
  detached_payload-fits headers chosen came detached_length at le place bytes =
      elim (cases_lt (length came) detached_length) [
        | inl short ↦ rw (lt-ltb (length came) detached_length short) (omega (arith, short, le))
        | inr there ↦ rw (le-ltb (length came) detached_length there) (auth_head-fits headers chosen (take detached_length came) (omega (arith, le, length-take-le detached_length came there)) place bytes)
      ]

  past_payload_head-fits : (source : Source) (headers : Headers) (chosen : Option Chosen) (at : ℕ) (head : Head) → Fits (past_payload_head_from source rules headers chosen at head)
  past_payload_head-fits attached headers chosen at head = unless_fault-holds Small (headers_so_far headers []) at (payload_head_fault rules head) (payload rules headers chosen head.arg) (omega arith)
      (λ e. payload-fits headers chosen head.arg (payload_is_within rules.payload_limit head e))
  past_payload_head-fits (detached came detached_length) headers chosen at head = unless_fault-holds Small (headers_so_far headers []) at (nil_fault_within rules.payload_limit detached_length head) (detached_payload rules headers chosen came detached_length at) (omega arith)
      (λ e. detached_payload-fits headers chosen came detached_length at (stated_is_within rules.payload_limit detached_length head e))

  payload_head-fits : (headers : Headers) (chosen : Option Chosen) → Fits (payload_head rules headers chosen)
  payload_head-fits headers chosen = with_head-holds Small (headers_so_far headers []) (past_payload_head rules headers chosen) (omega arith) (λ at head. past_payload_head-fits rules.source headers chosen at head)

  past_choice-fits : (headers : Headers) (found : Result (Option Chosen) Reason) → Fits (past_choice rules headers found)
  past_choice-fits headers (Ok chosen) = payload_head-fits headers chosen
  past_choice-fits headers (Err reason) = λ place bytes. omega arith

  both_buckets-fits : (headers : Headers) → Fits (both_buckets rules headers)
  both_buckets-fits headers place bytes = unless-holds Small (headers_so_far headers []) (pair_fault headers.protected_pairs headers.unprotected_pairs rules.understood place) (key_choice rules headers) (omega arith) (past_choice-fits headers (rules.choice headers)) place bytes

  unprotected-fits : (kind : Kind) (P : List ℕ) (pairs : List Pair) → Fits (unprotected rules kind P pairs)
  unprotected-fits kind P pairs = with_item-holds Small (unprotected_so_far pairs) rules.room rules.nesting (past_unprotected rules kind P pairs) (λ n. omega arith)
      (λ at content. with_value-holds Small (protected_so_far pairs) (bucket_of rules.nesting (placed_at at content)) (λ others. both_buckets rules (headers_of kind P pairs others)) (omega arith) (λ others. both_buckets-fits (headers_of kind P pairs others)))

  protected_head-fits : (kind : Kind) → Fits (protected_head rules kind)
  protected_head-fits kind = with_head-holds Small nothing_so_far (past_protected_head rules kind) none_small
      (λ at head. unless_fault-holds Small nothing_so_far at (protected_head_fault rules head) (protected rules kind head.arg) none_small
      (λ e. with_string-holds Small (λ bytes. nothing_so_far) head.arg (past_protected rules kind) (λ bytes lt. none_small)
      (λ from P short. with_value-holds Small nothing_so_far (bucket_of rules.nesting (placed_at from P)) (unprotected rules kind P) none_small (unprotected-fits kind P))))

  past_array_head-fits : (kind : Kind) (at : ℕ) (head : Head) → Fits (past_array_head rules kind at head)
  past_array_head-fits kind at head = unless_fault-holds Small nothing_so_far at (array_head_fault head) (protected_head rules kind) none_small (λ e. protected_head-fits kind)

  array_head-fits : (kind : Kind) → Fits (array_head rules kind)
  array_head-fits kind = with_head-holds Small nothing_so_far (past_array_head rules kind) none_small (past_array_head-fits kind)

  past_tag-fits : (at : ℕ) (kind : Result Kind Reason) → Fits (past_tag rules at kind)
  past_tag-fits at (Ok kind) = array_head-fits kind
  past_tag-fits at (Err reason) = λ place bytes. none_small

  second_head-fits : Fits (second_head rules)
  second_head-fits = with_head-holds Small nothing_so_far (past_second_head rules) none_small (λ at head. past_tag-fits at (tag_after_cwt rules.wanted head))

  past_untagged-fits : (wanted : Wanted) (at : ℕ) (head : Head) → Fits (past_untagged rules wanted at head)
  past_untagged-fits wants.Mac0 at head = past_array_head-fits kinds.Mac0 at head
  past_untagged-fits wants.Sign1 at head = past_array_head-fits kinds.Sign1 at head
  past_untagged-fits wants.Tagged at head = λ place bytes. none_small

  past_first_head-fits : (at : ℕ) (head : Head) → Fits (past_first_head rules at head)
  past_first_head-fits at head place bytes =
      choose-holds Small (is_cwt_tag rules.cwt head) (second_head rules place bytes) _ (second_head-fits place bytes)
      (choose-holds Small (is_tag head) (past_tag rules at (kind_of_tag rules.wanted head.arg) place bytes) _ (past_tag-fits at (kind_of_tag rules.wanted head.arg) place bytes)
      (choose-holds Small (is_array head) (past_untagged rules rules.wanted at head place bytes) (stop nothing_so_far WrongType at) (past_untagged-fits rules.wanted at head place bytes) none_small))

pub payload_within : (rules : Rules) (bytes : List ℕ) → length (message rules bytes).so_far.payload ≤ rules.payload_limit
unfolding message
payload_within rules bytes = with_head-holds (Small rules) nothing_so_far (past_first_head rules) (none_small rules) (past_first_head-fits rules) 0 bytes
