-- What a head that has no fault ensures of its argument.
use Rattle.std.proofs.Common.{◌≡◌, ℕ, ◌<◌, ◌≤◌, ◌^◌, Bool, true, false, cond, Option, Some, None, refl, arith}
use Rattle.std.specs.Prelude.{nat_lt, nat_le, ◌||◌}
use Rattle.std.proofs.lemmas.Bool.{ltb-false, leb-false}
use Rattle.cose_head.specs.declared.head.Head.{Head}
use Rattle.cose_head.specs.declared.reason.Reason.{Reason}
use Rattle.cose_msg.specs.Phases.{auth_fault_where, is_bytes_head, is_nil, protected_fault_within, nil_fault_within, payload_fault_within}

protected_cases : (bytes long : Bool) (a b : Reason) (n room : ℕ) → (long ≡ false → n ≤ room) → cond bytes (cond long (Some a) None) (Some b) ≡ None → n ≤ room
protected_cases false long a b n room h e = absurd cc
protected_cases true true a b n room h e = absurd cc
protected_cases true false a b n room h e = h refl

pub protected_fits : (room : ℕ) (head : Head) → protected_fault_within room head ≡ None → head.arg ≤ room
protected_fits room head e = protected_cases (is_bytes_head head) (nat_lt room head.arg) _ _ head.arg room (λ short. ltb-false room head.arg short) e

payload_cases : (bytes long over : Bool) (a : Reason) (b : Option Reason) (nil : Bool) (c : Reason) (n : ℕ) → (long ≡ false → n < 2 ^ 56) → cond bytes (cond (long || over) (Some a) None) (cond nil b (Some c)) ≡ None → (b ≡ None → ⊥) → n < 2 ^ 56
payload_cases false long over a b true c n h e none = absurd (none e)
payload_cases false long over a b false c n h e none = absurd cc
payload_cases true true over a b nil c n h e none = absurd cc
payload_cases true false true a b nil c n h e none = absurd cc
payload_cases true false false a b nil c n h e none = h refl

pub payload_fits : (limit : ℕ) (head : Head) → payload_fault_within limit head ≡ None → head.arg < 2 ^ 56
payload_fits limit head e = payload_cases (is_bytes_head head) (nat_le (2 ^ 56) head.arg) (nat_lt limit head.arg) _ _ (is_nil head) _ head.arg (λ short. omega (arith, leb-false (2 ^ 56) head.arg short)) e (λ none. absurd cc)

nil_cases : (nil long over bytes : Bool) (a b c : Reason) (n : ℕ) → (long ≡ false → n < 2 ^ 56) → cond nil (cond (long || over) (Some a) None) (cond bytes (Some b) (Some c)) ≡ None → n < 2 ^ 56
nil_cases false long over true a b c n h e = absurd cc
nil_cases false long over false a b c n h e = absurd cc
nil_cases true true over bytes a b c n h e = absurd cc
nil_cases true false true bytes a b c n h e = absurd cc
nil_cases true false false bytes a b c n h e = h refl

pub stated_fits : (limit detached_length : ℕ) (head : Head) → nil_fault_within limit detached_length head ≡ None → detached_length < 2 ^ 56
stated_fits limit detached_length head e = nil_cases (is_nil head) (nat_le (2 ^ 56) detached_length) (nat_lt limit detached_length) (is_bytes_head head) _ _ _ detached_length (λ short. omega (arith, leb-false (2 ^ 56) detached_length short)) e

auth_cases : (bytes same : Bool) (a b : Reason) → cond bytes (cond same None (Some a)) (Some b) ≡ None → same ≡ true
auth_cases false same a b e = absurd cc
auth_cases true true a b e = refl
auth_cases true false a b e = absurd cc

pub auth_fits : (fits : ℕ → Bool) (head : Head) → auth_fault_where fits head ≡ None → fits head.arg ≡ true
auth_fits fits head e = auth_cases (is_bytes_head head) (fits head.arg) _ _ e

-- The fault depends on the lengths that fit.
pub auth_fault_same : (fits other : ℕ → Bool) → ((n : ℕ) → fits n ≡ other n) → (head : Head) → auth_fault_where fits head ≡ auth_fault_where other head
auth_fault_same fits other same head = rw (same head.arg) refl
