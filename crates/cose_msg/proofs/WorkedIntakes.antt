-- What a call's answer makes of an intake: whether it has failed, and whether it has ended.
use Rattle.std.proofs.Common.{◌≡◌, ℕ, true, false, Ok, Err, refl}
use Rattle.cose_msg.specs.Intake.{is_end, marks}

bytes_leave_it_unfailed : (E : Type 0) → marks {T = ℕ} {E = E} false (Ok 3) ≡ false
bytes_leave_it_unfailed = λ E. refl

a_failure_marks_it : (E : Type 0) (fault : E) → marks {T = ℕ} {E = E} false (Err fault) ≡ true
a_failure_marks_it = λ E fault. refl

-- It stays so where a later call gives bytes.
bytes_leave_it_failed : (E : Type 0) → marks {T = ℕ} {E = E} true (Ok 3) ≡ true
bytes_leave_it_failed = λ E. refl

no_byte_is_the_end : (E : Type 0) → is_end {E = E} (Ok 0) ≡ true
no_byte_is_the_end = λ E. refl

one_byte_is_not_the_end : (E : Type 0) → is_end {E = E} (Ok 1) ≡ false
one_byte_is_not_the_end = λ E. refl

a_failure_is_not_the_end : (E : Type 0) (fault : E) → is_end {E = E} (Err fault) ≡ false
a_failure_is_not_the_end = λ E fault. refl
