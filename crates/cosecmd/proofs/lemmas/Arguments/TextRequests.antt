-- What a run reads of an input whose form the arguments name.
use Rattle.std.proofs.Common.{◌≡◌, ℕ, List, Option, Some, refl}
use Rattle.cose_text.specs.TextInput.{begins, bytes_in, to_come}
use Rattle.cose_text.specs.declared.text_form.Next.{Next}
use Rattle.cose_text.specs.declared.text_input.InputForm.{InputForm}

-- The bytes to come of a reader that is taken for an input in this form.
pub read_of : {R : Type 0} (remaining : R → Option (List ℕ)) (form named : InputForm) (next : Next) (before now : R) (bytes : List ℕ) → next ≡ begins form → now ≡ before → form ≡ named → remaining before ≡ Some bytes
    → to_come next (remaining now) ≡ Some (bytes_in named bytes)
read_of remaining form named next before now bytes is same names known = rw (is, same, known, names) refl
