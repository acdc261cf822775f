-- The bytes that an input stands for which may be a text, and what is left of them.
use Rattle.std.specs.Prelude.{ℕ, ◌^◌, List, [], ◌∷◌, ◌++◌, Option, Some, None, option_map, replicate, set, if◌then◌else◌}
use Rattle.cose_text.specs.TextForm.{after, given, may_end}
use Rattle.cose_text.specs.declared.text_form.Next.{Next}
use Rattle.cose_text.specs.declared.text_form.Next.TheVariants as next
use Rattle.cose_text.specs.declared.text_input.InputForm.{InputForm}
use Rattle.cose_text.specs.declared.text_input.InputForm.TheVariants as forms
use Rattle.cose_text.specs.declared.text_input.TextInput.{TextInput}

-- Bytes that never come, more than any length. A text that is wrong, or that ends too early, stands for its bytes up to there,
-- and then for these: no read gives one, so the reader fails in their place, and nothing is found to be the end.
unfoldable pub never : List ℕ
never = replicate (2 ^ 65) 0

abbrev pub listed : Option ℕ → List ℕ
listed None = []
listed (Some byte) = byte ∷ []

-- A list with this byte at a place, if there is one.
abbrev pub with_byte : List ℕ → ℕ → Option ℕ → List ℕ
with_byte bytes at None = bytes
with_byte bytes at (Some byte) = set bytes at byte

-- The bytes that the rest of an input stands for, by what it has next.
unfoldable pub bytes_from : Next → List ℕ → List ℕ
bytes_from next [] = if may_end next then [] else never
bytes_from next (c ∷ rest) = listed (given next c) ++ bytes_from (after next c) rest

abbrev pub begins : InputForm → Next
begins forms.Cbor = next.Byte
begins forms.Hexadecimal = next.High
begins forms.Base64url = next.Group
begins forms.Either = next.First

-- The bytes that an input in this form stands for.
abbrev pub bytes_in : InputForm → List ℕ → List ℕ
bytes_in form input = bytes_from (begins form) input

-- The reader of an input, what is next, and the bytes to come, where those of the reader are known.
abbrev pub reader_of : {R : Type 0} → TextInput R → R
reader_of input = input.reader

abbrev pub next_of : {R : Type 0} → TextInput R → Next
next_of input = input.next

abbrev pub to_come : Next → Option (List ℕ) → Option (List ℕ)
to_come next rest = option_map (bytes_from next) rest
