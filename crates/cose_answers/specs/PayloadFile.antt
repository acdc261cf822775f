-- The payload in a file: what is read of it.
use Rattle.std.specs.Prelude.{ℕ, ◌^◌, List, ◌++◌, replicate, take, length, Option, Some, None, nat_lt, if◌then◌else◌}
use Rattle.cose_answers.specs.declared.payload_file.PayloadFile.{PayloadFile}

-- So many bytes that never come.
unfoldable pub never : ℕ → List ℕ
never count = replicate count 0

-- The bytes to come of a payload that is stated to have so many: as many of the reader's, where these are known. Where they
-- are fewer, all of them, and then more than any length: no read gives such a byte, so the intake fails in its place.
abbrev pub counted : ℕ → Option (List ℕ) → Option (List ℕ)
counted count None = None
counted count (Some bytes) = if nat_lt (length bytes) count then Some (bytes ++ never (2 ^ 65)) else Some (take count bytes)

-- How many bytes of the stated length haven't been read.
abbrev pub left_of : {R : Type 0} → PayloadFile R → ℕ
left_of intake = intake.left
