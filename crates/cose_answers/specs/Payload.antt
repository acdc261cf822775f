-- Where a request says that the payload is.
use Rattle.std.specs.Prelude.{◌≡◌, ℕ, Bool, true, false, List, Option, Some, None, length, nat_lt, option_and_then, option_map, take, if◌then◌else◌}
use Rattle.cose_answers.specs.declared.request.Payload.{Payload}
use Rattle.cose_answers.specs.declared.request.Payload.TheVariants.{InMessage, Bytes, File}

-- It is in the file of this name.
abbrev pub IsFile : List ℕ → Payload → Type 0
IsFile name InMessage = ⊥
IsFile name (Bytes payload) = ⊥
IsFile name (File file stated) = file.now ≡ name

abbrev pub is_in_file : Payload → Bool
is_in_file InMessage = false
is_in_file (Bytes payload) = false
is_in_file (File name stated) = true

-- So many first bytes as are stated, where there are as many; all bytes, where no number is stated.
abbrev pub stated_part : Option ℕ → List ℕ → Option (List ℕ)
stated_part None bytes = Some bytes
stated_part (Some count) bytes = if nat_lt (length bytes) count then None else Some (take count bytes)

abbrev pub part_of_file : (List ℕ → Option (List ℕ)) → List ℕ → Option ℕ → Option (List ℕ)
part_of_file content name stated = option_and_then (stated_part stated) (content name)

-- The detached payload, where there is one, as far as it is known: that of a file where the content of the file is, and has as
-- many bytes as are stated.
abbrev pub detached_in : (List ℕ → Option (List ℕ)) → Payload → Option (Option (List ℕ))
detached_in content InMessage = Some None
detached_in content (Bytes payload) = Some (Some payload.items)
detached_in content (File name stated) = option_map Some (part_of_file content name.now stated)
