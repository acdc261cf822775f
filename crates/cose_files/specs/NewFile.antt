-- The new files of a run: what was found of the name, and the file that was made.
use Rattle.std.specs.Prelude.{◌≡◌, ℕ, ◌⊎◌, Bool, List, Option, Some, None, option_and_then, option_map}
use Rattle.cose_files.specs.declared.new_file.Standing.{Standing}
use Rattle.cose_files.specs.declared.new_file.Standing.TheVariants as standings

-- The name that a file is to have, under which of its names it is, and what it holds where it is kept, as far as that is known.
pub record MadeFile : Type 0 where
  pub name : List ℕ
  pub standing : Standing
  pub content : Option (List ℕ)

-- Whether something had the name, once that was looked at, and the file, once it is made.
pub record Made : Type 0 where
  pub is_taken : Option Bool
  pub file : Option MadeFile

abbrev pub looked : Bool → Made → Made
looked is_taken made = record { is_taken = Some is_taken; file = made.file }

-- A file that is to have this name, and has none yet. It is the first that is made.
abbrev pub unnamed : List ℕ → MadeFile
unnamed name = record { name = name; standing = standings.Unnamed; content = None }

abbrev pub IsFirstFile : List ℕ → Made → Made → Type 0
IsFirstFile name old new = (old.file ≡ None) × (new.file ≡ Some (unnamed name))

-- The file is under these of its names, and holds this.
abbrev pub file_settled : Standing → Option (List ℕ) → MadeFile → MadeFile
file_settled standing content file = record { name = file.name; standing = standing; content = content }

abbrev pub settled : Standing → Option (List ℕ) → Made → Made
settled standing content made = record { is_taken = made.is_taken; file = option_map (file_settled standing content) made.file }

-- The file is kept, or removed, or neither was done whole: it is of the same name.
abbrev pub IsSettled : Made → Made → Type 0
IsSettled old new = (standing : Standing) × (content : Option (List ℕ)) × (new ≡ settled standing content old)

-- Nothing of the file is left, unless the system doesn't remove it.
abbrev pub IsRemoved : Made → Made → Type 0
IsRemoved old new = (new ≡ settled standings.Gone None old) ⊎ (new ≡ settled standings.Stuck None old)

abbrev pub content_of : Made → Option (List ℕ)
content_of made = option_and_then (λ (file : MadeFile). file.content) made.file

-- The file that was made is to have this name, and is under these of its names.
abbrev pub Stands : List ℕ → Standing → Made → Type 0
Stands name standing made = (content : Option (List ℕ)) × (made.file ≡ Some (record { name = name; standing = standing; content = content }))
