-- The header parameters that are printed of an authentic message, each by its label.
use Rattle.std.specs.Prelude.{ℕ, Bool, List, ◌++◌, map, find, Option, Some, None, option_map, codes, bytes_eq}
use Rattle.std.specs.List.{concat}
use Rattle.cose_head.specs.Placed.{Placed}
use Rattle.cose_map.specs.Map.Pairs.{Pair}
use Rattle.cose_text.specs.Diagnostic.{diagnostic_of}
use Rattle.cose_answers.specs.Readable.{label_text}

-- The value of the parameter whose label has this notation.
abbrev pub is_labelled : List ℕ → Pair → Bool
is_labelled label pair = bytes_eq label (label_text pair.name)

abbrev pub value_labelled : List ℕ → List Pair → Option Placed
value_labelled label pairs = option_map (λ pair. pair.value) (find (is_labelled label) pairs)

abbrev pub value_in : List ℕ → Option (List Pair) → Option Placed
value_in label None = None
value_in label (Some pairs) = value_labelled label pairs

-- The bucket, the label, and the value in diagnostic notation.
abbrev pub value_line : List ℕ → List ℕ → Placed → List ℕ
value_line bucket label value = bucket ++ codes " " ++ label ++ codes ": " ++ diagnostic_of value ++ codes "\n"

-- No label is in both buckets of a message (RFC 9052 section 3), so there is one value at most.
abbrev pub line_of : List ℕ → Option Placed → Option Placed → List ℕ
line_of label (Some value) unprotected = value_line (codes "protected") label value
line_of label None (Some value) = value_line (codes "unprotected") label value
line_of label None None = codes "absent " ++ label ++ codes "\n"

-- The line of a label, where these are the pairs of the protected and of the unprotected bucket.
abbrev pub parameter_line : Option (List Pair) → Option (List Pair) → List ℕ → List ℕ
parameter_line protected unprotected label = line_of label (value_in label protected) (value_in label unprotected)

abbrev pub parameter_lines : List (List ℕ) → Option (List Pair) → Option (List Pair) → List ℕ
parameter_lines labels protected unprotected = concat (map (parameter_line protected unprotected) labels)
