-- Labels of maps (RFC 9052 section 1.5): integers and text strings, which are equal by value, however they are encoded.
pub mod Order
pub mod View
use Rattle.std.specs.Prelude.{ℕ, ℤ, Bool, false, List, Option, Some, None, bytes_eq, if◌then◌else◌}
use Rattle.std.specs.Ordering.{int_eq}
use Rattle.std.specs.Str.{is_utf8}
use Rattle.cose_head.specs.Placed.{Placed, Look, integer, text_content, look}

pub data LabelValue : Type 0 where
  number : ℤ → LabelValue
  words : List ℕ → LabelValue

abbrev pub same_label : LabelValue → LabelValue → Bool
same_label (number a) (number b) = int_eq a b
same_label (words a) (words b) = bytes_eq a b
same_label _ _ = false

-- A text string is UTF-8 (RFC 8949 section 3.1).
abbrev pub words_of : List ℕ → Option LabelValue
words_of content = if is_utf8 content then Some (words content) else None

abbrev pub label_like : Look → Option LabelValue
label_like (integer z) = Some (number z)
label_like (text_content content) = words_of content
label_like _ = None

-- The label that an item is, if it is one.
abbrev pub label_of : Placed → Option LabelValue
label_of p = label_like (look p)
