-- Items as bytes and their place (RFC 8949 section 3). The head gives what the item is, and the bytes after the head
-- give its children. Each definition has an answer for every list of bytes.
use Rattle.std.specs.Prelude.{ℕ, zero, suc, ◌+◌, ℤ, pos, negsuc, Bool, true, false, List, [], ◌∷◌, length, take, drop, Option, Some, None, Result, Ok, Err, nat_lt, ◌==◌, ◌||◌, if◌then◌else◌}
use Rattle.std.specs.Str.{is_utf8}
use Rattle.cose_head.specs.declared.head.Head.{Head}
use Rattle.cose_head.specs.declared.head.HeadStep.{HeadStep}
use Rattle.cose_head.specs.declared.head.HeadStep.TheVariants.{Got}
use Rattle.cose_head.specs.declared.item.Span.{Span}
use Rattle.cose_head.specs.declared.refusal.Refusal.{Refusal}
use Rattle.cose_head.specs.Head.{bare_head}
use Rattle.cose_head.specs.Reading.{child_count, read, span_of}
use Rattle.cose_head.specs.Measured.{left_of}

pub record Placed : Type 0 where
  pub bytes : List ℕ
  pub place : ℕ

-- The head of an item. Where the bytes don't begin with a head, it is that of the simple value undefined (section 3.3).
abbrev pub undefined : Head
undefined = record { major = 7; arg = 23; width = 1 }

abbrev pub head_or_undefined : HeadStep → Head
head_or_undefined (Got head used) = head
head_or_undefined _ = undefined

unfoldable pub head_of_item : Placed → Head
head_of_item p = head_or_undefined (bare_head p.bytes)

-- What an item is: an integer, the content of a string, an array, a map, a tag with its number, a Boolean value, a
-- float, or another simple value. The argument n of major type 1 is the number -1 - n.
pub data Look : Type 0 where
  integer : ℤ → Look
  byte_content : List ℕ → Look
  text_content : List ℕ → Look
  an_array : Look
  a_map : Look
  a_tag : ℕ → Look
  truth : Bool → Look
  a_float : Look
  other : Look

abbrev pub simple_look : Head → Look
simple_look h =
    if nat_lt 2 h.width then a_float else
    if h.arg == 20 then truth false else
    if h.arg == 21 then truth true else other

abbrev pub look_with : Head → List ℕ → Look
look_with h rest =
    if h.major == 0 then integer (pos h.arg) else
    if h.major == 1 then integer (negsuc h.arg) else
    if h.major == 2 then byte_content (take h.arg rest) else
    if h.major == 3 then text_content (take h.arg rest) else
    if h.major == 4 then an_array else
    if h.major == 5 then a_map else
    if h.major == 6 then a_tag h.arg else simple_look h

-- The bytes after the head, and their place.
abbrev pub past_head : Head → Placed → Placed
past_head h p = record { bytes = drop h.width p.bytes; place = p.place + h.width }

unfoldable pub look : Placed → Look
look p = look_with (head_of_item p) (past_head (head_of_item p) p).bytes

-- The integer that an item is, the content of a byte string, and the content of a text string that is UTF-8 (section
-- 3.1).
abbrev pub integer_in : Look → Option ℤ
integer_in (integer z) = Some z
integer_in _ = None

abbrev pub bytes_in : Look → Option (List ℕ)
bytes_in (byte_content content) = Some content
bytes_in _ = None

abbrev pub if_utf8 : List ℕ → Option (List ℕ)
if_utf8 content = if is_utf8 content then Some content else None

abbrev pub text_in : Look → Option (List ℕ)
text_in (text_content content) = if_utf8 content
text_in _ = None

-- Whether it is a text string, UTF-8 or not.
abbrev pub is_a_text : Look → Bool
is_a_text (text_content content) = true
is_a_text _ = false

-- The Boolean value that an item is: the simple values 20 and 21 are false and true (section 3.3).
abbrev pub truth_in : Look → Option Bool
truth_in (truth b) = Some b
truth_in _ = None

-- The number of a tag and the item that it encloses, which follows the tag's head (section 3.4).
abbrev pub tag_with : Head → Placed → Option (ℕ × Placed)
tag_with h p = if h.major == 6 then Some (h.arg, past_head h p) else None

abbrev pub tag_in : Placed → Option (ℕ × Placed)
tag_in p = tag_with (head_of_item p) p

abbrev pub is_an_array : Look → Bool
is_an_array an_array = true
is_an_array _ = false

abbrev pub is_a_map : Look → Bool
is_a_map a_map = true
is_a_map _ = false

abbrev pub is_a_float : Look → Bool
is_a_float a_float = true
is_a_float _ = false

-- The item that the bytes begin with, of a nesting of at most 32.
abbrev pub span_at : List ℕ → Result Span Refusal
span_at bytes = span_of (read 32 (left_of bytes (length bytes) 0))

-- The given number of items, one after another, ended by the first that isn't an item.
abbrev pub first_of : (Placed → List Placed) → Placed → Result Span Refusal → List Placed
first_of others p (Ok span) =
    record { bytes = take span.length p.bytes; place = p.place } ∷
    others (record { bytes = drop span.length p.bytes; place = p.place + span.length })
first_of others p (Err refusal) = []

unfoldable pub items_from : ℕ → Placed → List Placed
items_from zero p = []
items_from (suc n) p = first_of (items_from n) p (span_at p.bytes)

-- The direct children of an array or a map, in their order. Those of a map are label, value, label, value.
abbrev pub has_children : Head → Bool
has_children h = h.major == 4 || h.major == 5

abbrev pub children_with : Head → Placed → List Placed
children_with h p = if has_children h then items_from (child_count h) (past_head h p) else []

unfoldable pub children_of : Placed → List Placed
children_of p = children_with (head_of_item p) p

-- The children of an item that is an array or a map, possibly none.
abbrev pub children_if_any : Placed → Option (List Placed)
children_if_any p = if has_children (head_of_item p) then Some (children_of p) else None
