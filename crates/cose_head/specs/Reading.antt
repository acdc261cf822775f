-- Reading the item that a list of bytes begins with (RFC 8949 section 3), within a room, the number of bytes that it
-- may use, and a nesting allowance. The first fault from the left is the answer.
use Rattle.std.specs.Prelude.{ℕ, zero, suc, ◌+◌, ◌-◌, ◌*◌, Bool, List, [], ◌∷◌, length, take, drop, Option, Some, None, Result, Ok, Err, nat_lt, ◌==◌, ◌||◌, if◌then◌else◌}
use Rattle.cose_head.specs.declared.head.Head.{Head}
use Rattle.cose_head.specs.declared.item.Span.{Span}
use Rattle.cose_head.specs.declared.reason.Reason.{Reason}
use Rattle.cose_head.specs.declared.reason.Reason.TheVariants.{Truncated, BadSimple, TooDeep, PastRoom}
use Rattle.cose_head.specs.declared.refusal.Refusal.{Refusal}
use Rattle.cose_head.specs.Head.{major_of, low_of, low_fault, argument_length, head_of, is_bad_simple}
use Rattle.cose_head.specs.Item.{Item, unsigned, negative, byte_string, text_string, array, map, tag, simple, float, Items, no_items, item, depth_of}

-- What is left to be read: the bytes, how many of them may be used, and the place of the first.
pub record Left : Type 0 where
  pub bytes : List ℕ
  pub room : ℕ
  pub place : ℕ

-- What was read and what is left after it, or the first fault and its place.
abbrev pub Outcome : Type 0 → Type 0
Outcome A = Result (A × Left) Refusal

abbrev pub Reader : Type 0 → Type 0
Reader A = Left → Outcome A

infixl 10 ◌>>=◌
abbrev pub ◌>>=◌ : {A B : Type 0} → Outcome A → (A × Left → Outcome B) → Outcome B
(Ok x) >>= f = f x
(Err refusal) >>= f = Err refusal

abbrev pub refuse : {A : Type 0} → Reason → ℕ → Outcome A
refuse reason place = Err (record { reason = reason; place = place })

-- The bytes end too early: the place is the number of all bytes.
abbrev pub truncated : {A : Type 0} → Left → Outcome A
truncated l = refuse Truncated (l.place + length l.bytes)

abbrev pub after : ℕ → Left → Left
after n l = record { bytes = drop n l.bytes; room = l.room - n; place = l.place + n }

-- The head: first it must fit in the room, and then its bytes must not be missing.
abbrev pub checked : Head → Reader Head
checked head l = if is_bad_simple head then refuse BadSimple l.place else Ok (head, after head.width l)

abbrev pub past_initial : Option Reason → ℕ → ℕ → List ℕ → Reader Head
past_initial (Some reason) wanted initial rest l = refuse reason l.place
past_initial None wanted initial rest l =
    if nat_lt (l.room - 1) wanted then refuse PastRoom l.place else
    if nat_lt (length rest) wanted then truncated l else
    checked (head_of initial (take wanted rest)) l

abbrev pub at_initial : List ℕ → Reader Head
at_initial [] l = truncated l
at_initial (initial ∷ rest) l = past_initial (low_fault (major_of initial) (low_of initial)) (argument_length (low_of initial)) initial rest l

unfoldable pub head : Reader Head
head l = if l.room == 0 then refuse PastRoom l.place else at_initial l.bytes l

-- What follows a head: n bytes of a string, n children of an array, 2n of a map, one of a tag, and else nothing. The
-- place of a fault of it is the head, where no bytes are missing.
abbrev pub is_string : Head → Bool
is_string h = h.major == 2 || h.major == 3

abbrev pub is_parent : Head → Bool
is_parent h = h.major == 4 || (h.major == 5 || h.major == 6)

abbrev pub string_item : Head → List ℕ → Item
string_item h content = if h.major == 2 then byte_string content else text_string content

abbrev pub string : ℕ → Head → Reader Item
string place h l =
    if nat_lt l.room h.arg then refuse PastRoom place else
    if nat_lt (length l.bytes) h.arg then truncated l else
    Ok (string_item h (take h.arg l.bytes), after h.arg l)

-- The children in their order, each with the room that is left.
abbrev pub read_all : Reader Item → ℕ → Reader Items
read_all one zero l = Ok (no_items, l)
read_all one (suc n) l = do
  first ← one l
  others ← read_all one n first.1
  Ok (item first.0 others.0, others.1)

-- The number of children of an array, a map or a tag.
abbrev pub child_count : Head → ℕ
child_count h = if h.major == 4 then h.arg else if h.major == 5 then 2 * h.arg else 1

abbrev pub list_item : Head → Items → Item
list_item h items = if h.major == 4 then array items else map items

abbrev pub children : Reader Item → Head → Reader Item
children one h l =
    if h.major == 6 then (do
      content ← one l
      Ok (tag h.arg content.0, content.1))
    else (do
      items ← read_all one (child_count h) l
      Ok (list_item h items.0, items.1))

-- Where no nesting is left, there is no reader of children.
abbrev pub parent : Option (Reader Item) → ℕ → Head → Reader Item
parent None place h l = refuse TooDeep place
parent (Some one) place h l = if nat_lt l.room (child_count h) then refuse PastRoom place else children one h l

abbrev pub leaf : Head → Item
leaf h =
    if h.major == 0 then unsigned h.arg else
    if h.major == 1 then negative h.arg else
    if nat_lt h.width 3 then simple h.arg else float (h.width - 1) h.arg

abbrev pub body : Option (Reader Item) → ℕ → Head → Reader Item
body one place h l =
    if is_string h then string place h l else
    if is_parent h then parent one place h l else
    Ok (leaf h, l)

abbrev pub read_with : Option (Reader Item) → Reader Item
read_with one l = do
  h ← head l
  body one l.place h.0 h.1

-- An item whose nesting is at most the allowance.
unfoldable pub read : ℕ → Reader Item
read zero l = read_with None l
read (suc depth) l = read_with (Some (read depth)) l

-- The length and the nesting of an item that was read from place 0.
abbrev pub span_of : Outcome Item → Result Span Refusal
span_of (Ok found) = Ok (record { length = found.1.place; depth = depth_of found.0 })
span_of (Err refusal) = Err refusal
