-- A text is decoded in the buffer that it is read into: the bytes that it stands for take no more room than its characters.
use Rattle.std.proofs.Common.{◌≡◌, ◌≤◌, ◌<◌, ◌+◌, ◌-◌, ◌++◌, ◌∙◌, ℕ, suc, Bool, true, false, List, [], ◌∷◌, Option, Some, None, Result, if◌then◌else◌, ap, arith, drop, get_or, length, refl, subst, sym, take}
use Rattle.std.proofs.lemmas.List.{append_assoc, drop-set-lt, drop_more, length-set, take_more_set}
use Rattle.std.specs.Io.KnownBytes.{Consumes, IsAtEnd, Keeps, ReadConsumes}
use Rattle.cose_text.specs.TextForm.{after, given, is_blank, may_end}
use Rattle.cose_text.specs.TextInput.{bytes_from, listed, to_come, with_byte}
use Rattle.cose_text.specs.declared.text_form.Next.{Next}
use Rattle.cose_text.specs.declared.text_form.Next.TheVariants as short

-- One byte of an input.
pub one_byte : (next : Next) (c : ℕ) (whole : Option ℕ) (rest : List ℕ) → given next c ≡ whole → bytes_from next (c ∷ rest) ≡ listed whole ++ bytes_from (after next c) rest
unfolding bytes_from
one_byte next c whole rest is = ap (λ (byte : Option ℕ). listed byte ++ bytes_from (after next c) rest) is

same_after : (blank : Bool) (next : Next) → (if blank then next else next) ≡ next
same_after true next = refl
same_after false next = refl

-- An input that is no text is its bytes.
pub byte_is_itself : (input : List ℕ) → bytes_from short.Byte input ≡ input
unfolding bytes_from
byte_is_itself [] = refl
byte_is_itself (byte ∷ input) =
    ap (λ (next : Next). byte ∷ bytes_from next input) (same_after (is_blank byte) short.Byte) ∙ ap (λ (rest : List ℕ). byte ∷ rest) (byte_is_itself input)

pub plain : (come : Option (List ℕ)) → to_come short.Byte come ≡ come
plain None = refl
plain (Some bytes) = ap Some (byte_is_itself bytes)

pub plain_read : {E : Type 0} (next : Next) (before after : Option (List ℕ)) (result : Result ℕ E) (buffer : List ℕ) → next ≡ short.Byte → ReadConsumes before after result buffer → ReadConsumes (to_come next before) (to_come next after) result buffer
plain_read next before after result buffer is read = rw (is, plain before, plain after) read

-- So many bytes of a buffer are decoded, into its first ones.
abbrev pub InPlace : (List ℕ → List ℕ) → Next → ℕ → ℕ → ℕ → List ℕ → Type 0
InPlace all next count at decoded buffer = (rest : List ℕ) → all rest ≡ take decoded buffer ++ bytes_from next (take (count - at) (drop at buffer) ++ rest)

next_of_buffer : (count at : ℕ) (buffer : List ℕ) → at < count → count ≤ length buffer
    → take (count - at) (drop at buffer) ≡ get_or buffer at 0 ∷ take (count - (at + 1)) (drop (at + 1) buffer)
next_of_buffer count at buffer more within =
    let below : at < length buffer = omega (arith, more, within) in
    let left : count - at ≡ suc (count - (at + 1)) = omega (arith, more) in
    rw (left, drop_more buffer at 0 below) refl

after_one : (all : List ℕ → List ℕ) (next : Next) (count at decoded : ℕ) (buffer : List ℕ) (whole : Option ℕ) → at < count → count ≤ length buffer → given next (get_or buffer at 0) ≡ whole → InPlace all next count at decoded buffer
    → (rest : List ℕ) → all rest ≡ take decoded buffer ++ (listed whole ++ bytes_from (after next (get_or buffer at 0)) (take (count - (at + 1)) (drop (at + 1) buffer) ++ rest))
after_one all next count at decoded buffer whole more within is so_far rest =
    so_far rest
    ∙ ap (λ (left : List ℕ). take decoded buffer ++ bytes_from next (left ++ rest)) (next_of_buffer count at buffer more within)
    ∙ ap (λ (bytes : List ℕ). take decoded buffer ++ bytes) (one_byte next (get_or buffer at 0) whole (take (count - (at + 1)) (drop (at + 1) buffer) ++ rest) is)

-- The byte that is whole with it, if there is one, is put after those that are decoded.
pub byte_in_place : (all : List ℕ → List ℕ) (next : Next) (count at decoded : ℕ) (buffer : List ℕ) (whole : Option ℕ) → at < count → count ≤ length buffer → decoded ≤ at → given next (get_or buffer at 0) ≡ whole
    → InPlace all next count at decoded buffer → InPlace all (after next (get_or buffer at 0)) count (at + 1) (decoded + length (listed whole)) (with_byte buffer decoded whole)
byte_in_place all next count at decoded buffer None more within behind is so_far = λ rest.
    let none : decoded + 0 ≡ decoded = omega arith in
    rw none (after_one all next count at decoded buffer None more within is so_far rest)
byte_in_place all next count at decoded buffer (Some byte) more within behind is so_far = λ rest.
    let below : decoded < length buffer = omega (arith, more, within, behind) in
    let before : decoded < at + 1 = omega (arith, behind) in
    let left : List ℕ = bytes_from (after next (get_or buffer at 0)) (take (count - (at + 1)) (drop (at + 1) buffer) ++ rest) in
    rw (take_more_set buffer decoded byte below, drop-set-lt (at + 1) buffer decoded byte before)
    (after_one all next count at decoded buffer (Some byte) more within is so_far rest ∙ sym (append_assoc (take decoded buffer) (byte ∷ []) left))

pub put_within : (at decoded : ℕ) (whole : Option ℕ) → decoded ≤ at → decoded + length (listed whole) ≤ at + 1
put_within at decoded None behind = omega (arith, behind)
put_within at decoded (Some byte) behind = omega (arith, behind)

pub as_long : (buffer : List ℕ) (at : ℕ) (whole : Option ℕ) → length (with_byte buffer at whole) ≡ length buffer
as_long buffer at None = refl
as_long buffer at (Some byte) = length-set buffer at byte

-- ---- a read

pub unread : (come after : Option (List ℕ)) → Keeps come after → Consumes come after []
unread None after kept = tt
unread (Some xs) None kept = kept
unread (Some xs) (Some ys) kept = sym kept

pub kept_same : (come : Option (List ℕ)) → Keeps come come
kept_same None = tt
kept_same (Some xs) = refl

-- What is read after bytes that stand for none is read of what was to come before them.
pub read_after : (first before after : Option (List ℕ)) (bytes : List ℕ) → Keeps first before → Consumes before after bytes → Consumes first after bytes
read_after None before after bytes kept read = tt
read_after (Some xs) None after bytes kept read = absurd kept
read_after (Some xs) (Some ys) None bytes kept read = read
read_after (Some xs) (Some ys) (Some zs) bytes kept read = sym kept ∙ read

pub kept_after : (first before after : Option (List ℕ)) → Keeps first before → Keeps before after → Keeps first after
kept_after None before after kept read = tt
kept_after (Some xs) None after kept read = absurd kept
kept_after (Some xs) (Some ys) None kept read = read
kept_after (Some xs) (Some ys) (Some zs) kept read = read ∙ kept

-- The bytes of a piece stand for these.
pub decoded_bytes : (next later : Next) (before after : Option (List ℕ)) (piece bytes : List ℕ) → Consumes before after piece → ((rest : List ℕ) → bytes_from next (piece ++ rest) ≡ bytes ++ bytes_from later rest)
    → Consumes (to_come next before) (to_come later after) bytes
decoded_bytes here later None after piece bytes read decodes = tt
decoded_bytes here later (Some xs) None piece bytes read decodes = read
decoded_bytes here later (Some xs) (Some ys) piece bytes read decodes = ap (λ (text : List ℕ). bytes_from here text) read ∙ decodes ys

-- They stand for none.
pub decoded_none : (next later : Next) (before after : Option (List ℕ)) (piece buffer : List ℕ) (count : ℕ) → count ≡ 0 → Consumes before after piece
    → ((rest : List ℕ) → bytes_from next (piece ++ rest) ≡ take count buffer ++ bytes_from later rest) → Keeps (to_come next before) (to_come later after)
decoded_none here later None after piece buffer count none read decodes = tt
decoded_none here later (Some xs) None piece buffer count none read decodes = read
decoded_none here later (Some xs) (Some ys) piece buffer count none read decodes =
    sym (ap (λ (text : List ℕ). bytes_from here text) read ∙ decodes ys ∙ ap (λ (n : ℕ). take n buffer ++ bytes_from later ys) none)

-- The reader is at its end, where the input may end.
pub ends : (next : Next) (before after : Option (List ℕ)) → may_end next ≡ true → Consumes before after [] → IsAtEnd after → Consumes (to_come next before) (to_come next after) [] × IsAtEnd (to_come next after)
unfolding bytes_from
ends here None None may read at_end = (tt, tt)
ends here None (Some ys) may read at_end = (tt, rw (at_end, may) refl)
ends here (Some xs) None may read at_end = (read, tt)
ends here (Some xs) (Some ys) may read at_end = (ap (λ (text : List ℕ). bytes_from here text) read, rw (at_end, may) refl)

-- It is where the input may not end.
pub ends_short : (next : Next) (before after : Option (List ℕ)) → may_end next ≡ false → Consumes before after [] → IsAtEnd after → Keeps (to_come next before) (to_come short.Short after)
unfolding bytes_from
ends_short here None after may read at_end = tt
ends_short here (Some xs) None may read at_end = read
ends_short here (Some xs) (Some ys) may read at_end =
    let nothing : xs ≡ [] = read ∙ at_end in
    rw (nothing, at_end, may) refl

-- A read that gives no byte into a buffer that has room.
pub ends_there : (next : Next) (first before after : Option (List ℕ)) (count : ℕ) (buffer : List ℕ) → count ≡ 0 → 0 < length buffer → Consumes before after (take count buffer) × (count ≡ 0 → 0 < length buffer → IsAtEnd after)
    → may_end next ≡ true → Keeps first (to_come next before) → Consumes first (to_come next after) [] × IsAtEnd (to_come next after)
ends_there next first before after count buffer none room read may kept =
    let nothing : Consumes before after [] = subst (λ (n : ℕ). Consumes before after (take n buffer)) none read.0 in
    let end = ends next before after may nothing (read.1 none room) in
    (read_after first (to_come next before) (to_come next after) [] kept end.0, end.1)

pub ends_short_there : (next : Next) (first before after : Option (List ℕ)) (count : ℕ) (buffer : List ℕ) → count ≡ 0 → 0 < length buffer → Consumes before after (take count buffer) × (count ≡ 0 → 0 < length buffer → IsAtEnd after)
    → may_end next ≡ false → Keeps first (to_come next before) → Keeps first (to_come short.Short after)
ends_short_there next first before after count buffer none room read may kept =
    let nothing : Consumes before after [] = subst (λ (n : ℕ). Consumes before after (take n buffer)) none read.0 in
    kept_after first (to_come next before) (to_come short.Short after) kept (ends_short next before after may nothing (read.1 none room))
