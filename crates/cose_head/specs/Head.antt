-- The heads of data items (RFC 8949 section 3).
use Rattle.std.specs.Prelude.{ℕ, ◌+◌, ◌-◌, ◌*◌, ◌/◌, ◌%◌, ◌^◌, Bool, List, [], ◌∷◌, length, take, Option, Some, None, nat_lt, ◌==◌, ◌&&◌, ◌||◌, if◌then◌else◌, fold, ⊤}
use Rattle.std.specs.Int.{w16, w32, w64, to_be_bytes}
use Rattle.cose_head.specs.declared.reason.Reason.{Reason}
use Rattle.cose_head.specs.declared.reason.Reason.TheVariants.{Reserved, Indefinite, BadSimple}
use Rattle.cose_head.specs.declared.head.Head.{Head}
use Rattle.cose_head.specs.declared.head.HeadStep.{HeadStep}
use Rattle.cose_head.specs.declared.head.HeadStep.TheVariants.{Got, More, Fault}

-- The high three bits of an initial byte are the major type, the low five are the additional information.
-- Of a number that isn't a byte, the low eight bits are taken.
abbrev pub major_of : ℕ → ℕ
major_of initial = initial / 32 % 8

abbrev pub low_of : ℕ → ℕ
low_of initial = initial % 32

-- 28 to 30 are reserved. 31 is an indefinite length of a string, an array or a map, or the break: the major types 0, 1
-- and 6 have none.
abbrev pub low_fault : ℕ → ℕ → Option Reason
low_fault major low =
    if nat_lt low 28 then None else
    if nat_lt low 31 || (nat_lt major 2 || major == 6) then Some Reserved else Some Indefinite

-- The number of argument bytes that follow an initial byte.
abbrev pub argument_length : ℕ → ℕ
argument_length low =
    if nat_lt low 24 then 0 else if low == 24 then 1 else if low == 25 then 2 else if low == 26 then 4 else 8

-- The number that bytes spell, the most significant first.
abbrev pub big_endian : List ℕ → ℕ
big_endian bytes = fold (λ n b. 256 * n + b) 0 bytes

-- The argument: the low bits themselves, or the number that the argument bytes spell.
abbrev pub argument_of : ℕ → List ℕ → ℕ
argument_of low bytes = if nat_lt low 24 then low else big_endian bytes

abbrev pub head_of : ℕ → List ℕ → Head
head_of initial bytes = record {
  major = major_of initial;
  arg = argument_of (low_of initial) bytes;
  width = 1 + length bytes;
}

-- A simple value in two bytes is 32 or more (RFC 8949 section 3.3).
abbrev pub is_bad_simple : Head → Bool
is_bad_simple head = head.major == 7 && (head.width == 2 && nat_lt head.arg 32)

abbrev pub simple_checked : Head → HeadStep
simple_checked head = if is_bad_simple head then Fault BadSimple else Got head head.width

-- The rest of a head after its initial byte. Where argument bytes are missing, the result has their number.
abbrev pub after_initial : Option Reason → ℕ → ℕ → List ℕ → HeadStep
after_initial (Some reason) wanted initial rest = Fault reason
after_initial None wanted initial rest =
    if nat_lt (length rest) wanted then More (wanted - length rest) else simple_checked (head_of initial (take wanted rest))

-- The head that the bytes begin with, of any width that holds its argument, and its number of bytes.
unfoldable pub bare_head : List ℕ → HeadStep
bare_head [] = More 1
bare_head (initial ∷ rest) =
    after_initial (low_fault (major_of initial) (low_of initial)) (argument_length (low_of initial)) initial rest

-- Whether the step is More, and whether it is another.
abbrev pub IsMore : HeadStep → Type 0
IsMore (More wanted) = ⊤
IsMore _ = ⊥

abbrev pub IsWhole : HeadStep → Type 0
IsWhole (More wanted) = ⊥
IsWhole _ = ⊤

-- A fact of the number of bytes that are missing, or of the head and its length.
abbrev pub IfMore : HeadStep → (ℕ → Type 0) → Type 0
IfMore (More wanted) P = P wanted
IfMore _ P = ⊤

abbrev pub IfGot : HeadStep → (Head → ℕ → Type 0) → Type 0
IfGot (Got head used) P = P head used
IfGot _ P = ⊤

-- The head of the least width that holds the argument (RFC 8949 section 4.2.1, RFC 9052 section 9).
unfoldable pub shortest_head : ℕ → ℕ → List ℕ
shortest_head major arg =
    if nat_lt arg 24 then (32 * major + arg) ∷ [] else
    if nat_lt arg (2 ^ 8) then (32 * major + 24) ∷ arg ∷ [] else
    if nat_lt arg (2 ^ 16) then (32 * major + 25) ∷ to_be_bytes w16 arg else
    if nat_lt arg (2 ^ 32) then (32 * major + 26) ∷ to_be_bytes w32 arg else
    (32 * major + 27) ∷ to_be_bytes w64 arg
