-- The order of labels in deterministic encoding (RFC 8949 section 4.2.1): the unsigned integers, the negative ones from
-- -1 down, then the text strings, shorter ones first, and those of one length by their bytes. (The integers of CBOR are
-- below 2 ^ 64.) A label that comes after the greatest so far is new.
use Rattle.std.specs.Prelude.{ℕ, ◌+◌, ◌^◌, pos, negsuc, Bool, true, not, List, [], length, Option, Some, None, nat_lt, ◌==◌, ◌&&◌, ◌||◌, if◌then◌else◌}
use Rattle.std.specs.Ordering.{nat_cmp, is_lt}
use Rattle.std.specs.Cmp.Lexicographic.{slice_cmp}
use Rattle.std.specs.List.{list_any}
use Rattle.cose_map.specs.Label.{LabelValue, number, words}
use Rattle.cose_map.specs.Map.Pairs.{Pair}

abbrev pub rank : LabelValue → ℕ
rank (number (pos n)) = n
rank (number (negsuc n)) = 2 ^ 64 + n
rank (words text) = 2 ^ 65 + length text

abbrev pub text_of : LabelValue → List ℕ
text_of (number z) = []
text_of (words text) = text

abbrev pub precedes : LabelValue → LabelValue → Bool
precedes a b = nat_lt (rank a) (rank b) || (rank a == rank b && is_lt (slice_cmp nat_cmp (text_of a) (text_of b)))

abbrev pub passes : Option LabelValue → LabelValue → Bool
passes None name = true
passes (Some greatest) name = precedes greatest name

abbrev pub greater : Option LabelValue → LabelValue → Option LabelValue
greater greatest name = if passes greatest name then Some name else greatest

-- No label of these pairs comes after the greatest.
abbrev pub is_greatest : Option LabelValue → List Pair → Bool
is_greatest greatest pairs = not (list_any (λ pair. passes greatest pair.name) pairs)
