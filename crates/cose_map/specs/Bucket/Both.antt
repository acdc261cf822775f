-- The faults of the two buckets of a message together (RFC 9052 sections 3 and 3.1).
use Rattle.std.specs.Prelude.{ℕ, pos, Bool, false, not, List, [], ◌∷◌, ◌++◌, Option, Some, None, nat_lt, int_lt, ◌==◌, ◌&&◌, ◌||◌, if◌then◌else◌, flat_map, fold}
use Rattle.std.specs.List.{list_any}
use Rattle.cose_head.specs.declared.reason.Reason.{Reason}
use Rattle.cose_head.specs.declared.reason.Reason.TheVariants.{BothBuckets, CritUnprotected, CritAbsent, CritUnknown, BothIvs}
use Rattle.cose_head.specs.declared.refusal.Refusal.{Refusal}
use Rattle.cose_head.specs.Reason.{number_of}
use Rattle.cose_head.specs.Placed.{Placed}
use Rattle.cose_map.specs.Label.{LabelValue, number, words, same_label, label_of}
use Rattle.cose_map.specs.Map.Pairs.{Pair, has_label}
use Rattle.cose_map.specs.Bucket.Header.{crit, iv, partial_iv}
use Rattle.cose_map.specs.Bucket.{crit_of}

-- One fault at a place, or none.
abbrev pub fault_if : Bool → Reason → ℕ → List Refusal
fault_if wrong reason place = if wrong then record { reason = reason; place = place } ∷ [] else []

-- The labels 1 to 6, those of the parameters that RFC 9052 section 3.1 defines, are known to every implementation.
abbrev pub is_common : LabelValue → Bool
is_common (number n) = int_lt (pos 0) n && int_lt n (pos 7)
is_common (words name) = false

abbrev pub is_understood : List LabelValue → LabelValue → Bool
is_understood understood name = is_common name || list_any (same_label name) understood

-- An element of the protected crit: its label must be in the protected bucket, and must be understood.
abbrev pub critical_faults : List Pair → List LabelValue → Placed → Option LabelValue → List Refusal
critical_faults protected understood element None = []
critical_faults protected understood element (Some name) =
    fault_if (not (has_label name protected)) CritAbsent element.place ++
    fault_if (not (is_understood understood name)) CritUnknown element.place

abbrev pub element_faults : List Pair → List LabelValue → Placed → List Refusal
element_faults protected understood element = critical_faults protected understood element (label_of element)

abbrev pub all_element_faults : List Pair → List LabelValue → Option (List Placed) → List Refusal
all_element_faults protected understood None = []
all_element_faults protected understood (Some elements) = flat_map (element_faults protected understood) elements

abbrev pub crit_faults : List Pair → List LabelValue → List Refusal
crit_faults protected understood = all_element_faults protected understood (crit_of protected)

-- A pair of the unprotected bucket: its label must not be in the protected one too, and must not be crit.
abbrev pub label_faults : List Pair → LabelValue → ℕ → List Refusal
label_faults protected name place =
    fault_if (has_label name protected) BothBuckets place ++
    fault_if (same_label name crit) CritUnprotected place

abbrev pub unprotected_faults : List Pair → Pair → List Refusal
unprotected_faults protected pair = label_faults protected pair.name pair.label.place

-- IV and Partial IV, in whichever buckets, at the place after both.
abbrev pub in_either : LabelValue → List Pair → List Pair → Bool
in_either name protected unprotected = has_label name protected || has_label name unprotected

abbrev pub both_ivs : List Pair → List Pair → Bool
both_ivs protected unprotected = in_either iv protected unprotected && in_either partial_iv protected unprotected

unfoldable pub pair_faults : List Pair → List Pair → List LabelValue → ℕ → List Refusal
pair_faults protected unprotected understood after =
    crit_faults protected understood ++
    (flat_map (unprotected_faults protected) unprotected ++
    fault_if (both_ivs protected unprotected) BothIvs after)

-- The least of several: the least place, and at the same place the smaller number. (Laws/Least.antt has its
-- properties.)
abbrev pub goes_before : Refusal → Refusal → Bool
goes_before a b = nat_lt a.place b.place || (a.place == b.place && nat_lt (number_of a.reason) (number_of b.reason))

abbrev pub lesser : Option Refusal → Refusal → Option Refusal
lesser None fault = Some fault
lesser (Some least) fault = if goes_before fault least then Some fault else Some least

abbrev pub least : List Refusal → Option Refusal
least faults = fold lesser None faults

abbrev pub pair_fault : List Pair → List Pair → List LabelValue → ℕ → Option Refusal
pair_fault protected unprotected understood after = least (pair_faults protected unprotected understood after)
