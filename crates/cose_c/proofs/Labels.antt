-- The labels of numbers, one after the other.
use Rattle.std.proofs.Common.{◌≡◌, ℕ, ◌+◌, ◌<◌, List, length, map, take, get_or, sym, arith}
use Rattle.std.specs.Prelude.{ℤ, slice_set}
use Rattle.std.proofs.lemmas.List.{take-map}
use Rattle.std.proofs.lemmas.Grind.{common_steps}
use Rattle.cose_map.specs.declared.label.Label.{Label}
use Rattle.cose_map.specs.Label.{number}
use Rattle.cose_map.specs.Label.View.{label_value}

pub labels_more : (labels : List Label) (numbers : List ℤ) (i : ℕ) (x : Label) (d : ℤ) → length labels ≡ 16 → length numbers ≡ 16 → i < 16 →
    map label_value (take i labels) ≡ map number (take i numbers) → label_value x ≡ number (get_or numbers i d) →
    map label_value (take (i + 1) (slice_set labels i x)) ≡ map number (take (i + 1) numbers)
labels_more labels numbers i x d long_labels long_numbers lt so_far is = grind (arith, common_steps)

-- As many of the first labels.
pub labels_taken : (n : ℕ) (labels : List Label) → map label_value (take n labels) ≡ take n (map label_value labels)
labels_taken n labels = sym (take-map label_value n labels)
