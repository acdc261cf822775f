-- The least of several faults, part by part.
use Rattle.std.proofs.Common.{◌≡◌, List, ◌++◌, Option}
use Rattle.std.specs.Prelude.{fold}
use Rattle.std.proofs.lemmas.List.Sums.{fold-append}
use Rattle.cose_head.specs.declared.refusal.Refusal.{Refusal}
use Rattle.cose_map.specs.Bucket.Both.{lesser}

pub fold_more : (least : Option Refusal) (faults others : List Refusal) → fold lesser least (faults ++ others) ≡ fold lesser (fold lesser least faults) others
fold_more least faults others = fold-append lesser least faults others
