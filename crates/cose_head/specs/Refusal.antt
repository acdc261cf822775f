-- The text of a refusal.
use Rattle.std.specs.Prelude.{ℕ, List, ◌++◌, codes}
use Rattle.std.specs.Fmt.{decimal}
use Rattle.cose_head.specs.declared.refusal.Refusal.{Refusal}
use Rattle.cose_head.specs.Reason.{name_of}

abbrev pub refusal_text : Refusal → List ℕ
refusal_text refusal = name_of refusal.reason ++ codes " at " ++ decimal refusal.place
