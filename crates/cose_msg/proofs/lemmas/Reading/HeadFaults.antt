-- What a head outside an item is refused for.
use Rattle.std.proofs.Common.{◌≡◌, ℕ, List}
use Rattle.std.specs.Prelude.{◌≢◌}
use Rattle.std.specs.List.{Contains}
use Rattle.std.proofs.lemmas.List.Elements.{All-contains, All-from_recursion}
use Rattle.cose_head.specs.declared.head.HeadStep.TheVariants.{Fault}
use Rattle.cose_head.specs.declared.reason.Reason.{Reason}
use Rattle.cose_head.specs.declared.reason.Reason.TheVariants.{Truncated}
use Rattle.cose_head.specs.Head.{bare_head}
use Rattle.cose_head.specs.Laws.{HeadReasons}
use Rattle.cose_head.specs.Reason.{head_reasons}

not_truncated : (reason : Reason) → Contains head_reasons reason → reason ≢ Truncated
not_truncated reason s = All-contains (λ reason. reason ≢ Truncated) head_reasons reason
    (All-from_recursion (λ reason. reason ≢ Truncated) head_reasons ((λ e. absurd cc), ((λ e. absurd cc), ((λ e. absurd cc), tt)))) s

pub head_definite : HeadReasons → (bytes : List ℕ) (reason : Reason) → bare_head bytes ≡ Fault reason → reason ≢ Truncated
head_definite reasons bytes reason e = not_truncated reason (reasons bytes reason e)
