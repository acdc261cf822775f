-- Bare heads whose bytes come one by one.
use Rattle.std.specs.Prelude.{ℕ, List, []}
use Rattle.cose_head.specs.declared.head.HeadStep.{HeadStep}
use Rattle.cose_head.specs.declared.head.HeadStep.TheVariants.{Got, More, Fault}

-- What is kept of a head's bytes: all of them, until it is whole.
abbrev pub kept_of : HeadStep → List ℕ → List ℕ
kept_of (Got head used) bytes = []
kept_of (More wanted) bytes = bytes
kept_of (Fault reason) bytes = []
