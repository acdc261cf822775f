-- How a call changed an intake and a sink, as far as the contract knows.
use Rattle.std.specs.Prelude.{ℕ, Bool, List, Option}

-- The bytes to come before the call and after it, and whether the intake has ended by then.
pub record IntakeChange : Type 0 where
  pub before : Option (List ℕ)
  pub after : Option (List ℕ)
  pub ended : Bool

abbrev pub intake_from : Option (List ℕ) → Option (List ℕ) → Bool → IntakeChange
intake_from before after ended = record { before = before; after = after; ended = ended }

abbrev pub intake_change : {F : Type 0} → (F → Option (List ℕ)) → (F → Bool) → F → F → IntakeChange
intake_change to_come ended old new = intake_from (to_come old) (to_come new) (ended new)

-- The contents before the call and after it.
pub record SinkChange : Type 0 where
  pub before : Option (List ℕ)
  pub after : Option (List ℕ)

abbrev pub sink_from : Option (List ℕ) → Option (List ℕ) → SinkChange
sink_from before after = record { before = before; after = after }

abbrev pub sink_change : {F : Type 0} → (F → Option (List ℕ)) → F → F → SinkChange
sink_change contents old new = sink_from (contents old) (contents new)
