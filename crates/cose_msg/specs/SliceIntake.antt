-- What a contract sees of an intake of a slice in addition to what it sees of every intake.
use Rattle.std.specs.Prelude.{ℕ}
use Rattle.cose_msg.specs.declared.intake.SliceIntake.{SliceIntake}

-- the most bytes that it gives in a call
abbrev pub cut_of : SliceIntake → ℕ
cut_of intake = intake.cut
