-- What a store of bytes holds, and is sure to take.
use Rattle.std.specs.Prelude.{ℕ, ◌-◌, Bool, List, [], if◌then◌else◌}

-- What is left of its room, in addition to the bytes that it holds; none once it has failed.
abbrev pub room_left : ℕ → Bool → ℕ → ℕ
room_left room failed held = if failed then 0 else room - held

-- The bytes that it holds: those that it was given, until they are dropped.
abbrev pub unless_dropped : Bool → List ℕ → List ℕ
unless_dropped dropped bytes = if dropped then [] else bytes
