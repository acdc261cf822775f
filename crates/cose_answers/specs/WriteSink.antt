-- What a sink holds that writes through a borrowed writer.
use Rattle.std.specs.Prelude.{ℕ, List, ◌∷◌, Option, option_map}
use Rattle.cose_answers.specs.declared.write_sink.WriteSink.{WriteSink}

-- The name of the reference, and then the bytes that its writer holds: the caller that lent the writer finds in it what
-- the sink got, since the sink has the same reference still.
abbrev pub held_through : ℕ → Option (List ℕ) → Option (List ℕ)
held_through name contents = option_map (λ bytes. name ∷ bytes) contents

-- The writer, and the name of the reference to it.
abbrev pub writer_in : {W : Type 0} → WriteSink W → W
writer_in sink = sink.writer.now

abbrev pub name_in : {W : Type 0} → WriteSink W → ℕ
name_in sink = sink.writer.ghost_name
