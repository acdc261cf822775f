-- The input of a message that is made: the reader, and the name of the reference to it. A caller that lent the reader knows
-- by the name that it gets the same one back.
use Rattle.std.specs.Prelude.{ℕ}
use Rattle.cose_answers.specs.declared.input.Input.{Input}

abbrev pub reader_in : {R : Type 0} → Input R → R
reader_in input = input.reader.now

abbrev pub name_in : {R : Type 0} → Input R → ℕ
name_in input = input.reader.ghost_name
