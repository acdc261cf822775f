-- Blocks in the caller's memory that are only read.
use base.Fml.{Fml, ffalse}
use denote.Memory.{shared_of}
use denote.RawPtr.{Ptr, block_ptr, null_ptr}
use Rattle.std.specs.Prelude.{[]}
use Rattle.cose_c.specs.declared.held.table.HeldTable.{HeldTable}
use Rattle.cose_c.specs.contracts.held.table.HeldTable.{the_row}

-- The table at this place has this value, and isn't written to any more: it is lent for the lifetime that doesn't end. Any number of readers
-- have this at once.
abbrev pub lent_table : Ptr → HeldTable → Fml
lent_table (block_ptr b o) held = shared_of the_row held b o []
lent_table null_ptr held = ffalse
