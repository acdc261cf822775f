-- The numbers so far and those that are left are all numbers.
use Rattle.std.proofs.Common.{◌≡◌, ◌++◌, true, drop, filter, string_bytes}
use Rattle.cose_map.specs.Key.View.{operations_of}
use Rattle.cose_answers.specs.KeysListed.{lists, numbers}
use Rattle.cose_answers.proofs.answers.keys.push_operations.Given as goal

abbrev pub invariant-operations : goal.invariant-operations
invariant-operations l =
    string_bytes l.line ++ numbers l.is_first (filter (lists (operations_of l.ops)) (drop l.operation-index l.operations))
    ≡ string_bytes l.fn.line ++ numbers true (filter (lists (operations_of l.ops)) l.operations)
