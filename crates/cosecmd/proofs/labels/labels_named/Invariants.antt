-- The labels so far, and those of the arguments that are left, are those of all arguments.
use Rattle.std.proofs.Common.{◌≡◌, ◌++◌, drop, map, string_bytes}
use Rattle.cosecmd.specs.Headers.{label_named}
use Rattle.cosecmd.proofs.labels.labels_named.Given as goal

abbrev pub invariant-words : goal.invariant-words
invariant-words l =
    map string_bytes l.labels.items ++ map label_named (map (λ word. word.now) (drop l.word-index l.words)) ≡ map label_named (map (λ word. word.now) l.words)
