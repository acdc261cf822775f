-- The numbers so far, and those of the words that are left, are those of all words.
use Rattle.std.proofs.Common.{◌≡◌, ◌++◌, drop, option_map}
use Rattle.std.specs.Prelude.{map}
use Rattle.cosecmd.specs.Allowed.{algorithms_written}
use Rattle.cosecmd.proofs.allowed.numbers_of.Given as goal

abbrev pub invariant-words : goal.invariant-words
invariant-words l =
    option_map (λ others. l.numbers.items ++ others) (algorithms_written (map (λ word. word.now) (drop l.word-index l.words))) ≡ algorithms_written (map (λ word. word.now) l.words)
