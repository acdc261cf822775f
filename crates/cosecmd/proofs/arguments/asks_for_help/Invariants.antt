-- Whether one of the words that are left asks for help is whether one of all words does.
use Rattle.std.proofs.Common.{◌≡◌, drop}
use Rattle.std.specs.Prelude.{map}
use Rattle.cosecmd.specs.CommandLine.{ask_for_help}
use Rattle.cosecmd.proofs.arguments.asks_for_help.Given as goal

abbrev pub invariant-words : goal.invariant-words
invariant-words l =
    ask_for_help (map (λ word. word.now) (drop l.word-index l.words)) ≡ ask_for_help (map (λ word. word.now) l.words)
