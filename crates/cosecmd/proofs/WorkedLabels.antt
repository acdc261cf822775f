-- The labels that arguments name, on examples, by computing.
use Rattle.std.specs.Prelude.{◌≡◌, ℕ, List, [], ◌∷◌, map, codes, refl}
use Prim.Native.String.{String}
use Rattle.std.specs.Fmt.{digits}
use Rattle.std.specs.Str.{is_utf8, chars}
use Rattle.cosecmd.specs.Headers.{label_named}
use Rattle.hex.specs.Hex.{encode_with}

unfoldable named : String → List ℕ
unfolding is_utf8 chars lib.Utf8.encode digits encode_with
named word = label_named (codes word)

-- An integer may begin with a plus and with zeros.
integers : map named ("4" ∷ "-66666" ∷ "+4" ∷ "004" ∷ "-0" ∷ []) ≡ map codes ("4" ∷ "-66666" ∷ "4" ∷ "4" ∷ "0" ∷ [])
unfolding named
integers = refl

-- A text that looks like a number is in quotes, as `show` writes it; any other may be.
texts : map named ("\"4\"" ∷ "x5chain" ∷ "\"x5chain\"" ∷ "" ∷ "a\"b" ∷ "a\nb" ∷ []) ≡ map codes ("\"4\"" ∷ "\"x5chain\"" ∷ "\"x5chain\"" ∷ "\"\"" ∷ "\"a\\\"b\"" ∷ "\"a\\u000ab\"" ∷ [])
unfolding named
texts = refl
