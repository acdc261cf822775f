-- The text so far and the characters that are left are all of it.
use Rattle.std.proofs.Common.{◌≡◌, ◌++◌, ◌∷◌, string_bytes}
use Rattle.std.specs.Str.{IsUtf8}
use Rattle.std.specs.Str.Iter.{chars_rest}
use Rattle.cose_text.specs.Quoted.{chars_text}
use Rattle.cose_text.proofs.quoted.push_quoted.Given as goal

abbrev pub invariant-chars : goal.invariant-chars
invariant-chars l = record {
  utf8 : IsUtf8 (chars_rest l.ch-iterator);
  all : string_bytes l.text ++ chars_text (chars_rest l.ch-iterator) ≡ string_bytes l.fn.text ++ (34 ∷ chars_text l.content);
}
