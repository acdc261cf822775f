-- Texts to which one part more is appended.
use Rattle.std.proofs.Common.{◌≡◌, ℕ, List, [], ◌∷◌, ◌++◌, length, refl, sym, ap, ◌∙◌, append_assoc, append-nil}
use Rattle.std.specs.Str.{IsUtf8}
use Rattle.std.specs.Char.{encode_utf8}
use Rattle.std.proofs.lemmas.Str.{chars-nil, chars_past_char}
use Rattle.cose_text.specs.Quoted.{char_text, chars_text, quoted}

pub quote_before : (text text_after content rest : List ℕ) → text_after ≡ text ++ (34 ∷ []) → rest ≡ content →
    text_after ++ chars_text rest ≡ text ++ (34 ∷ chars_text content)
quote_before text text_after content rest e same = rw (e, same) (append_assoc text (34 ∷ []) (chars_text content))

pub one_char_more : (text text_after rest left all : List ℕ) (c : ℕ) → IsUtf8 rest → rest ≡ encode_utf8 c ++ left → text_after ≡ text ++ char_text c →
    text ++ chars_text rest ≡ all → text_after ++ chars_text left ≡ all
one_char_more text text_after rest left all c utf8 step more e =
    rw more (append_assoc text (char_text c) (chars_text left) ∙ sym (rw (chars_past_char rest left c utf8 step) refl) ∙ e)

pub no_char_left : (text rest all : List ℕ) → length rest ≡ 0 → text ++ chars_text rest ≡ all → text ≡ all
no_char_left text [] all none e = sym (rw chars-nil (append-nil text)) ∙ e
no_char_left text (byte ∷ rest) all none e = absurd cc

pub append_last : (text text_after front content : List ℕ) → text_after ≡ text ++ (34 ∷ []) → text ≡ front ++ (34 ∷ chars_text content) →
    text_after ≡ front ++ quoted content
append_last text text_after front content more e = more ∙ ap (λ t. t ++ (34 ∷ [])) e ∙ append_assoc front (34 ∷ chars_text content) (34 ∷ [])
