-- The parts of a text as `rsplit_once` and `split_once` find them.
use Rattle.std.proofs.Common.{◌≡◌, ℕ, zero, suc, ◌<◌, ◌≤◌, true, false, List, [], ◌∷◌, ◌++◌, length, drop, Some, None, option_and_then, codes, refl, sym, ap, ◌∙◌, inl, inr, arith, length-append, suc-le-suc, drop_at, ◌==◌, nat_lt, tests, lt-ltb}
use Rattle.std.specs.List.{before_first, position_or_len}
use Rattle.std.specs.Str.Pattern.{LacksTextAt, RFindsText, SplitsAroundMatch}
use Rattle.std.proofs.lemmas.Bool.{cases_Bool}
use Rattle.std.proofs.lemmas.Bool.Decides.{Decides-eqb}
use Rattle.std.proofs.lemmas.Slice.Eq.{starts_is}
use Rattle.cose_commands.specs.Refused.{after_last, after_mark, before_quote, begins_with, option_named, option_of}
use Rattle.clap.specs.declared.error.kind.ErrorKind.{ErrorKind}

lacks_mark : (mark text : List ℕ) → LacksTextAt mark text 0 → after_mark mark text ≡ None
lacks_mark mark text lacks = elim (cases_Bool (begins_with mark text)) [
  | inl is ↦ absurd (lacks _ ((starts_is Decides-eqb text mark _ refl).0 is))
  | inr not ↦ rw not refl
]

has_mark : (mark text rest : List ℕ) → text ≡ mark ++ rest → after_mark mark text ≡ Some rest
has_mark mark text rest is =
    let begins : begins_with mark text ≡ true = (starts_is Decides-eqb text mark _ refl).1 rest is in
    rw (begins, is, drop_at mark rest (length mark) refl) refl

-- Where `rsplit_once` finds no mark.
pub no_mark : (mark text : List ℕ) → RFindsText mark text None → after_last mark text ≡ None
no_mark mark [] lacks = refl
no_mark mark (c ∷ text) lacks =
    rw (no_mark mark text (λ i within. lacks (suc i) (suc-le-suc within)), lacks_mark mark (c ∷ text) (lacks 0 (omega arith))) refl

-- A mark stands at a place, and at none after it.
after_place : (mark text rest : List ℕ) (i : ℕ) → 0 < length mark → ((k : ℕ) → i < k → k ≤ length text → LacksTextAt mark text k)
    → drop i text ≡ mark ++ rest → after_last mark text ≡ Some rest
after_place mark [] rest zero some lacks at = absurd (omega (arith, ap length at, length-append mark rest))
after_place mark [] rest (suc i) some lacks at = absurd (omega (arith, ap length at, length-append mark rest))
after_place mark (c ∷ text) rest zero some lacks at =
    rw (no_mark mark text (λ k within. lacks (suc k) (omega arith) (suc-le-suc within)), has_mark mark (c ∷ text) rest at) refl
after_place mark (c ∷ text) rest (suc i) some lacks at =
    rw (after_place mark text rest i some (λ k above within. lacks (suc k) (suc-le-suc above) (suc-le-suc within)) at) refl

-- Where `rsplit_once` finds one.
pub last_mark : (mark text before rest : List ℕ) → 0 < length mark → SplitsAroundMatch (RFindsText mark) text before rest → after_last mark text ≡ Some rest
last_mark mark text before rest some split =
    after_place mark text _ split.0 some split.2.0 split.2.1.split ∙ ap Some (sym split.4)

-- So of `split_once` at a quotation mark.
pub no_quote : (text : List ℕ) → position_or_len (λ c. c == 39) text ≡ length text → before_quote text ≡ None
no_quote text lacks =
    let past : nat_lt (position_or_len (λ c. c == 39) text) (length text) ≡ false = grind (arith, tests) in
    rw past refl

pub first_quote : (text name : List ℕ) → name ≡ before_first (λ c. c == 39) text → position_or_len (λ c. c == 39) text < length text → before_quote text ≡ Some name
first_quote text name is within = rw (lt-ltb _ _ within) (ap Some (sym is))

-- What follows the mark before an option.
pub after_for : (kind : ErrorKind) (text before rest : List ℕ) → SplitsAroundMatch (RFindsText (codes "' for '")) text before rest → option_named kind text ≡ option_of kind rest
after_for kind text before rest split = ap (option_and_then (option_of kind)) (last_mark (codes "' for '") text before rest (omega arith) split)
