-- What is spelled is read: a head, a string and an item, each as a phase takes it.
use Rattle.std.proofs.Common.{◌≡◌, ℕ, ◌+◌, ◌-◌, ◌*◌, ◌<◌, ◌≤◌, true, false, List, [], ◌∷◌, ◌++◌, length, Option, None, refl, sym, ap, ◌∙◌, append_assoc, arith, length-append, zero-add}
use Rattle.std.specs.Prelude.{◌==◌, Ok, nat_lt}
use Rattle.std.proofs.lemmas.Bool.{le-ltb, lt-ltb}
use Rattle.std.proofs.lemmas.List.{take_at, drop_at}
use Rattle.cose_head.specs.declared.head.Head.{Head}
use Rattle.cose_head.specs.declared.head.HeadStep.TheVariants.{Got}
use Rattle.cose_head.specs.declared.reason.Reason.{Reason}
use Rattle.cose_head.specs.Head.{bare_head, low_of}
use Rattle.cose_head.specs.Item.{Item, byte_string, depth_of, IsHead, Spells}
use Rattle.cose_head.specs.Laws.{HeadIsSpelled, ReadIsSpelled}
use Rattle.cose_head.specs.Measured.{left_of}
use Rattle.cose_head.specs.Reading.{Left, read}
use Rattle.cose_msg.specs.Reading.{Findings, Next, with_head, with_string, with_item, unless_fault}

-- The laws of heads and items that these proofs cite.
pub record SpellingLaws : Type 0 where
  pub head : HeadIsSpelled
  pub item : ReadIsSpelled

abbrev pub head_of_width : ℕ → ℕ → ℕ → Head
head_of_width major argument width = record { major = major; arg = argument; width = width }

-- A head whose argument is in its initial byte.
pub one_byte_head : (major argument : ℕ) → major < 8 → argument < 24 → IsHead ((32 * major + argument) ∷ []) major argument
one_byte_head major argument is_major is_low =
    let initial : ℕ = 32 * major + argument in
    let low : low_of initial ≡ argument = omega (arith, is_low) in
    let small : nat_lt argument 24 ≡ true = lt-ltb argument 24 is_low in
    record {
      initial = initial;
      argument_bytes = [];
      whole = refl;
      has_major = omega (arith, is_major, is_low);
      is_definite = omega (arith, low, is_low);
      has_width = rw (low, small) refl;
      has_argument = rw (low, small) refl;
    }

-- ---- a string

pub string_read : (so_far : List ℕ → Findings) (n : ℕ) (next : Next (List ℕ)) (place : ℕ) (content more : List ℕ) → length content ≡ n → with_string so_far n next place (content ++ more) ≡ next place content (place + n) more
unfolding with_string
string_read so_far n next place content more is =
    let there : nat_lt (length (content ++ more)) n ≡ false = le-ltb _ _ (omega (arith, is, length-append content more)) in
    rw (there, take_at content more n is, drop_at content more n is) refl

module _ (laws : SpellingLaws) where
  -- ---- a head

  pub head_found : (major argument : ℕ) (head more : List ℕ) → (major == 7) ≡ false → IsHead head major argument → bare_head (head ++ more) ≡ Got (head_of_width major argument (length head)) (length head)
  head_found major argument head more leaf is = (laws.head (head ++ more) (head_of_width major argument (length head)) (length head)).1 (record {
    part = head;
    rest = more;
    whole = refl;
    is_head = is;
    wide = refl;
    ends = refl;
    good = rw leaf refl;
  })

  pub head_read : (so_far : Findings) (next : Next Head) (place major argument : ℕ) (head more : List ℕ) → (major == 7) ≡ false → IsHead head major argument
      → with_head so_far next place (head ++ more) ≡ next place (head_of_width major argument (length head)) (place + length head) more
  unfolding with_head
  head_read so_far next place major argument head more leaf is =
      rw (head_found major argument head more leaf is, drop_at head more (length head) refl) refl

  -- ---- an item

  pub item_read : (so_far : ℕ → Findings) (room nesting : ℕ) (next : Next (List ℕ)) (place : ℕ) (tree : Item) (content more : List ℕ) → Spells content tree → length content ≤ room → depth_of tree ≤ nesting
      → with_item so_far room nesting next place (content ++ more) ≡ next place content (place + length content) more
  unfolding with_item
  item_read so_far room nesting next place tree content more is fits nests =
      let rest : Left = left_of more (room - length content) (length content) in
      let found : read nesting (left_of (content ++ more) room 0) ≡ Ok (tree, rest) = (laws.item nesting (left_of (content ++ more) room 0) tree rest).1 (
        record {
          part = content;
          whole = refl;
          room = omega (arith, fits);
          place = sym (zero-add (length content));
          is_part = is;
        },
        nests,
      ) in
      rw (found, take_at content more (length content) refl, drop_at content more (length content) refl) refl

  -- ---- a byte string with its head

  -- Its content, and the place of that content, which ends where the string does.
  pub byte_string_read : (so_far : Findings) (fault : Head → Option Reason) (so_far_by : ℕ → List ℕ → Findings) (next : ℕ → Next (List ℕ)) (place : ℕ) (string content more : List ℕ) →
      Spells string (byte_string content) → ((width : ℕ) → fault (head_of_width 2 (length content) width) ≡ None) →
      with_head so_far (λ at head. unless_fault so_far at (fault head) (with_string (so_far_by at) head.arg (next at))) place (string ++ more) ≡ next place (place + length string - length content) content (place + length string) more
  unfolding Spells
  byte_string_read so_far fault so_far_by next place string content more s good =
      let whole : string ≡ s.head ++ content = s.whole ∙ ap (λ (rest : List ℕ). s.head ++ rest) s.is_rest in
      let long : length string ≡ length s.head + length content = ap length whole ∙ length-append s.head content in
      let phase : Next Head = λ at head. unless_fault so_far at (fault head) (with_string (so_far_by at) head.arg (next at)) in
      let apart : string ++ more ≡ s.head ++ (content ++ more) = ap (λ (bytes : List ℕ). bytes ++ more) whole ∙ append_assoc s.head content more in
      let begin : with_head so_far phase place (string ++ more) ≡ phase place (head_of_width 2 (length content) (length s.head)) (place + length s.head) (content ++ more) =
      ap (λ (bytes : List ℕ). with_head so_far phase place bytes) apart ∙ head_read so_far phase place 2 (length content) s.head (content ++ more) refl s.is_head in
      let passed : phase place (head_of_width 2 (length content) (length s.head)) (place + length s.head) (content ++ more) ≡ with_string (so_far_by place) (length content) (next place) (place + length s.head) (content ++ more) =
      rw (good (length s.head)) refl in
      let at : place + length s.head ≡ place + length string - length content = omega (arith, long) in
      let end : place + length s.head + length content ≡ place + length string = omega (arith, long) in
      let read_string = string_read (so_far_by place) (length content) (next place) (place + length s.head) content more refl in
      begin ∙ (passed ∙ (read_string ∙ (ap (λ (end : ℕ). next place (place + length s.head) content end more) end ∙ ap (λ (at : ℕ). next place at content (place + length string) more) at)))
