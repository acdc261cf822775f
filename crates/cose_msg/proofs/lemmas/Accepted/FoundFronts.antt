-- The front of a message that isn't refused, its tags and the head of its array, is one that the rules allow.
use Rattle.std.proofs.Common.{◌≡◌, ℕ, ◌+◌, ◌⊎◌, inl, inr, Bool, true, false, cond, List, ◌++◌, length, Some, None, Result, Ok, Err, refl, sym, ap, subst, ◌∙◌, append_assoc, arith, length-append, zero-add}
use Rattle.std.specs.Prelude.{◌==◌, ◌&&◌, ◌||◌}
use Rattle.std.proofs.lemmas.Bool.{eqb-true}
use Rattle.cose_head.specs.declared.head.Head.{Head}
use Rattle.cose_head.specs.declared.kind.Kind.{Kind}
use Rattle.cose_head.specs.declared.kind.Kind.TheVariants as kinds
use Rattle.cose_head.specs.declared.reason.Reason.{Reason}
use Rattle.cose_head.specs.declared.reason.Reason.TheVariants.{WrongTag, Encrypted, SeveralParties, NotFour, WrongType, CwtTagAlone}
use Rattle.cose_head.specs.Item.{IsHead, Begins}
use Rattle.cose_msg.specs.declared.context.Wanted.{Wanted}
use Rattle.cose_msg.specs.declared.context.Wanted.TheVariants as wants
use Rattle.cose_msg.specs.Answer.{Answer}
use Rattle.cose_msg.specs.Front.{array_head_fault, past_array_head, array_head, wants_kind, wanted_kind, kind_of_tag, past_tag, past_second_head, second_head, past_untagged, is_cwt_tag, is_tag, is_array, past_first_head, first_head}
use Rattle.cose_msg.specs.Grammar.{tag_number, is_untagged, IsArrayOfFour, IsFront, untagged, tagged, in_cwt}
use Rattle.cose_msg.specs.Phases.{nothing_so_far, protected_head}
use Rattle.cose_msg.specs.Reading.{Reading, stop}
use Rattle.cose_msg.specs.Rules.{Rules}
use Rattle.cose_msg.proofs.lemmas.Accepted.Found.{first_test, passes, ProtectedFound, protected_found}
use Rattle.cose_msg.proofs.lemmas.Accepted.FoundForms.{Comes, NotRefused, ValueFound, comes_at, unless_fault_found, head_found}
use Rattle.cose_msg.proofs.lemmas.Spelling.Spelled.{SpellingLaws}

-- A part of the front, at the beginning of the bytes; the protected bucket comes after it.
record PartFound (IsPart : List ℕ → Type 0) (rules : Rules) (kind : Kind) (place : ℕ) (bytes : List ℕ) (answer : Answer) : Type 0 where
  part : List ℕ
  rest : List ℕ
  is : bytes ≡ part ++ rest
  is_part : IsPart part
  comes : Comes (protected_head rules kind) (place + length part) rest answer

-- The tag of a kind that is wanted, and the head of the array.
abbrev IsTagged : Kind → List ℕ → Type 0
IsTagged kind part = Begins part 6 (tag_number kind) IsArrayOfFour

record TagFound (rules : Rules) (place : ℕ) (bytes : List ℕ) (answer : Answer) : Type 0 where
  kind : Kind
  wanted : wants_kind rules.wanted kind ≡ true
  found : PartFound (IsTagged kind) rules kind place bytes answer

-- The head that was found to be that of an array of four.
record FourFound (rules : Rules) (kind : Kind) (head : Head) (place : ℕ) (bytes : List ℕ) (answer : Answer) : Type 0 where
  major : head.major ≡ 4
  four : head.arg ≡ 4
  comes : Comes (protected_head rules kind) place bytes answer

record UntaggedFound (rules : Rules) (wanted : Wanted) (head : Head) (place : ℕ) (bytes : List ℕ) (answer : Answer) : Type 0 where
  kind : Kind
  wanted_is : is_untagged wanted kind ≡ true
  found : FourFound rules kind head place bytes answer

pub record FrontFound (rules : Rules) (bytes : List ℕ) (answer : Answer) : Type 0 where
  pub kind : Kind
  pub part : List ℕ
  pub rest : List ℕ
  pub is : bytes ≡ part ++ rest
  pub front : IsFront rules kind part
  pub next : ProtectedFound rules kind (length part) rest answer

-- ---- the tests of the front

both_true : (a b : Bool) → (a && b) ≡ true → (a ≡ true) × (b ≡ true)
both_true true true e = (refl, refl)
both_true true false e = absurd cc
both_true false b e = absurd cc

wanted_found : (b : Bool) (kind found : Kind) → cond b (Ok kind) (Err WrongTag) ≡ Ok found → (b ≡ true) × (kind ≡ found)
wanted_found true kind found e = (refl, cc)
wanted_found false kind found e = absurd cc

number_found : (wanted : Wanted) (n : ℕ) (kind found : Kind) → (n == tag_number kind) ≡ true → wanted_kind wanted kind ≡ Ok found → (n ≡ tag_number found) × (wants_kind wanted found ≡ true)
number_found wanted n kind found is e =
    let both = wanted_found (wants_kind wanted kind) kind found e in
    subst (λ (other : Kind). (n ≡ tag_number other) × (wants_kind wanted other ≡ true)) both.1 (eqb-true n (tag_number kind) is, both.0)

number_tests : (wanted : Wanted) (n : ℕ) (found : Kind) (a b c d : Bool) → (n == 17) ≡ a → (n == 18) ≡ b
    → cond a (wanted_kind wanted kinds.Mac0) (cond b (wanted_kind wanted kinds.Sign1) (cond c (Err Encrypted) (cond d (Err SeveralParties) (Err WrongTag)))) ≡ Ok found
    → (n ≡ tag_number found) × (wants_kind wanted found ≡ true)
number_tests wanted n found true b c d i j e = number_found wanted n kinds.Mac0 found i e
number_tests wanted n found false true c d i j e = number_found wanted n kinds.Sign1 found j e
number_tests wanted n found false false true d i j e = absurd cc
number_tests wanted n found false false false true i j e = absurd cc
number_tests wanted n found false false false false i j e = absurd cc

kind_found : (wanted : Wanted) (n : ℕ) (found : Kind) → kind_of_tag wanted n ≡ Ok found → (n ≡ tag_number found) × (wants_kind wanted found ≡ true)
kind_found wanted n found e = number_tests wanted n found (n == 17) (n == 18) (n == 16 || n == 96) (n == 97 || n == 98) refl refl e

four_passes : (head : Head) → array_head_fault head ≡ None → (head.major ≡ 4) × (head.arg ≡ 4)
four_passes head e =
    let both = first_test (head.major == 4) (cond (head.arg == 4) None (Some NotFour)) (Some WrongType) (λ never. cc) e in
    (eqb-true head.major 4 both.0, eqb-true head.arg 4 (passes (head.arg == 4) NotFour both.1))

is_cwt_head : (admitted : Bool) (head : Head) → is_cwt_tag admitted head ≡ true → (admitted ≡ true) × (head.major ≡ 6) × (head.arg ≡ 61)
is_cwt_head admitted head e =
    let both = both_true admitted (is_tag head && head.arg == 61) e in
    let tag = both_true (is_tag head) (head.arg == 61) both.1 in
    (both.0, eqb-true head.major 6 tag.0, eqb-true head.arg 61 tag.1)

is_head_of : (part : List ℕ) (head : Head) (major argument : ℕ) → IsHead part head.major head.arg → head.major ≡ major → head.arg ≡ argument → IsHead part major argument
is_head_of part head major argument is same equal = subst (λ (n : ℕ). IsHead part n argument) same (subst (λ (n : ℕ). IsHead part head.major n) equal is)

-- ---- the heads, the last first

module _ (answer : Answer) (unrefused : NotRefused answer) (laws : SpellingLaws) (rules : Rules) where
  one_of_three : (a b c : Bool) (x y z : Reading) (at : ℕ) → (cond a x (cond b y (cond c z (stop nothing_so_far WrongType at)))).answer ≡ answer
      → ((a ≡ true) × (x.answer ≡ answer)) ⊎ (((b ≡ true) × (y.answer ≡ answer)) ⊎ ((c ≡ true) × (z.answer ≡ answer)))
  one_of_three true b c x y z at comes = inl (refl, comes)
  one_of_three false true c x y z at comes = inr (inl (refl, comes))
  one_of_three false false true x y z at comes = inr (inr (refl, comes))
  one_of_three false false false x y z at comes = absurd (unrefused WrongType at comes)

  past_array_found : (kind : Kind) (at : ℕ) (head : Head) (place : ℕ) (bytes : List ℕ) → Comes (past_array_head rules kind at head) place bytes answer → FourFound rules kind head place bytes answer
  past_array_found kind at head place bytes comes =
      let tested = unless_fault_found answer unrefused nothing_so_far at (array_head_fault head) (protected_head rules kind) place bytes comes in
      let four = four_passes head tested.0 in
      record { major = four.0; four = four.1; comes = tested.1 }

  array_found : (kind : Kind) (place : ℕ) (bytes : List ℕ) → Comes (array_head rules kind) place bytes answer → PartFound IsArrayOfFour rules kind place bytes answer
  array_found kind place bytes comes =
      let h = head_found answer unrefused laws nothing_so_far (past_array_head rules kind) place bytes comes in
      let f = past_array_found kind place h.head (place + length h.part) h.rest h.comes in
      record { part = h.part; rest = h.rest; is = h.is; is_part = is_head_of h.part h.head 4 4 h.is_head f.major f.four; comes = f.comes }

  past_tag_found : (at : ℕ) (kind : Result Kind Reason) (place : ℕ) (bytes : List ℕ) → Comes (past_tag rules at kind) place bytes answer → ValueFound kind (array_head rules) place bytes answer
  past_tag_found at (Ok kind) place bytes comes = record { found = kind; is = refl; comes = comes }
  past_tag_found at (Err reason) place bytes comes = absurd (unrefused reason at comes)

  -- What begins with a tag, after which a part was found.
  after_tag : (IsPart : List ℕ → Type 0) (kind : Kind) (place number : ℕ) (bytes tag rest : List ℕ) → bytes ≡ tag ++ rest → IsHead tag 6 number → PartFound IsPart rules kind (place + length tag) rest answer
      → PartFound (λ part. Begins part 6 number IsPart) rules kind place bytes answer
  after_tag IsPart kind place number bytes tag rest is is_head p =
      let end : place + length tag + length p.part ≡ place + length (tag ++ p.part) = omega (arith, length-append tag p.part) in
      record {
        part = tag ++ p.part;
        rest = p.rest;
        is = is ∙ ap (λ (list : List ℕ). tag ++ list) p.is ∙ sym (append_assoc tag p.part p.rest);
        is_part = record { head = tag; rest = p.part; whole = refl; is_head = is_head; is_rest = p.is_part };
        comes = comes_at (protected_head rules kind) (place + length tag + length p.part) (place + length (tag ++ p.part)) p.rest p.rest answer end refl p.comes;
      }

  tag_found : (at place : ℕ) (bytes : List ℕ) (head : Head) (part rest : List ℕ) → bytes ≡ part ++ rest → IsHead part head.major head.arg → head.major ≡ 6
      → Comes (past_tag rules at (kind_of_tag rules.wanted head.arg)) (place + length part) rest answer → TagFound rules place bytes answer
  tag_found at place bytes head part rest is is_head major comes =
      let k = past_tag_found at (kind_of_tag rules.wanted head.arg) (place + length part) rest comes in
      let number = kind_found rules.wanted head.arg k.found k.is in
      let array = array_found k.found (place + length part) rest k.comes in
      record {
        kind = k.found;
        wanted = number.1;
        found = after_tag IsArrayOfFour k.found place (tag_number k.found) bytes part rest is (is_head_of part head 6 (tag_number k.found) is_head major number.0) array;
      }

  tag_after_cwt_found : (b : Bool) (kind : Result Kind Reason) (at place : ℕ) (bytes : List ℕ) → Comes (past_tag rules at (cond b kind (Err CwtTagAlone))) place bytes answer → (b ≡ true) × Comes (past_tag rules at kind) place bytes answer
  tag_after_cwt_found true kind at place bytes comes = (refl, comes)
  tag_after_cwt_found false kind at place bytes comes = absurd (unrefused CwtTagAlone at comes)

  second_found : (place : ℕ) (bytes : List ℕ) → Comes (second_head rules) place bytes answer → TagFound rules place bytes answer
  second_found place bytes comes =
      let h = head_found answer unrefused laws nothing_so_far (past_second_head rules) place bytes comes in
      let tests_then = tag_after_cwt_found (is_tag h.head) (kind_of_tag rules.wanted h.head.arg) place (place + length h.part) h.rest h.comes in
      tag_found place place bytes h.head h.part h.rest h.is h.is_head (eqb-true h.head.major 6 tests_then.0) tests_then.1

  untagged_found : (wanted : Wanted) (at : ℕ) (head : Head) (place : ℕ) (bytes : List ℕ) → Comes (past_untagged rules wanted at head) place bytes answer → UntaggedFound rules wanted head place bytes answer
  untagged_found wants.Mac0 at head place bytes comes = record { kind = kinds.Mac0; wanted_is = refl; found = past_array_found kinds.Mac0 at head place bytes comes }
  untagged_found wants.Sign1 at head place bytes comes = record { kind = kinds.Sign1; wanted_is = refl; found = past_array_found kinds.Sign1 at head place bytes comes }
  untagged_found wants.Tagged at head place bytes comes = absurd (unrefused WrongTag at comes)

  -- ---- the front

  front_of : (IsPart : List ℕ → Type 0) (kind : Kind) (bytes : List ℕ) (p : PartFound IsPart rules kind 0 bytes answer) → IsFront rules kind p.part → FrontFound rules bytes answer
  front_of IsPart kind bytes p front = record {
    kind = kind;
    part = p.part;
    rest = p.rest;
    is = p.is;
    front = front;
    next = protected_found answer unrefused laws rules kind (length p.part) p.rest (comes_at (protected_head rules kind) (0 + length p.part) (length p.part) p.rest p.rest answer (zero-add (length p.part)) refl p.comes);
  }

  pub front_found : (bytes : List ℕ) → Comes (first_head rules) 0 bytes answer → FrontFound rules bytes answer
  front_found bytes comes =
      let h = head_found answer unrefused laws nothing_so_far (past_first_head rules) 0 bytes comes in
      let end : ℕ = 0 + length h.part in
      elim (one_of_three (is_cwt_tag rules.cwt h.head) (is_tag h.head) (is_array h.head) (second_head rules end h.rest) (past_tag rules 0 (kind_of_tag rules.wanted h.head.arg) end h.rest)
      (past_untagged rules rules.wanted 0 h.head end h.rest) 0 h.comes) [
        | inl cwt ↦
            let tests = is_cwt_head rules.cwt h.head cwt.0 in
            let t = second_found end h.rest cwt.1 in
            let p = after_tag (IsTagged t.kind) t.kind 0 61 bytes h.part h.rest h.is (is_head_of h.part h.head 6 61 h.is_head tests.1 tests.2) t.found in
            front_of (λ part. Begins part 6 61 (IsTagged t.kind)) t.kind bytes p (in_cwt tests.0 t.wanted p.is_part)
        | inr (inl tag) ↦
            let t = tag_found 0 0 bytes h.head h.part h.rest h.is h.is_head (eqb-true h.head.major 6 tag.0) tag.1 in
            front_of (IsTagged t.kind) t.kind bytes t.found (tagged t.wanted t.found.is_part)
        | inr (inr array) ↦
            let u = untagged_found rules.wanted 0 h.head end h.rest array.1 in
            let is_array_of_four : IsArrayOfFour h.part = is_head_of h.part h.head 4 4 h.is_head u.found.major u.found.four in
            front_of IsArrayOfFour u.kind bytes (record { part = h.part; rest = h.rest; is = h.is; is_part = is_array_of_four; comes = u.found.comes }) (untagged u.wanted_is is_array_of_four)
      ]
