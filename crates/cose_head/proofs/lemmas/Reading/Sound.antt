-- What is read is spelled.
use Rattle.std.proofs.Common.{◌≡◌, ℕ, zero, suc, ◌+◌, ◌-◌, ◌*◌, ◌/◌, ◌%◌, ◌<◌, ◌≤◌, ◌⊎◌, inl, inr, false, List, [], ◌∷◌, ◌++◌, length, take, drop, Option, Some, None, Ok, Err, if◌then◌else◌, refl, sym, ap, ◌∙◌, arith, append_assoc, append-nil, one-add}
use Rattle.std.proofs.lemmas.Bool.Decides.{nat_tests}
use Rattle.std.proofs.lemmas.Bool.{cond_both, ltb-true, ltb-false}
use Rattle.std.proofs.lemmas.List.{take-append-drop, length-take-le, length-append}
use Rattle.std.specs.Prelude.{nat_lt, ◌==◌, ◌&&◌, ⊤}
use Rattle.cose_head.specs.declared.head.Head.{Head}
use Rattle.cose_head.specs.declared.reason.Reason.TheVariants.{PastRoom}
use Rattle.cose_head.specs.Head.{low_of, argument_length, is_bad_simple}
use Rattle.cose_head.specs.Item.{Item, unsigned, negative, byte_string, text_string, array, map, tag, simple, float, Items, no_items, item, count_of, depth_of, deepest, IsHead, Spells, SpellsAll}
use Rattle.cose_head.specs.Reading.{Left, Outcome, Reader, ◌>>=◌, after, refuse, truncated, body, parent, children, child_count, read_all, read_with, read, head}
use Rattle.cose_head.specs.Laws.{Between, IsSpelled}
use Rattle.cose_head.proofs.lemmas.Head.HeadCases.{HasHead, head_cases}

-- what holds of a value that was read
abbrev pub AtOk : {A : Type 0} → (A → Left → Type 0) → Outcome A → Type 0
AtOk P (Ok found) = P found.0 found.1
AtOk P (Err refusal) = ⊤

bind_ok : {A B : Type 0} (P : A → Left → Type 0) (Q : B → Left → Type 0) (m : Outcome A) (f : A × Left → Outcome B) → AtOk P m →
    ((x : A × Left) → P x.0 x.1 → AtOk Q (f x)) → AtOk Q (m >>= f)
bind_ok P Q (Ok x) f p next = next x p
bind_ok P Q (Err refusal) f p next = tt

at_ok : {A : Type 0} (P Q : A → Left → Type 0) (o : Outcome A) → ((value : A) (rest : Left) → P value rest → Q value rest) → AtOk P o → AtOk Q o
at_ok P Q (Ok found) weaken p = weaken found.0 found.1 p
at_ok P Q (Err refusal) weaken p = tt

-- no part, and a part after a part
none_between : (l : Left) (P : List ℕ → Type 0) → P [] → Between l l P
none_between l P p = record { part = []; whole = refl; room = omega arith; place = omega arith; is_part = p }

on_between : (l middle rest : Left) (P Q R : List ℕ → Type 0) → ((a b : List ℕ) → P a → Q b → R (a ++ b)) → Between l middle P →
    Between middle rest Q → Between l rest R
on_between l middle rest P Q R join p q =
    let n = length-append p.part q.part in
    let r = p.room in let s = q.room in let t = p.place in let u = q.place in
    record {
      part = p.part ++ q.part;
      whole = p.whole ∙ ap (λ b. p.part ++ b) q.whole ∙ sym (append_assoc p.part q.part rest.bytes);
      room = omega arith;
      place = omega arith;
      is_part = join p.part q.part p.is_part q.is_part;
    }

-- bytes that are among those to read and in the room
taken : (l : Left) (n : ℕ) (P : List ℕ → Type 0) → n ≤ l.room → n ≤ length l.bytes → P (take n l.bytes) → Between l (after n l) P
taken l n P fits there p =
    let t = length-take-le n l.bytes there in
    record { part = take n l.bytes; whole = sym (take-append-drop n l.bytes); room = omega arith; place = ap (λ m. l.place + m) (sym t); is_part = p }

-- the head
pub record IsOfHead (h : Head) (part : List ℕ) : Type 0 where
  pub is_head : IsHead part h.major h.arg
  pub wide : length part ≡ h.width
  pub good : is_bad_simple h ≡ false

pub head_part : (l : Left) (h : Head) → HasHead l.bytes l.room h → Between l (after h.width l) (IsOfHead h)
head_part l h has =
    let wanted : ℕ = argument_length (low_of has.initial) in
    let argument : List ℕ = take wanted has.rest in
    let n : length argument ≡ wanted = length-take-le wanted has.rest has.there in
    let w : h.width ≡ suc wanted = ap (λ g. g.width) has.is_head ∙ ap (λ m. 1 + m) n ∙ one-add wanted in
    let whole : l.bytes ≡ (has.initial ∷ argument) ++ drop h.width l.bytes =
    has.front ∙ ap (λ b. has.initial ∷ b) (sym (take-append-drop wanted has.rest))
    ∙ ap (λ b. (has.initial ∷ argument) ++ b) (sym (ap (λ m. drop m l.bytes) w ∙ ap (drop (suc wanted)) has.front)) in
    let fits = has.fits in
    record {
      part = has.initial ∷ argument;
      whole = whole;
      room = omega arith;
      place = ap (λ m. l.place + m) (w ∙ ap suc (sym n));
      is_part = record {
        is_head = record {
          initial = has.initial;
          argument_bytes = argument;
          whole = refl;
          has_major = sym (ap (λ g. g.major) has.is_head);
          is_definite = has.definite;
          has_width = n;
          has_argument = sym (ap (λ g. g.arg) has.is_head);
        };
        wide = ap suc n ∙ sym w;
        good = has.good;
      };
    }

pub head_sound : (l : Left) → AtOk (λ h rest. Between l rest (IsOfHead h)) (head l)
head_sound l = head_cases l.room l.place (AtOk (λ h rest. Between l rest (IsOfHead h))) (λ reason other. tt) l.bytes (λ short. tt)
    (λ h has. head_part l h has)

-- there are eight major types
major_below : (l rest : Left) (h : Head) → Between l rest (IsOfHead h) → h.major < 8
major_below l rest h p =
    let m : p.is_part.is_head.initial / 32 % 8 ≡ h.major = p.is_part.is_head.has_major in
    omega arith

by_major : (P : ℕ → Type 0) → P 0 → P 1 → P 2 → P 3 → P 4 → P 5 → P 6 → P 7 → (m : ℕ) → m < 8 → P m
by_major P p0 p1 p2 p3 p4 p5 p6 p7 zero small = p0
by_major P p0 p1 p2 p3 p4 p5 p6 p7 (suc zero) small = p1
by_major P p0 p1 p2 p3 p4 p5 p6 p7 (suc (suc zero)) small = p2
by_major P p0 p1 p2 p3 p4 p5 p6 p7 (suc (suc (suc zero))) small = p3
by_major P p0 p1 p2 p3 p4 p5 p6 p7 (suc (suc (suc (suc zero)))) small = p4
by_major P p0 p1 p2 p3 p4 p5 p6 p7 (suc (suc (suc (suc (suc zero))))) small = p5
by_major P p0 p1 p2 p3 p4 p5 p6 p7 (suc (suc (suc (suc (suc (suc zero)))))) small = p6
by_major P p0 p1 p2 p3 p4 p5 p6 p7 (suc (suc (suc (suc (suc (suc (suc zero))))))) small = p7
by_major P p0 p1 p2 p3 p4 p5 p6 p7 (suc (suc (suc (suc (suc (suc (suc (suc m)))))))) small = absurd (omega arith)

-- the items read, one after another
abbrev pub AllRead : ℕ → ℕ → Left → Items → Left → Type 0
AllRead depth n l items rest = Between l rest (λ part. SpellsAll part items) × (count_of items ≡ n) × (deepest items < depth)

-- an item whose nesting is below a number
abbrev pub OneRead : ℕ → Left → Item → Left → Type 0
OneRead depth l content rest = Between l rest (λ part. Spells part content) × (depth_of content < depth)

all_sound : (depth : ℕ) (one : Reader Item) → 0 < depth → ((l : Left) → AtOk (OneRead depth l) (one l)) → (n : ℕ) (l : Left) →
    AtOk (AllRead depth n l) (read_all one n l)
unfolding Spells depth_of
all_sound depth one some each zero l = (none_between l (λ part. SpellsAll part no_items) refl, refl, some)
all_sound depth one some each (suc n) l =
    bind_ok (OneRead depth l) (AllRead depth (suc n) l) (one l)
    (λ first. read_all one n first.1 >>= λ others. Ok (item first.0 others.0, others.1)) (each l)
    (λ x p. bind_ok (AllRead depth n x.1) (AllRead depth (suc n) l) (read_all one n x.1) (λ others. Ok (item x.0 others.0, others.1))
    (all_sound depth one some each n x.1)
    (λ y q.
    let c = q.1 in let d = p.1 in let e = q.2 in (
      on_between l x.1 y.1 (λ part. Spells part x.0) (λ part. SpellsAll part y.0) (λ part. SpellsAll part (item x.0 y.0))
          (λ a b first others. (a, b, refl, first, others)) p.0 q.0,
      omega arith,
      omega arith,
    )))

pub argument_widths : (low : ℕ) → (argument_length low ≡ 0)
    ⊎ ((argument_length low ≡ 1) ⊎ ((argument_length low ≡ 2) ⊎ ((argument_length low ≡ 4) ⊎ (argument_length low ≡ 8))))
argument_widths low = grind (arith, nat_tests)

-- the number of bytes of a head
head_widths : (h : Head) (part : List ℕ) → IsOfHead h part → (h.width ≡ 1) ⊎ ((h.width ≡ 2) ⊎ ((h.width ≡ 3) ⊎ ((h.width ≡ 5) ⊎ (h.width ≡ 9))))
head_widths h part p =
    let w = p.wide in
    let n : length part ≡ suc (length p.is_head.argument_bytes) = ap length p.is_head.whole in
    let a = p.is_head.has_width in
    elim (argument_widths (low_of p.is_head.initial)) [
      | inl e ↦ inl (omega arith)
      | inr f ↦ elim f [
        | inl e ↦ inr (inl (omega arith))
        | inr g ↦ elim g [
          | inl e ↦ inr (inr (inl (omega arith)))
          | inr k ↦ elim k [ inl e ↦ inr (inr (inr (inl (omega arith)))) | inr e ↦ inr (inr (inr (inr (omega arith)))) ]
        ]
      ]
    ]

simple_width : (width arg : ℕ) → (width ≡ 1) ⊎ ((width ≡ 2) ⊎ ((width ≡ 3) ⊎ ((width ≡ 5) ⊎ (width ≡ 9)))) → width < 3 →
    (width == 2 && nat_lt arg 32) ≡ false →
    (width ≡ 1) ⊎ ((width ≡ 2) × (32 ≤ arg))
simple_width width arg widths small good =
    elim widths [
      | inl e ↦ inl e
      | inr f ↦ elim f [
        | inl e ↦ let g : (2 == 2 && nat_lt arg 32) ≡ false = rw e at good in
            inr (e, ltb-false arg 32 g)
        | inr g ↦ absurd (grind arith)
      ]
    ]

float_width : (width : ℕ) → (width ≡ 1) ⊎ ((width ≡ 2) ⊎ ((width ≡ 3) ⊎ ((width ≡ 5) ⊎ (width ≡ 9)))) → 3 ≤ width → (width - 1 ≡ 2)
    ⊎ ((width - 1 ≡ 4) ⊎ (width - 1 ≡ 8))
float_width width widths large = grind arith

-- the reader of the children, where there is one
abbrev EachSound : ℕ → Option (Reader Item) → Type 0
EachSound depth None = ⊤
EachSound depth (Some one) = (0 < depth) × ((l : Left) → AtOk (OneRead depth l) (one l))

-- what follows a head of each major type
module _ (depth : ℕ) (one : Option (Reader Item)) (each : EachSound depth one) (place arg width : ℕ) (l : Left) where
  abbrev head_with : ℕ → Head
  head_with major = record { major = major; arg = arg; width = width }

  abbrev BodyRead : ℕ → Item → Left → Type 0
  BodyRead major content rest = Between l rest (λ part. (front : List ℕ) → IsOfHead (head_with major) front → Spells (front ++ part) content)
      × (depth_of content ≤ depth)

  leaf_sound : (major : ℕ) (content : Item) → depth_of content ≡ 0 →
      ((front : List ℕ) → IsOfHead (head_with major) front → Spells front content) → BodyRead major content l
  leaf_sound major content flat spelled = (
    none_between l (λ part. (front : List ℕ) → IsOfHead (head_with major) front → Spells (front ++ part) content)
        (λ front p. rw append-nil (spelled front p)),
    omega arith,
  )

  unsigned_sound : AtOk (BodyRead 0) (body one place (head_with 0) l)
  unfolding Spells depth_of
  unsigned_sound = leaf_sound 0 (unsigned arg) refl (λ front p. p.is_head)

  negative_sound : AtOk (BodyRead 1) (body one place (head_with 1) l)
  unfolding Spells depth_of
  negative_sound = leaf_sound 1 (negative arg) refl (λ front p. p.is_head)

  simple_sound : width < 3 → (front : List ℕ) → IsOfHead (head_with 7) front → Spells front (simple arg)
  unfolding Spells depth_of
  simple_sound small front p =
      let w : length front ≡ width = p.wide in
      (p.is_head, rw w (simple_width width arg (head_widths (head_with 7) front p) small p.good))

  float_sound : 3 ≤ width → (front : List ℕ) → IsOfHead (head_with 7) front → Spells front (float (width - 1) arg)
  unfolding Spells depth_of
  float_sound large front p =
      let w : length front ≡ width = p.wide in
      let whole : length front ≡ 1 + (width - 1) = omega arith in
      (p.is_head, whole, float_width width (head_widths (head_with 7) front p) large)

  seven_sound : AtOk (BodyRead 7) (body one place (head_with 7) l)
  unfolding Spells depth_of
  seven_sound =
      cond_both (nat_lt width 3) (simple arg) (float (width - 1) arg) (λ content. BodyRead 7 content l)
      (λ e. leaf_sound 7 (simple arg) refl (simple_sound (ltb-true width 3 e)))
      (λ e. leaf_sound 7 (float (width - 1) arg) refl (float_sound (ltb-false width 3 e)))

  string_sound : (major : ℕ) (content : Item) → depth_of content ≡ 0 →
      ((front rest : List ℕ) → rest ≡ take arg l.bytes → IsHead front major (length rest) → Spells (front ++ rest) content) →
      AtOk (BodyRead major) (if nat_lt l.room arg then refuse PastRoom place else if nat_lt (length l.bytes) arg then truncated l else Ok
      (content, after arg l))
  string_sound major content flat spelled =
      cond_both (nat_lt l.room arg) (refuse PastRoom place) (if nat_lt (length l.bytes) arg then truncated l else Ok (content, after arg l))
      (AtOk (BodyRead major)) (λ e. tt)
      (λ e. cond_both (nat_lt (length l.bytes) arg) (truncated l) (Ok (content, after arg l)) (AtOk (BodyRead major)) (λ f. tt)
      (λ f. let there = ltb-false _ _ f in (
        taken l arg (λ part. (front : List ℕ) → IsOfHead (head_with major) front → Spells (front ++ part) content) (ltb-false _ _ e) there
            (λ front p. spelled front (take arg l.bytes) refl (rw (length-take-le arg l.bytes there) p.is_head)),
        omega arith,
      )))

  bytes_sound : AtOk (BodyRead 2) (body one place (head_with 2) l)
  unfolding Spells depth_of
  bytes_sound = string_sound 2 (byte_string (take arg l.bytes)) refl
      (λ front rest same is_head. record { head = front; rest = rest; whole = refl; is_head = rw (← same) is_head; is_rest = same })

  text_sound : AtOk (BodyRead 3) (body one place (head_with 3) l)
  unfolding Spells depth_of
  text_sound = string_sound 3 (text_string (take arg l.bytes)) refl
      (λ front rest same is_head. record { head = front; rest = rest; whole = refl; is_head = rw (← same) is_head; is_rest = same })

  -- the children, where nesting and room are left for them
  parent_sound : (major : ℕ) → ((some : Reader Item) → 0 < depth → ((m : Left) → AtOk (OneRead depth m) (some m)) →
      AtOk (BodyRead major) (children some (head_with major) l)) →
      AtOk (BodyRead major) (parent one place (head_with major) l)
  parent_sound major spelled = go one each
    where
      go : (some : Option (Reader Item)) → EachSound depth some → AtOk (BodyRead major) (parent some place (head_with major) l)
      go None e = tt
      go (Some reader) e =
          cond_both (nat_lt l.room (child_count (head_with major))) (refuse PastRoom place) (children reader (head_with major) l)
          (AtOk (BodyRead major)) (λ f. tt) (λ f. spelled reader e.0 e.1)

  list_sound : (major n : ℕ) (make : Items → Item) → ((items : Items) → depth_of (make items) ≡ 1 + deepest items) →
      ((items : Items) (front part : List ℕ) → count_of items ≡ n → IsHead front major arg → SpellsAll part items →
      Spells (front ++ part) (make items)) →
      (some : Reader Item) → 0 < depth → ((m : Left) → AtOk (OneRead depth m) (some m)) →
      AtOk (BodyRead major) (read_all some n l >>= λ items. Ok (make items.0, items.1))
  list_sound major n make nested spelled some deep sound =
      bind_ok (AllRead depth n l) (BodyRead major) (read_all some n l) (λ items. Ok (make items.0, items.1)) (all_sound depth some deep sound n l)
      (λ x p.
      let d = nested x.0 in let e = p.2 in let q = p.0 in (
        record {
          part = q.part;
          whole = q.whole;
          room = q.room;
          place = q.place;
          is_part = λ front is. spelled x.0 front q.part p.1 is.is_head q.is_part;
        },
        omega arith,
      ))

  array_sound : AtOk (BodyRead 4) (body one place (head_with 4) l)
  unfolding Spells depth_of
  array_sound =
      parent_sound 4 (list_sound 4 arg array (λ items. refl)
      (λ items front part count is_head all. record { head = front; rest = part; whole = refl; is_head = rw count is_head; is_rest = all }))

  map_sound : AtOk (BodyRead 5) (body one place (head_with 5) l)
  unfolding Spells depth_of
  map_sound =
      parent_sound 5 (list_sound 5 (2 * arg) map (λ items. refl)
      (λ items front part count is_head all. (arg, sym count, record { head = front; rest = part; whole = refl; is_head = is_head; is_rest = all })))

  tag_sound : AtOk (BodyRead 6) (body one place (head_with 6) l)
  unfolding Spells depth_of
  tag_sound =
      parent_sound 6 (λ some deep sound. bind_ok (OneRead depth l) (BodyRead 6) (some l) (λ content. Ok (tag arg content.0, content.1)) (sound l)
      (λ x p.
      let d = p.1 in let q = p.0 in (
        record {
          part = q.part;
          whole = q.whole;
          room = q.room;
          place = q.place;
          is_part = λ front is. record { head = front; rest = q.part; whole = refl; is_head = is.is_head; is_rest = q.is_part };
        },
        omega arith,
      )))

  pub body_sound : (major : ℕ) → major < 8 → AtOk (BodyRead major) (body one place (head_with major) l)
  body_sound = by_major (λ major. AtOk (BodyRead major)
      (body one place (head_with major) l)) unsigned_sound negative_sound bytes_sound text_sound array_sound map_sound tag_sound seven_sound

with_sound : (depth : ℕ) (one : Option (Reader Item)) → EachSound depth one → (l : Left) → AtOk (IsSpelled depth l) (read_with one l)
with_sound depth one each l =
    bind_ok (λ h rest. Between l rest (IsOfHead h)) (IsSpelled depth l) (head l) (λ h. body one l.place h.0 h.1) (head_sound l)
    (λ x p. at_ok (BodyRead depth one each l.place x.0.arg x.0.width x.1 x.0.major) (IsSpelled depth l) (body one l.place x.0 x.1)
    (λ content rest q. (
      on_between l x.1 rest (IsOfHead x.0) (λ part. (front : List ℕ) → IsOfHead x.0 front → Spells (front ++ part) content)
          (λ part. Spells part content) (λ a b is spelled. spelled a is) p q.0,
      q.1,
    ))
    (body_sound depth one each l.place x.0.arg x.0.width x.1 x.0.major (major_below l x.1 x.0 p)))

pub read_sound : (depth : ℕ) (l : Left) → AtOk (IsSpelled depth l) (read depth l)
unfolding read
read_sound zero l = with_sound zero None tt l
read_sound (suc depth) l =
    with_sound (suc depth) (Some (read depth)) (
      omega arith,
      λ m. at_ok (IsSpelled depth m) (OneRead (suc depth) m) (read depth m)
          (λ content rest q. let d = q.1 in (q.0, omega arith)) (read_sound depth m),
    ) l
