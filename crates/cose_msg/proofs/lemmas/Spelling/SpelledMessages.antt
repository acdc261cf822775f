-- A message that is spelled by the grammar is read as what it is, phase by phase, the last first.
use Rattle.std.proofs.Common.{◌≡◌, ℕ, ◌+◌, ◌-◌, ◌≤◌, Bool, true, false, cond, List, [], ◌++◌, length, inl, inr, Option, None, refl, sym, ap, subst, ◌∙◌, append_assoc, arith, length-append, zero-add}
use Rattle.std.specs.Prelude.{◌&&◌, Ok}
use Rattle.std.proofs.lemmas.Bool.{le-ltb}
use Rattle.std.proofs.lemmas.List.{append-nil, drop_at, length-take-le}
use Rattle.cose_head.specs.declared.kind.Kind.{Kind}
use Rattle.cose_head.specs.declared.kind.Kind.TheVariants as kinds
use Rattle.cose_head.specs.declared.head.Head.{Head}
use Rattle.cose_head.specs.declared.head.HeadStep.TheVariants.{Got}
use Rattle.cose_head.specs.Head.{bare_head}
use Rattle.cose_head.specs.Item.{Item, byte_string, simple, no_items, item, tag, depth_of, Begins, Spells, SpellsAll}
use Rattle.cose_map.specs.Bucket.{bucket_of}
use Rattle.cose_map.specs.Bucket.Both.{pair_fault}
use Rattle.cose_msg.specs.declared.context.Wanted.{Wanted}
use Rattle.cose_msg.specs.declared.context.Wanted.TheVariants as wants
use Rattle.cose_msg.specs.Answer.{Chosen, Headers, Whole}
use Rattle.cose_msg.specs.Front.{wants_kind, array_head, past_array_head, kind_of_tag, past_tag, past_second_head, second_head, past_untagged, is_cwt_tag, past_first_head, first_head}
use Rattle.cose_msg.specs.Grammar.{tag_number, is_untagged, IsArrayOfFour, IsFront, untagged, tagged, in_cwt, Spellings, protected_at, unprotected_at, payload_at, auth_at, IsMessage, HasCome, payload_element, four_elements, SpellsMessage, bare, in_tag, in_cwt_tag}
use Rattle.cose_msg.specs.Message.{message}
use Rattle.cose_msg.specs.Phases.{nothing_so_far, unprotected_so_far, headers_so_far, finish, auth_head, auth_head_fault, past_payload, payload_head, payload_head_fault, past_payload_head_from, is_too_long, both_buckets, placed_at, past_unprotected, unprotected, past_protected, protected_head, protected_head_fault}
use Rattle.cose_msg.specs.Reading.{Findings, Reading, Phase, Next, settled, with_head}
use Rattle.cose_msg.specs.Rules.{Rules}
use Rattle.cose_msg.specs.Source.{Source, attached, detached}
use Rattle.cose_msg.proofs.lemmas.Spelling.Spellings.{all_apart, spelled_length}
use Rattle.cose_msg.proofs.lemmas.Spelling.Spelled.{SpellingLaws, head_of_width, head_read, item_read, byte_string_read}

first_of : (b : Bool) (x y : Reading) → b ≡ true → cond b x y ≡ x
first_of b x y e = rw e refl

-- nil is spelled in one byte, and read (RFC 8949 section 3.3).
nil_is_short : (string : List ℕ) → Spells string (simple 22) → length string ≡ 1
unfolding Spells
nil_is_short string spelled = elim spelled.1 [ inl one ↦ one | inr two ↦ absurd (omega (arith, two.1)) ]

nil_found : SpellingLaws → (string more : List ℕ) → Spells string (simple 22) → bare_head (string ++ more) ≡ Got (head_of_width 7 22 1) 1
unfolding Spells
nil_found laws string more spelled = (laws.head (string ++ more) (head_of_width 7 22 1) 1).1 (record {
  part = string;
  rest = more;
  whole = refl;
  is_head = spelled.0;
  wide = nil_is_short string spelled;
  ends = refl;
  good = refl;
})

nil_read : SpellingLaws → (so_far : Findings) (next : Next Head) (place : ℕ) (string more : List ℕ) → Spells string (simple 22) → with_head so_far next place (string ++ more) ≡ next place (head_of_width 7 22 1) (place + length string) more
unfolding with_head
nil_read laws so_far next place string more spelled =
    let one : length string ≡ 1 = nil_is_short string spelled in
    rw (nil_found laws string more spelled, drop_at string more 1 one, one) refl

module _ (laws : SpellingLaws) (rules : Rules) where
  -- ---- the elements, from the last one on

  auth_read : (headers : Headers) (chosen : Option Chosen) (payload auth : List ℕ) (place : ℕ) (string more : List ℕ) → Spells string (byte_string auth) → rules.auth_fits chosen (length auth) ≡ true
      → auth_head rules headers chosen payload place (string ++ more) ≡ settled (headers_so_far headers payload) (rules.finish (record {
        headers = headers;
        chosen = chosen;
        payload = payload;
        auth = auth;
        auth_at = place;
        taken = place + length string;
      }))
  auth_read headers chosen payload auth place string more spelled fits =
      byte_string_read laws (headers_so_far headers payload) (auth_head_fault rules chosen) (λ at bytes. headers_so_far headers payload) (finish rules headers chosen payload) place string auth more spelled (λ width. rw fits refl)

  payload_read_from : (source : Source) (headers : Headers) (chosen : Option Chosen) (payload : List ℕ) (place : ℕ) (string more : List ℕ) → Spells string (payload_element source payload) → HasCome source payload → is_too_long rules.payload_limit (length payload) ≡ false
      → with_head (headers_so_far headers []) (past_payload_head_from source rules headers chosen) place (string ++ more) ≡ auth_head rules headers chosen payload (place + length string) more
  payload_read_from (detached came detached_length) headers chosen payload place string more spelled come fits =
      let long : length payload ≡ detached_length = ap length come.1 ∙ length-take-le detached_length came come.0 in
      let short : is_too_long rules.payload_limit detached_length ≡ false = ap (is_too_long rules.payload_limit) (sym long) ∙ fits in
      nil_read laws (headers_so_far headers []) (past_payload_head_from (detached came detached_length) rules headers chosen) place string more spelled
      ∙ rw (short, le-ltb (length came) detached_length come.0, ← come.1) refl
  payload_read_from attached headers chosen payload place string more spelled come fits =
      byte_string_read laws (headers_so_far headers []) (payload_head_fault rules) (λ at bytes. headers_so_far headers bytes) (λ at. past_payload rules headers chosen) place string payload more spelled (λ width. rw fits refl)

  payload_read : (headers : Headers) (chosen : Option Chosen) (payload : List ℕ) (place : ℕ) (string more : List ℕ) → Spells string (payload_element rules.source payload) → HasCome rules.source payload → is_too_long rules.payload_limit (length payload) ≡ false
      → payload_head rules headers chosen place (string ++ more) ≡ auth_head rules headers chosen payload (place + length string) more
  payload_read headers chosen payload place string more spelled come fits = payload_read_from rules.source headers chosen payload place string more spelled come fits

  -- Both buckets are good together, and there is the key.
  headers_read : (headers : Headers) (chosen : Option Chosen) (place : ℕ) (more : List ℕ) → pair_fault headers.protected_pairs headers.unprotected_pairs rules.understood place ≡ None → rules.choice headers ≡ Ok chosen
      → both_buckets rules headers place more ≡ payload_head rules headers chosen place more
  headers_read headers chosen place more together is = rw (together, is) refl

  unprotected_read : (headers : Headers) (place : ℕ) (tree : Item) (bucket more : List ℕ) → Spells bucket tree → length bucket ≤ rules.room → depth_of tree ≤ rules.nesting
      → bucket_of rules.nesting (placed_at place bucket) ≡ Ok headers.unprotected_pairs
      → unprotected rules headers.kind headers.protected headers.protected_pairs place (bucket ++ more) ≡ both_buckets rules headers (place + length bucket) more
  unprotected_read headers place tree bucket more spelled fits nests good =
      item_read laws (unprotected_so_far headers.protected_pairs) rules.room rules.nesting (past_unprotected rules headers.kind headers.protected headers.protected_pairs) place tree bucket more spelled fits nests ∙ rw good refl

  protected_read : (headers : Headers) (place : ℕ) (string more : List ℕ) → Spells string (byte_string headers.protected) → length headers.protected ≤ rules.room
      → bucket_of rules.nesting (placed_at (place + length string - length headers.protected) headers.protected) ≡ Ok headers.protected_pairs
      → protected_head rules headers.kind place (string ++ more) ≡ unprotected rules headers.kind headers.protected headers.protected_pairs (place + length string) more
  protected_read headers place string more spelled fits good =
      byte_string_read laws nothing_so_far (protected_head_fault rules) (λ at bytes. nothing_so_far) (λ at. past_protected rules headers.kind) place string headers.protected more spelled (λ width. rw (le-ltb _ _ fits) refl) ∙ rw good refl

  -- ---- the front

  array_read : (kind : Kind) (place : ℕ) (head more : List ℕ) → IsArrayOfFour head → array_head rules kind place (head ++ more) ≡ protected_head rules kind (place + length head) more
  array_read kind place head more is = head_read laws nothing_so_far (past_array_head rules kind) place 4 4 head more refl is

  wanted_tag : (wanted : Wanted) (kind : Kind) → wants_kind wanted kind ≡ true → kind_of_tag wanted (tag_number kind) ≡ Ok kind
  wanted_tag wanted kinds.Mac0 e = rw e refl
  wanted_tag wanted kinds.Sign1 e = rw e refl

  array_after_tag : (kind : Kind) (at place : ℕ) (head more : List ℕ) → wants_kind rules.wanted kind ≡ true → IsArrayOfFour head
      → past_tag rules at (kind_of_tag rules.wanted (tag_number kind)) place (head ++ more) ≡ protected_head rules kind (place + length head) more
  array_after_tag kind at place head more wanted is = rw (wanted_tag rules.wanted kind wanted) (array_read kind place head more is)

  past_untagged_array : (wanted : Wanted) (kind : Kind) (at width place : ℕ) (more : List ℕ) → is_untagged wanted kind ≡ true → past_untagged rules wanted at (head_of_width 4 4 width) place more ≡ protected_head rules kind place more
  past_untagged_array wants.Mac0 kinds.Mac0 at width place more e = refl
  past_untagged_array wants.Mac0 kinds.Sign1 at width place more e = absurd cc
  past_untagged_array wants.Sign1 kinds.Mac0 at width place more e = absurd cc
  past_untagged_array wants.Sign1 kinds.Sign1 at width place more e = refl
  past_untagged_array wants.Tagged kinds.Mac0 at width place more e = absurd cc
  past_untagged_array wants.Tagged kinds.Sign1 at width place more e = absurd cc

  never_and : (b : Bool) → (b && false) ≡ false
  never_and true = refl
  never_and false = refl

  -- The tag of a kind is not that of a CWT.
  past_first_tag : (kind : Kind) (at width place : ℕ) (more : List ℕ) → past_first_head rules at (head_of_width 6 (tag_number kind) width) place more ≡ past_tag rules at (kind_of_tag rules.wanted (tag_number kind)) place more
  past_first_tag kinds.Mac0 at width place more = rw (never_and rules.cwt) refl
  past_first_tag kinds.Sign1 at width place more = rw (never_and rules.cwt) refl

  ends_at : (kind : Kind) (place : ℕ) (front head rest more : List ℕ) → front ≡ head ++ rest → protected_head rules kind (place + length head + length rest) more ≡ protected_head rules kind (place + length front) more
  ends_at kind place front head rest more whole = ap (λ (end : ℕ). protected_head rules kind end more) (omega (arith, ap length whole, length-append head rest))

  apart : (phase : Phase) (place : ℕ) (front head rest more : List ℕ) → front ≡ head ++ rest → phase place (front ++ more) ≡ phase place (head ++ (rest ++ more))
  apart phase place front head rest more whole = ap (phase place) (ap (λ (bytes : List ℕ). bytes ++ more) whole ∙ append_assoc head rest more)

  tagged_first : (kind : Kind) (place : ℕ) (front more : List ℕ) → wants_kind rules.wanted kind ≡ true → Begins front 6 (tag_number kind) IsArrayOfFour → first_head rules place (front ++ more) ≡ protected_head rules kind (place + length front) more
  tagged_first kind place front more wanted b =
      apart (first_head rules) place front b.head b.rest more b.whole
      ∙ (head_read laws nothing_so_far (past_first_head rules) place 6 (tag_number kind) b.head (b.rest ++ more) refl b.is_head
      ∙ (past_first_tag kind place (length b.head) (place + length b.head) (b.rest ++ more)
      ∙ (array_after_tag kind place (place + length b.head) b.rest more wanted b.is_rest
      ∙ ends_at kind place front b.head b.rest more b.whole)))

  tagged_second : (kind : Kind) (place : ℕ) (front more : List ℕ) → wants_kind rules.wanted kind ≡ true → Begins front 6 (tag_number kind) IsArrayOfFour → second_head rules place (front ++ more) ≡ protected_head rules kind (place + length front) more
  tagged_second kind place front more wanted b =
      apart (second_head rules) place front b.head b.rest more b.whole
      ∙ (head_read laws nothing_so_far (past_second_head rules) place 6 (tag_number kind) b.head (b.rest ++ more) refl b.is_head
      ∙ (array_after_tag kind place (place + length b.head) b.rest more wanted b.is_rest
      ∙ ends_at kind place front b.head b.rest more b.whole))

  past_cwt_tag : rules.cwt ≡ true → (at width place : ℕ) (more : List ℕ) → past_first_head rules at (head_of_width 6 61 width) place more ≡ second_head rules place more
  past_cwt_tag admitted at width place more = first_of (is_cwt_tag rules.cwt (head_of_width 6 61 width)) (second_head rules place more) _ (ap (λ (cwt : Bool). is_cwt_tag cwt (head_of_width 6 61 width)) admitted)

  front_read : (kind : Kind) (place : ℕ) (front more : List ℕ) → IsFront rules kind front → first_head rules place (front ++ more) ≡ protected_head rules kind (place + length front) more
  front_read kind place front more (untagged wanted is) =
      head_read laws nothing_so_far (past_first_head rules) place 4 4 front more refl is
      ∙ rw (never_and rules.cwt) (past_untagged_array rules.wanted kind place (length front) (place + length front) more wanted)
  front_read kind place front more (tagged wanted begins) = tagged_first kind place front more wanted begins
  front_read kind place front more (in_cwt admitted wanted begins) =
      apart (first_head rules) place front begins.head begins.rest more begins.whole
      ∙ (head_read laws nothing_so_far (past_first_head rules) place 6 61 begins.head (begins.rest ++ more) refl begins.is_head
      ∙ (past_cwt_tag admitted place (length begins.head) (place + length begins.head) (begins.rest ++ more)
      ∙ (tagged_second kind (place + length begins.head) begins.rest more wanted begins.is_rest
      ∙ ends_at kind place front begins.head begins.rest more begins.whole)))

  -- ---- the message

  elements_read : (bytes more : List ℕ) (whole : Whole) (m : IsMessage rules bytes whole) → let s = m.spelled in
      protected_head rules whole.headers.kind (protected_at s) (s.protected ++ (s.unprotected ++ (s.payload ++ (s.auth ++ more)))) ≡ settled (headers_so_far whole.headers whole.payload) (rules.finish (record {
        headers = whole.headers;
        chosen = whole.chosen;
        payload = whole.payload;
        auth = whole.auth;
        auth_at = auth_at s;
        taken = auth_at s + length s.auth;
      }))
  elements_read bytes more whole m =
      let s = m.spelled in let headers = whole.headers in
      protected_read headers (protected_at s) s.protected (s.unprotected ++ (s.payload ++ (s.auth ++ more))) m.protected m.protected_fits m.protected_read
      ∙ (unprotected_read headers (unprotected_at s) m.bucket s.unprotected (s.payload ++ (s.auth ++ more)) m.unprotected m.unprotected_fits m.unprotected_nests m.unprotected_read
      ∙ (headers_read headers whole.chosen (payload_at s) (s.payload ++ (s.auth ++ more)) m.together m.chosen
      ∙ (payload_read headers whole.chosen whole.payload (payload_at s) s.payload (s.auth ++ more) m.payload m.payload_comes m.payload_fits
      ∙ auth_read headers whole.chosen whole.payload whole.auth (auth_at s) s.auth more m.auth m.auth_fits)))

  pub message_read : (bytes more : List ℕ) (whole : Whole) → IsMessage rules bytes whole → message rules (bytes ++ more) ≡ settled (headers_so_far whole.headers whole.payload) (rules.finish whole)
  unfolding message
  message_read bytes more whole m =
      let s = m.spelled in
      let rest : List ℕ = s.protected ++ (s.unprotected ++ (s.payload ++ (s.auth ++ more))) in
      let begin : first_head rules 0 (bytes ++ more) ≡ first_head rules 0 (s.front ++ rest) = ap (first_head rules 0) (ap (λ (bytes : List ℕ). bytes ++ more) m.is ∙ all_apart s more) in
      let front : first_head rules 0 (s.front ++ rest) ≡ protected_head rules whole.headers.kind (length s.front) rest =
      front_read whole.headers.kind 0 s.front rest m.front ∙ ap (λ (place : ℕ). protected_head rules whole.headers.kind place rest) (zero-add (length s.front)) in
      let end : auth_at s + length s.auth ≡ whole.taken = sym (m.ends ∙ (ap length m.is ∙ spelled_length s)) in
      let same : settled (headers_so_far whole.headers whole.payload) (rules.finish (record {
        headers = whole.headers;
        chosen = whole.chosen;
        payload = whole.payload;
        auth = whole.auth;
        auth_at = auth_at s;
        taken = auth_at s + length s.auth;
      })) ≡ settled (headers_so_far whole.headers whole.payload) (rules.finish whole) =
      ap (λ (at : ℕ). settled (headers_so_far whole.headers whole.payload) (rules.finish (record whole { auth_at = at; taken = auth_at s + length s.auth }))) (sym m.auth_place)
      ∙ ap (λ (end : ℕ). settled (headers_so_far whole.headers whole.payload) (rules.finish (record whole { taken = end }))) end in
      begin ∙ (front ∙ (elements_read bytes more whole m ∙ same))

-- ---- as one item

-- The four elements of an array, one after another.
elements_spelled : (s : Spellings) (protected : List ℕ) (bucket payload : Item) (auth : List ℕ) → Spells s.protected (byte_string protected) → Spells s.unprotected bucket → Spells s.payload payload → Spells s.auth (byte_string auth)
    → SpellsAll (s.protected ++ (s.unprotected ++ (s.payload ++ s.auth))) (item (byte_string protected) (item bucket (item payload (item (byte_string auth) no_items))))
unfolding SpellsAll
elements_spelled s protected bucket payload auth first second third fourth = (
  s.protected,
  s.unprotected ++ (s.payload ++ s.auth),
  refl,
  first,
  (
    s.unprotected,
    s.payload ++ s.auth,
    refl,
    second,
    (
      s.payload,
      s.auth,
      refl,
      third,
      (s.auth, [], sym (append-nil s.auth), fourth, refl),
    ),
  ),
)

array_spelled : (front rest protected : List ℕ) (bucket payload : Item) (auth : List ℕ) → IsArrayOfFour front → SpellsAll rest (item (byte_string protected) (item bucket (item payload (item (byte_string auth) no_items))))
    → Spells (front ++ rest) (four_elements protected bucket payload auth)
unfolding Spells
array_spelled front rest protected bucket payload auth is elements = record { head = front; rest = rest; whole = refl; is_head = is; is_rest = elements }

tag_spelled : (number : ℕ) (front rest : List ℕ) (content : Item) (IsInner : List ℕ → Type 0) → Begins front 6 number IsInner → ((inner : List ℕ) → IsInner inner → Spells (inner ++ rest) content) → Spells (front ++ rest) (tag number content)
unfolding Spells
tag_spelled number front rest content IsInner b inner = record {
  head = b.head;
  rest = b.rest ++ rest;
  whole = ap (λ (bytes : List ℕ). bytes ++ rest) b.whole ∙ append_assoc b.head b.rest rest;
  is_head = b.is_head;
  is_rest = inner b.rest b.is_rest;
}

front_spelled : (rules : Rules) (kind : Kind) (front rest : List ℕ) (elements : Item) → ((array : List ℕ) → IsArrayOfFour array → Spells (array ++ rest) elements) → IsFront rules kind front → SpellsMessage (front ++ rest) kind elements
front_spelled rules kind front rest elements array (untagged wanted is) = bare (array front is)
front_spelled rules kind front rest elements array (tagged wanted begins) = in_tag (tag_spelled (tag_number kind) front rest elements IsArrayOfFour begins array)
front_spelled rules kind front rest elements array (in_cwt admitted wanted begins) =
    in_cwt_tag (tag_spelled 61 front rest (tag (tag_number kind) elements) (λ inner. Begins inner 6 (tag_number kind) IsArrayOfFour) begins
    (λ inner tagged. tag_spelled (tag_number kind) inner rest elements IsArrayOfFour tagged array))

pub message_is_array_of_four : (rules : Rules) (bytes : List ℕ) (whole : Whole) (m : IsMessage rules bytes whole) → SpellsMessage bytes whole.headers.kind (four_elements whole.headers.protected m.bucket (payload_element rules.source whole.payload) whole.auth)
message_is_array_of_four rules bytes whole m =
    let payload : Item = payload_element rules.source whole.payload in
    let s = m.spelled in
    let rest : List ℕ = s.protected ++ (s.unprotected ++ (s.payload ++ s.auth)) in
    let elements : Item = four_elements whole.headers.protected m.bucket payload whole.auth in
    let all = elements_spelled s whole.headers.protected m.bucket payload whole.auth m.protected m.unprotected m.payload m.auth in
    let spelled : SpellsMessage (s.front ++ rest) whole.headers.kind elements =
    front_spelled rules whole.headers.kind s.front rest elements (λ array is. array_spelled array rest whole.headers.protected m.bucket payload whole.auth is all) m.front in
    subst (λ (bytes : List ℕ). SpellsMessage bytes whole.headers.kind elements) (sym m.is) spelled
