-- An array of four elements in tags that are allowed is a message, where its elements are good.
use Rattle.std.proofs.Common.{◌≡◌, ℕ, List, ◌++◌, refl, sym, ap, ◌∙◌, append_assoc}
use Rattle.std.proofs.lemmas.List.{append-nil}
use Rattle.cose_head.specs.Item.{Item, byte_string, Begins, Spells, SpellsAll}
use Rattle.cose_msg.specs.Answer.{Whole}
use Rattle.cose_msg.specs.Grammar.{IsArrayOfFour, IsFront, IsMessage, Spellings, bare, in_tag, in_cwt_tag, untagged, tagged, in_cwt, tag_number, payload_element, four_elements}
use Rattle.cose_msg.specs.GrammarLaws.{AreGood, AreParts, ArrayOfFourIsMessage}
use Rattle.cose_msg.specs.Rules.{Rules}

append_assoc_back : (a b c : List ℕ) → a ++ (b ++ c) ≡ (a ++ b) ++ c
append_assoc_back a b c = sym (append_assoc a b c)

abbrev elements_of : Whole → Item → Item → Item
elements_of whole bucket payload = four_elements whole.headers.protected bucket payload whole.auth

-- The four elements after the array's head, whatever precedes that head.
record Four (bytes : List ℕ) (whole : Whole) (bucket element : Item) : Type 0 where
  head : List ℕ
  protected : List ℕ
  unprotected : List ℕ
  payload : List ℕ
  auth : List ℕ
  is_head : IsArrayOfFour head
  is : bytes ≡ head ++ (protected ++ (unprotected ++ (payload ++ auth)))
  spells_protected : Spells protected (byte_string whole.headers.protected)
  spells_unprotected : Spells unprotected bucket
  spells_payload : Spells payload element
  spells_auth : Spells auth (byte_string whole.auth)

four_of : (bytes : List ℕ) (whole : Whole) (bucket element : Item) → Spells bytes (elements_of whole bucket element) → Four bytes whole bucket element
unfolding Spells SpellsAll
four_of bytes whole bucket element array =
    let (one, after_one, is_one, spells_one, others) = array.is_rest in
    let (two, after_two, is_two, spells_two, last_two) = others in
    let (three, after_three, is_three, spells_three, last_one) = last_two in
    let (four, after_four, is_four, spells_four, ends) = last_one in
    let last : after_three ≡ four = is_four ∙ rw ends (append-nil four) in
    record {
      head = array.head;
      protected = one;
      unprotected = two;
      payload = three;
      auth = four;
      is_head = array.is_head;
      is = array.whole ∙ ap (λ (rest : List ℕ). array.head ++ rest) (is_one ∙ ap (λ (rest : List ℕ). one ++ rest) (is_two ∙ ap (λ (rest : List ℕ). two ++ rest) (is_three ∙ ap (λ (rest : List ℕ). three ++ rest) last)));
      spells_protected = spells_one;
      spells_unprotected = spells_two;
      spells_payload = spells_three;
      spells_auth = spells_four;
    }

message_of : (rules : Rules) (bytes : List ℕ) (whole : Whole) (bucket : Item) (spelled : Spellings) → AreParts rules bytes whole bucket spelled → AreGood rules bytes whole bucket spelled → IsMessage rules bytes whole
message_of rules bytes whole bucket spelled parts good = record {
  spelled = spelled;
  is = parts.is;
  front = parts.front;
  protected = parts.protected;
  protected_fits = good.protected_fits;
  protected_read = good.protected_read;
  bucket = bucket;
  unprotected = parts.unprotected;
  unprotected_fits = good.unprotected_fits;
  unprotected_nests = good.unprotected_nests;
  unprotected_read = good.unprotected_read;
  together = good.together;
  chosen = good.chosen;
  payload = parts.payload;
  payload_comes = good.payload_comes;
  payload_fits = good.payload_fits;
  auth = parts.auth;
  auth_fits = good.auth_fits;
  auth_place = good.auth_place;
  ends = good.ends;
}

parts_of : {within : List ℕ} (rules : Rules) (bytes : List ℕ) (whole : Whole) (bucket : Item) (front : List ℕ) (four : Four within whole bucket (payload_element rules.source whole.payload)) → IsFront rules whole.headers.kind front
    → bytes ≡ front ++ (four.protected ++ (four.unprotected ++ (four.payload ++ four.auth)))
    → (spelled : Spellings) × AreParts rules bytes whole bucket spelled × (AreGood rules bytes whole bucket spelled → IsMessage rules bytes whole)
parts_of rules bytes whole bucket front four is_front is =
    let spelled : Spellings = record { front = front; protected = four.protected; unprotected = four.unprotected; payload = four.payload; auth = four.auth } in
    let parts : AreParts rules bytes whole bucket spelled = record {
      is = is;
      front = is_front;
      protected = four.spells_protected;
      unprotected = four.spells_unprotected;
      payload = four.spells_payload;
      auth = four.spells_auth;
    } in
    (spelled, parts, message_of rules bytes whole bucket spelled parts)

pub array_of_four_is_message : ArrayOfFourIsMessage
unfolding Spells
array_of_four_is_message rules bytes whole bucket (bare array) allowed =
    let four = four_of bytes whole bucket (payload_element rules.source whole.payload) array in
    parts_of rules bytes whole bucket four.head four (untagged allowed four.is_head) four.is
array_of_four_is_message rules bytes whole bucket (in_tag message) allowed =
    let four = four_of message.rest whole bucket (payload_element rules.source whole.payload) message.is_rest in
    let front : Begins (message.head ++ four.head) 6 (tag_number whole.headers.kind) IsArrayOfFour = record { head = message.head; rest = four.head; whole = refl; is_head = message.is_head; is_rest = four.is_head } in
    parts_of rules bytes whole bucket (message.head ++ four.head) four (tagged allowed front)
    (message.whole ∙ ap (λ (rest : List ℕ). message.head ++ rest) four.is ∙ append_assoc_back message.head four.head _)
array_of_four_is_message rules bytes whole bucket (in_cwt_tag token) allowed =
    let message = token.is_rest in
    let four = four_of message.rest whole bucket (payload_element rules.source whole.payload) message.is_rest in
    let own : Begins (message.head ++ four.head) 6 (tag_number whole.headers.kind) IsArrayOfFour = record { head = message.head; rest = four.head; whole = refl; is_head = message.is_head; is_rest = four.is_head } in
    let front : Begins (token.head ++ (message.head ++ four.head)) 6 61 (λ rest. Begins rest 6 (tag_number whole.headers.kind) IsArrayOfFour) = record { head = token.head; rest = message.head ++ four.head; whole = refl; is_head = token.is_head; is_rest = own } in
    parts_of rules bytes whole bucket (token.head ++ (message.head ++ four.head)) four (in_cwt allowed.0 allowed.1 front)
    (token.whole ∙ ap (λ (rest : List ℕ). token.head ++ rest) (message.whole ∙ ap (λ (rest : List ℕ). message.head ++ rest) four.is ∙ append_assoc_back message.head four.head _) ∙ append_assoc_back token.head (message.head ++ four.head) _)
