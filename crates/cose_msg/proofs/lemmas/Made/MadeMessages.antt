-- What is made is a message, and authentic.
use Rattle.std.proofs.Common.{◌≡◌, ℕ, ◌-◌, ◌^◌, ◌<◌, ◌≤◌, true, false, List, [], ◌∷◌, ◌++◌, length, Option, Some, None, refl, sym, ap, subst, arith, length-append, ltb}
use Rattle.std.specs.Prelude.{Ok}
use Rattle.std.proofs.lemmas.Bool.{eq-eqb, le-ltb, lt-leb, ltb-true}
use Rattle.std.proofs.lemmas.List.{append-nil, take_at}
use Rattle.std.proofs.lemmas.Slice.Eq.{bytes_eq-Decides}
use Rattle.cose_head.specs.Algorithm.{auth_length_of, is_mac_of, algorithm_number}
use Rattle.cose_head.specs.Head.{shortest_head}
use Rattle.cose_head.specs.Item.{byte_string, depth_of, tag}
use Rattle.cose_head.specs.Shortest.{shortest, shortest_all, HasShortest}
use Rattle.cose_head.specs.declared.algorithm.Alg.{Alg}
use Rattle.cose_head.specs.declared.kind.Kind.{Kind}
use Rattle.cose_head.specs.declared.kind.Kind.TheVariants.{Mac0, Sign1}
use Rattle.cose_head.proofs.lemmas.Algorithms.{each_algorithm, numbered}
use Rattle.cose_mac.specs.Laws.{MacHasItsLength}
use Rattle.cose_mac.specs.Structure.{structure_of}
use Rattle.cose_map.specs.Choice.{chosen}
use Rattle.cose_map.specs.Key.Value.{KeyValue}
use Rattle.cose_msg.specs.declared.verdict.Verdict.TheVariants.{Authentic}
use Rattle.cose_msg.specs.Answer.{Chosen, Headers, Whole, decided}
use Rattle.cose_msg.specs.Authentic.{authentication_holds, IsAuthentic}
use Rattle.cose_msg.specs.Front.{wants_kind}
use Rattle.cose_msg.specs.Grammar.{IsFront, four_elements, tag_number, tagged, Spellings, spelling, unprotected_at, payload_at, auth_at, IsMessage}
use Rattle.cose_msg.specs.Making.{made, protected_made, unprotected_made, auth_made}
use Rattle.cose_msg.specs.Signing.{signed}
use Rattle.cose_msg.specs.Source.{attached}
use Rattle.cose_msg.specs.MakingLaws.{Admits, AdmitsSigned, MadeIsAuthentic, SignedIsAuthentic, question_asked}
use Rattle.cose_msg.specs.Message.{Decides, Setting, key_choice_of, structure, tag_of, uncompared, verdict_of}
use Rattle.cose_msg.specs.Phases.{is_too_long}
use Rattle.cose_msg.proofs.lemmas.Spelling.Authentications.{message_is_authentic}
use Rattle.cose_msg.proofs.lemmas.Made.MadeHeaders.{chosen_is_mac, chosen_is_signing, protected_length, kid_length, KidIsShort, headers_made, good_together, protected_bucket, unprotected_bucket, asks}
use Rattle.cose_msg.proofs.lemmas.Spelling.Spelled.{one_byte_head}
use Rattle.cose_msg.proofs.lemmas.Made.SpelledBuckets.{ShortestLaws}

-- The laws of spellings and of MACs that these proofs cite.
pub record MadeLaws : Type 0 where
  pub shortest : ShortestLaws
  pub mac : MacHasItsLength

-- ---- the parts

-- A message of a kind, in its shortest spelling, with these bytes as its tag or signature.
unfoldable message_of : Kind → Alg → Option (List ℕ) → List ℕ → List ℕ → List ℕ
message_of kind alg kid payload auth = shortest (tag (tag_number kind) (four_elements (protected_made alg) (unprotected_made kid) (byte_string payload) auth))

-- The tag's head, and the head of an array of four.
abbrev front_bytes : Kind → List ℕ
front_bytes Mac0 = 0xd1 ∷ 0x84 ∷ []
front_bytes Sign1 = 0xd2 ∷ 0x84 ∷ []

abbrev made_spellings : Kind → Alg → Option (List ℕ) → List ℕ → List ℕ → Spellings
made_spellings kind alg kid payload auth = record {
  front = front_bytes kind;
  protected = shortest (byte_string (protected_made alg));
  unprotected = shortest (unprotected_made kid);
  payload = shortest (byte_string payload);
  auth = shortest (byte_string auth);
}

made_is_spelled : (kind : Kind) (alg : Alg) (kid : Option (List ℕ)) (payload auth : List ℕ) → message_of kind alg kid payload auth ≡ spelling (made_spellings kind alg kid payload auth)
unfolding message_of shortest shortest_all shortest_head
made_is_spelled Mac0 alg kid payload auth =
    ap (λ (last : List ℕ). 0xd1 ∷ 0x84 ∷ (shortest (byte_string (protected_made alg)) ++ (shortest (unprotected_made kid) ++ (shortest (byte_string payload) ++ last)))) (append-nil (shortest (byte_string auth)))
made_is_spelled Sign1 alg kid payload auth =
    ap (λ (last : List ℕ). 0xd2 ∷ 0x84 ∷ (shortest (byte_string (protected_made alg)) ++ (shortest (unprotected_made kid) ++ (shortest (byte_string payload) ++ last)))) (append-nil (shortest (byte_string auth)))

front_is : (room nesting : ℕ) (setting : Setting) (kind : Kind) → wants_kind setting.wanted kind ≡ true → IsFront (uncompared room nesting setting) kind (front_bytes kind)
front_is room nesting setting Mac0 wanted = tagged wanted (record { head = 0xd1 ∷ []; rest = 0x84 ∷ []; whole = refl; is_head = one_byte_head 6 17 (omega arith) (omega arith); is_rest = one_byte_head 4 4 (omega arith) (omega arith) })
front_is room nesting setting Sign1 wanted = tagged wanted (record { head = 0xd2 ∷ []; rest = 0x84 ∷ []; whole = refl; is_head = one_byte_head 6 18 (omega arith) (omega arith); is_rest = one_byte_head 4 4 (omega arith) (omega arith) })

kid_is_short : (kid : Option (List ℕ)) (room : ℕ) → room ≤ 65535 → length (shortest (unprotected_made kid)) ≤ room → KidIsShort kid
kid_is_short None room limit fits = tt
kid_is_short (Some kid) room limit fits = omega (arith, kid_length kid, fits, limit)

unprotected_short : (kid : Option (List ℕ)) → KidIsShort kid → HasShortest (unprotected_made kid)
unfolding HasShortest
unprotected_short None short = (0, omega arith, refl, tt)
unprotected_short (Some kid) short = (1, omega arith, refl, (omega arith, (short, tt)))

unprotected_depth : (kid : Option (List ℕ)) → depth_of (unprotected_made kid) ≡ 1
unfolding depth_of
unprotected_depth None = refl
unprotected_depth (Some kid) = refl

string_short : (content : List ℕ) → length content < 2 ^ 64 → HasShortest (byte_string content)
unfolding HasShortest
string_short content short = short

not_too_long : (limit n : ℕ) → n < 2 ^ 56 → n ≤ limit → is_too_long limit n ≡ false
not_too_long limit n below within = rw (lt-leb (2 ^ 56) n below, le-ltb limit n within) refl

auth_below : (alg : Alg) → auth_length_of alg < 2 ^ 64
auth_below alg = ltb-true (auth_length_of alg) (2 ^ 64) (each_algorithm (λ a. ltb (auth_length_of a) (2 ^ 64)) refl alg)

-- ---- the message

-- It fits the verifier, which wants its kind, and has one key for it, and its tag or signature has the algorithm's length.
record Accepts (room nesting : ℕ) (setting : Setting) (kind : Kind) (alg : Alg) (kid : Option (List ℕ)) (payload auth : List ℕ) : Type 0 where
  pub some_room : 16 ≤ room
  pub limit : room ≤ 65535
  pub nests : 1 ≤ nesting
  pub unprotected_fits : length (shortest (unprotected_made kid)) ≤ room
  pub payload_below : length payload < 2 ^ 56
  pub payload_within : length payload ≤ setting.payload_limit
  pub payload_inside : setting.source ≡ attached
  pub wanted : wants_kind setting.wanted kind ≡ true
  pub key : KeyValue
  pub chosen : chosen (question_asked kind alg kid) setting.keys ≡ Ok (key, algorithm_number alg)
  pub auth_length : length auth ≡ auth_length_of alg

module _ (laws : ShortestLaws) (room nesting : ℕ) (setting : Setting) (kind : Kind) (alg : Alg) (kid : Option (List ℕ)) (payload auth : List ℕ) (h : Accepts room nesting setting kind alg kid payload auth) where
  short_kid : KidIsShort kid
  short_kid = kid_is_short kid room h.limit h.unprotected_fits

  abbrev bytes_made : List ℕ
  bytes_made = message_of kind alg kid payload auth

  abbrev spellings : Spellings
  spellings = made_spellings kind alg kid payload auth

  abbrev found : Chosen
  found = record { key = h.key; alg = alg }

  abbrev headers : Headers
  headers = headers_made kind alg kid (unprotected_at spellings - length (protected_made alg)) (unprotected_at spellings)

  abbrev whole : Whole
  whole = record {
    headers = headers;
    chosen = Some found;
    payload = payload;
    auth = auth;
    auth_at = auth_at spellings;
    taken = length bytes_made;
  }

  key_is_chosen : key_choice_of setting.keys headers ≡ Ok (Some found)
  key_is_chosen =
      rw (asks laws kind alg kid (unprotected_at spellings - length (protected_made alg)) (unprotected_at spellings) short_kid, h.chosen, numbered alg) refl

  is_message : IsMessage (uncompared room nesting setting) bytes_made whole
  is_message = record {
    spelled = spellings;
    is = made_is_spelled kind alg kid payload auth;
    front = front_is room nesting setting kind h.wanted;
    protected = laws.shortest (byte_string (protected_made alg)) (string_short (protected_made alg) (omega (arith, protected_length alg)));
    protected_fits = omega (arith, protected_length alg, h.some_room);
    protected_read = protected_bucket laws nesting (unprotected_at spellings - length (protected_made alg)) alg h.nests;
    bucket = unprotected_made kid;
    unprotected = laws.shortest (unprotected_made kid) (unprotected_short kid short_kid);
    unprotected_fits = h.unprotected_fits;
    unprotected_nests = omega (arith, unprotected_depth kid, h.nests);
    unprotected_read = unprotected_bucket laws nesting (unprotected_at spellings) kid short_kid h.nests;
    together = good_together alg kid (unprotected_at spellings - length (protected_made alg)) (unprotected_at spellings) (payload_at spellings) setting.understood;
    chosen = key_is_chosen;
    payload = rw h.payload_inside (laws.shortest (byte_string payload) (string_short payload (omega (arith, h.payload_below))));
    payload_comes = rw h.payload_inside tt;
    payload_fits = not_too_long setting.payload_limit (length payload) h.payload_below h.payload_within;
    auth = laws.shortest (byte_string auth) (string_short auth (omega (arith, h.auth_length, auth_below alg)));
    auth_fits = eq-eqb (length auth) (auth_length_of alg) h.auth_length;
    auth_place = refl;
    ends = refl;
  }

  is_authentic : (decides : Decides) (more : List ℕ) → authentication_holds setting.aad decides found whole ≡ true → IsAuthentic room nesting setting decides (bytes_made ++ more) kind alg (length payload) (length bytes_made)
  is_authentic decides more holds = record {
    whole = whole;
    found = found;
    within = omega (arith, length-append bytes_made more);
    message = subst (λ (bytes : List ℕ). IsMessage (uncompared room nesting setting) bytes whole) (sym (take_at bytes_made more (length bytes_made) refl)) is_message;
    chosen = refl;
    holds = holds;
    kind_is = refl;
    alg_is = refl;
    payload_is = refl;
    taken_is = refl;
  }

  verdict_is : (decides : Decides) (more : List ℕ) → authentication_holds setting.aad decides found whole ≡ true → verdict_of room nesting setting decides (bytes_made ++ more) ≡ decided (Authentic kind alg (length payload) (length bytes_made))
  verdict_is decides more holds =
      message_is_authentic laws.spelling room nesting setting decides (bytes_made ++ more) kind alg (length payload) (length bytes_made) (is_authentic decides more holds)

-- ---- a COSE_Mac0

module _ (laws : MadeLaws) (room nesting : ℕ) (setting : Setting) (alg : Alg) (secret : List ℕ) (kid : Option (List ℕ)) (payload : List ℕ) (h : Admits room nesting setting alg secret kid payload) where
  is_mac : is_mac_of alg ≡ true
  is_mac = chosen_is_mac alg kid setting.keys (h.key, algorithm_number alg) h.chosen

  abbrev auth : List ℕ
  auth = auth_made alg secret setting.aad payload

  mac_accepted : Accepts room nesting setting Mac0 alg kid payload auth
  mac_accepted = record {
    some_room = h.some_room;
    limit = h.limit;
    nests = h.nests;
    unprotected_fits = h.unprotected_fits;
    payload_below = h.payload_below;
    payload_within = h.payload_within;
    payload_inside = h.payload_inside;
    wanted = h.wanted;
    key = h.key;
    chosen = h.chosen;
    auth_length = laws.mac alg secret (structure_of Mac0 (protected_made alg) setting.aad payload) is_mac;
  }

  abbrev mac_whole : Whole
  mac_whole = whole laws.shortest room nesting setting Mac0 alg kid payload auth mac_accepted

  abbrev mac_found : Chosen
  mac_found = record { key = h.key; alg = alg }

  -- The tag that was made is the one that the tag is compared with.
  tag_is : auth ≡ tag_of setting.aad mac_found mac_whole
  unfolding structure
  tag_is = ap (λ (secret : List ℕ). auth_made alg secret setting.aad payload) (sym h.secret_is)

  tag_holds : (decides : Decides) → authentication_holds setting.aad decides mac_found mac_whole ≡ true
  tag_holds decides = rw is_mac ((bytes_eq-Decides auth (tag_of setting.aad mac_found mac_whole)).1 tag_is)

pub made_is_authentic : MadeLaws → MadeIsAuthentic
unfolding made message_of mac_accepted
made_is_authentic laws room nesting setting decides alg secret kid payload more h =
    verdict_is laws.shortest room nesting setting Mac0 alg kid payload (auth_made alg secret setting.aad payload) (mac_accepted laws room nesting setting alg secret kid payload h) decides more
    (tag_holds laws room nesting setting alg secret kid payload h decides)

-- ---- a COSE_Sign1

module _ (laws : ShortestLaws) (room nesting : ℕ) (setting : Setting) (decides : Decides) (alg : Alg) (kid : Option (List ℕ)) (payload signature : List ℕ) (h : AdmitsSigned room nesting setting decides alg kid payload signature) where
  signed_accepted : Accepts room nesting setting Sign1 alg kid payload signature
  signed_accepted = record {
    some_room = h.some_room;
    limit = h.limit;
    nests = h.nests;
    unprotected_fits = h.unprotected_fits;
    payload_below = h.payload_below;
    payload_within = h.payload_within;
    payload_inside = h.payload_inside;
    wanted = h.wanted;
    key = h.key;
    chosen = h.chosen;
    auth_length = h.signature_length;
  }

  signature_holds : authentication_holds setting.aad decides (record { key = h.key; alg = alg }) (whole laws room nesting setting Sign1 alg kid payload signature signed_accepted) ≡ true
  unfolding structure
  signature_holds = rw (chosen_is_signing alg kid setting.keys (h.key, algorithm_number alg) h.chosen) h.good

pub signed_is_authentic : ShortestLaws → SignedIsAuthentic
unfolding signed message_of signed_accepted
signed_is_authentic laws room nesting setting decides alg kid payload signature more h =
    verdict_is laws room nesting setting Sign1 alg kid payload signature (signed_accepted laws room nesting setting decides alg kid payload signature h) decides more
    (signature_holds laws room nesting setting decides alg kid payload signature h)
