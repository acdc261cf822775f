-- The hash over a structure, from what precedes the payload to the whole.
use Rattle.std.proofs.Common.{◌≡◌, ℕ, Bool, true, List, [], ◌++◌, length, Option, None, Some, refl, sym, ap, subst, ◌∙◌, append_assoc, append-nil}
use Rattle.std.specs.Str.{bytes_eq}
use Rattle.cose_head.specs.declared.kind.Kind.{Kind}
use Rattle.cose_head.specs.Algorithm.{is_mac_of}
use Rattle.cose_mac.specs.Hmac.{mac}
use Rattle.cose_mac.specs.Structure.{structure_front, structure_of}
use Rattle.cose_msg.specs.declared.hashing.Hashing.{Hashing}
use Rattle.cose_msg.specs.Answer.{Chosen, Headers}
use Rattle.cose_msg.specs.Hashing.{Hashes, HashesFor, authenticator}
use Rattle.cose_msg.specs.Message.{compared, judged, protected_content, secret_of, structure}
use Rattle.cose_msg.specs.Reader.{Known, OpenedFor, whole_of}

abbrev pub with_payload : Known → List ℕ → Known
with_payload known payload = record { headers = known.headers; chosen = known.chosen; payload = payload; auth = known.auth }

abbrev pub with_auth : Known → List ℕ → Known
with_auth known auth = record { headers = known.headers; chosen = known.chosen; payload = known.payload; auth = auth }

module _ (aad : List ℕ) (headers : Headers) (payload : List ℕ) (n : ℕ) where
  -- Where the whole payload is there, the whole structure was fed.
  pub opened_whole : (chosen : Option Chosen) (hashing : Hashing) → OpenedFor chosen hashing aad headers payload n → length payload ≡ n → HashesFor hashing chosen (structure aad headers payload)
  opened_whole (Some found) hashing opened whole = subst (λ (message : List ℕ). Hashes hashing found message) (opened.completes payload whole) opened.fed
  opened_whole None hashing opened whole = tt

  -- A piece of the payload was fed.
  pub opened_more : (chosen : Option Chosen) (old new : Hashing) (piece : List ℕ) → ((found : Chosen) (message : List ℕ) → Hashes old found message → Hashes new found (message ++ piece))
      → OpenedFor chosen old aad headers payload n → OpenedFor chosen new aad headers (payload ++ piece) n
  opened_more (Some found) old new piece grows opened = record {
    front = opened.front;
    fed = subst (λ (message : List ℕ). Hashes new found message) (append_assoc opened.front payload piece) (grows found (opened.front ++ payload) opened.fed);
    completes = opened.completes;
  }
  opened_more None old new piece grows opened = tt

  -- What precedes the payload in the structure is fed: the protected header as received, or an empty string where the
  -- bucket is empty.
  pub opened_first : (chosen : Option Chosen) (old new : Hashing) (P : List ℕ) (kind : Kind)
      → ((found : Chosen) (message : List ℕ) → Hashes old found message → Hashes new found (message ++ structure_front kind P aad n))
      → ((found : Chosen) (message all : List ℕ) → Hashes old found message → length all ≡ n → structure_front kind P aad n ++ all ≡ structure_of kind P aad all)
      → payload ≡ [] → headers.kind ≡ kind → protected_content headers ≡ P → HashesFor old chosen [] → OpenedFor chosen new aad headers payload n
  unfolding structure
  opened_first (Some found) old new P kind grows whole none is_kind is_content fed =
      let front = structure_front kind P aad n in
      let no_payload : front ++ payload ≡ front = ap (λ (t : List ℕ). front ++ t) none ∙ append-nil front in
      record {
        front = front;
        fed = subst (λ (message : List ℕ). Hashes new found message) (sym no_payload) (grows found [] fed);
        completes = λ all length. rw (is_kind, is_content) (whole found [] all fed length);
      }
  opened_first None old new P kind grows whole none is_kind is_content fed = tt

-- The hash is finished.
pub finished : (old : Hashing) (message result : List ℕ) (found : Chosen) → ((found : Chosen) (message : List ℕ) → Hashes old found message → result ≡ authenticator found message) → (chosen : Option Chosen) → chosen ≡ Some found → HashesFor old chosen message → result ≡ authenticator found message
finished old message result found finish chosen is fed = finish found message (subst (λ (c : Option Chosen). HashesFor old c message) is fed)

-- The comparison of a tag.
pub tag_compared : (aad : List ℕ) (known : Known) (found : Chosen) (computed : List ℕ) (auth_at taken : ℕ) (same : Bool) → is_mac_of found.alg ≡ true → computed ≡ authenticator found (structure aad known.headers known.payload) → bytes_eq known.auth computed ≡ same
    → compared aad (Some found) (whole_of known auth_at taken) ≡ judged same found (whole_of known auth_at taken)
tag_compared aad known found computed auth_at taken same is_mac is e =
    let tag : computed ≡ mac found.alg (secret_of found.key.material) (structure aad known.headers known.payload) = is ∙ rw is_mac refl in
    rw (is_mac, ← tag, e) refl
