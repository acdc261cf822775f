-- What follows the payload of a message that is made: a head of at most two bytes, and a MAC of at most 64.
use Rattle.std.proofs.Common.{◌≡◌, ℕ, ◌+◌, ◌≤◌, List, length, refl, ap, ◌∙◌, leb}
use Rattle.std.proofs.lemmas.Bool.{leb-true}
use Rattle.std.proofs.lemmas.List.{length-append}
use Rattle.std.specs.Prelude.{IsTrue}
use Rattle.cose_head.specs.declared.algorithm.Alg.{Alg}
use Rattle.cose_head.specs.Algorithm.{auth_length_of, is_mac_of}
use Rattle.cose_head.specs.Head.{shortest_head}
use Rattle.cose_head.proofs.lemmas.Algorithms.{each_mac}
use Rattle.cose_mac.specs.Laws.{MacHasItsLength}
use Rattle.cose_mac.specs.Structure.{encoded_string}
use Rattle.cose_msg.specs.Making.{auth_made}

lengths : (alg : Alg) → IsTrue (is_mac_of alg) → length (shortest_head 2 (auth_length_of alg)) + auth_length_of alg ≤ 70
unfolding shortest_head
lengths alg is_mac = leb-true _ _ (each_mac (λ a. leb (length (shortest_head 2 (auth_length_of a)) + auth_length_of a) 70) refl alg is_mac)

pub tail_fits : MacHasItsLength → (alg : Alg) → IsTrue (is_mac_of alg) → (secret aad payload : List ℕ) → length (encoded_string 2 (auth_made alg secret aad payload)) ≤ 70
tail_fits law alg is_mac secret aad payload =
    let mac = auth_made alg secret aad payload in
    let count : length mac ≡ auth_length_of alg = law alg secret _ is_mac in
    let whole : length (encoded_string 2 mac) ≡ length (shortest_head 2 (auth_length_of alg)) + auth_length_of alg =
    length-append (shortest_head 2 (length mac)) mac ∙ ap (λ (k : ℕ). length (shortest_head 2 k) + k) count in
    rw whole (lengths alg is_mac)
