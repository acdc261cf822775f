-- A key longer than a block, and its digest as a key.
use Rattle.std.proofs.Common.{◌≡◌, ◌<◌, ◌-◌, ◌∙◌, ℕ, List, ◌++◌, length, take, replicate, refl, sym, ap}
use Rattle.std.proofs.lemmas.Bool.{lt-ltb}
use Rattle.cose_head.specs.Algorithm.{hash_of, auth_length_of}
use Rattle.cose_head.specs.declared.algorithm.Alg.{Alg}
use Rattle.cose_head.specs.declared.algorithm.Hash.{Hash}
use Rattle.cose_head.specs.declared.algorithm.Hash.TheVariants.{Sha256, Sha384, Sha512}
use Rattle.cose_mac.proofs.HashLemmas.{length_digest}
use Rattle.cose_mac.specs.Hash.{function_of, function_of_algorithm, digest_of}
use Rattle.cose_mac.specs.Hmac.{fitting_key, key_block, xor_pad, ipad, opad, hmac, mac}
use Rattle.cose_mac.specs.Laws.{MacsOfLongKey, RunningOfLongKey, EndsOfLongKey}
use Rattle.cose_mac.specs.Running.{FedMac}
use Rattle.cose_mac.specs.declared.running.Running.{Running}

-- No digest is longer than a block, so it is not hashed.
fitting_key-digest : (hash : Hash) (key : List ℕ) → fitting_key (function_of hash) ((function_of hash).digest key) ≡ (function_of hash).digest key
fitting_key-digest Sha256 key = rw (length_digest Sha256 key) refl
fitting_key-digest Sha384 key = rw (length_digest Sha384 key) refl
fitting_key-digest Sha512 key = rw (length_digest Sha512 key) refl

fitting_key-long : (hash : Hash) (key : List ℕ) → (function_of hash).block_length < length key → fitting_key (function_of hash) key ≡ (function_of hash).digest key
fitting_key-long hash key long = rw (lt-ltb _ _ long) refl

key_block-digest : (hash : Hash) (key : List ℕ) → (function_of hash).block_length < length key → key_block (function_of hash) ((function_of hash).digest key) ≡ key_block (function_of hash) key
unfolding key_block
key_block-digest hash key long =
    let same : fitting_key (function_of hash) ((function_of hash).digest key) ≡ fitting_key (function_of hash) key =
    fitting_key-digest hash key ∙ sym (fitting_key-long hash key long) in
    ap (λ (fitting : List ℕ). fitting ++ replicate ((function_of hash).block_length - length fitting) 0) same

hmac-digest : (hash : Hash) (key text : List ℕ) → (function_of hash).block_length < length key → hmac (function_of hash) ((function_of hash).digest key) text ≡ hmac (function_of hash) key text
unfolding hmac
hmac-digest hash key text long =
    let of_block : List ℕ → List ℕ = λ k. (function_of hash).digest (xor_pad k opad ++ (function_of hash).digest (xor_pad k ipad ++ text)) in
    ap of_block (key_block-digest hash key long)

pub mac-digest : MacsOfLongKey
unfolding mac digest_of
mac-digest alg key message long = ap (take (auth_length_of alg)) (hmac-digest (hash_of alg) key message long)

FedMac-same : (running : Running) (alg : Alg) (key other message : List ℕ) → key_block (function_of_algorithm alg) key ≡ key_block (function_of_algorithm alg) other → FedMac running alg key message → FedMac running alg other message
FedMac-same running alg key other message same fed = record {
  algorithm = fed.algorithm;
  mac_algorithm = fed.mac_algorithm;
  is_mac = fed.is_mac;
  outer = rw same at fed.outer;
  held = rw same at fed.held;
}

pub FedMac-digest : RunningOfLongKey
unfolding digest_of
FedMac-digest alg key message long running =
    let same = key_block-digest (hash_of alg) key long in
    (FedMac-same running alg key _ message (sym same), FedMac-same running alg _ key message same)

pub ends-digest : EndsOfLongKey
ends-digest alg key message long one other fed fed_other first second is_first is_second =
    is_first alg key message fed ∙ sym (mac-digest alg key message long) ∙ sym (is_second alg _ message fed_other)
