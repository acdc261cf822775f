use Rattle.std.proofs.Common.{◌≡◌, ◌++◌, length, ◌∙◌, ap, subst, append-nil}
use Rattle.cose_mac.proofs.HmacLemmas.{length_mac}
use Rattle.cose_head.specs.Algorithm.{hash_of}
use Rattle.cose_mac.specs.Hash.{function_of}
use Rattle.cose_mac.specs.Hasher.{Holds}
use Rattle.cose_mac.specs.Running.{HoldsSome}
use Rattle.cose_mac.specs.Hmac.{key_block, xor_pad, ipad, opad, hmac, mac}
use Rattle.cose_mac.proofs.running.Running.mac_so_far.Goals as goal

pub returns-clause-value : goal.returns-clause-value
unfolding mac hmac
returns-clause-value c alg key message fed =
    let k = key_block (function_of (hash_of alg)) key in
    let inner : c.digest_with-inner.result.items ≡ (function_of (hash_of alg)).digest (xor_pad k ipad ++ message) =
    c.digest_with-inner.ensures (hash_of alg) (xor_pad k ipad ++ message) fed.held ∙ ap (function_of (hash_of alg)).digest (append-nil (xor_pad k ipad ++ message)) in
    let outer : Holds (hash_of alg) c.in-Some.outer (xor_pad k opad) = subst (λ o. HoldsSome (hash_of alg) o (xor_pad k opad)) c.in-Some.is fed.outer in
    let whole : c.digest_with-mac.result.items ≡ hmac (function_of (hash_of alg)) key message = c.digest_with-mac.ensures (hash_of alg) (xor_pad k opad) outer
    ∙ ap (λ bytes. (function_of (hash_of alg)).digest (xor_pad k opad ++ bytes)) (c.deref.ensures.0 ∙ inner) in
    cc

pub returns-clause-length : goal.returns-clause-length
returns-clause-length c alg key message fed =
    ap length (returns-clause-value c alg key message fed) ∙ length_mac alg key message fed.mac_algorithm
