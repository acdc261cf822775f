-- What a block that makes a COSE_Sign1 holds once its payload has ended.
use Rattle.std.proofs.Common.{◌≡◌, ℕ, List, length, Option, None, Some, ap, ◌∙◌}
use Rattle.cose_head.specs.declared.algorithm.Alg.{Alg}
use Rattle.cose_msg.specs.declared.make.sign1_maker.Unsigned.{Unsigned}
use Rattle.cose_msg.specs.Signing.{IsToBeSigned}
use Rattle.cose_c.specs.declared.held.signer.Signing.{Signing}
use Rattle.cose_c.specs.declared.held.signer.Signing.TheVariants as states
use Rattle.cose_c.specs.Sign.{SignsIn}

-- What lacks its signature alone is to be signed.
pub to_sign : {held : Option Signing} {state : Signing} {unsigned : Unsigned} → held ≡ Some state → state ≡ states.Signature unsigned → (alg : Alg) (aad payload : List ℕ) → SignsIn alg aad (length payload) payload held → (length payload ≡ length payload) × IsToBeSigned alg aad payload unsigned
to_sign {held} {state} {unsigned} is state_is alg aad payload signs =
    let whole : held ≡ Some (states.Signature unsigned) = is ∙ ap Some state_is in
    rw whole at signs

-- A block without a message makes none.
pub makes_none : {held : Option Signing} → held ≡ None → (alg : Alg) (aad payload : List ℕ) → SignsIn alg aad (length payload) payload held → ⊥
makes_none is alg aad payload signs = rw is at signs
