-- What follows the nil of a detached payload.
use Rattle.std.proofs.Common.{◌≡◌, ℕ, List, [], ◌++◌, length, false, Option, refl, sym, ap, ◌∙◌, arith, length-append}
use Rattle.std.specs.Prelude.{nat_lt}
use Rattle.std.proofs.lemmas.Bool.{le-ltb}
use Rattle.std.proofs.lemmas.List.{take_at}
use Rattle.cose_msg.specs.Answer.{Chosen, Headers}
use Rattle.cose_msg.specs.Phases.{auth_head, detached_payload}
use Rattle.cose_msg.specs.Reader.{past_nil}
use Rattle.cose_msg.specs.Rules.{Rules}
use Rattle.cose_msg.specs.Source.{Source, detached, came_of}

-- A source by what has come, and the number that is stated.
pub source_is : (source : Source) (before came : List ℕ) (detached_length : ℕ) → source ≡ detached before detached_length → came_of source ≡ came → source ≡ detached came detached_length
source_is source before came detached_length is comes =
    let same : before ≡ came = sym (ap came_of is) ∙ comes in
    is ∙ ap (λ (t : List ℕ). detached t detached_length) same

-- A payload of no byte is there.
pub nil_empty : (rules : Rules) (headers : Headers) (chosen : Option Chosen) (came : List ℕ) (at after : ℕ) (z : List ℕ) → detached_payload rules headers chosen came 0 at after z ≡ auth_head rules headers chosen [] after z
nil_empty rules headers chosen came at after z = rw (le-ltb (length came) 0 (omega arith)) refl

-- The whole payload is there, whatever comes then.
pub nil_whole : (source : Source) (rules : Rules) (headers : Headers) (chosen : Option Chosen) (B more : List ℕ) (detached_length at after : ℕ) (z : List ℕ) → source ≡ detached (B ++ more) detached_length → length B ≡ detached_length
    → past_nil source rules headers chosen at after z ≡ auth_head rules headers chosen B after z
nil_whole source rules headers chosen B more detached_length at after z is whole =
    let there : nat_lt (length (B ++ more)) detached_length ≡ false = le-ltb _ _ (omega (arith, whole, length-append B more)) in
    rw (is, there, take_at B more detached_length whole) refl
