-- What the options of `cwt` require, on examples, by computing.
use Rattle.std.specs.Prelude.{◌≡◌, pos, List, [], ◌∷◌, Some, None, codes, refl}
use Rattle.clap.specs.Walk.{Row, Text}
use Rattle.cose_cwt.specs.declared.requirements.Claim.TheVariants.{Iss, Sub, Aud, Exp, Nbf, Iat, Cti}
use Rattle.cosecmd.specs.Requirements.{claims_named, present_in, requirements_in}
use Rattle.cose_answers.specs.Requirements.{required_at}
use Rattle.cose_answers.proofs.WorkedAdmitted.{nothing}
use Rattle.cosecmd.proofs.WorkedOptions.{given, number}

-- An option that is there several times.
abbrev several : Text → List Text → Row
several name arguments = record (given name []) { values = arguments }

abbrev flag : Text → Row
flag name = given name (codes "true")

none_stated : requirements_in (pos 9) 5 [] ≡ Some (nothing 9 5)
none_stated = refl

-- Claims are required in the order of their options.
two_claims : present_in (several (codes "require") (codes "exp" ∷ codes "iss" ∷ []) ∷ []) ≡ Some (Exp ∷ Iss ∷ [])
two_claims = refl

all_claims : claims_named (codes "iss" ∷ codes "sub" ∷ codes "aud" ∷ codes "exp" ∷ codes "nbf" ∷ codes "iat" ∷ codes "cti" ∷ []) ≡
    Some (Iss ∷ Sub ∷ Aud ∷ Exp ∷ Nbf ∷ Iat ∷ Cti ∷ [])
all_claims = refl

no_claim : claims_named (codes "exp" ∷ codes "cnf" ∷ []) ≡ None
no_claim = refl

no_claim_in_capitals : claims_named (codes "EXP" ∷ []) ≡ None
no_claim_in_capitals = refl

-- Any audience has to be named, or the one of `--aud`.
any_audience : present_in (several (codes "require") (codes "exp" ∷ []) ∷ flag (codes "require-aud") ∷ []) ≡ Some (Exp ∷ Aud ∷ [])
any_audience = refl

all_stated : requirements_in (pos 9) 5 (given (codes "iss") (codes "a") ∷ given (codes "sub") (codes "b") ∷ given (codes "aud") (codes "c") ∷ flag (codes "require-aud")
    ∷ number (codes "max-lifetime") (codes "7") ∷ number (codes "max-age") (codes "+08") ∷ [])
    ≡ Some (required_at (pos 9) 5 [] (Some (codes "a")) (Some (codes "b")) (Some (codes "c")) (Some 7) (Some 8))
all_stated = refl

-- Without `--require-aud` the audience is a matter of the policy alone.
audience_of_the_policy : requirements_in (pos 9) 5 (given (codes "aud") (codes "c") ∷ given (codes "require-aud") (codes "false") ∷ []) ≡ Some (nothing 9 5)
audience_of_the_policy = refl
