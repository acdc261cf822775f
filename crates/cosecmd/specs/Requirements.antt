-- What the options of `cwt` require of the claims of a token.
use Rattle.std.specs.Prelude.{◌≡◌, ℕ, ℤ, Bool, true, false, List, [], ◌∷◌, ◌++◌, Option, Some, None, option_and_then, option_map, unwrap_or, is_some, ◌&&◌, not, codes}
use Rattle.clap.specs.Walk.{Text, all_of}
use Rattle.cose_cwt.specs.declared.requirements.Claim.{Claim}
use Rattle.cose_cwt.specs.declared.requirements.Claim.TheVariants.{Aud}
use Rattle.cose_cwt.specs.Claims.Audience.{text_value}
use Rattle.cose_cwt.specs.Requirements.{RequirementsValue, claim_named}
use Rattle.cose_answers.specs.Requirements.{required_at}
use Rattle.cose_answers.specs.declared.required.Required.{Required}
use Rattle.cosecmd.specs.Options.{Options, flag_in, number_in, text_in}

-- The claims of all these names, unless one of them is the name of no claim.
abbrev pub and_named : Option Claim → Option (List Claim) → Option (List Claim)
and_named claim claims = option_and_then (λ first. option_map (λ others. first ∷ others) claims) claim

abbrev pub claims_named : List Text → Option (List Claim)
claims_named [] = Some []
claims_named (name ∷ names) = and_named (claim_named name) (claims_named names)

-- The arguments of an option that may be there several times, in their order.
abbrev pub texts_in : Text → Options → List Text
texts_in name options = unwrap_or (all_of name options) []

-- With `--require-aud` a token has to name the audience of `--aud`. Without `--aud` it has to name any: aud is present.
abbrev pub audience_required : Bool → Option Text → Option Text
audience_required true aud = aud
audience_required false aud = None

abbrev pub wants_any_audience : Options → Bool
wants_any_audience options = flag_in (codes "require-aud") options && not (is_some (text_in (codes "aud") options))

-- The claims that have to be present: those of `--require`, in their order, and then aud where any audience has to be named.
abbrev pub with_audience : Bool → List Claim → List Claim
with_audience true claims = claims ++ Aud ∷ []
with_audience false claims = claims

abbrev pub present_in : Options → Option (List Claim)
present_in options = option_map (with_audience (wants_any_audience options)) (claims_named (texts_in (codes "require") options))

abbrev pub requirements_with : ℤ → ℕ → Options → List Claim → RequirementsValue
requirements_with now leeway options present =
    required_at now leeway present (text_in (codes "iss") options) (text_in (codes "sub") options)
    (audience_required (flag_in (codes "require-aud") options) (text_in (codes "aud") options))
    (number_in (codes "max-lifetime") options) (number_in (codes "max-age") options)

abbrev pub requirements_in : ℤ → ℕ → Options → Option RequirementsValue
requirements_in now leeway options = option_map (requirements_with now leeway options) (present_in options)

-- What the arguments require, each field the value of the option of its name.
pub record RequiredFields (options : Options) (required : Required) : Type 0 where
  pub present : present_in options ≡ Some required.present.items
  pub iss : option_map text_value required.iss ≡ text_in (codes "iss") options
  pub sub : option_map text_value required.sub ≡ text_in (codes "sub") options
  pub aud : option_map text_value required.aud ≡ audience_required (flag_in (codes "require-aud") options) (text_in (codes "aud") options)
  pub lifetime : required.lifetime ≡ number_in (codes "max-lifetime") options
  pub age : required.age ≡ number_in (codes "max-age") options
