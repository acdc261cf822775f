-- What a request requires of the claims of a token, and the line of a requirement that isn't met.
use Rattle.std.specs.Prelude.{ℕ, ℤ, List, ◌++◌, Option, option_map, is_some, codes, drop, map, take}
use Rattle.std.specs.Fmt.{decimal}
use Rattle.std.specs.Char.{to_ascii_uppercase}
use Rattle.cose_cwt.specs.declared.requirements.Claim.{Claim}
use Rattle.cose_cwt.specs.declared.requirements.Requirement.{Requirement}
use Rattle.cose_cwt.specs.declared.requirements.Requirement.TheVariants.{Present, Issuer, Subject, Audience, Lifetime, Age, Issued}
use Rattle.cose_cwt.specs.declared.requirements.Unmet.{Unmet}
use Rattle.cose_cwt.specs.Claims.Audience.{text_value}
use Rattle.cose_cwt.specs.Requirements.{RequirementsValue, name_of}
use Rattle.cose_answers.specs.declared.required.Required.{Required}

-- ---- what is required

-- What is required at this time, with this leeway, where the claims that have to be present are known. Where the greatest
-- age is stated, iat must not be in the future either.
abbrev pub required_at : ℤ → ℕ → List Claim → Option (List ℕ) → Option (List ℕ) → Option (List ℕ) → Option ℕ → Option ℕ → RequirementsValue
required_at now leeway present iss sub aud lifetime age = record {
  now = now;
  leeway = leeway;
  present = present;
  iss = iss;
  sub = sub;
  aud = aud;
  lifetime = lifetime;
  age = age;
  issued = is_some age;
}

abbrev pub requirements_for : ℤ → ℕ → Required → RequirementsValue
requirements_for now leeway required =
    required_at now leeway required.present.items (option_map text_value required.iss) (option_map text_value required.sub) (option_map text_value required.aud)
    required.lifetime required.age

-- ---- the line

-- `Present`, and the claim's name with its first letter in upper case.
abbrev pub presence_word : Claim → List ℕ
presence_word claim = codes "Present" ++ map to_ascii_uppercase (take 1 (name_of claim)) ++ drop 1 (name_of claim)

abbrev pub requirement_word : Requirement → List ℕ
requirement_word (Present claim) = presence_word claim
requirement_word Issuer = codes "Issuer"
requirement_word Subject = codes "Subject"
requirement_word Audience = codes "Audience"
requirement_word Lifetime = codes "Lifetime"
requirement_word Age = codes "Age"
requirement_word Issued = codes "Issued"

-- The place is relative to the payload, as that of refused claims is.
abbrev pub unmet_line : Unmet → List ℕ
unmet_line unmet = codes "refused policy " ++ requirement_word unmet.requirement ++ codes " at " ++ decimal unmet.place ++ codes "\n"
