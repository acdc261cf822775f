-- What is printed of claims that don't meet what is required, on examples, by computing.
use Rattle.std.specs.Prelude.{◌≡◌, ℕ, pos, List, [], ◌∷◌, Some, None, Ok, codes, refl}
use Prim.Native.String.{String}
use Rattle.std.specs.Fmt.{digits}
use Rattle.std.specs.Str.{is_utf8, chars}
use Rattle.cose_head.specs.Head.{bare_head}
use Rattle.cose_head.specs.Item.{depth_of}
use Rattle.cose_head.specs.Placed.{look, children_of, items_from, head_of_item}
use Rattle.cose_head.specs.Reading.{read, head}
use Rattle.cose_head.specs.declared.algorithm.Alg.TheVariants.{Hmac256}
use Rattle.cose_head.specs.declared.kind.Kind.TheVariants.{Mac0}
use Rattle.cose_map.specs.Key.{key_of}
use Rattle.cose_map.specs.Key.Form.{key_table}
use Rattle.cose_map.specs.Key.Material.{material_of}
use Rattle.cose_map.specs.Map.Read.{check_pairs}
use Rattle.cose_msg.specs.declared.verdict.Verdict.TheVariants.{Authentic}
use Rattle.cose_msg.specs.Answer.{decided}
use Rattle.cose_cwt.specs.declared.requirements.Claim.{Claim}
use Rattle.cose_cwt.specs.declared.requirements.Claim.TheVariants.{Iss, Sub, Aud, Exp, Nbf, Iat, Cti}
use Rattle.cose_cwt.specs.Admission.{admitted, admitted_claims}
use Rattle.cose_cwt.specs.Claims.{ClaimsValue, claims_of, texts_from}
use Rattle.cose_cwt.specs.Claims.Form.{claims_table}
use Rattle.cose_cwt.specs.Confirmation.{confirmation_of, members_table}
use Rattle.cose_cwt.specs.Requirements.{RequirementsValue, met, unmet}
use Rattle.cose_cwt.specs.Token.{of_claims}
use Rattle.cose_answers.specs.declared.reply.Status.TheVariants as statuses
use Rattle.cose_answers.specs.Admitted.{if_admitted, program_policy, token_told}
use Rattle.cose_answers.specs.Printed.{Output, outcome_said}
use Rattle.cose_answers.specs.Requirements.{required_at}
use Rattle.cose_answers.proofs.WorkedAdmitted.{example, example_lines, nothing}
use Rattle.cose_answers.proofs.WorkedPrinted.{briefly, hex, line, Prints}
use Rattle.cose_answers.proofs.WorkedShown.{lines}
use Rattle.hex.specs.Hex.{encode_with}

-- Where nothing is required nothing is unmet.
nothing_unmet : (now leeway : ℕ) (claims : ClaimsValue) → met (nothing now leeway) claims ≡ Ok tt
unfolding unmet
nothing_unmet now leeway claims = refl

-- What is printed for the claims of an authentic message, whatever its audience.
unfoldable asked : RequirementsValue → List ℕ → Output
unfolding unmet admitted claims_of claims_table members_table confirmation_of texts_from key_of key_table material_of check_pairs children_of items_from look head_of_item bare_head read head depth_of is_utf8 chars lib.Utf8.encode digits encode_with
asked r payload = outcome_said briefly (if_admitted r (of_claims (admitted_claims 8 (program_policy r.now r.leeway None) payload)))

abbrev unmet_line : String → Output
unmet_line text = line text statuses.Refused

abbrev requiring : List Claim → RequirementsValue
requiring claims = required_at (pos 0) 0 claims None None None None None

-- Each claim is absent, and then present.
absent_claims : (asked (requiring (Iss ∷ [])) (hex "a0") ≡ unmet_line "refused policy PresentIss at 0")
    × (asked (requiring (Sub ∷ [])) (hex "a0") ≡ unmet_line "refused policy PresentSub at 0")
    × (asked (requiring (Aud ∷ [])) (hex "a0") ≡ unmet_line "refused policy PresentAud at 0")
    × (asked (requiring (Exp ∷ [])) (hex "a0") ≡ unmet_line "refused policy PresentExp at 0")
    × (asked (requiring (Nbf ∷ [])) (hex "a0") ≡ unmet_line "refused policy PresentNbf at 0")
    × (asked (requiring (Iat ∷ [])) (hex "a0") ≡ unmet_line "refused policy PresentIat at 0")
    × (asked (requiring (Cti ∷ [])) (hex "a0") ≡ unmet_line "refused policy PresentCti at 0")
unfolding asked
absent_claims = (refl, refl, refl, refl, refl, refl, refl)

present_claims : Prints (asked (requiring (Exp ∷ Iss ∷ []))) (
    ("a2016161 041864", lines ("admitted" ∷ "iss 61" ∷ "exp 100" ∷ [])) ∷
    ("a1016161", unmet_line "refused policy PresentExp at 0") ∷
    ("a1041864", unmet_line "refused policy PresentIss at 0") ∷
    ("a0", unmet_line "refused policy PresentExp at 0") ∷ [])
unfolding asked
present_claims = refl

-- The issuer and the subject are the ones that are stated.
abbrev by : String → String → RequirementsValue
by issuer subject = required_at (pos 0) 0 [] (Some (codes issuer)) (Some (codes subject)) None None None

names : Prints (asked (by "a" "b")) (
    ("a2016161 026162", lines ("admitted" ∷ "iss 61" ∷ "sub 62" ∷ [])) ∷
    ("a2016162 026162", unmet_line "refused policy Issuer at 2") ∷
    ("a2016161 026161", unmet_line "refused policy Subject at 5") ∷
    ("a201626161 026162", unmet_line "refused policy Issuer at 2") ∷
    ("a1026162", unmet_line "refused policy Issuer at 0") ∷
    ("a1016161", unmet_line "refused policy Subject at 0") ∷ [])
unfolding asked
names = refl

-- The audience is among those of the token.
audiences : Prints (asked (required_at (pos 0) 0 [] None None (Some (codes "b")) None None)) (
    ("a1038261616162", lines ("admitted" ∷ "aud 61" ∷ "aud 62" ∷ [])) ∷
    ("a1036161", unmet_line "refused policy Audience at 2") ∷
    ("a0", unmet_line "refused policy Audience at 0") ∷ [])
unfolding asked
audiences = refl

-- The example lasts 120,000 seconds from iat, the value of exp is at 59, and that of iat at 71.
abbrev lasting : ℕ → ℕ → ℕ → RequirementsValue
lasting now leeway seconds = required_at (pos now) leeway [] None None None (Some seconds) None

abbrev aged : ℕ → ℕ → ℕ → RequirementsValue
aged now leeway seconds = required_at (pos now) leeway [] None None None None (Some seconds)

lifetimes : (asked (lasting 1443944944 0 120000) (hex example) ≡ example_lines)
    × (asked (lasting 1443944944 0 119999) (hex example) ≡ unmet_line "refused policy Lifetime at 59")
    × (asked (lasting 1443944945 9 119999) (hex example) ≡ unmet_line "refused policy Lifetime at 59")
unfolding asked
lifetimes = (refl, refl, refl)

-- Where no iat is present the time from now on is limited alone, and the leeway is added.
endings : Prints (asked (lasting 10 2 5)) (
    ("a10411", lines ("admitted" ∷ "exp 17" ∷ [])) ∷
    ("a10412", unmet_line "refused policy Lifetime at 2") ∷
    ("a2 0411 060c", lines ("admitted" ∷ "exp 17" ∷ "iat 12" ∷ [])) ∷
    ("a2 0411 060b", unmet_line "refused policy Lifetime at 2") ∷
    ("a0", unmet_line "refused policy Lifetime at 0") ∷ [])
unfolding asked
endings = refl

-- The age is taken from a clock that may be behind by the leeway, and iat isn't in the future.
ages : Prints (asked (aged 20 2 5)) (
    ("a1060d", lines ("admitted" ∷ "iat 13" ∷ [])) ∷
    ("a1060c", unmet_line "refused policy Age at 2") ∷
    ("a10616", lines ("admitted" ∷ "iat 22" ∷ [])) ∷
    ("a10617", unmet_line "refused policy Issued at 2") ∷
    ("a0", unmet_line "refused policy Age at 0") ∷ [])
unfolding asked
ages = refl

-- What is required is looked at after the claims are admitted, and before a further byte.
unfoldable said_in_input : RequirementsValue → ℕ → List ℕ → Output
unfolding asked
said_in_input r n payload = outcome_said briefly (token_told 8 n (program_policy r.now r.leeway None) r payload (decided (Authentic Mac0 Hmac256 0 9)))

orders : (said_in_input (requiring (Exp ∷ [])) 9 (hex "a0") ≡ unmet_line "refused policy PresentExp at 0")
    × (said_in_input (requiring (Exp ∷ [])) 10 (hex "a0") ≡ unmet_line "refused policy PresentExp at 0")
    × (said_in_input (requiring (Exp ∷ [])) 10 (hex "a10400") ≡ unmet_line "refused claims Expired at 2")
    × (said_in_input (requiring (Exp ∷ [])) 10 (hex "a10401") ≡ unmet_line "refused message Trailing at 9")
    × (said_in_input (requiring (Exp ∷ [])) 9 (hex "a10401") ≡ lines ("admitted" ∷ "exp 1" ∷ []))
unfolding said_in_input
orders = (refl, refl, refl, refl, refl)
