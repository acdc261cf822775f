-- The first of what several requirements leave unmet.
use Rattle.std.proofs.Common.{◌≡◌, List, [], ◌∷◌, ◌++◌, Option, Ok, Err, ◌∙◌, ap}
use Rattle.std.specs.Prelude.{Result}
use Rattle.cose_head.specs.Placed.{Placed}
use Rattle.cose_cwt.specs.declared.requirements.Unmet.{Unmet}
use Rattle.cose_cwt.specs.Requirements.{first_of}

-- Where the earlier ones are met it is that of the others, and else that of the earlier ones.
pub past : (earlier others : List Unmet) (answer : Result (Unit {0}) Unmet) → Ok tt ≡ first_of earlier → answer ≡ first_of others → answer ≡ first_of (earlier ++ others)
past [] others answer met said = said
past (first ∷ more) others answer met said = absurd cc

pub stays : (earlier others : List Unmet) (unmet : Unmet) → Err unmet ≡ first_of earlier → Err unmet ≡ first_of (earlier ++ others)
stays [] others unmet found = absurd cc
stays (first ∷ more) others unmet found = found

-- The answer of a rule for the value that was found is that for the claim's value.
pub of_value : (rule : Option Placed → List Unmet) (found value : Option Placed) (answer : Result (Unit {0}) Unmet) → answer ≡ first_of (rule found) → found ≡ value → answer ≡ first_of (rule value)
of_value rule found value answer said same = said ∙ ap (λ (v : Option Placed). first_of (rule v)) same

-- The same of a rule for two claims.
pub of_values : {A : Type 0} (rule : A → Option Placed → List Unmet) (seen known : A) (found value : Option Placed) (answer : Result (Unit {0}) Unmet) →
    answer ≡ first_of (rule seen found) → seen ≡ known → found ≡ value → answer ≡ first_of (rule known value)
of_values {A} rule seen known found value answer said first same = said ∙ ap (λ (k : A). first_of (rule k found)) first ∙ ap (λ (v : Option Placed). first_of (rule known v)) same
