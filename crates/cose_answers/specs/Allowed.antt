-- Which of the usable keys of a set a request allows.
use Rattle.std.specs.Prelude.{ℕ, ℤ, List, Option, None, option_map}
use Rattle.cose_map.specs.Restrictions.{RestrictionsValue}
use Rattle.cose_answers.specs.declared.allowed.Allowed.{Allowed}

-- Restrictions by the fewest bytes of a secret, and by the algorithms, where there is a list of them.
abbrev pub restricted : ℕ → Option (List ℤ) → RestrictionsValue
restricted least_secret algorithms = record { algorithms = algorithms; least_secret = least_secret }

-- Every usable key may be used.
abbrev pub unrestricted : RestrictionsValue
unrestricted = restricted 0 None

abbrev pub allowed_value : Allowed → RestrictionsValue
allowed_value allowed = restricted allowed.least_secret (option_map (λ list. list.items) allowed.algorithms)
