-- Which keys may be used, on examples, by computing.
use Rattle.std.proofs.Common.{◌≡◌, pos, true, false, [], ◌∷◌, Option, Some, None, refl}
use Rattle.cose_map.specs.Key.Value.{KeyValue, MaterialValue, symmetric, elliptic, sign}
use Rattle.cose_map.specs.Label.{LabelValue, number, words}
use Rattle.cose_map.specs.Restrictions.{RestrictionsValue, allowed_of, allows, if_permitted}

abbrev of : Option LabelValue → MaterialValue → KeyValue
of alg material = record { kid = None; alg = alg; operations = None; material = material }

-- The algorithms 5 and 7 are allowed, and secrets of two bytes or more.
abbrev restricted : RestrictionsValue
restricted = record { algorithms = Some (pos 5 ∷ pos 7 ∷ []); least_secret = 2 }

abbrev unrestricted : RestrictionsValue
unrestricted = record { algorithms = None; least_secret = 0 }

abbrev two_bytes : MaterialValue
two_bytes = symmetric (1 ∷ 2 ∷ [])

this_algorithm : allows restricted (of (Some (number (pos 5))) two_bytes) ≡ true
this_algorithm = refl

another_algorithm : allows restricted (of (Some (number (pos 6))) two_bytes) ≡ false
another_algorithm = refl

a_text : allows restricted (of (Some (words (0x35 ∷ []))) two_bytes) ≡ false
a_text = refl

no_algorithm : allows restricted (of None two_bytes) ≡ false
no_algorithm = refl

one_byte : allows restricted (of (Some (number (pos 5))) (symmetric (1 ∷ []))) ≡ false
one_byte = refl

any_key : allows unrestricted (of None (symmetric (1 ∷ []))) ≡ true
any_key = refl

-- A point has no secret.
a_point : allows (record { algorithms = None; least_secret = 99 }) (of None (elliptic 1 [] (sign true))) ≡ true
a_point = refl

in_their_order : allowed_of restricted (of None two_bytes ∷ of (Some (number (pos 5))) two_bytes ∷ of (Some (number (pos 6))) two_bytes ∷ of (Some (number (pos 5))) (symmetric (1 ∷ 2 ∷ 3 ∷ [])) ∷ [])
    ≡ (of (Some (number (pos 5))) two_bytes ∷ of (Some (number (pos 5))) (symmetric (1 ∷ 2 ∷ 3 ∷ [])) ∷ [])
in_their_order = refl

-- A key of one item, by a rule.
permitted : if_permitted (allows restricted) (Some (of (Some (number (pos 5))) two_bytes)) ≡ Some (of (Some (number (pos 5))) two_bytes)
permitted = refl

not_permitted : if_permitted (allows restricted) (Some (of None two_bytes)) ≡ None
not_permitted = refl

no_key : if_permitted (allows restricted) None ≡ None
no_key = refl
