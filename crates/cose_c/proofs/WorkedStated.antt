-- What is permitted and required, on examples, by computing.
use Rattle.std.specs.Prelude.{ℤ, pos, negsuc, Bool, true, false, List, [], ◌∷◌, map, replicate, Option, Some, None, refl, ◌≡◌}
use Rattle.cose_map.specs.Key.Value.{KeyValue, MaterialValue, coordinate, elliptic, symmetric}
use Rattle.cose_map.specs.Label.{LabelValue, number}
use Rattle.cose_cwt.specs.declared.requirements.Claim.TheVariants.{Iss, Sub, Aud, Exp, Nbf, Iat, Cti}
use Rattle.cose_cwt.specs.declared.requirements.Requirement.TheVariants.{Present, Issuer}
use Rattle.cose_cwt.specs.Requirements.{unmet_at}
use Rattle.cose_c.specs.Permitted.{PermissionValue, permits}
use Rattle.cose_c.specs.Required.{number_stated, present_of, unmet_status}
use Rattle.cose_c.specs.Stated.{has_flag, labels_stated, limit_stated}

abbrev key : Option LabelValue → MaterialValue → KeyValue
key own material = record { kid = None; alg = own; operations = None; material = material }

-- A secret for HMAC 256/64, one for HMAC 256/256, one that names no algorithm, and a point that names none.
abbrev four_keys : List KeyValue
four_keys =
    key (Some (number (pos 4))) (symmetric (1 ∷ 2 ∷ [])) ∷ key (Some (number (pos 5))) (symmetric (1 ∷ 2 ∷ [])) ∷ key None (symmetric (1 ∷ 2 ∷ []))
    ∷ key None (elliptic 1 [] (coordinate [])) ∷ []

abbrev permission : List ℤ → Bool → Bool → PermissionValue
permission algorithms short_mac without_alg = record { algorithms = algorithms; least_secret = 0; short_mac = short_mac; without_alg = without_alg }

abbrev none_stated : List ℤ
none_stated = replicate 16 (pos 0)

by_default : map (permits (permission none_stated false false)) four_keys ≡ false ∷ true ∷ false ∷ false ∷ []
by_default = refl

short_tags : map (permits (permission none_stated true false)) four_keys ≡ true ∷ true ∷ false ∷ false ∷ []
short_tags = refl

no_algorithm : map (permits (permission none_stated false true)) four_keys ≡ false ∷ true ∷ false ∷ true ∷ []
no_algorithm = refl

either : map (permits (permission none_stated true true)) four_keys ≡ true ∷ true ∷ true ∷ true ∷ []
either = refl

-- Where an algorithm is stated, the flags say nothing.
one_stated : map (permits (permission (pos 5 ∷ pos 0 ∷ []) true true)) four_keys ≡ false ∷ true ∷ false ∷ false ∷ []
one_stated = refl

the_short_one_stated : map (permits (permission (pos 4 ∷ pos 0 ∷ []) false false)) four_keys ≡ true ∷ false ∷ false ∷ false ∷ []
the_short_one_stated = refl

-- A secret of two bytes, where two are asked for and where three are.
long_enough : permits (record { algorithms = none_stated; least_secret = 2; short_mac = true; without_alg = true }) (key None (symmetric (1 ∷ 2 ∷ []))) ≡ true
long_enough = refl

too_short : permits (record { algorithms = none_stated; least_secret = 3; short_mac = true; without_alg = true }) (key None (symmetric (1 ∷ 2 ∷ []))) ≡ false
too_short = refl

flags : map (has_flag 3) (1 ∷ 2 ∷ 4 ∷ []) ≡ true ∷ true ∷ false ∷ []
flags = refl

-- Labels end before the first zero.
labels : labels_stated (pos 100 ∷ negsuc 0 ∷ pos 0 ∷ pos 7 ∷ []) ≡ number (pos 100) ∷ number (negsuc 0) ∷ []
labels = refl

limits : map limit_stated (0 ∷ 1 ∷ []) ≡ 72057594037927935 ∷ 1 ∷ []
limits = refl

-- exp has to be present unless a token without it is permitted, and then too where the caller says so.
exp_alone : present_of 0 0 ≡ Exp ∷ []
exp_alone = refl

nothing_present : present_of 0 1 ≡ []
nothing_present = refl

exp_stated : present_of 8 1 ≡ Exp ∷ []
exp_stated = refl

all_present : present_of 127 1 ≡ Iss ∷ Sub ∷ Aud ∷ Exp ∷ Nbf ∷ Iat ∷ Cti ∷ []
all_present = refl

stated_numbers : map number_stated (0 ∷ 1 ∷ []) ≡ None ∷ Some 1 ∷ []
stated_numbers = refl

unmet_issuer : unmet_status (unmet_at Issuer 2) ≡ record { status = 13; reason = 8; place = 2 }
unmet_issuer = refl

without_exp : unmet_status (unmet_at (Present Exp) 0) ≡ record { status = 13; reason = 4; place = 0 }
without_exp = refl
