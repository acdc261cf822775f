-- The reasons for which maps, keys, key sets, two buckets together and the choice of the key are refused, by their
-- numbers, by computing.
use Rattle.std.proofs.Common.{◌≡◌, [], ◌∷◌, map, refl}
use Rattle.cose_head.specs.Reason.{number_of}
use Rattle.cose_map.specs.Laws.Reasons.{map_reasons, bucket_reasons, key_reasons, key_set_reasons, pair_reasons, choice_reasons}

-- not a map, a bad label, and a label twice
of_maps : map number_of map_reasons ≡ 12 ∷ 13 ∷ 14 ∷ []
of_maps = refl

-- the reasons of bytes that should be one item, those of maps, and a bad value
of_buckets : map number_of bucket_reasons ≡ 2 ∷ 3 ∷ 4 ∷ 5 ∷ 6 ∷ 42 ∷ 12 ∷ 13 ∷ 14 ∷ 16 ∷ []
of_buckets = refl

-- the same, and an unknown type or curve
of_keys : map number_of key_reasons ≡ 2 ∷ 3 ∷ 4 ∷ 5 ∷ 6 ∷ 42 ∷ 12 ∷ 13 ∷ 14 ∷ 16 ∷ 32 ∷ []
of_keys = refl

-- a set isn't refused for a key in it
of_key_sets : map number_of key_set_reasons ≡ 2 ∷ 3 ∷ 4 ∷ 5 ∷ 6 ∷ 42 ∷ 31 ∷ []
of_key_sets = refl

of_two_buckets : map number_of pair_reasons ≡ 15 ∷ 17 ∷ 18 ∷ 19 ∷ 20 ∷ []
of_two_buckets = refl

of_the_choice : map number_of choice_reasons ≡ 21 ∷ 22 ∷ 23 ∷ 24 ∷ 25 ∷ []
of_the_choice = refl
