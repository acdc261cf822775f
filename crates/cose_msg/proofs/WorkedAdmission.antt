-- Which key sets accept a message that is made, on examples: one key alone, without a kid and with one.
use Rattle.std.specs.Prelude.{ℕ, ◌^◌, ◌<◌, List, [], ◌∷◌, length, Some, None, pos, refl}
use Rattle.std.proofs.Common.{arith}
use Rattle.cose_head.specs.Head.{shortest_head}
use Rattle.cose_head.specs.Shortest.{shortest, shortest_all}
use Rattle.cose_head.specs.declared.algorithm.Alg.TheVariants.{Hmac256}
use Rattle.cose_map.specs.Choice.{chosen}
use Rattle.cose_map.specs.Key.Value.{KeyValue}
use Rattle.cose_map.specs.Label.{number}
use Rattle.cose_msg.specs.MakingLaws.{Admits}
use Rattle.cose_msg.proofs.WorkedMessages.{under, jefe, secret, plain}

-- The least room and nesting allowance, whatever the payload.
plain_admits : (payload : List ℕ) → length payload < 2 ^ 56 → Admits 16 1 (under plain) Hmac256 jefe None payload
unfolding chosen shortest shortest_all shortest_head
plain_admits payload below = record {
  some_room = omega arith;
  limit = omega arith;
  nests = omega arith;
  unprotected_fits = omega arith;
  payload_below = below;
  payload_within = omega (arith, below);
  payload_inside = refl;
  wanted = refl;
  key = secret None None None;
  secret_is = refl;
  chosen = refl;
}

-- A key for HMAC 256/256 that makes and verifies MACs, with the kid 11.
abbrev eleven : List ℕ
eleven = 0x31 ∷ 0x31 ∷ []

abbrev named : KeyValue
named = secret (Some eleven) (Some (number (pos 5))) (Some (pos 9 ∷ pos 10 ∷ []))

named_admits : (payload : List ℕ) → length payload < 2 ^ 56 → Admits 16 1 (under (named ∷ [])) Hmac256 jefe (Some eleven) payload
unfolding chosen shortest shortest_all shortest_head
named_admits payload below = record {
  some_room = omega arith;
  limit = omega arith;
  nests = omega arith;
  unprotected_fits = omega arith;
  payload_below = below;
  payload_within = omega (arith, below);
  payload_inside = refl;
  wanted = refl;
  key = named;
  secret_is = refl;
  chosen = refl;
}
