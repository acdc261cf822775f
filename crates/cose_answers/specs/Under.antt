-- What a message is verified under, as a request says it.
use Rattle.std.specs.Prelude.{ℕ, List, Option, option_map}
use Rattle.cose_map.specs.Key.Value.{KeyValue}
use Rattle.cose_map.specs.KeySet.{keys_of}
use Rattle.cose_map.specs.KeyTable.{table_of}
use Rattle.cose_map.specs.Map.Read.{Read}
use Rattle.cose_map.specs.Restrictions.{RestrictionsValue, allowed_in}
use Rattle.cose_msg.specs.declared.context.Wanted.{Wanted}
use Rattle.cose_answers.specs.Allowed.{allowed_value}
use Rattle.cose_answers.specs.Limits.{Room, room_of}
use Rattle.cose_answers.specs.declared.request.Checks.{Checks}

-- The room that there is; the keys of a key set that may be used, or why it is refused; the externally supplied data; the kinds of messages that
-- are wanted; the argument of `--vouch`, where there is one.
pub record Under : Type 0 where
  pub room : Room
  pub keys : Read (List KeyValue)
  pub aad : List ℕ
  pub wanted : Wanted
  pub vouch : Option (List ℕ)

-- The keys of a key set that may be used, as many as there is room for.
abbrev pub program_keys : Room → RestrictionsValue → List ℕ → Read (List KeyValue)
program_keys room restrictions bytes = table_of room.keys (allowed_in restrictions (keys_of bytes))

abbrev pub under_of : Checks → Under
under_of checks = record {
  room = room_of checks.limits;
  keys = program_keys (room_of checks.limits) (allowed_value checks.allowed) checks.keys.items;
  aad = checks.aad.items;
  wanted = checks.wanted;
  vouch = option_map (λ word. word.items) checks.vouch;
}
