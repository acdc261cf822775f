-- The result of both header buckets together, whose pairs are known: the key, if one is to be chosen, or the first
-- fault.
use Rattle.std.specs.Prelude.{ℕ, Option, Some, None, Result, Ok, Err}
use Rattle.cose_head.specs.declared.reason.Reason.{Reason}
use Rattle.cose_head.specs.declared.refusal.Refusal.{Refusal}
use Rattle.cose_map.specs.Map.Read.{Read}
use Rattle.cose_map.specs.Map.Read.{◌>>=◌}
use Rattle.cose_map.specs.Bucket.Both.{pair_fault}
use Rattle.cose_msg.specs.Answer.{Chosen, Headers}
use Rattle.cose_msg.specs.Task.{Task, choice_for, is_keyless}

abbrev pub unless_refused : Option Refusal → Read (Unit {0})
unless_refused None = Ok tt
unless_refused (Some refusal) = Err refusal

abbrev pub refused_at : {A : Type 0} → ℕ → Result A Reason → Read A
refused_at place (Ok x) = Ok x
refused_at place (Err reason) = Err (record { reason = reason; place = place })

-- The place is the one after both buckets.
unfoldable pub choice_of : Task → Headers → ℕ → Read (Option Chosen)
choice_of task headers place = do
  unused ← unless_refused (pair_fault headers.protected_pairs headers.unprotected_pairs task.setting.understood place)
  refused_at place (choice_for (is_keyless task) task.setting headers)
