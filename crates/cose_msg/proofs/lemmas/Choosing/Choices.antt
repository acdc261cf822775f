-- The result of both buckets together, step by step.
use Rattle.std.proofs.Common.{◌≡◌, ℕ, List, Option, Some, None, Ok, Err, refl}
use Rattle.cose_head.specs.declared.reason.Reason.{Reason}
use Rattle.cose_head.specs.declared.refusal.Refusal.{Refusal}
use Rattle.cose_map.specs.Map.Pairs.{Pair}
use Rattle.cose_map.specs.Map.Read.{Read}
use Rattle.cose_map.specs.Bucket.Both.{pair_fault}
use Rattle.cose_msg.specs.Answer.{Chosen, Headers}
use Rattle.cose_msg.specs.Choosing.{choice_of}
use Rattle.cose_msg.specs.Task.{Task, choice_for, is_keyless}

-- a bucket that is read again, which had no fault
pub same_pairs : (x y : List Pair) → ◌≡◌ {A = Read (List Pair)} (Ok x) (Ok y) → x ≡ y
same_pairs x y e = cc

pub not_refused : (refusal : Refusal) (pairs : List Pair) → ◌≡◌ {A = Read (List Pair)} (Err refusal) (Ok pairs) → ⊥
not_refused refusal pairs e = cc

module _ (task : Task) (headers : Headers) (place : ℕ) where
  pub pair_refused : (refusal : Refusal) → pair_fault headers.protected_pairs headers.unprotected_pairs task.setting.understood place ≡ Some refusal → choice_of task headers place ≡ Err refusal
  unfolding choice_of
  pair_refused refusal f = rw f refl

  pub key_refused : (reason : Reason) → pair_fault headers.protected_pairs headers.unprotected_pairs task.setting.understood place ≡ None → choice_for (is_keyless task) task.setting headers ≡ Err reason → choice_of task headers place ≡ Err (record { reason = reason; place = place })
  unfolding choice_of
  key_refused reason f k = rw (f, k) refl

  pub key_found : (chosen : Option Chosen) → pair_fault headers.protected_pairs headers.unprotected_pairs task.setting.understood place ≡ None → choice_for (is_keyless task) task.setting headers ≡ Ok chosen → choice_of task headers place ≡ Ok chosen
  unfolding choice_of
  key_found chosen f k = rw (f, k) refl
