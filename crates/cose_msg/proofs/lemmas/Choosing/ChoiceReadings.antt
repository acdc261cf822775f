-- What follows both buckets, by their result together.
use Rattle.std.proofs.Common.{◌≡◌, ℕ, Bool, true, false, cond, List, [], length, Option, Some, None, Result, Ok, Err, refl, sym, ap}
use Rattle.std.specs.Prelude.{◌==◌, is_none, option_map}
use Rattle.cose_head.specs.declared.reason.Reason.{Reason}
use Rattle.cose_head.specs.declared.refusal.Refusal.{Refusal}
use Rattle.cose_map.specs.Key.Value.{KeyValue}
use Rattle.cose_map.specs.Map.Pairs.{Pair}
use Rattle.cose_map.specs.Map.Read.{Read}
use Rattle.cose_map.specs.Bucket.Both.{pair_fault}
use Rattle.cose_msg.specs.declared.reader.Chosen as code
use Rattle.cose_msg.specs.Answer.{Chosen, Headers}
use Rattle.cose_msg.specs.Chosen.{ChoiceIs, chosen_value}
use Rattle.cose_msg.specs.Choosing.{choice_of, refused_at}
use Rattle.cose_msg.specs.Message.{Setting, as_choice, found_key}
use Rattle.cose_msg.specs.Phases.{both_buckets, headers_so_far, payload_head}
use Rattle.cose_msg.specs.Reading.{stop}
use Rattle.cose_msg.specs.Task.{Task, choice_among, choice_for, keys_for, rules_of, is_keyless}

module _ (room nesting : ℕ) (task : Task) (headers : Headers) (place : ℕ) where
  fault : Option Refusal
  fault = pair_fault headers.protected_pairs headers.unprotected_pairs task.setting.understood place

  finds_key : (choice : Result (Option Chosen) Reason) (chosen : Option Chosen) → fault ≡ None → choice_for (is_keyless task) task.setting headers ≡ choice → refused_at place choice ≡ Ok chosen
      → (z : List ℕ) → both_buckets (rules_of room nesting task) headers place z ≡ payload_head (rules_of room nesting task) headers chosen place z
  unfolding fault
  finds_key (Ok other) chosen f k is z = let same : other ≡ chosen = cc in rw (f, k, same) refl
  finds_key (Err reason) chosen f k is z = absurd cc

  finds : (found : Option Refusal) (chosen : Option Chosen) → fault ≡ found → choice_of task headers place ≡ Ok chosen
      → (z : List ℕ) → both_buckets (rules_of room nesting task) headers place z ≡ payload_head (rules_of room nesting task) headers chosen place z
  unfolding fault choice_of
  finds None chosen f is z = finds_key (choice_for (is_keyless task) task.setting headers) chosen f refl (rw f at is) z
  finds (Some refusal) chosen f is z = absurd (let both = rw f at is in cc)

  pub choice_finds : (chosen : Option Chosen) → choice_of task headers place ≡ Ok chosen
      → (z : List ℕ) → both_buckets (rules_of room nesting task) headers place z ≡ payload_head (rules_of room nesting task) headers chosen place z
  choice_finds chosen is z = finds fault chosen refl is z

  refuses_key : (choice : Result (Option Chosen) Reason) (refusal : Refusal) → fault ≡ None → choice_for (is_keyless task) task.setting headers ≡ choice → refused_at place choice ≡ Err refusal
      → (z : List ℕ) → both_buckets (rules_of room nesting task) headers place z ≡ stop (headers_so_far headers []) refusal.reason refusal.place
  unfolding fault
  refuses_key (Ok other) refusal f k is z = absurd cc
  refuses_key (Err reason) refusal f k is z = let same : record { reason = reason; place = place } ≡ refusal = cc in rw (f, k, ← same) refl

  refuses : (found : Option Refusal) (refusal : Refusal) → fault ≡ found → choice_of task headers place ≡ Err refusal
      → (z : List ℕ) → both_buckets (rules_of room nesting task) headers place z ≡ stop (headers_so_far headers []) refusal.reason refusal.place
  unfolding fault choice_of
  refuses None refusal f is z = refuses_key (choice_for (is_keyless task) task.setting headers) refusal f refl (rw f at is) z
  refuses (Some other) refusal f is z = let same : other ≡ refusal = (let both = rw f at is in cc) in rw (f, same) refl

  pub choice_refuses : (refusal : Refusal) → choice_of task headers place ≡ Err refusal
      → (z : List ℕ) → both_buckets (rules_of room nesting task) headers place z ≡ stop (headers_so_far headers []) refusal.reason refusal.place
  choice_refuses refusal is z = refuses fault refusal refl is z

-- What is chosen of the keys of a task is what its rules choose.
chosen_for : (inspects : Bool) (setting : Setting) (headers : Headers) → choice_for inspects setting headers ≡ choice_among (cond inspects None (Some setting.keys)) headers
chosen_for true setting headers = refl
chosen_for false setting headers = refl

pub chosen_among : (task : Task) (keys : Option (List KeyValue)) (headers : Headers) → keys ≡ keys_for task → choice_for (is_keyless task) task.setting headers ≡ choice_among keys headers
chosen_among task keys headers same = rw same (chosen_for (is_keyless task) task.setting headers)

-- A key is chosen exactly where a message isn't only inspected.
chosen_is_key : (found : Result Chosen Reason) (chosen : Option Chosen) → as_choice found ≡ Ok chosen → is_none chosen ≡ false
chosen_is_key (Ok found) (Some other) e = refl
chosen_is_key (Ok found) None e = absurd cc
chosen_is_key (Err reason) chosen e = absurd cc

abbrev no_key : Result (Option Chosen) Reason
no_key = Ok None

chosen_is_none : (chosen : Option Chosen) → no_key ≡ Ok chosen → is_none chosen ≡ true
chosen_is_none None e = refl
chosen_is_none (Some found) e = absurd cc

key_if_verified : (inspects : Bool) (setting : Setting) (headers : Headers) (chosen : Option Chosen) → choice_for inspects setting headers ≡ Ok chosen → is_none chosen ≡ inspects
key_if_verified true setting headers chosen e = chosen_is_none chosen e
key_if_verified false setting headers chosen e = chosen_is_key (found_key setting.keys headers) chosen e

past_refused : {A : Type 0} (place : ℕ) (choice : Result A Reason) (x : A) → refused_at place choice ≡ Ok x → choice ≡ Ok x
past_refused place (Ok y) x e = let same : y ≡ x = cc in rw same refl
past_refused place (Err reason) x e = absurd cc

key_among : (task : Task) (headers : Headers) (place : ℕ) (found : Option Refusal) (chosen : Option Chosen) → pair_fault headers.protected_pairs headers.unprotected_pairs task.setting.understood place ≡ found → choice_of task headers place ≡ Ok chosen → is_none chosen ≡ is_keyless task
unfolding choice_of
key_among task headers place None chosen f is = key_if_verified (is_keyless task) task.setting headers chosen (past_refused place (choice_for (is_keyless task) task.setting headers) chosen (rw f at is))
key_among task headers place (Some refusal) chosen f is = absurd (let both = rw f at is in cc)

pub chooses_if_verified : (task : Task) (headers : Headers) (place : ℕ) (chosen : Option Chosen) → choice_of task headers place ≡ Ok chosen → is_none chosen ≡ is_keyless task
chooses_if_verified task headers place chosen is = key_among task headers place (pair_fault headers.protected_pairs headers.unprotected_pairs task.setting.understood place) chosen refl is

-- What the code's choice ensures of the definition's.
pub record IsFound (pairs : List Pair) (is_bare : Bool) (place : Option code.Chosen) (answer : Read (Option Chosen)) : Type 0 where
  pub is : answer ≡ Ok (option_map chosen_value place)
  pub bare_is : is_bare ≡ (length pairs == 0)

pub choice_is_found : (pairs : List Pair) (is_bare : Bool) (place : Option code.Chosen) (answer : Read (Option Chosen)) → ChoiceIs pairs (Ok is_bare) place answer → IsFound pairs is_bare place answer
choice_is_found pairs is_bare place (Ok chosen) h = record { is = ap (λ (c : Option Chosen). Ok c) (sym h.0); bare_is = h.1 }
choice_is_found pairs is_bare place (Err refusal) h = absurd h

pub choice_is_refused : (pairs : List Pair) (refusal : Refusal) (place : Option code.Chosen) (answer : Read (Option Chosen)) → ChoiceIs pairs (Err refusal) place answer → answer ≡ Err refusal
choice_is_refused pairs refusal place (Ok found) h = absurd h
choice_is_refused pairs refusal place (Err other) h = ap (λ (r : Refusal). Err r) (sym h)
