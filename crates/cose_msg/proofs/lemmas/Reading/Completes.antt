-- A message that is read whole has the headers, the key and the length of the payload that were known before its payload.
use Rattle.std.proofs.Common.{◌≡◌, ℕ, ◌+◌, ◌-◌, ◌≤◌, Bool, true, false, cond, List, length, take, drop, Option, Some, None, refl, sym, ap, ◌∙◌}
use Rattle.std.specs.Prelude.{nat_lt}
use Rattle.std.proofs.lemmas.Bool.{ltb-false}
use Rattle.std.proofs.lemmas.List.{length-take-le}
use Rattle.cose_head.specs.declared.head.Head.{Head}
use Rattle.cose_head.specs.declared.head.HeadStep.{HeadStep}
use Rattle.cose_head.specs.declared.head.HeadStep.TheVariants.{Got, More, Fault}
use Rattle.cose_head.specs.declared.reason.Reason.{Reason}
use Rattle.cose_head.specs.Head.{bare_head}
use Rattle.cose_msg.specs.Answer.{Chosen, Headers, Whole, complete}
use Rattle.cose_msg.specs.Phases.{auth, auth_head, auth_head_fault, detached_payload, finish, headers_so_far, past_auth_head, past_payload, payload}
use Rattle.cose_msg.specs.Reading.{Findings, Next, Phase, Reading, awaits, cut, past_head, unless_fault, with_head, with_string}
use Rattle.cose_msg.specs.Rules.{Rules}

module _ (Holds : Whole → Type 0) where
  -- The message of a reading has a property, if it is read whole.
  abbrev pub Gives : Reading → Type 0
  Gives reading = (whole : Whole) → reading.answer ≡ complete whole → Holds whole

  abbrev pub GivesAlways : Phase → Type 0
  GivesAlways phase = (place : ℕ) (bytes : List ℕ) → Gives (phase place bytes)

  past_head-gives : (so_far : Findings) (next : Next Head) → ((at : ℕ) (head : Head) → GivesAlways (next at head)) → (place : ℕ) (bytes : List ℕ) (step : HeadStep) → Gives (past_head so_far next place bytes step)
  past_head-gives so_far next h place bytes (Got head used) = h place head (place + used) (drop used bytes)
  past_head-gives so_far next h place bytes (More wanted) = λ whole e. absurd cc
  past_head-gives so_far next h place bytes (Fault reason) = λ whole e. absurd cc

  with_head-gives : (so_far : Findings) (next : Next Head) → ((at : ℕ) (head : Head) → GivesAlways (next at head)) → GivesAlways (with_head so_far next)
  unfolding with_head
  with_head-gives so_far next h place bytes = past_head-gives so_far next h place bytes (bare_head bytes)

  string_gives : (so_far : List ℕ → Findings) (n : ℕ) (next : Next (List ℕ)) (place : ℕ) (bytes : List ℕ) (short : Bool) → nat_lt (length bytes) n ≡ short → ((at : ℕ) (string : List ℕ) → length string ≡ n → GivesAlways (next at string)) →
      Gives (cond short (cut (so_far bytes) (n - length bytes) (place + length bytes)) (next place (take n bytes) (place + n) (drop n bytes)))
  string_gives so_far n next place bytes true e h = λ whole is. absurd cc
  string_gives so_far n next place bytes false e h =
      let there : n ≤ length bytes = ltb-false (length bytes) n e in
      h place (take n bytes) (length-take-le n bytes there) (place + n) (drop n bytes)

  pub with_string-gives : (so_far : List ℕ → Findings) (n : ℕ) (next : Next (List ℕ)) → ((at : ℕ) (string : List ℕ) → length string ≡ n → GivesAlways (next at string)) → GivesAlways (with_string so_far n next)
  unfolding with_string
  with_string-gives so_far n next h place bytes = string_gives so_far n next place bytes (nat_lt (length bytes) n) refl h

  unless_fault-gives : (so_far : Findings) (at : ℕ) (fault : Option Reason) (phase : Phase) → GivesAlways phase → GivesAlways (unless_fault so_far at fault phase)
  unless_fault-gives so_far at (Some reason) phase h place bytes = λ whole e. absurd cc
  unless_fault-gives so_far at None phase h place bytes = h place bytes

  either_gives : (b : Bool) (x y : Reading) → Gives x → (b ≡ false → Gives y) → Gives (cond b x y)
  either_gives true x y p q = p
  either_gives false x y p q = q refl

-- Nothing is compared by these rules.
abbrev pub Reads : Rules → Type 0
Reads rules = (whole : Whole) → rules.finish whole ≡ complete whole

module _ (rules : Rules) (reads : Reads rules) (headers : Headers) (chosen : Option Chosen) where
  -- It has these headers, this key, and a payload of this length.
  abbrev pub IsUnder : ℕ → Whole → Type 0
  IsUnder n whole = (whole.headers ≡ headers) × (whole.chosen ≡ chosen) × (length whole.payload ≡ n)

  same_whole : (one other : Whole) → rules.finish one ≡ complete other → one ≡ other
  same_whole one other e = let both : complete one ≡ complete other = sym (reads one) ∙ e in cc

  finish-gives : (B : List ℕ) (auth_at at : ℕ) (string : List ℕ) → GivesAlways (IsUnder (length B)) (finish rules headers chosen B auth_at at string)
  finish-gives B auth_at at string place bytes whole e =
      let one : Whole = record { headers = headers; chosen = chosen; payload = B; auth = string; auth_at = auth_at; taken = place } in
      let same : whole ≡ one = sym (same_whole one whole e) in
      (ap (λ (w : Whole). w.headers) same, ap (λ (w : Whole). w.chosen) same, ap (λ (w : Whole). length w.payload) same)

  pub auth-gives : (B : List ℕ) (auth_at n : ℕ) → GivesAlways (IsUnder (length B)) (auth rules headers chosen B auth_at n)
  auth-gives B auth_at n = with_string-gives (IsUnder (length B)) (λ bytes. headers_so_far headers B) n (finish rules headers chosen B auth_at) (λ at string is. finish-gives B auth_at at string)

  pub auth_head-gives : (B : List ℕ) → GivesAlways (IsUnder (length B)) (auth_head rules headers chosen B)
  auth_head-gives B = with_head-gives (IsUnder (length B)) (headers_so_far headers B) (past_auth_head rules headers chosen B)
      (λ at head. unless_fault-gives (IsUnder (length B)) (headers_so_far headers B) at (auth_head_fault rules chosen head) (auth rules headers chosen B at head.arg) (auth-gives B at head.arg))

  with_length : (B : List ℕ) (n : ℕ) → length B ≡ n → (whole : Whole) → IsUnder (length B) whole → IsUnder n whole
  with_length B n count whole is = (is.0, is.1, is.2 ∙ count)

  pub payload-gives : (n : ℕ) → GivesAlways (IsUnder n) (payload rules headers chosen n)
  payload-gives n = with_string-gives (IsUnder n) (headers_so_far headers) n (past_payload rules headers chosen)
      (λ at B count place bytes whole e. with_length B n count whole (auth_head-gives B place bytes whole e))

  pub detached_payload-gives : (came : List ℕ) (detached_length at : ℕ) → GivesAlways (IsUnder detached_length) (detached_payload rules headers chosen came detached_length at)
  detached_payload-gives came detached_length at place bytes =
      either_gives (IsUnder detached_length) (nat_lt (length came) detached_length) (awaits (headers_so_far headers came) (detached_length - length came) at) (auth_head rules headers chosen (take detached_length came) place bytes)
      (λ whole e. absurd cc)
      (λ there whole e.
      let enough : detached_length ≤ length came = ltb-false (length came) detached_length there in
      with_length (take detached_length came) detached_length (length-take-le detached_length came enough) whole (auth_head-gives (take detached_length came) place bytes whole e))
