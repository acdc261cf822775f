-- The meaning of a reader depends on the reading alone.
use Rattle.std.proofs.Common.{◌≡◌, ℕ, Bool, ◌+◌, List, [], ◌∷◌, ◌++◌, length, take, Option, None, sym, ap, subst, ◌∙◌, arith, append_assoc, length-append}
use Rattle.std.proofs.Math.Seq.{take-length}
use Rattle.cose_head.specs.declared.kind.Kind.TheVariants.{Mac0}
use Rattle.cose_map.specs.Key.Value.{KeyValue}
use Rattle.cose_map.specs.Map.Pairs.{Pair}
use Rattle.cose_msg.specs.declared.context.Terms.{Terms}
use Rattle.cose_msg.specs.declared.reader.Reader.{Reader}
use Rattle.cose_msg.specs.Reading.{Reading, Findings}
use Rattle.cose_head.specs.Head.{IsMore, bare_head}
use Rattle.cose_msg.specs.Source.{source_with, with_came}
use Rattle.cose_msg.specs.Task.{Task, given_to}
use Rattle.cose_msg.specs.Reader.{HoldsIn, Known, HasFindings, ReaderMeans, setting_with}

-- Where nothing is known yet, any value will do.
abbrev pub unknown : List ℕ → Known
unknown B = record {
  headers = record { kind = Mac0; protected = []; protected_pairs = []; unprotected_pairs = [] };
  chosen = None;
  payload = B;
  auth = [];
}

-- Where the pairs of the protected bucket are known.
abbrev pub under_pairs : List Pair → Known
under_pairs pairs = record {
  headers = record { kind = Mac0; protected = []; protected_pairs = pairs; unprotected_pairs = [] };
  chosen = None;
  payload = [];
  auth = [];
}

pub along : {H D : ℕ} {task : Task} {B : List ℕ} {n : ℕ} (v : Reader H D) (new old : List ℕ → Reading) → ((z : List ℕ) → new z ≡ old z) → ReaderMeans task B n v old → ReaderMeans task B n v new
along v new old same h = record {
  known = h.known;
  so_far = h.so_far;
  shows = h.shows;
  payload_known = h.payload_known;
  payload_so_far = h.payload_so_far;
  holds = h.holds;
  left = λ z. same z ∙ h.left z;
}

-- The same with other numbers and lists that are equal.
pub moved : {H D : ℕ} {task : Task} {B B' : List ℕ} {n n' : ℕ} (v : Reader H D) (new old : List ℕ → Reading) → B' ≡ B → n' ≡ n → ((z : List ℕ) → new z ≡ old z) → ReaderMeans task B' n' v old → ReaderMeans task B n v new
moved {H} {D} {task} {B} {B'} {n} {n'} v new old same_payload same_count same h = record {
  known = h.known;
  so_far = h.so_far;
  shows = h.shows;
  payload_known = h.payload_known ∙ same_payload;
  payload_so_far = h.payload_so_far ∙ same_payload;
  holds = subst (λ (m : ℕ). HoldsIn task h.known h.so_far m v v.phase) same_count h.holds;
  left = λ z. same z ∙ h.left z;
}

-- What is known may be given by an equal value.
pub shows_as : {H D : ℕ} (task : Task) (v : Reader H D) (so_far other : Findings) → so_far ≡ other → HasFindings task so_far v → HasFindings task other v
shows_as task v so_far other same h = subst (λ (t : Findings). HasFindings task t v) same h

-- One byte more of a head is held, and it isn't whole.
pub holds_more : (at n byte : ℕ) (held now : List ℕ) → n ≡ at + length held → now ≡ held ++ byte ∷ [] → IsMore (bare_head (held ++ byte ∷ [])) → IsMore (bare_head now) × (n + 1 ≡ at + length now)
holds_more at n byte held now count kept half =
    let more : n + 1 ≡ at + length (held ++ byte ∷ []) = omega (arith, count, length-append held (byte ∷ [])) in
    rw kept (half, more)

-- A payload that is known is the one so far.
pub so_far_payload : (so_far other : Findings) (B : List ℕ) → so_far ≡ other → so_far.payload ≡ B → other.payload ≡ B
so_far_payload so_far other B same is = sym (ap (λ (t : Findings). t.payload) same) ∙ is

-- A task that is a reader's, with these keys, this length of a detached payload, and for this purpose, before anything of the
-- payload has come.
pub whole_task : (task : Task) (keys : List KeyValue) (terms : Terms) (inspects : Bool) (detached_length : Option ℕ) (elsewhere : Bool) → keys ≡ task.setting.keys → inspects ≡ task.inspects → source_with [] detached_length ≡ with_came [] task.setting.source → elsewhere ≡ task.setting.elsewhere
    → record { setting = setting_with task.setting.keys task.setting.source task.setting.elsewhere terms; inspects = task.inspects } ≡ task → record { setting = setting_with keys (source_with [] detached_length) elsewhere terms; inspects = inspects } ≡ given_to [] task
whole_task task keys terms inspects detached_length elsewhere same purpose source away e = rw (same, purpose, source, away) (ap (given_to []) e)

-- A piece was taken whole.
pub took_piece : {H D : ℕ} {task : Task} (v : Reader H D) (s piece : List ℕ) (grows : List ℕ → List ℕ) (used : ℕ) (reading : List ℕ → Reading) → used ≡ length piece
    → ReaderMeans task (grows (take used piece)) (length s + used) v (λ z. reading (s ++ (take used piece ++ z))) → ReaderMeans task (grows piece) (length (s ++ piece)) v (λ z. reading ((s ++ piece) ++ z))
took_piece v s piece grows used reading e h =
    let all : take used piece ≡ piece = ap (λ (n : ℕ). take n piece) e ∙ take-length piece in
    let count : length s + used ≡ length (s ++ piece) = omega (arith, e, length-append s piece) in
    moved v _ _ (ap grows all) count (λ z. ap reading (append_assoc s piece z ∙ ap (λ (t : List ℕ). s ++ (t ++ z)) (sym all))) h
