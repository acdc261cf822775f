-- What is known of the structure that is authenticated, once the payload's head was read.
use Rattle.std.proofs.Common.{◌≡◌, ℕ, ◌+◌, true, false, cond, List, [], ◌++◌, length, Option, Some, None, refl, sym, ap, ◌∙◌}
use Rattle.std.specs.Prelude.{◌==◌, IfSome, is_none, is_some, option_map}
use Rattle.cose_map.specs.Map.Pairs.{Pair}
use Rattle.cose_msg.specs.declared.phase.Frame.{Frame}
use Rattle.cose_msg.specs.declared.phase.Phase as code
use Rattle.cose_msg.specs.declared.phase.Phase.TheVariants as phases
use Rattle.cose_msg.specs.declared.reader.Reader.{Reader}
use Rattle.cose_msg.specs.Answer.{Chosen, Headers, Whole, complete}
use Rattle.cose_msg.specs.Chosen.{chosen_value}
use Rattle.cose_msg.specs.Phase.{frame_of}
use Rattle.cose_head.specs.declared.kind.Kind.{Kind}
use Rattle.cose_mac.specs.Structure.{structure_of}
use Rattle.cose_msg.specs.Elsewhere.{AsksKey, IsFrontOf}
use Rattle.cose_msg.specs.Message.{protected_content, structure}
use Rattle.cose_msg.specs.Reader.{HoldsIn, Known, ReaderMeans, left_in, past_nil, whole_of}
use Rattle.cose_msg.specs.Shown.{protected_by}
use Rattle.cose_msg.proofs.lemmas.Deciding.Decisions.{bucket_shown}
use Rattle.cose_msg.specs.declared.reader.Chosen as held
use Rattle.cose_msg.specs.Reading.{Findings, Reading}
use Rattle.cose_msg.specs.Rules.{Rules}
use Rattle.cose_msg.specs.Source.{Source, detached}
use Rattle.cose_msg.specs.Task.{Task, asks, is_keyless, rules_of}
use Rattle.cose_msg.proofs.lemmas.Choosing.Purposed.{both_true}
use Rattle.cose_msg.proofs.lemmas.Reading.Completes.{Reads, auth-gives, auth_head-gives, detached_payload-gives, payload-gives}

-- A message that is authenticated elsewhere is read without the comparison.
pub reads_elsewhere : (H D : ℕ) (task : Task) → asks task ≡ true → Reads (rules_of H D task)
reads_elsewhere H D task away whole = let both = both_true task.inspects task.setting.elsewhere away in rw (both.0, both.1) refl

pub record IsFramed {H D : ℕ} (task : Task) (known : Known) (so_far : Findings) (v : Reader H D) (phase : code.Phase) (frame : Frame) : Type 0 where
  pub kind_is : known.headers.kind ≡ frame.kind
  pub key_is : option_map chosen_value v.chosen ≡ known.chosen
  pub protected_is : known.headers.protected ≡ v.protected.items
  pub has_key : is_none known.chosen ≡ false
  pub pairs_are : so_far.protected ≡ Some known.headers.protected_pairs
  pub gives : (more : List ℕ) (whole : Whole) → (left_in (rules_of H D task) known so_far v phase more).answer ≡ complete whole →
      (whole.headers ≡ known.headers) × (whole.chosen ≡ known.chosen) × (length whole.payload ≡ frame.payload)

past_nil-gives : (source : Source) (rules : Rules) → Reads rules → (headers : Headers) (chosen : Option Chosen) (came : List ℕ) (detached_length at after : ℕ) → source ≡ detached came detached_length → (more : List ℕ) (whole : Whole) → (past_nil source rules headers chosen at after more).answer ≡ complete whole →
    (whole.headers ≡ headers) × (whole.chosen ≡ chosen) × (length whole.payload ≡ detached_length)
past_nil-gives source rules reads headers chosen came detached_length at after is more whole e =
    detached_payload-gives rules reads headers chosen came detached_length at after more whole (rw is at e)

with_payload : (headers : Headers) (chosen : Option Chosen) (payload : List ℕ) (n : ℕ) (whole : Whole) → length payload ≡ n → (whole.headers ≡ headers) × (whole.chosen ≡ chosen) × (length whole.payload ≡ length payload) → (whole.headers ≡ headers) × (whole.chosen ≡ chosen) × (length whole.payload ≡ n)
with_payload headers chosen payload n whole count is = (is.0, is.1, is.2 ∙ count)

module _ {H D : ℕ} (task : Task) (away : asks task ≡ true) (known : Known) (so_far : Findings) (n : ℕ) (v : Reader H D) where
  rules : Rules
  rules = rules_of H D task

  reads : Reads rules
  unfolding rules
  reads = reads_elsewhere H D task away

  keyed : is_keyless task ≡ false
  keyed = let both = both_true task.inspects task.setting.elsewhere away in rw (both.0, both.1) refl

  pub framed_in : (phase : code.Phase) (frame : Frame) → HoldsIn task known so_far n v phase → frame_of phase ≡ Some frame → IsFramed task known so_far v phase frame
  unfolding rules
  framed_in (phases.Payload p) frame h e = let same : record { kind = p.kind; payload = p.length } ≡ frame = cc in rw (← same) (record {
    kind_is = h.3.0;
    key_is = h.3.1;
    has_key = h.3.2 ∙ keyed;
    protected_is = h.3.4;
    pairs_are = ap (λ (t : Findings). t.protected) h.0;
    gives = λ more whole is. payload-gives rules reads known.headers known.chosen p.length p.at (known.payload ++ more) whole is;
  })
  framed_in (phases.Detached p) frame h e = let same : record { kind = p.kind; payload = p.length } ≡ frame = cc in rw (← same) (record {
    kind_is = h.3.0;
    key_is = h.3.1;
    has_key = h.3.2 ∙ keyed;
    protected_is = h.3.4;
    pairs_are = ap (λ (t : Findings). t.protected) h.0;
    gives = λ more whole is. past_nil-gives task.setting.source rules reads known.headers known.chosen (known.payload ++ h.5.0) p.length p.at p.after h.5.1 more whole is;
  })
  framed_in (phases.AuthHead p) frame h e = let same : record { kind = p.kind; payload = p.payload } ≡ frame = cc in rw (← same) (record {
    kind_is = h.2.0;
    key_is = h.2.1;
    has_key = h.2.2 ∙ keyed;
    protected_is = h.2.4;
    pairs_are = ap (λ (t : Findings). t.protected) h.0;
    gives = λ more whole is. with_payload known.headers known.chosen known.payload p.payload whole h.3 (auth_head-gives rules reads known.headers known.chosen known.payload p.at (v.head.items ++ more) whole is);
  })
  framed_in (phases.Auth p) frame h e = let same : record { kind = p.kind; payload = p.payload } ≡ frame = cc in rw (← same) (record {
    kind_is = h.3.0;
    key_is = h.3.1;
    has_key = h.3.2 ∙ keyed;
    protected_is = h.3.4;
    pairs_are = ap (λ (t : Findings). t.protected) h.0;
    gives = λ more whole is. with_payload known.headers known.chosen known.payload p.payload whole h.4 (auth-gives rules reads known.headers known.chosen known.payload p.head_at p.length p.at (known.auth ++ more) whole is);
  })
  framed_in (phases.Signed p) frame h e = let same : record { kind = p.kind; payload = p.payload } ≡ frame = cc in rw (← same) (record {
    kind_is = h.2.kind_is;
    key_is = h.2.key_is ∙ sym h.2.chosen_is;
    has_key = ap is_none h.2.chosen_is;
    protected_is = h.3;
    pairs_are = ap (λ (t : Findings). t.protected) h.0;
    gives = λ more whole is. let one : whole_of known p.head_at p.taken ≡ whole = cc in rw (← one) (refl, refl, h.2.payload_is);
  })
  framed_in phases.FirstHead frame h e = absurd cc
  framed_in (phases.TagHead p) frame h e = absurd cc
  framed_in (phases.ArrayHead p) frame h e = absurd cc
  framed_in (phases.ProtectedHead p) frame h e = absurd cc
  framed_in (phases.Protected p) frame h e = absurd cc
  framed_in (phases.Unprotected p) frame h e = absurd cc
  framed_in (phases.PayloadHead p) frame h e = absurd cc
  framed_in (phases.Decided verdict) frame h e = absurd h
  framed_in (phases.Settled verdict) frame h e = absurd cc
  framed_in (phases.Shaped p) frame h e = absurd cc

-- ---- a reader

same_structure : (kind other : Kind) (protected content aad given payload : List ℕ) → kind ≡ other → protected ≡ content → aad ≡ given → structure_of kind protected aad payload ≡ structure_of other content given payload
same_structure kind other protected content aad given payload e f g = rw (e, f, g) refl

some_key : (chosen : Option held.Chosen) (known : Option Chosen) → option_map chosen_value chosen ≡ known → is_none known ≡ false → is_some chosen ≡ true
some_key (Some one) known same there = refl
some_key None known same there = let clash : true ≡ false = ap is_none same ∙ there in absurd cc

module _ {H D : ℕ} {task : Task} {B : List ℕ} {n : ℕ} {v : Reader H D} {reading : List ℕ → Reading} (frame : Frame) (e : frame_of v.phase ≡ Some frame) (h : ReaderMeans task B n v reading) (away : asks task ≡ true) where
  pub framed : IsFramed task h.known h.so_far v v.phase frame
  framed = framed_in task away h.known h.so_far n v v.phase frame h.holds e

  gives_whole : (more : List ℕ) (whole : Whole) → (reading more).answer ≡ complete whole → (whole.headers ≡ h.known.headers) × (whole.chosen ≡ h.known.chosen) × (length whole.payload ≡ frame.payload)
  gives_whole more whole is = framed.gives more whole (ap (λ (r : Reading). r.answer) (sym (h.left more)) ∙ is)

  -- The protected bucket was found good.
  pub shows_protected : protected_by v ≡ Some h.known.headers.protected_pairs
  shows_protected = let f : IsFramed task h.known h.so_far v v.phase frame = framed in bucket_shown D h.so_far.protected v.protected_at v.protected.items h.shows.1 ∙ f.pairs_are

  same_pairs : (pairs other : List Pair) → Some pairs ≡ Some other → pairs ≡ other
  same_pairs pairs other same = cc

  -- What the pieces are joined, and any payload of that length, are the structure.
  pub front_is : (front protected : List ℕ) (pairs : List Pair) → ((payload : List ℕ) → length payload ≡ frame.payload → front ++ payload ≡ structure_of frame.kind protected v.terms.aad.now payload) →
      Some pairs ≡ protected_by v → protected ≡ cond (length pairs == 0) [] v.protected.items → IsFrontOf task.setting.aad reading front
  unfolding structure
  front_is front protected pairs completes shown content more whole is =
      let f : IsFramed task h.known h.so_far v v.phase frame = framed in
      let under = gives_whole more whole is in
      let same : pairs ≡ h.known.headers.protected_pairs = same_pairs pairs h.known.headers.protected_pairs (shown ∙ shows_protected) in
      let kind : frame.kind ≡ whole.headers.kind = sym (ap (λ (t : Headers). t.kind) under.0 ∙ f.kind_is) in
      let of_known : protected ≡ protected_content h.known.headers = content ∙ rw (same, f.protected_is) refl in
      let bytes : protected ≡ protected_content whole.headers = of_known ∙ ap protected_content (sym under.0) in
      let aad : v.terms.aad.now ≡ task.setting.aad = ap (λ (t : Task). t.setting.aad) h.shows.0 in
      completes whole.payload under.2 ∙ same_structure frame.kind whole.headers.kind protected (protected_content whole.headers) v.terms.aad.now task.setting.aad whole.payload kind bytes aad

  -- The key that was chosen.
  pub key_is_asked : (one : held.Chosen) → v.chosen ≡ Some one → AsksKey reading (chosen_value one)
  key_is_asked one chosen more whole is =
      let f : IsFramed task h.known h.so_far v v.phase frame = framed in
      let known : h.known.chosen ≡ Some (chosen_value one) = sym f.key_is ∙ ap (option_map chosen_value) chosen in
      (gives_whole more whole is).1 ∙ known

  pub key_is_there : is_some v.chosen ≡ true
  key_is_there = let f : IsFramed task h.known h.so_far v v.phase frame = framed in some_key v.chosen h.known.chosen f.key_is f.has_key

-- What holds of a value, if there is one.
pub some_too : {A : Type 0} (found : Option A) {One Other : A → Type 0} → ((x : A) → One x → Other x) → IfSome found One → IfSome found Other
some_too (Some x) h is = h x is
some_too None h is = tt
