-- A piece that is written by several writes.
use Rattle.std.proofs.Common.{◌≡◌, ℕ, List, [], ◌∷◌, ◌++◌, take, drop, Option, Some, None, refl, sym, ap, ◌∙◌, append_assoc, append-nil, take-append-drop, subst}
use Rattle.std.specs.Io.KnownBytes.{Appends}
use Rattle.std.proofs.KnownBytes.{Appends-nil, Appends-trans}
use Rattle.cose_msg.specs.Sink.{AppendsFront}
use Rattle.cose_answers.specs.Printed.{WritesPart}
use Rattle.cose_answers.specs.WriteSink.{held_through}

-- Of the piece all but the rest is written.
pub record Written (piece : List ℕ) (old now : Option (List ℕ)) (rest : List ℕ) : Type 0 where
  pub front : List ℕ
  pub whole : piece ≡ front ++ rest
  pub grown : Appends old now front

pub none_written : (piece : List ℕ) (old : Option (List ℕ)) → Written piece old old piece
none_written piece old = record { front = []; whole = refl; grown = Appends-nil old }

-- One write took the first bytes of the rest.
pub more_written : {piece rest : List ℕ} {old now : Option (List ℕ)} (next : Option (List ℕ)) (count : ℕ) (unwritten : List ℕ) →
    Written piece old now rest → Appends now next (take count rest) → unwritten ≡ drop count rest → Written piece old next unwritten
more_written {piece} {rest} {old} {now} next count unwritten w grown left = record {
  front = w.front ++ take count rest;
  whole = w.whole ∙ ap (λ (t : List ℕ). w.front ++ t) (sym (take-append-drop count rest)) ∙ sym (append_assoc w.front (take count rest) (drop count rest)) ∙ ap (λ (t : List ℕ). (w.front ++ take count rest) ++ t) (sym left);
  grown = Appends-trans old now next w.front (take count rest) w.grown grown;
}

pub all_written : {piece : List ℕ} {old now : Option (List ℕ)} (rest : List ℕ) → rest ≡ [] → Written piece old now rest → Appends old now piece
all_written {piece} {old} {now} rest none w =
    let whole : w.front ≡ piece = sym (append-nil w.front) ∙ ap (λ (t : List ℕ). w.front ++ t) (sym none) ∙ sym w.whole in
    subst (Appends old now) whole w.grown

pub front_written : {piece : List ℕ} {old now : Option (List ℕ)} {rest : List ℕ} → Written piece old now rest → AppendsFront old now piece
front_written {piece} {old} {now} {rest} w = (w.front, (rest, w.whole), w.grown)

pub whole_front : (old now : Option (List ℕ)) (bytes : List ℕ) → Appends old now bytes → AppendsFront old now bytes
whole_front old now bytes grown = (bytes, ([], sym (append-nil bytes)), grown)

pub part_front : (old now : Option (List ℕ)) (bytes : List ℕ) → WritesPart bytes old now → AppendsFront old now bytes
part_front old now bytes w = (w.front, (w.rest, w.whole), w.grown)

-- What a sink holds through one reference grows as the writer does.
pub grown_through : (old new : Option (List ℕ)) (bytes : List ℕ) (old_name name : ℕ) → name ≡ old_name → Appends old new bytes → Appends (held_through old_name old) (held_through name new) bytes
grown_through None new bytes old_name name same grown = tt
grown_through (Some x) None bytes old_name name same grown = absurd grown
grown_through (Some x) (Some y) bytes old_name name same grown = ap (λ (n : ℕ). n ∷ y) same ∙ ap (λ (t : List ℕ). old_name ∷ t) grown

pub front_through : (old new : Option (List ℕ)) (bytes : List ℕ) (old_name name : ℕ) → name ≡ old_name → AppendsFront old new bytes → AppendsFront (held_through old_name old) (held_through name new) bytes
front_through old new bytes old_name name same (front, whole, grown) = (front, whole, grown_through old new front old_name name same grown)

first_of : List ℕ → ℕ
first_of [] = 0
first_of (n ∷ ns) = n

rest_of : List ℕ → List ℕ
rest_of [] = []
rest_of (n ∷ ns) = ns

-- And the caller that lent the writer finds in it what the sink got.
pub lent : (old new given : Option (List ℕ)) (bytes : List ℕ) (old_name name : ℕ) → (name ≡ old_name → given ≡ new) → Appends (held_through old_name old) (held_through name new) bytes → Appends old given bytes
unfolding first_of rest_of
lent None new given bytes old_name name found grown = tt
lent (Some x) None given bytes old_name name found grown = absurd grown
lent (Some x) (Some y) given bytes old_name name found grown =
    rw (found (ap first_of grown)) (ap rest_of grown)
