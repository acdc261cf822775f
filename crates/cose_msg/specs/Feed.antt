-- What feeding a piece of a message uses of it, and several pieces in a row.
use Rattle.std.specs.Prelude.{◌≡◌, ◌≢◌, ℕ, ◌+◌, ◌-◌, ◌<◌, ◌≤◌, false, List, [], ◌∷◌, ◌++◌, length, take, drop}
use Rattle.std.specs.List.{concat}
use Rattle.cose_msg.specs.declared.status.Fed.{Fed}
use Rattle.cose_msg.specs.declared.status.Status.{Status}
use Rattle.cose_msg.specs.declared.status.Status.TheVariants.{PayloadNext}
use Rattle.cose_msg.specs.declared.verifier.Verifier.{Verifier}
use Rattle.cose_msg.specs.Kept.{HasTaken, SamePurpose, WhateverTaken, bytes_taken}
use Rattle.cose_msg.specs.Message.{message}
use Rattle.cose_msg.specs.Rules.{Rules}
use Rattle.cose_msg.specs.Shown.{ShowsReading}
use Rattle.cose_msg.specs.Status.{is_more, status_in, status_of_reading}
use Rattle.cose_msg.specs.Task.{rules_of}
use Rattle.cose_msg.specs.Verifier.{is_detached}

-- Of a piece after the bytes so far, the fewest bytes that settle the message; all of the piece, where none do.
pub record Uses (rules : Rules) (so_far piece : List ℕ) (used : ℕ) : Type 0 where
  pub within : used ≤ length piece
  pub none_earlier : (n : ℕ) → n < used → (message rules (so_far ++ take n piece)).settled ≡ false
  pub all : (message rules (so_far ++ take used piece)).settled ≡ false → used ≡ length piece

-- The bytes of a piece between two places.
abbrev pub part_of : List ℕ → ℕ → ℕ → List ℕ
part_of piece from to = take (to - from) (drop from piece)

-- The payload's bytes of a piece that was fed.
abbrev pub payload_in : Fed → List ℕ → List ℕ
payload_in fed piece = part_of piece fed.payload_from fed.payload_to

-- Nothing was used of a piece.
abbrev pub nothing_used : Status → Fed
nothing_used status = record { used = 0; payload_from = 0; payload_to = 0; status = status }

-- What a call that takes a piece says of it and does to the verifier: of the bytes so far, whatever cuts they came in, and the
-- piece. (The payload's bytes are some of those that were used, or both places are 0. Where no byte is wanted, nothing changes.)
pub record TakesPiece {H D : ℕ} {S : Type 0} {K : _} (old : Verifier H D S K) (piece : List ℕ) (fed : Fed) (new : Verifier H D S K) : Type 0 where
  pub uses : WhateverTaken old (λ task taken _. Uses (rules_of H D task) taken piece fed.used)
  pub taken : WhateverTaken old (λ task taken payload_so_far. HasTaken task (taken ++ take fed.used piece) (payload_so_far ++ payload_in fed piece) new)
  pub status : WhateverTaken old (λ task taken _. fed.status ≡ status_of_reading (message (rules_of H D task) (taken ++ take fed.used piece)))
  pub attached : WhateverTaken old (λ _ _ _. is_detached old ≡ false → fed.status ≢ PayloadNext)
  pub payload : WhateverTaken old (λ task taken _. (message (rules_of H D task) (taken ++ take fed.used piece)).so_far.payload
      ≡ (message (rules_of H D task) taken).so_far.payload ++ payload_in fed piece)
  pub shows : WhateverTaken old (λ task taken _. ShowsReading task (taken ++ take fed.used piece) new)
  pub fits : fed.used ≤ length piece
  pub ordered : fed.payload_from ≤ fed.payload_to
  pub among : fed.payload_to ≤ fed.used
  pub none : fed.payload_from ≡ fed.payload_to → fed.payload_to ≡ 0
  pub current : fed.status ≡ status_in new
  pub counted : bytes_taken new ≡ bytes_taken old + fed.used
  pub again : is_more (status_in old) ≡ false → (fed ≡ nothing_used (status_in old)) × (new ≡ old)
  pub purpose : SamePurpose old new

-- Where pieces are fed in this order after some bytes, these are the bytes so far.
abbrev pub FedAfter : Rules → List ℕ → List (List ℕ) → List ℕ → Type 0
FedAfter rules before [] so_far = so_far ≡ before
FedAfter rules before (piece ∷ pieces) so_far = (used : ℕ) × Uses rules before piece used × FedAfter rules (before ++ take used piece) pieces so_far

-- They are a function of the joined pieces alone, however these were cut.
abbrev pub CutsDontMatter : Type 0
CutsDontMatter = (rules : Rules) (before : List ℕ) (pieces others : List (List ℕ)) (so_far other : List ℕ) → concat pieces ≡ concat others →
    FedAfter rules before pieces so_far → FedAfter rules before others other → so_far ≡ other

-- They are those that are used of the joined pieces.
abbrev pub PiecesJoin : Type 0
PiecesJoin = (rules : Rules) (before : List ℕ) (pieces : List (List ℕ)) (so_far : List ℕ) → FedAfter rules before pieces so_far →
    FedAfter rules before (concat pieces ∷ []) so_far
