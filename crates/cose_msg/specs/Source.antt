-- Where the payload of a message is (RFC 9052 sections 4.2 and 6.2).
use Rattle.std.specs.Prelude.{◌≡◌, ℕ, List, [], Bool, true, false, Option, Some, None}

-- In the message; or detached from it, where the message has nil: its bytes come from elsewhere. Those that have come, and the
-- number of all of them, which is stated.
pub data Source : Type 0 where
  attached : Source
  detached : List ℕ → ℕ → Source

abbrev pub is_detached_from : Source → Bool
is_detached_from attached = false
is_detached_from (detached came detached_length) = true

-- The bytes that have come of a detached payload.
abbrev pub came_of : Source → List ℕ
came_of attached = []
came_of (detached came detached_length) = came

-- The source of a payload, whose length is stated where it is detached, and these bytes of a detached one.
abbrev pub source_with : List ℕ → Option ℕ → Source
source_with came None = attached
source_with came (Some detached_length) = detached came detached_length

-- A payload is detached where its length is stated, and has this length.
abbrev pub IsStated : Option ℕ → Source → Type 0
IsStated detached_length source = source_with (came_of source) detached_length ≡ source

-- The number of bytes that is stated of a detached payload.
abbrev pub stated_of : Source → ℕ
stated_of attached = 0
stated_of (detached came detached_length) = detached_length

-- The same, where these bytes of a detached payload have come.
abbrev pub with_came : List ℕ → Source → Source
with_came came attached = attached
with_came came (detached before detached_length) = detached came detached_length
