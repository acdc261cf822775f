-- The header parameters of a message in memory (RFC 9052 section 3).
use Rattle.std.specs.Prelude.{ℕ, Bool, true, false, List, length, min, Option, Some, None, Result, Ok, Err, option_and_then, if◌then◌else◌, ⊤}
use Rattle.cose_head.specs.Placed.{Placed}
use Rattle.cose_map.specs.Label.{LabelValue, words_of}
use Rattle.cose_map.specs.Map.Pairs.{Pair, value_of}
use Rattle.cose_msg.specs.Message.{Setting, message}
use Rattle.cose_msg.specs.Reading.{Findings}
use Rattle.cose_msg.specs.Shown.{protected_of, unprotected_of}
use Rattle.cose_msg.specs.Task.{rules_of, to_inspect}
use Rattle.cose_c.specs.declared.numbers.CoseStatus.{CoseStatus}
use Rattle.cose_c.specs.Input.{Gives}
use Rattle.cose_c.specs.Stream.{Content}

-- The value of a label in a bucket, once that was found good.
abbrev pub parameter_in : LabelValue → Option (List Pair) → Option Placed
parameter_in label pairs = option_and_then (value_of label) pairs

-- The pairs of one of the two buckets.
abbrev pub bucket_in : Bool → Findings → Option (List Pair)
bucket_in true found = found.protected
bucket_in false found = found.unprotected

-- Of a message that is read in a setting.
abbrev pub parameter_read : ℕ → ℕ → Setting → Bool → LabelValue → List ℕ → Option Placed
parameter_read room nesting setting is_protected label bytes =
    parameter_in label (bucket_in is_protected (message (rules_of room nesting (to_inspect setting)) bytes).so_far)

-- And in the setting that the arguments say, if they say one.
abbrev pub parameter_given : ℕ → ℕ → Result Setting CoseStatus → Bool → LabelValue → List ℕ → Option Placed
parameter_given room nesting (Ok setting) is_protected label bytes = parameter_read room nesting setting is_protected label bytes
parameter_given room nesting (Err status) is_protected label bytes = None

-- The same of a label that is a text string (RFC 8949 section 3.1: in UTF-8).
abbrev pub parameter_named : ℕ → ℕ → Result Setting CoseStatus → Bool → List ℕ → List ℕ → Option Placed
parameter_named room nesting given is_protected name bytes =
    option_and_then (λ label. parameter_given room nesting given is_protected label bytes) (words_of name)

-- ---- of a message that a block has taken, or some of it

abbrev pub bucket_by : {H D : ℕ} {S : Type 0} {K : _} → Bool → Content H D S K → Option (List Pair)
bucket_by is_protected None = None
bucket_by is_protected (Some v) = if is_protected then protected_of v else unprotected_of v

abbrev pub parameter_by : {H D : ℕ} {S : Type 0} {K : _} → Bool → LabelValue → Content H D S K → Option Placed
parameter_by is_protected label content = parameter_in label (bucket_by is_protected content)

abbrev pub parameter_named_by : {H D : ℕ} {S : Type 0} {K : _} → Bool → List ℕ → Content H D S K → Option Placed
parameter_named_by is_protected name content = option_and_then (λ label. parameter_by is_protected label content) (words_of name)

-- Room that has the bytes of an item, as many as it has room for.
abbrev pub GivesItem : Option Placed → List ℕ → ℕ → Type 0
GivesItem (Some item) field room = Gives item.bytes field room (min (length item.bytes) room)
GivesItem None field room = ⊤
