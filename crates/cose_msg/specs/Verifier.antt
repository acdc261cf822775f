-- A verifier: what its message is verified under, and what it was made for.
use Rattle.std.specs.Prelude.{ℕ, Bool, false, List, [], Option, is_some, map}
use Rattle.cose_map.specs.Key.Value.{KeyValue}
use Rattle.cose_map.specs.Label.View.{label_value}
use Rattle.cose_msg.specs.declared.context.Context.{Context}
use Rattle.cose_msg.specs.declared.verifier.Verifier.{Verifier}
use Rattle.cose_msg.specs.Message.{Setting}
use Rattle.cose_msg.specs.Phase.{asks_signature, frame_of}
use Rattle.cose_msg.specs.Reader.{opened_by, setting_with}
use Rattle.cose_msg.specs.Source.{attached, detached, is_detached_from, source_with}
use Rattle.cose_msg.specs.Task.{Task, asks}

-- A context of the code, without where it is in memory, by what its keys mean.
abbrev pub setting_of : {S : Type 0} → (S → List KeyValue) → Context S → Setting
setting_of usable context = record {
  keys = usable context.keys;
  aad = context.aad.now;
  wanted = context.wanted;
  cwt = context.cwt;
  understood = map label_value context.understood.now;
  payload_limit = context.payload_limit;
  source = attached;
  elsewhere = false;
}

-- The same, where the length of a detached payload is stated, if there is one, and none of it has come.
abbrev pub sourced : Option ℕ → Setting → Setting
sourced detached_length setting = record setting { source = source_with [] detached_length }

-- The same, where it is stated too whether the message is authenticated elsewhere.
abbrev pub placed : Bool → Option ℕ → Setting → Setting
placed elsewhere detached_length setting = record setting { source = source_with [] detached_length; elsewhere = elsewhere }

-- The same, of a message that has its payload and isn't authenticated elsewhere.
abbrev pub attaching : Setting → Setting
attaching setting = record setting { source = attached; elsewhere = false }

abbrev pub detaching : ℕ → Setting → Setting
detaching detached_length setting = record setting { source = detached [] detached_length }

-- The setting that the verifier reads a message under, of whose payload, where it is detached, nothing has come.
abbrev pub setting_in : {H D : ℕ} {S : Type 0} {K : _} → Verifier H D S K → Setting
setting_in {K = K} v = setting_with (K.usable v.keys) (source_with [] v.detached_length) v.elsewhere v.reader.terms

-- What it was made for.
abbrev pub task_of : {H D : ℕ} {S : Type 0} {K : _} → Verifier H D S K → Task
task_of v = record { setting = setting_in v; inspects = v.inspecting }

-- Whether it was made for a message that is authenticated elsewhere.
abbrev pub is_elsewhere : {H D : ℕ} {S : Type 0} {K : _} → Verifier H D S K → Bool
is_elsewhere v = asks (task_of v)

-- Whether it was made for a detached payload.
abbrev pub is_detached : {H D : ℕ} {S : Type 0} {K : _} → Verifier H D S K → Bool
is_detached v = is_detached_from (setting_in v).source

-- Whether the payload's head was read, and no verdict is known.
abbrev pub is_framed : {H D : ℕ} {S : Type 0} {K : _} → Verifier H D S K → Bool
is_framed v = is_some (frame_of v.reader.phase)

-- Whether all bytes of a COSE_Sign1 are there, and no verdict is known.
abbrev pub asks_about_signature : {H D : ℕ} {S : Type 0} {K : _} → Verifier H D S K → Bool
asks_about_signature v = asks_signature v.reader.phase

-- How many arrays, maps and tags of the unprotected bucket are open.
abbrev pub opened : {H D : ℕ} {S : Type 0} {K : _} → Verifier H D S K → ℕ
opened v = opened_by v.reader
