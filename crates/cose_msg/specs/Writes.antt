-- What the parts of `make_mac0` do with a sink, an intake and a running MAC.
use Rattle.std.specs.Prelude.{◌≡◌, ℕ, ◌+◌, ◌≤◌, Bool, false, ◌||◌, List, ◌++◌, length, Option, Result, Ok, Err, IfOk, IsOk, OnOk}
use Rattle.std.specs.Io.KnownBytes.{Appends}
use Rattle.cose_head.specs.Head.{shortest_head}
use Rattle.cose_head.specs.Shortest.{shortest}
use Rattle.cose_head.specs.declared.algorithm.Alg.{Alg}
use Rattle.cose_head.specs.declared.kind.Kind.{Kind}
use Rattle.cose_head.specs.declared.kind.Kind.TheVariants.{Mac0}
use Rattle.cose_mac.specs.Running.{FedMac}
use Rattle.cose_mac.specs.Structure.{encoded_string}
use Rattle.cose_mac.specs.declared.running.Running.{Running}
use Rattle.cose_msg.specs.declared.make.MakeFault.{MakeFault}
use Rattle.cose_msg.specs.declared.make.MakeFault.TheVariants as faults
use Rattle.cose_msg.specs.Grammar.{tag_number}
use Rattle.cose_msg.specs.Intake.{marks}
use Rattle.cose_msg.specs.Make.{TakesPayload, TakesSome, stops_for_sink}
use Rattle.cose_msg.specs.Making.{unprotected_made}
use Rattle.cose_msg.specs.Sink.{AppendsFront}

-- What is seen of a sink.
pub record Seen : Type 0 where
  pub contents : Option (List ℕ)
  pub has_failed : Bool
  pub sure : ℕ

-- The same by the functions with which a contract sees one.
abbrev pub seen : {S : Type 0} → (S → Option (List ℕ)) → (S → Bool) → (S → ℕ) → S → Seen
seen contents has_failed sure sink = record { contents = contents sink; has_failed = has_failed sink; sure = sure sink }

abbrev pub Puts : Seen → Seen → Result ℕ MakeFault → List ℕ → Type 0
Puts old new (Ok n) bytes = Appends old.contents new.contents bytes
Puts old new (Err fault) bytes = AppendsFront old.contents new.contents bytes × (fault ≡ faults.Sink)

-- Bytes were put, and their number is returned; or a prefix of them, and then the sink failed.
pub record Writes (old new : Seen) (result : Result ℕ MakeFault) (bytes : List ℕ) : Type 0 where
  pub put : Puts old new result bytes
  pub count : IfOk result (λ n. n ≡ length bytes)
  pub failure : new.has_failed ≡ marks old.has_failed result
  pub promised : length bytes ≤ old.sure → IsOk result
  pub promise : OnOk result (old.sure ≤ new.sure + length bytes)

-- The same of a sink before and after a call, as it is seen.
abbrev pub WritesTo : {S : Type 0} → (S → Seen) → S → S → Result ℕ MakeFault → List ℕ → Type 0
WritesTo view old new result bytes = Writes (view old) (view new) result bytes

-- What precedes the payload's content in a message of this kind, and in a COSE_Mac0.
abbrev pub front_under : Kind → List ℕ → Option (List ℕ) → ℕ → List ℕ
front_under kind protected kid payload_length =
    shortest_head 6 (tag_number kind)
    ++ (shortest_head 4 4
    ++ (encoded_string 2 protected
    ++ (shortest (unprotected_made kid)
    ++ shortest_head 2 payload_length)))

abbrev pub front_of : List ℕ → Option (List ℕ) → ℕ → List ℕ
front_of protected kid payload_length = front_under Mac0 protected kid payload_length

-- All bytes that were taken were put, unless the sink failed.
abbrev pub PutsTaken : Option (List ℕ) → Option (List ℕ) → Result ℕ MakeFault → List ℕ → Type 0
PutsTaken old new (Ok n) taken = Appends old new taken
PutsTaken old new (Err faults.ShortPayload) taken = Appends old new taken
PutsTaken old new (Err faults.WrongKey) taken = ⊥
PutsTaken old new (Err faults.Intake) taken = Appends old new taken
PutsTaken old new (Err faults.Sink) taken = AppendsFront old new taken
PutsTaken old new (Err faults.TooLong) taken = ⊥

-- A MAC was fed these bytes.
abbrev pub Feeds : Running → Running → List ℕ → Type 0
Feeds old new bytes = (alg : Alg) (key message : List ℕ) → FedMac old alg key message → FedMac new alg key (message ++ bytes)

-- A payload of this length was taken, fed to a MAC and put, piece by piece.
pub record Streams (payload_length : ℕ) (come come_after : Option (List ℕ)) (ended : Bool) (old new : Seen) (fed_before fed_after : Running) (result : Result ℕ MakeFault) (taken : List ℕ) : Type 0 where
  pub bytes : TakesPayload come come_after result taken
  pub count : TakesSome payload_length ended come_after result (length taken)
  pub put : PutsTaken old.contents new.contents result taken
  pub answer : IfOk result (λ n. n ≡ payload_length)
  pub fed : IsOk result → Feeds fed_before fed_after taken
  pub failure : new.has_failed ≡ (old.has_failed || stops_for_sink result)
  pub promised : payload_length ≤ old.sure → stops_for_sink result ≡ false
  pub promise : OnOk result (old.sure ≤ new.sure + payload_length)
