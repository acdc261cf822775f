-- Which fault a run ends with, and the line that is printed for it.
use Rattle.std.specs.Prelude.{◌≡◌, ◌↔◌, ◌⊎◌, ℕ, Bool, true, false, List, ◌++◌, Option, Some, None, Result, Ok, Err, ⊤, codes, option_map}
use Rattle.cose_head.specs.Refusal.{refusal_text}
use Rattle.cose_head.specs.declared.algorithm.Alg.{Alg}
use Rattle.cose_head.specs.declared.refusal.Refusal.{Refusal}
use Rattle.cose_map.specs.Key.Value.{KeyValue}
use Rattle.cose_map.specs.Map.Read.{Read}
use Rattle.cose_msg.specs.declared.make.MakeFault.{MakeFault}
use Rattle.cose_msg.specs.declared.make.MakeFault.TheVariants as makes
use Rattle.cose_msg.specs.Make.{make_fault}
use Rattle.cose_msg.specs.Sink.{AppendsFront}
use Rattle.cose_map.specs.Key.{key_of}
use Rattle.cose_answers.specs.declared.fault.Fault.{Fault}
use Rattle.cose_answers.specs.declared.fault.Fault.TheVariants as faults
use Rattle.cose_answers.specs.declared.request.Make.{Make}

-- Whether the fault says that the input failed.
abbrev pub is_of_input : Fault → Bool
is_of_input faults.Input = true
is_of_input _ = false

abbrev pub fails_by_input : {A : Type 0} → Result A Fault → Bool
fails_by_input (Ok answer) = false
fails_by_input (Err fault) = is_of_input fault

-- Whether the fault says that a file failed.
abbrev pub is_of_file : Fault → Bool
is_of_file (faults.File option) = true
is_of_file _ = false

abbrev pub fails_by_file : {A : Type 0} → Result A Fault → Bool
fails_by_file (Ok answer) = false
fails_by_file (Err fault) = is_of_file fault

abbrev pub IsOfMemoryOrInput : Fault → Type 0
IsOfMemoryOrInput fault = (fault ≡ faults.Memory) ⊎ (fault ≡ faults.Input)

-- Where the key set is refused, and only there, the fault is of the keys, with the same refusal.
abbrev pub FailsForKeys : {A : Type 0} → Read (List KeyValue) → Result A Fault → Type 0
FailsForKeys keys result = (refusal : Refusal) → keys ≡ Err refusal ↔ result ≡ Err (faults.Keys refusal)

-- A fault of a file names this option.
abbrev pub NamesOption : List ℕ → Fault → Type 0
NamesOption name (faults.File option) = option.now ≡ name
NamesOption name _ = ⊤

abbrev pub fault_in : {A : Type 0} → Result A Fault → Option Fault
fault_in (Ok answer) = None
fault_in (Err fault) = Some fault

-- The fault of the key or of the other arguments where a message is to be made. A short input has no fault of its own.
abbrev pub fault_of_arguments : Option MakeFault → Option Fault
fault_of_arguments (Some makes.WrongKey) = Some faults.WrongKey
fault_of_arguments (Some makes.TooLong) = Some faults.TooLong
fault_of_arguments _ = None

abbrev pub fault_of_making : Read KeyValue → Alg → Option (List ℕ) → List ℕ → ℕ → Option Fault
fault_of_making (Ok key) alg kid aad payload_length = fault_of_arguments (make_fault alg key kid aad payload_length)
fault_of_making (Err refusal) alg kid aad payload_length = Some (faults.Key refusal)

-- The fault of the key or of the other arguments of `make`.
abbrev pub making_fault : Make → Option Fault
making_fault words =
    fault_of_making (key_of (record { bytes = words.key.items; place = 0 })) words.alg (option_map (λ word. word.items) words.kid) words.aad.items words.length

abbrev pub fault_text : Fault → List ℕ
fault_text faults.Memory = codes "fault memory"
fault_text (faults.Line option) = codes "fault line " ++ option.now
fault_text (faults.File option) = codes "fault file " ++ option.now
fault_text (faults.Keys refusal) = codes "fault keys " ++ refusal_text refusal
fault_text (faults.Key refusal) = codes "fault key " ++ refusal_text refusal
fault_text faults.WrongKey = codes "fault make WrongKey"
fault_text faults.TooLong = codes "fault make TooLong"
fault_text faults.Input = codes "fault input"

-- The line of a fault was written; where the writer failed, a prefix of it.
abbrev pub WritesLine : Fault → Option (List ℕ) → Option (List ℕ) → Type 0
WritesLine fault old new = AppendsFront old new (fault_text fault ++ codes "\n")
