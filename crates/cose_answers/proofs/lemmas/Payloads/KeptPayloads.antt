-- A payload that goes into a sink, and the new file that it is kept in.
use Rattle.std.proofs.Common.{◌≡◌, ◌≢◌, ℕ, true, false, List, [], ◌++◌, Option, Some, None, Result, Ok, Err, ◌⊎◌, inl, inr, refl, sym, ap, subst, ◌∙◌}
use Rattle.std.specs.Prelude.{IfErr, IfOk, IsErr, codes, option_map, string_bytes}
use Rattle.std.specs.Io.KnownBytes.{Appends, Consumes, IsAtEnd}
use Rattle.cose_files.specs.declared.new_file.Standing.{Standing}
use Rattle.cose_files.specs.declared.new_file.Standing.TheVariants as standings
use Rattle.cose_files.specs.NewFile.{IsFirstFile, IsRemoved, IsSettled, Made, MadeFile, Stands, content_of, file_settled, settled, unnamed}
use Rattle.cose_map.specs.Key.Value.{KeyValue}
use Rattle.cose_map.specs.Map.Read.{Read}
use Rattle.cose_msg.specs.Laws.{MessageStays}
use Rattle.cose_msg.specs.Message.{Setting, message}
use Rattle.cose_msg.specs.Reading.{Reading}
use Rattle.cose_msg.specs.Rules.{Rules}
use Rattle.cose_msg.specs.Sink.{AppendsFront}
use Rattle.cose_answers.specs.declared.fault.Fault.{Fault}
use Rattle.cose_answers.specs.declared.fault.Fault.TheVariants as faults
use Rattle.cose_answers.specs.declared.reply.Reply.{Reply}
use Rattle.cose_answers.specs.declared.reply.Status.{Status}
use Rattle.cose_answers.specs.declared.reply.Status.TheVariants as statuses
use Rattle.cose_answers.specs.Faults.{WritesLine}
use Rattle.cose_answers.specs.PayloadTo.{IsOfNewFile, WritesFileFault, payload_in, payload_under, payload_where_read}
use Rattle.cose_answers.specs.Printed.{Output, Prints, Says, code_of, setting_under}
use Rattle.cose_answers.specs.Under.{Under}
use Rattle.cose_answers.specs.Vouch.{vouching}
use Rattle.cose_answers.specs.WriteSink.{held_through}
use Rattle.cose_answers.proofs.lemmas.Messages.MessageReplies.{all_come_to}
use Rattle.cose_answers.proofs.lemmas.Messages.Trailing.{left_of_input}
use Rattle.cose_answers.proofs.lemmas.Payloads.WrittenPieces.{lent}

pub where_ok : {A F : Type 0} (answer : Result A F) (P : Type 0) → P → IfOk answer (λ _. P)
where_ok (Ok x) P p = p
where_ok (Err e) P p = tt

-- The payload among the bytes taken is that of the whole input.
pub payload_of_whole : (stays : MessageStays) (rules : Rules) (bytes taken grown : List ℕ) (come come_after old new : Option (List ℕ)) → come ≡ Some bytes → Consumes come come_after taken →
    ((message rules taken).settled ≡ false → IsAtEnd come_after) → (message rules taken).so_far.payload ≡ grown → Appends old new grown → Appends old new (message rules bytes).so_far.payload
payload_of_whole stays rules bytes taken grown come come_after old new e consumes ends told grows =
    let left = left_of_input come come_after bytes taken e consumes in
    let same : message rules bytes ≡ message rules taken = all_come_to stays rules bytes taken left.0 left.2 (λ unsettled. subst IsAtEnd left.1 (ends unsettled)) in
    subst (Appends old new) (sym (ap (λ (reading : Reading). reading.so_far.payload) same ∙ told)) grows

-- And it is the one that the definitions give for these keys.
pub payload_read : {F : Type 0} (under : Under) (keys : List KeyValue) (setting : Setting) (bytes : List ℕ) (old new : Option (List ℕ)) (reply : Result Reply F) →
    under.keys ≡ Ok keys → setting ≡ setting_under under keys → Appends old new (payload_in under.room.header under.room.nesting setting (vouching under.vouch) bytes) → IfOk reply (λ _. Appends old new (payload_under under bytes))
payload_read under keys setting bytes old new reply read is grows =
    let e : payload_under under bytes ≡ payload_in under.room.header under.room.nesting setting (vouching under.vouch) bytes =
    ap (λ (t : Read (List KeyValue)). payload_where_read under t bytes) read ∙ ap (λ (x : Setting). payload_in under.room.header under.room.nesting x (vouching under.vouch) bytes) (sym is) in
    where_ok reply (Appends old new (payload_under under bytes)) (subst (Appends old new) (sym e) grows)

-- What a sink got is in the file that was lent to it.
pub lent_reply : {F : Type 0} (reply : Result Reply F) (contents contents_after old written given : Option (List ℕ)) (bytes : List ℕ) (old_name name : ℕ) →
    IfOk reply (λ _. Appends contents contents_after bytes) → contents ≡ held_through old_name old → held_through name written ≡ contents_after → (name ≡ old_name → given ≡ written) → IfOk reply (λ _. Appends old given bytes)
lent_reply (Err fault) contents contents_after old written given bytes old_name name grows held holds found = tt
lent_reply (Ok reply) contents contents_after old written given bytes old_name name grows held holds found =
    let through : Appends (held_through old_name old) (held_through name written) bytes = rw holds (rw (sym held) grows) in
    lent old written given bytes old_name name found through

-- ---- what is printed, and what becomes of the file

says_itself : (reply : Reply) → Says (record { text = string_bytes reply.text; status = reply.status }) reply
says_itself reply = record { text = refl; status = refl }

pub differs_from_fault : (status other : Status) → status ≡ other → other ≢ statuses.Fault → status ≢ statuses.Fault
differs_from_fault status other is differs e = differs (sym is ∙ e)

-- A run that prints the text of a reply with status Done has such a reply.
pub where_done : (reply : Result Reply Fault) (old new : Option (List ℕ)) (status : Status) (P : Type 0) → ((said : Output) → IfOk reply (Says said) → Prints said old new status) → status ≡ statuses.Done →
    IfOk reply (λ said. said.status ≡ statuses.Done → P) → P
where_done (Ok reply) old new status P prints is kept =
    kept (sym (prints _ (says_itself reply) (differs_from_fault status statuses.Done is (λ e. absurd cc))).0 ∙ is)
where_done (Err fault) old new status P prints is kept =
    let other : status ≡ statuses.Refused = (prints (record { text = []; status = statuses.Refused }) tt (differs_from_fault status statuses.Done is (λ e. absurd cc))).0 in
    let same : statuses.Done ≡ statuses.Refused = sym is ∙ other in
    absurd cc

pub where_refused : (reply : Result Reply Fault) (old new : Option (List ℕ)) (status : Status) (P : Type 0) → ((said : Output) → IfOk reply (Says said) → Prints said old new status) → status ≡ statuses.Refused →
    IfOk reply (λ said. said.status ≢ statuses.Done → P) → P
where_refused (Ok reply) old new status P prints is gone =
    let same : reply.status ≡ statuses.Refused = sym (prints _ (says_itself reply) (differs_from_fault status statuses.Refused is (λ e. absurd cc))).0 ∙ is in
    gone (λ done. let other : statuses.Refused ≡ statuses.Done = sym same ∙ done in absurd cc)
where_refused (Err fault) old new status P prints is gone =
    let other : status ≡ statuses.Done = (prints (record { text = []; status = statuses.Done }) tt (differs_from_fault status statuses.Refused is (λ e. absurd cc))).0 in
    let same : statuses.Refused ≡ statuses.Done = sym is ∙ other in
    absurd cc

-- The file that is kept holds what was written to it.
pub content_settled : (made : Made) (file : MadeFile) (standing : Standing) (content : Option (List ℕ)) → made.file ≡ Some file → content_of (settled standing content made) ≡ content
content_settled made file standing content is = rw is refl

pub payload_kept : (written reply : Result Reply Fault) (old mid contents contents_after : Option (List ℕ)) (made made_after : Made) (file : MadeFile) (status : Status) (payload : List ℕ) → made.file ≡ Some file →
    IfOk written (λ _. Appends old mid payload) → IfErr written (λ _. IsErr reply) → IfOk reply (λ said. said.status ≡ statuses.Done → made_after ≡ settled standings.Kept mid made) →
    ((said : Output) → IfOk reply (Says said) → Prints said contents contents_after status) → status ≡ statuses.Done → Appends old (content_of made_after) payload
payload_kept (Ok w) reply old mid contents contents_after made made_after file status payload named grows failed kept prints is =
    let e : content_of made_after ≡ mid =
    ap content_of (where_done reply contents contents_after status (made_after ≡ settled standings.Kept mid made) prints is kept) ∙ content_settled made file standings.Kept mid named in
    subst (λ (content : Option (List ℕ)). Appends old content payload) (sym e) grows
payload_kept (Err fault) (Ok r) old mid contents contents_after made made_after file status payload named grows failed kept prints is =
    let no : false ≡ true = failed in
    absurd cc
payload_kept (Err fault) (Err other) old mid contents contents_after made made_after file status payload named grows failed kept prints is =
    where_done (Err other) contents contents_after status (Appends old (content_of made_after) payload) prints is tt

-- What is kept holds what the record says that it holds.
pub kept_as : (made mid new : Made) (content : Option (List ℕ)) → new ≡ mid → mid ≡ settled standings.Kept content made → new ≡ settled standings.Kept (content_of new) made
kept_as made mid new content same kept = go made.file refl
  where
    go : (file : Option MadeFile) → made.file ≡ file → new ≡ settled standings.Kept (content_of new) made
    go None none =
        let bare : settled standings.Kept content made ≡ settled standings.Kept (content_of new) made = rw none refl in
        same ∙ kept ∙ bare
    go (Some file) some =
        let held : content_of new ≡ content = ap content_of (same ∙ kept) ∙ content_settled made file standings.Kept content some in
        rw held (same ∙ kept)

-- A file that is settled stays so where it is settled again.
pub settled_again : (old mid : Made) (standing : Standing) (content : Option (List ℕ)) → IsSettled old mid → settled standing content mid ≡ settled standing content old
settled_again old mid standing content (before, held, is) = ap (settled standing content) is ∙ settled_twice old before standing held content
  where
    twice : (file : Option MadeFile) (before standing : Standing) (held content : Option (List ℕ)) → option_map (file_settled standing content) (option_map (file_settled before held) file) ≡ option_map (file_settled standing content) file
    twice None before standing held content = refl
    twice (Some file) before standing held content = refl

    settled_twice : (old : Made) (before standing : Standing) (held content : Option (List ℕ)) → settled standing content (settled before held old) ≡ settled standing content old
    settled_twice old before standing held content = rw (twice old.file before standing held content) refl

-- Whatever a reply says, the file is settled by it.
pub settled_by : (reply : Result Reply Fault) (old new : Made) (content : Option (List ℕ)) → IfOk reply (λ said. said.status ≡ statuses.Done → new ≡ settled standings.Kept content old) →
    IfOk reply (λ said. said.status ≢ statuses.Done → new ≡ settled standings.Gone None old) → IfErr reply (λ _. IsRemoved old new) → IsSettled old new
settled_by (Ok reply) old new content kept gone removed = go reply.status kept gone
  where
    go : (status : Status) → (status ≡ statuses.Done → new ≡ settled standings.Kept content old) → (status ≢ statuses.Done → new ≡ settled standings.Gone None old) → IsSettled old new
    go statuses.Done kept gone = (standings.Kept, content, kept refl)
    go statuses.Refused kept gone = (standings.Gone, None, gone (λ e. absurd cc))
    go statuses.Fault kept gone = (standings.Gone, None, gone (λ e. absurd cc))
settled_by (Err fault) old new content kept gone (inl is) = (standings.Gone, None, is)
settled_by (Err fault) old new content kept gone (inr is) = (standings.Stuck, None, is)

pub removed_again : (old mid new : Made) → IsSettled old mid → IsRemoved mid new → IsRemoved old new
removed_again old mid new is (inl gone) = inl (gone ∙ settled_again old mid standings.Gone None is)
removed_again old mid new is (inr stuck) = inr (stuck ∙ settled_again old mid standings.Stuck None is)

pub is_done : (status : Status) → code_of status ≡ 0 → status ≡ statuses.Done
is_done statuses.Done e = refl
is_done statuses.Refused e = absurd cc
is_done statuses.Fault e = absurd cc

pub is_refused : (status : Status) → code_of status ≡ 1 → status ≡ statuses.Refused
is_refused statuses.Done e = absurd cc
is_refused statuses.Refused e = refl
is_refused statuses.Fault e = absurd cc

-- The line of a fault of the new file.
pub file_line : (old new : Option (List ℕ)) (fault : Fault) → IsOfNewFile fault → WritesLine fault old new ⊎ WritesLine faults.Memory old new → WritesFileFault old new
file_line old new fault of_file (inr line) = inr line
file_line old new faults.Memory of_file (inl line) = inr line
file_line old new (faults.File option) of_file (inl line) =
    inl (subst (λ (name : List ℕ). AppendsFront old new ((codes "fault file " ++ name) ++ codes "\n")) of_file line)
file_line old new (faults.Line option) of_file (inl line) = absurd of_file
file_line old new (faults.Keys refusal) of_file (inl line) = absurd of_file
file_line old new (faults.Key refusal) of_file (inl line) = absurd of_file
file_line old new faults.WrongKey of_file (inl line) = absurd of_file
file_line old new faults.TooLong of_file (inl line) = absurd of_file
file_line old new faults.Input of_file (inl line) = absurd of_file

-- ---- the file of a name

pub stands : (name : List ℕ) (old mid new : Made) (standing : Standing) (content : Option (List ℕ)) → IsFirstFile name old mid → new ≡ settled standing content mid → Stands name standing new
stands name old mid new standing content first is =
    let file : new.file ≡ Some (record { name = name; standing = standing; content = content }) = ap (λ (made : Made). made.file) is ∙ ap (option_map (file_settled standing content)) first.1 in
    (content, file)

pub stands_removed : (name : List ℕ) (old mid new : Made) → IsFirstFile name old mid → IsRemoved mid new → Stands name standings.Gone new ⊎ Stands name standings.Stuck new
stands_removed name old mid new first (inl gone) = inl (stands name old mid new standings.Gone None first gone)
stands_removed name old mid new first (inr stuck) = inr (stands name old mid new standings.Stuck None first stuck)

-- What a file holds to which all is written from its beginning.
holds_all : (before content : Option (List ℕ)) (payload : List ℕ) → before ≡ Some [] → Appends before content payload → content ≡ Some payload
holds_all (Some x) None payload is grows = absurd grows
holds_all None content payload is grows = absurd cc
holds_all (Some x) (Some y) payload is grows =
    let none : x ≡ [] = cc in
    ap Some (grows ∙ ap (λ (front : List ℕ). front ++ payload) none)

pub holds_payload : (name : List ℕ) (old mid new : Made) (before : Option (List ℕ)) (payload : List ℕ) → IsFirstFile name old mid → before ≡ Some [] →
    ((made : MadeFile) → mid.file ≡ Some made → Appends before (content_of new) payload) → content_of new ≡ Some payload
holds_payload name old mid new before payload first is grows =
    holds_all before (content_of new) payload is (grows (unnamed name) first.1)

-- A first file that is settled was made, and its name wasn't taken.
pub none_made : (name : List ℕ) (old mid new : Made) (A : Type 0) → IsFirstFile name old mid → IsSettled mid new → new.file ≡ old.file → A
none_made name old mid new A first settles same =
    let stood = stands name old mid new settles.0 settles.1 first settles.2 in
    let no : Some (record { name = name; standing = settles.0; content = stood.0 }) ≡ None = sym stood.1 ∙ same ∙ first.0 in
    absurd cc

pub taken_before : (mid new : Made) → IsSettled mid new → new.is_taken ≡ Some true → mid.is_taken ≡ Some true
taken_before mid new settles taken = sym (ap (λ (made : Made). made.is_taken) settles.2) ∙ taken

-- A run settles the file, also where it withdraws it.
pub settled_in_end : (old mid new : Made) (status : Status) → IsSettled old mid → (status ≢ statuses.Fault → new ≡ mid) → (status ≡ statuses.Fault → IsRemoved mid new) → IsSettled old new
settled_in_end old mid new statuses.Done settles stays removed = (settles.0, settles.1, stays (λ e. absurd cc) ∙ settles.2)
settled_in_end old mid new statuses.Refused settles stays removed = (settles.0, settles.1, stays (λ e. absurd cc) ∙ settles.2)
settled_in_end old mid new statuses.Fault settles stays removed = go (removed_again old mid new settles (removed refl))
  where
    go : IsRemoved old new → IsSettled old new
    go (inl gone) = (standings.Gone, None, gone)
    go (inr stuck) = (standings.Stuck, None, stuck)
