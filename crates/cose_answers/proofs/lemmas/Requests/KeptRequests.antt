-- A request that keeps a payload in a new file, and what becomes of the file.
use Rattle.std.proofs.Common.{◌≡◌, ℕ, true, false, List, Option, Some, None, Bor, sym, ap, subst, ◌∙◌}
use Rattle.cose_files.specs.NewFile.{Made}
use Rattle.cose_answers.specs.Requests.{asked_for, payload_for}
use Rattle.cose_answers.specs.PayloadTo.{Settles, kept_under, new_file_for}
use Rattle.cose_answers.specs.Printed.{verified_under}
use Rattle.cose_answers.specs.Under.{Under, under_of}
use Rattle.cose_answers.specs.declared.request.Checks.{Checks}
use Rattle.cose_answers.specs.declared.request.Request.{Request}
use Rattle.cose_answers.specs.declared.request.Request.TheVariants as asks

pub kept_name : (request : Request) (checks : Checks) (file : Bor (List ℕ)) (name : List ℕ) → request ≡ asks.Keep checks file → new_file_for request ≡ Some name → file.now ≡ name
kept_name request checks file name is named =
    let same : Some file.now ≡ Some name = sym (ap new_file_for is) ∙ named in
    cc

pub kept_checks : (request : Request) (checks : Checks) (file : Bor (List ℕ)) (under : Under) → request ≡ asks.Keep checks file → kept_under request ≡ Some under → under_of checks ≡ under
kept_checks request checks file under is kept =
    let same : Some (under_of checks) ≡ Some under = sym (ap kept_under is) ∙ kept in
    cc

pub settles_name : (request : Request) (checks : Checks) (file : Bor (List ℕ)) (name : List ℕ) (old new : Made) (status : ℕ) → request ≡ asks.Keep checks file → new_file_for request ≡ Some name →
    Settles file.now old new status → Settles name old new status
settles_name request checks file name old new status is named settles = subst (λ (n : List ℕ). Settles n old new status) (kept_name request checks file name is named) settles

-- What a request keeps is in the message.
pub kept_in_message : (request : Request) (checks : Checks) (file : Bor (List ℕ)) (content : List ℕ → Option (List ℕ)) (payload : Option (List ℕ)) (bytes : List ℕ) → request ≡ asks.Keep checks file →
    payload_for content request ≡ Some payload → verified_under (under_of checks) None bytes ≡ asked_for request payload bytes
kept_in_message request checks file content payload bytes is known =
    let same : Some None ≡ Some payload = sym (ap (payload_for content) is) ∙ known in
    let none : None ≡ payload = cc in
    rw is (ap (λ (p : Option (List ℕ)). verified_under (under_of checks) p bytes) none)

-- What a request has none of isn't asked for.
pub none_named : (name : List ℕ) (A : Type 0) → None ≡ Some name → A
none_named name A named = absurd cc

pub none_kept : (under : Under) (A : Type 0) → None ≡ Some under → A
none_kept under A kept = absurd cc

pub some_named : (name : List ℕ) (A : Type 0) → Some name ≡ None → A
some_named name A none = absurd cc

pub not_so : (A : Type 0) → false ≡ true → A
not_so A so = absurd cc
