-- The new file that the arguments name for a payload, and what becomes of it.
use Rattle.std.proofs.Common.{◌≡◌, ℕ, List, Option, Some, None, sym, ◌∙◌}
use Rattle.clap.specs.Walk.{Text}
use Rattle.cose_files.specs.NewFile.{Made}
use Rattle.cosecmd.specs.PayloadTo.{KeepsUnder, SettlesNamed}
use Rattle.cose_answers.specs.PayloadTo.{Settles, new_file_for}
use Rattle.cose_answers.specs.Under.{Under}
use Rattle.cose_answers.specs.declared.request.Request.{Request}

-- What becomes of the file that the arguments name.
pub settles_named : (request : Request) (file : Option Text) (old new : Made) (status : ℕ) → new_file_for request ≡ file → ((name : List ℕ) → new_file_for request ≡ Some name → Settles name old new status) →
    (new_file_for request ≡ None → new ≡ old) → SettlesNamed file old new status
settles_named request None old new status is settles unnamed = unnamed is
settles_named request (Some name) old new status is settles unnamed = settles name is

-- A request without a new file keeps nothing.
pub keeps_none : (said : Option Under) (request : Request) → new_file_for request ≡ None → KeepsUnder said request
keeps_none said request none name under named is =
    let no : None ≡ Some name = sym none ∙ named in
    absurd cc
