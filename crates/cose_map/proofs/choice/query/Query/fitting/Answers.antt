use Rattle.std.proofs.Common.{rules, ◌≡◌, ℤ, Bool, true, false, Option, Some, None, option_and_then, if◌then◌else◌, SFits, refl, sym, ◌∙◌, to_z, of_z}
use Rattle.std.specs.Int.{w128}
use Rattle.std.proofs.lemmas.Int.{to_z-of_z}
use Rattle.cose_map.specs.Choice.{◌>>=◌, Question, algorithm_used, fits, fitting as fitting_key, integer_in_label}
use Rattle.cose_map.specs.Choice.View.{question}
use Rattle.cose_map.specs.Key.Value.{KeyValue}
use Rattle.cose_map.specs.Key.View.{key_value}
use Rattle.cose_map.specs.Label.{LabelValue, number, words}
use Rattle.cose_map.proofs.choice.query.Query.fitting.Goals as goal

-- the key with the algorithm of this number, where the test holds
abbrev tried : KeyValue → (ℤ → Bool) → ℤ → Option (KeyValue × ℤ)
tried key test n = if test n then Some (key, n) else None

by_label : (label : Option LabelValue) (key : KeyValue) (test : ℤ → Bool) → (label >>= (λ alg. integer_in_label alg >>= tried key test)) ≡ (option_and_then integer_in_label label >>= tried key test)
by_label None key test = refl
by_label (Some (number n)) key test = refl
by_label (Some (words name)) key test = refl

-- What is found for a key that is used with the algorithm of this number, or with none.
by_number : (q : Question) (key : KeyValue) (used : Option ℤ) → used ≡ option_and_then integer_in_label (algorithm_used q.protected_alg q.unprotected_alg key.alg) → fitting_key q key ≡ (used >>= tried key (fits q key))
by_number q key used is = rw is (by_label (algorithm_used q.protected_alg q.unprotected_alg key.alg) key (fits q key))

pub returns-in-Some : goal.returns-in-Some
returns-in-Some c =
    let in_range : SFits w128 c.in-Some.algorithm = search rules in
    let read : to_z w128 (of_z w128 c.in-Some.algorithm) ≡ c.in-Some.algorithm = to_z-of_z w128 c.in-Some.algorithm in_range in
    let found : fitting_key (question c.args.self.now) (key_value c.args.key.now) ≡ (c.algorithm_for.result >>= tried (key_value c.args.key.now) (fits (question c.args.self.now) (key_value c.args.key.now))) =
    by_number (question c.args.self.now) (key_value c.args.key.now) c.algorithm_for.result c.algorithm_for.ensures in
    let holds : fits (question c.args.self.now) (key_value c.args.key.now) c.in-Some.algorithm ≡ true = rw read at (sym c.fits.ensures ∙ c.if-fits.true) in
    rw (found, c.in-Some.is, holds, read) refl

pub returns-in_default : goal.returns-in_default
returns-in_default c =
    let in_range : SFits w128 c.in-Some.algorithm = search rules in
    let read : to_z w128 (of_z w128 c.in-Some.algorithm) ≡ c.in-Some.algorithm = to_z-of_z w128 c.in-Some.algorithm in_range in
    let found : fitting_key (question c.args.self.now) (key_value c.args.key.now) ≡ (c.algorithm_for.result >>= tried (key_value c.args.key.now) (fits (question c.args.self.now) (key_value c.args.key.now))) =
    by_number (question c.args.self.now) (key_value c.args.key.now) c.algorithm_for.result c.algorithm_for.ensures in
    let holds : fits (question c.args.self.now) (key_value c.args.key.now) c.in-Some.algorithm ≡ false = rw read at (sym c.fits.ensures ∙ c.if-fits.false) in
    rw (found, c.in-Some.is, holds) refl
