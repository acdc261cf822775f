use Rattle.std.proofs.Common.{◌≡◌, Bool, true, false, [], List, Option, ap, sym, ◌∙◌}
use Rattle.std.specs.Prelude.{if◌then◌else◌}
use Rattle.cose_map.specs.Label.View.{label_value}
use Rattle.cose_map.specs.Map.Pairs.{Pair}
use Rattle.cose_msg.specs.Message.{message}
use Rattle.cose_msg.specs.Reading.{Findings, Reading}
use Rattle.cose_msg.specs.Shown.{Shown}
use Rattle.cose_msg.specs.Task.{rules_of, to_inspect}
use Rattle.cose_msg.specs.Verifier.{setting_in}
use Rattle.cose_c.specs.Item.{item_numbers}
use Rattle.cose_c.specs.Parameter.{bucket_in, parameter_in}
use Rattle.cose_c.proofs.Messages.{read_as_fed}
use Rattle.cose_c.proofs.parameter.parameter_of.Goals as goal

one_of : (is_protected : Bool) (found : Findings) (protected unprotected : Option (List Pair)) → protected ≡ found.protected → unprotected ≡ found.unprotected →
    (if is_protected then protected else unprotected) ≡ bucket_in is_protected found
one_of true found protected unprotected p u = p
one_of false found protected unprotected p u = u

pub returns : goal.returns
returns g c =
    let task = to_inspect (setting_in c.args.verifier.now) in
    let rules = rules_of g.row.H g.row.D task in
    let fed = ap (λ (r : Reading). r.so_far) (read_as_fed c.settled_stays.ensures.message rules c.args.message.now c.feed.result.used (c.feed.ensures.uses task [] [] c.requires.fresh)) in
    let shows = c.feed.ensures.shows task [] [] c.requires.fresh in
    let protected = ap (λ (shown : Shown). shown.protected) shows ∙ ap (λ (f : Findings). f.protected) (sym fed) in
    let unprotected = ap (λ (shown : Shown). shown.unprotected) shows ∙ ap (λ (f : Findings). f.unprotected) (sym fed) in
    c.parameter_held.ensures
    ∙ ap (λ (pairs : Option (List Pair)). item_numbers (parameter_in (label_value c.args.label.now) pairs)) (one_of c.args.is_protected (message rules c.args.message.now).so_far _ _ protected unprotected)
