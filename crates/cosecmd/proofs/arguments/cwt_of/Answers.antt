use Rattle.std.proofs.Common.{◌∙◌, SFits, Some, ap, rules, sym, w64}
use Rattle.std.proofs.lemmas.Int.{to_z-of_z}
use Rattle.cosecmd.proofs.arguments.cwt_of.Goals as goal

pub returns : goal.returns
returns g c =
    let in_range : SFits w64 c.in_ok-now.now = search rules in record {
      checks = c.in_ok-checks.ensures;
      now = c.in_ok-now.ensures ∙ ap Some (sym (to_z-of_z w64 c.in_ok-now.now in_range));
      leeway = c.in_ok-leeway.ensures;
      aud = search rules;
      required = c.in_ok-required.ensures;
      printing = c.printing_of-printing.ensures;
    }
