use Rattle.std.proofs.Common.{◌∙◌, ap, codes}
use Rattle.cosecmd.specs.Options.{limits_named, options_of}
use Rattle.cosecmd.proofs.lemmas.Arguments.Options.{given_or}
use Rattle.cosecmd.proofs.arguments.limits_of.Goals as goal

pub returns : goal.returns
returns c = c.limits_named_by.ensures ∙ ap limits_named (given_or (codes "limits") (options_of c.args.matches.now) c.text_of.result _ c.unwrap_or.result c.text_of.ensures c.unwrap_or.ensures)
