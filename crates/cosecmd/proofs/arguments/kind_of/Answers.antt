use Rattle.std.proofs.Common.{◌∙◌, ap, codes}
use Rattle.cosecmd.specs.Options.{kind_named, options_of}
use Rattle.cosecmd.proofs.lemmas.Arguments.Options.{given_or}
use Rattle.cosecmd.proofs.arguments.kind_of.Goals as goal

pub returns : goal.returns
returns c = c.wanted_of.ensures ∙ ap kind_named (given_or (codes "kind") (options_of c.args.matches.now) c.text_of.result _ c.unwrap_or.result c.text_of.ensures c.unwrap_or.ensures)
