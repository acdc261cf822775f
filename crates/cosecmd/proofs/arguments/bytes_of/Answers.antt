use Rattle.std.proofs.Common.{◌∙◌, ap}
use Rattle.std.proofs.lemmas.Result.{IfOk-weaker}
use Rattle.cosecmd.specs.Options.{bytes_or_none, options_of}
use Rattle.cosecmd.proofs.lemmas.Arguments.Options.{given, left_out, no_bytes}
use Rattle.cosecmd.proofs.arguments.bytes_of.Goals as goal

pub returns-in-Some : goal.returns-in-Some
returns-in-Some c =
    let there = given c.args.option.now (options_of c.args.matches.now) c.text_of.result c.in-Some.text c.text_of.ensures c.in-Some.is in
    IfOk-weaker c.decode.result _ _ (λ bytes is. ap bytes_or_none there ∙ is) c.decode.ensures.value

pub returns-in-None : goal.returns-in-None
returns-in-None c =
    no_bytes _ c.new.result.items (left_out c.args.option.now (options_of c.args.matches.now) c.text_of.result c.text_of.ensures c.in-None.is) c.new.ensures.items
