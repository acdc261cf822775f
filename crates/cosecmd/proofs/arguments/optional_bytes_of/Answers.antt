use Rattle.std.proofs.Common.{◌∙◌, Some, ap, option_map}
use Rattle.cosecmd.specs.Options.{bytes_where_given, options_of}
use Rattle.cosecmd.proofs.lemmas.Arguments.Options.{given, left_out}
use Rattle.cosecmd.proofs.arguments.optional_bytes_of.Goals as goal

pub returns-in_ok-decode-in-Some : goal.returns-in_ok-decode-in-Some
returns-in_ok-decode-in-Some c =
    let there = given c.args.option.now (options_of c.args.matches.now) c.text_of.result c.in-Some.text c.text_of.ensures c.in-Some.is in
    ap bytes_where_given there ∙ ap (option_map Some) c.in_ok-decode-in-Some.ensures.value

pub returns-in-None : goal.returns-in-None
returns-in-None c = ap bytes_where_given (left_out c.args.option.now (options_of c.args.matches.now) c.text_of.result c.text_of.ensures c.in-None.is)
