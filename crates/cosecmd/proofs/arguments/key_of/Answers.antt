use Rattle.std.proofs.Common.{codes}
use Rattle.std.proofs.lemmas.Result.{IfOk-weaker}
use Rattle.cosecmd.specs.Options.{options_of}
use Rattle.cosecmd.proofs.lemmas.Arguments.Options.{given, left_out, of_named_file, of_no_file, where_known}
use Rattle.cosecmd.proofs.arguments.key_of.Goals as goal

pub returns-in-Some : goal.returns-in-Some
returns-in-Some g c =
    let named = given (codes "key-file") (options_of c.args.matches.now) c.text_of.result c.in-Some.name c.text_of.ensures c.in-Some.is in
    where_known c.key_bytes.result _ _ (λ bytes known. c.key_bytes.ensures.whole bytes (of_named_file _ _ _ c.in-Some.name.now bytes named known))

pub returns-in-None : goal.returns-in-None
returns-in-None g c =
    let unnamed = left_out (codes "key-file") (options_of c.args.matches.now) c.text_of.result c.text_of.ensures c.in-None.is in
    IfOk-weaker c.bytes_of.result _ _ (λ key has bytes known. of_no_file _ _ _ _ bytes unnamed has known) c.bytes_of.ensures
