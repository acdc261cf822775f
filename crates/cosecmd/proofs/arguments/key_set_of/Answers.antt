use Rattle.std.proofs.Common.{ap, codes}
use Rattle.std.proofs.lemmas.Result.{IfOk-weaker}
use Rattle.cosecmd.specs.Options.{options_of}
use Rattle.cose_map.specs.KeySet.{keys_of}
use Rattle.cose_answers.specs.Printed.{keys_print}
use Rattle.cosecmd.proofs.lemmas.Arguments.Options.{given, left_out, of_named_file, of_no_file, where_known}
use Rattle.cosecmd.proofs.arguments.key_set_of.Goals as goal

pub returns-in-Some-clause-keys : goal.returns-in-Some-clause-keys
returns-in-Some-clause-keys g c =
    let named = given (codes "keys-file") (options_of c.args.matches.now) c.text_of.result c.in-Some.name c.text_of.ensures c.in-Some.is in
    where_known c.key_set_bytes.result _ _ (λ bytes known. c.key_set_bytes.ensures.keys bytes (of_named_file _ _ _ c.in-Some.name.now bytes named known))

pub returns-in-None-clause-keys : goal.returns-in-None-clause-keys
returns-in-None-clause-keys g c =
    let unnamed = left_out (codes "keys-file") (options_of c.args.matches.now) c.text_of.result c.text_of.ensures c.in-None.is in
    IfOk-weaker c.bytes_of.result _ _ (λ keys has bytes known. ap keys_of (of_no_file _ _ _ _ bytes unnamed has known)) c.bytes_of.ensures

pub returns-in-Some-clause-listed : goal.returns-in-Some-clause-listed
returns-in-Some-clause-listed g c =
    let named = given (codes "keys-file") (options_of c.args.matches.now) c.text_of.result c.in-Some.name c.text_of.ensures c.in-Some.is in
    where_known c.key_set_bytes.result _ _ (λ bytes known. c.key_set_bytes.ensures.listed bytes (of_named_file _ _ _ c.in-Some.name.now bytes named known))

pub returns-in-None-clause-listed : goal.returns-in-None-clause-listed
returns-in-None-clause-listed g c =
    let unnamed = left_out (codes "keys-file") (options_of c.args.matches.now) c.text_of.result c.text_of.ensures c.in-None.is in
    IfOk-weaker c.bytes_of.result _ _ (λ keys has bytes known said. ap (keys_print said) (of_no_file _ _ _ _ bytes unnamed has known)) c.bytes_of.ensures
