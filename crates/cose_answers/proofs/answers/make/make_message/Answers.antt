use Rattle.std.proofs.Common.{◌≡◌, None, option_map, refl, sym, ◌∙◌, rules}
use Rattle.cose_map.specs.Key.View.{contents, key_value}
use Rattle.cose_msg.specs.Make.{argument_fault}
use Rattle.cose_answers.proofs.lemmas.Making.MakeStops.{leaves_prefix}
use Rattle.cose_answers.proofs.lemmas.Making.Makings.{makes_printed}
use Rattle.cose_answers.proofs.answers.make.make_message.Goals as goal

pub returns-in-Ok-made-clause-makes : goal.returns-in-Ok-made-clause-makes
returns-in-Ok-made-clause-makes g c = λ bytes e.
    makes_printed _ (key_value c.in-Ok.key) c.args.alg c.args.length (option_map contents c.args.kid) c.args.aad.now bytes
    _ c.into_writer-writer.result.ghost_name (g.W.Write.contents c.args.output.now) (g.W.Write.contents c.into_writer-writer.result.now) _
    (sym c.in-Ok.ensures.exact) (sym c.in-Ok-made.ensures.fault) (c.new-intake.ensures.known ∙ e) c.new-sink.ensures.contents (c.in-Ok-made.ensures.makes refl).1
    c.into_writer-writer.ensures.contents (λ same. search rules)

pub returns-in-Err-ShortPayload-clause-stops : goal.returns-in-Err-ShortPayload-clause-stops
returns-in-Err-ShortPayload-clause-stops g c = λ bytes e fault.
    let made = c.make_mac0-made in
    let begun : argument_fault made.result ≡ None = search rules in
    leaves_prefix _ (key_value c.in-Ok.key) c.args.alg c.args.length (option_map contents c.args.kid) c.args.aad.now bytes
    _ c.into_writer-writer.result.ghost_name (g.W.Write.contents c.args.output.now) (g.W.Write.contents c.into_writer-writer.result.now) _ made.result
    (sym c.in-Ok.ensures.exact) (sym made.ensures.fault ∙ begun) (c.new-intake.ensures.known ∙ e) c.new-sink.ensures.contents (made.ensures.makes begun).1
    c.into_writer-writer.ensures.contents (λ same. search rules)
