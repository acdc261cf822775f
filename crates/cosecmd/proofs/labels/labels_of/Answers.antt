use Rattle.std.proofs.Common.{◌∙◌, ap, codes, map, string_bytes, sym}
use Rattle.std.proofs.lemmas.Result.{IfOk-weaker}
use Rattle.cosecmd.specs.Headers.{label_named}
use Rattle.cosecmd.proofs.lemmas.Arguments.RequiredOptions.{no_texts, texts_given}
use Rattle.cosecmd.proofs.labels.labels_of.Goals as goal

pub returns-in-Some : goal.returns-in-Some
returns-in-Some c =
    IfOk-weaker c.labels_named.result _ _ (λ labels named. named ∙ sym (ap (map label_named) (texts_given c.args.matches.now (codes "header") c.in-Some.words.now c.in-Some.ensures))) c.labels_named.ensures

pub returns-in-None : goal.returns-in-None
returns-in-None c = ap (map string_bytes) c.new.ensures.items ∙ sym (ap (map label_named) (no_texts c.args.matches.now (codes "header") c.in-None.ensures))
