use Rattle.std.proofs.Common.{subst, ap, ◌∙◌}
use Rattle.cose_c.specs.Input.{GivesAll, has_point}
use Rattle.cose_c.proofs.message.read_whole.Goals as goal

pub returns-clause-input : goal.returns-clause-input
returns-clause-input g c = λ two.
    let same = c.take_whole-verdict.ensures.input in
    subst (λ (i : _). GivesAll i c.give_input.new.input) same (c.give_input.ensures.input (c.give_input.ensures.value ∙ ap has_point same ∙ c.take_whole-verdict.ensures.signed two))
