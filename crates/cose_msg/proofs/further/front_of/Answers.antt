use Rattle.std.proofs.Common.{refl}
use Rattle.cose_msg.specs.Message.{structure}
use Rattle.cose_msg.proofs.lemmas.Fronts.{short_context}
use Rattle.cose_msg.proofs.further.front_of.Goals as goal

pub returns-clause-structure : goal.returns-clause-structure
unfolding structure
returns-clause-structure c = rw (← c.is_empty-is_bare.ensures, ← c.empty_if-protected.ensures) (c.new.ensures.completes c.args.parts.now.payload.now refl)

pub returns-clause-context : goal.returns-clause-context
returns-clause-context c = rw c.new.ensures.context (short_context c.args.parts.now.kind)
