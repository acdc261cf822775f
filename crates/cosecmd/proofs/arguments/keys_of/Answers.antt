use Rattle.cosecmd.proofs.arguments.keys_of.Goals as goal

pub returns : goal.returns
returns g c = record { keys = c.in_ok-keys.ensures.listed; message = c.message_of-message.ensures }
