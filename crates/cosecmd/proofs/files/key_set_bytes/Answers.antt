use Rattle.cosecmd.proofs.lemmas.Keys.KeyFiles.{keys_read, list_read}
use Rattle.cosecmd.proofs.files.key_set_bytes.Goals as goal

pub returns-in-Ok-clause-keys : goal.returns-in-Ok-clause-keys
returns-in-Ok-clause-keys g c = λ bytes known. keys_read c.in-Ok.bytes.items bytes (c.in-Ok.ensures bytes known)

pub returns-in-Ok-clause-listed : goal.returns-in-Ok-clause-listed
returns-in-Ok-clause-listed g c = λ bytes known. list_read c.in-Ok.bytes.items bytes (c.in-Ok.ensures bytes known)
