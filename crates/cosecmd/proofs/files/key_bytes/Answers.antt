use Rattle.std.proofs.Common.{◌<◌, length, rules}
use Rattle.cosecmd.proofs.lemmas.Keys.KeyFiles.{whole_read}
use Rattle.cosecmd.proofs.files.key_bytes.Goals as goal

pub returns-in-Ok-clause-whole : goal.returns-in-Ok-clause-whole
returns-in-Ok-clause-whole g c = λ bytes known.
    let short : length c.in-Ok.bytes.items < 65536 = search rules in
    whole_read c.in-Ok.bytes.items bytes (c.in-Ok.ensures bytes known) short
