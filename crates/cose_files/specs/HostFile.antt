-- The new file of the process, of which no byte is known.
use Rattle.std.specs.Prelude.{None, string_bytes}
use Rattle.cose_files.specs.NewFile.{MadeFile}
use Rattle.cose_files.specs.declared.host_file.HostFile.{HostFile}

abbrev pub made_file : HostFile → MadeFile
made_file file = record { name = string_bytes file.name; standing = file.standing; content = None }
