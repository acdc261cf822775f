use Rattle.cose_text.proofs.Levels.{appended, other_string, utf8_string}
use Rattle.cose_text.proofs.diagnostic.push_string.Goals as goal

pub returns-in-Ok : goal.returns-in-Ok
returns-in-Ok c = appended _ _ _ _ _ (utf8_string c.args.content.now _ c.in-Ok.ensures.cases.0 c.in-Ok.ensures.cases.1) c.push_quoted.ensures

pub returns-in-Err : goal.returns-in-Err
returns-in-Err c = appended _ _ _ _ _ (other_string c.args.content.now c.in-Err.ensures.cases.0) c.push_bytes.ensures
