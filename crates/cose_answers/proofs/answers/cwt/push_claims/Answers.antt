use Rattle.std.proofs.Common.{codes, map}
use Rattle.std.specs.List.{concat}
use Rattle.cose_answers.specs.Admitted.{bytes_line, confirmation_lines, date_line, text_line, where_present}
use Rattle.cose_answers.proofs.lemmas.Messages.Admissions.{first_lines, then_lines}
use Rattle.cose_answers.proofs.answers.cwt.push_claims.Goals as goal

pub returns-clause-lines : goal.returns-clause-lines
returns-clause-lines c =
    let iss = first_lines (where_present (text_line c.args.readable (codes "iss"))) _ _ _ _ c.iss.ensures c.in_ok-push_text.ensures.lines in
    let sub = then_lines (where_present (text_line c.args.readable (codes "sub"))) _ _ _ _ _ _ iss c.sub.ensures c.in_ok-push_text-2.ensures.lines in
    let aud = then_lines (λ texts. concat (map (text_line c.args.readable (codes "aud")) texts)) _ _ _ _ _ _ sub c.auds.ensures c.in_ok-push_audience.ensures.lines in
    let exp = then_lines (where_present (date_line c.args.readable (codes "exp"))) _ _ _ _ _ _ aud c.exp.ensures c.in_ok-push_date.ensures.lines in
    let nbf = then_lines (where_present (date_line c.args.readable (codes "nbf"))) _ _ _ _ _ _ exp c.nbf.ensures c.in_ok-push_date-2.ensures.lines in
    let iat = then_lines (where_present (date_line c.args.readable (codes "iat"))) _ _ _ _ _ _ nbf c.iat.ensures c.in_ok-push_date-3.ensures.lines in
    let cti = then_lines (where_present (bytes_line (codes "cti"))) _ _ _ _ _ _ iat c.cti.ensures c.in_ok-push_bytes.ensures.lines in
    then_lines (where_present confirmation_lines) _ _ _ _ _ _ cti c.cnf.ensures c.in_ok-push_confirmation.ensures.lines
