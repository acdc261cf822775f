use Rattle.cose_text.proofs.Quotes.{quotes_end}
use Rattle.cose_text.proofs.laws.quotes_end.Goals as goal

pub returns : goal.returns
returns c = quotes_end
