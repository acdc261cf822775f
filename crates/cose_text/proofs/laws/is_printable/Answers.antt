use Rattle.cose_text.proofs.Printables.{dates_shown, notation_shown, quotes_shown}
use Rattle.cose_text.proofs.laws.is_printable.Goals as goal

pub returns-clause-quotes : goal.returns-clause-quotes
returns-clause-quotes c = quotes_shown

pub returns-clause-notation : goal.returns-clause-notation
returns-clause-notation c = notation_shown c.read_is_spelling.ensures.spelled

pub returns-clause-dates : goal.returns-clause-dates
returns-clause-dates c = dates_shown
