use Rattle.line_book.proofs.Rules.{rules_decide_lem}
use Rattle.line_book.proofs.theorems.rules_decide.Goals as goal

pub returns : goal.returns
returns c = rules_decide_lem
