use Rattle.std.proofs.Common.{length}
use Rattle.language.proofs.typing.+check_expression.Given as goal

abbrev pub decreases-check_expression : goal.decreases-check_expression
decreases-check_expression l = length l.part.bytes.now
