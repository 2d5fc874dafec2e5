use Rattle.std.proofs.Common.{length}
use Rattle.language.proofs.reading.+read_expression.Given as goal

abbrev pub decreases-read_expression : goal.decreases-read_expression
decreases-read_expression l = length l.part.bytes.now
