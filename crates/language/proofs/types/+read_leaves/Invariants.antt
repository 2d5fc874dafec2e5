use Rattle.std.proofs.Common.{length}
use Rattle.language.proofs.types.+read_leaves.Given as goal

abbrev pub decreases-read_leaves : goal.decreases-read_leaves
decreases-read_leaves l = length l.part.bytes.now
