use Rattle.std.proofs.Common.{◌+◌, ◌*◌, length}
use Rattle.language.proofs.unfolding.+measure.Given as goal

abbrev pub decreases-measure : goal.decreases-measure
decreases-measure l = 4097 * l.below + length l.part.bytes.now
