use Rattle.std.proofs.Common.{length, ◌-◌, ◌≡◌, ◌≤◌, take}
use Rattle.std.specs.Io.KnownBytes.{Consumes}
use Rattle.inspect.proofs.read_front.Given as goal

-- what was read so far stands at the front
abbrev pub invariant-loop-end : goal.invariant-loop-end
invariant-loop-end g l =
    (l.end ≤ length l.front) × (length l.front ≡ length l.initial.front) × Consumes (g.R.Read.remaining l.initial.input) (g.R.Read.remaining l.input) (take l.end l.front)

abbrev pub decreases-loop-end : goal.decreases-loop-end
decreases-loop-end g l = length l.initial.front - l.end
