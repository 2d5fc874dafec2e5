use Rattle.std.proofs.Common.{◌≡◌, ◌+◌, ◌-◌, List, length}
use Rattle.language.specs.Outlines.{Functions}
use Rattle.language.specs.Reading.{functions_from}
use Rattle.language.specs.Syntax.{Function, encode_functions}
use Rattle.language.proofs.ReadingFunctions.{to_come}
use Rattle.language.proofs.reading.read_functions.Given as goal

abbrev pub invariant-loop-i : goal.invariant-loop-i
invariant-loop-i l =
    (fs : List Function)
    × (length fs ≡ l._i)
    × Functions l.functions fs
    × (functions_from l.part.whole l.count l.part.bytes.now ≡ to_come l.part.whole fs (l.count - l._i) l.rest.bytes.now)
    × (length l.rest.bytes.now + length (encode_functions fs) ≡ length l.part.bytes.now)
    × (l.rest.whole ≡ l.part.whole)
