use Rattle.std.proofs.Common.{◌≡◌, List, [], ◌++◌, length}
use Rattle.language.specs.Grammar.{Encodes}
use Rattle.language.specs.Outlines.{Outlines}
use Rattle.language.specs.Syntax.{Function, Program}
use Rattle.language.specs.Typing.{checked_bodies}
use Rattle.language.proofs.typing.check_bodies.Given as goal

abbrev pub invariant-loop-number : goal.invariant-loop-number
invariant-loop-number l =
    (p : Program) → Encodes l.outlined.program.now p → Outlines l.outlined.outline.now p →
    (before : List Function) × (following : List Function)
    × (p.functions ≡ before ++ following)
    × (length before ≡ l.number)
    × (checked_bodies [] p.functions ≡ checked_bodies before following)
