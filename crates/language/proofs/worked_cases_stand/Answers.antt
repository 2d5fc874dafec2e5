use Rattle.std.proofs.Common.{refl}
use Rattle.language.specs.Reading.{tree_from, functions_from}
use Rattle.language.specs.Typing.{check, checked_bodies}
use Rattle.language.specs.Unfolding.{unfold_expr, unfold_bodies}
use Rattle.language.proofs.worked_cases_stand.Goals as goal

pub returns : goal.returns
unfolding tree_from functions_from check checked_bodies unfold_expr unfold_bodies
returns c = refl
