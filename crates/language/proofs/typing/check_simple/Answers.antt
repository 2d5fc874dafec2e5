use Rattle.std.proofs.Common.{◌+◌, leb, Ok, Result, sym, ap, ◌∙◌, subst}
use Rattle.language.specs.declared.types.TypeCode.{TypeCode}
use Rattle.language.specs.declared.fault.TypeFault.{TypeFault}
use Rattle.language.specs.Outlines.{Types}
use Rattle.language.specs.declared.fault.TypeFault.TheVariants.{OverLimit}
use Rattle.language.specs.Syntax.{Ty, product, leaves}
use Rattle.language.specs.Typing.{Checked, checked_simple, need as needs_that}
use Rattle.language.proofs.Results.{then_at}
use Rattle.language.proofs.CheckSteps.{pair_typed}
use Rattle.language.proofs.typing.check_simple.Goals as goal

pub returns-in_ok-second-in-Pair : goal.returns-in_ok-second-in-Pair
returns-in_ok-second-in-Pair c Φ Γ all h =
    let f = c.in_ok-first-in-Pair.ensures Γ h in
    let g = c.in_ok-second-in-Pair.ensures Γ h in
    let e = ap (checked_simple Φ Γ c.args.place) c.in-Pair.is ∙ then_at _ f.2 ∙ then_at _ g.2 in
    subst (λ (out : Checked Ty). Types c.ok_or.result out) (sym e)
    (subst (λ (r : Result TypeCode TypeFault). Types r (needs_that (leb (leaves f.0 + leaves g.0) 16) (OverLimit c.args.place) (Ok (product f.0 g.0)))) (sym c.ok_or.ensures.value) (pair_typed c.pair.result f.0 g.0 c.args.place (c.pair.ensures f.0 g.0 f.1 g.1)))
