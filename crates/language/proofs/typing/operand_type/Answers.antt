use Rattle.std.proofs.Common.{List, Result, sym, ap, ◌∙◌, subst}
use Rattle.std.specs.Option.{ok_or}
use Rattle.std.specs.Slice.{IsItemAt}
use Rattle.bounded.specs.Listed.{listed}
use Rattle.language.specs.declared.types.TypeCode.{TypeCode}
use Rattle.language.specs.declared.command.Operand.TheVariants.{Name}
use Rattle.language.specs.declared.fault.TypeFault.{TypeFault}
use Rattle.language.specs.declared.fault.TypeFault.TheVariants.{OutOfScope}
use Rattle.language.specs.Outlines.{Types}
use Rattle.language.specs.Typing.{type_of_operand}
use Rattle.language.proofs.CheckSteps.{scope_found}
use Rattle.language.proofs.typing.operand_type.Goals as goal

pub returns-in-Name : goal.returns-in-Name
returns-in-Name c Γ h =
    let k = c.in-Name.name in
    rw c.in-Name.is
    (subst (λ (r : Result TypeCode TypeFault). Types r (type_of_operand Γ c.args.place (Name k)))
    (sym (c.ok_or.ensures.value ∙ ap (λ o. ok_or o (OutOfScope c.args.place)) c.copied-known.ensures))
    (scope_found (listed c.args.scope.now) Γ k c.args.place c.get.result h (subst (λ (ts : List TypeCode). IsItemAt ts k c.get.result) c.as_slice.ensures.items c.get.ensures.lookup)))
