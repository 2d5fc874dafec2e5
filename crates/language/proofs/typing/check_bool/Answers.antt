use Rattle.std.proofs.Common.{Bool, Ok, sym, ap, ◌∙◌, not}
use Rattle.language.specs.declared.fault.TypeFault.TheVariants.{Mistyped}
use Rattle.language.specs.Syntax.{bool}
use Rattle.language.specs.Typing.{same_type, need as needs_that}
use Rattle.language.proofs.Results.{then_at}
use Rattle.language.proofs.CheckSteps.{same_coded}
use Rattle.language.proofs.typing.check_bool.Goals as goal

pub returns-then-ne : goal.returns-then-ne
returns-then-ne c Γ h =
    let f = c.in_ok-found.ensures Γ h in
    sym (then_at (λ τ. needs_that (same_type τ bool) (Mistyped c.args.place) (Ok tt)) f.2
    ∙ ap (λ (b : Bool). needs_that b (Mistyped c.args.place) (Ok tt)) (same_coded c.in_ok-found.found c.bool.result f.0 bool c.ne.result f.1 c.bool.ensures c.ne.ensures ∙ ap not c.if-ne.true))

pub returns : goal.returns
returns c Γ h =
    let f = c.in_ok-found.ensures Γ h in
    sym (then_at (λ τ. needs_that (same_type τ bool) (Mistyped c.args.place) (Ok tt)) f.2
    ∙ ap (λ (b : Bool). needs_that b (Mistyped c.args.place) (Ok tt)) (same_coded c.in_ok-found.found c.bool.result f.0 bool c.ne.result f.1 c.bool.ensures c.ne.ensures ∙ ap not c.if-ne.false))
