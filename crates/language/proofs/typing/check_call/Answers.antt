use Rattle.std.proofs.Common.{◌≡◌, Bool, IsErrAnd, None, Some, Err, Ok, Result, sym, ap, ◌∙◌, not}
use Rattle.std.proofs.lemmas.Option.{MatchOption-at_none, MatchOption-at_some}
use Rattle.std.specs.Option.{ok_or}
use Rattle.std.specs.Result.{result_ok}
use Rattle.language.specs.declared.fault.TypeFault.{TypeFault}
use Rattle.language.specs.declared.fault.TypeFault.TheVariants.{Mistyped, NoFunction}
use Rattle.language.specs.declared.types.TypeCode.{TypeCode}
use Rattle.language.specs.Outlines.{Types}
use Rattle.language.specs.Syntax.{Ty}
use Rattle.language.specs.Typing.{Checked, same_type, or_fault, need as needs_that}
use Rattle.language.proofs.Results.{then_at, then_err}
use Rattle.language.proofs.CheckSteps.{same_coded, function_found}
use Rattle.language.proofs.typing.check_call.Goals as goal

-- the exit of a `?` with the fault unchanged
broke_types : {out : Checked Ty} (r : Result TypeCode TypeFault) (e : TypeFault) → IsErrAnd r (λ y. y ≡ e) → out ≡ Err e → Types r out
broke_types (Ok t) e h q = absurd h
broke_types (Err fault) e h q = q ∙ ap Err (sym h)

pub returns-in_err-function : goal.returns-in_err-function
returns-in_err-function c Φ τ call t =
    let fault = NoFunction c.args.place in
    let missing : c.get.result ≡ None = c.ok_or.ensures.ok_part ∙ ap result_ok c.in_err-function.was in
    let none = MatchOption-at_none _ _ missing (function_found c.args.functions.now Φ c.args.number c.get.result call c.get.ensures.lookup) in
    let k = sym c.in_err-function.was ∙ c.ok_or.ensures.value ∙ ap (λ o. ok_or o fault) missing in
    let e : fault ≡ c.in_err-function.field-0.0 = cc in
    broke_types c.from_residual.result _ c.from_residual.ensures.1 (then_err _ (ap (or_fault fault) none) ∙ ap Err e)

pub returns-then-ne : goal.returns-then-ne
returns-then-ne c Φ τ call t =
    let there : c.get.result ≡ Some c.in_ok-function.function = c.ok_or.ensures.ok_part ∙ ap result_ok c.in_ok-function.was in
    let f = MatchOption-at_some _ _ _ there (function_found c.args.functions.now Φ c.args.number c.get.result call c.get.ensures.lookup) in
    then_at (λ g. needs_that (same_type τ g.parameter) (Mistyped c.args.place) (Ok g.result)) (ap (or_fault (NoFunction c.args.place)) f.2)
    ∙ ap (λ (b : Bool). needs_that b (Mistyped c.args.place) (Ok f.1.result)) (same_coded c.args.operand c.in_ok-function.function.now.parameter τ f.1.parameter c.ne.result t f.3.parameter_code c.ne.ensures ∙ ap not c.if-ne.true)

pub returns : goal.returns
returns c Φ τ call t =
    let there : c.get.result ≡ Some c.in_ok-function.function = c.ok_or.ensures.ok_part ∙ ap result_ok c.in_ok-function.was in
    let f = MatchOption-at_some _ _ _ there (function_found c.args.functions.now Φ c.args.number c.get.result call c.get.ensures.lookup) in (
      f.1.result,
      f.3.result_code,
      then_at (λ g. needs_that (same_type τ g.parameter) (Mistyped c.args.place) (Ok g.result)) (ap (or_fault (NoFunction c.args.place)) f.2)
          ∙ ap (λ (b : Bool). needs_that b (Mistyped c.args.place) (Ok f.1.result)) (same_coded c.args.operand c.in_ok-function.function.now.parameter τ f.1.parameter c.ne.result t f.3.parameter_code c.ne.ensures ∙ ap not c.if-ne.false),
    )
