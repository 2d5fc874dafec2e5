use Rattle.std.proofs.Common.{ℕ, ◌-◌, Bool, [], ◌∷◌, length, Ok, Err, sym, ap, ◌∙◌, not}
use Rattle.std.proofs.lemmas.Result.{err_from_is_err_and}
use Rattle.language.specs.declared.fault.TypeFault.TheVariants.{Mistyped}
use Rattle.language.specs.Syntax.{body_place, place_after}
use Rattle.language.specs.Typing.{check, same_type, need as needs_that}
use Rattle.language.proofs.Results.{then_at, then_err}
use Rattle.language.proofs.CheckSteps.{same_coded, one_name}
use Rattle.language.proofs.Lies.{body_ready}
use Rattle.language.proofs.typing.check_body.Goals as goal

pub returns-in_err-found : goal.returns-in_err-found
returns-in_err-found c p before f following enc cut call one =
    let e = err_from_is_err_and c.from_residual.result c.from_residual.ensures.1 in
    let r = body_ready c.args.outlined.now.program.now p before f following c.args.function.now c.body_part-body.result.bytes.now enc cut one c.body_part-body.ensures.bytes in
    let found = c.in_err-found.ensures.types before (f.parameter ∷ []) f.body r.0.rest call (one_name _ _ c.no_names-scope.ensures c.push.ensures one.parameter_code) r.0.part_is r.1 in
    e.1 ∙ ap Err e.2 ∙ sym (then_err _ (ap (λ (k : ℕ). check before (f.parameter ∷ []) k f.body) (sym (ap (λ (w : ℕ). w - length c.body_part-body.result.bytes.now) c.body_part-body.ensures.whole ∙ r.0.place_is)) ∙ found))

pub returns-then-ne : goal.returns-then-ne
returns-then-ne c p before f following enc cut call one =
    let r = body_ready c.args.outlined.now.program.now p before f following c.args.function.now c.body_part-body.result.bytes.now enc cut one c.body_part-body.ensures.bytes in
    let found = c.in_ok-found.ensures.types before (f.parameter ∷ []) f.body r.0.rest call (one_name _ _ c.no_names-scope.ensures c.push.ensures one.parameter_code) r.0.part_is r.1 in
    let place = body_place (place_after before) f in
    ap (λ (k : ℕ). Err (Mistyped k)) one.body_is_at
    ∙ sym (then_at (λ τ. needs_that (same_type τ f.result) (Mistyped place) (Ok tt)) (ap (λ (k : ℕ). check before (f.parameter ∷ []) k f.body) (sym (ap (λ (w : ℕ). w - length c.body_part-body.result.bytes.now) c.body_part-body.ensures.whole ∙ r.0.place_is)) ∙ found.2)
    ∙ ap (λ (b : Bool). needs_that b (Mistyped place) (Ok tt)) (same_coded c.in_ok-found.found c.args.function.now.result found.0 f.result c.ne.result found.1 one.result_code c.ne.ensures ∙ ap not c.if-ne.true))

pub returns : goal.returns
returns c p before f following enc cut call one =
    let r = body_ready c.args.outlined.now.program.now p before f following c.args.function.now c.body_part-body.result.bytes.now enc cut one c.body_part-body.ensures.bytes in
    let found = c.in_ok-found.ensures.types before (f.parameter ∷ []) f.body r.0.rest call (one_name _ _ c.no_names-scope.ensures c.push.ensures one.parameter_code) r.0.part_is r.1 in
    let place = body_place (place_after before) f in
    sym (then_at (λ τ. needs_that (same_type τ f.result) (Mistyped place) (Ok tt)) (ap (λ (k : ℕ). check before (f.parameter ∷ []) k f.body) (sym (ap (λ (w : ℕ). w - length c.body_part-body.result.bytes.now) c.body_part-body.ensures.whole ∙ r.0.place_is)) ∙ found.2)
    ∙ ap (λ (b : Bool). needs_that b (Mistyped place) (Ok tt)) (same_coded c.in_ok-found.found c.args.function.now.result found.0 f.result c.ne.result found.1 one.result_code c.ne.ensures ∙ ap not c.if-ne.false))
