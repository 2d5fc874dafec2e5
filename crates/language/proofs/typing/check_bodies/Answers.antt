use Rattle.std.proofs.Common.{◌≡◌, ℕ, ◌+◌, ◌<◌, ◌≤◌, List, [], ◌∷◌, ◌++◌, length, Err, sym, refl, subst, ap, ◌∙◌, append_assoc, arith, length-append}
use Rattle.std.proofs.lemmas.Result.{err_from_is_err_and}
use Rattle.std.proofs.lemmas.List.{length_push}
use Rattle.language.specs.declared.outline.FunctionOutline.{FunctionOutline}
use Rattle.language.specs.Outlines.{Callable}
use Rattle.language.specs.Syntax.{Function}
use Rattle.language.specs.Typing.{checked_bodies}
use Rattle.language.proofs.Lies.{body_given}
use Rattle.language.proofs.Results.{then_at, then_err}
use Rattle.language.proofs.typing.check_bodies.Goals as goal

-- a function that is left to check
some_left : (fs before following : List Function) (n : ℕ) → fs ≡ before ++ following → length before ≡ n → n < length fs → (f : Function) × (later : List Function) × (following ≡ f ∷ later)
some_left fs before [] n e l h = absurd (omega (arith, ap length e, length-append before []))
some_left fs before (f ∷ later) n e l h = (f, later, refl)

pub returns-in_err-check_body : goal.returns-in_err-check_body
unfolding checked_bodies
returns-in_err-check_body c p enc out =
    let e = err_from_is_err_and c.from_residual.result c.from_residual.ensures.1 in
    let i = c.loop-number.invariant p enc out in
    let call = subst (λ (os : List FunctionOutline). Callable os p.functions) (sym c.as_slice-functions.ensures.items) out.functions_are in
    let s = some_left p.functions i.0 i.1 c.loop-number.number i.2 i.3 (omega (arith, call.1)) in
    let cut = i.2 ∙ ap (λ (x : List Function). i.0 ++ x) s.2 in
    let r = body_given c.as_slice-functions.result.now p.functions i.0 s.0 s.1 c.loop-number.number c.index-functions-number.result call cut i.3 c.index-functions-number.is in
    let b = c.in_err-check_body.ensures p i.0 s.0 s.1 enc cut r.0 r.1 in
    e.1 ∙ ap Err e.2 ∙ sym (i.4 ∙ ap (checked_bodies i.0) s.2 ∙ then_err _ (sym b))

pub loop-number-preserved : goal.loop-number-preserved
unfolding checked_bodies
loop-number-preserved c p enc out =
    let i = c.loop-number.invariant p enc out in
    let call = subst (λ (os : List FunctionOutline). Callable os p.functions) (sym c.as_slice-functions.ensures.items) out.functions_are in
    let s = some_left p.functions i.0 i.1 c.loop-number.number i.2 i.3 (omega (arith, call.1)) in
    let cut = i.2 ∙ ap (λ (x : List Function). i.0 ++ x) s.2 in
    let r = body_given c.as_slice-functions.result.now p.functions i.0 s.0 s.1 c.loop-number.number c.index-functions-number.result call cut i.3 c.index-functions-number.is in
    let b = c.in_ok-check_body.ensures p i.0 s.0 s.1 enc cut r.0 r.1 in (
      i.0 ++ (s.0 ∷ []),
      s.1,
      cut ∙ sym (append_assoc i.0 (s.0 ∷ []) s.1),
      length_push i.0 s.0 ∙ ap (λ (n : ℕ). n + 1) i.3,
      i.4 ∙ ap (checked_bodies i.0) s.2 ∙ then_at (λ _. checked_bodies (i.0 ++ (s.0 ∷ [])) s.1) (sym b),
    )

pub returns : goal.returns
unfolding checked_bodies
returns c p enc out =
    let i = c.loop-number.invariant p enc out in
    let call = subst (λ (os : List FunctionOutline). Callable os p.functions) (sym c.as_slice-functions.ensures.items) out.functions_are in
    let none : i.1 ≡ [] = nil i.1 (omega (arith, ap length i.2, length-append i.0 i.1, call.1, i.3)) in
    sym (i.4 ∙ ap (checked_bodies i.0) none)
  where
    nil : (xs : List Function) → length xs ≤ 0 → xs ≡ []
    nil [] h = refl
    nil (x ∷ xs) h = absurd (omega arith)
