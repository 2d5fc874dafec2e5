use Rattle.std.proofs.Common.{◌≡◌, ℕ, List, suc, ◌+◌, ◌-◌, [], ◌∷◌, ◌++◌, length, sym, refl, ap, ◌∙◌, subst, arith, length-append}
use native.Mathlib.Nat.{sub-zero}
use Rattle.std.proofs.lemmas.List.{length_push}
use Rattle.bounded.specs.Listed.{listed}
use Rattle.language.specs.declared.outline.FunctionOutline.{FunctionOutline}
use Rattle.language.specs.Outlines.{Outlined, Callable, Functions}
use Rattle.language.specs.Reading.{function_from}
use Rattle.language.specs.Syntax.{encode_function, encode_functions, place_after}
use Rattle.language.proofs.Results.{broke, at_whole}
use Rattle.language.proofs.Encoding.{function_sound}
use Rattle.language.proofs.ReadingFunctions.{to_come, to_come_first, to_come_more, to_come_fault, to_come_none, outlined_more, no_functions_outlined, encode_functions_append}
use Rattle.language.proofs.reading.read_functions.Goals as goal

pub loop-i-init : goal.loop-i-init
loop-i-init c = ([], refl, no_functions_outlined c.no_functions-functions.ensures, to_come_first c.args.part.whole c.args.count c.args.part.bytes.now ∙ ap (λ (k : ℕ). to_come c.args.part.whole [] k c.args.part.bytes.now) (sym (sub-zero c.args.count)), omega arith, refl)

pub returns-in_err-function-clause-gives : goal.returns-in_err-function-clause-gives
returns-in_err-function-clause-gives c =
    let w = c.args.part.whole in
    let rest = c.loop-i.rest.bytes.now in
    let inv = c.loop-i.invariant in
    let m : c.args.count - c.loop-i._i ≡ suc (c.args.count - c.loop-i._i - 1) = omega arith in
    broke Functions w c.from_residual.result _ c.from_residual.ensures.1
    (inv.3 ∙ ap (λ (k : ℕ). to_come w inv.0 k rest) m ∙ to_come_fault w (c.args.count - c.loop-i._i - 1) rest inv.0 (at_whole (λ v. function_from v rest) inv.5 c.in_err-function.ensures.gives))

pub loop-i-preserved : goal.loop-i-preserved
loop-i-preserved c =
    let w = c.args.part.whole in
    let rest = c.loop-i.rest.bytes.now in
    let inv = c.loop-i.invariant in
    let fs = inv.0 in
    let g = c.in_ok-function.ensures.gives in
    let rest' = c.in_ok-function.following.bytes.now in
    let k = c.args.count - (c.loop-i._i + 1) in
    let m : c.args.count - c.loop-i._i ≡ suc (c.args.count - (c.loop-i._i + 1)) = omega arith in
    let read = at_whole (λ v. function_from v rest) inv.5 g.2 in
    let s = function_sound w rest (g.0, rest') read in
    let place : c.loop-i.rest.whole - length rest ≡ place_after fs = omega (arith, inv.4, inv.5) in (
      fs ++ (g.0 ∷ []),
      length_push fs g.0 ∙ ap (λ (n : ℕ). n + 1) inv.1,
      subst (λ (os : List FunctionOutline). Callable os (fs ++ (g.0 ∷ []))) (sym c.push.ensures)
          (outlined_more (listed c.loop-i.functions) fs c.in_ok-function.function g.0 inv.2 (subst (λ (n : ℕ). Outlined n c.in_ok-function.function g.0) place g.1)),
      inv.3 ∙ ap (λ (n : ℕ). to_come w fs n rest) m ∙ to_come_more w k rest rest' g.0 fs read,
      omega (arith, inv.4, ap length s.0, length-append (encode_function g.0) rest', ap length (encode_functions_append fs (g.0 ∷ [])), length-append (encode_functions fs) (encode_functions (g.0 ∷ [])), length-append (encode_function g.0) []),
      g.3 ∙ inv.5,
    )

pub returns-clause-gives : goal.returns-clause-gives
returns-clause-gives c =
    let inv = c.loop-i.invariant in
    let none : c.args.count - c.loop-i._i ≡ 0 = omega arith in (
      inv.0,
      inv.2,
      inv.3 ∙ ap (λ (k : ℕ). to_come c.args.part.whole inv.0 k c.loop-i.rest.bytes.now) none ∙ to_come_none c.args.part.whole c.loop-i.rest.bytes.now inv.0,
      inv.5,
    )
