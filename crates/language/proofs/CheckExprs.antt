-- Checking an expression, step by step.
use Rattle.std.proofs.Common.{◌≡◌, ℕ, ◌+◌, ◌<◌, ◌≤◌, Bool, ltb, List, [], ◌∷◌, ◌++◌, length, IsErrAnd, Ok, Err, Result, sym, refl, ap, ◌∙◌, subst, le-ltb, lt-ltb}
use Rattle.language.specs.declared.fault.TypeFault.{TypeFault}
use Rattle.language.specs.declared.fault.TypeFault.TheVariants.{Mistyped, OverLimit}
use Rattle.language.specs.declared.rest.Rest.{Rest}
use Rattle.language.specs.declared.types.TypeCode.{TypeCode}
use Rattle.language.specs.declared.command.Operand.{Operand}
use Rattle.language.specs.declared.command.Simple.{Simple}
use Rattle.language.specs.Outcomes.{and_then}
use Rattle.language.specs.Outlines.{TypesPast}
use Rattle.language.specs.Syntax.{Ty, Expr, plain, branch, bind, encode_expr, Function}
use Rattle.language.specs.Typing.{Checked, same_type, need, bool_operand, checked_simple, check}
use Rattle.language.proofs.Results.{then_at, then_err}

-- the exit of a `?` with the fault unchanged
pub broke_past : (end : List ℕ) (w : ℕ) {out : Checked Ty} (r : Result (TypeCode × Rest) TypeFault) (e : TypeFault) → IsErrAnd r (λ y. y ≡ e) → out ≡ Err e → TypesPast end w r out
broke_past end w (Ok x) e h q = absurd h
broke_past end w (Err fault) e h q = q ∙ ap Err (sym h)

-- the same answer to a definition that gives the same
pub past_same : (end : List ℕ) (r : Result (TypeCode × Rest) TypeFault) {w w' : ℕ} {out out' : Checked Ty} → w' ≡ w → out ≡ out' → TypesPast end w' r out' → TypesPast end w r out
past_same end r {w = w} {out' = out'} n e h = subst (TypesPast end w r) (sym e) (subst (λ (v : ℕ). TypesPast end v r out') n h)

module _ (Φ : List Function) (Γ : List Ty) (p : ℕ) where
  pub check_plain : (s : Simple) → check Φ Γ p (plain s) ≡ checked_simple Φ Γ p s
  unfolding check
  check_plain s = refl

  module _ (a : Operand) (t u : Expr) where
    -- what follows the guard, the first arm and the second
    abbrev arms : Checked Ty
    arms = and_then (check Φ Γ (p + 2) t) (λ σ. and_then (check Φ Γ (p + 2 + length (encode_expr t)) u) (λ τ. need (same_type σ τ) (Mistyped p) (Ok τ)))

    opened : check Φ Γ p (branch a t u) ≡ and_then (bool_operand Γ p a) (λ _. arms)
    unfolding check
    opened = refl

    pub guard_fault : {fault : TypeFault} → bool_operand Γ p a ≡ Err fault → check Φ Γ p (branch a t u) ≡ Err fault
    guard_fault g = opened ∙ then_err _ g

    pub first_arm_fault : {fault : TypeFault} → bool_operand Γ p a ≡ Ok tt → check Φ Γ (p + 2) t ≡ Err fault → check Φ Γ p (branch a t u) ≡ Err fault
    first_arm_fault g e = opened ∙ then_at (λ _. arms) g ∙ then_err _ e

    second_arm : {σ : Ty} → bool_operand Γ p a ≡ Ok tt → check Φ Γ (p + 2) t ≡ Ok σ → check Φ Γ p (branch a t u) ≡ and_then (check Φ Γ (p + 2 + length (encode_expr t)) u) (λ τ. need (same_type σ τ) (Mistyped p) (Ok τ))
    second_arm g e = opened ∙ then_at (λ _. arms) g ∙ then_at (λ σ. and_then (check Φ Γ (p + 2 + length (encode_expr t)) u) (λ τ. need (same_type σ τ) (Mistyped p) (Ok τ))) e

    pub second_arm_fault : {σ : Ty} {fault : TypeFault} → bool_operand Γ p a ≡ Ok tt → check Φ Γ (p + 2) t ≡ Ok σ → check Φ Γ (p + 2 + length (encode_expr t)) u ≡ Err fault → check Φ Γ p (branch a t u) ≡ Err fault
    second_arm_fault g e e' = second_arm g e ∙ then_err _ e'

    pub arms_agree : {σ τ : Ty} (b : Bool) → bool_operand Γ p a ≡ Ok tt → check Φ Γ (p + 2) t ≡ Ok σ → check Φ Γ (p + 2 + length (encode_expr t)) u ≡ Ok τ → same_type σ τ ≡ b → check Φ Γ p (branch a t u) ≡ need b (Mistyped p) (Ok τ)
    arms_agree {σ} {τ} b g e e' s = second_arm g e ∙ then_at (λ υ. need (same_type σ υ) (Mistyped p) (Ok υ)) e' ∙ ap (λ (x : Bool). need x (Mistyped p) (Ok τ)) s

  module _ (t u : Expr) where
    opened_let : check Φ Γ p (bind t u) ≡ and_then (check Φ Γ (p + 1) t) (λ σ. need (ltb (length Γ) 32) (OverLimit p) (check Φ (Γ ++ (σ ∷ [])) (p + 1 + length (encode_expr t)) u))
    unfolding check
    opened_let = refl

    pub first_part_fault : {fault : TypeFault} → check Φ Γ (p + 1) t ≡ Err fault → check Φ Γ p (bind t u) ≡ Err fault
    first_part_fault e = opened_let ∙ then_err _ e

    first_part : {σ : Ty} → check Φ Γ (p + 1) t ≡ Ok σ → check Φ Γ p (bind t u) ≡ need (ltb (length Γ) 32) (OverLimit p) (check Φ (Γ ++ (σ ∷ [])) (p + 1 + length (encode_expr t)) u)
    first_part e = opened_let ∙ then_at (λ σ. need (ltb (length Γ) 32) (OverLimit p) (check Φ (Γ ++ (σ ∷ [])) (p + 1 + length (encode_expr t)) u)) e

    pub names_over : {σ : Ty} → check Φ Γ (p + 1) t ≡ Ok σ → 32 ≤ length Γ → check Φ Γ p (bind t u) ≡ Err (OverLimit p)
    names_over {σ} e h = first_part e ∙ ap (λ (b : Bool). need b (OverLimit p) (check Φ (Γ ++ (σ ∷ [])) (p + 1 + length (encode_expr t)) u)) (le-ltb (length Γ) 32 h)

    pub second_part : {σ : Ty} → check Φ Γ (p + 1) t ≡ Ok σ → length Γ < 32 → check Φ Γ p (bind t u) ≡ check Φ (Γ ++ (σ ∷ [])) (p + 1 + length (encode_expr t)) u
    second_part {σ} e h = first_part e ∙ ap (λ (b : Bool). need b (OverLimit p) (check Φ (Γ ++ (σ ∷ [])) (p + 1 + length (encode_expr t)) u)) (lt-ltb (length Γ) 32 h)
