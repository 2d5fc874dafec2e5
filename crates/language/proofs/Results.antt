-- Results worked out one after the other.
use Rattle.std.proofs.Common.{◌≡◌, ℕ, List, IsErrAnd, Ok, Err, Result, sym, refl, ap, ◌∙◌, arith}
use Rattle.language.specs.declared.rest.Rest.{Rest}
use Rattle.language.specs.Outcomes.{and_then, Follows}

-- a fault is no accepted value
pub clash : {E A : Type 0} {f : E} {x : A} {r : Result A E} → r ≡ Err f → r ≡ Ok x → ⊥
clash p q = let z : ◌≡◌ {A = ℕ} 0 1 = cc in omega arith

pub ok_same : {E A : Type 0} {x y : A} {r : Result A E} → r ≡ Ok x → r ≡ Ok y → x ≡ y
ok_same p q = cc

-- where both go on alike, so do the results
pub then_same : {E A B : Type 0} (r : Result A E) (f g : A → Result B E) → ((x : A) → r ≡ Ok x → f x ≡ g x) → and_then r f ≡ and_then r g
then_same (Ok x) f g h = h x refl
then_same (Err fault) f g h = refl

-- an accepted result was accepted at its first step
pub then_ok : {E A B : Type 0} (r : Result A E) (f : A → Result B E) {y : B} → and_then r f ≡ Ok y → (x : A) × (r ≡ Ok x) × (f x ≡ Ok y)
then_ok (Ok x) f h = (x, refl, h)
then_ok (Err fault) f h = absurd (clash refl h)

pub then_at : {E A B : Type 0} {r : Result A E} (f : A → Result B E) {x : A} → r ≡ Ok x → and_then r f ≡ f x
then_at f e = ap (λ r. and_then r f) e

pub then_err : {E A B : Type 0} {r : Result A E} (f : A → Result B E) {fault : E} → r ≡ Err fault → and_then r f ≡ Err fault
then_err f e = ap (λ r. and_then r f) e

-- the exit of a `?` with the fault unchanged
pub broke : {E A B : Type 0} (S : A → B → Type 0) (w : ℕ) {out : Result (B × List ℕ) E} (r : Result (A × Rest) E) (e : E) → IsErrAnd r (λ y. y ≡ e) → out ≡ Err e → Follows S w r out
broke S w (Ok rest) e h q = absurd h
broke S w (Err fault) e h q = q ∙ ap Err (sym h)

-- code that answers with the value itself
pub as_read : {E A : Type 0} {x : A} {rest : List ℕ} {out : Result (A × List ℕ) E} {w w' : ℕ} → (y : A) × (x ≡ y) × (out ≡ Ok (y, rest)) × (w ≡ w') → out ≡ Ok (x, rest)
as_read {rest = rest} (y, e, h, _) = h ∙ ap (λ z. Ok (z, rest)) (sym e)

-- a definition at the whole of what is left
pub at_whole : {X : Type 0} (f : ℕ → X) {w w' : ℕ} {x : X} → w' ≡ w → f w' ≡ x → f w ≡ x
at_whole f e h = ap f (sym e) ∙ h
