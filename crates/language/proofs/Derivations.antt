-- Checking accepts exactly what the typing rules derive within the limits.
use Rattle.std.proofs.Common.{◌≡◌, ℕ, zero, suc, ◌+◌, Bool, true, false, ltb, leb, List, [], ◌∷◌, ◌++◌, length, Ok, refl, ap, ◌∙◌, subst, arith, ltb-true, lt-ltb, le-leb, leb-true}
use mathlib.Core.Option.{Option, some, none}
use Rattle.std.proofs.lemmas.Bool.{false≢true, and_parts}
use Rattle.language.specs.declared.fault.TypeFault.{TypeFault}
use Rattle.language.specs.declared.fault.TypeFault.TheVariants.{OutOfScope, Mistyped, NoFunction, OverLimit}
use Rattle.language.specs.declared.command.Operand.{Operand}
use Rattle.language.specs.declared.command.Operand.TheVariants.{False, True, Name}
use Rattle.language.specs.declared.command.Simple.{Simple}
use Rattle.language.specs.declared.command.Simple.TheVariants.{Atom, Pair, First, Second, Flip, Observe, Call}
use Rattle.language.specs.Outcomes.{and_then}
use Rattle.language.specs.Syntax.{Ty, bool, product, leaves, Expr, plain, branch, bind, encode_expr, Function, Program, place_after, body_place}
use Rattle.language.specs.Typing.{At, here, later, Has, has_false, has_true, has_name, Typed, is_atom, is_pair, is_first, is_second, is_flip, is_observe, is_call, is_if, is_let, Small, Bodies, no_more, body, WellTyped, Checked, same_type, at, or_fault, need, type_of_operand, bool_operand, call_type, parts_of, pair_operand, checked_simple, check, checked_body, checked_bodies, checked_program}
use Rattle.language.proofs.Results.{clash, ok_same, then_ok, then_at}

-- Equal types.

pub same_refl : (τ : Ty) → same_type τ τ ≡ true
same_refl bool = refl
same_refl (product σ τ) = rw (same_refl σ) (same_refl τ)

pub same_eq : (σ τ : Ty) → same_type σ τ ≡ true → σ ≡ τ
same_eq bool bool h = refl
same_eq bool (product ρ υ) h = absurd (false≢true h)
same_eq (product σ τ) bool h = absurd (false≢true h)
same_eq (product σ τ) (product ρ υ) h =
    let p = and_parts (same_type σ ρ) (same_type τ υ) h in
    cc (same_eq σ ρ p.0, same_eq τ υ p.1)

-- Places of lists.

pub at_from : {A : Type 0} (xs : List A) (k : ℕ) (x : A) → at xs k ≡ some x → At xs k x
at_from [] k x h = absurd (let z : ◌≡◌ {A = ℕ} 0 1 = cc in omega arith)
at_from (y ∷ xs) zero x h = let e : y ≡ x = cc in subst (λ z. At (y ∷ xs) zero z) e here
at_from (y ∷ xs) (suc k) x h = later (at_from xs k x h)

pub at_is : {A : Type 0} {xs : List A} {k : ℕ} {x : A} → At xs k x → at xs k ≡ some x
at_is here = refl
at_is (later d) = at_is d

-- Steps of checking.

need_ok : {A : Type 0} (b : Bool) (fault : TypeFault) (r : Checked A) {x : A} → need b fault r ≡ Ok x → (b ≡ true) × (r ≡ Ok x)
need_ok true fault r h = (refl, h)
need_ok false fault r h = absurd (clash refl h)

need_true : {A : Type 0} {b : Bool} (fault : TypeFault) (r : Checked A) → b ≡ true → need b fault r ≡ r
need_true fault r e = ap (λ b. need b fault r) e

fault_ok : {A : Type 0} (fault : TypeFault) (o : Option A) {x : A} → or_fault fault o ≡ Ok x → o ≡ some x
fault_ok fault none h = absurd (clash refl h)
fault_ok fault (some y) h = ap some (ok_same refl h)

fault_some : {A : Type 0} (fault : TypeFault) {o : Option A} {x : A} → o ≡ some x → or_fault fault o ≡ Ok x
fault_some fault e = ap (or_fault fault) e

parts_from : (τ σ υ : Ty) → parts_of τ ≡ some (σ, υ) → τ ≡ product σ υ
parts_from bool σ υ h = absurd (let z : ◌≡◌ {A = ℕ} 0 1 = cc in omega arith)
parts_from (product ρ π) σ υ h = let e : (ρ, π) ≡ (σ, υ) = cc in ap (λ (x : Ty × Ty). product x.0 x.1) e

module _ (Φ : List Function) where
  abbrev pub Derives : List Ty → Expr → Ty → Type 0
  Derives Γ e τ = (d : Typed Φ Γ e τ) × Small d

  operand_sound : (Γ : List Ty) (p : ℕ) (a : Operand) (τ : Ty) → type_of_operand Γ p a ≡ Ok τ → Has Γ a τ
  operand_sound Γ p False τ h = subst (Has Γ False) (ok_same refl h) has_false
  operand_sound Γ p True τ h = subst (Has Γ True) (ok_same refl h) has_true
  operand_sound Γ p (Name k) τ h = has_name (at_from Γ k τ (fault_ok (OutOfScope p) (at Γ k) h))

  operand_complete : {Γ : List Ty} {a : Operand} {τ : Ty} → Has Γ a τ → (p : ℕ) → type_of_operand Γ p a ≡ Ok τ
  operand_complete has_false p = refl
  operand_complete has_true p = refl
  operand_complete (has_name d) p = fault_some (OutOfScope p) (at_is d)

  bool_sound : (Γ : List Ty) (p : ℕ) (a : Operand) → bool_operand Γ p a ≡ Ok tt → Has Γ a bool
  bool_sound Γ p a h =
      let x = then_ok (type_of_operand Γ p a) (λ ρ. need (same_type ρ bool) (Mistyped p) (Ok tt)) h in
      let y = need_ok (same_type x.0 bool) (Mistyped p) (Ok tt) x.2 in
      subst (Has Γ a) (same_eq x.0 bool y.0) (operand_sound Γ p a x.0 x.1)

  bool_complete : {Γ : List Ty} {a : Operand} → Has Γ a bool → (p : ℕ) → bool_operand Γ p a ≡ Ok tt
  bool_complete a p = then_at (λ τ. need (same_type τ bool) (Mistyped p) (Ok tt)) (operand_complete a p)

  pair_sound : (Γ : List Ty) (p : ℕ) (a : Operand) (parts : Ty × Ty) → pair_operand Γ p a ≡ Ok parts → Has Γ a (product parts.0 parts.1)
  pair_sound Γ p a parts h =
      let x = then_ok (type_of_operand Γ p a) (λ τ. or_fault (Mistyped p) (parts_of τ)) h in
      subst (Has Γ a) (parts_from x.0 parts.0 parts.1 (fault_ok (Mistyped p) (parts_of x.0) x.2)) (operand_sound Γ p a x.0 x.1)

  pair_complete : {Γ : List Ty} {a : Operand} {σ τ : Ty} → Has Γ a (product σ τ) → (p : ℕ) → pair_operand Γ p a ≡ Ok (σ, τ)
  pair_complete a p = then_at (λ τ. or_fault (Mistyped p) (parts_of τ)) (operand_complete a p)

  simple_sound : (Γ : List Ty) (p : ℕ) (s : Simple) (τ : Ty) → checked_simple Φ Γ p s ≡ Ok τ → Derives Γ (plain s) τ
  simple_sound Γ p (Atom a) τ h = (is_atom (operand_sound Γ p a τ h), tt)
  simple_sound Γ p (Pair a b) τ h =
      let x = then_ok (type_of_operand Γ p a) (λ ρ. and_then (type_of_operand Γ p b) (λ υ. need (leb (leaves ρ + leaves υ) 16) (OverLimit p) (Ok (product ρ υ)))) h in
      let y = then_ok (type_of_operand Γ p b) (λ υ. need (leb (leaves x.0 + leaves υ) 16) (OverLimit p) (Ok (product x.0 υ))) x.2 in
      let z = need_ok (leb (leaves x.0 + leaves y.0) 16) (OverLimit p) (Ok (product x.0 y.0)) y.2 in
      subst (Derives Γ (plain (Pair a b))) (ok_same refl z.1) (is_pair (operand_sound Γ p a x.0 x.1) (operand_sound Γ p b y.0 y.1), leb-true (leaves x.0 + leaves y.0) 16 z.0)
  simple_sound Γ p (First a) τ h =
      let x = then_ok (pair_operand Γ p a) (λ parts. Ok parts.0) h in
      subst (Derives Γ (plain (First a))) (ok_same refl x.2) (is_first (pair_sound Γ p a x.0 x.1), tt)
  simple_sound Γ p (Second a) τ h =
      let x = then_ok (pair_operand Γ p a) (λ parts. Ok parts.1) h in
      subst (Derives Γ (plain (Second a))) (ok_same refl x.2) (is_second (pair_sound Γ p a x.0 x.1), tt)
  simple_sound Γ p (Flip row) τ h = subst (Derives Γ (plain (Flip row))) (ok_same refl h) (is_flip, tt)
  simple_sound Γ p (Observe a) τ h =
      let x = then_ok (bool_operand Γ p a) (λ _. Ok bool) h in
      subst (Derives Γ (plain (Observe a))) (ok_same refl x.2) (is_observe (bool_sound Γ p a x.1), tt)
  simple_sound Γ p (Call k a) τ h =
      let x = then_ok (type_of_operand Γ p a) (call_type Φ p k) h in
      let y = then_ok (or_fault (NoFunction p) (at Φ k)) (λ f. need (same_type x.0 f.parameter) (Mistyped p) (Ok f.result)) x.2 in
      let z = need_ok (same_type x.0 y.0.parameter) (Mistyped p) (Ok y.0.result) y.2 in
      subst (Derives Γ (plain (Call k a))) (ok_same refl z.1)
      (is_call (at_from Φ k y.0 (fault_ok (NoFunction p) (at Φ k) y.1)) (subst (Has Γ a) (same_eq x.0 y.0.parameter z.0) (operand_sound Γ p a x.0 x.1)), tt)

  pub check_sound : (Γ : List Ty) (p : ℕ) (e : Expr) (τ : Ty) → check Φ Γ p e ≡ Ok τ → Derives Γ e τ
  unfolding check
  check_sound Γ p (plain s) τ h = simple_sound Γ p s τ h
  check_sound Γ p (branch a t u) τ h =
      let x = then_ok (bool_operand Γ p a) (λ _. and_then (check Φ Γ (p + 2) t) (λ σ. and_then (check Φ Γ (p + 2 + length (encode_expr t)) u) (λ υ. need (same_type σ υ) (Mistyped p) (Ok υ)))) h in
      let y = then_ok (check Φ Γ (p + 2) t) (λ σ. and_then (check Φ Γ (p + 2 + length (encode_expr t)) u) (λ υ. need (same_type σ υ) (Mistyped p) (Ok υ))) x.2 in
      let z = then_ok (check Φ Γ (p + 2 + length (encode_expr t)) u) (λ υ. need (same_type y.0 υ) (Mistyped p) (Ok υ)) y.2 in
      let s = need_ok (same_type y.0 z.0) (Mistyped p) (Ok z.0) z.2 in
      let e : y.0 ≡ τ = same_eq y.0 z.0 s.0 ∙ ok_same refl s.1 in
      let first = subst (Derives Γ t) e (check_sound Γ (p + 2) t y.0 y.1) in
      let second = subst (Derives Γ u) (ok_same refl s.1) (check_sound Γ (p + 2 + length (encode_expr t)) u z.0 z.1) in
      (is_if (bool_sound Γ p a x.1) first.0 second.0, (first.1, second.1))
  check_sound Γ p (bind t u) τ h =
      let x = then_ok (check Φ Γ (p + 1) t) (λ σ. need (ltb (length Γ) 32) (OverLimit p) (check Φ (Γ ++ (σ ∷ [])) (p + 1 + length (encode_expr t)) u)) h in
      let g = need_ok (ltb (length Γ) 32) (OverLimit p) (check Φ (Γ ++ (x.0 ∷ [])) (p + 1 + length (encode_expr t)) u) x.2 in
      let first = check_sound Γ (p + 1) t x.0 x.1 in
      let second = check_sound (Γ ++ (x.0 ∷ [])) (p + 1 + length (encode_expr t)) u τ g.1 in
      (is_let first.0 second.0, (first.1, ltb-true (length Γ) 32 g.0, second.1))

  pub check_complete : {Γ : List Ty} {e : Expr} {τ : Ty} (d : Typed Φ Γ e τ) → Small d → (p : ℕ) → check Φ Γ p e ≡ Ok τ
  unfolding check
  check_complete (is_atom a) s p = operand_complete a p
  check_complete (is_pair {σ = σ} {τ = τ} a b) s p =
      then_at _ (operand_complete a p) ∙ then_at _ (operand_complete b p) ∙ need_true (OverLimit p) (Ok (product σ τ)) (le-leb (leaves σ + leaves τ) 16 s)
  check_complete (is_first a) s p = then_at (λ parts. Ok parts.0) (pair_complete a p)
  check_complete (is_second a) s p = then_at (λ parts. Ok parts.1) (pair_complete a p)
  check_complete is_flip s p = refl
  check_complete (is_observe a) s p = then_at (λ _. Ok bool) (bool_complete a p)
  check_complete (is_call {f = f} d a) s p =
      then_at (call_type Φ p _) (operand_complete a p)
      ∙ then_at (λ g. need (same_type f.parameter g.parameter) (Mistyped p) (Ok g.result)) (fault_some (NoFunction p) (at_is d))
      ∙ need_true (Mistyped p) (Ok f.result) (same_refl f.parameter)
  check_complete {Γ = Γ} (is_if {t = t} {u = u} {τ = τ} a d d') s p =
      then_at (λ _. and_then (check Φ Γ (p + 2) t) (λ σ. and_then (check Φ Γ (p + 2 + length (encode_expr t)) u) (λ υ. need (same_type σ υ) (Mistyped p) (Ok υ)))) (bool_complete a p)
      ∙ then_at (λ σ. and_then (check Φ Γ (p + 2 + length (encode_expr t)) u) (λ υ. need (same_type σ υ) (Mistyped p) (Ok υ))) (check_complete d s.0 (p + 2))
      ∙ then_at (λ υ. need (same_type τ υ) (Mistyped p) (Ok υ)) (check_complete d' s.1 (p + 2 + length (encode_expr t)))
      ∙ need_true (Mistyped p) (Ok τ) (same_refl τ)
  check_complete {Γ = Γ} (is_let {t = t} {u = u} {σ = σ} d d') s p =
      then_at (λ ρ. need (ltb (length Γ) 32) (OverLimit p) (check Φ (Γ ++ (ρ ∷ [])) (p + 1 + length (encode_expr t)) u)) (check_complete d s.0 (p + 1))
      ∙ need_true (OverLimit p) (check Φ (Γ ++ (σ ∷ [])) (p + 1 + length (encode_expr t)) u) (lt-ltb (length Γ) 32 s.1)
      ∙ check_complete d' s.2 (p + 1 + length (encode_expr t))

-- Programs.

body_sound : (before : List Function) (f : Function) → checked_body before f ≡ Ok tt → Derives before (f.parameter ∷ []) f.body f.result
body_sound before f h =
    let p = body_place (place_after before) f in
    let x = then_ok (check before (f.parameter ∷ []) p f.body) (λ τ. need (same_type τ f.result) (Mistyped p) (Ok tt)) h in
    let y = need_ok (same_type x.0 f.result) (Mistyped p) (Ok tt) x.2 in
    subst (Derives before (f.parameter ∷ []) f.body) (same_eq x.0 f.result y.0) (check_sound before (f.parameter ∷ []) p f.body x.0 x.1)

body_complete : (before : List Function) (f : Function) (d : Typed before (f.parameter ∷ []) f.body f.result) → Small d → checked_body before f ≡ Ok tt
body_complete before f d s =
    let p = body_place (place_after before) f in
    then_at (λ τ. need (same_type τ f.result) (Mistyped p) (Ok tt)) (check_complete before d s p) ∙ need_true (Mistyped p) (Ok tt) (same_refl f.result)

bodies_sound : (before fs : List Function) → checked_bodies before fs ≡ Ok tt → Bodies before fs
unfolding checked_bodies
bodies_sound before [] h = no_more
bodies_sound before (f ∷ fs) h =
    let x = then_ok (checked_body before f) (λ _. checked_bodies (before ++ (f ∷ [])) fs) h in
    let d = body_sound before f x.1 in
    body d.0 d.1 (bodies_sound (before ++ (f ∷ [])) fs x.2)

bodies_complete : {before fs : List Function} → Bodies before fs → checked_bodies before fs ≡ Ok tt
unfolding checked_bodies
bodies_complete no_more = refl
bodies_complete (body {before = before} {f = f} {fs = fs} d s rest) = then_at (λ _. checked_bodies (before ++ (f ∷ [])) fs) (body_complete before f d s) ∙ bodies_complete rest

pub program_sound : (p : Program) (τ : Ty) → checked_program p ≡ Ok τ → WellTyped p τ
program_sound p τ h =
    let x = then_ok (checked_bodies [] p.functions) (λ _. check p.functions [] (place_after p.functions) p.main) h in
    let d = check_sound p.functions [] (place_after p.functions) p.main τ x.2 in
    record { bodies = bodies_sound [] p.functions x.1; main = d.0; main_small = d.1 }

pub program_complete : (p : Program) (τ : Ty) → WellTyped p τ → checked_program p ≡ Ok τ
program_complete p τ w =
    then_at (λ _. check p.functions [] (place_after p.functions) p.main) (bodies_complete w.bodies)
    ∙ check_complete p.functions w.main w.main_small (place_after p.functions)
