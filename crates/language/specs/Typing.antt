-- Typing: the rules as a relation, and checking, which finds the first fault.
use Rattle.std.specs.Prelude.{ℕ, zero, suc, ◌+◌, ◌<◌, ◌≤◌, Bool, true, false, cond, ◌&&◌, List, [], ◌∷◌, ◌++◌, length, Ok, Err, Result, nat_le, nat_lt}
use Rattle.std.proofs.Math.Option.{Option, some, none}
use Rattle.language.specs.declared.fault.TypeFault.{TypeFault}
use Rattle.language.specs.declared.fault.TypeFault.TheVariants.{OutOfScope, Mistyped, NoFunction, OverLimit}
use Rattle.language.specs.declared.command.Operand.{Operand}
use Rattle.language.specs.declared.command.Operand.TheVariants.{False, True, Name}
use Rattle.language.specs.declared.command.Simple.{Simple}
use Rattle.language.specs.declared.command.Simple.TheVariants.{Atom, Pair, First, Second, Flip, Observe, Call}
use Rattle.language.specs.Outcomes.{and_then}
use Rattle.language.specs.Syntax.{Ty, bool, product, leaves, Expr, plain, branch, bind, encode_expr, Function, Program, place_after, body_place}

-- what stands at a number of a list
pub data At {A : Type 0} : List A → ℕ → A → Type 0 where
  here : {x : A} {xs : List A} → At (x ∷ xs) zero x
  later : {x y : A} {xs : List A} {k : ℕ} → At xs k x → At (y ∷ xs) (suc k) x

-- Γ lists the types of the names in scope, the outermost first, and Φ the functions that may be called.

-- an operand's type
pub data Has (Γ : List Ty) : Operand → Ty → Type 0 where
  has_false : Has Γ False bool
  has_true : Has Γ True bool
  has_name : {k : ℕ} {τ : Ty} → At Γ k τ → Has Γ (Name k) τ

-- The typing rules.
pub data Typed (Φ : List Function) : List Ty → Expr → Ty → Type 0 where
  is_atom : {Γ : List Ty} {a : Operand} {τ : Ty} → Has Γ a τ → Typed Φ Γ (plain (Atom a)) τ
  is_pair : {Γ : List Ty} {a b : Operand} {σ τ : Ty} → Has Γ a σ → Has Γ b τ → Typed Φ Γ (plain (Pair a b)) (product σ τ)
  is_first : {Γ : List Ty} {a : Operand} {σ τ : Ty} → Has Γ a (product σ τ) → Typed Φ Γ (plain (First a)) σ
  is_second : {Γ : List Ty} {a : Operand} {σ τ : Ty} → Has Γ a (product σ τ) → Typed Φ Γ (plain (Second a)) τ
  is_flip : {Γ : List Ty} {row : ℕ} → Typed Φ Γ (plain (Flip row)) bool
  is_observe : {Γ : List Ty} {a : Operand} → Has Γ a bool → Typed Φ Γ (plain (Observe a)) bool
  is_call : {Γ : List Ty} {k : ℕ} {a : Operand} {f : Function} → At Φ k f → Has Γ a f.parameter → Typed Φ Γ (plain (Call k a)) f.result
  is_if : {Γ : List Ty} {a : Operand} {t u : Expr} {τ : Ty} → Has Γ a bool → Typed Φ Γ t τ → Typed Φ Γ u τ → Typed Φ Γ (branch a t u) τ
  is_let : {Γ : List Ty} {t u : Expr} {σ τ : Ty} → Typed Φ Γ t σ → Typed Φ (Γ ++ (σ ∷ [])) u τ → Typed Φ Γ (bind t u) τ

-- a derivation within the typing limits: pairs of at most 16 leaves, lets at fewer than 32 names
abbrev pub Small : {Φ : List Function} {Γ : List Ty} {e : Expr} {τ : Ty} → Typed Φ Γ e τ → Type 0
Small (is_atom a) = Unit {0}
Small (is_pair {σ = σ} {τ = τ} a b) = leaves σ + leaves τ ≤ 16
Small (is_first a) = Unit {0}
Small (is_second a) = Unit {0}
Small is_flip = Unit {0}
Small (is_observe a) = Unit {0}
Small (is_call f a) = Unit {0}
Small (is_if a t u) = Small t × Small u
Small (is_let {Γ = Γ} t u) = Small t × (length Γ < 32) × Small u

-- each body has its result type, with its parameter as the only name and the functions before it to call
pub data Bodies : (before fs : List Function) → Type 0 where
  no_more : {before : List Function} → Bodies before []
  body : {before : List Function} {f : Function} {fs : List Function} → (d : Typed before (f.parameter ∷ []) f.body f.result) → Small d → Bodies (before ++ (f ∷ [])) fs → Bodies before (f ∷ fs)

-- a program of a type: its bodies, and its main expression, which has no names and may call every function
pub record WellTyped (p : Program) (τ : Ty) : Type 0 where
  pub bodies : Bodies [] p.functions
  pub main : Typed p.functions [] p.main τ
  pub main_small : Small main

-- Checking.

abbrev pub Checked : Type 0 → Type 0
Checked A = Result A TypeFault

abbrev pub same_type : Ty → Ty → Bool
same_type bool bool = true
same_type bool (product σ τ) = false
same_type (product σ τ) bool = false
same_type (product σ τ) (product ρ υ) = same_type σ ρ && same_type τ υ

abbrev pub at : {A : Type 0} → List A → ℕ → Option A
at [] k = none
at (x ∷ xs) zero = some x
at (x ∷ xs) (suc k) = at xs k

-- a value that has to be there, or the fault
abbrev pub or_fault : {A : Type 0} → TypeFault → Option A → Checked A
or_fault fault none = Err fault
or_fault fault (some x) = Ok x

-- goes on if a test is passed
abbrev pub need : {A : Type 0} → Bool → TypeFault → Checked A → Checked A
need b fault r = cond b r (Err fault)

-- an operand of the command at a place
abbrev pub type_of_operand : List Ty → (place : ℕ) → Operand → Checked Ty
type_of_operand Γ place False = Ok bool
type_of_operand Γ place True = Ok bool
type_of_operand Γ place (Name k) = or_fault (OutOfScope place) (at Γ k)

-- the parts of a pair
abbrev pub parts_of : Ty → Option (Ty × Ty)
parts_of bool = none
parts_of (product σ τ) = some (σ, τ)

-- an operand that has to be Bool
abbrev pub bool_operand : List Ty → (place : ℕ) → Operand → Checked (Unit {0})
bool_operand Γ place a = and_then (type_of_operand Γ place a) (λ τ. need (same_type τ bool) (Mistyped place) (Ok tt))

-- an operand that has to be a pair: the types of its parts
abbrev pub pair_operand : List Ty → (place : ℕ) → Operand → Checked (Ty × Ty)
pair_operand Γ place a = and_then (type_of_operand Γ place a) (λ τ. or_fault (Mistyped place) (parts_of τ))

-- a call of function k with an operand of a type: the function, then the type of its parameter
abbrev pub call_type : List Function → (place k : ℕ) → Ty → Checked Ty
call_type Φ place k τ = and_then (or_fault (NoFunction place) (at Φ k)) (λ f. need (same_type τ f.parameter) (Mistyped place) (Ok f.result))

-- operands in byte order, then at a call the function, then the command's own rule
abbrev pub checked_simple : List Function → List Ty → (place : ℕ) → Simple → Checked Ty
checked_simple Φ Γ place (Atom a) = type_of_operand Γ place a
checked_simple Φ Γ place (Pair a b) =
    and_then (type_of_operand Γ place a) (λ σ.
    and_then (type_of_operand Γ place b) (λ τ.
    need (nat_le (leaves σ + leaves τ) 16) (OverLimit place) (Ok (product σ τ))))
checked_simple Φ Γ place (First a) = and_then (pair_operand Γ place a) (λ parts. Ok parts.0)
checked_simple Φ Γ place (Second a) = and_then (pair_operand Γ place a) (λ parts. Ok parts.1)
checked_simple Φ Γ place (Flip row) = Ok bool
checked_simple Φ Γ place (Observe a) = and_then (bool_operand Γ place a) (λ _. Ok bool)
checked_simple Φ Γ place (Call k a) = and_then (type_of_operand Γ place a) (call_type Φ place k)

-- The type of the expression that begins at a place, or the first fault.
-- An if: its guard, its arms, their agreement. A let: its first part, the number of names, its second part.
unfoldable pub check : List Function → List Ty → (place : ℕ) → Expr → Checked Ty
check Φ Γ place (plain s) = checked_simple Φ Γ place s
check Φ Γ place (branch a t u) =
    and_then (bool_operand Γ place a) (λ _.
    and_then (check Φ Γ (place + 2) t) (λ σ.
    and_then (check Φ Γ (place + 2 + length (encode_expr t)) u) (λ τ.
    need (same_type σ τ) (Mistyped place) (Ok τ))))
check Φ Γ place (bind t u) =
    and_then (check Φ Γ (place + 1) t) (λ σ.
    need (nat_lt (length Γ) 32) (OverLimit place)
    (check Φ (Γ ++ (σ ∷ [])) (place + 1 + length (encode_expr t)) u))

-- a function's body, of the type that it promises
abbrev pub checked_body : (before : List Function) → Function → Checked (Unit {0})
checked_body before f =
    let place = body_place (place_after before) f in
    and_then (check before (f.parameter ∷ []) place f.body) (λ τ.
    need (same_type τ f.result) (Mistyped place) (Ok tt))

-- the functions in order
unfoldable pub checked_bodies : (before fs : List Function) → Checked (Unit {0})
checked_bodies before [] = Ok tt
checked_bodies before (f ∷ fs) = and_then (checked_body before f) (λ _. checked_bodies (before ++ (f ∷ [])) fs)

-- The type of a program's main expression, or the first fault: the functions, then main.
abbrev pub checked_program : Program → Checked Ty
checked_program p = and_then (checked_bodies [] p.functions) (λ _. check p.functions [] (place_after p.functions) p.main)
