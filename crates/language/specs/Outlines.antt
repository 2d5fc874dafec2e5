-- What the code keeps of a program's types and functions.
use Rattle.std.specs.Prelude.{◌≡◌, ℕ, ◌+◌, ◌<◌, ◌≤◌, List, [], ◌∷◌, ◌++◌, length, Some, None, Ok, Err, Option, Result, slice_index_or}
use Rattle.language.specs.declared.rest.Rest.{Rest}
use Rattle.bounded.specs.declared.Bounded.{Bounded}
use Rattle.bounded.specs.Listed.{listed}
use Rattle.language.specs.declared.fault.ReadFault.{ReadFault}
use Rattle.language.specs.declared.types.TypeCode.{TypeCode}
use Rattle.language.specs.declared.outline.FunctionOutline.{FunctionOutline}
use Rattle.language.specs.declared.outline.Outline.{Outline}
use Rattle.language.specs.Syntax.{Ty, bool, product, leaves, encode_ty, Function, Program, place_after, body_place}

-- the bytes of a type that the code holds
abbrev pub type_bytes : TypeCode → List ℕ
type_bytes t = listed t.bytes

-- the code holds this type
abbrev pub Coded : TypeCode → Ty → Type 0
Coded t τ = type_bytes t ≡ encode_ty τ

-- the number is that of the type's leaves
abbrev pub Counted : ℕ → Ty → Type 0
Counted n τ = n ≡ leaves τ

-- the pair of two types, where it has at most 16 leaves
abbrev pub PairCoded : Option TypeCode → Ty → Ty → Type 0
PairCoded (Some t) σ τ = Coded t (product σ τ) × (leaves σ + leaves τ ≤ 16)
PairCoded None σ τ = 16 < leaves σ + leaves τ

-- the parts of a type, where it is a pair
abbrev pub PartsCoded : Option (TypeCode × TypeCode) → Ty → Type 0
PartsCoded (Some t) bool = ⊥
PartsCoded (Some t) (product σ τ) = Coded t.0 σ × Coded t.1 τ
PartsCoded None bool = Unit {0}
PartsCoded None (product σ τ) = ⊥

-- what the code keeps of a function that begins at a place: its types, and where its body begins
pub record Outlined (place : ℕ) (o : FunctionOutline) (f : Function) : Type 0 where
  pub parameter_code : Coded o.parameter f.parameter
  pub result_code : Coded o.result f.result
  pub body_is_at : o.body ≡ body_place place f

-- what it keeps of functions, the first of which begins at byte 1: each at its number, where any element may stand for one that is missing
abbrev pub AllOutlined : List FunctionOutline → List Function → Type 0
AllOutlined os fs =
    (before : List Function) (f : Function) (following : List Function) (none : FunctionOutline) → fs ≡ before ++ (f ∷ following) →
    Outlined (place_after before) (slice_index_or os (length before) none) f

-- just the functions that may be called
abbrev pub Callable : List FunctionOutline → List Function → Type 0
Callable os Φ = AllOutlined os Φ × (length Φ ≡ length os)

-- a program's functions, all of which may be called
abbrev pub Functions : Bounded FunctionOutline 16 → List Function → Type 0
Functions os fs = Callable (listed os) fs

-- and of a program
pub record Outlines (o : Outline) (p : Program) : Type 0 where
  pub functions_are : Functions o.functions p.functions
  pub main_is : o.main ≡ place_after p.functions

-- reading answers with an outline of the tree, or with its fault
abbrev pub Reads : Result Outline ReadFault → Result Program ReadFault → Type 0
Reads (Ok o) out = (p : Program) × (out ≡ Ok p) × Outlines o p
Reads (Err fault) out = out ≡ Err fault

-- code answers only with what is left of a program of `whole` bytes
abbrev pub Passes : {A : Type 0} (whole : ℕ) → Result Rest ReadFault → Result (A × List ℕ) ReadFault → Type 0
Passes {A = A} whole (Ok rest) out = (x : A) × (out ≡ Ok (x, rest.bytes.now)) × (rest.whole ≡ whole)
Passes whole (Err fault) out = out ≡ Err fault

-- the code holds these types, one at each number
abbrev pub AllCoded : List TypeCode → List Ty → Type 0
AllCoded [] [] = Unit {0}
AllCoded [] (τ ∷ Γ) = ⊥
AllCoded (t ∷ ts) [] = ⊥
AllCoded (t ∷ ts) (τ ∷ Γ) = Coded t τ × AllCoded ts Γ

-- code answers with the type that the definition gives, or with its fault
abbrev pub Types : {E : Type 0} → Result TypeCode E → Result Ty E → Type 0
Types (Ok t) out = (τ : Ty) × Coded t τ × (out ≡ Ok τ)
Types (Err fault) out = out ≡ Err fault

-- or with both parts of a pair
abbrev pub PartsTyped : {E : Type 0} → Result (TypeCode × TypeCode) E → Result (Ty × Ty) E → Type 0
PartsTyped (Ok t) out = (σ : Ty) × (τ : Ty) × Coded t.0 σ × Coded t.1 τ × (out ≡ Ok (σ, τ))
PartsTyped (Err fault) out = out ≡ Err fault

-- and besides with what is left, the last bytes of a program of `whole` bytes
abbrev pub TypesPast : {E : Type 0} → (rest : List ℕ) (whole : ℕ) → Result (TypeCode × Rest) E → Result Ty E → Type 0
TypesPast rest whole (Ok x) out = (τ : Ty) × Coded x.0 τ × (out ≡ Ok τ) × (x.1.bytes.now ≡ rest) × (x.1.whole ≡ whole)
TypesPast rest whole (Err fault) out = out ≡ Err fault
