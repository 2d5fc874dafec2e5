-- The trees of programs, and their bytes.
use Rattle.std.specs.Prelude.{ℕ, suc, ◌+◌, ◌≤◌, List, [], ◌∷◌, ◌++◌, length, ◌≢◌}
use Rattle.language.specs.declared.command.Operand.{Operand}
use Rattle.language.specs.declared.command.Operand.TheVariants.{False, True, Name}
use Rattle.language.specs.declared.command.Simple.{Simple}
use Rattle.language.specs.declared.command.Simple.TheVariants.{Atom, Pair, First, Second, Flip, Observe, Call}

-- a type: Bool, or a pair of two types
pub data Ty : Type 0 where
  bool : Ty
  product : Ty → Ty → Ty

-- its leaves are its Bools
abbrev pub leaves : Ty → ℕ
leaves bool = 1
leaves (product σ τ) = leaves σ + leaves τ

-- an expression: a simple command, an if with its guard and arms, or a let with its two parts
pub data Expr : Type 0 where
  plain : Simple → Expr
  branch : Operand → Expr → Expr → Expr
  bind : Expr → Expr → Expr

pub record Function : Type 0 where
  pub parameter : Ty
  pub result : Ty
  pub body : Expr

pub record Program : Type 0 where
  pub functions : List Function
  pub main : Expr

abbrev pub encode_ty : Ty → List ℕ
encode_ty bool = 0 ∷ []
encode_ty (product σ τ) = 1 ∷ (encode_ty σ ++ encode_ty τ)

abbrev pub operand_byte : Operand → ℕ
operand_byte False = 254
operand_byte True = 255
operand_byte (Name k) = k

abbrev pub encode_simple : Simple → List ℕ
encode_simple (Atom a) = 1 ∷ operand_byte a ∷ []
encode_simple (Pair a b) = 2 ∷ operand_byte a ∷ operand_byte b ∷ []
encode_simple (First a) = 3 ∷ operand_byte a ∷ []
encode_simple (Second a) = 4 ∷ operand_byte a ∷ []
encode_simple (Flip row) = 5 ∷ row ∷ []
encode_simple (Observe a) = 8 ∷ operand_byte a ∷ []
encode_simple (Call f a) = 9 ∷ f ∷ operand_byte a ∷ []

abbrev pub encode_expr : Expr → List ℕ
encode_expr (plain s) = encode_simple s
encode_expr (branch a t u) = 6 ∷ operand_byte a ∷ (encode_expr t ++ encode_expr u)
encode_expr (bind t u) = 7 ∷ (encode_expr t ++ encode_expr u)

abbrev pub encode_function : Function → List ℕ
encode_function f = encode_ty f.parameter ++ (encode_ty f.result ++ encode_expr f.body)

abbrev pub encode_functions : List Function → List ℕ
encode_functions [] = []
encode_functions (f ∷ fs) = encode_function f ++ encode_functions fs

abbrev pub encode : Program → List ℕ
encode p = length p.functions ∷ (encode_functions p.functions ++ encode_expr p.main)

-- 254 and 255 are the bytes of false and true, so they number no name
abbrev pub ProperOperand : Operand → Type 0
ProperOperand False = Unit {0}
ProperOperand True = Unit {0}
ProperOperand (Name k) = (k ≢ 254) × (k ≢ 255)

abbrev pub ProperSimple : Simple → Type 0
ProperSimple (Atom a) = ProperOperand a
ProperSimple (Pair a b) = ProperOperand a × ProperOperand b
ProperSimple (First a) = ProperOperand a
ProperSimple (Second a) = ProperOperand a
ProperSimple (Flip row) = Unit {0}
ProperSimple (Observe a) = ProperOperand a
ProperSimple (Call f a) = ProperOperand a

abbrev pub Proper : Expr → Type 0
Proper (plain s) = ProperSimple s
Proper (branch a t u) = ProperOperand a × Proper t × Proper u
Proper (bind t u) = Proper t × Proper u

-- a function within the reading limits: at most 16 leaves a type
pub record Readable (f : Function) : Type 0 where
  pub parameter_leaves : leaves f.parameter ≤ 16
  pub result_leaves : leaves f.result ≤ 16
  pub body_proper : Proper f.body

abbrev pub AllReadable : List Function → Type 0
AllReadable [] = Unit {0}
AllReadable (f ∷ fs) = Readable f × AllReadable fs

-- a program within the reading limits: at most 4,096 bytes, at most 16 functions, at most 16 leaves a type
pub record WithinReading (p : Program) : Type 0 where
  pub bytes : length (encode p) ≤ 4096
  pub count : length p.functions ≤ 16
  pub functions_readable : AllReadable p.functions
  pub main_proper : Proper p.main

-- where a function begins that has these before it, and the main expression after all of them
abbrev pub place_after : List Function → ℕ
place_after before = suc (length (encode_functions before))

-- where a body begins, in a function that begins at a place
abbrev pub body_place : (place : ℕ) → Function → ℕ
body_place place f = place + (length (encode_ty f.parameter) + length (encode_ty f.result))
