-- Unfolding: the tree of the main expression without functions, each call with the body that it calls.
use Rattle.std.specs.Prelude.{◌≡◌, ℕ, zero, suc, ◌+◌, ◌<◌, cond, List, [], ◌∷◌, ◌++◌, length, Ok, Err, Result, nat_le}
use Rattle.language.specs.declared.fault.ReadFault.{ReadFault}
use Rattle.language.specs.declared.fault.TypeFault.{TypeFault}
use Rattle.language.specs.declared.fault.TypeFault.TheVariants.{Reading}
use Rattle.language.specs.declared.fault.UnfoldFault.{UnfoldFault}
use Rattle.language.specs.declared.fault.UnfoldFault.TheVariants.{Typing, Size, Flips}
use Rattle.language.specs.declared.command.Operand.{Operand}
use Rattle.language.specs.declared.command.Operand.TheVariants.{False}
use Rattle.language.specs.declared.command.Simple.{Simple}
use Rattle.language.specs.declared.command.Simple.TheVariants.{Atom, Pair, First, Second, Flip, Observe, Call}
use Rattle.language.specs.Outcomes.{and_then}
use Rattle.language.specs.Syntax.{Ty, bool, Expr, plain, branch, bind, Function, Program}
use Rattle.language.specs.Reading.{tree_of}
use Rattle.language.specs.Typing.{Checked, check, checked_program}

-- an unfolded expression: a let has the type of its first part, a call the body that it calls
pub data Tree : Type 0 where
  atom : Operand → Tree
  pair : Operand → Operand → Tree
  first : Operand → Tree
  second : Operand → Tree
  flip : (row : ℕ) → Tree
  observe : Operand → Tree
  call : Operand → Tree → Tree
  choice : Operand → Tree → Tree → Tree
  binding : Ty → Tree → Tree → Tree

-- its number of commands, where a call is one besides the body that it calls
abbrev pub size : Tree → ℕ
size (atom a) = 1
size (pair a b) = 1
size (first a) = 1
size (second a) = 1
size (flip row) = 1
size (observe a) = 1
size (call a t) = 1 + size t
size (choice a t u) = 1 + (size t + size u)
size (binding τ t u) = 1 + (size t + size u)

-- its number of flips, those of both arms and of each call
abbrev pub flips : Tree → ℕ
flips (atom a) = 0
flips (pair a b) = 0
flips (first a) = 0
flips (second a) = 0
flips (flip row) = 1
flips (observe a) = 0
flips (call a t) = flips t
flips (choice a t u) = flips t + flips u
flips (binding τ t u) = flips t + flips u

-- the body of function k (no typed call asks for one that is not there)
abbrev pub body_at : List Tree → ℕ → Tree
body_at [] k = atom False
body_at (t ∷ bodies) zero = t
body_at (t ∷ bodies) (suc k) = body_at bodies k

abbrev pub unfold_simple : (bodies : List Tree) → Simple → Tree
unfold_simple bodies (Atom a) = atom a
unfold_simple bodies (Pair a b) = pair a b
unfold_simple bodies (First a) = first a
unfold_simple bodies (Second a) = second a
unfold_simple bodies (Flip row) = flip row
unfold_simple bodies (Observe a) = observe a
unfold_simple bodies (Call k a) = call a (body_at bodies k)

-- the type that checking finds (no typed expression lacks one)
abbrev pub found_type : Checked Ty → Ty
found_type (Ok τ) = τ
found_type (Err fault) = bool

-- an expression with names of the types Γ, unfolded: Φ are the functions that it may call, and `bodies` theirs unfolded
unfoldable pub unfold_expr : (Φ : List Function) (bodies : List Tree) (Γ : List Ty) → Expr → Tree
unfold_expr Φ bodies Γ (plain s) = unfold_simple bodies s
unfold_expr Φ bodies Γ (branch a t u) = choice a (unfold_expr Φ bodies Γ t) (unfold_expr Φ bodies Γ u)
unfold_expr Φ bodies Γ (bind t u) =
    let σ = found_type (check Φ Γ 0 t) in
    binding σ (unfold_expr Φ bodies Γ t) (unfold_expr Φ bodies (Γ ++ (σ ∷ [])) u)

-- a function's body, unfolded
abbrev pub unfold_body : (before : List Function) (bodies : List Tree) → Function → Tree
unfold_body before bodies f = unfold_expr before bodies (f.parameter ∷ []) f.body

-- the bodies of functions, in order, after those before them
unfoldable pub unfold_bodies : (before : List Function) (bodies : List Tree) (fs : List Function) → List Tree
unfold_bodies before bodies [] = bodies
unfold_bodies before bodies (f ∷ fs) = unfold_bodies (before ++ (f ∷ [])) (bodies ++ (unfold_body before bodies f ∷ [])) fs

-- the bodies of a program's first functions
abbrev pub bodies_of : List Function → List Tree
bodies_of fs = unfold_bodies [] [] fs

-- The unfolded tree of a program's main expression.
abbrev pub unfolded : Program → Tree
unfolded p = unfold_expr p.functions (bodies_of p.functions) [] p.main

-- only functions below a number are called, as in every typed program
abbrev pub CallBelow : ℕ → Simple → Type 0
CallBelow n (Atom a) = Unit {0}
CallBelow n (Pair a b) = Unit {0}
CallBelow n (First a) = Unit {0}
CallBelow n (Second a) = Unit {0}
CallBelow n (Flip row) = Unit {0}
CallBelow n (Observe a) = Unit {0}
CallBelow n (Call k a) = k < n

abbrev pub CallsBelow : ℕ → Expr → Type 0
CallsBelow n (plain s) = CallBelow n s
CallsBelow n (branch a t u) = CallsBelow n t × CallsBelow n u
CallsBelow n (bind t u) = CallsBelow n t × CallsBelow n u

-- each body calls only functions before its own
abbrev pub WellCalled : Program → Type 0
WellCalled p = (before : List Function) (f : Function) (following : List Function) → p.functions ≡ before ++ (f ∷ following) → CallsBelow (length before) f.body

-- a lower layer's outcome, with its fault carried whole
abbrev pub from_reading : {A : Type 0} → Result A ReadFault → Result A TypeFault
from_reading (Ok x) = Ok x
from_reading (Err fault) = Err (Reading fault)

abbrev pub from_typing : {A : Type 0} → Result A TypeFault → Result A UnfoldFault
from_typing (Ok x) = Ok x
from_typing (Err fault) = Err (Typing fault)

-- A program's tree and the type of its main expression, or the first fault of reading and typing.
abbrev pub typed_of : List ℕ → Result (Program × Ty) TypeFault
typed_of bytes = and_then (from_reading (tree_of bytes)) (λ p. and_then (checked_program p) (λ τ. Ok (p, τ)))

-- at most 4,096 commands, then at most 128 flips
abbrev pub limited : Program × Ty → Result (Program × Ty) UnfoldFault
limited x = cond (nat_le (size (unfolded x.0)) 4096) (cond (nat_le (flips (unfolded x.0)) 128) (Ok x) (Err Flips)) (Err Size)

-- A program that is accepted, or the first fault of the three layers.
abbrev pub accepted_of : List ℕ → Result (Program × Ty) UnfoldFault
accepted_of bytes = and_then (from_typing (typed_of bytes)) limited
