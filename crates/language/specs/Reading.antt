-- Reading from left to right: the tree of a program, or the first fault with its place.
use Rattle.std.specs.Prelude.{ℕ, zero, suc, ◌-◌, cond, List, [], ◌∷◌, length, Ok, Err, Result, ◌==◌, nat_le}
use Rattle.language.specs.declared.fault.ReadFault.{ReadFault}
use Rattle.language.specs.declared.fault.ReadFault.TheVariants.{TooLong, Ends, Unknown, TooWide, Trailing}
use Rattle.language.specs.declared.command.Operand.{Operand}
use Rattle.language.specs.declared.command.Operand.TheVariants.{False, True, Name}
use Rattle.language.specs.declared.command.Simple.TheVariants.{Atom, Pair, First, Second, Flip, Observe, Call}
use Rattle.language.specs.declared.command.Command.{Command}
use Rattle.language.specs.declared.command.Command.TheVariants as commands
use Rattle.language.specs.Outcomes.{and_then}
use Rattle.language.specs.Syntax.{Ty, bool, product, leaves, Expr, plain, branch, bind, Function, Program}

-- something that was read, and the bytes after it; `whole` is always the number of bytes of the whole program
abbrev pub Read : Type 0 → Type 0
Read A = Result (A × List ℕ) ReadFault

-- FE is false, FF is true, any other byte the number of a name
abbrev pub operand_of : ℕ → Operand
operand_of byte = cond (byte == 254) False (cond (byte == 255) True (Name byte))

-- a command with one byte after its own, and one with two
abbrev pub with_one : (whole : ℕ) → (ℕ → Command) → List ℕ → Read Command
with_one whole make [] = Err (Ends whole)
with_one whole make (a ∷ rest) = Ok (make a, rest)

abbrev pub with_two : (whole : ℕ) → (ℕ → ℕ → Command) → List ℕ → Read Command
with_two whole make [] = Err (Ends whole)
with_two whole make (a ∷ []) = Err (Ends whole)
with_two whole make (a ∷ b ∷ rest) = Ok (make a b, rest)

-- the command that a byte begins, by the table of commands
abbrev pub command_of : (whole place byte : ℕ) → List ℕ → Read Command
command_of whole place byte rest =
    cond (byte == 1) (with_one whole (λ a. commands.Simple (Atom (operand_of a))) rest)
    (cond (byte == 2) (with_two whole (λ a b. commands.Simple (Pair (operand_of a) (operand_of b))) rest)
    (cond (byte == 3) (with_one whole (λ a. commands.Simple (First (operand_of a))) rest)
    (cond (byte == 4) (with_one whole (λ a. commands.Simple (Second (operand_of a))) rest)
    (cond (byte == 5) (with_one whole (λ row. commands.Simple (Flip row)) rest)
    (cond (byte == 6) (with_one whole (λ a. commands.If (operand_of a)) rest)
    (cond (byte == 7) (Ok (commands.Let, rest))
    (cond (byte == 8) (with_one whole (λ a. commands.Simple (Observe (operand_of a))) rest)
    (cond (byte == 9) (with_two whole (λ f a. commands.Simple (Call f (operand_of a))) rest)
    (Err (Unknown place))))))))))

abbrev pub command_from : (whole : ℕ) → List ℕ → Read Command
command_from whole [] = Err (Ends whole)
command_from whole (byte ∷ rest) = command_of whole (whole - suc (length rest)) byte rest

-- A type and an expression are prefix codes: a front that is already whole, or one that two parts follow.
pub data Front (T : Type 0) : Type 0 where
  done : T → Front T
  fork : (T → T → T) → Front T

-- what follows a front
abbrev pub grow : {T : Type 0} → (List ℕ → Read T) → Front T → List ℕ → Read T
grow part (done t) rest = Ok (t, rest)
grow part (fork make) rest = and_then (part rest) (λ x. and_then (part x.1) (λ y. Ok (make x.0 y.0, y.1)))

-- a tree of at most `depth` fronts one inside the other; as many as there are bytes are enough for all
unfoldable pub tree_from : {T : Type 0} → (front : List ℕ → Read (Front T)) → (whole depth : ℕ) → List ℕ → Read T
tree_from front whole zero bytes = Err (Ends whole)
tree_from front whole (suc depth) bytes = and_then (front bytes) (λ x. grow (tree_from front whole depth) x.0 x.1)

-- 00 is Bool, 01 a pair of the two types that follow
abbrev pub type_front : (whole : ℕ) → List ℕ → Read (Front Ty)
type_front whole [] = Err (Ends whole)
type_front whole (byte ∷ rest) =
    cond (byte == 0) (Ok (done bool, rest))
    (cond (byte == 1) (Ok (fork product, rest))
    (Err (Unknown (whole - suc (length rest)))))

abbrev pub type_from : (whole : ℕ) → List ℕ → Read Ty
type_from whole bytes = tree_from (type_front whole) whole (length bytes) bytes

-- a parameter or result type, whose width is judged after its last byte
abbrev pub narrow_from : (whole : ℕ) → List ℕ → Read Ty
narrow_from whole bytes = and_then (type_from whole bytes) (λ x. cond (nat_le (leaves x.0) 16) (Ok x) (Err (TooWide (whole - length bytes))))

-- an if is followed by its arms, a let by its parts
abbrev pub front_of : Command → Front Expr
front_of (commands.Simple s) = done (plain s)
front_of (commands.If a) = fork (branch a)
front_of commands.Let = fork bind

abbrev pub expr_front : (whole : ℕ) → List ℕ → Read (Front Expr)
expr_front whole bytes = and_then (command_from whole bytes) (λ x. Ok (front_of x.0, x.1))

abbrev pub expr_from : (whole : ℕ) → List ℕ → Read Expr
expr_from whole bytes = tree_from (expr_front whole) whole (length bytes) bytes

-- parameter type, result type, body
abbrev pub function_from : (whole : ℕ) → List ℕ → Read Function
function_from whole bytes =
    and_then (narrow_from whole bytes) (λ σ.
    and_then (narrow_from whole σ.1) (λ τ.
    and_then (expr_from whole τ.1) (λ e.
    Ok (record { parameter = σ.0; result = τ.0; body = e.0 }, e.1))))

unfoldable pub functions_from : (whole count : ℕ) → List ℕ → Read (List Function)
functions_from whole zero bytes = Ok ([], bytes)
functions_from whole (suc count) bytes =
    and_then (function_from whole bytes) (λ f.
    and_then (functions_from whole count f.1) (λ fs.
    Ok (f.0 ∷ fs.0, fs.1)))

-- nothing follows the main expression
abbrev pub closed : (whole : ℕ) → Program → List ℕ → Result Program ReadFault
closed whole p [] = Ok p
closed whole p (byte ∷ rest) = Err (Trailing (whole - suc (length rest)))

abbrev pub main_from : (whole : ℕ) → List Function → List ℕ → Result Program ReadFault
main_from whole fs bytes = and_then (expr_from whole bytes) (λ e. closed whole (record { functions = fs; main = e.0 }) e.1)

-- the number of functions, the functions, the main expression
abbrev pub program_from : (whole : ℕ) → List ℕ → Result Program ReadFault
program_from whole [] = Err (Ends whole)
program_from whole (count ∷ rest) =
    cond (nat_le count 16) (and_then (functions_from whole count rest) (λ fs. main_from whole fs.0 fs.1)) (Err (Unknown 0))

-- The tree of a program's bytes, or the first fault; the length is judged before all else.
abbrev pub tree_of : List ℕ → Result Program ReadFault
tree_of bytes = cond (nat_le (length bytes) 4096) (program_from (length bytes) bytes) (Err TooLong)
