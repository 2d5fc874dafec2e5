-- Reading an expression.
use Rattle.std.proofs.Common.{◌≡◌, ℕ, ◌⊎◌, List, IsErrAnd, Ok, Err, Result, sym, ap, ◌∙◌, inl, inr}
use Rattle.language.specs.declared.fault.ReadFault.{ReadFault}
use Rattle.language.specs.declared.rest.Rest.{Rest}
use Rattle.language.specs.Outlines.{Passes}
use Rattle.language.specs.declared.command.Operand.{Operand}
use Rattle.language.specs.declared.command.Command.{Command}
use Rattle.language.specs.declared.command.Command.TheVariants as commands
use Rattle.language.specs.Syntax.{Expr, branch, bind}
use Rattle.language.specs.Reading.{Read, fork, grow, front_of, command_from, expr_from}
use Rattle.language.proofs.Trees.{fork_second, fork_both}
use Rattle.language.proofs.Encoding.{expr_after}

-- the exit of a `?` with the fault unchanged
pub broke_passing : {A : Type 0} (w : ℕ) {out : Result (A × List ℕ) ReadFault} (r : Result Rest ReadFault) (e : ReadFault) → IsErrAnd r (λ y. y ≡ e) → out ≡ Err e → Passes w r out
broke_passing w (Ok rest) e h q = absurd h
broke_passing w (Err fault) e h q = q ∙ ap Err (sym h)

-- after the first of two parts
pub second_passed : (w : ℕ) (make : Expr → Expr → Expr) (rest rest' : List ℕ) {out : Read Expr} {x : Expr} → out ≡ grow (expr_from w) (fork make) rest → expr_from w rest ≡ Ok (x, rest') → (r : Result Rest ReadFault) → Passes w r (expr_from w rest') → Passes w r out
second_passed w make rest rest' {x = x} e e' (Ok end) p = (make x p.0, e ∙ fork_both (expr_from w) make rest e' p.1, p.2)
second_passed w make rest rest' e e' (Err fault) p = e ∙ fork_second (expr_from w) make rest e' p

-- an if and a let are followed by two expressions
pub forks : (c : Command) → ((a : Operand) × (c ≡ commands.If a)) ⊎ (c ≡ commands.Let) → (make : Expr → Expr → Expr) × (front_of c ≡ fork make)
forks c (inl (a, e)) = (branch a, ap front_of e)
forks c (inr e) = (bind, ap front_of e)

pub expr_forks : (w : ℕ) (bytes : List ℕ) {c : Command} {rest : List ℕ} {make : Expr → Expr → Expr} → command_from w bytes ≡ Ok (c, rest) → front_of c ≡ fork make → expr_from w bytes ≡ grow (expr_from w) (fork make) rest
expr_forks w bytes {rest = rest} e f = expr_after w bytes e ∙ ap (λ k. grow (expr_from w) k rest) f
