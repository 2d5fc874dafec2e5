-- The command that an expression begins with, when the code has taken it apart.
use Rattle.std.proofs.Common.{◌≡◌, ℕ, ◌+◌, ◌-◌, ◌≤◌, List, [], ◌++◌, length, Ok, Err, sym, refl, ap, ◌∙◌, append_assoc, append-nil, arith, length-append}
use Rattle.language.specs.declared.fault.ReadFault.{ReadFault}
use Rattle.language.specs.declared.command.Operand.{Operand}
use Rattle.language.specs.declared.command.Simple.{Simple}
use Rattle.language.specs.declared.command.Command.{Command}
use Rattle.language.specs.declared.command.Command.TheVariants as commands
use Rattle.language.specs.Syntax.{Expr, plain, branch, bind, encode_expr, Proper}
use Rattle.language.specs.Reading.{command_from}
use Rattle.language.proofs.Results.{clash, ok_same}
use Rattle.language.proofs.Encoding.{command_bytes, ProperCommand, command_complete}

-- its first command, and the bytes of its parts
abbrev head_of : Expr → Command
head_of (plain s) = commands.Simple s
head_of (branch a t u) = commands.If a
head_of (bind t u) = commands.Let

abbrev part_bytes : Expr → List ℕ
part_bytes (plain s) = []
part_bytes (branch a t u) = encode_expr t ++ encode_expr u
part_bytes (bind t u) = encode_expr t ++ encode_expr u

head_bytes : (e : Expr) → Proper e → (encode_expr e ≡ command_bytes (head_of e) ++ part_bytes e) × ProperCommand (head_of e)
head_bytes (plain s) h = (sym (append-nil (encode_expr (plain s))), h)
head_bytes (branch a t u) h = (refl, h.0)
head_bytes (bind t u) h = (refl, tt)

-- what the code finds at the front of an expression
pub head_read : (w : ℕ) (bytes end : List ℕ) (e : Expr) → bytes ≡ encode_expr e ++ end → Proper e → command_from w bytes ≡ Ok (head_of e, part_bytes e ++ end)
head_read w bytes end e b h =
    ap (command_from w) (b ∙ ap (λ (x : List ℕ). x ++ end) (head_bytes e h).0 ∙ append_assoc (command_bytes (head_of e)) (part_bytes e) end)
    ∙ command_complete w (head_of e) (part_bytes e ++ end) (head_bytes e h).1

module _ (w : ℕ) (bytes end : List ℕ) (e : Expr) (b : bytes ≡ encode_expr e ++ end) (h : Proper e) where
  -- an expression begins with a command
  pub head_there : {fault : ReadFault} → command_from w bytes ≡ Err fault → ⊥
  head_there g = clash g (head_read w bytes end e b h)

-- the expression is a simple command
pub record SimpleAt (s : Simple) (rest end : List ℕ) (e : Expr) : Type 0 where
  pub expr_is : e ≡ plain s
  pub rest_is : rest ≡ end

pub simple_at : (w : ℕ) (bytes rest end : List ℕ) (e : Expr) (s : Simple) → command_from w bytes ≡ Ok (commands.Simple s, rest) → bytes ≡ encode_expr e ++ end → Proper e → SimpleAt s rest end e
simple_at w bytes rest end e s g b h = go e h (ok_same g (head_read w bytes end e b h))
  where
    go : (e : Expr) → Proper e → ◌≡◌ {A = Command × List ℕ} (commands.Simple s, rest) (head_of e, part_bytes e ++ end) → SimpleAt s rest end e
    go (plain s') h k =
        let c : commands.Simple s ≡ commands.Simple s' = ap (λ (x : Command × List ℕ). x.0) k in
        let i : s ≡ s' = cc in
        record { expr_is = ap plain (sym i); rest_is = ap (λ (x : Command × List ℕ). x.1) k }
    go (branch a t u) h k = absurd (let c : commands.Simple s ≡ commands.If a = ap (λ (x : Command × List ℕ). x.0) k in let z : ◌≡◌ {A = ℕ} 0 1 = cc in omega arith)
    go (bind t u) h k = absurd (let c : commands.Simple s ≡ commands.Let = ap (λ (x : Command × List ℕ). x.0) k in let z : ◌≡◌ {A = ℕ} 0 1 = cc in omega arith)

-- the expression has two parts behind a command of some bytes
pub record PartsAt (make : Expr → Expr → Expr) (width w : ℕ) (bytes rest end : List ℕ) (e : Expr) : Type 0 where
  pub first : Expr
  pub second : Expr
  pub expr_is : e ≡ make first second
  pub rest_is : rest ≡ encode_expr first ++ (encode_expr second ++ end)
  pub first_proper : Proper first
  pub second_proper : Proper second
  pub first_place : w - length rest ≡ w - length bytes + width
  pub second_place : (rest' : List ℕ) → rest' ≡ encode_expr second ++ end → w - length rest' ≡ w - length bytes + width + length (encode_expr first)

-- where the parts lie
places : (w width : ℕ) (bytes rest : List ℕ) (t u : Expr) (end : List ℕ) → length bytes ≤ w → length bytes ≡ width + length rest → rest ≡ encode_expr t ++ (encode_expr u ++ end) → (w - length rest ≡ w - length bytes + width) × ((rest' : List ℕ) → rest' ≡ encode_expr u ++ end → w - length rest' ≡ w - length bytes + width + length (encode_expr t))
places w width bytes rest t u end h n k =
    (omega arith, λ rest' e. omega (arith, ap length e, ap length k, length-append (encode_expr t) (encode_expr u ++ end)))

pub if_at : (w : ℕ) (bytes rest end : List ℕ) (e : Expr) (a : Operand) → length bytes ≤ w → command_from w bytes ≡ Ok (commands.If a, rest) → bytes ≡ encode_expr e ++ end → Proper e → PartsAt (branch a) 2 w bytes rest end e
if_at w bytes rest end e a l g b h = go e b h (ok_same g (head_read w bytes end e b h))
  where
    go : (e : Expr) → bytes ≡ encode_expr e ++ end → Proper e → ◌≡◌ {A = Command × List ℕ} (commands.If a, rest) (head_of e, part_bytes e ++ end) → PartsAt (branch a) 2 w bytes rest end e
    go (plain s) b h k = absurd (let c : commands.If a ≡ commands.Simple s = ap (λ (x : Command × List ℕ). x.0) k in let z : ◌≡◌ {A = ℕ} 0 1 = cc in omega arith)
    go (branch a' t u) b h k =
        let c : commands.If a ≡ commands.If a' = ap (λ (x : Command × List ℕ). x.0) k in
        let i : a ≡ a' = cc in
        let r : rest ≡ encode_expr t ++ (encode_expr u ++ end) = ap (λ (x : Command × List ℕ). x.1) k ∙ append_assoc (encode_expr t) (encode_expr u) end in
        let n : length bytes ≡ 2 + length rest = omega (arith, ap length b, ap length (ap (λ (x : Command × List ℕ). x.1) k)) in
        let p = places w 2 bytes rest t u end l n r in
        record { first = t; second = u; expr_is = ap (λ (x : Operand). branch x t u) (sym i); rest_is = r; first_proper = h.1; second_proper = h.2; first_place = p.0; second_place = p.1 }
    go (bind t u) b h k = absurd (let c : commands.If a ≡ commands.Let = ap (λ (x : Command × List ℕ). x.0) k in let z : ◌≡◌ {A = ℕ} 0 1 = cc in omega arith)

pub let_at : (w : ℕ) (bytes rest end : List ℕ) (e : Expr) → length bytes ≤ w → command_from w bytes ≡ Ok (commands.Let, rest) → bytes ≡ encode_expr e ++ end → Proper e → PartsAt bind 1 w bytes rest end e
let_at w bytes rest end e l g b h = go e b h (ok_same g (head_read w bytes end e b h))
  where
    go : (e : Expr) → bytes ≡ encode_expr e ++ end → Proper e → ◌≡◌ {A = Command × List ℕ} (commands.Let, rest) (head_of e, part_bytes e ++ end) → PartsAt bind 1 w bytes rest end e
    go (plain s) b h k = absurd (let c : commands.Let ≡ commands.Simple s = ap (λ (x : Command × List ℕ). x.0) k in let z : ◌≡◌ {A = ℕ} 0 1 = cc in omega arith)
    go (branch a t u) b h k = absurd (let c : commands.Let ≡ commands.If a = ap (λ (x : Command × List ℕ). x.0) k in let z : ◌≡◌ {A = ℕ} 0 1 = cc in omega arith)
    go (bind t u) b h k =
        let r : rest ≡ encode_expr t ++ (encode_expr u ++ end) = ap (λ (x : Command × List ℕ). x.1) k ∙ append_assoc (encode_expr t) (encode_expr u) end in
        let n : length bytes ≡ 1 + length rest = omega (arith, ap length b, ap length (ap (λ (x : Command × List ℕ). x.1) k)) in
        let p = places w 1 bytes rest t u end l n r in
        record { first = t; second = u; expr_is = refl; rest_is = r; first_proper = h.0; second_proper = h.1; first_place = p.0; second_place = p.1 }
