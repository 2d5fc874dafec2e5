-- What is read is what was encoded, for each part of a program.
use Rattle.std.proofs.Common.{◌≡◌, ℕ, zero, suc, ◌+◌, ◌-◌, ◌<◌, ◌≤◌, Bool, true, false, cond, eqb, leb, List, [], ◌∷◌, ◌++◌, length, get_or, Ok, Err, sym, refl, ap, ◌∙◌, subst, append_assoc, arith, length-append, ne_eqb, eqb-true, le-leb, leb-true}
use borrow.Author.Tests.{eqb-false}
use Rattle.std.proofs.lemmas.List.{take_rest}
use Rattle.language.specs.declared.fault.ReadFault.TheVariants.{TooWide}
use Rattle.language.specs.declared.command.Operand.{Operand}
use Rattle.language.specs.declared.command.Operand.TheVariants.{False, True, Name}
use Rattle.language.specs.declared.command.Simple.TheVariants.{Atom, Pair, First, Second, Flip, Observe, Call}
use Rattle.language.specs.declared.command.Command.{Command}
use Rattle.language.specs.declared.command.Command.TheVariants as commands
use Rattle.language.specs.Outcomes.{and_then}
use Rattle.language.specs.Syntax.{Ty, bool, product, leaves, encode_ty, operand_byte, encode_simple, Expr, plain, branch, bind, encode_expr, Function, encode_function, encode_functions, ProperOperand, ProperSimple, Proper, Readable, AllReadable}
use Rattle.language.specs.Reading.{Read, operand_of, with_one, with_two, command_from, Front, done, fork, grow, tree_from, type_front, type_from, narrow_from, front_of, expr_front, expr_from, function_from, functions_from}
use Rattle.language.proofs.Commands.{after}
use Rattle.language.proofs.Results.{clash, ok_same, then_ok, then_at}
use Rattle.language.proofs.Trees.{Shortens, tree_grows, fork_both}
use Rattle.language.proofs.ReadingTypes.{type_grows}

-- Operands.

operand_back : (b : ℕ) → (operand_byte (operand_of b) ≡ b) × ProperOperand (operand_of b)
operand_back b = go (eqb b 254) (eqb b 255) refl refl
  where
    go : (x y : Bool) → eqb b 254 ≡ x → eqb b 255 ≡ y → (operand_byte (cond x False (cond y True (Name b))) ≡ b) × ProperOperand (cond x False (cond y True (Name b)))
    go true y e e' = (sym (eqb-true b 254 e), tt)
    go false true e e' = (sym (eqb-true b 255 e'), tt)
    go false false e e' = (refl, (eqb-false b 254 e, eqb-false b 255 e'))

pub operand_there : (a : Operand) → ProperOperand a → operand_of (operand_byte a) ≡ a
operand_there False h = refl
operand_there True h = refl
operand_there (Name k) h = rw (ne_eqb k 254 h.0, ne_eqb k 255 h.1)

-- Commands.

abbrev pub command_bytes : Command → List ℕ
command_bytes (commands.Simple s) = encode_simple s
command_bytes (commands.If a) = 6 ∷ operand_byte a ∷ []
command_bytes commands.Let = 7 ∷ []

abbrev pub ProperCommand : Command → Type 0
ProperCommand (commands.Simple s) = ProperSimple s
ProperCommand (commands.If a) = ProperOperand a
ProperCommand commands.Let = Unit {0}

-- the bytes are those of the command, and then the rest
abbrev pub Fronts : List ℕ → Command × List ℕ → Type 0
Fronts bytes x = (bytes ≡ command_bytes x.0 ++ x.1) × ProperCommand x.0

-- a test that was passed, or the tests after it
pick : (b k : ℕ) {A : Type 0} {x y : Read A} {z : A × List ℕ} {P : Type 0} → (b ≡ k → x ≡ Ok z → P) → (y ≡ Ok z → P) → cond (eqb b k) x y ≡ Ok z → P
pick b k {A} {x} {y} {z} {P} f g = go (eqb b k) refl
  where
    go : (t : Bool) → eqb b k ≡ t → cond t x y ≡ Ok z → P
    go true e h = f (eqb-true b k e) h
    go false e h = g h

one_front : (w b k : ℕ) (make : ℕ → Command) → ((a : ℕ) → (command_bytes (make a) ≡ k ∷ a ∷ []) × ProperCommand (make a)) → (rest : List ℕ) (z : Command × List ℕ) → b ≡ k → with_one w make rest ≡ Ok z → Fronts (b ∷ rest) z
one_front w b k make bytes [] z e h = absurd (clash refl h)
one_front w b k make bytes (a ∷ rest) z e h =
    subst (Fronts (b ∷ a ∷ rest)) (ok_same refl h) (ap (λ (x : ℕ). x ∷ a ∷ rest) e ∙ ap (λ (x : List ℕ). x ++ rest) (sym (bytes a).0), (bytes a).1)

two_front : (w b k : ℕ) (make : ℕ → ℕ → Command) → ((a c : ℕ) → (command_bytes (make a c) ≡ k ∷ a ∷ c ∷ []) × ProperCommand (make a c)) → (rest : List ℕ) (z : Command × List ℕ) → b ≡ k → with_two w make rest ≡ Ok z → Fronts (b ∷ rest) z
two_front w b k make bytes [] z e h = absurd (clash refl h)
two_front w b k make bytes (a ∷ []) z e h = absurd (clash refl h)
two_front w b k make bytes (a ∷ c ∷ rest) z e h =
    subst (Fronts (b ∷ a ∷ c ∷ rest)) (ok_same refl h) (ap (λ (x : ℕ). x ∷ a ∷ c ∷ rest) e ∙ ap (λ (x : List ℕ). x ++ rest) (sym (bytes a c).0), (bytes a c).1)

pub command_sound : (w : ℕ) (bytes : List ℕ) (z : Command × List ℕ) → command_from w bytes ≡ Ok z → Fronts bytes z
command_sound w [] z h = absurd (clash refl h)
command_sound w (b ∷ rest) z h =
    pick b 1 (one_front w b 1 (λ a. commands.Simple (Atom (operand_of a))) (λ a. (ap (λ (x : ℕ). 1 ∷ x ∷ []) (operand_back a).0, (operand_back a).1)) rest z)
    (pick b 2 (two_front w b 2 (λ a c. commands.Simple (Pair (operand_of a) (operand_of c))) (λ a c. (cc ((operand_back a).0, (operand_back c).0), ((operand_back a).1, (operand_back c).1))) rest z)
    (pick b 3 (one_front w b 3 (λ a. commands.Simple (First (operand_of a))) (λ a. (ap (λ (x : ℕ). 3 ∷ x ∷ []) (operand_back a).0, (operand_back a).1)) rest z)
    (pick b 4 (one_front w b 4 (λ a. commands.Simple (Second (operand_of a))) (λ a. (ap (λ (x : ℕ). 4 ∷ x ∷ []) (operand_back a).0, (operand_back a).1)) rest z)
    (pick b 5 (one_front w b 5 (λ row. commands.Simple (Flip row)) (λ a. (refl, tt)) rest z)
    (pick b 6 (one_front w b 6 (λ a. commands.If (operand_of a)) (λ a. (ap (λ (x : ℕ). 6 ∷ x ∷ []) (operand_back a).0, (operand_back a).1)) rest z)
    (pick b 7 (λ e h. subst (Fronts (b ∷ rest)) (ok_same refl h) (ap (λ (x : ℕ). x ∷ rest) e, tt))
    (pick b 8 (one_front w b 8 (λ a. commands.Simple (Observe (operand_of a))) (λ a. (ap (λ (x : ℕ). 8 ∷ x ∷ []) (operand_back a).0, (operand_back a).1)) rest z)
    (pick b 9 (two_front w b 9 (λ f a. commands.Simple (Call f (operand_of a))) (λ f a. (ap (λ (x : ℕ). 9 ∷ f ∷ x ∷ []) (operand_back a).0, (operand_back a).1)) rest z)
    (λ e. absurd (clash refl e)))))))))) h

pub command_complete : (w : ℕ) (c : Command) (rest : List ℕ) → ProperCommand c → command_from w (command_bytes c ++ rest) ≡ Ok (c, rest)
command_complete w (commands.Simple (Atom a)) rest h = ap (λ (x : Operand). Ok (commands.Simple (Atom x), rest)) (operand_there a h)
command_complete w (commands.Simple (Pair a b)) rest h = cc (operand_there a h.0, operand_there b h.1)
command_complete w (commands.Simple (First a)) rest h = ap (λ (x : Operand). Ok (commands.Simple (First x), rest)) (operand_there a h)
command_complete w (commands.Simple (Second a)) rest h = ap (λ (x : Operand). Ok (commands.Simple (Second x), rest)) (operand_there a h)
command_complete w (commands.Simple (Flip row)) rest h = refl
command_complete w (commands.Simple (Observe a)) rest h = ap (λ (x : Operand). Ok (commands.Simple (Observe x), rest)) (operand_there a h)
command_complete w (commands.Simple (Call f a)) rest h = ap (λ (x : Operand). Ok (commands.Simple (Call f x), rest)) (operand_there a h)
command_complete w (commands.If a) rest h = ap (λ (x : Operand). Ok (commands.If x, rest)) (operand_there a h)
command_complete w commands.Let rest h = refl

-- a command takes at least a byte
command_long : (c : Command) → 0 < length (command_bytes c)
command_long (commands.Simple (Atom a)) = omega arith
command_long (commands.Simple (Pair a b)) = omega arith
command_long (commands.Simple (First a)) = omega arith
command_long (commands.Simple (Second a)) = omega arith
command_long (commands.Simple (Flip row)) = omega arith
command_long (commands.Simple (Observe a)) = omega arith
command_long (commands.Simple (Call f a)) = omega arith
command_long (commands.If a) = omega arith
command_long commands.Let = omega arith

-- Trees.

module _ {T : Type 0} (front : List ℕ → Read (Front T)) (w : ℕ) (enc : T → List ℕ) (Good : T → Type 0) where
  abbrev pub FrontSound : Front T → (bytes rest : List ℕ) → Type 0
  FrontSound (done t) bytes rest = (bytes ≡ enc t ++ rest) × Good t
  FrontSound (fork make) bytes rest = (a b : T) (end : List ℕ) → Good a → Good b → rest ≡ enc a ++ (enc b ++ end) → (bytes ≡ enc (make a b) ++ end) × Good (make a b)

  pub tree_sound : ((bytes : List ℕ) (x : Front T × List ℕ) → front bytes ≡ Ok x → FrontSound x.0 bytes x.1) → (depth : ℕ) (bytes : List ℕ) (y : T × List ℕ) → tree_from front w depth bytes ≡ Ok y → (bytes ≡ enc y.0 ++ y.1) × Good y.0
  unfolding tree_from
  tree_sound sound zero bytes y h = absurd (clash refl h)
  tree_sound sound (suc depth) bytes y h =
      let a = then_ok (front bytes) (λ x. grow (tree_from front w depth) x.0 x.1) h in
      go (tree_sound sound depth) a.0.0 a.0.1 (sound bytes a.0 a.1) a.2
    where
      go : ((b : List ℕ) (z : T × List ℕ) → tree_from front w depth b ≡ Ok z → (b ≡ enc z.0 ++ z.1) × Good z.0) → (f : Front T) (rest : List ℕ) → FrontSound f bytes rest → grow (tree_from front w depth) f rest ≡ Ok y → (bytes ≡ enc y.0 ++ y.1) × Good y.0
      go ih (done t) rest s e = subst (λ (z : T × List ℕ). (bytes ≡ enc z.0 ++ z.1) × Good z.0) (ok_same refl e) s
      go ih (fork make) rest s e =
          let a = then_ok (tree_from front w depth rest) (λ x. and_then (tree_from front w depth x.1) (λ z. Ok (make x.0 z.0, z.1))) e in
          let b = then_ok (tree_from front w depth a.0.1) (λ z. Ok (make a.0.0 z.0, z.1)) a.2 in
          let p = ih rest a.0 a.1 in
          let q = ih a.0.1 b.0 b.1 in
          subst (λ (z : T × List ℕ). (bytes ≡ enc z.0 ++ z.1) × Good z.0) (ok_same refl b.2)
          (s a.0.0 b.0.0 b.0.1 p.1 q.1 (p.0 ∙ ap (λ (r : List ℕ). enc a.0.0 ++ r) q.0))

-- Types.

abbrev pub AnyType : Ty → Type 0
AnyType τ = Unit {0}

type_front_sound : (w : ℕ) (bytes : List ℕ) (x : Front Ty × List ℕ) → type_front w bytes ≡ Ok x → FrontSound (type_front w) w encode_ty AnyType x.0 bytes x.1
type_front_sound w [] x h = absurd (clash refl h)
type_front_sound w (b ∷ rest) x h =
    pick b 0 (λ e h. subst (λ (z : Front Ty × List ℕ). FrontSound (type_front w) w encode_ty AnyType z.0 (b ∷ rest) z.1) (ok_same refl h) (ap (λ (n : ℕ). n ∷ rest) e, tt))
    (pick b 1 (λ e h. subst (λ (z : Front Ty × List ℕ). FrontSound (type_front w) w encode_ty AnyType z.0 (b ∷ rest) z.1) (ok_same refl h) (λ σ τ end g g' k. (ap (λ (n : ℕ). n ∷ rest) e ∙ ap (λ (r : List ℕ). 1 ∷ r) (k ∙ sym (append_assoc (encode_ty σ) (encode_ty τ) end)), tt)))
    (λ e. absurd (clash refl e))) h

pub type_sound : (w : ℕ) (bytes : List ℕ) (y : Ty × List ℕ) → type_from w bytes ≡ Ok y → bytes ≡ encode_ty y.0 ++ y.1
type_sound w bytes y h = (tree_sound (type_front w) w encode_ty AnyType (type_front_sound w) (length bytes) bytes y h).0

pub type_complete : (w : ℕ) (τ : Ty) (rest : List ℕ) → type_from w (encode_ty τ ++ rest) ≡ Ok (τ, rest)
type_complete w bool rest = type_grows w (0 ∷ rest)
type_complete w (product σ τ) rest =
    type_grows w (1 ∷ ((encode_ty σ ++ encode_ty τ) ++ rest))
    ∙ fork_both (type_from w) product ((encode_ty σ ++ encode_ty τ) ++ rest)
    (ap (type_from w) (append_assoc (encode_ty σ) (encode_ty τ) rest) ∙ type_complete w σ (encode_ty τ ++ rest))
    (type_complete w τ rest)

-- a type's bytes: one for each leaf, and one for each pair
pub type_length : (τ : Ty) → length (encode_ty τ) + 1 ≡ leaves τ + leaves τ
type_length bool = refl
type_length (product σ τ) = omega (arith, length-append (encode_ty σ) (encode_ty τ), type_length σ, type_length τ)

-- Expressions.

expr_front_sound : (w : ℕ) (bytes : List ℕ) (x : Front Expr × List ℕ) → expr_front w bytes ≡ Ok x → FrontSound (expr_front w) w encode_expr Proper x.0 bytes x.1
expr_front_sound w bytes x h =
    let a = then_ok (command_from w bytes) (λ z. Ok (front_of z.0, z.1)) h in
    subst (λ (z : Front Expr × List ℕ). FrontSound (expr_front w) w encode_expr Proper z.0 bytes z.1) (ok_same refl a.2) (go a.0.0 a.0.1 (command_sound w bytes a.0 a.1))
  where
    go : (c : Command) (rest : List ℕ) → Fronts bytes (c, rest) → FrontSound (expr_front w) w encode_expr Proper (front_of c) bytes rest
    go (commands.Simple s) rest f = f
    go (commands.If a) rest f = λ t u end p q k. (f.0 ∙ ap (λ (r : List ℕ). 6 ∷ operand_byte a ∷ r) (k ∙ sym (append_assoc (encode_expr t) (encode_expr u) end)), (f.1, p, q))
    go commands.Let rest f = λ t u end p q k. (f.0 ∙ ap (λ (r : List ℕ). 7 ∷ r) (k ∙ sym (append_assoc (encode_expr t) (encode_expr u) end)), (p, q))

pub expr_front_short : (w : ℕ) → Shortens (expr_front w)
expr_front_short w bytes x h =
    let a = then_ok (command_from w bytes) (λ z. Ok (front_of z.0, z.1)) h in
    let e : a.0.1 ≡ x.1 = ap (λ (z : Front Expr × List ℕ). z.1) (ok_same refl a.2) in
    let s = command_sound w bytes a.0 a.1 in
    omega (arith, ap length e, ap length s.0, length-append (command_bytes a.0.0) a.0.1, command_long a.0.0)

pub expr_grows : (w : ℕ) (bytes : List ℕ) → expr_from w bytes ≡ and_then (expr_front w bytes) (λ x. grow (expr_from w) x.0 x.1)
expr_grows w bytes = tree_grows (expr_front w) w refl (expr_front_short w) bytes

pub expr_sound : (w : ℕ) (bytes : List ℕ) (y : Expr × List ℕ) → expr_from w bytes ≡ Ok y → (bytes ≡ encode_expr y.0 ++ y.1) × Proper y.0
expr_sound w bytes y h = tree_sound (expr_front w) w encode_expr Proper (expr_front_sound w) (length bytes) bytes y h

-- a command that was read leads on to its parts
pub expr_after : (w : ℕ) (bytes : List ℕ) {c : Command} {rest : List ℕ} → command_from w bytes ≡ Ok (c, rest) → expr_from w bytes ≡ grow (expr_from w) (front_of c) rest
expr_after w bytes {c} {rest} e =
    expr_grows w bytes ∙ then_at (λ x. grow (expr_from w) x.0 x.1) (then_at (λ z. Ok (front_of z.0, z.1)) e)

pub expr_complete : (w : ℕ) (e : Expr) (rest : List ℕ) → Proper e → expr_from w (encode_expr e ++ rest) ≡ Ok (e, rest)
expr_complete w (plain s) rest h = expr_after w (encode_simple s ++ rest) (command_complete w (commands.Simple s) rest h)
expr_complete w (branch a t u) rest h =
    expr_after w (6 ∷ operand_byte a ∷ ((encode_expr t ++ encode_expr u) ++ rest)) (command_complete w (commands.If a) ((encode_expr t ++ encode_expr u) ++ rest) h.0)
    ∙ fork_both (expr_from w) (branch a) ((encode_expr t ++ encode_expr u) ++ rest)
    (ap (expr_from w) (append_assoc (encode_expr t) (encode_expr u) rest) ∙ expr_complete w t (encode_expr u ++ rest) h.1)
    (expr_complete w u rest h.2)
expr_complete w (bind t u) rest h =
    expr_after w (7 ∷ ((encode_expr t ++ encode_expr u) ++ rest)) (command_complete w commands.Let ((encode_expr t ++ encode_expr u) ++ rest) tt)
    ∙ fork_both (expr_from w) bind ((encode_expr t ++ encode_expr u) ++ rest)
    (ap (expr_from w) (append_assoc (encode_expr t) (encode_expr u) rest) ∙ expr_complete w t (encode_expr u ++ rest) h.0)
    (expr_complete w u rest h.1)

-- Functions.

pub narrow_ok : (w : ℕ) (bytes : List ℕ) {y : Ty × List ℕ} → narrow_from w bytes ≡ Ok y → (type_from w bytes ≡ Ok y) × (leaves y.0 ≤ 16)
narrow_ok w bytes {y} h =
    let a = then_ok (type_from w bytes) (λ x. cond (leb (leaves x.0) 16) (Ok x) (Err (TooWide (w - length bytes)))) h in
    go a.0 (leb (leaves a.0.0) 16) refl a.1 a.2
  where
    go : (x : Ty × List ℕ) (b : Bool) → leb (leaves x.0) 16 ≡ b → type_from w bytes ≡ Ok x → cond b (Ok x) (Err (TooWide (w - length bytes))) ≡ Ok y → (type_from w bytes ≡ Ok y) × (leaves y.0 ≤ 16)
    go x true e p q = (p ∙ q, subst (λ (z : Ty × List ℕ). leaves z.0 ≤ 16) (ok_same refl q) (leb-true (leaves x.0) 16 e))
    go x false e p q = absurd (clash refl q)

pub narrow_complete : (w : ℕ) (τ : Ty) (rest : List ℕ) → leaves τ ≤ 16 → narrow_from w (encode_ty τ ++ rest) ≡ Ok (τ, rest)
narrow_complete w τ rest h =
    then_at _ (type_complete w τ rest)
    ∙ ap (λ (b : Bool). cond b (Ok (τ, rest)) (Err (TooWide (w - length (encode_ty τ ++ rest))))) (le-leb (leaves τ) 16 h)

-- what was read of a function, one part after the other
pub function_parts : (w : ℕ) (bytes : List ℕ) {σ τ : Ty} {e : Expr} {s s' s'' : List ℕ} → narrow_from w bytes ≡ Ok (σ, s) → narrow_from w s ≡ Ok (τ, s') → expr_from w s' ≡ Ok (e, s'') → function_from w bytes ≡ Ok (record { parameter = σ; result = τ; body = e }, s'')
function_parts w bytes p q r = then_at _ p ∙ then_at _ q ∙ then_at _ r

pub function_sound : (w : ℕ) (bytes : List ℕ) (y : Function × List ℕ) → function_from w bytes ≡ Ok y → (bytes ≡ encode_function y.0 ++ y.1) × Readable y.0
function_sound w bytes y h =
    let a = then_ok (narrow_from w bytes) (λ σ. and_then (narrow_from w σ.1) (λ τ. and_then (expr_from w τ.1) (λ e. Ok (record { parameter = σ.0; result = τ.0; body = e.0 }, e.1)))) h in
    let b = then_ok (narrow_from w a.0.1) (λ τ. and_then (expr_from w τ.1) (λ e. Ok (record { parameter = a.0.0; result = τ.0; body = e.0 }, e.1))) a.2 in
    let c = then_ok (expr_from w b.0.1) (λ e. Ok (record { parameter = a.0.0; result = b.0.0; body = e.0 }, e.1)) b.2 in
    let p = narrow_ok w bytes a.1 in
    let q = narrow_ok w a.0.1 b.1 in
    let r = expr_sound w b.0.1 c.0 c.1 in
    subst (λ (z : Function × List ℕ). (bytes ≡ encode_function z.0 ++ z.1) × Readable z.0) (ok_same refl c.2) (
      type_sound w bytes a.0 p.0
          ∙ ap (λ (x : List ℕ). encode_ty a.0.0 ++ x) (type_sound w a.0.1 b.0 q.0 ∙ ap (λ (x : List ℕ). encode_ty b.0.0 ++ x) r.0)
          ∙ sym (append_assoc (encode_ty a.0.0) (encode_ty b.0.0 ++ encode_expr c.0.0) c.0.1 ∙ ap (λ (x : List ℕ). encode_ty a.0.0 ++ x) (append_assoc (encode_ty b.0.0) (encode_expr c.0.0) c.0.1)),
      record { parameter_leaves = p.1; result_leaves = q.1; body_proper = r.1 },
    )

pub function_complete : (w : ℕ) (f : Function) (rest : List ℕ) → Readable f → function_from w (encode_function f ++ rest) ≡ Ok (f, rest)
function_complete w f rest h =
    ap (function_from w) (append_assoc (encode_ty f.parameter) (encode_ty f.result ++ encode_expr f.body) rest ∙ ap (λ (x : List ℕ). encode_ty f.parameter ++ x) (append_assoc (encode_ty f.result) (encode_expr f.body) rest))
    ∙ function_parts w (encode_ty f.parameter ++ (encode_ty f.result ++ (encode_expr f.body ++ rest)))
    (narrow_complete w f.parameter (encode_ty f.result ++ (encode_expr f.body ++ rest)) h.parameter_leaves)
    (narrow_complete w f.result (encode_expr f.body ++ rest) h.result_leaves)
    (expr_complete w f.body rest h.body_proper)

pub functions_sound : (w count : ℕ) (bytes : List ℕ) (y : List Function × List ℕ) → functions_from w count bytes ≡ Ok y → (bytes ≡ encode_functions y.0 ++ y.1) × AllReadable y.0 × (length y.0 ≡ count)
unfolding functions_from
functions_sound w zero bytes y h = subst (λ (z : List Function × List ℕ). (bytes ≡ encode_functions z.0 ++ z.1) × AllReadable z.0 × (length z.0 ≡ 0)) (ok_same refl h) (refl, tt, refl)
functions_sound w (suc count) bytes y h =
    let a = then_ok (function_from w bytes) (λ f. and_then (functions_from w count f.1) (λ fs. Ok (f.0 ∷ fs.0, fs.1))) h in
    let b = then_ok (functions_from w count a.0.1) (λ fs. Ok (a.0.0 ∷ fs.0, fs.1)) a.2 in
    let p = function_sound w bytes a.0 a.1 in
    let q = functions_sound w count a.0.1 b.0 b.1 in
    subst (λ (z : List Function × List ℕ). (bytes ≡ encode_functions z.0 ++ z.1) × AllReadable z.0 × (length z.0 ≡ suc count)) (ok_same refl b.2) (
      p.0 ∙ ap (λ (x : List ℕ). encode_function a.0.0 ++ x) q.0 ∙ sym (append_assoc (encode_function a.0.0) (encode_functions b.0.0) b.0.1),
      (p.1, q.1),
      ap suc q.2,
    )

pub functions_complete : (w : ℕ) (fs : List Function) (rest : List ℕ) → AllReadable fs → functions_from w (length fs) (encode_functions fs ++ rest) ≡ Ok (fs, rest)
unfolding functions_from
functions_complete w [] rest h = refl
functions_complete w (f ∷ fs) rest h =
    ap (λ (x : List ℕ). functions_from w (suc (length fs)) x) (append_assoc (encode_function f) (encode_functions fs) rest)
    ∙ then_at (λ x. and_then (functions_from w (length fs) x.1) (λ gs. Ok (x.0 ∷ gs.0, gs.1))) (function_complete w f (encode_functions fs ++ rest) h.0)
    ∙ then_at (λ gs. Ok (f ∷ gs.0, gs.1)) (functions_complete w fs rest h.1)

-- a type that begins with 1 is a pair
pub parts_cut : (s : List ℕ) (τ : Ty) → s ≡ encode_ty τ → get_or s 0 0 ≡ 1 → (σ : Ty) × (υ : Ty) × (τ ≡ product σ υ) × (after 1 s ≡ encode_ty σ ++ encode_ty υ)
parts_cut s bool e h = absurd (let k : get_or s 0 0 ≡ 0 = ap (λ (x : List ℕ). get_or x 0 0) e in omega arith)
parts_cut s (product σ υ) e h = (σ, υ, refl, ap (after 1) e ∙ take_rest (1 ∷ (encode_ty σ ++ encode_ty υ)) 1)
