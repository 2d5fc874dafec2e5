use Rattle.std.proofs.Common.{◌+◌, ◌≡◌, ℕ, ◌-◌, ◌≤◌, true, false, List, [], ◌∷◌, ◌++◌, length, Ok, sym, ap, ◌∙◌, subst, arith, not}
use Rattle.bounded.specs.Listed.{listed}
use Rattle.language.specs.declared.types.TypeCode.{TypeCode}
use Rattle.language.specs.declared.command.Operand.{Operand}
use Rattle.language.specs.declared.command.Command.{Command}
use Rattle.language.specs.declared.command.Command.TheVariants as commands
use Rattle.language.specs.Outlines.{AllCoded}
use Rattle.language.specs.Syntax.{Expr, Function, Ty, Proper, encode_expr, branch, bind}
use Rattle.language.specs.Reading.{Read, command_from}
use Rattle.language.specs.Typing.{check, Checked}
use Rattle.language.proofs.Results.{as_read}
use Rattle.language.proofs.Heads.{PartsAt, head_there, simple_at, if_at, let_at}
use Rattle.language.proofs.CheckSteps.{same_coded, full_scope, room_in_scope, scope_more}
use Rattle.language.proofs.CheckExprs.{broke_past, past_same, check_plain, guard_fault, first_arm_fault, second_arm_fault, arms_agree, first_part_fault, names_over, second_part}
use Rattle.language.proofs.typing.+check_expression.Goals as goal

pub returns-in_err-command-clause-types : goal.returns-in_err-command-clause-types
returns-in_err-command-clause-types t c =
    λ Φ Γ e end call coded b h. absurd (head_there c.args.part.whole c.args.part.bytes.now end e b h c.in_err-command.ensures.gives)

-- the command that was read
command_is : {out : Read Command} {rest : List ℕ} {x k : Command} → out ≡ Ok (x, rest) → x ≡ k → out ≡ Ok (k, rest)
command_is {rest = rest} e i = e ∙ ap (λ (y : Command). Ok (y, rest)) i

-- an expression that was checked at its place, by what it is
seen : (Φ : List Function) (Γ : List Ty) {e e' : Expr} {p q : ℕ} {out : Checked Ty} → e ≡ e' → p ≡ q → check Φ Γ p e' ≡ out → check Φ Γ q e ≡ out
seen Φ Γ {e} {p = p} i n h = ap (λ (k : ℕ). check Φ Γ k e) (sym n) ∙ ap (check Φ Γ p) i ∙ h

pub returns-in_err-found-in-Simple-clause-types : goal.returns-in_err-found-in-Simple-clause-types
returns-in_err-found-in-Simple-clause-types t c =
    λ Φ Γ e end call coded b h.
    let s = simple_at c.args.part.whole c.args.part.bytes.now c.in_ok-command.rest.bytes.now end e c.in-Simple.simple (command_is (as_read c.in_ok-command.ensures.gives) c.in-Simple.is) b h in
    let p = c.place-place.result in
    let place = c.place-place.ensures in
    let whole = c.in_ok-command.ensures.gives.3 in
    broke_past end c.args.part.whole c.from_residual-in_err-found-in-Simple.result _ c.from_residual-in_err-found-in-Simple.ensures.1
    (seen Φ Γ s.expr_is place (check_plain Φ Γ p c.in-Simple.simple ∙ c.in_err-found-in-Simple.ensures Φ Γ call coded))

pub returns-in_ok-found-in-Simple-clause-types : goal.returns-in_ok-found-in-Simple-clause-types
returns-in_ok-found-in-Simple-clause-types t c =
    λ Φ Γ e end call coded b h.
    let s = simple_at c.args.part.whole c.args.part.bytes.now c.in_ok-command.rest.bytes.now end e c.in-Simple.simple (command_is (as_read c.in_ok-command.ensures.gives) c.in-Simple.is) b h in
    let p = c.place-place.result in
    let place = c.place-place.ensures in
    let f = c.in_ok-found-in-Simple.ensures Φ Γ call coded in
    (f.0, f.1, seen Φ Γ s.expr_is place (check_plain Φ Γ p c.in-Simple.simple ∙ f.2), s.rest_is, c.in_ok-command.ensures.gives.3)

-- the two arms, and the two parts of a let
arms : (w : ℕ) (bytes rest end : List ℕ) (e : Expr) (x : Command) (a : Operand) → length bytes ≤ w → command_from w bytes ≡ Ok (x, rest) → x ≡ commands.If a → bytes ≡ encode_expr e ++ end → Proper e → PartsAt (branch a) 2 w bytes rest end e
arms w bytes rest end e x a l g i b h = if_at w bytes rest end e a l (command_is g i) b h

parts : (w : ℕ) (bytes rest end : List ℕ) (e : Expr) (x : Command) → length bytes ≤ w → command_from w bytes ≡ Ok (x, rest) → x ≡ commands.Let → bytes ≡ encode_expr e ++ end → Proper e → PartsAt bind 1 w bytes rest end e
parts w bytes rest end e x l g i b h = let_at w bytes rest end e l (command_is g i) b h

-- where the parts lie, with p for the place of the whole expression
first_at : {make : Expr → Expr → Expr} {width w p v : ℕ} {bytes rest end : List ℕ} {e : Expr} (i : PartsAt make width w bytes rest end e) → p ≡ w - length bytes → v ≡ w → v - length rest ≡ p + width
first_at i n m = omega (arith, i.first_place)

second_at : {make : Expr → Expr → Expr} {width w p v : ℕ} {bytes rest end : List ℕ} {e : Expr} (i : PartsAt make width w bytes rest end e) → p ≡ w - length bytes → v ≡ w → (rest' : List ℕ) → rest' ≡ encode_expr i.second ++ end → v - length rest' ≡ p + width + length (encode_expr i.first)
second_at i n m rest' b = omega (arith, i.second_place rest' b)

-- a part that was checked at its own place
moved : (Φ : List Function) (Γ : List Ty) (e : Expr) {p q : ℕ} {out : Checked Ty} → check Φ Γ p e ≡ out → p ≡ q → check Φ Γ q e ≡ out
moved Φ Γ e h i = ap (λ (n : ℕ). check Φ Γ n e) (sym i) ∙ h

pub returns-in_err-check_bool-in-If-clause-types : goal.returns-in_err-check_bool-in-If-clause-types
returns-in_err-check_bool-in-If-clause-types t c =
    λ Φ Γ e end call coded b h.
    let i = arms c.args.part.whole c.args.part.bytes.now c.in_ok-command.rest.bytes.now end e c.in_ok-command.command c.in-If.guard c.args.part.within (as_read c.in_ok-command.ensures.gives) c.in-If.is b h in
    let p = c.place-place.result in
    let place = c.place-place.ensures in
    let whole = c.in_ok-command.ensures.gives.3 in
    broke_past end c.args.part.whole c.from_residual-in_err-check_bool-in-If.result _ c.from_residual-in_err-check_bool-in-If.ensures.1
    (seen Φ Γ i.expr_is place (guard_fault Φ Γ p c.in-If.guard i.first i.second (sym (c.in_err-check_bool-in-If.ensures Γ coded))))

pub returns-in_err-first-in-If-clause-types : goal.returns-in_err-first-in-If-clause-types
returns-in_err-first-in-If-clause-types t c =
    λ Φ Γ e end call coded b h.
    let i = arms c.args.part.whole c.args.part.bytes.now c.in_ok-command.rest.bytes.now end e c.in_ok-command.command c.in-If.guard c.args.part.within (as_read c.in_ok-command.ensures.gives) c.in-If.is b h in
    let p = c.place-place.result in
    let place = c.place-place.ensures in
    let whole = c.in_ok-command.ensures.gives.3 in
    broke_past end c.args.part.whole c.from_residual-in_err-first-in-If.result _ c.from_residual-in_err-first-in-If.ensures.1
    (seen Φ Γ i.expr_is place (first_arm_fault Φ Γ p c.in-If.guard i.first i.second (sym (c.in_ok-check_bool-in-If.ensures Γ coded))
    (moved Φ Γ i.first (c.in_err-first-in-If.ensures.types Φ Γ i.first (encode_expr i.second ++ end) call coded i.rest_is i.first_proper) (first_at i place whole))))

pub returns-in_err-second-in-If-clause-types : goal.returns-in_err-second-in-If-clause-types
returns-in_err-second-in-If-clause-types t c =
    λ Φ Γ e end call coded b h.
    let i = arms c.args.part.whole c.args.part.bytes.now c.in_ok-command.rest.bytes.now end e c.in_ok-command.command c.in-If.guard c.args.part.within (as_read c.in_ok-command.ensures.gives) c.in-If.is b h in
    let p = c.place-place.result in
    let place = c.place-place.ensures in
    let whole = c.in_ok-command.ensures.gives.3 in
    let f = c.in_ok-first-in-If.ensures.types Φ Γ i.first (encode_expr i.second ++ end) call coded i.rest_is i.first_proper in
    broke_past end c.args.part.whole c.from_residual-in_err-second-in-If.result _ c.from_residual-in_err-second-in-If.ensures.1
    (seen Φ Γ i.expr_is place (second_arm_fault Φ Γ p c.in-If.guard i.first i.second (sym (c.in_ok-check_bool-in-If.ensures Γ coded))
    (moved Φ Γ i.first f.2 (first_at i place whole))
    (moved Φ Γ i.second (c.in_err-second-in-If.ensures.types Φ Γ i.second end call coded f.3 i.second_proper) (second_at i place (f.4 ∙ whole) c.in_ok-first-in-If.rest.bytes.now f.3))))

pub returns-then-ne-clause-types : goal.returns-then-ne-clause-types
returns-then-ne-clause-types t c =
    λ Φ Γ e end call coded b h.
    let i = arms c.args.part.whole c.args.part.bytes.now c.in_ok-command.rest.bytes.now end e c.in_ok-command.command c.in-If.guard c.args.part.within (as_read c.in_ok-command.ensures.gives) c.in-If.is b h in
    let p = c.place-place.result in
    let place = c.place-place.ensures in
    let whole = c.in_ok-command.ensures.gives.3 in
    let f = c.in_ok-first-in-If.ensures.types Φ Γ i.first (encode_expr i.second ++ end) call coded i.rest_is i.first_proper in
    let s = c.in_ok-second-in-If.ensures.types Φ Γ i.second end call coded f.3 i.second_proper in
    seen Φ Γ i.expr_is place (arms_agree Φ Γ p c.in-If.guard i.first i.second false (sym (c.in_ok-check_bool-in-If.ensures Γ coded))
    (moved Φ Γ i.first f.2 (first_at i place whole))
    (moved Φ Γ i.second s.2 (second_at i place (f.4 ∙ whole) c.in_ok-first-in-If.rest.bytes.now f.3))
    (same_coded c.in_ok-first-in-If.first c.in_ok-second-in-If.second f.0 s.0 c.ne.result f.1 s.1 c.ne.ensures ∙ ap not c.if-ne.true))

pub returns-else-ne-clause-types : goal.returns-else-ne-clause-types
returns-else-ne-clause-types t c =
    λ Φ Γ e end call coded b h.
    let i = arms c.args.part.whole c.args.part.bytes.now c.in_ok-command.rest.bytes.now end e c.in_ok-command.command c.in-If.guard c.args.part.within (as_read c.in_ok-command.ensures.gives) c.in-If.is b h in
    let p = c.place-place.result in
    let place = c.place-place.ensures in
    let whole = c.in_ok-command.ensures.gives.3 in
    let f = c.in_ok-first-in-If.ensures.types Φ Γ i.first (encode_expr i.second ++ end) call coded i.rest_is i.first_proper in
    let s = c.in_ok-second-in-If.ensures.types Φ Γ i.second end call coded f.3 i.second_proper in (
      s.0,
      s.1,
      seen Φ Γ i.expr_is place (arms_agree Φ Γ p c.in-If.guard i.first i.second true (sym (c.in_ok-check_bool-in-If.ensures Γ coded))
          (moved Φ Γ i.first f.2 (first_at i place whole))
          (moved Φ Γ i.second s.2 (second_at i place (f.4 ∙ whole) c.in_ok-first-in-If.rest.bytes.now f.3))
          (same_coded c.in_ok-first-in-If.first c.in_ok-second-in-If.second f.0 s.0 c.ne.result f.1 s.1 c.ne.ensures ∙ ap not c.if-ne.false)),
      s.3,
      s.4 ∙ f.4 ∙ whole,
    )

pub returns-in_err-bound-in-Let-clause-types : goal.returns-in_err-bound-in-Let-clause-types
returns-in_err-bound-in-Let-clause-types t c =
    λ Φ Γ e end call coded b h.
    let i = parts c.args.part.whole c.args.part.bytes.now c.in_ok-command.rest.bytes.now end e c.in_ok-command.command c.args.part.within (as_read c.in_ok-command.ensures.gives) c.in-Let.is b h in
    let p = c.place-place.result in
    let place = c.place-place.ensures in
    let whole = c.in_ok-command.ensures.gives.3 in
    broke_past end c.args.part.whole c.from_residual-in_err-bound-in-Let.result _ c.from_residual-in_err-bound-in-Let.ensures.1
    (seen Φ Γ i.expr_is place (first_part_fault Φ Γ p i.first i.second
    (moved Φ Γ i.first (c.in_err-bound-in-Let.ensures.types Φ Γ i.first (encode_expr i.second ++ end) call coded i.rest_is i.first_proper) (first_at i place whole))))

pub returns-then-is_full-clause-types : goal.returns-then-is_full-clause-types
returns-then-is_full-clause-types t c =
    λ Φ Γ e end call coded b h.
    let i = parts c.args.part.whole c.args.part.bytes.now c.in_ok-command.rest.bytes.now end e c.in_ok-command.command c.args.part.within (as_read c.in_ok-command.ensures.gives) c.in-Let.is b h in
    let p = c.place-place.result in
    let place = c.place-place.ensures in
    let whole = c.in_ok-command.ensures.gives.3 in
    let f = c.in_ok-bound-in-Let.ensures.types Φ Γ i.first (encode_expr i.second ++ end) call coded i.rest_is i.first_proper in
    seen Φ Γ i.expr_is place (names_over Φ Γ p i.first i.second (moved Φ Γ i.first f.2 (first_at i place whole)) (full_scope c.args.scope.now Γ coded (sym c.is_full.ensures ∙ c.if-is_full.true)))

pub returns-else-is_full-clause-types : goal.returns-else-is_full-clause-types
returns-else-is_full-clause-types t c =
    λ Φ Γ e end call coded b h.
    let i = parts c.args.part.whole c.args.part.bytes.now c.in_ok-command.rest.bytes.now end e c.in_ok-command.command c.args.part.within (as_read c.in_ok-command.ensures.gives) c.in-Let.is b h in
    let p = c.place-place.result in
    let place = c.place-place.ensures in
    let whole = c.in_ok-command.ensures.gives.3 in
    let f = c.in_ok-bound-in-Let.ensures.types Φ Γ i.first (encode_expr i.second ++ end) call coded i.rest_is i.first_proper in
    let inner = subst (λ (ts : List TypeCode). AllCoded ts (Γ ++ (f.0 ∷ []))) (sym c.push.ensures) (scope_more (listed c.args.scope.now) Γ c.in_ok-bound-in-Let.bound f.0 coded f.1) in
    past_same end c.check_expression-in-Let-2.result (f.4 ∙ whole)
    (seen Φ Γ i.expr_is place (second_part Φ Γ p i.first i.second (moved Φ Γ i.first f.2 (first_at i place whole)) (room_in_scope c.args.scope.now Γ coded (sym c.is_full.ensures ∙ c.if-is_full.false))
    ∙ ap (λ (k : ℕ). check Φ (Γ ++ (f.0 ∷ [])) k i.second) (sym (second_at i place (f.4 ∙ whole) c.in_ok-bound-in-Let.rest.bytes.now f.3))))
    (c.check_expression-in-Let-2.ensures.types Φ (Γ ++ (f.0 ∷ [])) i.second end call inner f.3 i.second_proper)
