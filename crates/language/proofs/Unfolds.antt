-- Unfolding, step by step.
use Rattle.std.proofs.Common.{◌≡◌, ℕ, zero, suc, ◌+◌, ◌<◌, ◌≤◌, ◌⊎◌, List, [], ◌∷◌, ◌++◌, length, get_or, drop, IsErrAnd, Ok, Err, Result, sym, refl, ap, ◌∙◌, subst, inl, inr, append_assoc, append-nil, le_of_suc-le-suc, not-suc-le-zero, arith, length-append}
use Rattle.std.proofs.lemmas.List.{length_push}
use Rattle.language.specs.declared.command.Operand.{Operand}
use Rattle.language.specs.declared.command.Simple.{Simple}
use Rattle.language.specs.declared.command.Simple.TheVariants.{Atom, Pair, First, Second, Flip, Observe, Call}
use Rattle.language.specs.declared.command.Command.{Command}
use Rattle.language.specs.declared.command.Command.TheVariants as commands
use Rattle.language.specs.declared.fault.UnfoldFault.{UnfoldFault}
use Rattle.language.specs.declared.fault.UnfoldFault.TheVariants.{Size}
use Rattle.bounded.specs.Listed.{listed}
use Rattle.language.specs.declared.outline.FunctionOutline.{FunctionOutline}
use Rattle.language.specs.declared.outline.Outline.{Outline}
use Rattle.language.specs.declared.rest.Rest.{Rest}
use Rattle.language.specs.declared.unfolding.Figures.{Figures}
use Rattle.language.specs.Accepting.{Measures}
use Rattle.language.specs.Grammar.{Encodes}
use Rattle.language.specs.Outlines.{Outlines}
use Rattle.language.specs.Syntax.{Ty, Expr, plain, branch, bind, encode_expr, Function, Program, Proper}
use Rattle.language.specs.Reading.{command_from}
use Rattle.language.specs.Typing.{At, here, later, Typed, is_atom, is_pair, is_first, is_second, is_flip, is_observe, is_call, is_if, is_let, Bodies, no_more, body, WellTyped, check}
use Rattle.language.specs.Unfolding.{Tree, atom, pair, first, second, flip, observe, call, choice, binding, size, flips, body_at, found_type, unfold_simple, unfold_expr, unfold_body, unfold_bodies, bodies_of, CallsBelow, WellCalled}
use Rattle.language.proofs.CheckSteps.{cut_at}
use Rattle.language.proofs.Heads.{PartsAt, if_at, let_at}
use Rattle.language.proofs.Lies.{body_given, body_ready}

-- Figures of one step.

-- every tree has a command
pub some_size : (t : Tree) → 1 ≤ size t
some_size (atom a) = omega arith
some_size (pair a b) = omega arith
some_size (first a) = omega arith
some_size (second a) = omega arith
some_size (flip row) = omega arith
some_size (observe a) = omega arith
some_size (call a t) = omega arith
some_size (choice a t u) = omega arith
some_size (binding τ t u) = omega arith

pub simple_tree : (Φ : List Function) (bodies : List Tree) (Γ : List Ty) (s : Simple) → unfold_expr Φ bodies Γ (plain s) ≡ unfold_simple bodies s
unfolding unfold_expr
simple_tree Φ bodies Γ s = refl

-- a simple command that is no flip and no call
pub other_simple : (bodies : List Tree) (s : Simple) → ((row : ℕ) → s ≡ Flip row → ⊥) → ((k : ℕ) (a : Operand) → s ≡ Call k a → ⊥) → (size (unfold_simple bodies s) ≡ 1) × (flips (unfold_simple bodies s) ≡ 0)
other_simple bodies (Atom a) h h' = (refl, refl)
other_simple bodies (Pair a b) h h' = (refl, refl)
other_simple bodies (First a) h h' = (refl, refl)
other_simple bodies (Second a) h h' = (refl, refl)
other_simple bodies (Flip row) h h' = absurd (h row refl)
other_simple bodies (Observe a) h h' = (refl, refl)
other_simple bodies (Call k a) h h' = absurd (h' k a refl)

-- an expression with two parts, and the figures of its tree
pub record Splits (rest end : List ℕ) (e : Expr) : Type 0 where
  pub first : Expr
  pub second : Expr
  pub rest_is : rest ≡ encode_expr first ++ (encode_expr second ++ end)
  pub first_proper : Proper first
  pub second_proper : Proper second
  pub calls : (n : ℕ) → CallsBelow n e → CallsBelow n first × CallsBelow n second
  pub scope : List Function → List Tree → List Ty → List Ty
  pub sizes : (Φ : List Function) (bodies : List Tree) (Γ : List Ty) → size (unfold_expr Φ bodies Γ e) ≡ 1 + (size (unfold_expr Φ bodies Γ first) + size (unfold_expr Φ bodies (scope Φ bodies Γ) second))
  pub numbers : (Φ : List Function) (bodies : List Tree) (Γ : List Ty) → flips (unfold_expr Φ bodies Γ e) ≡ flips (unfold_expr Φ bodies Γ first) + flips (unfold_expr Φ bodies (scope Φ bodies Γ) second)

branch_splits : (a : Operand) (w : ℕ) (bytes rest end : List ℕ) (e : Expr) → PartsAt (branch a) 2 w bytes rest end e → Splits rest end e
unfolding unfold_expr
branch_splits a w bytes rest end e p =
    subst (Splits rest end) (sym p.expr_is)
    (record {
      first = p.first;
      second = p.second;
      rest_is = p.rest_is;
      first_proper = p.first_proper;
      second_proper = p.second_proper;
      calls = λ n h. h;
      scope = λ Φ bodies Γ. Γ;
      sizes = λ Φ bodies Γ. refl;
      numbers = λ Φ bodies Γ. refl;
    })

bind_splits : (w : ℕ) (bytes rest end : List ℕ) (e : Expr) → PartsAt bind 1 w bytes rest end e → Splits rest end e
unfolding unfold_expr
bind_splits w bytes rest end e p =
    subst (Splits rest end) (sym p.expr_is)
    (record {
      first = p.first;
      second = p.second;
      rest_is = p.rest_is;
      first_proper = p.first_proper;
      second_proper = p.second_proper;
      calls = λ n h. h;
      scope = λ Φ bodies Γ. Γ ++ (found_type (check Φ Γ 0 p.first) ∷ []);
      sizes = λ Φ bodies Γ. refl;
      numbers = λ Φ bodies Γ. refl;
    })

pub splits : (w : ℕ) (bytes rest end : List ℕ) (e : Expr) (x : Command) → length bytes ≤ w → command_from w bytes ≡ Ok (x, rest) → ((a : Operand) × (x ≡ commands.If a)) ⊎ (x ≡ commands.Let) → bytes ≡ encode_expr e ++ end → Proper e → Splits rest end e
splits w bytes rest end e x l g (inl (a, i)) b h = branch_splits a w bytes rest end e (if_at w bytes rest end e a l (g ∙ ap (λ (y : Command). Ok (y, rest)) i) b h)
splits w bytes rest end e x l g (inr i) b h = bind_splits w bytes rest end e (let_at w bytes rest end e l (g ∙ ap (λ (y : Command). Ok (y, rest)) i) b h)

-- Bodies.

bodies_append : (before : List Function) (bodies : List Tree) (xs ys : List Function) → unfold_bodies before bodies (xs ++ ys) ≡ unfold_bodies (before ++ xs) (unfold_bodies before bodies xs) ys
unfolding unfold_bodies
bodies_append before bodies [] ys = ap (λ (b : List Function). unfold_bodies b bodies ys) (sym (append-nil before))
bodies_append before bodies (x ∷ xs) ys =
    bodies_append (before ++ (x ∷ [])) (bodies ++ (unfold_body before bodies x ∷ [])) xs ys
    ∙ ap (λ (b : List Function). unfold_bodies b (unfold_bodies (before ++ (x ∷ [])) (bodies ++ (unfold_body before bodies x ∷ [])) xs) ys) (append_assoc before (x ∷ []) xs)

pub bodies_length : (before : List Function) (bodies : List Tree) (xs : List Function) → length (unfold_bodies before bodies xs) ≡ length bodies + length xs
unfolding unfold_bodies
bodies_length before bodies [] = omega arith
bodies_length before bodies (x ∷ xs) = omega (arith, bodies_length (before ++ (x ∷ [])) (bodies ++ (unfold_body before bodies x ∷ [])) xs, length_push bodies (unfold_body before bodies x))

body_kept : (bodies more : List Tree) (k : ℕ) → k < length bodies → body_at (bodies ++ more) k ≡ body_at bodies k
body_kept [] more k h = absurd (not-suc-le-zero h)
body_kept (t ∷ bodies) more zero h = refl
body_kept (t ∷ bodies) more (suc k) h = body_kept bodies more k (le_of_suc-le-suc h)

body_last : (bodies : List Tree) (t : Tree) → body_at (bodies ++ (t ∷ [])) (length bodies) ≡ t
body_last [] t = refl
body_last (u ∷ bodies) t = body_last bodies t

bodies_kept : (before : List Function) (bodies : List Tree) (xs : List Function) (k : ℕ) → k < length bodies → body_at (unfold_bodies before bodies xs) k ≡ body_at bodies k
unfolding unfold_bodies
bodies_kept before bodies [] k h = refl
bodies_kept before bodies (x ∷ xs) k h =
    bodies_kept (before ++ (x ∷ [])) (bodies ++ (unfold_body before bodies x ∷ [])) xs k (omega (arith, length_push bodies (unfold_body before bodies x)))
    ∙ body_kept bodies (unfold_body before bodies x ∷ []) k h

-- the body of a function is unfolded with those before it
pub body_of : (Φ before : List Function) (f : Function) (following : List Function) → Φ ≡ before ++ (f ∷ following) → body_at (bodies_of Φ) (length before) ≡ unfold_body before (bodies_of before) f
unfolding unfold_bodies
body_of Φ before f following e =
    let bodies = bodies_of before in
    let n : length bodies ≡ length before = bodies_length [] [] before ∙ omega arith in
    let more = bodies ++ (unfold_body before bodies f ∷ []) in
    ap (λ (fs : List Function). body_at (bodies_of fs) (length before)) e
    ∙ ap (λ (b : List Tree). body_at b (length before)) (bodies_append [] [] before (f ∷ following))
    ∙ bodies_kept (before ++ (f ∷ [])) more following (length before) (omega (arith, length_push bodies (unfold_body before bodies f)))
    ∙ ap (body_at more) (sym n) ∙ body_last bodies (unfold_body before bodies f)

-- Calls of typed expressions.

at_below : {A : Type 0} {xs : List A} {k : ℕ} {x : A} → At xs k x → k < length xs
at_below here = omega arith
at_below (later d) = let h = at_below d in omega arith

pub typed_calls : {Φ : List Function} {Γ : List Ty} {e : Expr} {τ : Ty} → Typed Φ Γ e τ → CallsBelow (length Φ) e
typed_calls (is_atom a) = tt
typed_calls (is_pair a b) = tt
typed_calls (is_first a) = tt
typed_calls (is_second a) = tt
typed_calls is_flip = tt
typed_calls (is_observe a) = tt
typed_calls (is_call d a) = at_below d
typed_calls (is_if a t u) = (typed_calls t, typed_calls u)
typed_calls (is_let t u) = (typed_calls t, typed_calls u)

bodies_calls : {start fs : List Function} → Bodies start fs → (before : List Function) (f : Function) (following : List Function) → fs ≡ before ++ (f ∷ following) → CallsBelow (length start + length before) f.body
bodies_calls no_more before f following e = absurd (omega (arith, ap length e, length-append before (f ∷ following)))
bodies_calls (body {before = start} {f = g} {fs = fs} d s rest) [] f following e =
    let i : g ≡ f = cc in
    let n : length start ≡ length start + 0 = omega arith in
    subst (λ (x : Function). CallsBelow (length start + 0) x.body) i (subst (λ (k : ℕ). CallsBelow k g.body) n (typed_calls d))
bodies_calls (body {before = start} {f = g} {fs = fs} d s rest) (b ∷ before) f following e =
    let i : fs ≡ before ++ (f ∷ following) = cc in
    let n : length (start ++ (g ∷ [])) + length before ≡ length start + suc (length before) = omega (arith, length_push start g) in
    subst (λ (k : ℕ). CallsBelow k f.body) n (bodies_calls rest before f following i)

pub well_called : (p : Program) (τ : Ty) → WellTyped p τ → WellCalled p
well_called p τ w before f following e =
    let n : 0 + length before ≡ length before = omega arith in
    subst (λ (k : ℕ). CallsBelow k f.body) n (bodies_calls w.bodies before f following e)

-- What the code has in hand when it goes into the body of a function that is called.
pub record CallReady (p : Program) (Φ : List Function) (number : ℕ) (part : List ℕ) : Type 0 where
  pub before : List Function
  pub function : Function
  pub later : List Function
  pub cut : p.functions ≡ before ++ later
  pub count : length before ≡ number
  pub rest : List ℕ
  pub part_is : part ≡ encode_expr function.body ++ rest
  pub proper : Proper function.body
  pub calls : CallsBelow number function.body
  pub tree : body_at (bodies_of Φ) number ≡ unfold_expr before (bodies_of before) (function.parameter ∷ []) function.body

pub call_ready : (bytes : List ℕ) (o : Outline) (p : Program) (Φ following : List Function) (number : ℕ) (function : FunctionOutline) (part : List ℕ) → Encodes bytes p → Outlines o p → WellCalled p → p.functions ≡ Φ ++ following → number < length Φ → function ≡ get_or (listed o.functions) number function → part ≡ drop function.body bytes → CallReady p Φ number part
call_ready bytes o p Φ following number function part enc out well e h is d =
    let c = cut_at Φ number h in
    let whole : p.functions ≡ c.0 ++ (c.1 ∷ (c.2 ++ following)) = e ∙ ap (λ (x : List Function). x ++ following) c.3 ∙ append_assoc c.0 (c.1 ∷ c.2) following in
    let one = body_given (listed o.functions) p.functions c.0 c.1 (c.2 ++ following) number function out.functions_are whole c.4 is in
    let r = body_ready bytes p c.0 c.1 (c.2 ++ following) function part enc whole one.1 d in
    record {
      before = c.0;
      function = c.1;
      later = c.1 ∷ (c.2 ++ following);
      cut = whole;
      count = c.4;
      rest = r.0.rest;
      part_is = r.0.part_is;
      proper = r.1;
      calls = subst (λ (k : ℕ). CallsBelow k c.1.body) c.4 (well c.0 c.1 (c.2 ++ following) whole);
      tree = ap (body_at (bodies_of Φ)) (sym c.4) ∙ body_of Φ c.0 c.1 c.2 c.3;
    }

-- the exit of a `?` with the fault unchanged
pub broke_measured : (end : List ℕ) (w : ℕ) (sofar : Figures) (r : Result (Figures × Rest) UnfoldFault) (e : UnfoldFault) (t : Tree) → IsErrAnd r (λ y. y ≡ e) → (e ≡ Size) × (4096 < sofar.size + size t) → Measures end w sofar r t
broke_measured end w sofar (Ok x) e t h q = absurd h
broke_measured end w sofar (Err fault) e t h q = (h ∙ q.0, q.1)

-- after a first part, the figures of the second
pub measured_more : (end : List ℕ) {w w' : ℕ} (sofar with : Figures) (r : Result (Figures × Rest) UnfoldFault) (t u whole : Tree) → w' ≡ w → with.size ≡ sofar.size + 1 + size t → with.flips ≡ sofar.flips + flips t → size whole ≡ 1 + (size t + size u) → flips whole ≡ flips t + flips u → Measures end w' with r u → Measures end w sofar r whole
measured_more end sofar with (Ok x) t u whole n s f s' f' h = (omega (arith, h.0), omega (arith, h.1), h.2, h.3, h.4 ∙ n)
measured_more end sofar with (Err fault) t u whole n s f s' f' h = (h.0, omega (arith, h.1))
