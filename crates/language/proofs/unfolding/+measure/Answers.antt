use Rattle.std.proofs.Common.{◌≡◌, ℕ, ◌<◌, List, [], ◌∷◌, ◌++◌, get_or, Ok, ap, ◌∙◌, subst, arith}
use Rattle.std.proofs.lemmas.Result.{IfOk-from_err, IfOk-weaker}
use Rattle.language.specs.declared.outline.FunctionOutline.{FunctionOutline}
use Rattle.language.specs.declared.command.Simple.{Simple}
use Rattle.language.specs.declared.command.Command.{Command}
use Rattle.language.specs.declared.command.Command.TheVariants as commands
use Rattle.language.specs.Syntax.{Ty, Expr, plain, encode_expr, Function, Proper}
use Rattle.language.specs.Reading.{command_from}
use Rattle.language.specs.Unfolding.{size, flips, unfold_simple, unfold_expr, bodies_of, CallsBelow}
use Rattle.language.proofs.Results.{as_read}
use Rattle.language.proofs.Heads.{SimpleAt, head_there, simple_at}
use Rattle.language.proofs.Unfolds.{some_size, simple_tree, other_simple, splits, call_ready, broke_measured, measured_more}
use Rattle.language.proofs.unfolding.+measure.Goals as goal

-- the simple command that was read
simple_is : (w : ℕ) (bytes rest end : List ℕ) (e : Expr) (x : Command) (s : Simple) → command_from w bytes ≡ Ok (x, rest) → x ≡ commands.Simple s → bytes ≡ encode_expr e ++ end → Proper e → SimpleAt s rest end e
simple_is w bytes rest end e x s g i b h = simple_at w bytes rest end e s (g ∙ ap (λ (y : Command). Ok (y, rest)) i) b h

-- its tree
tree_is : (Φ : List Function) (Γ : List Ty) (e : Expr) (s : Simple) → e ≡ plain s → unfold_expr Φ (bodies_of Φ) Γ e ≡ unfold_simple (bodies_of Φ) s
tree_is Φ Γ e s i = ap (unfold_expr Φ (bodies_of Φ) Γ) i ∙ simple_tree Φ (bodies_of Φ) Γ s

pub returns-in_err-command-clause-measured : goal.returns-in_err-command-clause-measured
returns-in_err-command-clause-measured t c =
    λ p Φ following Γ e end enc out well cut n b h calls. absurd (head_there c.args.part.whole c.args.part.bytes.now end e b h c.in_err-command.ensures.gives)

pub returns-in_err-counted-clause-measured : goal.returns-in_err-counted-clause-measured
returns-in_err-counted-clause-measured t c =
    λ p Φ following Γ e end enc out well cut n b h calls.
    let k = c.in_err-counted.ensures in
    broke_measured end c.args.part.whole c.args.so_far c.from_residual-in_err-counted.result _ (unfold_expr Φ (bodies_of Φ) Γ e) c.from_residual-in_err-counted.ensures.1
    (k.1, omega (arith, k.0, some_size (unfold_expr Φ (bodies_of Φ) Γ e)))

pub returns-in-Flip-clause-measured : goal.returns-in-Flip-clause-measured
returns-in-Flip-clause-measured t c =
    λ p Φ following Γ e end enc out well cut n b h calls.
    let s = simple_is c.args.part.whole c.args.part.bytes.now c.in_ok-command.rest.bytes.now end e c.in_ok-command.command c.in-Simple.simple (as_read c.in_ok-command.ensures.gives) c.in-Simple.is b h in
    let k = c.in_ok-counted.ensures in
    let e = tree_is Φ Γ e c.in-Simple.simple s.expr_is ∙ ap (unfold_simple (bodies_of Φ)) c.in-Flip.is in
    (omega (arith, k.1, ap size e), omega (arith, k.2, ap flips e), omega (arith, k.0, k.1), s.rest_is, c.in_ok-command.ensures.gives.3)

pub returns-in_default : goal.returns-in_default
returns-in_default t c = record {
  measured = λ p Φ following Γ e end enc out well cut n b h calls.
      let s = simple_is c.args.part.whole c.args.part.bytes.now c.in_ok-command.rest.bytes.now end e c.in_ok-command.command c.in-Simple.simple (as_read c.in_ok-command.ensures.gives) c.in-Simple.is b h in
      let k = c.in_ok-counted.ensures in
      let o = other_simple (bodies_of Φ) c.in-Simple.simple c.in_default.not-Flip c.in_default.not-Call in
      let e = tree_is Φ Γ e c.in-Simple.simple s.expr_is in
      (omega (arith, k.1, ap size e, o.0), omega (arith, k.2, ap flips e, o.1), omega (arith, k.0, k.1), s.rest_is, c.in_ok-command.ensures.gives.3);
  shorter = c.in_ok-command.ensures.shorter;
  within = omega (arith, c.in_ok-counted.ensures.1, c.in_ok-counted.ensures.2);
}

pub returns-then-number-below-clause-measured : goal.returns-then-number-below-clause-measured
returns-then-number-below-clause-measured t c =
    λ p Φ following Γ e end enc out well cut n b h calls.
    let s = simple_is c.args.part.whole c.args.part.bytes.now c.in_ok-command.rest.bytes.now end e c.in_ok-command.command c.in-Simple.simple (as_read c.in_ok-command.ensures.gives) c.in-Simple.is b h in
    let k : c.in-Call.number < c.args.below = subst (CallsBelow c.args.below) (s.expr_is ∙ ap plain c.in-Call.is) calls in
    absurd (omega arith)

pub returns-in_err-with_body-in-Call-clause-measured : goal.returns-in_err-with_body-in-Call-clause-measured
returns-in_err-with_body-in-Call-clause-measured t c =
    λ p Φ following Γ e end enc out well cut n b h calls.
    let s = simple_is c.args.part.whole c.args.part.bytes.now c.in_ok-command.rest.bytes.now end e c.in_ok-command.command c.in-Simple.simple (as_read c.in_ok-command.ensures.gives) c.in-Simple.is b h in
    let k = c.in_ok-counted.ensures in
    let tree = tree_is Φ Γ e c.in-Simple.simple s.expr_is ∙ ap (unfold_simple (bodies_of Φ)) c.in-Call.is in
    let r = call_ready c.args.outlined.now.program.now c.args.outlined.now.outline.now p Φ following c.in-Call.number c.index-as_slice-number.result c.body_part-body.result.bytes.now enc out well cut (omega (arith, n)) (c.index-as_slice-number.is ∙ ap (λ (fs : List FunctionOutline). get_or fs c.in-Call.number c.index-as_slice-number.result) c.as_slice.ensures.items) c.body_part-body.ensures.bytes in
    let m = c.in_err-with_body-in-Call.ensures.measured p r.before r.later (r.function.parameter ∷ []) r.function.body r.rest enc out well r.cut r.count r.part_is r.proper r.calls in
    broke_measured end c.args.part.whole c.args.so_far c.from_residual-in_err-with_body-in-Call.result _ (unfold_expr Φ (bodies_of Φ) Γ e) c.from_residual-in_err-with_body-in-Call.ensures.1
    (m.0, omega (arith, m.1, k.1, ap size tree, ap size r.tree))

pub returns-in_ok-with_body-in-Call-clause-measured : goal.returns-in_ok-with_body-in-Call-clause-measured
returns-in_ok-with_body-in-Call-clause-measured t c =
    λ p Φ following Γ e end enc out well cut n b h calls.
    let s = simple_is c.args.part.whole c.args.part.bytes.now c.in_ok-command.rest.bytes.now end e c.in_ok-command.command c.in-Simple.simple (as_read c.in_ok-command.ensures.gives) c.in-Simple.is b h in
    let k = c.in_ok-counted.ensures in
    let tree = tree_is Φ Γ e c.in-Simple.simple s.expr_is ∙ ap (unfold_simple (bodies_of Φ)) c.in-Call.is in
    let r = call_ready c.args.outlined.now.program.now c.args.outlined.now.outline.now p Φ following c.in-Call.number c.index-as_slice-number.result c.body_part-body.result.bytes.now enc out well cut (omega (arith, n)) (c.index-as_slice-number.is ∙ ap (λ (fs : List FunctionOutline). get_or fs c.in-Call.number c.index-as_slice-number.result) c.as_slice.ensures.items) c.body_part-body.ensures.bytes in
    let m = c.in_ok-with_body-in-Call.ensures.measured p r.before r.later (r.function.parameter ∷ []) r.function.body r.rest enc out well r.cut r.count r.part_is r.proper r.calls in
    (omega (arith, m.0, k.1, ap size tree, ap size r.tree), omega (arith, m.1, k.2, ap flips tree, ap flips r.tree), m.2, s.rest_is, c.in_ok-command.ensures.gives.3)

pub returns-in_err-with_first-in-If : goal.returns-in_err-with_first-in-If
returns-in_err-with_first-in-If t c = record {
  measured = λ p Φ following Γ e end enc out well cut n b h calls.
      let i = splits c.args.part.whole c.args.part.bytes.now c.in_ok-command.rest.bytes.now end e c.in_ok-command.command c.args.part.within (as_read c.in_ok-command.ensures.gives) c.in-If.is b h in
      let k = c.in_ok-counted.ensures in
      let m = c.in_err-with_first-in-If.ensures.measured p Φ following Γ i.first (encode_expr i.second ++ end) enc out well cut n i.rest_is i.first_proper (i.calls c.args.below calls).0 in
      broke_measured end c.args.part.whole c.args.so_far c.from_residual-in_err-with_first-in-If.result _ (unfold_expr Φ (bodies_of Φ) Γ e) c.from_residual-in_err-with_first-in-If.ensures.1
      (m.0, omega (arith, m.1, k.1, i.sizes Φ (bodies_of Φ) Γ));
  shorter = IfOk-from_err c.from_residual-in_err-with_first-in-If.result _ c.from_residual-in_err-with_first-in-If.ensures.0;
  within = IfOk-from_err c.from_residual-in_err-with_first-in-If.result _ c.from_residual-in_err-with_first-in-If.ensures.0;
}

pub returns-in_ok-with_first-in-If : goal.returns-in_ok-with_first-in-If
returns-in_ok-with_first-in-If t c = record {
  measured = λ p Φ following Γ e end enc out well cut n b h calls.
      let i = splits c.args.part.whole c.args.part.bytes.now c.in_ok-command.rest.bytes.now end e c.in_ok-command.command c.args.part.within (as_read c.in_ok-command.ensures.gives) c.in-If.is b h in
      let k = c.in_ok-counted.ensures in
      let bodies = bodies_of Φ in
      let m = c.in_ok-with_first-in-If.ensures.measured p Φ following Γ i.first (encode_expr i.second ++ end) enc out well cut n i.rest_is i.first_proper (i.calls c.args.below calls).0 in
      let l = c.measure-in-If-2.ensures.measured p Φ following (i.scope Φ bodies Γ) i.second end enc out well cut n m.3 i.second_proper (i.calls c.args.below calls).1 in
      measured_more end c.args.so_far c.in_ok-with_first-in-If.with_first c.measure-in-If-2.result (unfold_expr Φ bodies Γ i.first) (unfold_expr Φ bodies (i.scope Φ bodies Γ) i.second) (unfold_expr Φ bodies Γ e)
      (m.4 ∙ c.in_ok-command.ensures.gives.3) (omega (arith, m.0, k.1)) (omega (arith, m.1, k.2)) (i.sizes Φ bodies Γ) (i.numbers Φ bodies Γ) l;
  shorter =
      IfOk-weaker c.measure-in-If-2.result _ _
      (λ x h. omega (arith, c.in_ok-with_first-in-If.ensures.shorter, c.in_ok-command.ensures.shorter))
      c.measure-in-If-2.ensures.shorter;
  within = c.measure-in-If-2.ensures.within;
}
