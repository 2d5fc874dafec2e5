use Rattle.std.proofs.Common.{◌≡◌, ℕ, List, [], ◌++◌, length, drop, Ok, Err, Result, sym, ap, ◌∙◌, subst, append-nil, arith}
use Rattle.bounded.specs.Listed.{listed}
use Rattle.language.specs.declared.fault.UnfoldFault.{UnfoldFault}
use Rattle.language.specs.declared.fault.UnfoldFault.TheVariants.{Flips}
use Rattle.language.specs.declared.rest.Rest.{Rest}
use Rattle.language.specs.declared.typing.TypedOutline.{TypedOutline}
use Rattle.language.specs.declared.unfolding.Figures.{Figures}
use Rattle.language.specs.Accepting.{Measures}
use Rattle.language.specs.Grammar.{Encodes}
use Rattle.language.specs.Outlines.{Outlines}
use Rattle.language.specs.Syntax.{Ty, Expr, Function, Program, Proper, encode_expr}
use Rattle.language.specs.TypedPrograms.{OutlinesTyped}
use Rattle.language.specs.Unfolding.{CallsBelow, WellCalled, typed_of, unfold_expr, bodies_of, unfolded}
use Rattle.language.proofs.TypedBytes.{typed_sound}
use Rattle.language.proofs.Lies.{main_ready}
use Rattle.language.proofs.Unfolds.{well_called, typed_calls}
use Rattle.language.proofs.AcceptedBytes.{accepted_typed, too_large, too_many_flips, within_limits, unfolds_well, broke_unfolding}
use Rattle.language.proofs.unfolding.unfold_main.Goals as goal

-- what measuring the main expression of a program that was typed comes to
main_measured : (s : List ℕ) (u : TypedOutline) (t : OutlinesTyped (Ok u) (typed_of s)) (bytes : List ℕ) (whole all : ℕ) (so_far : Figures) (r : Result (Figures × Rest) UnfoldFault) →
    bytes ≡ drop u.outline.main s → all ≡ length (listed u.outline.functions) →
    ((p : Program) (Φ following : List Function) (Γ : List Ty) (e : Expr) (end : List ℕ) → Encodes s p → Outlines u.outline p → WellCalled p → p.functions ≡ Φ ++ following → length Φ ≡ all → bytes ≡ encode_expr e ++ end → Proper e → CallsBelow all e → Measures end whole so_far r (unfold_expr Φ (bodies_of Φ) Γ e)) →
    (end : List ℕ) × Measures end whole so_far r (unfolded t.0.0)
main_measured s u t bytes whole all so_far r at n measured =
    let p = t.0.0 in
    let d = typed_sound s t.0 t.1 in
    let out = t.2.outline_is in
    let m = main_ready s u.outline p bytes d.0 out at in
    let count : length p.functions ≡ all = out.functions_are.1 ∙ sym n in
    let calls = subst (λ (k : ℕ). CallsBelow k p.main) count (typed_calls d.1.main) in
    (m.rest, measured p p.functions [] [] p.main m.rest d.0 out (well_called p t.0.1 d.1) (sym (append-nil p.functions)) count m.part_is d.0.1.main_proper calls)

pub returns-in_err-figures : goal.returns-in_err-figures
returns-in_err-figures c =
    let s = c.args.program.now in
    let t = c.in_ok-typed.ensures.exact in
    let f = (main_measured s c.in_ok-typed.typed t _ c.main_part.result.whole _ c.default.result (Err c.in_err-figures.field-0.0) c.main_part.ensures.bytes c.len-all.ensures.count c.in_err-figures.ensures.measured).1 in
    unfolds_well s c.from_residual-in_err-figures.result
    (broke_unfolding c.from_residual-in_err-figures.result _ c.from_residual-in_err-figures.ensures.1
    (accepted_typed s t.1 ∙ too_large t.0 (omega (arith, f.1)) ∙ ap Err (sym f.0)))

pub returns-then-figures-gt-MOST_FLIPS : goal.returns-then-figures-gt-MOST_FLIPS
returns-then-figures-gt-MOST_FLIPS c =
    let s = c.args.program.now in
    let t = c.in_ok-typed.ensures.exact in
    let f = (main_measured s c.in_ok-typed.typed t _ _ _ _ (Ok (c.in_ok-figures.figures, c.in_ok-figures.field-0-1)) c.main_part.ensures.bytes c.len-all.ensures.count c.in_ok-figures.ensures.measured).1 in
    unfolds_well s (Err Flips)
    (accepted_typed s t.1 ∙ too_many_flips t.0 (omega (arith, f.0, f.2)) (omega (arith, f.1)))

pub returns : goal.returns
returns c =
    let s = c.args.program.now in
    let t = c.in_ok-typed.ensures.exact in
    let f = (main_measured s c.in_ok-typed.typed t _ _ _ _ (Ok (c.in_ok-figures.figures, c.in_ok-figures.field-0-1)) c.main_part.ensures.bytes c.len-all.ensures.count c.in_ok-figures.ensures.measured).1 in
    unfolds_well s (Ok _) (
      t.0,
      accepted_typed s t.1 ∙ within_limits t.0 (omega (arith, f.0, f.2)) (omega (arith, f.1)),
      record { typed_is = t.2; size_is = omega (arith, f.0); flips_is = omega (arith, f.1) },
    )
