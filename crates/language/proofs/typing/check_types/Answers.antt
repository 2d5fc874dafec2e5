use Rattle.std.proofs.Common.{◌≡◌, ℕ, ◌-◌, List, [], ◌++◌, length, drop, Ok, Err, Result, sym, refl, ap, ◌∙◌, subst}
use Rattle.bounded.specs.Listed.{listed}
use Rattle.language.specs.declared.rest.Rest.{Rest}
use Rattle.language.specs.declared.outline.FunctionOutline.{FunctionOutline}
use Rattle.language.specs.declared.types.TypeCode.{TypeCode}
use Rattle.language.specs.Outlines.{AllCoded, Callable, Outlines, Reads, TypesPast}
use Rattle.language.specs.declared.fault.TypeFault.{TypeFault}
use Rattle.language.specs.declared.fault.TypeFault.TheVariants.{Reading}
use Rattle.language.specs.declared.outline.Outline.{Outline}
use Rattle.language.specs.Grammar.{Encodes}
use Rattle.language.specs.Reading.{tree_of}
use Rattle.language.specs.Syntax.{Ty, Expr, Function, Program, Proper, encode_expr, place_after}
use Rattle.language.specs.Typing.{Checked, check, checked_bodies, checked_program}
use Rattle.language.proofs.Results.{then_at, then_err}
use Rattle.language.proofs.ReadingPrograms.{reading_exact}
use Rattle.language.proofs.Lies.{PartAt, main_ready}
use Rattle.language.proofs.TypedBytes.{types_well, broke_typed, typed_fault, typed_program, bodies_fault, bodies_ok}
use Rattle.language.proofs.typing.check_types.Goals as goal

-- after the bodies, the main expression at its place
checked : (p : Program) {bytes part : List ℕ} {w : ℕ} {out : Checked Ty} → checked_bodies [] p.functions ≡ Ok tt → w ≡ length bytes → PartAt bytes (place_after p.functions) part p.main → check p.functions [] (w - length part) p.main ≡ out → checked_program p ≡ out
checked p {part = part} bodies n m h = bodies_ok p bodies ∙ ap (λ (k : ℕ). check p.functions [] k p.main) (sym (ap (λ (w : ℕ). w - length part) n ∙ m.place_is)) ∙ h

pub returns-in_err-outline : goal.returns-in_err-outline
returns-in_err-outline c =
    types_well c.args.program.now c.from_residual.result
    (broke_typed c.from_residual.result Reading _ c.from_residual.ensures.1 (typed_fault c.args.program.now c.in_err-outline.ensures.exact))

pub returns-in_err-check_bodies : goal.returns-in_err-check_bodies
returns-in_err-check_bodies c =
    let s = c.args.program.now in
    let r = c.in_ok-outline.ensures.exact in
    let b = c.in_err-check_bodies.ensures r.0 ((reading_exact s r.0).0 r.1) r.2 in
    types_well s c.from_residual-in_err-check_bodies.result
    (broke_typed c.from_residual-in_err-check_bodies.result (λ (f : TypeFault). f) _ c.from_residual-in_err-check_bodies.ensures.1
    (typed_program s r.1 ∙ then_err _ (bodies_fault r.0 (sym b))))

-- what typing the main expression comes to
main_typed : (s : List ℕ) (o : Outline) (r : Reads (Ok o) (tree_of s)) (bytes : List ℕ) (whole : ℕ) (functions : List FunctionOutline) (none : List TypeCode) (out : Result (TypeCode × Rest) TypeFault) →
    bytes ≡ drop o.main s → whole ≡ length s → functions ≡ listed o.functions → none ≡ [] →
    ((p : Program) → Encodes s p → Outlines o p → Ok tt ≡ checked_bodies [] p.functions) →
    ((Φ : List Function) (Γ : List Ty) (e : Expr) (end : List ℕ) → Callable functions Φ → AllCoded none Γ → bytes ≡ encode_expr e ++ end → Proper e → TypesPast end whole out (check Φ Γ (whole - length bytes) e)) →
    (x : Checked Ty) × ((end : List ℕ) × TypesPast end whole out x) × (checked_program r.0 ≡ x)
main_typed s o r bytes whole functions none out at n is no_names bodies types =
    let p = r.0 in
    let enc = (reading_exact s p).0 r.1 in
    let call = subst (λ (os : List FunctionOutline). Callable os p.functions) (sym is) r.2.functions_are in
    let no = subst (λ (ts : List TypeCode). AllCoded ts []) (sym no_names) tt in
    let m = main_ready s o p bytes enc r.2 at in
    (_, (m.rest, types p.functions [] p.main m.rest call no m.part_is enc.1.main_proper), checked p (sym (bodies p enc r.2)) n m refl)

pub returns-in_err-value : goal.returns-in_err-value
returns-in_err-value c =
    let s = c.args.program.now in
    let r = c.in_ok-outline.ensures.exact in
    let x = main_typed s c.in_ok-outline.outline r _ _ _ _ (Err c.in_err-value.field-0.0) c.main_part.ensures.bytes c.main_part.ensures.whole c.as_slice-functions.ensures.items c.no_names.ensures c.in_ok-check_bodies.ensures c.in_err-value.ensures.types in
    types_well s c.from_residual-in_err-value.result
    (broke_typed c.from_residual-in_err-value.result (λ (f : TypeFault). f) _ c.from_residual-in_err-value.ensures.1
    (typed_program s r.1 ∙ then_err _ (x.2 ∙ x.1.1)))

pub returns : goal.returns
returns c =
    let s = c.args.program.now in
    let r = c.in_ok-outline.ensures.exact in
    let x = main_typed s c.in_ok-outline.outline r _ _ _ _ (Ok (c.in_ok-value.value, c.in_ok-value.field-0-1)) c.main_part.ensures.bytes c.main_part.ensures.whole c.as_slice-functions.ensures.items c.no_names.ensures c.in_ok-check_bodies.ensures c.in_ok-value.ensures.types in
    let v = x.1.1 in
    types_well s (Ok _) (
      (r.0, v.0),
      typed_program s r.1 ∙ then_at (λ τ. Ok (r.0, τ)) (x.2 ∙ v.2),
      record { outline_is = r.2; value_is = v.1 },
    )
