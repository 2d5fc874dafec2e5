use Rattle.std.proofs.Common.{◌≡◌, ℕ, ◌-◌, List, length, take, Some, sym, ap, ◌∙◌, subst, arith, length-append, rules}
use Rattle.std.proofs.lemmas.List.{take_at}
use Rattle.language.specs.Outlines.{PartsCoded}
use Rattle.language.specs.Reading.{type_from}
use Rattle.language.specs.Syntax.{Ty, encode_ty}
use Rattle.language.proofs.Results.{clash, ok_same}
use Rattle.language.proofs.Encoding.{parts_cut, type_complete}
use Rattle.language.proofs.types.TypeCode.parts.Goals as goal

pub returns-in_default-read_leaves : goal.returns-in_default-read_leaves
returns-in_default-read_leaves c τ h =
    let s = c.as_slice.result.now in
    let p = parts_cut s τ (c.as_slice.ensures.bytes ∙ h) (search rules) in
    absurd (clash c.in_default-read_leaves.ensures.gives (ap (type_from c.of.result.whole) (c.of.ensures.bytes ∙ p.3) ∙ type_complete c.of.result.whole p.0 (encode_ty p.1)))

pub returns : goal.returns
returns c τ h =
    let s = c.as_slice.result.now in
    let p = parts_cut s τ (c.as_slice.ensures.bytes ∙ h) (search rules) in
    let g = c.in-Ok.ensures.gives in
    let e = ok_same g.2 (ap (type_from c.of.result.whole) (c.of.ensures.bytes ∙ p.3) ∙ type_complete c.of.result.whole p.0 (encode_ty p.1)) in
    let rest : c.in-Ok.second.bytes.now ≡ encode_ty p.1 = ap (λ (x : Ty × List ℕ). x.1) e in
    let n : length (encode_ty p.0) ≡ c.place-end.result - 0 = omega (arith, c.place-end.ensures, g.3, c.of.ensures.whole, ap length p.3, length-append (encode_ty p.0) (encode_ty p.1), ap length rest) in
    subst (PartsCoded (Some (c.of-2.result, c.of-3.result))) (sym p.2) (
      c.of-2.ensures ∙ ap (take (c.place-end.result - 0)) p.3 ∙ take_at (encode_ty p.0) (encode_ty p.1) (c.place-end.result - 0) n,
      c.of-3.ensures ∙ rest,
    )
