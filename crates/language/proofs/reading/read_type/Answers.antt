use Rattle.std.proofs.Common.{◌≡◌, ℕ, ◌-◌, ◌≤◌, Bool, cond, List, length, take, Ok, Err, ap, ◌∙◌, arith, length-append, le-leb}
use Rattle.std.proofs.lemmas.List.{take_at}
use Rattle.language.specs.declared.fault.ReadFault.TheVariants.{TooWide}
use Rattle.language.specs.Syntax.{Ty, leaves, encode_ty}
use Rattle.language.specs.Reading.{type_from}
use Rattle.language.proofs.Results.{then_at}
use Rattle.language.proofs.ReadingTypes.{type_short}
use Rattle.language.proofs.Encoding.{type_sound, type_length}
use Rattle.language.proofs.reading.read_type.Goals as goal

-- the bytes up to the rest are those of the type
front : (w : ℕ) (s rest : List ℕ) (τ : Ty) → type_from w s ≡ Ok (τ, rest) → take (length s - length rest - 0) s ≡ encode_ty τ
front w s rest τ e =
    let k = type_sound w s (τ, rest) e in
    let n : length (encode_ty τ) ≡ length s - length rest - 0 = omega (arith, ap length k, length-append (encode_ty τ) rest) in
    ap (λ (x : List ℕ). take (length s - length rest - 0) x) k ∙ take_at (encode_ty τ) rest (length s - length rest - 0) n

pub of-requires : goal.of-requires
of-requires c =
    let g = c.in_ok-leaves.ensures.gives in
    let e = front c.args.part.whole c.args.part.bytes.now c.in_ok-leaves.rest.bytes.now g.0 g.2 in
    omega (arith, ap length e, type_length g.0, g.1)

pub returns : goal.returns
returns c =
    let g = c.in_ok-leaves.ensures.gives in
    let n : leaves g.0 ≤ 16 = omega (arith, g.1) in
    record {
      gives = (
        g.0,
        c.of.ensures ∙ front c.args.part.whole c.args.part.bytes.now c.in_ok-leaves.rest.bytes.now g.0 g.2,
        then_at _ g.2 ∙ ap (λ (b : Bool). cond b (Ok (g.0, c.in_ok-leaves.rest.bytes.now)) (Err (TooWide (c.args.part.whole - length c.args.part.bytes.now)))) (le-leb (leaves g.0) 16 n),
        g.3,
      );
      shorter = type_short c.args.part.whole c.args.part.bytes.now _ g.2;
    }
