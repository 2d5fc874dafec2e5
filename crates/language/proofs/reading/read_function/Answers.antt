use Rattle.std.proofs.Common.{length, ap, ◌∙◌, arith, length-append}
use Rattle.language.specs.Syntax.{encode_ty}
use Rattle.language.specs.Reading.{narrow_from, expr_from}
use Rattle.language.proofs.Results.{broke, then_at, then_err, at_whole}
use Rattle.language.proofs.Encoding.{narrow_ok, type_sound, function_parts}
use Rattle.language.proofs.reading.read_function.Goals as goal

pub returns-in_err-result-clause-gives : goal.returns-in_err-result-clause-gives
returns-in_err-result-clause-gives c =
    let p = c.in_ok-parameter.ensures.gives in
    broke _ c.args.part.whole c.from_residual-in_err-result.result _ c.from_residual-in_err-result.ensures.1
    (then_at _ p.2 ∙ then_err _ (at_whole (λ v. narrow_from v c.in_ok-parameter.rest.bytes.now) p.3 c.in_err-result.ensures.gives))

pub returns-in_err-rest-clause-gives : goal.returns-in_err-rest-clause-gives
returns-in_err-rest-clause-gives c =
    let p = c.in_ok-parameter.ensures.gives in
    let q = c.in_ok-result.ensures.gives in
    broke _ c.args.part.whole c.from_residual-in_err-rest.result _ c.from_residual-in_err-rest.ensures.1
    (then_at _ p.2
    ∙ then_at _ (at_whole (λ v. narrow_from v c.in_ok-parameter.rest.bytes.now) p.3 q.2)
    ∙ then_err _ (at_whole (λ v. expr_from v c.in_ok-result.rest.bytes.now) (q.3 ∙ p.3) c.in_err-rest.ensures.gives))

pub returns-clause-gives : goal.returns-clause-gives
returns-clause-gives c =
    let w = c.args.part.whole in
    let s = c.args.part.bytes.now in
    let p = c.in_ok-parameter.ensures.gives in
    let q = c.in_ok-result.ensures.gives in
    let e = c.in_ok-rest.ensures.gives in
    let s' = c.in_ok-parameter.rest.bytes.now in
    let s'' = c.in_ok-result.rest.bytes.now in
    let result = at_whole (λ v. narrow_from v s') p.3 q.2 in
    let first = type_sound w s (p.0, s') (narrow_ok w s p.2).0 in
    let second = type_sound w s' (q.0, s'') (narrow_ok w s' result).0 in (
      record { parameter = p.0; result = q.0; body = e.0 },
      record {
        parameter_code = p.1;
        result_code = q.1;
        body_is_at = omega (arith, c.place-body.ensures, q.3, p.3, ap length first, ap length second, length-append (encode_ty p.0) s', length-append (encode_ty q.0) s'');
      },
      function_parts w s p.2 result (at_whole (λ v. expr_from v s'') (q.3 ∙ p.3) e.1),
      e.2 ∙ q.3 ∙ p.3,
    )
