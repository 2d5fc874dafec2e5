use Rattle.std.proofs.Common.{subst, ap, ◌∙◌, arith}
use Rattle.std.proofs.lemmas.Result.{IfOk-from_err, IfOk-weaker}
use Rattle.language.specs.declared.command.Command.{Command}
use Rattle.language.specs.Outlines.{Passes}
use Rattle.language.specs.Syntax.{plain}
use Rattle.language.specs.Reading.{grow, front_of, expr_from}
use Rattle.language.proofs.Results.{as_read, then_err, at_whole}
use Rattle.language.proofs.Trees.{fork_first}
use Rattle.language.proofs.Encoding.{expr_grows, expr_after}
use Rattle.language.proofs.ReadingExprs.{broke_passing, second_passed, forks, expr_forks}
use Rattle.language.proofs.reading.+read_expression.Goals as goal

pub returns-in_err-command-clause-gives : goal.returns-in_err-command-clause-gives
returns-in_err-command-clause-gives t c =
    broke_passing c.args.part.whole c.from_residual.result _ c.from_residual.ensures.1
    (expr_grows c.args.part.whole c.args.part.bytes.now ∙ then_err _ (then_err _ c.in_err-command.ensures.gives))

pub returns-in-Simple-clause-gives : goal.returns-in-Simple-clause-gives
returns-in-Simple-clause-gives t c = (
  plain c.in-Simple.field-0,
  expr_after c.args.part.whole c.args.part.bytes.now (as_read c.in_ok-command.ensures.gives)
      ∙ ap (λ (k : Command). grow (expr_from c.args.part.whole) (front_of k) c.in_ok-command.rest.bytes.now) c.in-Simple.is,
  c.in_ok-command.ensures.gives.3,
)

pub returns-in_err-rest-in-If : goal.returns-in_err-rest-in-If
returns-in_err-rest-in-If t c =
    let f = forks c.in_ok-command.command c.in-If.is in
    record {
      gives =
          broke_passing c.args.part.whole c.from_residual-in_err-rest-in-If.result _ c.from_residual-in_err-rest-in-If.ensures.1
          (expr_forks c.args.part.whole c.args.part.bytes.now (as_read c.in_ok-command.ensures.gives) f.1
          ∙ fork_first (expr_from c.args.part.whole) f.0 _ (at_whole (λ v. expr_from v c.in_ok-command.rest.bytes.now) c.in_ok-command.ensures.gives.3 c.in_err-rest-in-If.ensures.gives));
      shorter = IfOk-from_err c.from_residual-in_err-rest-in-If.result _ c.from_residual-in_err-rest-in-If.ensures.0;
    }

pub returns-in_ok-rest-in-If : goal.returns-in_ok-rest-in-If
returns-in_ok-rest-in-If t c =
    let f = forks c.in_ok-command.command c.in-If.is in
    record {
      gives =
          second_passed c.args.part.whole f.0 c.in_ok-command.rest.bytes.now c.in_ok-rest-in-If.rest.bytes.now
          (expr_forks c.args.part.whole c.args.part.bytes.now (as_read c.in_ok-command.ensures.gives) f.1)
          (at_whole (λ v. expr_from v c.in_ok-command.rest.bytes.now) c.in_ok-command.ensures.gives.3 c.in_ok-rest-in-If.ensures.gives.1)
          c.read_expression-in-If.result
          (subst (λ v. Passes v c.read_expression-in-If.result (expr_from v c.in_ok-rest-in-If.rest.bytes.now)) (c.in_ok-rest-in-If.ensures.gives.2 ∙ c.in_ok-command.ensures.gives.3) c.read_expression-in-If.ensures.gives);
      shorter =
          IfOk-weaker c.read_expression-in-If.result _ _
          (λ x h. omega (arith, c.in_ok-rest-in-If.ensures.shorter, c.in_ok-command.ensures.shorter))
          c.read_expression-in-If.ensures.shorter;
    }
