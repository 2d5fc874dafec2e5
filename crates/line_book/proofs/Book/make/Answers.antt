use Rattle.std.proofs.lemmas.Result.{err_from_is_err_and}
use Rattle.line_book.proofs.Book.make.Goals as goal

pub returns-in_err-take-in-Take-clause-came : goal.returns-in_err-take-in-Take-clause-came
returns-in_err-take-in-Take-clause-came c = let p = err_from_is_err_and c.from_residual.result c.from_residual.ensures.1 in rw (p.1, p.2, c.in-Take.is) c.in_err-take-in-Take.ensures.came

pub returns-in_ok-question-in-Question-clause-lawful : goal.returns-in_ok-question-in-Question-clause-lawful
returns-in_ok-question-in-Question-clause-lawful c = rw c.in-Question.is c.in_ok-question-in-Question.ensures.lawful

pub returns-in_err-question-in-Question-clause-came : goal.returns-in_err-question-in-Question-clause-came
returns-in_err-question-in-Question-clause-came c =
    let p = err_from_is_err_and c.from_residual-in_err-question-in-Question.result c.from_residual-in_err-question-in-Question.ensures.1 in rw (p.1, p.2, c.in-Question.is) c.in_err-question-in-Question.ensures.came
