use Rattle.agreement.proofs.running.+run_expression.Given as goal

abbrev pub decreases-run_expression : goal.decreases-run_expression
decreases-run_expression l = l.depth
