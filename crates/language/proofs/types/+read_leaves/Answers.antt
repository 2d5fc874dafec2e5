use Rattle.std.proofs.Common.{ℕ, Err, sym, refl, ap, ◌∙◌, rules}
use Rattle.language.specs.declared.fault.ReadFault.TheVariants.{Unknown}
use Rattle.language.specs.Syntax.{bool, product}
use Rattle.language.specs.Reading.{done, fork, type_from}
use Rattle.language.specs.Outlines.{Counted}
use Rattle.language.proofs.Results.{broke, at_whole}
use Rattle.language.proofs.Trees.{fork_first, fork_second, fork_both}
use Rattle.language.proofs.ReadingTypes.{type_begins, type_ends, type_unknown}
use Rattle.language.proofs.types.+read_leaves.Goals as goal

pub returns-in-empty-clause-gives : goal.returns-in-empty-clause-gives
returns-in-empty-clause-gives t c =
    type_ends c.args.part.whole c.args.part.bytes.now (search rules)

pub returns-in-0-clause-gives : goal.returns-in-0-clause-gives
returns-in-0-clause-gives t c =
    (bool, refl, type_begins c.args.part.whole c.args.part.bytes.now 0 (done bool) (λ rest. refl) (search rules) (search rules), refl)

pub returns-in_default-clause-gives : goal.returns-in_default-clause-gives
returns-in_default-clause-gives t c =
    type_unknown c.args.part.whole c.args.part.bytes.now (search rules) (search rules) (search rules) ∙ ap (λ (k : ℕ). Err (Unknown k)) (sym c.place.ensures)

pub returns-in_err-first-in-1-clause-gives : goal.returns-in_err-first-in-1-clause-gives
returns-in_err-first-in-1-clause-gives t c =
    broke Counted c.args.part.whole c.from_residual.result _ c.from_residual.ensures.1
    (type_begins c.args.part.whole c.args.part.bytes.now 1 (fork product) (λ rest. refl) (search rules) (search rules)
    ∙ fork_first (type_from c.args.part.whole) product _ c.in_err-first-in-1.ensures.gives)

pub returns-in_err-second-in-1-clause-gives : goal.returns-in_err-second-in-1-clause-gives
returns-in_err-second-in-1-clause-gives t c =
    broke Counted c.args.part.whole c.from_residual-in_err-second-in-1.result _ c.from_residual-in_err-second-in-1.ensures.1
    (type_begins c.args.part.whole c.args.part.bytes.now 1 (fork product) (λ rest. refl) (search rules) (search rules)
    ∙ fork_second (type_from c.args.part.whole) product _ c.in_ok-first-in-1.ensures.gives.2 (at_whole (λ v. type_from v c.in_ok-first-in-1.rest.bytes.now) c.in_ok-first-in-1.ensures.gives.3 c.in_err-second-in-1.ensures.gives))

pub returns-in_ok-second-in-1-clause-gives : goal.returns-in_ok-second-in-1-clause-gives
returns-in_ok-second-in-1-clause-gives t c =
    let first = c.in_ok-first-in-1.ensures.gives in
    let second = c.in_ok-second-in-1.ensures.gives in (
      product first.0 second.0,
      cc (first.1, second.1),
      type_begins c.args.part.whole c.args.part.bytes.now 1 (fork product) (λ rest. refl) (search rules) (search rules)
          ∙ fork_both (type_from c.args.part.whole) product _ first.2 (at_whole (λ v. type_from v c.in_ok-first-in-1.rest.bytes.now) first.3 second.2),
      second.3 ∙ first.3,
    )
