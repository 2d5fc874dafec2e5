use Rattle.std.proofs.Common.{length, sym, refl, ◌∙◌, subst, arith, drop-set-lt}
use Rattle.std.proofs.lemmas.List.{set-get_or}
use Rattle.line_book.specs.Histories.{History}
use Rattle.line_book.specs.Came.{Came}
use Rattle.line_book.specs.Seen.{seen}
use Rattle.line_book.proofs.Logs.{told_none, told_more, came_all, lawful_all, lent_on}
use Rattle.line_book.proofs.Longer.{lent_self}
use Rattle.line_book.proofs.replay.replay.Goals as goal

pub loop-i-init : goal.loop-i-init
loop-i-init c =
    let P : History → Type 0 = λ h. Came h (seen c.new-book.result) in
    record { most = omega arith; came = subst P (sym told_none) c.new-book.ensures.came; lent = lent_self c.new-book.result.table; others = refl }

pub loop-i-preserved : goal.loop-i-preserved
loop-i-preserved c =
    let P : History → Type 0 = λ h. Came h (seen c.make.new.self) in
    let v = c.loop-i.invariant in
    let l = c.in-Some.ensures.lookup in
    record {
      most = omega (arith, l.3.0);
      came = subst P (sym (told_more c.args.calls.now c.loop-i.answers c.loop-i.i c.make.result c.in-Some.call.now l.3.0 l.1 (omega arith))) (c.make.ensures.came _ v.came);
      lent = lent_on _ c.loop-i.book.table c.make.new.self.table v.lent c.make.ensures.lent;
      others = drop-set-lt (length c.args.calls.now) c.loop-i.answers c.loop-i.i c.make.result l.3.0 ∙ v.others;
    }

pub returns-after-loop-i-clause-came : goal.returns-after-loop-i-clause-came
returns-after-loop-i-clause-came c = came_all c.args.calls.now c.loop-i.answers c.loop-i.i _ c.loop-i.invariant.came (omega arith)

pub returns-after-loop-i-clause-lawful : goal.returns-after-loop-i-clause-lawful
returns-after-loop-i-clause-lawful c =
    lawful_all c.args.calls.now c.loop-i.answers c.loop-i.i _ c.loop-i.invariant.came (omega arith) _ (c.loop-i.invariant.lent.size ∙ c.new-book.ensures.over.size)

pub returns-in_default-clause-came : goal.returns-in_default-clause-came
returns-in_default-clause-came c = rw set-get_or (came_all c.args.calls.now c.loop-i.answers c.loop-i.i _ c.loop-i.invariant.came (omega (arith, c.in_default.ensures.lookup.3)))

pub returns-in_default-clause-lawful : goal.returns-in_default-clause-lawful
returns-in_default-clause-lawful c =
    rw set-get_or (lawful_all c.args.calls.now c.loop-i.answers c.loop-i.i _ c.loop-i.invariant.came (omega (arith, c.in_default.ensures.lookup.3)) _ (c.loop-i.invariant.lent.size ∙ c.new-book.ensures.over.size))
