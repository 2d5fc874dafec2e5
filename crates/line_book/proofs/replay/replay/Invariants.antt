use Rattle.std.proofs.Common.{◌≡◌, ◌≤◌, length, take, drop}
use Rattle.line_book.specs.Came.{Came, Lent}
use Rattle.line_book.specs.Log.{told}
use Rattle.line_book.specs.Seen.{seen}
use Rattle.line_book.proofs.replay.replay.Given as goal

abbrev pub invariant-loop-i : goal.invariant-loop-i
invariant-loop-i l = record {
  most : l.i ≤ length l.calls;
  came : Came (told (take l.i l.calls) (take l.i l.answers)) (seen l.book);
  lent : Lent l.initial.book.table l.book.table;
  others : drop (length l.calls) l.answers ≡ drop (length l.calls) l.initial.answers;
}
