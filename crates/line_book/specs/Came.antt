-- What it is for a book to have come from a history.
use Rattle.std.specs.Prelude.{◌≡◌, ℕ, ◌≤◌, min, List, [], length, take, Some, Ok, All, slice_get}
use Rattle.std.specs.List.{AllZip}
use Rattle.std.specs.Borrow.{MutBor}
use Rattle.bounded.specs.Listed.{listed}
use Rattle.compiling.specs.declared.programs.Model.{Model}
use Rattle.compiling.specs.Terms.{Stands as StandsFor, Decides, AllWithin}
use Rattle.diagram.specs.declared.Node.{Node}
use Rattle.diagram.specs.declared.Table.{Table}
use Rattle.diagram.specs.declared.MemoItem.{MemoItem}
use Rattle.diagram.specs.Build.{ListsKept, item}
use Rattle.diagram.specs.Decisions.{Formula, at, Among, AllNeeded, Below, HoldsAll}
use Rattle.language.specs.Unfolding.{flips, unfolded, accepted_of}
use Rattle.semantics.specs.Formulas.{formed, evidence_of, question}
use Rattle.semantics.specs.Running.{rows}
use Rattle.line_book.specs.declared.Entry.{Entry}
use Rattle.line_book.specs.declared.Question.{Question}
use Rattle.line_book.specs.Standing.{Entered, Posed, Standing, nothing}
use Rattle.line_book.specs.Histories.{History, standing, AllLawful}

-- what a book holds, but for its memo: its nodes, and the entries and questions that stand
pub record View : Type 0 where
  pub nodes : List Node
  pub used : ℕ
  pub entries : List Entry
  pub questions : List Question

abbrev pub view : Table → List Entry → List Question → View
view table entries questions = record {
  nodes = table.nodes.now;
  used = table.used;
  entries = entries;
  questions = questions;
}

-- the nodes that it keeps
abbrev pub kept : View → List Node
kept v = take v.used v.nodes

-- its length: how many nodes it has room for
abbrev pub room : View → ℕ
room v = min (length v.nodes) 16384

-- the references of an entry decide as the formulas of its program, and its flips have that program's rows
pub record EntryOf (ns : List Node) (m : Model) (x : Entered) : Type 0 where
  pub accepted : (bytes : List ℕ) × (accepted_of bytes ≡ Ok x)
  pub within : AllWithin ns (listed m.main.value.leaves)
  pub value_stands : StandsFor ns m.main.value x.1 (formed (unfolded x.0) [] 0).0
  pub evidence_stands : Decides ns m.main.evidence (evidence_of (unfolded x.0))
  pub flips_are : length (listed m.flips) ≡ flips (unfolded x.0)
  pub rows_are : listed m.flips ≡ rows (unfolded x.0)

-- the reference of a question decides as the formula that it asks
pub record QuestionOf (ns : List Node) (q : Question) (x : Posed) : Type 0 where
  pub entry_is : q.entry ≡ x.entry
  pub reference_stands : Decides ns q.reference (question (unfolded x.entered.0) x.pattern)

-- a book holds what stands, one for one, and each of its nodes is needed by the formulas formed
pub record Stands (s : Standing) (v : View) : Type 0 where
  pub entries_are : AllZip (λ e x. EntryOf (kept v) e.model x) v.entries s.entries
  pub questions_are : AllZip (QuestionOf (kept v)) v.questions s.questions
  pub asked_of : All (λ x. slice_get s.entries x.entry ≡ Some x.entered) s.questions
  pub held : HoldsAll (kept v) (Among s.formulas)
  pub needed : AllNeeded (Among s.formulas) (kept v)
  pub below : (f : Formula) → Among s.formulas f → Below 128 f

-- each answer of the history is the one that the rules name, and the book holds what stands after it
pub record Came (h : History) (v : View) : Type 0 where
  pub lawful : AllLawful (room v) nothing h
  pub stands : Stands (standing nothing h) v

-- the lists are the ones that were lent, each as long as before, and nothing from number 16,384 on changed
pub record Lent (s t : Table) : Type 0 where
  pub lists : ListsKept s t
  pub size : length t.nodes.now ≡ length s.nodes.now
  pub beyond : (k : ℕ) → 16384 ≤ k → at t.nodes.now k ≡ at s.nodes.now k

-- the table lies over these lists, which are as long as they were, and nothing from number 16,384 on changed
pub record Over (nodes : MutBor (List Node)) (memo : MutBor (List MemoItem)) (t : Table) : Type 0 where
  pub nodes_lent : t.nodes.ghost_name ≡ nodes.ghost_name
  pub size : length t.nodes.now ≡ length nodes.now
  pub beyond : (k : ℕ) → 16384 ≤ k → at t.nodes.now k ≡ at nodes.now k
  pub memo_lent : t.memo.ghost_name ≡ memo.ghost_name
  pub items : length t.memo.now ≡ length memo.now
  pub after : (i : ℕ) → 16384 ≤ i → item t.memo.now i ≡ item memo.now i
