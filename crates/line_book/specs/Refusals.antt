-- The refusals of a book: each fault's number, layer and place.
use Rattle.language.specs.Refusals.{refusal, refusal_of_unfolding}
use Rattle.language.specs.declared.fault.Refusal.{Refusal}
use Rattle.line_book.specs.declared.fault.Layer.{Layer}
use Rattle.line_book.specs.declared.fault.Layer.TheVariants.{Program, Book, Counting}
use Rattle.line_book.specs.declared.fault.BookFault.{BookFault}
use Rattle.line_book.specs.declared.fault.BookFault.TheVariants.{Unfolding, Entries, Nodes, NoEntry, Pattern, Questions}
use Rattle.line_book.specs.declared.fault.CountFault.{CountFault}
use Rattle.line_book.specs.declared.fault.CountFault.TheVariants.{NoQuestion, Weights, Cells}

-- taking a program or a question; what a lower layer refuses is passed up as it is
abbrev pub refusal_of_book : BookFault → Refusal Layer
refusal_of_book (Unfolding fault) = let r = refusal_of_unfolding fault in refusal r.number (Program r.layer) r.place
refusal_of_book Entries = refusal 12 Book 0
refusal_of_book Nodes = refusal 13 Book 0
refusal_of_book NoEntry = refusal 14 Book 0
refusal_of_book Pattern = refusal 15 Book 0
refusal_of_book Questions = refusal 16 Book 0

-- counting and comparing
abbrev pub refusal_of_count : CountFault → Refusal Layer
refusal_of_count NoQuestion = refusal 17 Counting 0
refusal_of_count Weights = refusal 18 Counting 0
refusal_of_count Cells = refusal 19 Counting 0
