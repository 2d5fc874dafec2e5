-- What a book holds, by its type.
use Rattle.bounded.specs.Listed.{listed}
use Rattle.line_book.specs.declared.Book.{Book}
use Rattle.line_book.specs.Came.{View, view}

abbrev pub seen : Book → View
seen b = view b.table (listed b.entries) (listed b.questions)
