-- The history that a list of calls tells together with their answers.
use Rattle.std.specs.Prelude.{List, [], ◌∷◌}
use Rattle.line_book.specs.declared.Call.{Call}
use Rattle.line_book.specs.declared.Call.TheVariants.{Take, Question, Clear}
use Rattle.line_book.specs.Histories.{Act, taking, asking, clearing, Reply, step, History}

-- the call that is meant
abbrev pub act : Call → Act
act (Take program) = taking program.now
act (Question entry pattern) = asking entry pattern.now
act Clear = clearing

-- each call with the answer at its place; a call without a place for its answer is not made
unfoldable pub told : List Call → List Reply → History
told [] answers = []
told (c ∷ calls) [] = []
told (c ∷ calls) (a ∷ answers) = step (act c) a ∷ told calls answers
