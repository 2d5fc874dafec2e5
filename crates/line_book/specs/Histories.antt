-- The calls that can change a book with their answers, and the rules that name each answer.
use Rattle.std.specs.Prelude.{◌≡◌, ℕ, ◌<◌, ◌≤◌, ◌↔◌, List, [], ◌∷◌, ◌++◌, length, Some, None, Ok, Err, Option, Result, slice_index, slice_get}
use Rattle.language.specs.declared.fault.UnfoldFault.{UnfoldFault}
use Rattle.language.specs.Accepting.{Accepted}
use Rattle.language.specs.Syntax.{Ty, Program, leaves}
use Rattle.language.specs.Unfolding.{flips, unfolded, accepted_of}
use Rattle.semantics.specs.Formulas.{formed_by, question_forms}
use Rattle.line_book.specs.declared.fault.BookFault.{BookFault}
use Rattle.line_book.specs.declared.fault.BookFault.TheVariants.{Unfolding, Entries, Nodes, NoEntry, Pattern, Questions}
use Rattle.line_book.specs.declared.Taken.{Taken as TakenFigures}
use Rattle.line_book.specs.declared.Answer.{Answer}
use Rattle.line_book.specs.declared.Answer.TheVariants.{Taken, Asked, Cleared}
use Rattle.line_book.specs.Standing.{Entered, Standing, nothing, with_entry, with_question}
use Rattle.line_book.specs.Rooms.{Room, NoRoom}

-- a call that can change a book
pub data Act : Type 0 where
  taking : (program : List ℕ) → Act
  asking : (entry : ℕ) (pattern : List ℕ) → Act
  clearing : Act

-- what it was answered
abbrev pub Reply : Type 0
Reply = Result Answer BookFault

-- such a call with its answer
pub data Step : Type 0 where
  step : Act → Reply → Step

abbrev pub History : Type 0
History = List Step

-- what take and question answer
abbrev pub take_answer : Result TakenFigures BookFault → Reply
take_answer (Ok t) = Ok (Taken t)
take_answer (Err f) = Err f

abbrev pub question_answer : Result ℕ BookFault → Reply
question_answer (Ok k) = Ok (Asked k)
question_answer (Err f) = Err f

-- what stands after a take of these bytes: one entry more where it was accepted
abbrev pub after_take : Standing → Result Entered UnfoldFault → Reply → Standing
after_take s (Ok x) (Ok (Taken t)) = with_entry s x
after_take s (Ok x) (Ok (Asked k)) = s
after_take s (Ok x) (Ok Cleared) = s
after_take s (Ok x) (Err f) = s
after_take s (Err fault) a = s

-- what stands after a question of an entry: one question more where it was accepted
abbrev pub after_question : Standing → (entry : ℕ) (pattern : List ℕ) → Option Entered → Reply → Standing
after_question s e pattern (Some x) (Ok (Taken t)) = s
after_question s e pattern (Some x) (Ok (Asked k)) = with_question s (record { entry = e; entered = x; pattern = pattern })
after_question s e pattern (Some x) (Ok Cleared) = s
after_question s e pattern (Some x) (Err f) = s
after_question s e pattern None a = s

abbrev pub after : Standing → Step → Standing
after s (step (taking bytes) a) = after_take s (accepted_of bytes) a
after s (step (asking e pattern) a) = after_question s e pattern (slice_get s.entries e) a
after s (step clearing a) = nothing

-- what stands after a history
unfoldable pub standing : Standing → History → Standing
standing s [] = s
standing s (x ∷ h) = standing (after s x) h

-- Why a take of these bytes is refused, where s stands and a table of the book's length has `room` nodes.
abbrev pub TakeRefused : (room : ℕ) → Standing → (bytes : List ℕ) → BookFault → Type 0
TakeRefused room s bytes (Unfolding fault) = accepted_of bytes ≡ Err fault
TakeRefused room s bytes Entries = ((p : Program) × (τ : Ty) × Accepted bytes p τ) × (8 ≤ length s.entries)
TakeRefused room s bytes Nodes = (p : Program) × (τ : Ty) × Accepted bytes p τ × (length s.entries < 8) × NoRoom room (s.formulas ++ formed_by (unfolded p))
TakeRefused room s bytes NoEntry = ⊥
TakeRefused room s bytes Pattern = ⊥
TakeRefused room s bytes Questions = ⊥

-- The figures of an accepted take: the program that the bytes encode is within all limits, there are fewer than 8 entries, and there is room.
abbrev pub TakeAccepted : (room : ℕ) → Standing → (bytes : List ℕ) → TakenFigures → Type 0
TakeAccepted room s bytes t =
    (p : Program) × (τ : Ty) × Accepted bytes p τ × (length s.entries < 8) × Room room (s.formulas ++ formed_by (unfolded p))
    × (t.entry ≡ length s.entries) × (t.leaves ≡ leaves τ) × (t.flips ≡ flips (unfolded p))

abbrev pub TakeAnswers : (room : ℕ) → Standing → (bytes : List ℕ) → Reply → Type 0
TakeAnswers room s bytes (Ok (Taken t)) = TakeAccepted room s bytes t
TakeAnswers room s bytes (Ok (Asked k)) = ⊥
TakeAnswers room s bytes (Ok Cleared) = ⊥
TakeAnswers room s bytes (Err f) = TakeRefused room s bytes f

-- a pattern has one byte a leaf, and none above 2
abbrev pub PatternOf : Ty → (pattern : List ℕ) → Type 0
PatternOf τ pattern = (length pattern ≡ leaves τ) × ((i : ℕ) → i < length pattern → slice_index pattern i ≤ 2)

-- Why a question of an entry is refused.
abbrev pub QuestionRefused : (room : ℕ) → Standing → (entry : ℕ) (pattern : List ℕ) → BookFault → Type 0
QuestionRefused room s e pattern (Unfolding fault) = ⊥
QuestionRefused room s e pattern Entries = ⊥
QuestionRefused room s e pattern Nodes =
    (x : Entered) × (slice_get s.entries e ≡ Some x) × PatternOf x.1 pattern × (length s.questions < 64)
    × NoRoom room (s.formulas ++ question_forms (unfolded x.0) pattern)
QuestionRefused room s e pattern NoEntry = slice_get s.entries e ≡ None
QuestionRefused room s e pattern Pattern = (x : Entered) × (slice_get s.entries e ≡ Some x) × (PatternOf x.1 pattern → ⊥)
QuestionRefused room s e pattern Questions = (x : Entered) × (slice_get s.entries e ≡ Some x) × PatternOf x.1 pattern × (64 ≤ length s.questions)

-- The number of an accepted question: the entry is there, the pattern is one of its leaves, there are fewer than 64 questions, and there is room.
abbrev pub QuestionAccepted : (room : ℕ) → Standing → (entry : ℕ) (pattern : List ℕ) → ℕ → Type 0
QuestionAccepted room s e pattern k =
    (x : Entered) × (slice_get s.entries e ≡ Some x) × PatternOf x.1 pattern × (length s.questions < 64)
    × Room room (s.formulas ++ question_forms (unfolded x.0) pattern) × (k ≡ length s.questions)

abbrev pub QuestionAnswers : (room : ℕ) → Standing → (entry : ℕ) (pattern : List ℕ) → Reply → Type 0
QuestionAnswers room s e pattern (Ok (Taken t)) = ⊥
QuestionAnswers room s e pattern (Ok (Asked k)) = QuestionAccepted room s e pattern k
QuestionAnswers room s e pattern (Ok Cleared) = ⊥
QuestionAnswers room s e pattern (Err f) = QuestionRefused room s e pattern f

-- the answer is the one that the rules name
abbrev pub Lawful : (room : ℕ) → Standing → Step → Type 0
Lawful room s (step (taking bytes) a) = TakeAnswers room s bytes a
Lawful room s (step (asking e pattern) a) = QuestionAnswers room s e pattern a
Lawful room s (step clearing a) = a ≡ Ok Cleared

-- so is each answer of a history
unfoldable pub AllLawful : (room : ℕ) → Standing → History → Type 0
AllLawful room s [] = Unit {0}
AllLawful room s (x ∷ h) = Lawful room s x × AllLawful room (after s x) h

-- the calls of a history
unfoldable pub acts : History → List Act
acts [] = []
acts (step a r ∷ h) = a ∷ acts h

-- The rules name one answer to each call, and so the calls decide the history. A take or a question that passes the earlier
-- checks is refused for want of nodes exactly when no ordered table of the book's length holds the formulas concerned.
pub record RulesDecide : Type 0 where
  pub one_answer : (room : ℕ) (s : Standing) (a : Act) (r q : Reply) → Lawful room s (step a r) → Lawful room s (step a q) → r ≡ q
  pub one_history : (room : ℕ) (s : Standing) (h g : History) → acts h ≡ acts g → AllLawful room s h → AllLawful room s g → h ≡ g
  pub take_wants : (room : ℕ) (s : Standing) (bytes : List ℕ) (p : Program) (τ : Ty) (r : Reply) → Lawful room s (step (taking bytes) r) → Accepted bytes p τ → length s.entries < 8 →
      (r ≡ Err Nodes) ↔ NoRoom room (s.formulas ++ formed_by (unfolded p))
  pub question_wants : (room : ℕ) (s : Standing) (e : ℕ) (pattern : List ℕ) (x : Entered) (r : Reply) → Lawful room s (step (asking e pattern) r) → slice_get s.entries e ≡ Some x → PatternOf x.1 pattern → length s.questions < 64 →
      (r ≡ Err Nodes) ↔ NoRoom room (s.formulas ++ question_forms (unfolded x.0) pattern)
