-- The rules name one answer.
use Rattle.std.proofs.Common.{◌≡◌, ℕ, ◌<◌, ◌↔◌, List, [], ◌∷◌, ◌++◌, length, Some, Ok, Err, sym, refl, ap, ◌∙◌, subst, arith, slice_get}
use Rattle.language.specs.declared.fault.UnfoldFault.{UnfoldFault}
use Rattle.language.specs.Accepting.{Accepted}
use Rattle.language.specs.Syntax.{Ty, Program, leaves}
use Rattle.language.specs.Unfolding.{flips, unfolded, accepted_of}
use Rattle.language.proofs.AcceptedBytes.{accepted_complete}
use Rattle.diagram.specs.Decisions.{Formula}
use Rattle.semantics.specs.Formulas.{formed_by, question_forms}
use Rattle.line_book.specs.declared.fault.BookFault.{BookFault}
use Rattle.line_book.specs.declared.fault.BookFault.TheVariants.{Unfolding, Entries, Nodes, NoEntry, Pattern, Questions}
use Rattle.line_book.specs.declared.Taken.{Taken as TakenFigures}
use Rattle.line_book.specs.declared.Answer.TheVariants.{Taken, Asked, Cleared}
use Rattle.line_book.specs.Standing.{Entered, Standing}
use Rattle.line_book.specs.Rooms.{Room, NoRoom}
use Rattle.line_book.specs.Histories.{Act, taking, asking, clearing, Reply, Step, step, History, after, PatternOf, TakeRefused, TakeAccepted, TakeAnswers, QuestionRefused, QuestionAccepted, QuestionAnswers, Lawful, AllLawful, acts, RulesDecide}
use Rattle.line_book.proofs.Numbers.{one_number, not_both}

-- room for formulas, and none for them
no_both : (n : ℕ) (fs : List Formula) → Room n fs → NoRoom n fs → ⊥
no_both n fs r no_r = no_r r.0 r.1 r.2

module _ (room : ℕ) (s : Standing) (bytes : List ℕ) where
  -- the bytes encode one program
  one_program : (p q : Program) (σ τ : Ty) → Accepted bytes p σ → Accepted bytes q τ → ◌≡◌ {A = Program × Ty} (p, σ) (q, τ)
  one_program p q σ τ a b = cc (accepted_complete bytes p σ a, accepted_complete bytes q τ b)

  accepted_not : (p : Program) (τ : Ty) (e : UnfoldFault) → Accepted bytes p τ → accepted_of bytes ≡ Err e → ⊥
  accepted_not p τ e a h = cc (accepted_complete bytes p τ a)

  room_not : (p q : Program) (σ τ : Ty) → Accepted bytes p σ → Accepted bytes q τ → Room room (s.formulas ++ formed_by (unfolded p)) → NoRoom room (s.formulas ++ formed_by (unfolded q)) → ⊥
  room_not p q σ τ a b r n = no_both room (s.formulas ++ formed_by (unfolded q)) (subst (λ (x : Program × Ty). Room room (s.formulas ++ formed_by (unfolded x.0))) (one_program p q σ τ a b) r) n

  one_taken : (t u : TakenFigures) → TakeAccepted room s bytes t → TakeAccepted room s bytes u → t ≡ u
  one_taken t u a b =
      let e = one_program a.0 b.0 a.1 b.1 a.2 b.2 in
      let entry : t.entry ≡ u.entry = a.5 ∙ sym b.5 in
      let wide : t.leaves ≡ u.leaves = a.6 ∙ ap (λ (x : Program × Ty). leaves x.1) e ∙ sym b.6 in
      let many : t.flips ≡ u.flips = a.7 ∙ ap (λ (x : Program × Ty). flips (unfolded x.0)) e ∙ sym b.7 in
      λ i. record { entry = entry i; leaves = wide i; flips = many i }

  taken_not : (t : TakenFigures) (f : BookFault) → TakeAccepted room s bytes t → TakeRefused room s bytes f → ⊥
  taken_not t (Unfolding e) a b = accepted_not a.0 a.1 e a.2 b
  taken_not t Entries a b = let x = a.3 in let y = b.1 in omega arith
  taken_not t Nodes a b = room_not a.0 b.0 a.1 b.1 a.2 b.2 a.4 b.4
  taken_not t NoEntry a b = b
  taken_not t Pattern a b = b
  taken_not t Questions a b = b

  one_fault : (f g : BookFault) → TakeRefused room s bytes f → TakeRefused room s bytes g → f ≡ g
  one_fault (Unfolding e) (Unfolding d) a b = cc
  one_fault (Unfolding e) Entries a b = absurd (accepted_not b.0.0 b.0.1 e b.0.2 a)
  one_fault (Unfolding e) Nodes a b = absurd (accepted_not b.0 b.1 e b.2 a)
  one_fault (Unfolding e) NoEntry a b = absurd b
  one_fault (Unfolding e) Pattern a b = absurd b
  one_fault (Unfolding e) Questions a b = absurd b
  one_fault Entries (Unfolding d) a b = absurd (accepted_not a.0.0 a.0.1 d a.0.2 b)
  one_fault Entries Entries a b = refl
  one_fault Entries Nodes a b = absurd (let x = a.1 in let y = b.3 in omega arith)
  one_fault Entries NoEntry a b = absurd b
  one_fault Entries Pattern a b = absurd b
  one_fault Entries Questions a b = absurd b
  one_fault Nodes (Unfolding d) a b = absurd (accepted_not a.0 a.1 d a.2 b)
  one_fault Nodes Entries a b = absurd (let x = a.3 in let y = b.1 in omega arith)
  one_fault Nodes Nodes a b = refl
  one_fault Nodes NoEntry a b = absurd b
  one_fault Nodes Pattern a b = absurd b
  one_fault Nodes Questions a b = absurd b
  one_fault NoEntry g a b = absurd a
  one_fault Pattern g a b = absurd a
  one_fault Questions g a b = absurd a

  one_take : (r q : Reply) → TakeAnswers room s bytes r → TakeAnswers room s bytes q → r ≡ q
  one_take (Ok (Taken t)) (Ok (Taken u)) a b = ap (λ x. Ok (Taken x)) (one_taken t u a b)
  one_take (Ok (Taken t)) (Ok (Asked k)) a b = absurd b
  one_take (Ok (Taken t)) (Ok Cleared) a b = absurd b
  one_take (Ok (Taken t)) (Err f) a b = absurd (taken_not t f a b)
  one_take (Ok (Asked k)) q a b = absurd a
  one_take (Ok Cleared) q a b = absurd a
  one_take (Err f) (Ok (Taken u)) a b = absurd (taken_not u f b a)
  one_take (Err f) (Ok (Asked k)) a b = absurd b
  one_take (Err f) (Ok Cleared) a b = absurd b
  one_take (Err f) (Err g) a b = ap Err (one_fault f g a b)

module _ (room : ℕ) (s : Standing) (e : ℕ) (pattern : List ℕ) where
  -- the question is of one program
  asked_room_not : (x y : Entered) → slice_get s.entries e ≡ Some x → slice_get s.entries e ≡ Some y → Room room (s.formulas ++ question_forms (unfolded x.0) pattern) → NoRoom room (s.formulas ++ question_forms (unfolded y.0) pattern) → ⊥
  asked_room_not x y a b r n = no_both room (s.formulas ++ question_forms (unfolded y.0) pattern) (subst (λ (z : Entered). Room room (s.formulas ++ question_forms (unfolded z.0) pattern)) (one_number a b) r) n

  other_pattern : (x y : Entered) → slice_get s.entries e ≡ Some x → slice_get s.entries e ≡ Some y → PatternOf x.1 pattern → (PatternOf y.1 pattern → ⊥) → ⊥
  other_pattern x y a b fits not = not (subst (λ (z : Entered). PatternOf z.1 pattern) (one_number a b) fits)

  asked_not : (k : ℕ) (f : BookFault) → QuestionAccepted room s e pattern k → QuestionRefused room s e pattern f → ⊥
  asked_not k (Unfolding d) a b = b
  asked_not k Entries a b = b
  asked_not k Nodes a b = asked_room_not a.0 b.0 a.1 b.1 a.4 b.4
  asked_not k NoEntry a b = not_both a.1 b
  asked_not k Pattern a b = other_pattern a.0 b.0 a.1 b.1 a.2 b.2
  asked_not k Questions a b = let x = a.3 in let y = b.3 in omega arith

  one_refusal : (f g : BookFault) → QuestionRefused room s e pattern f → QuestionRefused room s e pattern g → f ≡ g
  one_refusal (Unfolding d) g a b = absurd a
  one_refusal Entries g a b = absurd a
  one_refusal Nodes (Unfolding d) a b = absurd b
  one_refusal Nodes Entries a b = absurd b
  one_refusal Nodes Nodes a b = refl
  one_refusal Nodes NoEntry a b = absurd (not_both a.1 b)
  one_refusal Nodes Pattern a b = absurd (other_pattern a.0 b.0 a.1 b.1 a.2 b.2)
  one_refusal Nodes Questions a b = absurd (let x = a.3 in let y = b.3 in omega arith)
  one_refusal NoEntry (Unfolding d) a b = absurd b
  one_refusal NoEntry Entries a b = absurd b
  one_refusal NoEntry Nodes a b = absurd (not_both b.1 a)
  one_refusal NoEntry NoEntry a b = refl
  one_refusal NoEntry Pattern a b = absurd (not_both b.1 a)
  one_refusal NoEntry Questions a b = absurd (not_both b.1 a)
  one_refusal Pattern (Unfolding d) a b = absurd b
  one_refusal Pattern Entries a b = absurd b
  one_refusal Pattern Nodes a b = absurd (other_pattern b.0 a.0 b.1 a.1 b.2 a.2)
  one_refusal Pattern NoEntry a b = absurd (not_both a.1 b)
  one_refusal Pattern Pattern a b = refl
  one_refusal Pattern Questions a b = absurd (other_pattern b.0 a.0 b.1 a.1 b.2 a.2)
  one_refusal Questions (Unfolding d) a b = absurd b
  one_refusal Questions Entries a b = absurd b
  one_refusal Questions Nodes a b = absurd (let x = b.3 in let y = a.3 in omega arith)
  one_refusal Questions NoEntry a b = absurd (not_both a.1 b)
  one_refusal Questions Pattern a b = absurd (other_pattern a.0 b.0 a.1 b.1 a.2 b.2)
  one_refusal Questions Questions a b = refl

  one_question : (r q : Reply) → QuestionAnswers room s e pattern r → QuestionAnswers room s e pattern q → r ≡ q
  one_question (Ok (Taken t)) q a b = absurd a
  one_question (Ok (Asked k)) (Ok (Taken t)) a b = absurd b
  one_question (Ok (Asked k)) (Ok (Asked j)) a b = ap (λ x. Ok (Asked x)) (a.5 ∙ sym b.5)
  one_question (Ok (Asked k)) (Ok Cleared) a b = absurd b
  one_question (Ok (Asked k)) (Err g) a b = absurd (asked_not k g a b)
  one_question (Ok Cleared) q a b = absurd a
  one_question (Err f) (Ok (Taken t)) a b = absurd b
  one_question (Err f) (Ok (Asked k)) a b = absurd (asked_not k f b a)
  one_question (Err f) (Ok Cleared) a b = absurd b
  one_question (Err f) (Err g) a b = ap Err (one_refusal f g a b)

one_answer : (room : ℕ) (s : Standing) (a : Act) (r q : Reply) → Lawful room s (step a r) → Lawful room s (step a q) → r ≡ q
one_answer room s (taking bytes) r q l m = one_take room s bytes r q l m
one_answer room s (asking e pattern) r q l m = one_question room s e pattern r q l m
one_answer room s clearing r q l m = l ∙ sym m

one_history : (room : ℕ) (s : Standing) (h g : History) → acts h ≡ acts g → AllLawful room s h → AllLawful room s g → h ≡ g
unfolding AllLawful acts
one_history room s [] [] e l m = refl
one_history room s [] (step b q ∷ g) e l m = cc
one_history room s (step a r ∷ h) [] e l m = cc
one_history room s (step a r ∷ h) (step b q ∷ g) e l m =
    let ab : a ≡ b = cc in
    let rest : acts h ≡ acts g = cc in
    let L : Act → Type 0 = λ x. Lawful room s (step x q) in
    let rq : r ≡ q = one_answer room s a r q l.0 (subst L (sym ab) m.0) in
    let same : step a r ≡ step b q = cc in
    let A : Step → Type 0 = λ x. AllLawful room (after s x) g in
    let hg : h ≡ g = one_history room (after s (step a r)) h g rest l.1 (subst A (sym same) m.1) in
    cc

take_wants : (room : ℕ) (s : Standing) (bytes : List ℕ) (p : Program) (τ : Ty) (r : Reply) → Lawful room s (step (taking bytes) r) → Accepted bytes p τ → length s.entries < 8 →
    (r ≡ Err Nodes) ↔ NoRoom room (s.formulas ++ formed_by (unfolded p))
take_wants room s bytes p τ r l acc few = (
  (λ e.
      let P : Reply → Type 0 = λ x. TakeAnswers room s bytes x in
      let z = subst P e l in
      subst (λ (x : Program × Ty). NoRoom room (s.formulas ++ formed_by (unfolded x.0))) (one_program room s bytes z.0 p z.1 τ z.2 acc) z.4),
  (λ n. one_take room s bytes r (Err Nodes) l (p, τ, acc, few, n)),
)

question_wants : (room : ℕ) (s : Standing) (e : ℕ) (pattern : List ℕ) (x : Entered) (r : Reply) → Lawful room s (step (asking e pattern) r) → slice_get s.entries e ≡ Some x → PatternOf x.1 pattern → length s.questions < 64 →
    (r ≡ Err Nodes) ↔ NoRoom room (s.formulas ++ question_forms (unfolded x.0) pattern)
question_wants room s e pattern x r l there fits few = (
  (λ d.
      let P : Reply → Type 0 = λ y. QuestionAnswers room s e pattern y in
      let z = subst P d l in
      subst (λ (y : Entered). NoRoom room (s.formulas ++ question_forms (unfolded y.0) pattern)) (one_number z.1 there) z.4),
  (λ n. one_question room s e pattern r (Err Nodes) l (x, there, fits, few, n)),
)

pub rules_decide_lem : RulesDecide
rules_decide_lem = record { one_answer = one_answer; one_history = one_history; take_wants = take_wants; question_wants = question_wants }
