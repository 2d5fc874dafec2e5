-- Histories of one call more.
use Rattle.std.proofs.Common.{◌≡◌, ℕ, min, List, [], ◌∷◌, ◌++◌, length, sym, refl, ap, subst, arith}
use mathlib.Core.Logic.{∥∥₁_map}
use Rattle.std.proofs.lemmas.Slice.Zip.{AllZip-long}
use Rattle.bounded.specs.Listed.{listed}
use Rattle.diagram.specs.declared.Table.{Table}
use Rattle.diagram.specs.Build.{Grown, Remembered, Restored, Cut}
use Rattle.diagram.specs.Decisions.{at}
use Rattle.diagram.proofs.Building.{lists_self}
use Rattle.line_book.specs.declared.Book.{Book}
use Rattle.line_book.specs.declared.Entry.{Entry}
use Rattle.line_book.specs.declared.Question.{Question}
use Rattle.line_book.specs.Standing.{Standing, nothing}
use Rattle.line_book.specs.Histories.{Step, History, after, standing, Lawful, AllLawful}
use Rattle.line_book.specs.Came.{View, view, room, Stands, Came, Lent}
use Rattle.line_book.specs.Reading.{Right}
use Rattle.line_book.specs.Seen.{seen}
use Rattle.diagram.proofs.Validity.{table_valid}
use Rattle.line_book.proofs.Rights.{came_right}

pub standing_more : (s : Standing) (h : History) (x : Step) → standing s (h ++ (x ∷ [])) ≡ after (standing s h) x
unfolding standing
standing_more s [] x = refl
standing_more s (y ∷ h) x = standing_more (after s y) h x

lawful_more : (r : ℕ) (s : Standing) (h : History) (x : Step) → AllLawful r s h → Lawful r (standing s h) x → AllLawful r s (h ++ (x ∷ []))
unfolding standing AllLawful
lawful_more r s [] x a l = (l, tt)
lawful_more r s (y ∷ h) x a l = (a.0, lawful_more r (after s y) h x a.1 l)

pub came_none : (v : View) → Stands nothing v → Came [] v
unfolding standing AllLawful
came_none v st = record { lawful = tt; stands = st }

pub came_more : (h : History) (x : Step) (v w : View) → length w.nodes ≡ length v.nodes → Came h v →
    Lawful (room v) (standing nothing h) x → Stands (after (standing nothing h) x) w → Came (h ++ (x ∷ [])) w
came_more h x v w size c l st =
    let R : ℕ → Type 0 = λ n. AllLawful (min n 16384) nothing (h ++ (x ∷ [])) in
    let P : Standing → Type 0 = λ s. Stands s w in record {
      lawful = subst R (sym size) (lawful_more (room v) nothing h x c.lawful l);
      stands = subst P (sym (standing_more nothing h x)) st;
    }

-- as many entries and questions stand as the book holds
pub entries_long : (s : Standing) (v : View) → Stands s v → length s.entries ≡ length v.entries
entries_long s v st = AllZip-long _ v.entries s.entries st.entries_are

pub questions_long : (s : Standing) (v : View) → Stands s v → length s.questions ≡ length v.questions
questions_long s v st = AllZip-long _ v.questions s.questions st.questions_are

-- the lists of a table that was not touched, of one that grew, and of one that was cut
pub lent_self : (s : Table) → Lent s s
lent_self s = record { lists = lists_self s; size = refl; beyond = λ k h. refl }

pub remembered_self : (b : Book) → Remembered b.table b.table
remembered_self b = record { valid = table_valid b.table; nodes = refl; used = refl; lists = lists_self b.table }

pub remembered : (s t : Table) → Restored s t → Remembered s t
remembered s t r = record { valid = r.valid; nodes = r.nodes; used = r.used; lists = r.lists }

pub lent_grown : (s t : Table) → Grown s t → Lent s t
lent_grown s t g = record { lists = g.lists; size = g.size; beyond = λ k h. g.beyond k (omega (arith, t.small)) }

pub lent_cut : (s t : Table) (mark : ℕ) → Cut s t mark → Lent s t
lent_cut s t mark c = record { lists = c.lists; size = c.size; beyond = λ k h. c.beyond k (omega (arith, s.small)) }

-- What a call promises of every history that the book came from: the rules name its answer, and the book afterwards came from the longer one.
-- Refused, it also holds what it held.
abbrev pub Promises : Book → Table → List Entry → List Question → Step → (refused : Type 0) → Type 0
Promises b t es qs x p = record {
  lawful : (h : History) → Came h (seen b) → Lawful (room (seen b)) (standing nothing h) x;
  came : (h : History) → Came h (seen b) → Came (h ++ (x ∷ [])) (view t es qs);
  right : (h : History) → Came h (seen b) → Right (standing nothing (h ++ (x ∷ []))) (view t es qs);
  refused : p;
  lent : Lent b.table t;
}

-- a refused one, over the table t
abbrev pub Refuses : Book → Table → Step → Type 0
Refuses b t x = Promises b t (listed b.entries) (listed b.questions) x (view t (listed b.entries) (listed b.questions) ≡ seen b)

module _ (b : Book) (t : Table) where
  same_view : Remembered b.table t → view t (listed b.entries) (listed b.questions) ≡ seen b
  same_view r = λ i. record { nodes = r.nodes i; used = r.used i; entries = listed b.entries; questions = listed b.questions }

  module _ (es : List Entry) (qs : List Question) (x : Step) (lent : Lent b.table t)
      (lawful : (h : History) → Came h (seen b) → Lawful (room (seen b)) (standing nothing h) x)
      (stands : (h : History) → Came h (seen b) → Stands (after (standing nothing h) x) (view t es qs)) where
    longer : (h : History) → Came h (seen b) → Came (h ++ (x ∷ [])) (view t es qs)
    longer h c = came_more h x (seen b) (view t es qs) lent.size c (lawful h c) (stands h c)

    pub changed : (p : Type 0) → p → Promises b t es qs x p
    changed p why = record { lawful = lawful; came = longer; right = λ h c. came_right t es qs (h ++ (x ∷ [])) (longer h c); refused = why; lent = lent }

  -- refused, over a table that differs in its memo at most
  pub refused : (x : Step) → ((s : Standing) → after s x ≡ s) → Remembered b.table t → ((h : History) → Came h (seen b) → Lawful (room (seen b)) (standing nothing h) x) → Refuses b t x
  refused x same r lawful =
      let lent : Lent b.table t = record { lists = r.lists; size = ap length r.nodes; beyond = λ k h. ap (λ ns. at ns k) r.nodes } in
      changed (listed b.entries) (listed b.questions) x lent lawful
      (λ h c. subst (λ (s : Standing). Stands s (view t (listed b.entries) (listed b.questions))) (sym (same (standing nothing h)))
      (subst (Stands (standing nothing h)) (sym (same_view r)) c.stands))
      _ (same_view r)

  -- what the type of a book asks: a history that it came from
  pub carries_same : Remembered b.table t → record { came : ∥ ((h : History) × Came h (view t (listed b.entries) (listed b.questions))) ∥₁ }
  carries_same r = record { came = ∥∥₁_map b.came (λ k. (k.0, subst (Came k.0) (sym (same_view r)) k.1)) }

  pub carries_more : (es : List Entry) (qs : List Question) (x : Step) → ((h : History) → Came h (seen b) → Came (h ++ (x ∷ [])) (view t es qs)) → record { came : ∥ ((h : History) × Came h (view t es qs)) ∥₁ }
  carries_more es qs x came = record { came = ∥∥₁_map b.came (λ k. (k.0 ++ (x ∷ []), came k.0 k.1)) }
