-- A list of calls with one more.
use Rattle.std.proofs.Common.{◌≡◌, ℕ, zero, suc, ◌+◌, ◌<◌, ◌≤◌, min, List, [], ◌∷◌, ◌++◌, length, get_or, take, set, sym, refl, ap, ◌∙◌, subst, arith}
use Rattle.std.proofs.lemmas.List.{take_more, take_more_set, length-take-le}
use Rattle.diagram.specs.declared.Table.{Table}
use Rattle.diagram.proofs.Building.{lists_on}
use Rattle.line_book.specs.declared.Call.{Call}
use Rattle.line_book.specs.Standing.{nothing}
use Rattle.line_book.specs.Histories.{Reply, step, History, AllLawful}
use Rattle.line_book.specs.Came.{View, Came, Lent}
use Rattle.line_book.specs.Log.{act, told}

told_push : (calls : List Call) (answers : List Reply) (c : Call) (a : Reply) → length calls ≡ length answers →
    told (calls ++ (c ∷ [])) (answers ++ (a ∷ [])) ≡ told calls answers ++ (step (act c) a ∷ [])
unfolding told
told_push [] [] c a e = refl
told_push [] (b ∷ answers) c a e = absurd (omega arith)
told_push (d ∷ calls) [] c a e = absurd (omega arith)
told_push (d ∷ calls) (b ∷ answers) c a e = ap (λ (h : History). step (act d) b ∷ h) (told_push calls answers c a (omega arith))

pub told_more : (calls : List Call) (answers : List Reply) (i : ℕ) (a : Reply) (c : Call) → i < length calls → c ≡ get_or calls i c → i < length answers →
    told (take (i + 1) calls) (take (i + 1) (set answers i a)) ≡ told (take i calls) (take i answers) ++ (step (act c) a ∷ [])
told_more calls answers i a c hc e ha =
    ap (λ (cs : List Call). told cs (take (i + 1) (set answers i a))) (take_more calls i c hc ∙ ap (λ (d : Call). take i calls ++ (d ∷ [])) (sym e)) ∙
    ap (told (take i calls ++ (c ∷ []))) (take_more_set answers i a ha) ∙
    told_push (take i calls) (take i answers) c a (length-take-le i calls (omega arith) ∙ sym (length-take-le i answers (omega arith)))

pub told_none : told [] [] ≡ []
unfolding told
told_none = refl

-- as many calls as both lists have
told_all : (calls : List Call) (answers : List Reply) (i : ℕ) → min (length calls) (length answers) ≤ i → told (take i calls) (take i answers) ≡ told calls answers
unfolding told
told_all [] answers zero h = refl
told_all [] answers (suc i) h = refl
told_all (c ∷ calls) [] zero h = refl
told_all (c ∷ calls) [] (suc i) h = refl
told_all (c ∷ calls) (a ∷ answers) zero h = absurd (omega arith)
told_all (c ∷ calls) (a ∷ answers) (suc i) h = ap (λ (g : History). step (act c) a ∷ g) (told_all calls answers i (omega arith))

-- and so the book came from all of them
module _ (calls : List Call) (answers : List Reply) (i : ℕ) (v : View) (c : Came (told (take i calls) (take i answers)) v) (all : min (length calls) (length answers) ≤ i) where
  pub came_all : Came (told calls answers) v
  came_all = let P : History → Type 0 = λ h. Came h v in subst P (told_all calls answers i all) c

  pub lawful_all : (n : ℕ) → length v.nodes ≡ n → AllLawful (min n 16384) nothing (told calls answers)
  lawful_all n e = let R : ℕ → Type 0 = λ m. AllLawful (min m 16384) nothing (told calls answers) in subst R e came_all.lawful

pub lent_on : (s t u : Table) → Lent s t → Lent t u → Lent s u
lent_on s t u a b = record {
  lists = lists_on s t u a.lists b.lists;
  size = b.size ∙ a.size;
  beyond = λ k h. b.beyond k h ∙ a.beyond k h;
}
