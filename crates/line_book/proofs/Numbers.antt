-- Elements by their numbers.
use Rattle.std.proofs.Common.{◌≡◌, ℕ, zero, suc, ◌<◌, ◌≤◌, ◌==◌, true, false, List, [], ◌∷◌, ◌++◌, length, get_or, Some, None, Ok, Err, Option, Result, ok_or, slice_get, refl, subst, ⊎_elim, arith, length-take}
use Rattle.std.proofs.lemmas.Option.{slice_get_cases}
use Rattle.std.proofs.lemmas.List.Elements.{All-head, All-tail}
use Rattle.std.specs.List.{All, AllZip}
use Rattle.bounded.specs.declared.Bounded.{Bounded}
use Rattle.bounded.specs.Listed.{listed}

module _ {A : Type 0} where
  pub one_number : {o : Option A} {x y : A} → o ≡ Some x → o ≡ Some y → x ≡ y
  one_number e d = cc

  pub not_both : {o : Option A} {x : A} → o ≡ Some x → o ≡ None → ⊥
  not_both e n = cc

  -- one element more: the old ones keep their numbers, and the new one has the next
  pub number_kept : (xs : List A) (y : A) (k : ℕ) (x : A) → slice_get xs k ≡ Some x → slice_get (xs ++ (y ∷ [])) k ≡ Some x
  number_kept [] y k x e = cc
  number_kept (z ∷ xs) y zero x e = e
  number_kept (z ∷ xs) y (suc k) x e = number_kept xs y k x e

-- lists that agree place by place
module _ {A B : Type 0} (Q : B → A → Type 0) where
  pub each_more : (ys : List B) (xs : List A) (y : B) (x : A) → AllZip Q ys xs → Q y x → AllZip Q (ys ++ (y ∷ [])) (xs ++ (x ∷ []))
  each_more [] [] y x a h = (h, tt)
  each_more [] (z ∷ xs) y x a h = absurd a
  each_more (z ∷ ys) [] y x a h = absurd a
  each_more (z ∷ ys) (w ∷ xs) y x a h = (a.0, each_more ys xs y x a.1 h)

  pub each_with : (P : A → Type 0) (R : B → A → Type 0) → ((y : B) (x : A) → Q y x → P x → R y x) → (ys : List B) (xs : List A) → AllZip Q ys xs → All P xs → AllZip R ys xs
  each_with P R f [] [] a h = tt
  each_with P R f [] (x ∷ xs) a h = absurd a
  each_with P R f (y ∷ ys) [] a h = absurd a
  each_with P R f (y ∷ ys) (x ∷ xs) a h = (f y x a.0 (All-head P x xs h), each_with P R f ys xs a.1 (All-tail P x xs h))

  pub each_weaker : (R : B → A → Type 0) → ((y : B) (x : A) → Q y x → R y x) → (ys : List B) (xs : List A) → AllZip Q ys xs → AllZip R ys xs
  each_weaker R f ys xs a = each_with (λ x. Unit {0}) R (λ y x q u. f y x q) ys xs a (λ k d l. tt)

  -- the partner of an element
  pub on_right : (ys : List B) (xs : List A) (k : ℕ) (y : B) → AllZip Q ys xs → slice_get ys k ≡ Some y → (x : A) × (slice_get xs k ≡ Some x) × Q y x
  on_right [] xs k y a e = cc
  on_right (z ∷ ys) [] k y a e = absurd a
  on_right (z ∷ ys) (x ∷ xs) zero y a e = let same : z ≡ y = cc in (x, refl, subst (λ (v : B). Q v x) same a.0)
  on_right (z ∷ ys) (x ∷ xs) (suc k) y a e = on_right ys xs k y a.1 e

  pub on_left : (ys : List B) (xs : List A) (k : ℕ) (x : A) → AllZip Q ys xs → slice_get xs k ≡ Some x → (y : B) × (slice_get ys k ≡ Some y) × Q y x
  on_left ys [] k x a e = cc
  on_left [] (z ∷ xs) k x a e = absurd a
  on_left (y ∷ ys) (z ∷ xs) zero x a e = let same : z ≡ x = cc in (y, refl, subst (λ (v : A). Q y v) same a.0)
  on_left (y ∷ ys) (z ∷ xs) (suc k) x a e = on_left ys xs k x a.1 e

-- an element looked up by its number, which is there or not
module _ {A E : Type 0} where
  pub at_ok : (o : Option A) (f : E) (x : A) → ◌≡◌ {A = Result A E} (Ok x) (ok_or o f) → o ≡ Some x
  at_ok None f x e = cc
  at_ok (Some y) f x e = cc

  at_err : (o : Option A) (f e : E) → ◌≡◌ {A = Result A E} (Err e) (ok_or o f) → (o ≡ None) × (e ≡ f)
  at_err None f e h = (refl, cc)
  at_err (Some y) f e h = cc

  module _ (xs : List A) (k : ℕ) (f : E) where
    pub missed : (e : E) → ◌≡◌ {A = Result A E} (Err e) (ok_or (slice_get xs k) f) → (length xs ≤ k) × (e ≡ f)
    missed e h =
        let s = at_err (slice_get xs k) f e h in
        (⊎_elim (λ (z : (x : A) × (k < length xs) × (slice_get xs k ≡ Some x) × (get_or xs k x ≡ x)). absurd (not_both z.2 s.0)) (λ (z : (length xs ≤ k) × (slice_get xs k ≡ None)). z.0) (slice_get_cases xs k).1, s.1)

-- a list with no room for one more, and one with room
module _ {T : Type 0} {N : ℕ} (b : Bounded T N) where
  pub full : true ≡ (length (listed b) == N) → N ≤ length (listed b)
  full e = grind arith

  pub below_full : false ≡ (length (listed b) == N) → length (listed b) < N
  below_full e = let most = length-take b.count b.items in let fits = b.fits in grind arith
