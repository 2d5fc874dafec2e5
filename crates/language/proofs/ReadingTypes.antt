-- Reading a type.
use Rattle.std.proofs.Common.{◌≡◌, ℕ, suc, ◌-◌, ◌<◌, Bool, true, false, cond, eqb, List, [], ◌∷◌, length, get_or, Ok, Err, refl, ap, ◌∙◌, le_of_suc-le-suc, not-suc-le-zero, arith, ne_eqb}
use Rattle.language.specs.declared.fault.ReadFault.TheVariants.{Ends, Unknown}
use Rattle.language.specs.Outcomes.{and_then}
use Rattle.language.specs.Syntax.{Ty, bool, product}
use Rattle.language.specs.Reading.{Front, done, fork, grow, type_front, type_from}
use Rattle.language.proofs.Commands.{after, cut_one}
use Rattle.language.proofs.Results.{clash, ok_same, then_at, then_err}
use Rattle.language.proofs.Trees.{Shortens, tree_grows, tree_short}

pub type_front_short : (w : ℕ) → Shortens (type_front w)
type_front_short w [] x h = absurd (clash refl h)
type_front_short w (b ∷ rest) x h = go (eqb b 0) (eqb b 1) h
  where
    go : (p q : Bool) → cond p (Ok (done bool, rest)) (cond q (Ok (fork product, rest)) (Err (Unknown (w - suc (length rest))))) ≡ Ok x → length x.1 < suc (length rest)
    go true q h = omega (arith, ap length (ap (λ (p : Front Ty × List ℕ). p.1) (ok_same refl h)))
    go false true h = omega (arith, ap length (ap (λ (p : Front Ty × List ℕ). p.1) (ok_same refl h)))
    go false false h = absurd (clash refl h)

pub type_grows : (w : ℕ) (bytes : List ℕ) → type_from w bytes ≡ and_then (type_front w bytes) (λ x. grow (type_from w) x.0 x.1)
type_grows w bytes = tree_grows (type_front w) w refl (type_front_short w) bytes

pub type_short : (w : ℕ) → Shortens (type_from w)
type_short w bytes = tree_short (type_front w) w refl (type_front_short w) (length bytes) bytes

module _ (w : ℕ) (s : List ℕ) where
  -- a byte that begins a type
  pub type_begins : (b : ℕ) (f : Front Ty) → ((rest : List ℕ) → type_front w (b ∷ rest) ≡ Ok (f, rest)) → 0 < length s → get_or s 0 0 ≡ b → type_from w s ≡ grow (type_from w) f (after 1 s)
  type_begins b f gives h e =
      type_grows w s ∙ then_at (λ x. grow (type_from w) x.0 x.1) (ap (type_front w) (cut_one s h ∙ ap (λ (x : ℕ). x ∷ after 1 s) e) ∙ gives (after 1 s))

  pub type_ends : length s < 1 → type_from w s ≡ Err (Ends w)
  type_ends h = go s h
    where
      go : (s : List ℕ) → length s < 1 → type_from w s ≡ Err (Ends w)
      go [] h = type_grows w []
      go (x ∷ xs) h = absurd (not-suc-le-zero (le_of_suc-le-suc h))

  pub type_unknown : 0 < length s → (get_or s 0 0 ≡ 0 → ⊥) → (get_or s 0 0 ≡ 1 → ⊥) → type_from w s ≡ Err (Unknown (w - length s))
  type_unknown h n0 n1 = go s h n0 n1
    where
      go : (s : List ℕ) → 0 < length s → (get_or s 0 0 ≡ 0 → ⊥) → (get_or s 0 0 ≡ 1 → ⊥) → type_from w s ≡ Err (Unknown (w - length s))
      go [] h n0 n1 = absurd (not-suc-le-zero h)
      go (x ∷ xs) h n0 n1 =
          let e : type_front w (x ∷ xs) ≡ Err (Unknown (w - suc (length xs))) = rw (ne_eqb x 0 n0, ne_eqb x 1 n1) in
          type_grows w (x ∷ xs) ∙ then_err _ e
