-- Reading prefix codes: the depth that is allowed makes no difference.
use Rattle.std.proofs.Common.{◌≡◌, ℕ, zero, suc, ◌<◌, ◌≤◌, List, [], ◌∷◌, length, Ok, Err, sym, refl, ap, ◌∙◌, arith}
use Rattle.language.specs.declared.fault.ReadFault.{ReadFault}
use Rattle.language.specs.declared.fault.ReadFault.TheVariants.{Ends}
use Rattle.language.specs.Outcomes.{and_then}
use Rattle.language.specs.Reading.{Read, Front, done, fork, grow, tree_from}
use Rattle.language.proofs.Results.{clash, ok_same, then_same, then_ok, then_at, then_err}

-- what is read takes at least a byte
abbrev pub Shortens : {T : Type 0} → (List ℕ → Read T) → Type 0
Shortens {T} part = (bytes : List ℕ) (x : T × List ℕ) → part bytes ≡ Ok x → length x.1 < length bytes

pub grow_short : {T : Type 0} (part : List ℕ → Read T) → Shortens part → (f : Front T) (rest : List ℕ) (y : T × List ℕ) → grow part f rest ≡ Ok y → length y.1 ≤ length rest
grow_short part short (done t) rest y h = let e : (t, rest) ≡ y = ok_same refl h in let k : rest ≡ y.1 = ap (λ p. p.1) e in omega (arith, ap length k)
grow_short {T} part short (fork make) rest y h =
    let a = then_ok (part rest) (λ x. and_then (part x.1) (λ z. Ok (make x.0 z.0, z.1))) h in
    let b = then_ok (part a.0.1) (λ z. Ok (make a.0.0 z.0, z.1)) a.2 in
    let e : (make a.0.0 b.0.0, b.0.1) ≡ y = ok_same refl b.2 in
    let k : b.0.1 ≡ y.1 = ap (λ p. p.1) e in
    omega (arith, ap length k, short rest a.0 a.1, short a.0.1 b.0 b.1)

grow_same : {T : Type 0} (p q : List ℕ → Read T) (n : ℕ) → ((bytes : List ℕ) → length bytes ≤ n → p bytes ≡ q bytes) → Shortens p → (f : Front T) (rest : List ℕ) → length rest ≤ n → grow p f rest ≡ grow q f rest
grow_same p q n same short (done t) rest h = refl
grow_same {T} p q n same short (fork make) rest h =
    then_same (p rest) _ _ (λ x e. let s = short rest x e in ap (λ r. and_then r (λ (z : T × List ℕ). Ok (make x.0 z.0, z.1))) (same x.1 (omega arith)))
    ∙ ap (λ r. and_then r (λ (x : T × List ℕ). and_then (q x.1) (λ z. Ok (make x.0 z.0, z.1)))) (same rest h)

module _ {T : Type 0} (front : List ℕ → Read (Front T)) (w : ℕ) (at_end : front [] ≡ Err (Ends w)) (front_short : Shortens front) where
  pub tree_short : (depth : ℕ) → Shortens (tree_from front w depth)
  unfolding tree_from
  tree_short zero bytes y h = absurd (clash refl h)
  tree_short (suc depth) bytes y h =
      let a = then_ok (front bytes) (λ x. grow (tree_from front w depth) x.0 x.1) h in
      let k = grow_short (tree_from front w depth) (tree_short depth) a.0.0 a.0.1 y a.2 in
      omega (arith, front_short bytes a.0 a.1)

  enough : (d d' : ℕ) (bytes : List ℕ) → length bytes ≤ d → length bytes ≤ d' → tree_from front w d bytes ≡ tree_from front w d' bytes
  unfolding tree_from
  enough zero zero bytes h h' = refl
  enough zero (suc d') [] h h' = sym (then_err (λ x. grow (tree_from front w d') x.0 x.1) at_end)
  enough zero (suc d') (b ∷ bytes) h h' = absurd (let z : suc (length bytes) ≤ 0 = h in omega arith)
  enough (suc d) zero [] h h' = then_err (λ x. grow (tree_from front w d) x.0 x.1) at_end
  enough (suc d) zero (b ∷ bytes) h h' = absurd (let z : suc (length bytes) ≤ 0 = h' in omega arith)
  enough (suc d) (suc d') bytes h h' =
      then_same (front bytes) _ _ (λ x e. let s = front_short bytes x e in
      grow_same (tree_from front w d) (tree_from front w d') (length x.1) (λ b k. enough d d' b (omega arith) (omega arith)) (tree_short d) x.0 x.1 (omega arith))

  -- with the depth out of sight: a front, and what it asks for
  pub tree_grows : (bytes : List ℕ) → tree_from front w (length bytes) bytes ≡ and_then (front bytes) (λ x. grow (λ rest. tree_from front w (length rest) rest) x.0 x.1)
  unfolding tree_from
  tree_grows bytes =
      enough (length bytes) (suc (length bytes)) bytes (omega arith) (omega arith)
      ∙ then_same (front bytes) _ _ (λ x e. let s = front_short bytes x e in
      grow_same (tree_from front w (length bytes)) (λ rest. tree_from front w (length rest) rest) (length x.1) (λ b k. enough (length bytes) (length b) b (omega arith) (omega arith)) (tree_short (length bytes)) x.0 x.1 (omega arith))

-- a fork's two parts: the first fault of either, or both
module _ {T : Type 0} (part : List ℕ → Read T) (make : T → T → T) (rest : List ℕ) where
  pub fork_first : {fault : ReadFault} → part rest ≡ Err fault → grow part (fork make) rest ≡ Err fault
  fork_first e = then_err _ e

  pub fork_second : {x : T × List ℕ} {fault : ReadFault} → part rest ≡ Ok x → part x.1 ≡ Err fault → grow part (fork make) rest ≡ Err fault
  fork_second {x} e e' = then_at (λ x. and_then (part x.1) (λ z. Ok (make x.0 z.0, z.1))) e ∙ then_err _ e'

  pub fork_both : {x y : T × List ℕ} → part rest ≡ Ok x → part x.1 ≡ Ok y → grow part (fork make) rest ≡ Ok (make x.0 y.0, y.1)
  fork_both {x} e e' = then_at (λ x. and_then (part x.1) (λ z. Ok (make x.0 z.0, z.1))) e ∙ then_at (λ z. Ok (make x.0 z.0, z.1)) e'
