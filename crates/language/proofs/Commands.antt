-- What the patterns of the code take apart.
use Rattle.std.proofs.Common.{◌≡◌, ℕ, ◌-◌, ◌<◌, List, [], ◌∷◌, length, get_or, take, drop, sym, ap, ◌∙◌, not-suc-le-zero, length-drop}
use Rattle.std.proofs.lemmas.List.{take_rest}

-- the bytes after the first n
abbrev pub after : ℕ → List ℕ → List ℕ
after n s = take (length s - n) (drop n s)

pub length_after : (n : ℕ) (s : List ℕ) → length (after n s) ≡ length s - n
length_after n s = ap length (take_rest s n) ∙ length-drop n s

pub cut_one : (s : List ℕ) → 0 < length s → s ≡ get_or s 0 0 ∷ after 1 s
cut_one [] h = absurd (not-suc-le-zero h)
cut_one (x ∷ s) h = ap (λ (r : List ℕ). x ∷ r) (sym (take_rest (x ∷ s) 1))
