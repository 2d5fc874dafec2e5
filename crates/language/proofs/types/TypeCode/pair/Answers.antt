use Rattle.std.proofs.Common.{◌≡◌, ℕ, List, [], ◌∷◌, ◌++◌, length, ap, ◌∙◌, arith}
use Rattle.bounded.specs.Listed.{listed}
use Rattle.language.proofs.Encoding.{type_length}
use Rattle.language.proofs.types.TypeCode.pair.Goals as goal

pub returns-then-first-second-gt31 : goal.returns-then-first-second-gt31
returns-then-first-second-gt31 c σ τ h h' =
    omega (arith, ap length c.as_slice-first.ensures.bytes, ap length c.as_slice-second.ensures.bytes, ap length h, ap length h', type_length σ, type_length τ)

-- a byte, and two lists written behind it
written : (a b : List ℕ) {none one front all : List ℕ} {d : ℕ} → none ≡ [] → one ≡ none ++ (d ∷ []) → front ≡ one ++ a → all ≡ front ++ b → all ≡ d ∷ (a ++ b)
written a b {d = d} e push extend extend_more =
    extend_more ∙ ap (λ (x : List ℕ). x ++ b) (extend ∙ ap (λ (x : List ℕ). x ++ a) (push ∙ ap (λ (x : List ℕ). x ++ (d ∷ [])) e))

pub returns : goal.returns
returns c σ τ h h' =
    let p = c.as_slice-first.ensures.bytes ∙ h in
    let q = c.as_slice-second.ensures.bytes ∙ h' in (
      written _ _ c.new-bytes.ensures c.push.ensures (c.extend.ensures ∙ ap (λ (x : List ℕ). listed c.push.new.self ++ x) p) (c.extend-2.ensures ∙ ap (λ (x : List ℕ). listed c.extend.new.self ++ x) q),
      omega (arith, ap length p, ap length q, type_length σ, type_length τ),
    )
