-- Reading functions one after the other.
use Rattle.std.proofs.Common.{◌≡◌, ℕ, suc, ◌<◌, ◌⊎◌, List, [], ◌∷◌, ◌++◌, length, get_or, Ok, Err, sym, refl, ap, ◌∙◌, subst, inl, inr, append_assoc, append-nil, arith, length-append}
use Rattle.std.proofs.Math.ListN.{get_or-append}
use Rattle.std.proofs.lemmas.List.{get_or_push, length_push}
use Rattle.language.specs.declared.fault.ReadFault.{ReadFault}
use Rattle.language.specs.declared.outline.FunctionOutline.{FunctionOutline}
use Rattle.language.specs.Outcomes.{and_then}
use Rattle.language.specs.Outlines.{Outlined, Callable}
use Rattle.language.specs.Syntax.{Function, encode_function, encode_functions, place_after}
use Rattle.language.specs.Reading.{Read, function_from, functions_from}
use Rattle.language.proofs.Results.{then_at, then_err}

pub encode_functions_append : (fs gs : List Function) → encode_functions (fs ++ gs) ≡ encode_functions fs ++ encode_functions gs
encode_functions_append [] gs = refl
encode_functions_append (f ∷ fs) gs = ap (λ (x : List ℕ). encode_function f ++ x) (encode_functions_append fs gs) ∙ sym (append_assoc (encode_function f) (encode_functions fs) (encode_functions gs))

-- functions that were read, put behind those before
abbrev onto : List Function → List Function × List ℕ → Read (List Function)
onto fs x = Ok (fs ++ x.0, x.1)

-- the functions so far, and then those that are still to be read
abbrev pub to_come : (w : ℕ) → List Function → (count : ℕ) → List ℕ → Read (List Function)
to_come w fs count rest = and_then (functions_from w count rest) (onto fs)

pub to_come_first : (w count : ℕ) (bytes : List ℕ) → functions_from w count bytes ≡ to_come w [] count bytes
to_come_first w count bytes = go (functions_from w count bytes)
  where
    go : (r : Read (List Function)) → r ≡ and_then r (onto [])
    go (Ok x) = refl
    go (Err fault) = refl

pub to_come_more : (w count : ℕ) (rest rest' : List ℕ) (f : Function) (fs : List Function) → function_from w rest ≡ Ok (f, rest') → to_come w fs (suc count) rest ≡ to_come w (fs ++ (f ∷ [])) count rest'
unfolding functions_from
to_come_more w count rest rest' f fs e =
    ap (λ (r : Read (List Function)). and_then r (onto fs)) (then_at (λ x. and_then (functions_from w count x.1) (onto (x.0 ∷ []))) e)
    ∙ go (functions_from w count rest')
  where
    go : (r : Read (List Function)) → and_then (and_then r (onto (f ∷ []))) (onto fs) ≡ and_then r (onto (fs ++ (f ∷ [])))
    go (Ok (gs, end)) = ap (λ (l : List Function). Ok (l, end)) (sym (append_assoc fs (f ∷ []) gs))
    go (Err fault) = refl

pub to_come_fault : (w count : ℕ) (rest : List ℕ) (fs : List Function) {fault : ReadFault} → function_from w rest ≡ Err fault → to_come w fs (suc count) rest ≡ Err fault
unfolding functions_from
to_come_fault w count rest fs e = then_err _ (then_err _ e)

pub to_come_none : (w : ℕ) (rest : List ℕ) (fs : List Function) → to_come w fs 0 rest ≡ Ok (fs, rest)
unfolding functions_from
to_come_none w rest fs = ap (λ (l : List Function). Ok (l, rest)) (append-nil fs)

-- where a list that ends in f is cut: at f, or before it
pub cut_last : {A : Type 0} (fs : List A) (f : A) (before : List A) (g : A) (following : List A) → fs ++ (f ∷ []) ≡ before ++ (g ∷ following) → ((before ≡ fs) × (g ≡ f)) ⊎ ((earlier : List A) × (fs ≡ before ++ (g ∷ earlier)))
cut_last [] f [] g following e = inl (refl, cc)
cut_last [] f (b ∷ before) g following e = absurd (omega (arith, ap length e, length-append before (g ∷ following)))
cut_last (x ∷ fs) f [] g following e = inr (fs, cc)
cut_last (x ∷ fs) f (b ∷ before) g following e =
    let t : fs ++ (f ∷ []) ≡ before ++ (g ∷ following) = cc in
    let h : x ≡ b = cc in
    elim (cut_last fs f before g following t) [
      | inl p ↦ inl (cc (p.0, h), p.1)
      | inr p ↦ inr (p.0, cc (p.1, h))
    ]

-- one function more
pub outlined_more : (os : List FunctionOutline) (fs : List Function) (o : FunctionOutline) (f : Function) → Callable os fs → Outlined (place_after fs) o f → Callable (os ++ (o ∷ [])) (fs ++ (f ∷ []))
outlined_more os fs o f (all, n) one = (
  λ before g following none e.
      elim (cut_last fs f before g following e) [
        | inl p ↦
            let at : get_or (os ++ (o ∷ [])) (length before) none ≡ o = get_or_push os o none (length before) (sym n ∙ ap length (sym p.0)) in
            subst (λ (b : List Function). Outlined (place_after b) (get_or (os ++ (o ∷ [])) (length before) none) g) (sym p.0)
            (subst (λ (x : FunctionOutline). Outlined (place_after fs) x g) (sym at) (subst (λ (x : Function). Outlined (place_after fs) o x) (sym p.1) one))
        | inr p ↦
            let k : length before < length os = omega (arith, n, ap length p.1, length-append before (g ∷ p.0)) in
            subst (λ (x : FunctionOutline). Outlined (place_after before) x g) (sym (get_or-append os (o ∷ []) none (length before) k)) (all before g p.0 none p.1)
      ],
  omega (arith, n, length_push os o, length_push fs f),
)

-- none of no functions
pub no_functions_outlined : {os : List FunctionOutline} → os ≡ [] → Callable os []
no_functions_outlined e = (λ before g following none h. absurd (omega (arith, ap length h, length-append before (g ∷ following))), sym (ap length e))
