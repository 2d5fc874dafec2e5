-- What checking asks of the types and functions that the code holds.
use Rattle.std.proofs.Common.{◌≡◌, ℕ, zero, suc, ◌+◌, ◌<◌, ◌≤◌, Bool, true, false, not, leb, List, [], ◌∷◌, ◌++◌, length, get_or, nat_eq, Some, None, Ok, Decides, Option as StdOption, sym, refl, ap, ◌∙◌, subst, le_of_suc-le-suc, not-suc-le-zero, le-leb, Bor, arith}
use mathlib.Core.Option.{some, none}
use Rattle.std.specs.Option.{ok_or, option_copied, MatchOption}
use borrow.Author.Tests.{lt-leb}
use Rattle.std.proofs.lemmas.Bool.{eqb-true, eqb-false}
use Rattle.std.proofs.lemmas.List.{length-take}
use Rattle.std.specs.Slice.{IsItemAt}
use Rattle.std.specs.Cmp.Lexicographic.{pointwise}
use Rattle.std.proofs.lemmas.Slice.Eq.{slice_eq-Decides}
use Rattle.std.proofs.lemmas.Bool.Decides.{Decides-eqb}
use Rattle.bounded.specs.declared.Bounded.{Bounded}
use Rattle.bounded.specs.Listed.{listed}
use Rattle.language.specs.declared.types.TypeCode.{TypeCode}
use Rattle.language.specs.declared.outline.FunctionOutline.{FunctionOutline}
use Rattle.language.specs.declared.fault.TypeFault.TheVariants.{OutOfScope, OverLimit}
use Rattle.language.specs.Outlines.{type_bytes, Coded, AllCoded, PairCoded, Types, AllOutlined, Callable, Outlined}
use Rattle.language.specs.Reading.{type_from}
use Rattle.language.specs.Syntax.{Ty, product, leaves, encode_ty, Function, place_after}
use Rattle.language.specs.Typing.{at, or_fault, same_type, need}
use Rattle.language.proofs.Results.{ok_same}
use Rattle.language.proofs.Encoding.{type_complete}
use Rattle.language.proofs.Derivations.{same_refl, same_eq}

-- different types have different bytes
pub type_injective : (σ τ : Ty) → encode_ty σ ≡ encode_ty τ → σ ≡ τ
type_injective σ τ e =
    ap (λ (x : Ty × List ℕ). x.0)
    (ok_same (type_complete 0 σ []) (ap (λ (s : List ℕ). type_from 0 (s ++ [])) e ∙ type_complete 0 τ []))

-- a test that decides whether the bytes are the same decides whether the types are
decided : (t u : TypeCode) (σ τ : Ty) (b : Bool) → Coded t σ → Coded u τ → Decides b (type_bytes t ≡ type_bytes u) → same_type σ τ ≡ b
decided t u σ τ true p q d = subst (λ (x : Ty). same_type σ x ≡ true) (type_injective σ τ (sym p ∙ d.0 refl ∙ q)) (same_refl σ)
decided t u σ τ false p q d = go (same_type σ τ) refl
  where
    go : (b : Bool) → same_type σ τ ≡ b → b ≡ false
    go true e = sym (d.1 (p ∙ ap encode_ty (same_eq σ τ e) ∙ sym q))
    go false e = refl

-- types differ where their bytes do
pub same_coded : (t u : TypeCode) (σ τ : Ty) (b : Bool) → Coded t σ → Coded u τ → b ≡ not (pointwise nat_eq (type_bytes t) (type_bytes u)) → same_type σ τ ≡ not b
same_coded t u σ τ b p q e = decided t u σ τ (not b) p q (slice_eq-Decides Decides-eqb _ _ (not b) (ap not e ∙ not_not (pointwise nat_eq (type_bytes t) (type_bytes u))))
  where
    not_not : (b : Bool) → not (not b) ≡ b
    not_not true = refl
    not_not false = refl

pub scope_length : (ts : List TypeCode) (Γ : List Ty) → AllCoded ts Γ → length ts ≡ length Γ
scope_length [] [] h = refl
scope_length [] (τ ∷ Γ) h = absurd h
scope_length (t ∷ ts) [] h = absurd h
scope_length (t ∷ ts) (τ ∷ Γ) h = ap suc (scope_length ts Γ h.1)

pub scope_at : (ts : List TypeCode) (Γ : List Ty) (k : ℕ) (none : TypeCode) → AllCoded ts Γ → k < length ts → (τ : Ty) × Coded (get_or ts k none) τ × (at Γ k ≡ some τ)
scope_at [] Γ k d h l = absurd (not-suc-le-zero l)
scope_at (t ∷ ts) [] k d h l = absurd h
scope_at (t ∷ ts) (τ ∷ Γ) zero d h l = (τ, h.0, refl)
scope_at (t ∷ ts) (τ ∷ Γ) (suc k) d h l = scope_at ts Γ k d h.1 (le_of_suc-le-suc l)

pub at_past : {A : Type 0} (xs : List A) (k : ℕ) → length xs ≤ k → at xs k ≡ none
at_past [] k h = refl
at_past (x ∷ xs) zero h = absurd (not-suc-le-zero h)
at_past (x ∷ xs) (suc k) h = at_past xs k (le_of_suc-le-suc h)

-- what is found at a number of the scope
pub scope_found : (ts : List TypeCode) (Γ : List Ty) (k place : ℕ) (o : StdOption (Bor TypeCode)) → AllCoded ts Γ → IsItemAt ts k o → Types (ok_or (option_copied o) (OutOfScope place)) (or_fault (OutOfScope place) (at Γ k))
scope_found ts Γ k place None h i = ap (or_fault (OutOfScope place)) (at_past Γ k (omega (arith, i.3, scope_length ts Γ h)))
scope_found ts Γ k place (Some x) h i =
    let s = scope_at ts Γ k x.now h i.3.0 in
    (s.0, subst (λ (t : TypeCode). Coded t s.0) (sym i.1) s.1, ap (or_fault (OutOfScope place)) s.2)

pub scope_more : (ts : List TypeCode) (Γ : List Ty) (t : TypeCode) (τ : Ty) → AllCoded ts Γ → Coded t τ → AllCoded (ts ++ (t ∷ [])) (Γ ++ (τ ∷ []))
scope_more [] [] t τ h c = (c, tt)
scope_more [] (σ ∷ Γ) t τ h c = absurd h
scope_more (s ∷ ts) [] t τ h c = absurd h
scope_more (s ∷ ts) (σ ∷ Γ) t τ h c = (h.0, scope_more ts Γ t τ h.1 c)

-- a scope that is full, and one that is not
pub full_scope : (scope : Bounded TypeCode 32) (Γ : List Ty) → AllCoded (listed scope) Γ → nat_eq (length (listed scope)) 32 ≡ true → 32 ≤ length Γ
full_scope scope Γ h e = omega (arith, scope_length (listed scope) Γ h, eqb-true (length (listed scope)) 32 e)

pub room_in_scope : (scope : Bounded TypeCode 32) (Γ : List Ty) → AllCoded (listed scope) Γ → nat_eq (length (listed scope)) 32 ≡ false → length Γ < 32
room_in_scope scope Γ h e = omega (arith, scope_length (listed scope) Γ h, eqb-false (length (listed scope)) 32 e, length-take scope.count scope.items)

-- a scope of one name
pub one_name : {ts ts' : List TypeCode} (t : TypeCode) (τ : Ty) → ts ≡ [] → ts' ≡ ts ++ (t ∷ []) → Coded t τ → AllCoded ts' (τ ∷ [])
one_name t τ e push c = subst (λ (xs : List TypeCode). AllCoded xs (τ ∷ [])) (sym (push ∙ ap (λ (xs : List TypeCode). xs ++ (t ∷ [])) e)) (c, tt)

-- a list is cut at each of its numbers
pub cut_at : {A : Type 0} (xs : List A) (k : ℕ) → k < length xs → (before : List A) × (x : A) × (following : List A) × (xs ≡ before ++ (x ∷ following)) × (length before ≡ k) × (at xs k ≡ some x)
cut_at [] k h = absurd (not-suc-le-zero h)
cut_at (x ∷ xs) zero h = ([], x, xs, refl, refl, refl)
cut_at (x ∷ xs) (suc k) h = let c = cut_at xs k (le_of_suc-le-suc h) in (x ∷ c.0, c.1, c.2, ap (λ r. x ∷ r) c.3, ap suc c.4, c.5)

-- the outline of the function at a number
pub function_at : (os : List FunctionOutline) (Φ : List Function) (k : ℕ) (none : FunctionOutline) → AllOutlined os Φ → k < length Φ → (before : List Function) × (f : Function) × (at Φ k ≡ some f) × (length before ≡ k) × Outlined (place_after before) (get_or os k none) f
function_at os Φ k d all h =
    let c = cut_at Φ k h in
    (c.0, c.1, c.5, c.4, subst (λ (n : ℕ). Outlined (place_after c.0) (get_or os n d) c.1) c.4 (all c.0 c.1 c.2 d c.3))

-- what is found at a number of the functions that may be called
pub function_found : (os : List FunctionOutline) (Φ : List Function) (k : ℕ) (o : StdOption (Bor FunctionOutline)) → Callable os Φ → IsItemAt os k o → MatchOption o (at Φ k ≡ none) (λ x. (before : List Function) × (f : Function) × (at Φ k ≡ some f) × Outlined (place_after before) x.now f)
function_found os Φ k None (all, n) i = at_past Φ k (omega (arith, i.3))
function_found os Φ k (Some x) (all, n) i =
    let f = function_at os Φ k x.now all (omega (arith, i.3.0)) in
    (f.0, f.1, f.2, subst (λ (y : FunctionOutline). Outlined (place_after f.0) y f.1) (sym i.1) f.4)

-- a pair within the limit
pub pair_typed : (o : StdOption TypeCode) (σ τ : Ty) (p : ℕ) → PairCoded o σ τ → Types (ok_or o (OverLimit p)) (need (leb (leaves σ + leaves τ) 16) (OverLimit p) (Ok (product σ τ)))
pair_typed (Some t) σ τ p h = (product σ τ, h.0, ap (λ (b : Bool). need b (OverLimit p) (Ok (product σ τ))) (le-leb (leaves σ + leaves τ) 16 h.1))
pair_typed None σ τ p h = ap (λ (b : Bool). need b (OverLimit p) (Ok (product σ τ))) (lt-leb (leaves σ + leaves τ) 16 h)
