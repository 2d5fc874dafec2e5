-- What the three layers accept, and what they refuse.
use Rattle.std.proofs.Common.{◌≡◌, ℕ, ◌<◌, ◌≤◌, Bool, true, false, cond, leb, ◌↔◌, List, length, is_ok, IsErrAnd, IfOk, Ok, Err, Result, sym, refl, ap, ◌∙◌, subst, le-leb, leb-true}
use borrow.Author.Tests.{lt-leb}
use Rattle.std.proofs.lemmas.Bool.{false≢true, leb-false}
use Rattle.language.specs.declared.fault.TypeFault.{TypeFault}
use Rattle.language.specs.declared.fault.UnfoldFault.{UnfoldFault}
use Rattle.language.specs.declared.fault.UnfoldFault.TheVariants.{Size, Flips}
use Rattle.language.specs.declared.unfolding.Unfolded.{Unfolded}
use Rattle.language.specs.Accepting.{Accepted, Refused, ByAllRules, Unfolds}
use Rattle.language.specs.Outcomes.{and_then}
use Rattle.language.specs.Syntax.{Ty, Program}
use Rattle.language.specs.Unfolding.{size, flips, unfolded, from_typing, typed_of, limited, accepted_of}
use Rattle.language.proofs.Results.{clash, ok_same, then_at}
use Rattle.language.proofs.ReadingPrograms.{encoded_short}
use Rattle.language.proofs.TypedBytes.{typed_sound, typed_complete}

pub accepted_typed : (bytes : List ℕ) {x : Program × Ty} → typed_of bytes ≡ Ok x → accepted_of bytes ≡ limited x
accepted_typed bytes e = then_at limited (ap from_typing e)

module _ (x : Program × Ty) where
  pub too_large : 4096 < size (unfolded x.0) → limited x ≡ Err Size
  too_large h = ap (λ (b : Bool). cond b (cond (leb (flips (unfolded x.0)) 128) (Ok x) (Err Flips)) (Err Size)) (lt-leb (size (unfolded x.0)) 4096 h)

  few_commands : size (unfolded x.0) ≤ 4096 → limited x ≡ cond (leb (flips (unfolded x.0)) 128) (Ok x) (Err Flips)
  few_commands h = ap (λ (b : Bool). cond b (cond (leb (flips (unfolded x.0)) 128) (Ok x) (Err Flips)) (Err Size)) (le-leb (size (unfolded x.0)) 4096 h)

  pub too_many_flips : size (unfolded x.0) ≤ 4096 → 128 < flips (unfolded x.0) → limited x ≡ Err Flips
  too_many_flips h k = few_commands h ∙ ap (λ (b : Bool). cond b (Ok x) (Err Flips)) (lt-leb (flips (unfolded x.0)) 128 k)

  pub within_limits : size (unfolded x.0) ≤ 4096 → flips (unfolded x.0) ≤ 128 → limited x ≡ Ok x
  within_limits h k = few_commands h ∙ ap (λ (b : Bool). cond b (Ok x) (Err Flips)) (le-leb (flips (unfolded x.0)) 128 k)

pub accepted_sound : (bytes : List ℕ) (y : Program × Ty) → accepted_of bytes ≡ Ok y → Accepted bytes y.0 y.1
accepted_sound bytes y h = go (typed_of bytes) refl h
  where
    limits : (x : Program × Ty) (a b : Bool) → leb (size (unfolded x.0)) 4096 ≡ a → leb (flips (unfolded x.0)) 128 ≡ b → typed_of bytes ≡ Ok x → cond a (cond b (Ok x) (Err Flips)) (Err Size) ≡ Ok y → Accepted bytes y.0 y.1
    limits x true true e e' t k =
        let s = typed_sound bytes x t in
        subst (λ (z : Program × Ty). Accepted bytes z.0 z.1) (ok_same refl k)
        (record { encoded = s.0; well_typed = s.1; few_commands = leb-true (size (unfolded x.0)) 4096 e; few_flips = leb-true (flips (unfolded x.0)) 128 e' })
    limits x true false e e' t k = absurd (clash refl k)
    limits x false b e e' t k = absurd (clash refl k)

    go : (r : Result (Program × Ty) TypeFault) → typed_of bytes ≡ r → and_then (from_typing r) limited ≡ Ok y → Accepted bytes y.0 y.1
    go (Ok x) e k = limits x (leb (size (unfolded x.0)) 4096) (leb (flips (unfolded x.0)) 128) refl refl e k
    go (Err fault) e k = absurd (clash refl k)

pub accepted_complete : (bytes : List ℕ) (p : Program) (τ : Ty) → Accepted bytes p τ → accepted_of bytes ≡ Ok (p, τ)
accepted_complete bytes p τ a = accepted_typed bytes (typed_complete bytes p τ a.encoded a.well_typed) ∙ within_limits (p, τ) a.few_commands a.few_flips

err_same : {A : Type 0} {e f : UnfoldFault} {r : Result A UnfoldFault} → r ≡ Err e → r ≡ Err f → e ≡ f
err_same p q = cc

pub refused_from : (bytes : List ℕ) (fault : UnfoldFault) → accepted_of bytes ≡ Err fault → Refused bytes fault
refused_from bytes fault h = go (typed_of bytes) refl h
  where
    limits : (x : Program × Ty) (a b : Bool) → leb (size (unfolded x.0)) 4096 ≡ a → leb (flips (unfolded x.0)) 128 ≡ b → typed_of bytes ≡ Ok x → cond a (cond b (Ok x) (Err Flips)) (Err Size) ≡ Err fault → Refused bytes fault
    limits x true true e e' t k = absurd (clash k refl)
    limits x true false e e' t k =
        let s = typed_sound bytes x t in
        subst (Refused bytes) (err_same {A = Program × Ty} refl k) (x.0, x.1, s.0, s.1, leb-true (size (unfolded x.0)) 4096 e, leb-false (flips (unfolded x.0)) 128 e')
    limits x false b e e' t k =
        let s = typed_sound bytes x t in
        subst (Refused bytes) (err_same {A = Program × Ty} refl k) (x.0, x.1, s.0, s.1, leb-false (size (unfolded x.0)) 4096 e)

    go : (r : Result (Program × Ty) TypeFault) → typed_of bytes ≡ r → and_then (from_typing r) limited ≡ Err fault → Refused bytes fault
    go (Ok x) e k = limits x (leb (size (unfolded x.0)) 4096) (leb (flips (unfolded x.0)) 128) refl refl e k
    go (Err f) e k = subst (Refused bytes) (err_same {A = Program × Ty} refl k) e

by_all_rules : {A : Type 0} (bytes : List ℕ) (r : Result A UnfoldFault) → ((is_ok r ≡ true) ↔ ((x : Program × Ty) × (accepted_of bytes ≡ Ok x))) → ((fault : UnfoldFault) → r ≡ Err fault → accepted_of bytes ≡ Err fault) → ByAllRules bytes r
by_all_rules bytes r h k = record {
  accepted = (
    λ e. let x = h.0 e in (x.0.0, x.0.1, accepted_sound bytes x.0 x.1),
    λ x. h.1 ((x.0, x.1), accepted_complete bytes x.0 x.1 x.2),
  );
  refused = λ fault e. refused_from bytes fault (k fault e);
}

pub ok_by_rules : {A : Type 0} (bytes : List ℕ) (y : A) (x : Program × Ty) → accepted_of bytes ≡ Ok x → ByAllRules bytes (Ok y)
ok_by_rules bytes y x e = by_all_rules bytes (Ok y) (λ _. (x, e), λ _. refl) (λ fault h. absurd (clash h refl))

pub err_by_rules : {A : Type 0} (bytes : List ℕ) (fault : UnfoldFault) → accepted_of bytes ≡ Err fault → ByAllRules {A = A} bytes (Err fault)
err_by_rules {A} bytes fault e =
    by_all_rules {A = A} bytes (Err fault) (λ h. absurd (false≢true h), λ x. absurd (clash e x.1))
    (λ f h. e ∙ ap Err (err_same {A = A} refl h))

-- the clauses of unfolding
abbrev pub UnfoldsWell : (bytes : List ℕ) → Result Unfolded UnfoldFault → Type 0
UnfoldsWell bytes r = record { exact : Unfolds r (accepted_of bytes); rules : ByAllRules bytes r; within : IfOk r (λ _. length bytes ≤ 4096) }

pub unfolds_well : (bytes : List ℕ) (r : Result Unfolded UnfoldFault) → Unfolds r (accepted_of bytes) → UnfoldsWell bytes r
unfolds_well bytes (Ok u) h = record { exact = h; rules = ok_by_rules bytes u h.0 h.1; within = encoded_short (accepted_sound bytes h.0 h.1).encoded }
unfolds_well bytes (Err fault) h = record { exact = h; rules = err_by_rules bytes fault h; within = tt }

pub broke_unfolding : {out : Result (Program × Ty) UnfoldFault} (r : Result Unfolded UnfoldFault) (e : UnfoldFault) → IsErrAnd r (λ y. y ≡ e) → out ≡ Err e → Unfolds r out
broke_unfolding (Ok u) e h q = absurd h
broke_unfolding (Err fault) e h q = q ∙ ap Err (sym h)
