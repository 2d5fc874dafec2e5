-- Typing a program's bytes: what is accepted is what the rules derive.
use Rattle.std.proofs.Common.{◌≡◌, ℕ, ◌≤◌, true, ◌↔◌, List, [], length, is_ok, IsErrAnd, IfOk, Ok, Err, Result, sym, refl, ap, ◌∙◌, subst}
use Rattle.std.proofs.lemmas.Bool.{false≢true}
use Rattle.language.specs.declared.fault.ReadFault.{ReadFault}
use Rattle.language.specs.declared.fault.TypeFault.{TypeFault}
use Rattle.language.specs.declared.fault.TypeFault.TheVariants.{Reading}
use Rattle.language.specs.declared.typing.TypedOutline.{TypedOutline}
use Rattle.language.specs.Grammar.{Encodes}
use Rattle.language.specs.Outcomes.{and_then}
use Rattle.language.specs.Syntax.{Ty, Program, place_after}
use Rattle.language.specs.Reading.{tree_of}
use Rattle.language.specs.Typing.{WellTyped, check, checked_bodies, checked_program}
use Rattle.language.specs.TypedPrograms.{OutlinesTyped, ByRules}
use Rattle.language.specs.Unfolding.{from_reading, typed_of}
use Rattle.language.proofs.Results.{clash, ok_same, then_at, then_err, then_ok}
use Rattle.language.proofs.ReadingPrograms.{encoded_short, reading_exact}
use Rattle.language.proofs.Derivations.{program_sound, program_complete}

from_reading_ok : {A : Type 0} (r : Result A ReadFault) {x : A} → from_reading r ≡ Ok x → r ≡ Ok x
from_reading_ok (Ok y) h = ap Ok (ok_same refl h)
from_reading_ok (Err fault) h = absurd (clash refl h)

pub typed_fault : (bytes : List ℕ) {fault : ReadFault} → tree_of bytes ≡ Err fault → typed_of bytes ≡ Err (Reading fault)
typed_fault bytes e = then_err _ (ap from_reading e)

-- after reading
pub typed_program : (bytes : List ℕ) {p : Program} → tree_of bytes ≡ Ok p → typed_of bytes ≡ and_then (checked_program p) (λ τ. Ok (p, τ))
typed_program bytes e = then_at (λ p. and_then (checked_program p) (λ τ. Ok (p, τ))) (ap from_reading e)

pub typed_parts : (bytes : List ℕ) (x : Program × Ty) → typed_of bytes ≡ Ok x → (tree_of bytes ≡ Ok x.0) × (checked_program x.0 ≡ Ok x.1)
typed_parts bytes x h =
    let a = then_ok (from_reading (tree_of bytes)) (λ p. and_then (checked_program p) (λ τ. Ok (p, τ))) h in
    let b = then_ok (checked_program a.0) (λ τ. Ok (a.0, τ)) a.2 in
    let e = ok_same refl b.2 in
    subst (λ (y : Program × Ty). (tree_of bytes ≡ Ok y.0) × (checked_program y.0 ≡ Ok y.1)) e (from_reading_ok (tree_of bytes) a.1, b.1)

pub typed_sound : (bytes : List ℕ) (x : Program × Ty) → typed_of bytes ≡ Ok x → Encodes bytes x.0 × WellTyped x.0 x.1
typed_sound bytes x h = let k = typed_parts bytes x h in ((reading_exact bytes x.0).0 k.0, program_sound x.0 x.1 k.1)

pub typed_complete : (bytes : List ℕ) (p : Program) (τ : Ty) → Encodes bytes p → WellTyped p τ → typed_of bytes ≡ Ok (p, τ)
typed_complete bytes p τ enc w = typed_program bytes ((reading_exact bytes p).1 enc) ∙ then_at (λ υ. Ok (p, υ)) (program_complete p τ w)

-- the functions, then main
pub bodies_fault : (p : Program) {fault : TypeFault} → checked_bodies [] p.functions ≡ Err fault → checked_program p ≡ Err fault
bodies_fault p e = then_err _ e

pub bodies_ok : (p : Program) → checked_bodies [] p.functions ≡ Ok tt → checked_program p ≡ check p.functions [] (place_after p.functions) p.main
bodies_ok p e = then_at (λ _. check p.functions [] (place_after p.functions) p.main) e

pub broke_typed : {out : Result (Program × Ty) TypeFault} (r : Result TypedOutline TypeFault) {F : Type 0} (wrap : F → TypeFault) (e : F) → IsErrAnd r (λ y. y ≡ wrap e) → out ≡ Err (wrap e) → OutlinesTyped r out
broke_typed (Ok o) wrap e h q = absurd h
broke_typed (Err fault) wrap e h q = q ∙ ap Err (sym h)

by_rules : {A E : Type 0} (bytes : List ℕ) (r : Result A E) → ((is_ok r ≡ true) ↔ ((x : Program × Ty) × (typed_of bytes ≡ Ok x))) → ByRules bytes r
by_rules bytes r h = record {
  accepted = (
    λ k. let x = h.0 k in let s = typed_sound bytes x.0 x.1 in (x.0.0, x.0.1, s.0, s.1),
    λ x. h.1 ((x.0, x.1), typed_complete bytes x.0 x.1 x.2 x.3),
  );
  only_one = λ p σ τ d d'. ok_same (program_complete p σ d) (program_complete p τ d');
}

-- the clauses of typing
abbrev pub TypesWell : (bytes : List ℕ) → Result TypedOutline TypeFault → Type 0
TypesWell bytes r = record { exact : OutlinesTyped r (typed_of bytes); derived : ByRules bytes r; within : IfOk r (λ _. length bytes ≤ 4096) }

pub types_well : (bytes : List ℕ) (r : Result TypedOutline TypeFault) → OutlinesTyped r (typed_of bytes) → TypesWell bytes r
types_well bytes (Ok o) h = record { exact = h; derived = by_rules bytes (Ok o) (λ _. (h.0, h.1), λ _. refl); within = encoded_short (typed_sound bytes h.0 h.1).0 }
types_well bytes (Err fault) h = record { exact = h; derived = by_rules bytes (Err fault) (λ e. absurd (false≢true e), λ x. absurd (clash h x.1)); within = tt }
