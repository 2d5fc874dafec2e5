-- Which programs typing accepts, in terms of the typing rules.
use Rattle.std.specs.Prelude.{◌≡◌, ℕ, true, ◌↔◌, List, is_ok, Ok, Err, Result}
use Rattle.language.specs.declared.fault.TypeFault.{TypeFault}
use Rattle.language.specs.declared.typing.TypedOutline.{TypedOutline}
use Rattle.language.specs.Grammar.{Encodes}
use Rattle.language.specs.Outlines.{Coded, Outlines}
use Rattle.language.specs.Syntax.{Ty, Program}
use Rattle.language.specs.Typing.{WellTyped}

-- what the code keeps of a typed program
pub record OutlinesBoth (o : TypedOutline) (x : Program × Ty) : Type 0 where
  pub outline_is : Outlines o.outline x.0
  pub value_is : Coded o.value x.1

-- typing answers with an outline of the typed program, or with its fault
abbrev pub OutlinesTyped : Result TypedOutline TypeFault → Result (Program × Ty) TypeFault → Type 0
OutlinesTyped (Ok o) out = (x : Program × Ty) × (out ≡ Ok x) × OutlinesBoth o x
OutlinesTyped (Err fault) out = out ≡ Err fault

-- an answer to bytes: accepted exactly where they encode a program that the rules give a type, and then only one
pub record ByRules {A E : Type 0} (bytes : List ℕ) (r : Result A E) : Type 0 where
  pub accepted : (is_ok r ≡ true) ↔ ((p : Program) × (τ : Ty) × Encodes bytes p × WellTyped p τ)
  pub only_one : (p : Program) (σ τ : Ty) → WellTyped p σ → WellTyped p τ → σ ≡ τ
