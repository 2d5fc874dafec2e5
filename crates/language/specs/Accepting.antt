-- Which programs the three layers accept, and with which figures.
use Rattle.std.specs.Prelude.{◌≡◌, ℕ, ◌+◌, ◌<◌, ◌≤◌, true, ◌↔◌, List, length, is_ok, Ok, Err, Result}
use Rattle.language.specs.declared.rest.Rest.{Rest}
use Rattle.language.specs.declared.fault.UnfoldFault.{UnfoldFault}
use Rattle.language.specs.declared.fault.UnfoldFault.TheVariants.{Typing, Size, Flips}
use Rattle.language.specs.declared.unfolding.Figures.{Figures}
use Rattle.language.specs.declared.unfolding.Unfolded.{Unfolded}
use Rattle.language.specs.declared.inspecting.Inspection.{Inspection}
use Rattle.language.specs.Grammar.{Encodes}
use Rattle.language.specs.Syntax.{Ty, leaves, Program}
use Rattle.language.specs.Typing.{WellTyped}
use Rattle.language.specs.TypedPrograms.{OutlinesBoth}
use Rattle.language.specs.Unfolding.{Tree, size, flips, unfolded, typed_of}

-- code adds the figures of a tree to those so far, with what is left of a program of `whole` bytes, or finds more than 4,096 commands
abbrev pub Measures : (end : List ℕ) (whole : ℕ) → Figures → Result (Figures × Rest) UnfoldFault → Tree → Type 0
Measures end whole sofar (Ok x) t = (x.0.size ≡ sofar.size + size t) × (x.0.flips ≡ sofar.flips + flips t) × (x.0.size ≤ 4096) × (x.1.bytes.now ≡ end) × (x.1.whole ≡ whole)
Measures end whole sofar (Err fault) t = (fault ≡ Size) × (4096 < sofar.size + size t)

-- what the code keeps of a program that is accepted
pub record UnfoldsBoth (u : Unfolded) (x : Program × Ty) : Type 0 where
  pub typed_is : OutlinesBoth u.typed x
  pub size_is : u.figures.size ≡ size (unfolded x.0)
  pub flips_is : u.figures.flips ≡ flips (unfolded x.0)

-- unfolding answers with that, or with its fault
abbrev pub Unfolds : Result Unfolded UnfoldFault → Result (Program × Ty) UnfoldFault → Type 0
Unfolds (Ok u) out = (x : Program × Ty) × (out ≡ Ok x) × UnfoldsBoth u x
Unfolds (Err fault) out = out ≡ Err fault

-- the bytes encode this program, which the rules give this type, and which is within all limits
pub record Accepted (bytes : List ℕ) (p : Program) (τ : Ty) : Type 0 where
  pub encoded : Encodes bytes p
  pub well_typed : WellTyped p τ
  pub few_commands : size (unfolded p) ≤ 4096
  pub few_flips : flips (unfolded p) ≤ 128

-- what stands in the table of refusals behind a fault
abbrev pub Refused : (bytes : List ℕ) → UnfoldFault → Type 0
Refused bytes (Typing fault) = typed_of bytes ≡ Err fault
Refused bytes Size = (p : Program) × (τ : Ty) × Encodes bytes p × WellTyped p τ × (4096 < size (unfolded p))
Refused bytes Flips = (p : Program) × (τ : Ty) × Encodes bytes p × WellTyped p τ × (size (unfolded p) ≤ 4096) × (128 < flips (unfolded p))

-- an answer to bytes: accepted exactly where they encode a well-typed program within all limits, else with the refusal of the table
pub record ByAllRules {A : Type 0} (bytes : List ℕ) (r : Result A UnfoldFault) : Type 0 where
  pub accepted : (is_ok r ≡ true) ↔ ((p : Program) × (τ : Ty) × Accepted bytes p τ)
  pub refused : (fault : UnfoldFault) → r ≡ Err fault → Refused bytes fault

-- the figures of a program
pub record FiguresOf (i : Inspection) (p : Program) (τ : Ty) : Type 0 where
  pub functions_are : i.functions ≡ length p.functions
  pub size_is : i.size ≡ size (unfolded p)
  pub flips_are : i.flips ≡ flips (unfolded p)
  pub leaves_are : i.leaves ≡ leaves τ

-- an inspection: the figures of the only program that the bytes encode, or the fault of the first layer that refuses
abbrev pub Inspects : Result Inspection UnfoldFault → Result (Program × Ty) UnfoldFault → Type 0
Inspects (Ok i) out = (x : Program × Ty) × (out ≡ Ok x) × FiguresOf i x.0 x.1
Inspects (Err fault) out = out ≡ Err fault
