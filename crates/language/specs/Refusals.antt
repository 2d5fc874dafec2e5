-- The table of refusals of the three layers: each fault's number, layer and place.
use Rattle.std.specs.Prelude.{ℕ, List, ◌++◌, codes}
use Rattle.std.specs.Fmt.{decimal}
use Rattle.language.specs.declared.fault.Layer.{Layer}
use Rattle.language.specs.declared.fault.Layer.TheVariants as layers
use Rattle.language.specs.declared.fault.Refusal.{Refusal}
use Rattle.language.specs.declared.fault.ReadFault.{ReadFault}
use Rattle.language.specs.declared.fault.ReadFault.TheVariants.{TooLong, Ends, Unknown, TooWide, Trailing}
use Rattle.language.specs.declared.fault.TypeFault.{TypeFault}
use Rattle.language.specs.declared.fault.TypeFault.TheVariants.{Reading, OutOfScope, Mistyped, NoFunction, OverLimit}
use Rattle.language.specs.declared.fault.UnfoldFault.{UnfoldFault}
use Rattle.language.specs.declared.fault.UnfoldFault.TheVariants.{Typing, Size, Flips}

-- a refusal by its number, layer and place, whatever the layers are
abbrev pub refusal : {L : Type 0} → (number : ℕ) → L → (place : ℕ) → Refusal L
refusal n l p = record { number = n; layer = l; place = p }

-- reading
abbrev pub refusal_of_read : ReadFault → Refusal Layer
refusal_of_read TooLong = refusal 1 layers.Reading 4096
refusal_of_read (Ends p) = refusal 2 layers.Reading p
refusal_of_read (Unknown p) = refusal 3 layers.Reading p
refusal_of_read (TooWide p) = refusal 4 layers.Reading p
refusal_of_read (Trailing p) = refusal 5 layers.Reading p

-- typing, or what it passes up
abbrev pub refusal_of_typing : TypeFault → Refusal Layer
refusal_of_typing (Reading fault) = refusal_of_read fault
refusal_of_typing (OutOfScope p) = refusal 6 layers.Typing p
refusal_of_typing (Mistyped p) = refusal 7 layers.Typing p
refusal_of_typing (NoFunction p) = refusal 8 layers.Typing p
refusal_of_typing (OverLimit p) = refusal 9 layers.Typing p

-- unfolding, or what it passes up
abbrev pub refusal_of_unfolding : UnfoldFault → Refusal Layer
refusal_of_unfolding (Typing fault) = refusal_of_typing fault
refusal_of_unfolding Size = refusal 10 layers.Unfolding 0
refusal_of_unfolding Flips = refusal 11 layers.Unfolding 0

-- what is printed of a refusal
abbrev pub refusal_text : {L : Type 0} → Refusal L → List ℕ
refusal_text r = codes "refused " ++ (decimal r.number ++ (codes " at " ++ decimal r.place))
