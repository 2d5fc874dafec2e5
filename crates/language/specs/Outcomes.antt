-- Results that are worked out one after the other, and those of code that answers with what is left of a program.
use Rattle.std.specs.Prelude.{◌≡◌, ℕ, List, Ok, Err, Result}
use Rattle.language.specs.declared.rest.Rest.{Rest}

-- goes on with an accepted value; the first fault ends the work
abbrev pub and_then : {E A B : Type 0} → Result A E → (A → Result B E) → Result B E
and_then (Ok x) f = f x
and_then (Err fault) f = Err fault

-- code answers with what is left of a program of `whole` bytes, and with something that stands for what the definition gives
abbrev pub Follows : {E A B : Type 0} (StandsFor : A → B → Type 0) (whole : ℕ) → Result (A × Rest) E → Result (B × List ℕ) E → Type 0
Follows {B = B} StandsFor whole (Ok x) out = (y : B) × StandsFor x.0 y × (out ≡ Ok (y, x.1.bytes.now)) × (x.1.whole ≡ whole)
Follows StandsFor whole (Err fault) out = out ≡ Err fault

-- the same value
abbrev pub Same : {A : Type 0} → A → A → Type 0
Same x y = x ≡ y
