-- The grammar: which bytes reading accepts, in terms of the trees that they encode.
use Rattle.std.specs.Prelude.{◌≡◌, ℕ, true, ◌↔◌, List, is_ok, Ok, Result}
use Rattle.language.specs.Syntax.{Program, encode, WithinReading}
use Rattle.language.specs.Reading.{tree_of}

-- the bytes are those of this tree, which is within the reading limits
abbrev pub Encodes : List ℕ → Program → Type 0
Encodes bytes p = (bytes ≡ encode p) × WithinReading p

-- the tree that reading gives is the one that the bytes encode
abbrev pub ReadingExact : Type 0
ReadingExact = (bytes : List ℕ) (p : Program) → (tree_of bytes ≡ Ok p) ↔ Encodes bytes p

-- an answer to bytes: accepted exactly where they encode a tree, and then only that one
pub record ByGrammar {A E : Type 0} (bytes : List ℕ) (r : Result A E) : Type 0 where
  pub accepted : (is_ok r ≡ true) ↔ ((p : Program) × Encodes bytes p)
  pub only_one : (p q : Program) → Encodes bytes p → Encodes bytes q → p ≡ q
