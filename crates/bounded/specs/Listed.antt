-- What a list of at most N elements holds.
use Rattle.std.specs.Prelude.{ℕ, List, take}
use Rattle.bounded.specs.declared.Bounded.{Bounded}

-- its elements: the first `count` of the array
abbrev pub listed : {T : Type 0} {N : ℕ} → Bounded T N → List T
listed b = take b.count b.items
