-- Programs with their figures or refusals, worked out by the definitions.
use Rattle.std.specs.Prelude.{◌≡◌, ℕ, zero, suc, List, [], ◌∷◌, ◌++◌, map, length, replicate, Ok, Err, Result}
use Rattle.language.specs.declared.fault.UnfoldFault.{UnfoldFault}
use Rattle.language.specs.Refusals.{refusal_of_unfolding}
use Rattle.language.specs.Syntax.{Ty, leaves, Program}
use Rattle.language.specs.Unfolding.{size, flips, unfolded, accepted_of}

-- what is reported: the numbers of functions, commands, flips and leaves, or a refusal's number and place
pub data Verdict : Type 0 where
  figures : (functions commands flips leaves : ℕ) → Verdict
  refused : (number place : ℕ) → Verdict

abbrev pub verdict : Result (Program × Ty) UnfoldFault → Verdict
verdict (Ok x) = figures (length x.0.functions) (size (unfolded x.0)) (flips (unfolded x.0)) (leaves x.1)
verdict (Err fault) = refused (refusal_of_unfolding fault).number (refusal_of_unfolding fault).place

-- a type of n + 1 leaves
abbrev pub comb : ℕ → List ℕ
comb zero = 0 ∷ []
comb (suc n) = 1 ∷ 0 ∷ comb n

-- functions of a Bool, each after the first calling the one before it twice: n of them from number k + 1 on
abbrev pub twice : (n k : ℕ) → List ℕ
twice zero k = []
twice (suc n) k = 0 ∷ 0 ∷ 7 ∷ 9 ∷ k ∷ 0 ∷ 9 ∷ k ∷ 0 ∷ twice n (suc k)

-- n + 1 functions, and a call of the last of them
abbrev pub doubling : ℕ → List ℕ
doubling n = suc n ∷ 0 ∷ 0 ∷ 1 ∷ 0 ∷ (twice n 0 ++ (9 ∷ n ∷ 254 ∷ []))

-- n lets, each the first part of the one before, with n + 1 flips
abbrev pub tosses : ℕ → List ℕ
tosses n = replicate n 7 ++ flipped (suc n)
  where
    flipped : ℕ → List ℕ
    flipped zero = []
    flipped (suc n) = 5 ∷ 0 ∷ flipped n

abbrev pub table : List (List ℕ × Verdict)
table =
    -- two flips, of which at least one comes out yes, and the first of them
    (0 ∷ 7 ∷ 5 ∷ 0 ∷ 7 ∷ 5 ∷ 1 ∷ 7 ∷ 6 ∷ 0 ∷ 1 ∷ 255 ∷ 1 ∷ 1 ∷ 7 ∷ 8 ∷ 2 ∷ 1 ∷ 0 ∷ [], figures 0 11 2 1)
    -- as many flips, and as many commands by doubling, as there may be
    ∷ (0 ∷ tosses 127, figures 0 255 128 1)
    ∷ (doubling 10, figures 11 4094 0 1)
    -- reading
    ∷ (replicate 4097 0, refused 1 4096)
    ∷ ([], refused 2 0)
    ∷ (0 ∷ [], refused 2 1)
    ∷ (17 ∷ [], refused 3 0)
    ∷ (0 ∷ 10 ∷ [], refused 3 1)
    ∷ (1 ∷ 1 ∷ 0 ∷ 2 ∷ [], refused 3 3)
    ∷ (1 ∷ (comb 16 ++ (0 ∷ 1 ∷ 254 ∷ 1 ∷ 254 ∷ [])), refused 4 1)
    ∷ (0 ∷ 8 ∷ 254 ∷ 0 ∷ [], refused 5 3)
    -- typing: a name, a command, a body, a function, a pair
    ∷ (0 ∷ 1 ∷ 0 ∷ [], refused 6 1)
    ∷ (0 ∷ 3 ∷ 254 ∷ [], refused 7 1)
    ∷ (1 ∷ 0 ∷ 1 ∷ 0 ∷ 0 ∷ 1 ∷ 0 ∷ 1 ∷ 254 ∷ [], refused 7 5)
    ∷ (0 ∷ 9 ∷ 0 ∷ 254 ∷ [], refused 8 1)
    ∷ (0 ∷ 7 ∷ 2 ∷ 254 ∷ 254 ∷ 7 ∷ 2 ∷ 0 ∷ 0 ∷ 7 ∷ 2 ∷ 1 ∷ 1 ∷ 7 ∷ 2 ∷ 2 ∷ 2 ∷ 2 ∷ 3 ∷ 3 ∷ [], refused 9 17)
    -- unfolding
    ∷ (doubling 11, refused 10 0)
    ∷ (0 ∷ tosses 128, refused 11 0)
    ∷ []

-- the definitions give what the table says
abbrev pub CasesRight : Type 0
CasesRight = map (λ row. verdict (accepted_of row.0)) table ≡ map (λ row. row.1) table
