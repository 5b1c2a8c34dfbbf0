-- The order in which the formats of a network are listed. Assumes nothing.
use Rattle.std.specs.Prelude.{ℕ, ◌-◌, List, ◌++◌, length, replicate, take_while, ◌==◌, nat_eq}
use Rattle.elimination.specs.Moves.{keep, below, for_each}

-- the formats below n of a component, rising
abbrev pub members_of : ℕ → (ℕ → ℕ) → ℕ → List ℕ
members_of n component c = keep (λ v. nat_eq (component v) c) (below n)

-- the formats below n of so many components in turn, rising inside each
abbrev pub in_order : ℕ → ℕ → (ℕ → ℕ) → List ℕ
in_order n count component = for_each (members_of n component) (below count)

-- 32 places, of which those past a list hold 0
abbrev pub padded : List ℕ → List ℕ
padded xs = xs ++ replicate (32 - length xs) 0

-- the formats of component c with which a list begins
abbrev pub front : (ℕ → ℕ) → ℕ → List ℕ → List ℕ
front component c = take_while (λ v. component v == c)
