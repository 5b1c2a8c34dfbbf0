-- Counting series: in how many ways something spells each list of steps. Assumes nothing.
use Rattle.std.specs.Prelude.{ℕ, zero, suc, ◌+◌, ◌*◌, cond, List, [], ◌∷◌, map, ◌==◌}
use Rattle.kleene.specs.Algebras.{Operations}

-- how often each list of step numbers is spelled
abbrev pub Series : Type 0
Series = List ℕ → ℕ

-- the sum, over each cut of the list in two, empty parts allowed, of the product of the counts of the parts
abbrev pub over_cuts : Series → Series → Series
over_cuts f g [] = f [] * g []
over_cuts f g (j ∷ js) = f [] * g (j ∷ js) + over_cuts (λ rest. f (j ∷ rest)) g js

-- the cuts of a list in two parts: the first part is empty, or begins with the first step and goes on as a first part of the rest
abbrev pub cuts : List ℕ → List (List ℕ × List ℕ)
cuts [] = ([], []) ∷ []
cuts (j ∷ js) = ([], j ∷ js) ∷ map (λ cut. (j ∷ cut.0, cut.1)) (cuts js)

-- 1 for the empty list, and for another the sum, over each cut with a first part that is not empty, of the count of the first
-- part times the repeat's count of the rest; the number bounds the parts, of which there are no more than steps
abbrev pub repeats : ℕ → Series → Series
repeats bound f [] = 1
repeats zero f (j ∷ js) = 0
repeats (suc bound) f (j ∷ js) = over_cuts (λ rest. f (j ∷ rest)) (repeats bound f) js

-- how many steps a list has
abbrev pub steps : List ℕ → ℕ
steps [] = 0
steps (j ∷ js) = suc (steps js)

-- the empty list alone
abbrev pub empty : Series
empty [] = 1
empty (j ∷ js) = 0

-- the list of step j alone
abbrev pub letter : ℕ → Series
letter j [] = 0
letter j (i ∷ js) = cond (i == j) (empty js) 0

abbrev pub counting : Operations Series
counting = record {
  zero = λ _. 0;
  one = empty;
  sum = λ f g js. f js + g js;
  product = over_cuts;
  star = λ f js. repeats (steps js) f js;
}
