-- A number as the set of the places where its binary digits are 1. Assumes nothing.
use Rattle.std.specs.Prelude.{ℕ, zero, suc, ◌+◌, ◌*◌, ◌/◌, ◌%◌, ◌^◌, Bool, true, false, cond, ◌&&◌, ◌||◌, ◌==◌, List, filter}
use Rattle.std.specs.List.{range_with_len}

-- bit i of x is 1
abbrev pub has : ℕ → ℕ → Bool
has x i = x / 2 ^ i % 2 == 1

-- the number whose bits below n are 1 just where the test passes
abbrev pub set_of : ℕ → (ℕ → Bool) → ℕ
set_of zero test = 0
set_of (suc n) test = cond (test 0) 1 0 + 2 * set_of n (λ i. test (suc i))

-- the test passes at some number below n
abbrev pub some : ℕ → (ℕ → Bool) → Bool
some zero test = false
some (suc n) test = test n || some n test

-- the test passes at every number below n
abbrev pub every : ℕ → (ℕ → Bool) → Bool
every zero test = true
every (suc n) test = test n && every n test

-- the places below n of the bits of x that are 1, rising
unfoldable pub places : ℕ → ℕ → List ℕ
places n x = filter (has x) (range_with_len 0 n)
