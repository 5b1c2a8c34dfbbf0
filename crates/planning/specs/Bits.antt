-- Lists of numbers as relations, each number as a set. Assumes nothing.
use Rattle.std.specs.Prelude.{ℕ, Bool, not, ◌&&◌, ◌||◌, List, bit_or, slice_index}
use Rattle.bits.specs.Bits.{every}
pub use Rattle.bits.specs.Bits.{has}

-- a list of such sets as a relation: v is in set u
abbrev pub goes : List ℕ → ℕ → ℕ → Bool
goes sets u v = has (slice_index sets u) v

-- every member of x below n is one of y
abbrev pub within : ℕ → ℕ → ℕ → Bool
within n x y = every n (λ i. not (has x i) || has y i)

-- v is not listed, and its set `into` has only numbers that are in its set `reach` or listed
abbrev pub unentered : ℕ → List ℕ → List ℕ → ℕ → ℕ → Bool
unentered n reach into listed v = not (has listed v) && within n (slice_index into v) (bit_or (slice_index reach v) listed)
