-- The table of a plan as a function of two formats. Assumes nothing.
use Rattle.std.specs.Prelude.{◌≡◌, ℕ, ◌<◌, List, [], length, slice_index, slice_index_or, slice_set}
use Rattle.planning.specs.declared.rows.Row.{Row}

-- past its 32 places a row has nothing
abbrev pub row_of : Row → ℕ → ℕ
row_of r w = slice_index r.at w

-- a row with one entry written
abbrev pub written : Row → ℕ → ℕ → Row
written r w x = record { at = slice_set r.at w x }

abbrev pub no_row : Row
no_row = record { at = [] }

abbrev pub table_of : List Row → ℕ → ℕ → ℕ
table_of rows u = row_of (slice_index_or rows u no_row)

-- a row has 32 places, each with an expression in use
pub record RowFits (count : ℕ) (r : Row) : Type 0 where
  pub places : length r.at ≡ 32
  pub in_use : (w : ℕ) → row_of r w < count

-- a table has 32 such rows
pub record TableFits (count : ℕ) (rows : List Row) : Type 0 where
  pub places : length rows ≡ 32
  pub each : (u : ℕ) → u < 32 → RowFits count (slice_index_or rows u no_row)

-- the numbers of a list are places of a row; past its end get_or gives 0, which is one too
abbrev pub Places : List ℕ → Type 0
Places xs = (k : ℕ) → slice_index xs k < 32
