-- The contents of a store: its records, the heads of its chains, and how many records are in use. Assumes nothing.
use Rattle.std.specs.Prelude.{◌≡◌, ℕ, ◌+◌, ◌*◌, ◌%◌, ◌≤◌, min, true, List, ◌∷◌, ◌++◌, length, take, drop, replicate}
use Rattle.expressions.specs.declared.Record.{Record}
use Rattle.expressions.specs.Layout.{well_formed, linked, each, heads_sound}

-- the lent buffers, and the count of records in use
pub record Contents : Type 0 where
  pub records : List Record
  pub heads : List ℕ
  pub count : ℕ

-- the records that a store may use: those of the buffer, and at most 131,072
abbrev pub limit : Contents → ℕ
limit c = min (length c.records) 131072

-- the records in use
abbrev pub used : Contents → List Record
used c = take c.count c.records

-- the chain on which a record of this kind, left and right is found
abbrev pub chain_of : ℕ → ℕ → ℕ → ℕ
chain_of kind left right = (31 * left + 17 * right + kind) % 1024

-- the buffers are long enough, and the records in use and the heads are laid out as they should be
pub record Sound (c : Contents) : Type 0 where
  pub begun : 2 ≤ c.count
  pub room : c.count ≤ limit c
  pub chains : 1024 ≤ length c.heads
  pub formed : each well_formed 0 (used c) ≡ true
  pub linked : each linked 0 (used c) ≡ true
  pub headed : heads_sound c.count (take 1024 c.heads) ≡ true

-- a cleared store: records 0 and 1 are nothing and stay, and every chain is empty
abbrev pub cleared : Contents → Contents
cleared c = record {
  records = record { kind = 0; left = 0; right = 0; next = 0 } ∷ record { kind = 1; left = 0; right = 0; next = 0 } ∷ drop 2 c.records;
  heads = replicate 1024 0 ++ drop 1024 c.heads;
  count = 2;
}

-- a store has grown: as many records and heads as before, and those in use are unchanged
pub record Grown (c d : Contents) : Type 0 where
  pub counts : c.count ≤ d.count
  pub records : length d.records ≡ length c.records
  pub heads : length d.heads ≡ length c.heads
  pub lower : used c ≡ take c.count d.records
