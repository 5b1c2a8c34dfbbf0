-- What the two states of a network hold. Assumes nothing.
use Rattle.std.specs.Prelude.{ℕ, cond, ◌&&◌, nat_le}

-- a draft counts its formats and the steps that were added
pub record DraftCounts : Type 0 where
  pub formats : ℕ
  pub steps : ℕ

-- a sealed network also counts its components and the records in use
pub record SealedCounts : Type 0 where
  pub formats : ℕ
  pub steps : ℕ
  pub components : ℕ
  pub records : ℕ

-- a network is a draft or sealed
pub data State : Type 0 where
  drafted : DraftCounts → State
  sealed : SealedCounts → State

-- a sealed network that is reopened is a draft with its counts
abbrev pub reopened : SealedCounts → DraftCounts
reopened s = record { formats = s.formats; steps = s.steps }

-- a sealed network with so many records
abbrev pub counting : SealedCounts → ℕ → SealedCounts
counting s records = record { formats = s.formats; steps = s.steps; components = s.components; records = records }

-- so many records are counted, if they can be in use: a store has at least 2 and uses at most 131,072
abbrev pub recounted : SealedCounts → ℕ → SealedCounts
recounted s records = cond (nat_le 2 records && nat_le records 131072) (counting s records) s
