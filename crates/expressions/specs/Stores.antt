-- Stores, as what they hold. Assumes nothing.
use Rattle.std.specs.Prelude.{◌≡◌, ℕ, Result}
use Rattle.refusals.specs.Refused.{Outcome, outcome}
use Rattle.refusals.specs.declared.Refusal.{Refusal}
use Rattle.expressions.specs.declared.store.Store.{Store}
use Rattle.expressions.specs.Contents.{Contents, Grown}

-- the lent buffers of a store, and the count of its records in use
abbrev pub contents : Store → Contents
contents s = record { records = s.records.now; heads = s.heads.now; count = s.count }

-- the two buffers that a store works on are those that were lent to it
pub record Lent (s t : Store) : Type 0 where
  pub records : s.records.ghost_name ≡ t.records.ghost_name
  pub heads : s.heads.ghost_name ≡ t.heads.ghost_name

-- what came of making an expression: its number or a refusal, and the contents of the store after it
abbrev pub came_of : Result ℕ Refusal → Store → Outcome ℕ × Contents
came_of r s = (outcome (λ z. z) r, contents s)

-- a store has only grown, in the buffers that were lent to it
pub record Extends (s t : Store) : Type 0 where
  pub grown : Grown (contents s) (contents t)
  pub lent : Lent t s
