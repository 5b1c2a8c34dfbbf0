-- What a plan holds, and what its order says. Assumes nothing.
use Rattle.std.specs.Prelude.{◌≡◌, ℕ, ◌<◌, Bool, cond, ◌&&◌, ltb, ◌⊎◌, List, [], ◌==◌, nat_lt, slice_index}
use Rattle.planning.specs.Components.{every}
use Rattle.planning.specs.Orders.{members_of}
use Rattle.planning.specs.Tables.{table_of}
use Rattle.network.specs.declared.plan.Plan.{Plan}

-- the formats that a plan is for, how many components and records it speaks of, the format at each place of the order, the
-- component of each format, and the expression from one format to another; places past the formats hold 0
pub record Planned : Type 0 where
  pub formats : ℕ
  pub components : ℕ
  pub records : ℕ
  pub order : ℕ → ℕ
  pub component : ℕ → ℕ
  pub table : ℕ → ℕ → ℕ

abbrev pub planned : Plan → Planned
planned p = record {
  formats = p.formats;
  components = p.components;
  records = p.records;
  order = λ k. slice_index p.order k;
  component = λ v. slice_index p.component v;
  table = table_of p.rows;
}

-- a new plan: no formats, and 0 everywhere
abbrev pub unplanned : Planned
unplanned = record { formats = 0; components = 0; records = 0; order = λ _. 0; component = λ _. 0; table = λ _ _. 0 }

-- the formats of component c, rising
abbrev pub members_in : Planned → ℕ → List ℕ
members_in p c = cond (nat_lt c p.components) (members_of p.formats p.component c) []

-- a plan is damaged if it is for another number of formats, or names a record that is not in use
abbrev pub plan_sound : ℕ → ℕ → Planned → Bool
plan_sound n records p = p.formats == n && every n (λ u. every n (λ w. ltb (p.table u w) records))

-- The order of a plan lists each format, the components in turn, and the formats of a component together and rising: of two
-- places, the later has a format of a later component, or a higher one of the same.
pub record InTurn (p : Planned) : Type 0 where
  pub each : (v : ℕ) → v < p.formats → (k : ℕ) × (k < p.formats) × (p.order k ≡ v)
  pub turns :
      (i k : ℕ) → i < k → k < p.formats →
      (p.component (p.order i) < p.component (p.order k)) ⊎ ((p.component (p.order i) ≡ p.component (p.order k)) × (p.order i < p.order k))
