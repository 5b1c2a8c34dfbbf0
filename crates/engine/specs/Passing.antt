-- What the checks of a call establish. Assumes nothing.
use Rattle.std.specs.Prelude.{◌≡◌, ℕ, ◌≤◌, min, true, List, take}
use Rattle.expressions.specs.declared.Record.{Record}
use Rattle.expressions.specs.declared.Step.{Step}
use Rattle.expressions.specs.Layout.{records_sound, heads_sound}
use Rattle.network.specs.Plans.{Planned, plan_sound}
use Rattle.network.specs.Seals.{steps_sound}
use Rattle.network.specs.States.{SealedCounts}

-- the buffers of steps, records, heads and row are long enough
pub record Long (s : SealedCounts) (steps records heads row : ℕ) : Type 0 where
  pub for_steps : s.steps ≤ steps
  pub for_records : s.records ≤ records
  pub for_heads : 1024 ≤ heads
  pub for_row : s.formats ≤ row

-- the buffers of weights, memo and answers are long enough
pub record LongToo (s : SealedCounts) (records weights memo answers : ℕ) : Type 0 where
  pub for_weights : s.steps ≤ weights
  pub for_memo : min records 131072 ≤ memo
  pub for_answers : s.formats ≤ answers

-- none of the buffers is damaged
pub record Undamaged (s : SealedCounts) (added : List Step) (records : List Record) (heads : List ℕ) (plan : Planned) : Type 0 where
  pub joined : steps_sound s.formats added ≡ true
  pub formed : records_sound added (take s.records records) ≡ true
  pub headed : heads_sound s.records (take 1024 heads) ≡ true
  pub planned : plan_sound s.formats s.records plan ≡ true
