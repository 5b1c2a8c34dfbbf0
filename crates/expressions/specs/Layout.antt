-- How expressions are laid out as records. Assumes nothing.
use Rattle.std.specs.Prelude.{◌≡◌, ℕ, suc, ◌<◌, ◌≤◌, Bool, true, false, cond, ◌&&◌, ◌||◌, ltb, ◌⊎◌, List, [], ◌∷◌, length, get_or, ◌==◌, nat_lt, slice_index, slice_index_or}
use Rattle.expressions.specs.declared.Record.{Record}
use Rattle.expressions.specs.declared.Step.{Step}

-- record 0 stands where there is none
abbrev pub blank : Record
blank = record { kind = 0; left = 0; right = 0; next = 0 }

abbrev pub nowhere : Step
nowhere = record { from = 0; to = 0; in_force = false }

-- step j was added and is in force
abbrev pub in_force : List Step → ℕ → Bool
in_force steps j = (get_or steps j nowhere).in_force

-- Kinds are 0 nothing, 1 stay, 2 step, 3 sum, 4 then, 5 repeat. Record 0 is nothing and record 1 is stay, and no other is;
-- what is not used is 0. The parts of a sum, a then and a repeat are lower records; a step names a step of the network.
abbrev pub well_formed : ℕ → Record → Bool
well_formed i r =
    cond (nat_lt i 2) (r.kind == i && (r.left == 0 && r.right == 0))
    (cond (r.kind == 2) (r.right == 0)
    (cond (r.kind == 3 || r.kind == 4) (nat_lt r.left i && nat_lt r.right i)
    (r.kind == 5 && (nat_lt r.left i && r.right == 0))))

-- the next of a record is 0, or lower than the record
abbrev pub linked : ℕ → Record → Bool
linked i r = r.next == 0 || nat_lt r.next i

-- a record that names a step names one in force
abbrev pub names_in_force : List Step → Record → Bool
names_in_force steps r = cond (r.kind == 2) (in_force steps r.left) true

-- record i is not damaged
abbrev pub record_sound : List Step → ℕ → Record → Bool
record_sound steps i r = well_formed i r && (linked i r && names_in_force steps r)

-- a test passes at each element of a list and its place, counted from i
abbrev pub each : {X : Type 0} → (ℕ → X → Bool) → ℕ → List X → Bool
each test i [] = true
each test i (x ∷ xs) = test i x && each test (suc i) xs

-- none of the records is damaged
abbrev pub records_sound : List Step → List Record → Bool
records_sound steps records = each (record_sound steps) 0 records

-- every head is below the count of records
abbrev pub heads_sound : ℕ → List ℕ → Bool
heads_sound count heads = each (λ _ head. ltb head count) 0 heads

-- what record i has to be, case by case: a record that breaks one of these is damaged
pub record SoundRecord (steps : List Step) (i : ℕ) (r : Record) : Type 0 where
  -- record 0 is nothing and record 1 is stay, and they have no parts
  pub first : i < 2 → (r.kind ≡ i) × (r.left ≡ 0) × (r.right ≡ 0)
  -- every later record is a step, a sum, a then or a repeat
  pub later : 2 ≤ i → (2 ≤ r.kind) × (r.kind ≤ 5)
  -- a step is in force
  pub step : r.kind ≡ 2 → (in_force steps r.left ≡ true) × (r.right ≡ 0)
  -- both parts of a sum and of a then are lower records
  pub pair : (r.kind ≡ 3) ⊎ (r.kind ≡ 4) → (r.left < i) × (r.right < i)
  -- the part of a repeat is a lower record
  pub repeat : r.kind ≡ 5 → (r.left < i) × (r.right ≡ 0)
  -- the next is 0 or a lower record
  pub next : (r.next ≡ 0) ⊎ (r.next < i)

-- each record is what it has to be
abbrev pub SoundRecords : List Step → List Record → Type 0
SoundRecords steps records = (i : ℕ) → i < length records → SoundRecord steps i (slice_index_or records i blank)

-- each head is the number of a record in use
abbrev pub SoundHeads : ℕ → List ℕ → Type 0
SoundHeads count heads = (k : ℕ) → k < length heads → slice_index heads k < count
