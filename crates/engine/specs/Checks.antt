-- The checks of the calls on a sealed network, in the order in which they are made. A check is done or refused, with a number and
-- perhaps a value. Assumes nothing.
use Rattle.std.specs.Prelude.{ℕ, min, Bool, cond, not, ◌&&◌, ◌||◌, List, length, take, Some, None, Option, nat_le, nat_lt}
use Rattle.refusals.specs.Refused.{Outcome, done, refused}
use Rattle.expressions.specs.declared.Record.{Record}
use Rattle.expressions.specs.declared.Step.{Step}
use Rattle.expressions.specs.Layout.{in_force, records_sound, heads_sound}
use Rattle.planning.specs.Components.{lowest}
use Rattle.network.specs.Plans.{Planned, plan_sound}
use Rattle.network.specs.Seals.{steps_sound}
use Rattle.network.specs.States.{SealedCounts}

-- where a check is passed, the next decides
abbrev pub before : {A : Type 0} → Outcome (Unit {0}) → Outcome A → Outcome A
before (done _) next = next
before (refused number value) next = refused number value

-- the buffers of steps, records, heads and row, by their lengths
abbrev pub long_enough : SealedCounts → ℕ → ℕ → ℕ → ℕ → Outcome (Unit {0})
long_enough s steps records heads row =
    cond (nat_lt steps s.steps) (refused 6 (Some 1))
    (cond (nat_lt records 2 || nat_lt records s.records) (refused 6 (Some 2))
    (cond (nat_lt heads 1024) (refused 6 (Some 3))
    (cond (nat_lt row s.formats) (refused 6 (Some 4)) (done tt))))

-- the buffers of weights, memo and answers; the memo has a place for every record that the store may use
abbrev pub long_too : SealedCounts → ℕ → ℕ → ℕ → ℕ → Outcome (Unit {0})
long_too s records weights memo answers =
    cond (nat_lt weights s.steps) (refused 6 (Some 5))
    (cond (nat_lt memo (min records 131072)) (refused 6 (Some 6))
    (cond (nat_lt answers s.formats) (refused 6 (Some 7)) (done tt)))

-- the steps that were added, the records in use, the heads of the chains, and the plan
abbrev pub undamaged : SealedCounts → List Step → List Record → List ℕ → Planned → Outcome (Unit {0})
undamaged s steps records heads plan =
    let added = take s.steps steps in
    cond (not (steps_sound s.formats added)) (refused 7 (Some 1))
    (cond (not (records_sound added (take s.records records))) (refused 7 (Some 2))
    (cond (not (heads_sound s.records (take 1024 heads))) (refused 7 (Some 3))
    (cond (not (plan_sound s.formats s.records plan)) (refused 7 (Some 8)) (done tt))))

-- the source is a format
abbrev pub known : SealedCounts → ℕ → Outcome (Unit {0})
known s source = cond (nat_le s.formats source) (refused 2 None) (done tt)

-- the lowest step in force whose weight is no member
abbrev pub first_unweighed : List Step → (ℕ → Bool) → Option ℕ
first_unweighed added member =
    let first = lowest (length added) (λ j. in_force added j && not (member j)) in
    cond (nat_lt first (length added)) (Some first) None

-- the weight of each step in force is a member; if not, the lowest step whose weight is none is named
abbrev pub weighed : List Step → (ℕ → Bool) → Outcome (Unit {0})
weighed added member =
    let first = lowest (length added) (λ j. in_force added j && not (member j)) in
    cond (nat_lt first (length added)) (refused 8 (Some first)) (done tt)

-- the checks of a trace, whose row has so many places
abbrev pub traceable : SealedCounts → List Step → List Record → List ℕ → ℕ → Planned → ℕ → Outcome (Unit {0})
traceable s steps records heads row plan source =
    before (long_enough s (length steps) (length records) (length heads) row)
    (before (undamaged s steps records heads plan) (known s source))

-- the lengths of the buffers that a query brings
pub record Lengths : Type 0 where
  pub row : ℕ
  pub weights : ℕ
  pub memo : ℕ
  pub answers : ℕ

-- the checks of a query, by the lengths of its buffers and which steps have members for weights
abbrev pub queryable : SealedCounts → List Step → List Record → List ℕ → Lengths → (ℕ → Bool) → Planned → ℕ → Outcome (Unit {0})
queryable s steps records heads lengths member plan source =
    before (long_enough s (length steps) (length records) (length heads) lengths.row)
    (before (long_too s (length records) lengths.weights lengths.memo lengths.answers)
    (before (undamaged s steps records heads plan)
    (before (known s source) (weighed (take s.steps steps) member))))
