-- The calls on a network that is being drawn: what comes of each, and the state and the step buffer after it. The checks stand
-- in the order in which they are made. Assumes nothing.
use Rattle.std.specs.Prelude.{ℕ, ◌+◌, Bool, true, false, cond, not, ◌&&◌, ◌||◌, List, length, get_or, Some, None, Option, nat_le, nat_lt, slice_index_or, slice_set}
use Rattle.refusals.specs.Refused.{Outcome, done, refused}
use Rattle.expressions.specs.declared.Step.{Step}
use Rattle.expressions.specs.Layout.{nowhere}
use Rattle.network.specs.declared.states.Draft.{Draft}

-- a network has 1 to 32 formats, and no steps at first
abbrev pub opened : ℕ → Outcome Draft
opened n = cond (nat_le 1 n && nat_le n 32) (done (record { formats = n; steps = 0 })) (refused 1 None)

-- the answer of a call on a draft, the draft and the step buffer after it
pub record After (A : Type 0) : Type 0 where
  pub answer : Outcome A
  pub draft : Draft
  pub buffer : List Step

-- nothing changes where a call is refused
abbrev refuses : {A : Type 0} → Draft → List Step → ℕ → Option ℕ → After A
refuses d steps number value = record { answer = refused number value; draft = d; buffer = steps }

-- A step is added in force, from one format to another, and takes the next number. Refused are a step buffer that is shorter
-- than the steps, an end that is no format, and a step past 256 or past the buffer.
abbrev pub added : Draft → List Step → ℕ → ℕ → After ℕ
added d steps from to =
    cond (nat_lt (length steps) d.steps) (refuses d steps 6 (Some 1))
    (cond (nat_le d.formats from || nat_le d.formats to) (refuses d steps 2 None)
    (cond (nat_le 256 d.steps || nat_le (length steps) d.steps) (refuses d steps 3 None)
    (record {
      answer = done d.steps;
      draft = record { formats = d.formats; steps = d.steps + 1 };
      buffer = slice_set steps d.steps (record { from = from; to = to; in_force = true });
    })))

abbrev same : Bool → Bool → Bool
same true b = b
same false b = not b

-- step j, put in force or retired
abbrev pub switched : Bool → Step → Step
switched on s = record { from = s.from; to = s.to; in_force = on }

-- A step is retired, or restored. Refused are a step buffer that is shorter than the steps, a number that no step has, and a
-- step that is so already.
abbrev pub turned : Bool → Draft → List Step → ℕ → After (Unit {0})
turned on d steps j =
    cond (nat_lt (length steps) d.steps) (refuses d steps 6 (Some 1))
    (cond (nat_le d.steps j) (refuses d steps 4 None)
    (cond (same on (get_or steps j nowhere).in_force) (refuses d steps 5 None)
    (record { answer = done tt; draft = d; buffer = slice_set steps j (switched on (slice_index_or steps j nowhere)) })))
