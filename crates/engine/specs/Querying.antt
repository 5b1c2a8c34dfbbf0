-- Querying: what comes of it in an algebra, and the state and each buffer after it. Assumes nothing.
use Rattle.std.specs.Prelude.{ℕ, Bool, List, ◌++◌, length, drop, slice_index_or}
use Rattle.kleene.specs.Algebras.{Meaning, everywhere}
use Rattle.refusals.specs.Refused.{Outcome, done, refused}
use Rattle.expressions.specs.declared.Record.{Record}
use Rattle.expressions.specs.declared.Step.{Step}
use Rattle.expressions.specs.Contents.{Contents, used}
use Rattle.expressions.specs.Meanings.{values, meaning_of}
use Rattle.network.specs.Plans.{Planned}
use Rattle.network.specs.States.{SealedCounts}
use Rattle.engine.specs.Checks.{Lengths, queryable}
use Rattle.engine.specs.Tracking.{Tracked, tracked, contents_after, filled, row_after, plain}

-- what came of a query, the state, and the buffers of records, heads, row, memo and answers after it
pub record QueryAfter (V : Type 0) : Type 0 where
  pub answer : Outcome (Unit {0})
  pub state : SealedCounts
  pub records : List Record
  pub heads : List ℕ
  pub row : List ℕ
  pub memo : List V
  pub answers : List V

module _ {V : Type 0} (m : Meaning V) where
  -- the weight of step j
  abbrev pub weight_in : List V → ℕ → V
  weight_in weights j = slice_index_or weights j m.on.zero

  -- whether it is a member
  abbrev pub member_in : List V → ℕ → Bool
  member_in weights j = m.member (weight_in weights j)

  -- the reading of each record in use stands in the memo at the record's number
  abbrev pub memo_after : List V → Contents → Outcome (ℕ → ℕ) → List V → List V
  memo_after weights c (done row) memo = values (everywhere m) (weight_in weights) (used c) ++ drop c.count memo
  memo_after weights c (refused number value) memo = memo

  -- the readings of the row are the answers
  abbrev pub answers_after : List V → Contents → ℕ → Outcome (ℕ → ℕ) → List V → List V
  answers_after weights c n (done row) answers = filled (λ t. meaning_of (everywhere m) (weight_in weights) c (row t)) n answers
  answers_after weights c n (refused number value) answers = answers

  -- what a query makes of what was tracked
  abbrev pub queried_by : SealedCounts → List ℕ → List V → List V → List V → Tracked → QueryAfter V
  queried_by s row weights memo answers t = record {
    answer = plain t.answer;
    state = t.state;
    records = t.records;
    heads = t.heads;
    row = row_after s.formats t.answer row;
    memo = memo_after weights (contents_after t) t.answer memo;
    answers = answers_after weights (contents_after t) s.formats t.answer answers;
  }

  -- a query tracks where its checks are passed, and reads what was tracked
  abbrev pub queries : SealedCounts → List Step → List Record → List ℕ → List ℕ → List V → List V → List V → Planned → ℕ → QueryAfter V
  queries s steps records heads row weights memo answers plan source =
      let lengths : Lengths = record { row = length row; weights = length weights; memo = length memo; answers = length answers } in
      queried_by s row weights memo answers (tracked s steps records heads plan source (queryable s steps records heads lengths (member_in weights) plan source))
