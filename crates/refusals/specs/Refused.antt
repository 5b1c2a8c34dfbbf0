-- What a caller sees of a refusal: its number, and the value that comes with it. Promises about refusals, in every
-- layer, are stated through these definitions. Assumes nothing.
use Rattle.std.specs.Prelude.{ℕ, Some, None, Ok, Err, Option, Result}
use Rattle.refusals.specs.declared.Buffer.{Buffer}
use Rattle.refusals.specs.declared.Buffer.TheVariants.{Steps, Records, Heads, Row, Weights, Memo, Answers, Plan}
use Rattle.refusals.specs.declared.Refusal.{Refusal}
use Rattle.refusals.specs.declared.Refusal.TheVariants.{FormatCount, NoSuchFormat, StepsFull, NoSuchStep, AlreadySo, TooShort, Damaged, NotAMember, StoreFull, ModulusRange}

-- the buffers, in the order in which they are checked
abbrev pub buffer_number : Buffer → ℕ
buffer_number Steps = 1
buffer_number Records = 2
buffer_number Heads = 3
buffer_number Row = 4
buffer_number Weights = 5
buffer_number Memo = 6
buffer_number Answers = 7
buffer_number Plan = 8

-- the number of each refusal, and the value beside it where there is one: which buffer is too short or damaged, which
-- step's weight is no member, how many records the store may use
abbrev pub listed : Refusal → ℕ × Option ℕ
listed FormatCount = (1, None)
listed NoSuchFormat = (2, None)
listed StepsFull = (3, None)
listed NoSuchStep = (4, None)
listed AlreadySo = (5, None)
listed (TooShort b) = (6, Some (buffer_number b))
listed (Damaged b) = (7, Some (buffer_number b))
listed (NotAMember j) = (8, Some j)
listed (StoreFull k) = (9, Some k)
listed ModulusRange = (10, None)

-- what came of a call: it was done, with an answer, or refused, with a number and perhaps a value
pub data Outcome (A : Type 0) : Type 0 where
  done : A → Outcome A
  refused : ℕ → Option ℕ → Outcome A

-- the outcome that a result stands for, its good answer seen through a view
abbrev pub outcome : {A B : Type 0} → (A → B) → Result A Refusal → Outcome B
outcome view (Ok x) = done (view x)
outcome view (Err e) = refused (listed e).0 (listed e).1
