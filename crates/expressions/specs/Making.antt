-- How expressions are made in a store. Each definition gives what comes of it, the number of an expression or the refusal of
-- a full store, and the contents after it. Assumes nothing.
use Rattle.std.specs.Prelude.{◌≡◌, ℕ, zero, suc, ◌+◌, ◌<◌, Bool, cond, ◌&&◌, ◌||◌, List, Some, None, MatchBool, Option, MatchOption, ◌==◌, nat_lt, slice_index, slice_index_or, slice_set}
use Rattle.refusals.specs.Refused.{Outcome, done, refused}
use Rattle.expressions.specs.declared.Record.{Record}
use Rattle.expressions.specs.Layout.{blank}
use Rattle.expressions.specs.Contents.{Contents, limit, chain_of}

abbrev pub alike : ℕ → ℕ → ℕ → Record → Bool
alike kind left right r = r.kind == kind && (r.left == left && r.right == right)

-- the first record of a chain, from record i on, with this kind, left and right; 0 where there is none. The first number
-- bounds the walk: since a next is lower than its record, no walk from i is longer than i.
abbrev pub walk : ℕ → List Record → ℕ → ℕ → ℕ → ℕ → ℕ
walk zero records kind left right i = 0
walk (suc bound) records kind left right i =
    let r = slice_index_or records i blank in
    let rest = walk bound records kind left right r.next in
    cond (i == 0) 0 (cond (alike kind left right r) i rest)

abbrev pub find : Contents → ℕ → ℕ → ℕ → ℕ
find c kind left right = let head = slice_index_or c.heads (chain_of kind left right) 0 in walk head c.records kind left right head

-- the record at which a walk of a chain ended: 0 is the end of the chain, and no record on it
abbrev pub on_chain : ℕ → Option ℕ
on_chain i = cond (nat_lt 0 i) (Some i) None

-- a new record takes the next number, its next is the head of its chain, and it becomes the head
abbrev pub appended : Contents → ℕ → ℕ → ℕ → Contents
appended c kind left right = record {
  records = slice_set c.records c.count (record { kind = kind; left = left; right = right; next = slice_index c.heads (chain_of kind left right) });
  heads = slice_set c.heads (chain_of kind left right) c.count;
  count = c.count + 1;
}

-- the next record may be of this kind, left and right
abbrev pub Fits : Contents → ℕ → ℕ → ℕ → Type 0
Fits c kind left right =
    MatchBool (kind == 2) (right ≡ 0)
    (MatchBool (kind == 3 || kind == 4) ((left < c.count) × (right < c.count))
    ((kind ≡ 5) × (left < c.count) × (right ≡ 0)))

-- the record that is there already, or a new one, or the refusal of a full store
abbrev pub made : Contents → ℕ → ℕ → ℕ → Outcome ℕ × Contents
made c kind left right =
    let there = find c kind left right in
    cond (nat_lt 0 there) (done there, c)
    (cond (nat_lt c.count (limit c)) (done c.count, appended c kind left right) (refused 9 (Some (limit c)), c))

-- the simplifying rules, of which the first that fits decides: sum(nothing, y) is y; sum(x, nothing) is x; sum(x, x) is x
abbrev pub sum_rule : ℕ → ℕ → Option ℕ
sum_rule x y = cond (x == 0) (Some y) (cond (y == 0) (Some x) (cond (x == y) (Some x) None))

-- then with nothing on either side is nothing; then(stay, y) is y; then(x, stay) is x
abbrev pub then_rule : ℕ → ℕ → Option ℕ
then_rule x y = cond (x == 0) (Some 0) (cond (y == 0) (Some 0) (cond (x == 1) (Some y) (cond (y == 1) (Some x) None)))

-- repeat(nothing) and repeat(stay) are stay
abbrev pub repeat_rule : ℕ → Option ℕ
repeat_rule x = cond (x == 0) (Some 1) (cond (x == 1) (Some 1) None)

-- what the rule says, and where none fits the record
abbrev pub ruled : Contents → Option ℕ → ℕ → ℕ → ℕ → Outcome ℕ × Contents
ruled c None kind left right = made c kind left right
ruled c (Some z) kind left right = (done z, c)

abbrev pub step_made : Contents → ℕ → Outcome ℕ × Contents
step_made c j = made c 2 j 0

abbrev pub sum_made : Contents → ℕ → ℕ → Outcome ℕ × Contents
sum_made c x y = ruled c (sum_rule x y) 3 x y

abbrev pub then_made : Contents → ℕ → ℕ → Outcome ℕ × Contents
then_made c x y = ruled c (then_rule x y) 4 x y

abbrev pub repeat_made : Contents → ℕ → Outcome ℕ × Contents
repeat_made c x = ruled c (repeat_rule x) 5 x 0

-- expression z is in use, and is a record of this kind with these parts
pub record Is (d : Contents) (kind left right z : ℕ) : Type 0 where
  pub in_use : z < d.count
  pub of_kind : (slice_index_or d.records z blank).kind ≡ kind
  pub on-left : (slice_index_or d.records z blank).left ≡ left
  pub on-right : (slice_index_or d.records z blank).right ≡ right

-- expression z is what the rule says, and where none fits a record of this kind with these parts
abbrev pub RuledIs : Contents → Option ℕ → ℕ → ℕ → ℕ → ℕ → Type 0
RuledIs d rule kind left right z = MatchOption rule (Is d kind left right z) (λ simpler. z ≡ simpler)
