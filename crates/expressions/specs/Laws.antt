-- Making an expression means the operation that it is named after. Assumes nothing.
use Rattle.std.specs.Prelude.{◌≡◌, ℕ, ◌<◌, List, slice_index_or}
use Rattle.kleene.specs.Algebras.{Operations, Meaning, Member}
use Rattle.refusals.specs.Refused.{Outcome, done}
use Rattle.elimination.specs.Series.{counting, letter}
use Rattle.expressions.specs.Layout.{blank}
use Rattle.expressions.specs.Contents.{Contents, Sound, Grown}
use Rattle.expressions.specs.Making.{step_made, sum_made, then_made, repeat_made}
use Rattle.expressions.specs.Meanings.{meaning_of, ways}

-- an expression was made: it has this number, and these are the contents after it
abbrev pub Got : Outcome ℕ × Contents → ℕ → Contents → Type 0
Got made z d = ◌≡◌ {A = Outcome ℕ × Contents} made (done z, d)

-- What is made means what it is called, in a store that is sound and fit for the operations. A sum of an expression with
-- itself is that expression, which is right where it may be said twice.
pub record MakingMeans {S : Type 0} (o : Operations S) (step : ℕ → S) (Fit : Contents → Type 0) (Twice : Contents → ℕ → Type 0) : Type 0 where
  -- what an expression means does not change as the store grows
  pub stays : (c d : Contents) → Sound c → Grown c d → (x : ℕ) → x < c.count → meaning_of o step d x ≡ meaning_of o step c x
  pub nothing : (c : Contents) → Sound c → meaning_of o step c 0 ≡ o.zero
  pub stay : (c : Contents) → Sound c → meaning_of o step c 1 ≡ o.one
  pub steps : (c d : Contents) (j z : ℕ) → Sound c → Got (step_made c j) z d → meaning_of o step d z ≡ step j
  pub sums :
      (c d : Contents) (x y z : ℕ) → Sound c → Fit c → x < c.count → y < c.count → (x ≡ y → Twice c x) → Got (sum_made c x y) z d →
      meaning_of o step d z ≡ o.sum (meaning_of o step c x) (meaning_of o step c y)
  pub thens :
      (c d : Contents) (x y z : ℕ) → Sound c → Fit c → x < c.count → y < c.count → Got (then_made c x y) z d →
      meaning_of o step d z ≡ o.product (meaning_of o step c x) (meaning_of o step c y)
  pub repeats :
      (c d : Contents) (x z : ℕ) → Sound c → Fit c → x < c.count → Got (repeat_made c x) z d →
      meaning_of o step d z ≡ o.star (meaning_of o step c x)

-- the steps that a store names have members for weights
abbrev pub WeighedIn : {V : Type 0} → Meaning V → (ℕ → V) → Contents → Type 0
WeighedIn m weight c = (i : ℕ) → i < c.count → (slice_index_or c.records i blank).kind ≡ 2 → Member m (weight (slice_index_or c.records i blank).left)

-- in an algebra, for weights that are members at the steps that the store names
abbrev pub ReadingMeans : {V : Type 0} → Meaning V → Type 0
ReadingMeans {V} m = (weight : ℕ → V) → MakingMeans m.on weight (WeighedIn m weight) (λ _ _. Unit {0})

-- in counts of ways, where an expression that is added to itself spells nothing
abbrev pub WaysMean : Type 0
WaysMean = MakingMeans counting letter (λ _. Unit {0}) (λ c x. (js : List ℕ) → ways c x js ≡ 0)
