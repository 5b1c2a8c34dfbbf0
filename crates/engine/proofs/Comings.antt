-- What comes of a run in the store, from what comes of each expression that it makes. Assumes nothing.
use Rattle.std.proofs.Common.{ℕ, refl}
use Rattle.refusals.specs.Refused.{Outcome, done, refused}
use Rattle.expressions.specs.Contents.{Contents, Grown}
use Rattle.expressions.specs.Laws.{Got}
use Rattle.planning.specs.Running.{Ran, through, stopped, then_with, onward}
use Rattle.planning.proofs.Runs.{grown-on}
use Rattle.engine.proofs.Makings.{Good, From, unchanged}

module _ {F : ℕ → Type 0} where
  -- a store that is good has come from itself
  pub from_here : {c : Contents} → Good F c → From F c c
  from_here {c} good = record { good = good; grown = unchanged c }

  -- what has come from a store has come from what that has grown from
  pub from_on : {b c d : Contents} → Grown b c → From F c d → From F b d
  from_on grown from = record { good = from.good; grown = grown-on grown from.grown }

-- a run, gone through or stopped, leaves a good store that has grown; and where it went through, a fact of what it gives holds
abbrev pub Comes : (F : ℕ → Type 0) {X : Type 0} → (Contents → X → Type 0) → Contents → Ran X → Type 0
Comes F Q c (through d x) = From F c d × Q d x
Comes F Q c (stopped d n v) = From F c d

module _ (F : ℕ → Type 0) {X : Type 0} (Q : Contents → X → Type 0) where
  -- what comes of a run comes of it from an earlier store too
  comes_from : {b c : Contents} (ran : Ran X) → Grown b c → Comes F Q c ran → Comes F Q b ran
  comes_from (through d x) grown h = (from_on grown h.0, h.1)
  comes_from (stopped d n v) grown h = from_on grown h

  -- an expression is made, and the run goes on with it
  pub then_comes : {c : Contents} (p : Outcome ℕ × Contents) (next : ℕ → Contents → Ran X) → From F c p.1 →
      ((z : ℕ) (d : Contents) → Got p z d → From F c d → Comes F Q d (next z d)) → Comes F Q c (then_with p next)
  then_comes (done z, d) next from goes = comes_from (next z d) from.grown (goes z d refl from)
  then_comes (refused n v, d) next from goes = from

  -- a run goes on where the one before it went through
  pub onward_comes : {Y : Type 0} (R : Contents → Y → Type 0) {c : Contents} (ran : Ran Y) (next : Contents → Y → Ran X) → Comes F R c ran →
      ((d : Contents) (y : Y) → From F c d → R d y → Comes F Q d (next d y)) → Comes F Q c (onward ran next)
  onward_comes R (through d y) next h goes = comes_from (next d y) h.0.grown (goes d y h.0 h.1)
  onward_comes R (stopped d n v) next h goes = h
