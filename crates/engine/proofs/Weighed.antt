-- In a Kleene algebra: the row that is traced in the store reads as the least solution of the network's equations. Assumes
-- nothing.
use Rattle.std.proofs.Common.{◌≡◌, ℕ, sym, subst}
use mathlib.Core.Path.{fun_ext}
use Rattle.kleene.specs.Algebras.{Meaning, Kleene}
use Rattle.elimination.specs.Networks.{Network, InForce}
use Rattle.elimination.specs.Equations.{Weighed, Least}
use Rattle.elimination.specs.Moves.{traced}
use Rattle.elimination.proofs.Least.{solves-and-least}
use Rattle.expressions.specs.Contents.{Contents}
use Rattle.expressions.specs.Meanings.{meaning_of}
use Rattle.expressions.specs.Laws.{WeighedIn}
use Rattle.expressions.proofs.Readings.{readings_mean_spec}
use Rattle.engine.proofs.Makings.{Named, From}
use Rattle.engine.proofs.Standings.{Taking}
use Rattle.engine.proofs.Meanings.{Rows}
use Rattle.engine.proofs.Traces.{Traces, row_stands}

-- a store that names steps in force alone has members for weights
pub weighed_in : {V : Type 0} (m : Meaning V) (weight : ℕ → V) (N : Network) → Weighed m N weight → (c : Contents) → Named (InForce N) c → WeighedIn m weight c
weighed_in m weight N weighed c named i h step = weighed _ (named i h step)

module _ {V : Type 0} (m : Meaning V) (laws : Kleene m) (weight : ℕ → V) (N : Network) (weighed : Weighed m N weight) where
  -- expressions are taken for what they read as
  read : Taking m.on weight (InForce N) (λ _. Unit {0})
  read = record {
    Fit = WeighedIn m weight;
    Twice = λ _ _. Unit {0};
    means = readings_mean_spec m laws weight;
    fits = weighed_in m weight N weighed;
    again = λ _ _ _. tt;
  }

  module _ {count : ℕ} {component : ℕ → ℕ} {s : ℕ} {c d later e : Contents} {Q : ℕ → ℕ → ℕ} {R : ℕ → ℕ}
      (t : Traces N count component s c d later e Q R) (names : Named (InForce N) c) (more : Named (InForce N) later) where
    -- the row stands for what elimination gives
    stands : From (InForce N) later e × Rows m.on weight e R (traced m.on weight N count component s)
    stands = row_stands read N count component (λ _ force. force) t (λ _ _ _ _ _. tt) (λ _ _ _ _. tt) names more

    -- so it reads as that
    pub reads_traced : (v : ℕ) → meaning_of m.on weight e (R v) ≡ traced m.on weight N count component s v
    reads_traced v = (stands.1 v).means

    -- in a store whose steps have members for weights
    pub reads_weighed : WeighedIn m weight e
    reads_weighed = weighed_in m weight N weighed e stands.0.good.named

    -- so it is the least solution
    pub reads_least : Least m N s weight (λ v. meaning_of m.on weight e (R v))
    reads_least =
        subst (Least m N s weight) (sym (fun_ext reads_traced)) (solves-and-least m laws N count component s weight t.joined t.ordered t.source weighed)
