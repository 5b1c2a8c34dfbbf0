-- The equations of a network, and their solutions in an algebra. Assumes nothing.
use Rattle.std.specs.Prelude.{◌≡◌, ℕ, zero, suc, ◌<◌, Bool, cond, ◌&&◌, length, ◌==◌}
use Rattle.kleene.specs.Algebras.{Operations, Meaning, Member, Below}
use Rattle.elimination.specs.Networks.{Network, arc, InForce}

module _ {V : Type 0} (o : Operations V) where
  -- the value where the test passes, else zero
  abbrev pub when : Bool → V → V
  when test a = cond test a o.zero

  -- the sum of f 0, f 1, .. up to but not with f n
  abbrev pub sum_below : ℕ → (ℕ → V) → V
  sum_below zero f = o.zero
  sum_below (suc n) f = o.sum (sum_below n f) (f n)

  -- one at the source, zero at every other format
  abbrev pub start : ℕ → ℕ → V
  start s t = when (t == s) o.one

  -- what comes into t: the sum, over the steps in force that end there, of the value where the step begins times its weight
  unfoldable pub inflow : Network → (ℕ → V) → (ℕ → V) → ℕ → V
  inflow N weight x t =
      sum_below (length N.steps) (λ j. when ((arc N j).in_force && (arc N j).to == t) (o.product (x (arc N j).from) (weight j)))

module _ {V : Type 0} (m : Meaning V) where
  -- the weights of the steps in force are members
  abbrev pub Weighed : Network → (ℕ → V) → Type 0
  Weighed N weight = (j : ℕ) → InForce N j → Member m (weight j)

  -- one member for each format, such that x t is what comes into t, with one added where t is the source
  pub record Solution (N : Network) (s : ℕ) (weight : ℕ → V) (x : ℕ → V) : Type 0 where
    pub members : (t : ℕ) → t < N.formats → Member m (x t)
    pub holds : (t : ℕ) → t < N.formats → x t ≡ m.on.sum (start m.on s t) (inflow m.on N weight x t)

  -- a solution that is at each format below every other
  pub record Least (N : Network) (s : ℕ) (weight : ℕ → V) (x : ℕ → V) : Type 0 where
    pub solves : Solution N s weight x
    pub below : (y : ℕ → V) → Solution N s weight y → (t : ℕ) → t < N.formats → Below m (x t) (y t)
