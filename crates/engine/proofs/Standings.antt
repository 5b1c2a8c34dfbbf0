-- Expressions of a store that stand for values: what is made of them stands for what the operation gives, and the run goes
-- on with it. Assumes nothing.
use Rattle.std.proofs.Common.{◌≡◌, ℕ, ◌<◌, sym, ap, ◌∙◌, subst₂, arith}
use Rattle.kleene.specs.Algebras.{Operations}
use Rattle.refusals.specs.Refused.{Outcome}
use Rattle.expressions.specs.Contents.{Contents, Sound, Grown}
use Rattle.expressions.specs.Making.{step_made, sum_made, then_made, repeat_made}
use Rattle.expressions.specs.Meanings.{meaning_of}
use Rattle.expressions.specs.Laws.{Got, MakingMeans}
use Rattle.planning.specs.Running.{Ran, then_with}
use Rattle.engine.proofs.Makings.{Named, Good, From, Makes, step_makes, sum_makes, then_makes, repeat_makes}
use Rattle.engine.proofs.Comings.{Comes, then_comes}

-- How expressions are taken for values: making means the operation in stores that name steps of a fact alone, where a value
-- that is added to itself gives one of which Ok holds.
pub record Taking {S : Type 0} (o : Operations S) (step : ℕ → S) (F : ℕ → Type 0) (Ok : S → Type 0) : Type 1 where
  pub Fit : Contents → Type 0
  pub Twice : Contents → ℕ → Type 0
  pub means : MakingMeans o step Fit Twice
  pub fits : (c : Contents) → Named F c → Fit c
  pub again : (c : Contents) (x : ℕ) → Ok (o.sum (meaning_of o step c x) (meaning_of o step c x)) → Twice c x

-- expression x of a store is in use and means a
pub record Stands {S : Type 0} (o : Operations S) (step : ℕ → S) (c : Contents) (x : ℕ) (a : S) : Type 0 where
  pub in_use : x < c.count
  pub means : meaning_of o step c x ≡ a

module _ {S : Type 0} {o : Operations S} {step : ℕ → S} {F : ℕ → Type 0} {Ok : S → Type 0} (taking : Taking o step F Ok) where
  open taking use {means, fits, again}

  -- so it does as the store grows
  pub stands_on : {c d : Contents} {x : ℕ} {a : S} → Sound c → Grown c d → Stands o step c x a → Stands o step d x a
  stands_on {c} {d} {x} sound grown s =
      record { in_use = omega arith; means = means.stays c d sound grown x s.in_use ∙ s.means }

  -- 0 and 1 are zero and one
  pub nothing_stands : {c : Contents} → Sound c → Stands o step c 0 o.zero
  nothing_stands {c} sound = record { in_use = omega arith; means = means.nothing c sound }

  pub stay_stands : {c : Contents} → Sound c → Stands o step c 1 o.one
  stay_stands {c} sound = record { in_use = omega arith; means = means.stay c sound }

  module _ {X : Type 0} (Q : Contents → X → Type 0) {c : Contents} (good : Good F c) (next : ℕ → Contents → Ran X) where
    -- the run goes on with what stands for a
    abbrev Goes : S → Type 0
    Goes a = (z : ℕ) (d : Contents) → From F c d → Stands o step d z a → Comes F Q d (next z d)

    -- with whatever is made, if it means a
    made_comes : (p : Outcome ℕ × Contents) (a : S) → Makes F c p → ((z : ℕ) (d : Contents) → Got p z d → meaning_of o step d z ≡ a) → Goes a →
        Comes F Q c (then_with p next)
    made_comes p a made is goes =
        then_comes F Q p next made.from (λ z d got from. goes z d from (record { in_use = made.in_use z d got; means = is z d got }))

    -- with a step, a sum, a then and a repeat
    pub step_comes : (j : ℕ) → F j → Goes (step j) → Comes F Q c (then_with (step_made c j) next)
    step_comes j fact = made_comes (step_made c j) (step j) (step_makes good j fact) (λ z d. means.steps c d j z good.sound)

    -- a value that is added to itself is one that may be
    pub sum_comes : {x y : ℕ} {a b : S} → Stands o step c x a → Stands o step c y b → Ok (o.sum a b) → Goes (o.sum a b) →
        Comes F Q c (then_with (sum_made c x y) next)
    sum_comes {x} {y} {a} {b} s t ok =
        made_comes (sum_made c x y) (o.sum a b) (sum_makes good x y s.in_use t.in_use) (λ z d got.
        means.sums c d x y z good.sound (fits c good.named) s.in_use t.in_use
        (λ e. again c x (subst₂ (λ p q. Ok (o.sum p q)) (sym s.means) (sym t.means ∙ ap (meaning_of o step c) (sym e)) ok)) got
        ∙ λ i. o.sum (s.means i) (t.means i))

    pub product_comes : {x y : ℕ} {a b : S} → Stands o step c x a → Stands o step c y b → Goes (o.product a b) →
        Comes F Q c (then_with (then_made c x y) next)
    product_comes {x} {y} {a} {b} s t =
        made_comes (then_made c x y) (o.product a b) (then_makes good x y s.in_use t.in_use) (λ z d got.
        means.thens c d x y z good.sound (fits c good.named) s.in_use t.in_use got ∙ λ i. o.product (s.means i) (t.means i))

    pub star_comes : {x : ℕ} {a : S} → Stands o step c x a → Goes (o.star a) → Comes F Q c (then_with (repeat_made c x) next)
    star_comes {x} {a} s =
        made_comes (repeat_made c x) (o.star a) (repeat_makes good x s.in_use) (λ z d got.
        means.repeats c d x z good.sound (fits c good.named) s.in_use got ∙ ap o.star s.means)
