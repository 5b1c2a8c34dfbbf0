-- The equations of the network with a loop, from those of any network. Assumes nothing.
use Rattle.std.proofs.Common.{◌≡◌, ℕ, zero, suc, ◌<◌, true, List, [], ◌∷◌, sym, refl, ◌∙◌, arith}
use Rattle.kleene.specs.Algebras.{Meaning, Kleene, Member}
use Rattle.elimination.specs.Equations.{Solution, Least, inflow}
use Rattle.expressions.specs.Layout.{in_force}
use Rattle.engine.specs.Querying.{weight_in}
use Rattle.worked.specs.Around.{around, steps_around, Around, LeastAround}

-- what holds at 0, 1 and 2 holds below 3
below_3 : (P : ℕ → Type 0) → P 0 → P 1 → P 2 → (t : ℕ) → t < 3 → P t
below_3 P a b c zero h = a
below_3 P a b c (suc zero) h = b
below_3 P a b c (suc (suc zero)) h = c
below_3 P a b c (suc (suc (suc t))) h = absurd (omega arith)

module _ {V : Type 0} (m : Meaning V) (laws : Kleene m) where
  open m.on use {zero as nil, one, sum as ◌⊕◌, product as ◌⊙◌}

  infixl 60 ◌⊕◌
  infixl 70 ◌⊙◌
  -- nothing added to a member
  sum-zero : (a : V) → Member m a → a ⊕ nil ≡ a
  sum-zero a h = laws.sum_comm a nil h laws.zero-member ∙ laws.zero-sum a h

  -- the sums over the four steps, without those that do not end at the format
  at_0 : one ⊕ (nil ⊕ nil ⊕ nil ⊕ nil ⊕ nil) ≡ one
  at_0 = let p = laws.zero-sum nil laws.zero-member in let q = sum-zero one laws.one-member in cc

  at_1 : (a b : V) → Member m a → Member m b → nil ⊕ (nil ⊕ a ⊕ nil ⊕ b ⊕ nil) ≡ a ⊕ b
  at_1 a b h k =
      let p = laws.zero-sum a h in
      let q = sum-zero a h in
      let r = sum-zero (a ⊕ b) (laws.sum-member a b h k) in
      let s = laws.zero-sum (a ⊕ b) (laws.sum-member a b h k) in
      cc

  at_2 : (a : V) → Member m a → nil ⊕ (nil ⊕ nil ⊕ a ⊕ nil ⊕ nil) ≡ a
  at_2 a h = let p = laws.zero-sum nil laws.zero-member in let q = sum-zero a h in let r = laws.zero-sum a h in cc

  module _ (weight : ℕ → V) (weighed : (j : ℕ) → in_force steps_around j ≡ true → Member m (weight j)) where
    -- a solution keeps the equations
    solution_around : (x : ℕ → V) → Solution m around 0 weight x → Around m (weight 0) (weight 1) (weight 2) (x 0) (x 1) (x 2)
    unfolding inflow
    solution_around x s =
        let h0 = s.members 0 (omega arith) in
        let h1 = s.members 1 (omega arith) in
        let h2 = s.members 2 (omega arith) in
        record {
          member_0 = h0;
          member_1 = h1;
          member_2 = h2;
          at_0 = s.holds 0 (omega arith) ∙ at_0;
          at_1 = s.holds 1 (omega arith) ∙ at_1 _ _ (laws.product-member _ _ h0 (weighed 0 refl)) (laws.product-member _ _ h2 (weighed 2 refl));
          at_2 = s.holds 2 (omega arith) ∙ at_2 _ (laws.product-member _ _ h1 (weighed 1 refl));
        }

    -- and what keeps them is a solution
    around_solution : (y : ℕ → V) → Around m (weight 0) (weight 1) (weight 2) (y 0) (y 1) (y 2) → Solution m around 0 weight y
    unfolding inflow
    around_solution y s = record {
      members = below_3 (λ t. Member m (y t)) s.member_0 s.member_1 s.member_2;
      holds = below_3 _
          (s.at_0 ∙ sym at_0)
          (s.at_1 ∙ sym (at_1 _ _ (laws.product-member _ _ s.member_0 (weighed 0 refl)) (laws.product-member _ _ s.member_2 (weighed 2 refl))))
          (s.at_2 ∙ sym (at_2 _ (laws.product-member _ _ s.member_1 (weighed 1 refl))));
    }

  -- least answers of the network are least answers of its equations
  pub least-around : (w x : List V) → ((j : ℕ) → in_force steps_around j ≡ true → Member m (weight_in m w j)) →
      Least m around 0 (weight_in m w) (weight_in m x) → LeastAround m w x
  least-around w x weighed least = record {
    solves = solution_around (weight_in m w) weighed (weight_in m x) least.solves;
    below = λ y0 y1 y2 s.
        let below = least.below _ (around_solution (weight_in m w) weighed (weight_in m (y0 ∷ y1 ∷ y2 ∷ [])) s) in
        (below 0 (omega arith), below 1 (omega arith), below 2 (omega arith));
  }
