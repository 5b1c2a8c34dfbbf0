-- The members of a Kleene algebra are a type of their own, on which its laws hold everywhere; so they are a star semiring in
-- which every element is proper. Assumes nothing.
use Rattle.std.proofs.Common.{◌≡◌, ℕ, true, List, ◌++◌, fold, sym, refl, ap, ◌∙◌, subst}
use mathlib.Core.Bool.{Bool-set}
use mathlib.Core.HLevel.{Σ_prop_path}
use Rattle.kleene.specs.Algebras.{Operations, Meaning, Kleene, Member, taken}
use Rattle.kleene.proofs.Everywhere.{taken-member, taken_of_member}
use Rattle.elimination.specs.Networks.{Network, InForce}
use Rattle.elimination.specs.Equations.{Weighed}
use Rattle.elimination.specs.Moves.{Act, Move, act, move, no_table, first_row, sealing, tracing, sealed, traced}
use Rattle.elimination.proofs.Semirings.{StarSemiring}
use Rattle.elimination.proofs.Runs.{Homomorphism, sealing_agrees, tracing_agrees, traced_agrees}

-- operations of which every value is a member
abbrev pub whole : {S : Type 0} → Operations S → Meaning S
whole o = record { member = λ _. true; on = o }

module _ {V : Type 0} (m : Meaning V) where
  -- a value with the proof that it is a member
  abbrev pub Members : Type 0
  Members = (a : V) × Member m a

  -- a member is told by its value
  pub same-member : (a b : Members) → a.0 ≡ b.0 → a ≡ b
  same-member a b e = Σ_prop_path (λ x. Bool-set (m.member x) true) e

module _ {V : Type 0} (m : Meaning V) (laws : Kleene m) where
  open laws use {zero-member, one-member, sum-member, product-member, star-member}

  -- the operations on the members
  abbrev pub on_members : Operations (Members m)
  on_members = record {
    zero = (m.on.zero, zero-member);
    one = (m.on.one, one-member);
    sum = λ a b. (m.on.sum a.0 b.0, sum-member _ _ a.1 b.1);
    product = λ a b. (m.on.product a.0 b.0, product-member _ _ a.1 b.1);
    star = λ a. (m.on.star a.0, star-member _ a.1);
  }

  pub value_respects : Homomorphism on_members m.on (λ a. a.0)
  value_respects = record { zero = refl; one = refl; sum = λ _ _. refl; product = λ _ _. refl; star = λ _. refl }

  -- a value as a member, zero if it is none
  abbrev pub as_member : V → Members m
  as_member a = (taken m a, taken-member m laws a)

  pub value_as_member : (a : V) → Member m a → (as_member a).0 ≡ a
  value_as_member = taken_of_member m laws

  pub members_laws : Kleene (whole on_members)
  members_laws = record {
    zero-member = refl;
    one-member = refl;
    sum-member = λ _ _ _ _. refl;
    product-member = λ _ _ _ _. refl;
    star-member = λ _ _. refl;
    sum_assoc = λ a b c _ _ _. same-member m _ _ (laws.sum_assoc _ _ _ a.1 b.1 c.1);
    sum_comm = λ a b _ _. same-member m _ _ (laws.sum_comm _ _ a.1 b.1);
    sum_same = λ a _. same-member m _ _ (laws.sum_same _ a.1);
    zero-sum = λ a _. same-member m _ _ (laws.zero-sum _ a.1);
    product_assoc = λ a b c _ _ _. same-member m _ _ (laws.product_assoc _ _ _ a.1 b.1 c.1);
    one_product = λ a _. same-member m _ _ (laws.one_product _ a.1);
    product-one = λ a _. same-member m _ _ (laws.product-one _ a.1);
    zero-product = λ a _. same-member m _ _ (laws.zero-product _ a.1);
    product-zero = λ a _. same-member m _ _ (laws.product-zero _ a.1);
    product-sum = λ a b c _ _ _. same-member m _ _ (laws.product-sum _ _ _ a.1 b.1 c.1);
    sum-product = λ a b c _ _ _. same-member m _ _ (laws.sum-product _ _ _ a.1 b.1 c.1);
    star_first = λ a _. same-member m _ _ (laws.star_first _ a.1);
    star_last = λ a _. same-member m _ _ (laws.star_last _ a.1);
    least_first = λ a b x _ _ _ h. same-member m _ _ (laws.least_first _ _ _ a.1 b.1 x.1 (ap (λ e. e.0) h));
    least_last = λ a b x _ _ _ h. same-member m _ _ (laws.least_last _ _ _ a.1 b.1 x.1 (ap (λ e. e.0) h));
  }

module _ {S : Type 0} (o : Operations S) (laws : Kleene (whole o)) where
  open o use {zero, one, sum as ◌⊕◌, product as ◌⊙◌, star}
  open laws use {sum_assoc, sum_comm, sum_same, zero-sum, product_assoc, one_product, product-one, sum-product, star_last, least_last}

  infixl 60 ◌⊕◌
  infixl 70 ◌⊙◌
  infix 50 ◌≼◌
  -- the order of the algebra
  abbrev ◌≼◌ : S → S → Type 0
  a ≼ b = a ⊕ b ≡ b

  pub below_trans : {a b c : S} → a ≼ b → b ≼ c → a ≼ c
  below_trans {a} {b} {c} h k = cc (sum_assoc a b c refl refl refl)

  pub below_both : {a b : S} → a ≼ b → b ≼ a → a ≡ b
  below_both {a} {b} h k = sym k ∙ sum_comm b a refl refl ∙ h

  -- a sum is the least that is above both
  pub sum-below : {a b c : S} → a ≼ c → b ≼ c → a ⊕ b ≼ c
  sum-below {a} {b} {c} h k = cc (sum_assoc a b c refl refl refl)

  pub left_below : (a b : S) → a ≼ a ⊕ b
  left_below a b = cc (sum_assoc a a b refl refl refl, sum_same a refl)

  pub right-below : (a b : S) → b ≼ a ⊕ b
  right-below a b = cc (sum_assoc b b a refl refl refl, sum_comm a b refl refl, sum_same b refl)

  pub product-below : {a b : S} (c : S) → a ≼ b → a ⊙ c ≼ b ⊙ c
  product-below {a} {b} c h = cc (sum-product a b c refl refl refl)

  star_is : (a : S) → star a ≡ one ⊕ star a ⊙ a
  star_is a =
      let fall = star_last a refl in
      let again = sum-below (left_below one (star a ⊙ a)) (below_trans (product-below a fall) (right-below one (star a ⊙ a))) in
      below_both (subst (λ x. x ≼ one ⊕ star a ⊙ a) (one_product (star a) refl) (least_last a one (one ⊕ star a ⊙ a) refl refl refl again)) fall

  pub kleene_semiring : StarSemiring o (λ _. Unit {0})
  kleene_semiring = record {
    sum_assoc = λ a b c. laws.sum_assoc a b c refl refl refl;
    sum_comm = λ a b. laws.sum_comm a b refl refl;
    zero-sum = λ a. laws.zero-sum a refl;
    product_assoc = λ a b c. laws.product_assoc a b c refl refl refl;
    one_product = λ a. laws.one_product a refl;
    product-one = λ a. laws.product-one a refl;
    zero-product = λ a. laws.zero-product a refl;
    product-zero = λ a. laws.product-zero a refl;
    product-sum = λ a b c. laws.product-sum a b c refl refl refl;
    sum-product = λ a b c. laws.sum-product a b c refl refl refl;
    zero_proper = tt;
    sum_proper = λ _ _ _ _. tt;
    product_proper_left = λ _ _ _. tt;
    product_proper_right = λ _ _ _. tt;
    star_unfolds = λ a _. star_is a;
  }

module _ {V : Type 0} (m : Meaning V) (laws : Kleene m) where
  pub members_semiring : StarSemiring (on_members m laws) (λ _. Unit {0})
  members_semiring = kleene_semiring (on_members m laws) (members_laws m laws)

  -- where the weights of the steps in force are members, the run among the values is the run among the members
  module _ (N : Network) (component : ℕ → ℕ) (weight : ℕ → V) (weighed : Weighed m N weight) where
    abbrev over : Operations (Members m)
    over = on_members m laws

    -- the weights as members
    abbrev lifted : ℕ → Members m
    lifted j = as_member m laws (weight j)

    pub weights_agree : (j : ℕ) → InForce N j → (lifted j).0 ≡ weight j
    weights_agree j force = value_as_member m laws (weight j) (weighed j force)

    pub sealing-members : (count : ℕ) (done rest : List Act) → done ++ rest ≡ sealing N count component → (u w : ℕ) →
        Member m (fold (act m.on weight) (no_table m.on weight) done u w)
    sealing-members count done rest e u w = subst (Member m)
        (sealing_agrees (λ a. a.0) (value_respects m laws) lifted weight N component weights_agree count done rest e u w)
        (fold (act over lifted) (no_table over lifted) done u w).1

    pub tracing-members : (count s : ℕ) (done rest : List Move) → done ++ rest ≡ tracing N count component → (t : ℕ) →
        Member m (fold (move m.on weight (sealed m.on weight N count component)) (first_row m.on weight s) done t)
    tracing-members count s done rest e t = subst (Member m)
        (tracing_agrees (λ a. a.0) (value_respects m laws) lifted weight N component weights_agree count s done rest e t)
        (fold (move over lifted (sealed over lifted N count component)) (first_row over lifted s) done t).1

    pub traced_value : (count s t : ℕ) → (traced over lifted N count component s t).0 ≡ traced m.on weight N count component s t
    traced_value = traced_agrees (λ a. a.0) (value_respects m laws) lifted weight N component weights_agree
