-- Sums over a list of numbers, in a star semiring. Assumes nothing.
use Rattle.std.proofs.Common.{◌≡◌, ℕ, zero, suc, Bool, true, cond, eqb, List, [], ◌∷◌, ◌++◌, sym, refl, ap, ◌∙◌, ap₂, arith}
use Rattle.std.proofs.lemmas.Bool.Decides.{nat_tests}
use Rattle.kleene.specs.Algebras.{Operations}
use Rattle.elimination.specs.Equations.{when, sum_below}
use Rattle.elimination.specs.Moves.{keep, below}
use Rattle.elimination.proofs.Semirings.{StarSemiring}
use Rattle.elimination.proofs.Lists.{has, Distinct}

-- the sum of f v over each v of the list
abbrev pub total : {S : Type 0} → Operations S → List ℕ → (ℕ → S) → S
total o [] f = o.zero
total o (v ∷ vs) f = o.sum (f v) (total o vs f)

module _ {S : Type 0} {o : Operations S} {Proper : S → Type 0} (laws : StarSemiring o Proper) where
  open o use {zero as nil, sum as ◌⊕◌, product as ◌⊙◌}
  open laws use {sum_assoc, sum_comm, zero-sum, sum-product, zero-product}

  infixl 60 ◌⊕◌
  infixl 70 ◌⊙◌
  pub sum-zero : (a : S) → a ⊕ nil ≡ a
  sum-zero a = sum_comm a nil ∙ zero-sum a

  pub left_comm : (a b c : S) → a ⊕ (b ⊕ c) ≡ b ⊕ (a ⊕ c)
  left_comm a b c = sym (sum_assoc a b c) ∙ ap (λ d. d ⊕ c) (sum_comm a b) ∙ sum_assoc b a c

  pub total_same : (vs : List ℕ) (f g : ℕ → S) → ((u : ℕ) → has vs u ≡ true → f u ≡ g u) → total o vs f ≡ total o vs g
  total_same [] f g same = refl
  total_same (v ∷ vs) f g same =
      ap₂ ◌⊕◌ (same v (grind (arith, nat_tests))) (total_same vs f g (λ u h. same u (grind (arith, nat_tests))))

  pub total_zero : (vs : List ℕ) (f : ℕ → S) → ((u : ℕ) → has vs u ≡ true → f u ≡ nil) → total o vs f ≡ nil
  total_zero [] f none = refl
  total_zero (v ∷ vs) f none =
      ap₂ ◌⊕◌ (none v (grind (arith, nat_tests))) (total_zero vs f (λ u h. none u (grind (arith, nat_tests)))) ∙ zero-sum nil

  pub total_sum : (vs : List ℕ) (f g : ℕ → S) → total o vs (λ u. f u ⊕ g u) ≡ total o vs f ⊕ total o vs g
  total_sum [] f g = sym (zero-sum nil)
  total_sum (v ∷ vs) f g = ap (λ a. f v ⊕ g v ⊕ a) (total_sum vs f g) ∙ simp (sum_assoc, sum_comm)

  pub total_product : (vs : List ℕ) (f : ℕ → S) (a : S) → total o vs (λ u. f u ⊙ a) ≡ total o vs f ⊙ a
  total_product [] f a = sym (zero-product a)
  total_product (v ∷ vs) f a = ap (λ b. f v ⊙ a ⊕ b) (total_product vs f a) ∙ sym (sum-product (f v) (total o vs f) a)

  -- one term raised
  pub total-raised :
      (vs : List ℕ) (f : ℕ → S) (v : ℕ) (a : S) → Distinct vs →
      total o vs (λ u. cond (eqb u v) (f u ⊕ a) (f u)) ≡ total o vs f ⊕ when o (has vs v) a
  total-raised [] f v a d = sym (zero-sum nil)
  total-raised (w ∷ vs) f v a d = let before = total-raised vs f v a d.1 in grind (arith, nat_tests, sum-zero, sum_assoc, sum_comm)

  pub total_keep : (test : ℕ → Bool) (vs : List ℕ) (f : ℕ → S) → total o (keep test vs) f ≡ total o vs (λ u. when o (test u) (f u))
  total_keep test [] f = refl
  total_keep test (v ∷ vs) f = let before = total_keep test vs f in grind (arith, zero-sum)

  total_push : (vs : List ℕ) (v : ℕ) (f : ℕ → S) → total o (vs ++ v ∷ []) f ≡ total o vs f ⊕ f v
  total_push [] v f = sum_comm (f v) nil
  total_push (w ∷ vs) v f = ap (λ a. f w ⊕ a) (total_push vs v f) ∙ sym (sum_assoc (f w) (total o vs f) (f v))

  pub total_below : (n : ℕ) (f : ℕ → S) → sum_below o n f ≡ total o (below n) f
  total_below zero f = refl
  total_below (suc n) f = ap (λ a. a ⊕ f n) (total_below n f) ∙ sym (total_push (below n) n f)
