-- The laws of a Kleene algebra at every value, where an operand that is no member counts as zero. Assumes nothing.
use Rattle.std.proofs.Common.{◌≡◌, sym, ap, ◌∙◌}
use Rattle.std.proofs.lemmas.Bool.{cond_both, cond-true}
use Rattle.kleene.specs.Algebras.{Meaning, Kleene, Member, taken, everywhere}

module _ {V : Type 0} (m : Meaning V) (laws : Kleene m) where
  open everywhere m use {one, product as ◌⊙◌}

  infixl 70 ◌⊙◌
  pub taken-member : (a : V) → Member m (taken m a)
  taken-member a = cond_both (m.member a) a m.on.zero (Member m) (λ e. e) (λ _. laws.zero-member)

  pub taken_of_member : (a : V) → Member m a → taken m a ≡ a
  taken_of_member a h = cond-true (m.member a) a m.on.zero h

  pub product-member : (a b : V) → Member m (a ⊙ b)
  product-member a b = laws.product-member _ _ (taken-member a) (taken-member b)

  pub product_assoc : (a b c : V) → (a ⊙ b) ⊙ c ≡ a ⊙ (b ⊙ c)
  product_assoc a b c =
      ap (λ x. m.on.product x (taken m c)) (taken_of_member _ (product-member a b))
      ∙ laws.product_assoc _ _ _ (taken-member a) (taken-member b) (taken-member c)
      ∙ ap (m.on.product (taken m a)) (sym (taken_of_member _ (product-member b c)))

  pub product-one : (a : V) → Member m a → a ⊙ one ≡ a
  product-one a h =
      ap (m.on.product (taken m a)) (taken_of_member _ laws.one-member)
      ∙ laws.product-one _ (taken-member a)
      ∙ taken_of_member a h
