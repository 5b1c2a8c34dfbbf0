-- Star semirings, in which elimination solves a network's equations: a Kleene algebra is one, and so are the counting
-- series. Assumes nothing.
use Rattle.std.proofs.Common.{◌≡◌}
use Rattle.kleene.specs.Algebras.{Operations}

-- A semiring with a star law that is asked of proper elements alone.
pub record StarSemiring {S : Type 0} (o : Operations S) (Proper : S → Type 0) : Type 0 where
  pub sum_assoc : (a b c : S) → o.sum (o.sum a b) c ≡ o.sum a (o.sum b c)
  pub sum_comm : (a b : S) → o.sum a b ≡ o.sum b a
  pub zero-sum : (a : S) → o.sum o.zero a ≡ a
  pub product_assoc : (a b c : S) → o.product (o.product a b) c ≡ o.product a (o.product b c)
  pub one_product : (a : S) → o.product o.one a ≡ a
  pub product-one : (a : S) → o.product a o.one ≡ a
  pub zero-product : (a : S) → o.product o.zero a ≡ o.zero
  pub product-zero : (a : S) → o.product a o.zero ≡ o.zero
  pub product-sum : (a b c : S) → o.product a (o.sum b c) ≡ o.sum (o.product a b) (o.product a c)
  pub sum-product : (a b c : S) → o.product (o.sum a b) c ≡ o.sum (o.product a c) (o.product b c)
  pub zero_proper : Proper o.zero
  pub sum_proper : (a b : S) → Proper a → Proper b → Proper (o.sum a b)
  pub product_proper_left : (a b : S) → Proper a → Proper (o.product a b)
  pub product_proper_right : (a b : S) → Proper b → Proper (o.product a b)
  pub star_unfolds : (a : S) → Proper a → o.star a ≡ o.sum o.one (o.product (o.star a) a)
