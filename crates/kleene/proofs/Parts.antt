-- An algebra that works part by part, and whose members are told apart by their parts, keeps the laws that its parts
-- keep. Assumes nothing.
use Rattle.std.proofs.Common.{◌≡◌, ap}
use Rattle.kleene.specs.Algebras.{Meaning, Kleene, Member}

-- The values of m have parts, one for each i, with meanings k i. The operations of m work part by part, and members with
-- equal parts are equal.
pub record Parts {V I : Type 0} {W : I → Type 0} (m : Meaning V) (k : (i : I) → Meaning (W i)) (part : (i : I) → V → W i) : Type 0 where
  pub zero_part : (i : I) → part i m.on.zero ≡ (k i).on.zero
  pub one_part : (i : I) → part i m.on.one ≡ (k i).on.one
  pub sum_part : (i : I) (a b : V) → part i (m.on.sum a b) ≡ (k i).on.sum (part i a) (part i b)
  pub product_part : (i : I) (a b : V) → part i (m.on.product a b) ≡ (k i).on.product (part i a) (part i b)
  pub star_part : (i : I) (a : V) → part i (m.on.star a) ≡ (k i).on.star (part i a)
  pub member_part : (i : I) (a : V) → Member m a → Member (k i) (part i a)
  pub told : (a b : V) → Member m a → Member m b → ((i : I) → part i a ≡ part i b) → a ≡ b
  pub zero-member : Member m m.on.zero
  pub one-member : Member m m.on.one
  pub sum-member : (a b : V) → Member m a → Member m b → Member m (m.on.sum a b)
  pub product-member : (a b : V) → Member m a → Member m b → Member m (m.on.product a b)
  pub star-member : (a : V) → Member m a → Member m (m.on.star a)

module _ {V I : Type 0} {W : I → Type 0} {m : Meaning V} {k : (i : I) → Meaning (W i)} {part : (i : I) → V → W i}
    (p : Parts m k part) (laws : (i : I) → Kleene (k i)) where
  open p use {zero_part, one_part, sum_part, product_part, star_part, member_part, told, zero-member, one-member, sum-member, product-member, star-member}

  pub parts_laws : Kleene m
  parts_laws = record {
    zero-member = zero-member;
    one-member = one-member;
    sum-member = sum-member;
    product-member = product-member;
    star-member = star-member;
    sum_assoc = λ a b c ha hb hc. told _ _ (sum-member _ c (sum-member a b ha hb) hc) (sum-member a _ ha (sum-member b c hb hc))
        (λ i. simp (sum_part i) ((laws i).sum_assoc _ _ _ (member_part i a ha) (member_part i b hb) (member_part i c hc)));
    sum_comm = λ a b ha hb. told _ _ (sum-member a b ha hb) (sum-member b a hb ha)
        (λ i. simp (sum_part i) ((laws i).sum_comm _ _ (member_part i a ha) (member_part i b hb)));
    sum_same = λ a ha. told _ _ (sum-member a a ha ha) ha (λ i. simp (sum_part i) ((laws i).sum_same _ (member_part i a ha)));
    zero-sum = λ a ha. told _ _ (sum-member _ a zero-member ha) ha (λ i. simp (sum_part i, zero_part i) ((laws i).zero-sum _ (member_part i a ha)));
    product_assoc = λ a b c ha hb hc. told _ _ (product-member _ c (product-member a b ha hb) hc) (product-member a _ ha (product-member b c hb hc))
        (λ i. simp (product_part i) ((laws i).product_assoc _ _ _ (member_part i a ha) (member_part i b hb) (member_part i c hc)));
    one_product = λ a ha. told _ _ (product-member _ a one-member ha) ha (λ i. simp (product_part i, one_part i) ((laws i).one_product _ (member_part i a ha)));
    product-one = λ a ha. told _ _ (product-member a _ ha one-member) ha (λ i. simp (product_part i, one_part i) ((laws i).product-one _ (member_part i a ha)));
    zero-product = λ a ha. told _ _ (product-member _ a zero-member ha) zero-member
        (λ i. simp (product_part i, zero_part i) ((laws i).zero-product _ (member_part i a ha)));
    product-zero = λ a ha. told _ _ (product-member a _ ha zero-member) zero-member
        (λ i. simp (product_part i, zero_part i) ((laws i).product-zero _ (member_part i a ha)));
    product-sum = λ a b c ha hb hc. told _ _ (product-member a _ ha (sum-member b c hb hc)) (sum-member _ _ (product-member a b ha hb) (product-member a c ha hc))
        (λ i. simp (product_part i, sum_part i) ((laws i).product-sum _ _ _ (member_part i a ha) (member_part i b hb) (member_part i c hc)));
    sum-product = λ a b c ha hb hc. told _ _ (product-member _ c (sum-member a b ha hb) hc) (sum-member _ _ (product-member a c ha hc) (product-member b c hb hc))
        (λ i. simp (product_part i, sum_part i) ((laws i).sum-product _ _ _ (member_part i a ha) (member_part i b hb) (member_part i c hc)));
    star_first = λ a ha. let h = star-member a ha in
        told _ _ (sum-member _ _ (sum-member _ _ one-member (product-member a _ ha h)) h) h
        (λ i. simp (sum_part i, product_part i, star_part i, one_part i) ((laws i).star_first _ (member_part i a ha)));
    star_last = λ a ha. let h = star-member a ha in
        told _ _ (sum-member _ _ (sum-member _ _ one-member (product-member _ a h ha)) h) h
        (λ i. simp (sum_part i, product_part i, star_part i, one_part i) ((laws i).star_last _ (member_part i a ha)));
    least_first = λ a b x ha hb hx h. told _ _ (sum-member _ x (product-member _ b (star-member a ha) hb) hx) hx
        (λ i. simp (sum_part i, product_part i, star_part i)
        ((laws i).least_first _ _ _ (member_part i a ha) (member_part i b hb) (member_part i x hx) (simp (sum_part i, product_part i) at (ap (part i) h))));
    least_last = λ a b x ha hb hx h. told _ _ (sum-member _ x (product-member b _ hb (star-member a ha)) hx) hx
        (λ i. simp (sum_part i, product_part i, star_part i)
        ((laws i).least_last _ _ _ (member_part i a ha) (member_part i b hb) (member_part i x hx) (simp (sum_part i, product_part i) at (ap (part i) h))));
  }
