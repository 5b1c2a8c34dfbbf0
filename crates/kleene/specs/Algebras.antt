-- What an algebra means, and the laws that it keeps. Assumes nothing.
use Rattle.std.specs.Prelude.{◌≡◌, Bool, true, cond}

-- five operations, through which an expression can be read
pub record Operations (V : Type 0) : Type 0 where
  pub zero : V
  pub one : V
  pub sum : V → V → V
  pub product : V → V → V
  pub star : V → V

-- what an algebra means: which values are its members, and what the operations are on them
pub record Meaning (V : Type 0) : Type 0 where
  pub member : V → Bool
  pub on : Operations V

-- an operand that is no member counts as zero
abbrev pub taken : {V : Type 0} → Meaning V → V → V
taken m a = cond (m.member a) a m.on.zero

-- the operations at every value, as an implementation gives them
abbrev pub everywhere : {V : Type 0} → Meaning V → Operations V
everywhere m = record {
  zero = m.on.zero;
  one = m.on.one;
  sum = λ a b. m.on.sum (taken m a) (taken m b);
  product = λ a b. m.on.product (taken m a) (taken m b);
  star = λ a. m.on.star (taken m a);
}

module _ {V : Type 0} (m : Meaning V) where
  open m.on use {zero, one, sum as ◌⊕◌, product as ◌⊙◌, star}

  infixl 60 ◌⊕◌
  infixl 70 ◌⊙◌
  abbrev pub Member : V → Type 0
  Member a = m.member a ≡ true

  -- the order of the algebra
  abbrev pub Below : V → V → Type 0
  Below a b = a ⊕ b ≡ b

  -- the axioms of a Kleene algebra (Kozen, 1994), on members
  pub record Kleene : Type 0 where
    pub zero-member : Member zero
    pub one-member : Member one
    pub sum-member : (a b : V) → Member a → Member b → Member (a ⊕ b)
    pub product-member : (a b : V) → Member a → Member b → Member (a ⊙ b)
    pub star-member : (a : V) → Member a → Member (star a)
    pub sum_assoc : (a b c : V) → Member a → Member b → Member c → (a ⊕ b) ⊕ c ≡ a ⊕ (b ⊕ c)
    pub sum_comm : (a b : V) → Member a → Member b → a ⊕ b ≡ b ⊕ a
    pub sum_same : (a : V) → Member a → a ⊕ a ≡ a
    pub zero-sum : (a : V) → Member a → zero ⊕ a ≡ a
    pub product_assoc : (a b c : V) → Member a → Member b → Member c → (a ⊙ b) ⊙ c ≡ a ⊙ (b ⊙ c)
    pub one_product : (a : V) → Member a → one ⊙ a ≡ a
    pub product-one : (a : V) → Member a → a ⊙ one ≡ a
    pub zero-product : (a : V) → Member a → zero ⊙ a ≡ zero
    pub product-zero : (a : V) → Member a → a ⊙ zero ≡ zero
    pub product-sum : (a b c : V) → Member a → Member b → Member c → a ⊙ (b ⊕ c) ≡ a ⊙ b ⊕ a ⊙ c
    pub sum-product : (a b c : V) → Member a → Member b → Member c → (a ⊕ b) ⊙ c ≡ a ⊙ c ⊕ b ⊙ c
    pub star_first : (a : V) → Member a → Below (one ⊕ a ⊙ star a) (star a)
    pub star_last : (a : V) → Member a → Below (one ⊕ star a ⊙ a) (star a)
    pub least_first : (a b x : V) → Member a → Member b → Member x → Below (b ⊕ a ⊙ x) x → Below (star a ⊙ b) x
    pub least_last : (a b x : V) → Member a → Member b → Member x → Below (b ⊕ x ⊙ a) x → Below (b ⊙ star a) x
