-- Sets of phases keep the laws of a Kleene algebra. Assumes nothing.
use Rattle.std.specs.Prelude.{◌≡◌, ℕ, zero, suc, ◌+◌, ◌-◌, ◌*◌, ◌/◌, ◌%◌, ◌^◌, ◌<◌, ◌≤◌, Bool, true, ◌⊎◌, Decides, bit_or, nat_lt, refl}
use Rattle.std.proofs.Common.{ap, ap₂, sym, subst, subst₂, ◌∙◌, inl, inr, ⊎_elim, arith, add_comm, add_assoc, suc-mul, mod-eq_of_lt}
use Rattle.std.proofs.Math.Bool.{or_assoc}
use Rattle.std.specs.Int.{◌∣◌}
use Rattle.std.proofs.Math.Nat.{dvd-zero, dvd-add, dvd-mod_iff, div-mul_cancel, mod-add-div', mod-add-mod, add-mod-mod, add-mod_right, add-mul-mod_self_left}
use Rattle.std.specs.Int.Bits.{or_zero_l, or_self}
use Rattle.std.proofs.lemmas.Nat.{pow_pos, pow_below, mod_below, or_comm, or_lt}
use Rattle.std.proofs.lemmas.Bool.{both_ways, ltb-true, lt-ltb}
use Rattle.std.proofs.lemmas.Bool.Decides.{same_from_decides, Decides-at, Decides-and, Decides-or, Decides-eqb, Decides-below_or}
use Rattle.kleene.specs.Algebras.{Kleene}
use Rattle.bits.specs.Bits.{has, some}
use Rattle.algebras.specs.Phases.{gcd_with, phase_meaning}
use Rattle.bits.specs.BitsLemmas.{has-or, has_half, has-zero, same_bits, set_of-below, has-set_of}
use Rattle.algebras.specs.Divisors.{decides_divides, gcd_common, gcd_within}

-- phase i is in the set x
abbrev In : ℕ → ℕ → Type 0
In x i = has x i ≡ true

decides_itself : (r : Bool) → Decides r (r ≡ true)
decides_itself r = (λ e. e, λ e. e)

decides_some : (n : ℕ) (test : ℕ → Bool) (P : ℕ → Type 0) → ((k : ℕ) → Decides (test k) (P k)) → Decides (some n test) ((k : ℕ) × (k < n) × P k)
decides_some n test P each = Decides-below_or test P (λ k. some k test) each refl (λ _. refl) n

not_in_zero : (i : ℕ) → In 0 i → ⊥
not_in_zero i = both_ways (has 0 i) (has-zero i)

in_one : (i : ℕ) → In 1 i → i ≡ 0
in_one zero h = refl
in_one (suc i) h = absurd (not_in_zero i (sym (has_half 1 i) ∙ h))

in_sum : (a b i : ℕ) → Decides (has (bit_or a b) i) (In a i ⊎ In b i)
in_sum a b i = Decides-at _ _ (has-or a b i) (Decides-or _ _ (decides_itself (has a i)) (decides_itself (has b i)))

module _ (m : ℕ) (pos : 1 ≤ m) where
  open (phase_meaning m).on use {product as ◌⊙◌, star}

  infixl 70 ◌⊙◌
  -- every phase of a is one of b
  abbrev Inside : ℕ → ℕ → Type 0
  Inside a b = (i : ℕ) → i < m → In a i → In b i

  same-sets : (a b : ℕ) → a < 2 ^ m → b < 2 ^ m → Inside a b → Inside b a → a ≡ b
  same-sets a b ha hb there back = same_bits m a b ha hb (λ i h. same_from_decides _ _ (there i h, back i h) (decides_itself (has b i)))

  -- the sum is the least set with both
  left_inside : (a b : ℕ) → Inside a (bit_or a b)
  left_inside a b i h x = (in_sum a b i).1 (inl x)

  right_inside : (a b : ℕ) → Inside b (bit_or a b)
  right_inside a b i h x = (in_sum a b i).1 (inr x)

  sum_inside : (a b c : ℕ) → Inside a c → Inside b c → Inside (bit_or a b) c
  sum_inside a b c p q i h x = ⊎_elim (p i h) (q i h) ((in_sum a b i).0 x)

  -- the order of the algebra is inclusion
  inside_below : (a b : ℕ) → a < 2 ^ m → b < 2 ^ m → Inside a b → bit_or a b ≡ b
  inside_below a b ha hb p = same-sets (bit_or a b) b (or_lt m a b ha hb) hb (sum_inside a b b p (λ i h x. x)) (right_inside a b)

  below_inside : (a b : ℕ) → bit_or a b ≡ b → Inside a b
  below_inside a b e i h x = subst (λ s. In s i) e (left_inside a b i h x)

  -- a remainder is a phase
  rest : (n : ℕ) → n % m < m
  rest n = mod_below n m pos

  in_product : (a b k : ℕ) → k < m → Decides (has (a ⊙ b) k) ((i : ℕ) × (i < m) × ((j : ℕ) × (j < m) × (In a i × (In b j × ((i + j) % m ≡ k)))))
  in_product a b k h =
      Decides-at _ _ (has-set_of m _ k h) (decides_some m _ _ (λ i. decides_some m _ _ (λ j.
      Decides-and _ _ (decides_itself (has a i)) (Decides-and _ _ (decides_itself (has b j)) (Decides-eqb ((i + j) % m) k)))))

  -- the product has the sums of phases, and no other phase
  product-has : (a b i j : ℕ) → i < m → j < m → In a i → In b j → In (a ⊙ b) ((i + j) % m)
  product-has a b i j hi hj x y = (in_product a b ((i + j) % m) (rest (i + j))).1 (i, hi, (j, hj, (x, (y, refl))))

  product-all : (a b : ℕ) (P : ℕ → Type 0) → ((i j : ℕ) → i < m → j < m → In a i → In b j → P ((i + j) % m)) → (k : ℕ) → k < m → In (a ⊙ b) k → P k
  product-all a b P each k h z =
      let (i, hi, (j, hj, (x, (y, e)))) = (in_product a b k h).0 z in
      subst P e (each i j hi hj x y)

  product-below : (a b : ℕ) → a ⊙ b < 2 ^ m
  product-below a b = set_of-below m _

  swap_inside : (a b : ℕ) → Inside (a ⊙ b) (b ⊙ a)
  swap_inside a b = product-all a b (In (b ⊙ a)) (λ i j hi hj x y. subst (λ n. In (b ⊙ a) (n % m)) (add_comm j i) (product-has b a j i hj hi y x))

  swap : (a b : ℕ) → a ⊙ b ≡ b ⊙ a
  swap a b = same-sets (a ⊙ b) (b ⊙ a) (product-below a b) (product-below b a) (swap_inside a b) (swap_inside b a)

  regroup : (i j k : ℕ) → (i + (j + k) % m) % m ≡ ((i + j) % m + k) % m
  regroup i j k = add-mod-mod i (j + k) m ∙ ap (λ n. n % m) (sym (add_assoc i j k)) ∙ sym (mod-add-mod (i + j) m k)

  regroup_inside : (a b c : ℕ) → Inside (a ⊙ b ⊙ c) (a ⊙ (b ⊙ c))
  regroup_inside a b c =
      let whole = a ⊙ (b ⊙ c) in
      product-all (a ⊙ b) c (In whole) (λ n k hn hk w z. product-all a b (λ n. In whole ((n + k) % m)) (λ i j hi hj x y.
      subst (In whole) (regroup i j k) (product-has a (b ⊙ c) i ((j + k) % m) hi (rest (j + k)) x (product-has b c j k hj hk y z))) n hn w)

  -- the way back is the way there, from the other end
  assoc : (a b c : ℕ) → a ⊙ b ⊙ c ≡ a ⊙ (b ⊙ c)
  assoc a b c =
      let turned = swap (c ⊙ b) a ∙ ap (λ s. a ⊙ s) (swap c b) in
      let turned-back = swap c (b ⊙ a) ∙ ap (λ s. s ⊙ c) (swap b a) in
      same-sets _ _ (product-below (a ⊙ b) c) (product-below a (b ⊙ c)) (regroup_inside a b c) (subst₂ Inside turned turned-back (regroup_inside c b a))

  within-product : (a b c : ℕ) → Inside b c → Inside (a ⊙ b) (a ⊙ c)
  within-product a b c p = product-all a b (In (a ⊙ c)) (λ i j hi hj x y. product-has a c i j hi hj x (p j hj y))

  distribute : (a b c : ℕ) → a ⊙ bit_or b c ≡ bit_or (a ⊙ b) (a ⊙ c)
  distribute a b c =
      same-sets _ _ (product-below a (bit_or b c)) (or_lt m (a ⊙ b) (a ⊙ c) (product-below a b) (product-below a c))
      (product-all a (bit_or b c) (In (bit_or (a ⊙ b) (a ⊙ c))) (λ i j hi hj x y. (in_sum (a ⊙ b) (a ⊙ c) ((i + j) % m)).1
      (⊎_elim (λ z. inl (product-has a b i j hi hj x z)) (λ z. inr (product-has a c i j hi hj x z)) ((in_sum b c j).0 y))))
      (sum_inside (a ⊙ b) (a ⊙ c) (a ⊙ bit_or b c)
      (within-product a b (bit_or b c) (left_inside b c)) (within-product a c (bit_or b c) (right_inside b c)))

  nothing : (a : ℕ) → 0 ⊙ a ≡ 0
  nothing a =
      same-sets (0 ⊙ a) 0 (product-below 0 a) (pow_pos m)
      (product-all 0 a (In 0) (λ i j hi hj x y. absurd (not_in_zero i x)))
      (λ i h x. absurd (not_in_zero i x))

  small : (i n : ℕ) → n ≡ i → i < m → n % m ≡ i
  small i n e h = ap (λ k. k % m) e ∙ mod-eq_of_lt h

  neutral : (a : ℕ) → a < 2 ^ m → 1 ⊙ a ≡ a
  neutral a ha =
      same-sets (1 ⊙ a) a (product-below 1 a) ha
      (product-all 1 a (In a) (λ i j hi hj x y. subst (In a) (sym (small j (i + j) (omega (arith, in_one i x)) hj)) y))
      (λ i h x. subst (In (1 ⊙ a)) (small i (0 + i) (omega arith) h) (product-has 1 a 0 i pos h refl x))

  in_star : (a k : ℕ) → k < m → Decides (has (star a) k) (gcd_with m a ∣ k)
  in_star a k h = Decides-at _ _ (has-set_of m _ k h) (decides_divides (gcd_with m a) k)

  star-below : (a : ℕ) → star a < 2 ^ m
  star-below a = set_of-below m _

  step_inside : (a : ℕ) → Inside (bit_or 1 (a ⊙ star a)) (star a)
  step_inside a =
      let g = gcd_with m a in
      let divisor = gcd_common m a pos in
      sum_inside 1 (a ⊙ star a) (star a)
      (λ i h x. (in_star a i h).1 (subst (λ n. g ∣ n) (sym (in_one i x)) (dvd-zero g)))
      (product-all a (star a) (In (star a)) (λ i j hi hj x y.
      (in_star a ((i + j) % m) (rest (i + j))).1 ((dvd-mod_iff g divisor.0).1 (dvd-add g (divisor.1 i hi x) ((in_star a j hj).0 y)))))

  -- to add t keeps a phase in x
  abbrev Keeps : ℕ → ℕ → Type 0
  Keeps x t = (i : ℕ) → i < m → In x i → In x ((i + t) % m)

  keeps_sum : (x t u : ℕ) → Keeps x t → Keeps x u → Keeps x (t + u)
  keeps_sum x t u p q i h y = subst (In x) (sym (regroup i t u) ∙ add-mod-mod i (t + u) m) (q ((i + t) % m) (rest (i + t)) (p i h y))

  keeps_multiple : (x t : ℕ) → Keeps x t → (n : ℕ) → Keeps x (n * t)
  keeps_multiple x t p zero = λ i h y. subst (In x) (sym (small i (i + 0 * t) (omega arith) h)) y
  keeps_multiple x t p (suc n) = subst (Keeps x) (sym (suc-mul n t)) (keeps_sum x (n * t) t (keeps_multiple x t p n) p)

  -- to add v and then m - 1 times v more adds a multiple of m, so the part v of t can be undone
  keeps_rest : (x t u : ℕ) → Keeps x t → Keeps x u → Keeps x (t % u)
  keeps_rest x t u p q i h y =
      let v = t / u * u in
      let times : (m - 1) * v + v ≡ m * v = sym (suc-mul (m - 1) v) ∙ ap (λ n. n * v) (omega arith) in
      let whole : i + (t + (m - 1) * v) ≡ i + t % u + m * v = omega (arith, mod-add-div' t u) in
      let undo = keeps_multiple x v (keeps_multiple x u q (t / u)) (m - 1) in
      subst (In x) (ap (λ n. n % m) whole ∙ add-mul-mod_self_left (i + t % u) m v) (keeps_sum x t ((m - 1) * v) p undo i h y)

  keeps_gcd : (a x : ℕ) → Inside (a ⊙ x) x → Keeps x (gcd_with m a)
  keeps_gcd a x p =
      gcd_within m a pos (Keeps x) (keeps_rest x)
      (λ i h y. subst (In x) (sym (add-mod_right i m ∙ mod-eq_of_lt h)) y)
      (λ j hj y i hi z. subst (λ n. In x (n % m)) (add_comm j i) (p ((j + i) % m) (rest (j + i)) (product-has a x j i hj hi y z)))

  star_inside : (a b x : ℕ) → Inside b x → Inside (a ⊙ x) x → Inside (star a ⊙ b) x
  star_inside a b x p q =
      let g = gcd_with m a in
      product-all (star a) b (In x) (λ j i hj hi y z.
      let keeps = subst (Keeps x) (div-mul_cancel g ((in_star a j hj).0 y)) (keeps_multiple x g (keeps_gcd a x q) (j / g)) in
      subst (λ n. In x (n % m)) (add_comm i j) (keeps i hi (p i hi z)))

  sum_assoc : (a b c : ℕ) → a < 2 ^ m → b < 2 ^ m → c < 2 ^ m → bit_or (bit_or a b) c ≡ bit_or a (bit_or b c)
  sum_assoc a b c ha hb hc =
      same_bits m _ _ (or_lt m (bit_or a b) c (or_lt m a b ha hb) hc) (or_lt m a (bit_or b c) ha (or_lt m b c hb hc))
      (λ i _. simp has-or (or_assoc (has a i) (has b i) (has c i)))

  star_first : (a : ℕ) → bit_or (bit_or 1 (a ⊙ star a)) (star a) ≡ star a
  star_first a =
      inside_below (bit_or 1 (a ⊙ star a)) (star a) (or_lt m 1 (a ⊙ star a) (pow_below 0 m pos) (product-below a (star a))) (star-below a) (step_inside a)

  least_first : (a b x : ℕ) → x < 2 ^ m → bit_or (bit_or b (a ⊙ x)) x ≡ x → bit_or (star a ⊙ b) x ≡ x
  least_first a b x hx h =
      let inside = below_inside (bit_or b (a ⊙ x)) x h in
      inside_below (star a ⊙ b) x (product-below (star a) b) hx
      (star_inside a b x (λ i k y. inside i k (left_inside b (a ⊙ x) i k y)) (λ i k y. inside i k (right_inside b (a ⊙ x) i k y)))

  member : (a : ℕ) → a < 2 ^ m → nat_lt a (2 ^ m) ≡ true
  member a = lt-ltb a (2 ^ m)

  from_member : (a : ℕ) → nat_lt a (2 ^ m) ≡ true → a < 2 ^ m
  from_member a = ltb-true a (2 ^ m)

  -- each right-hand law comes from its left-hand one
  pub phase_laws : Kleene (phase_meaning m)
  phase_laws = record {
    zero-member = member 0 (pow_pos m);
    one-member = member 1 (pow_below 0 m pos);
    sum-member = λ a b ha hb. member (bit_or a b) (or_lt m a b (from_member a ha) (from_member b hb));
    product-member = λ a b _ _. member (a ⊙ b) (product-below a b);
    star-member = λ a _. member (star a) (star-below a);
    sum_assoc = λ a b c ha hb hc. sum_assoc a b c (from_member a ha) (from_member b hb) (from_member c hc);
    sum_comm = λ a b _ _. or_comm a b;
    sum_same = λ a _. or_self a;
    zero-sum = λ a _. or_zero_l a;
    product_assoc = λ a b c _ _ _. assoc a b c;
    one_product = λ a ha. neutral a (from_member a ha);
    product-one = λ a ha. swap a 1 ∙ neutral a (from_member a ha);
    zero-product = λ a _. nothing a;
    product-zero = λ a _. swap a 0 ∙ nothing a;
    product-sum = λ a b c _ _ _. distribute a b c;
    sum-product = λ a b c _ _ _. swap (bit_or a b) c ∙ distribute c a b ∙ ap₂ bit_or (swap c a) (swap c b);
    star_first = λ a _. star_first a;
    star_last = λ a _. subst (λ s. bit_or (bit_or 1 s) (star a) ≡ star a) (swap a (star a)) (star_first a);
    least_first = λ a b x _ _ hx. least_first a b x (from_member x hx);
    least_last = λ a b x _ _ hx h.
        subst (λ s. bit_or s x ≡ x) (swap (star a) b)
        (least_first a b x (from_member x hx) (subst (λ s. bit_or (bit_or b s) x ≡ x) (swap x a) h));
  }
