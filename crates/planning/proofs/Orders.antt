-- How the formats are listed, component by component, and how the places of an order are filled and read. Assumes nothing.
use Rattle.std.proofs.Common.{◌≡◌, ℕ, zero, suc, ◌+◌, ◌<◌, ◌≤◌, Bool, true, cond, eqb, ltb, ◌≢◌, List, [], ◌∷◌, ◌++◌, length, drop, sym, refl, ap, ◌∙◌, subst, inl, inr, append_assoc, append-nil, add-one, arith}
use Rattle.std.specs.List.{AllByRecursion as All}
use Rattle.std.proofs.ByRecursion.{All-weaker, All-get_or, All-from_get_or}
use Rattle.std.proofs.lemmas.List.{length-append, at_drop_more, length-drop, get_or-drop, get_or_past, drop-drop, drop_at}
use Rattle.std.proofs.lemmas.List.Sums.{take_while-cons}
use Rattle.std.proofs.lemmas.Bool.{cond_both, cond-true, cond-false, cases_lt, lt-ltb, eqb-true, eq-eqb, ne_eqb}
use Rattle.std.proofs.lemmas.Bool.Decides.{nat_tests}
use Rattle.elimination.specs.Moves.{keep, below, for_each}
use Rattle.elimination.proofs.Schedules.{every, all-below, all_keep, all-for_each}
use Rattle.planning.specs.Orders.{members_of, in_order, front}
use Rattle.planning.specs.Tables.{Places}
use Rattle.planning.proofs.Loads.{length-below, below_at}

module _ (test : ℕ → Bool) where
  -- one number more is kept if it passes
  keep_push : (xs : List ℕ) (v : ℕ) → keep test (xs ++ v ∷ []) ≡ keep test xs ++ cond (test v) (v ∷ []) []
  keep_push [] v = refl
  keep_push (x ∷ xs) v =
      let rest = keep_push xs v in
      cond_both (test x) (x ∷ keep test xs) (keep test xs) (λ ys. cond (test x) (x ∷ keep test (xs ++ v ∷ [])) (keep test (xs ++ v ∷ [])) ≡ ys ++ cond (test v) (v ∷ []) [])
      (λ e. cond-true (test x) _ _ e ∙ ap (λ ys. x ∷ ys) rest)
      (λ e. cond-false (test x) _ _ e ∙ rest)

  pub keep_more : (v : ℕ) → keep test (below (v + 1)) ≡ keep test (below v) ++ cond (test v) (v ∷ []) []
  keep_more v = ap (λ n. keep test (below n)) (add-one v) ∙ keep_push (below v) v

  -- more numbers, no fewer that are kept
  pub keep_rises : (n m : ℕ) → m ≤ n → length (keep test (below m)) ≤ length (keep test (below n))
  keep_rises zero m h = let e : m ≡ 0 = omega arith in subst (λ k. length (keep test (below k)) ≤ 0) (sym e) (omega arith)
  keep_rises (suc n) m h =
      let more = ap length (keep_push (below n) n) ∙ length-append (keep test (below n)) (cond (test n) (n ∷ []) []) in
      elim (cases_lt n m) [
        | inl l ↦ let e : m ≡ suc n = omega arith in subst (λ k. length (keep test (below k)) ≤ length (keep test (below (suc n)))) (sym e) (omega arith)
        | inr l ↦ let before = keep_rises n m l in omega arith
      ]

  -- no more are kept than there are
  keep_fewer : (xs : List ℕ) → length (keep test xs) ≤ length xs
  keep_fewer [] = omega arith
  keep_fewer (x ∷ xs) =
      let rest = keep_fewer xs in
      cond_both (test x) (x ∷ keep test xs) (keep test xs) (λ ys. length ys ≤ length (x ∷ xs)) (λ _. omega arith) (λ _. omega arith)

  -- all are kept where all pass
  keep_all : (xs : List ℕ) → All (λ v. test v ≡ true) xs → keep test xs ≡ xs
  keep_all [] h = refl
  keep_all (x ∷ xs) h = cond-true (test x) _ _ h.0 ∙ ap (λ ys. x ∷ ys) (keep_all xs h.1)

-- the members of some components, and of one more
pub for_more : {X : Type 0} (f : ℕ → List X) (xs : List ℕ) (c : ℕ) → for_each f (xs ++ c ∷ []) ≡ for_each f xs ++ f c
for_more f [] c = append-nil (f c)
for_more f (x ∷ xs) c = ap (λ ys. f x ++ ys) (for_more f xs c) ∙ sym (append_assoc (f x) (for_each f xs) (f c))

module _ (n : ℕ) (component : ℕ → ℕ) where
  pub in_order_more : (c : ℕ) → in_order n (c + 1) component ≡ in_order n c component ++ members_of n component c
  in_order_more c = ap (λ k. in_order n k component) (add-one c) ∙ for_more (members_of n component) (below c) c

  -- those of the components before c and those of c are those of the components up to c
  parted : (c : ℕ) (xs : List ℕ) → length (keep (λ v. ltb (component v) c) xs) + length (keep (λ v. eqb (component v) c) xs) ≡ length (keep (λ v. ltb (component v) (suc c)) xs)
  parted c [] = refl
  parted c (x ∷ xs) = let rest = parted c xs in grind (arith, nat_tests)

  -- so many are listed with the first c components
  length-in_order : (c : ℕ) → length (in_order n c component) ≡ length (keep (λ v. ltb (component v) c) (below n))
  length-in_order zero = sym (none (below n))
    where
      none : (xs : List ℕ) → length (keep (λ v. ltb (component v) 0) xs) ≡ 0
      none [] = refl
      none (x ∷ xs) = let rest = none xs in grind (arith, nat_tests)
  length-in_order (suc c) =
      let before = length-in_order c in
      ap length (for_more (members_of n component) (below c) c) ∙ length-append (in_order n c component) (members_of n component c) ∙ ap (λ k. k + length (members_of n component c)) before ∙ parted c (below n)

  -- no more than there are formats
  pub order-fits : (c : ℕ) → length (in_order n c component) ≤ n
  order-fits c = let fewer = keep_fewer (λ v. ltb (component v) c) (below n) in omega (arith, length-in_order c, length-below n)

  -- and all of them, where each has one of the components
  pub order_full : (c : ℕ) → ((v : ℕ) → v < n → component v < c) → length (in_order n c component) ≡ n
  order_full c counted = length-in_order c ∙ ap length (keep_all (λ v. ltb (component v) c) (below n) (All-weaker _ _ (λ v h. lt-ltb _ _ (counted v h)) (below n) (all-below n))) ∙ length-below n

module _ (component : ℕ → ℕ) (c : ℕ) where
  -- a list that begins with formats of a component, and goes on with others
  pub front_is : (xs ys : List ℕ) → All (λ v. component v ≡ c) xs → All (λ v. component v ≢ c) ys → front component c (xs ++ ys) ≡ xs
  front_is [] [] h k = refl
  front_is [] (y ∷ ys) h k = take_while-cons (λ v. eqb (component v) c) y ys ∙ cond-false (eqb (component y) c) _ _ (ne_eqb _ _ k.0)
  front_is (x ∷ xs) ys h k = take_while-cons (λ v. eqb (component v) c) x (xs ++ ys) ∙ cond-true (eqb (component x) c) _ _ (eq-eqb _ _ h.0) ∙ ap (λ zs. x ∷ zs) (front_is xs ys h.1 k)

module _ (component : ℕ → ℕ) (c : ℕ) where
  -- one format more of a component
  pub members-one : (v : ℕ) → component v ≡ c → members_of (v + 1) component c ≡ members_of v component c ++ v ∷ []
  members-one v e = keep_more (λ u. eqb (component u) c) v ∙ ap (λ vs. members_of v component c ++ vs) (cond-true _ _ _ (eq-eqb _ _ e))

  pub members-same : (v : ℕ) → component v ≢ c → members_of (v + 1) component c ≡ members_of v component c
  members-same v ne = keep_more (λ u. eqb (component u) c) v ∙ ap (λ vs. members_of v component c ++ vs) (cond-false _ _ _ (ne_eqb _ _ ne)) ∙ append-nil _

-- the numbers below n, from one on
pub below-from : (n c : ℕ) → c < n → drop c (below n) ≡ c ∷ drop (c + 1) (below n)
below-from n c h =
    let here = at_drop_more (λ cs. cs) (below n) c 0 (omega (arith, length-below n)) in
    here ∙ ap (λ k. k ∷ drop (c + 1) (below n)) (below_at n c h)

-- An order, walked from component to component: at component c the formats of c and of those after it are left.
module _ (n count : ℕ) (component : ℕ → ℕ) (order : List ℕ) where
  abbrev pub Standing : ℕ → ℕ → Type 0
  Standing c start = (start ≤ length order) × (drop start order ≡ for_each (members_of n component) (drop c (below count)))

  -- what is left begins with the formats of c
  begins : (c start : ℕ) → c < count → Standing c start →
      drop start order ≡ members_of n component c ++ for_each (members_of n component) (drop (c + 1) (below count))
  begins c start h s = s.1 ∙ ap (for_each (members_of n component)) (below-from count c h)

  -- those of later components are of another
  later_differ : (c : ℕ) (cs : List ℕ) → All (λ d. c < d) cs → All (λ v. component v ≢ c) (for_each (members_of n component) cs)
  later_differ c cs later =
      all-for_each (λ v. component v ≢ c) (members_of n component) cs
      (All-weaker _ _ (λ d h. All-weaker _ _ (λ v k e. let is = eqb-true _ _ k.1 in omega arith) (members_of n component d) (all_keep (λ _. Unit {0}) (λ v. eqb (component v) d) (below n) (every _ (λ _. tt) (below n)))) cs later)

  standing_group : (c start : ℕ) → c < count → Standing c start → front component c (drop start order) ≡ members_of n component c
  standing_group c start h s =
      ap (front component c) (begins c start h s)
      ∙ front_is component c (members_of n component c) (for_each (members_of n component) (drop (c + 1) (below count)))
      (All-weaker _ _ (λ v k. eqb-true _ _ k.1) (members_of n component c) (all_keep (λ _. Unit {0}) (λ v. eqb (component v) c) (below n) (every _ (λ _. tt) (below n))))
      (later_differ c (drop (c + 1) (below count))
      (All-from_get_or _ _ 0 (λ i l. let within : c + 1 + i < count = omega (arith, length-drop (c + 1) (below count), length-below count) in rw (get_or-drop, below_at) (omega arith))))

  -- the next component stands after its formats
  standing_next : (c start : ℕ) → c < count → Standing c start → Standing (c + 1) (start + length (members_of n component c))
  standing_next c start h s =
      let k = length (members_of n component c) in
      let rest = for_each (members_of n component) (drop (c + 1) (below count)) in
      let left = begins c start h s in
      let long = ap length left ∙ length-append (members_of n component c) rest in
      (omega (arith, length-drop start order), sym (drop-drop k start order) ∙ ap (drop k) left ∙ drop_at (members_of n component c) rest k refl)

  -- what is read there is the formats of c, and the next component stands after them
  pub standing_turn : (c start : ℕ) (group : List ℕ) → c < count → Standing c start → group ≡ front component c (drop start order) →
      (group ≡ members_of n component c) × Standing (c + 1) (start + length group)
  standing_turn c start group h s e =
      let is = e ∙ standing_group c start h s in
      (is, subst (λ g. Standing (c + 1) (start + length g)) (sym is) (standing_next c start h s))

  -- an order that is listed so is stood at its beginning
  pub standing_first : order ≡ in_order n count component → Standing 0 0
  standing_first listed = (omega arith, listed)

-- formats below 32 are places of a row
pub all-places : (xs : List ℕ) → All (λ v. v < 32) xs → Places xs
all-places xs all k = elim (cases_lt k (length xs)) [ inl l ↦ All-get_or (λ v. v < 32) xs k 0 l all | inr l ↦ rw get_or_past (omega arith) ]

module _ (n : ℕ) (component : ℕ → ℕ) (few : n ≤ 32) where
  members-below : (c : ℕ) → All (λ v. v < 32) (members_of n component c)
  members-below c =
      All-weaker _ (λ v. v < 32) (λ v h. omega arith) (members_of n component c) (All-weaker _ (λ v. v < n) (λ v h. h.0) _ (all_keep (λ v. v < n) (λ v. eqb (component v) c) (below n) (all-below n)))

  pub members-places : (c : ℕ) → Places (members_of n component c)
  members-places c = all-places _ (members-below c)

  pub order-places : (count : ℕ) → Places (in_order n count component)
  order-places count = all-places _ (all-for_each (λ v. v < 32) (members_of n component) (below count) (every _ members-below (below count)))
