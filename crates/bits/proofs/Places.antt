-- The places of a number's bits as a list. Assumes nothing.
use Rattle.std.proofs.Common.{◌≡◌, ℕ, zero, suc, ◌+◌, ◌-◌, ◌^◌, ◌<◌, ◌≤◌, Bool, true, false, cond, not, ◌&&◌, ◌||◌, eqb, ltb, List, [], ◌∷◌, ◌++◌, filter, sym, refl, ap, ◌∙◌, ⊎_elim, zero-add, arith}
use lib.Bits.{bit_and}
use lib.Count.{count_trailing_zeros}
use Rattle.std.specs.Int.{w64}
use Rattle.std.specs.List.{range_with_len, list_any}
use Rattle.std.proofs.lemmas.Nat.Bits.{bit_at-trailing_zeros}
use Rattle.std.proofs.lemmas.List.Folds.{list_any-append}
use Rattle.std.proofs.lemmas.Bool.{cases_eq}
use Rattle.std.proofs.lemmas.Bool.Decides.{nat_tests}
use Rattle.bits.specs.Bits.{has, some, places}
use Rattle.bits.specs.BitsLemmas.{has-zero, has_above}
use Rattle.bits.proofs.Lowest.{has-taken}

none_from : (a n : ℕ) → filter (has 0) (range_with_len a n) ≡ []
none_from a zero = refl
none_from a (suc n) = (λ j. cond (has-zero a j) (a ∷ filter (has 0) (range_with_len (a + 1) n)) (filter (has 0) (range_with_len (a + 1) n))) ∙ none_from (a + 1) n

pub places-zero : (n : ℕ) → places n 0 ≡ []
unfolding places
places-zero n = none_from 0 n

-- y has the bits of x but for the one at t, which is the lowest
module _ (x y t : ℕ) (at : has x t ≡ true) (first : (i : ℕ) → i < t → has x i ≡ false) (taken : (i : ℕ) → has y i ≡ (has x i && not (eqb t i))) where
  abbrev from : ℕ → ℕ → ℕ → List ℕ
  from z a n = filter (has z) (range_with_len a n)

  alike_from : (a n : ℕ) → t < a → from x a n ≡ from y a n
  alike_from a zero h = refl
  alike_from a (suc n) h =
      let here : has x a ≡ has y a = let e = taken a in grind (arith, nat_tests) in
      let more = alike_from (a + 1) n (omega arith) in
      λ j. cond (here j) (a ∷ more j) (more j)

  lowest_from : (a n : ℕ) → a ≤ t → t < a + n → from x a n ≡ t ∷ from y a n
  lowest_from a zero low high = absurd (omega arith)
  lowest_from a (suc n) low high =
      ⊎_elim
      (λ e.
      let here : has x a ≡ true = ap (has x) e ∙ at in
      let gone : has y a ≡ false = let k = taken a in grind (arith, nat_tests) in
      let more = alike_from (a + 1) n (omega arith) in
      (λ j. cond (here j) (a ∷ from x (a + 1) n) (from x (a + 1) n)) ∙ (λ j. e j ∷ more j) ∙ (λ j. t ∷ cond (sym gone j) (a ∷ from y (a + 1) n) (from y (a + 1) n)))
      (λ other.
      let here : has x a ≡ false = first a (omega arith) in
      let gone : has y a ≡ false = let k = taken a in grind (arith, nat_tests) in
      (λ j. cond (here j) (a ∷ from x (a + 1) n) (from x (a + 1) n))
      ∙ lowest_from (a + 1) n (omega arith) (omega arith)
      ∙ (λ j. t ∷ cond (sym gone j) (a ∷ from y (a + 1) n) (from y (a + 1) n)))
      (cases_eq a t)

  places_from : (n : ℕ) → t < n → places n x ≡ t ∷ places n y
  unfolding places
  places_from n h = lowest_from 0 n (omega arith) (omega arith)

-- the lowest place, and then those of the number without it
pub places-lowest : (x : ℕ) → 0 < x → x < 2 ^ 64 → places 64 x ≡ count_trailing_zeros 64 x ∷ places 64 (bit_and x (x - 1))
places-lowest x pos small =
    let (within, at, first) = bit_at-trailing_zeros w64 x pos small in
    places_from x (bit_and x (x - 1)) (count_trailing_zeros 64 x) (ap (λ b. eqb b 1) at) (λ i h. ap (λ b. eqb b 1) (first i h))
    (λ i. has-taken 64 x i pos small) 64 within

range-last : (a n : ℕ) → range_with_len a (suc n) ≡ range_with_len a n ++ (a + n) ∷ []
range-last a zero = ap (λ k. k ∷ []) (omega arith)
range-last a (suc n) = ap (λ l. a ∷ l) (range-last (a + 1) n ∙ ap (λ k. range_with_len (a + 1) n ++ k ∷ []) (omega arith))

any-range : (n : ℕ) (test : ℕ → Bool) → list_any test (range_with_len 0 n) ≡ some n test
any-range zero test = refl
any-range (suc n) test =
    let last = ap (list_any test) (range-last 0 n) ∙ list_any-append test (range_with_len 0 n) ((0 + n) ∷ []) in
    let here = ap test (zero-add n) in
    let before = any-range n test in
    grind arith

any-filter : (p test : ℕ → Bool) (xs : List ℕ) → list_any test (filter p xs) ≡ list_any (λ i. p i && test i) xs
any-filter p test [] = refl
any-filter p test (x ∷ xs) =
    let rest = any-filter p test xs in
    elim (p x) as (λ b. list_any test (cond b (x ∷ filter p xs) (filter p xs)) ≡ ((b && test x) || list_any (λ i. p i && test i) xs)) [
      | true ↦ ap (λ t. test x || t) rest
      | false ↦ rest
    ]

some_past : (n : ℕ) (test : ℕ → Bool) → ((i : ℕ) → n ≤ i → test i ≡ false) → (k : ℕ) → n ≤ k → some k test ≡ some n test
some_past n test none zero h = let e : 0 ≡ n = omega arith in ap (λ m. some m test) e
some_past n test none (suc k) h =
    ⊎_elim
    (λ e. ap (λ m. some m test) (sym e))
    (λ other. let here = none k (omega arith) in let before = some_past n test none k (omega arith) in grind arith)
    (cases_eq n (suc k))

-- a test passes at some place of a number of n bits
pub any-places : (w n x : ℕ) (test : ℕ → Bool) → n ≤ w → x < 2 ^ n → list_any test (places w x) ≡ some n (λ i. has x i && test i)
unfolding places
any-places w n x test wide small =
    any-filter (has x) test (range_with_len 0 w)
    ∙ any-range w (λ i. has x i && test i)
    ∙ some_past n (λ i. has x i && test i) (λ i h. ap (λ b. b && test i) (has_above n x i small h)) w wide

pub some_never : (n : ℕ) (test : ℕ → Bool) → ((i : ℕ) → i < n → test i ≡ false) → some n test ≡ false
some_never zero test never = refl
some_never (suc n) test never = let here = never n (omega arith) in let rest = some_never n test (λ i h. never i (omega arith)) in grind arith

-- every place of a number of n bits is below n
pub places_below : (w n x : ℕ) → n ≤ w → x < 2 ^ n → list_any (λ i. not (ltb i n)) (places w x) ≡ false
places_below w n x wide small =
    any-places w n x (λ i. not (ltb i n)) wide small ∙ some_never n (λ i. has x i && not (ltb i n)) (λ i h. grind (arith, nat_tests))
