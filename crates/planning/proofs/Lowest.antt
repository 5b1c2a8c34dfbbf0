-- The lowest number that passes a test, and how many pass it. Assumes nothing.
use Rattle.std.proofs.Common.{◌≡◌, ℕ, zero, suc, ◌+◌, ◌<◌, ◌≤◌, Bool, true, false, cond, Option, Some, None, MatchOption, Decides, sym, refl, ap, ◌∙◌, ⊎_elim, arith}
use Rattle.std.proofs.lemmas.Bool.{cases_Bool, cases_eq, cases_lt, both_ways, and_cases}
use Rattle.std.proofs.lemmas.Bool.Decides.{Decides-below_and}
use Rattle.planning.specs.Components.{lowest, every}

pub lowest-within : (n : ℕ) (test : ℕ → Bool) → lowest n test ≤ n
lowest-within zero test = omega arith
lowest-within (suc n) test = let rest = lowest-within n (λ i. test (suc i)) in grind arith

pub lowest-passes : (n : ℕ) (test : ℕ → Bool) → lowest n test < n → test (lowest n test) ≡ true
lowest-passes zero test h = absurd (omega arith)
lowest-passes (suc n) test h =
    ⊎_elim
    (λ e. ap (λ b. test (cond b 0 (suc (lowest n (λ i. test (suc i)))))) e ∙ e)
    (λ e. ap (λ b. test (cond b 0 (suc (lowest n (λ i. test (suc i)))))) e ∙ lowest-passes n (λ i. test (suc i)) (grind arith))
    (cases_Bool (test 0))

-- none below it passes
pub lowest-first : (n : ℕ) (test : ℕ → Bool) (k : ℕ) → k < lowest n test → test k ≡ false
lowest-first zero test k h = absurd (omega arith)
lowest-first (suc n) test zero h = grind arith
lowest-first (suc n) test (suc k) h = lowest-first n (λ i. test (suc i)) k (grind arith)

pub lowest-under : (n : ℕ) (test : ℕ → Bool) (k : ℕ) → test k ≡ true → lowest n test ≤ k
lowest-under n test k e = ⊎_elim (λ h. absurd (both_ways (test k) (lowest-first n test k h) e)) (λ h. h) (cases_lt k (lowest n test))

module _ (n : ℕ) (test : ℕ → Bool) where
  -- it is the bound where none below the bound passes, and k where k is the first
  pub lowest_none : ((i : ℕ) → i < n → test i ≡ false) → lowest n test ≡ n
  lowest_none none =
      let within = lowest-within n test in
      ⊎_elim (λ h. absurd (both_ways _ (none _ h) (lowest-passes n test h))) (λ h. omega arith) (cases_lt (lowest n test) n)

  pub lowest_is : (k : ℕ) → k < n → test k ≡ true → ((i : ℕ) → i < k → test i ≡ false) → lowest n test ≡ k
  lowest_is k small passes none =
      let under = lowest-under n test k passes in
      ⊎_elim (λ h. absurd (both_ways _ (none _ h) (lowest-passes n test (omega arith)))) (λ h. omega arith) (cases_lt (lowest n test) k)

-- what a search over the numbers below n finds
pub lowest_found : (n : ℕ) (test : ℕ → Bool) (r : Option ℕ) →
    MatchOption r ((k : ℕ) → 0 ≤ k → k < n → test k ≡ false) (λ w. (0 ≤ w) × (w < n) × (test w ≡ true) × ((k : ℕ) → 0 ≤ k → k < w → test k ≡ false)) →
    MatchOption r (lowest n test ≡ n) (λ w. (w < n) × (w ≡ lowest n test))
lowest_found n test None none = lowest_none n test (λ i h. none i (omega arith) h)
lowest_found n test (Some w) (first, low, passes, before) = (low, sym (lowest_is n test w low passes (λ i h. before i (omega arith) h)))

pub decides_every : (n : ℕ) (test : ℕ → Bool) → Decides (every n test) ((k : ℕ) → k < n → test k ≡ true)
decides_every n test = Decides-below_and test (λ k. test k ≡ true) (λ m. every m test) (λ k. (λ e. e, λ e. e)) refl (λ _. refl) n

pub every-same : (n : ℕ) (f g : ℕ → Bool) → ((k : ℕ) → k < n → f k ≡ g k) → every n f ≡ every n g
every-same zero f g same = refl
every-same (suc n) f g same = let here = same n (omega arith) in let below = every-same n f g (λ k h. same k (omega arith)) in cc

pub lowest-same : (n : ℕ) (f g : ℕ → Bool) → ((k : ℕ) → k < n → f k ≡ g k) → lowest n f ≡ lowest n g
lowest-same zero f g same = refl
lowest-same (suc n) f g same =
    let here = same 0 (omega arith) in
    let above = lowest-same n (λ i. f (suc i)) (λ i. g (suc i)) (λ k h. same (suc k) (omega arith)) in
    cc

pub one_fails : (n : ℕ) (test : ℕ → Bool) → every n test ≡ false → (k : ℕ) × (k < n) × (test k ≡ false)
one_fails zero test e = absurd (grind arith)
one_fails (suc n) test e =
    ⊎_elim
    (λ here. (n, omega arith, here))
    (λ below. let (k, h, fails) = one_fails n test below in (k, omega arith, fails))
    (and_cases (test n) (every n test) e)

-- how many numbers below n pass the test
abbrev pub tally : ℕ → (ℕ → Bool) → ℕ
tally zero test = 0
tally (suc n) test = cond (test n) 1 0 + tally n test

tally_within : (n : ℕ) (test : ℕ → Bool) → tally n test ≤ n
tally_within zero test = omega arith
tally_within (suc n) test = let rest = tally_within n test in grind arith

pub tally_all_lem : (n : ℕ) (test : ℕ → Bool) → n ≤ tally n test → (k : ℕ) → k < n → test k ≡ true
tally_all_lem zero test h k small = absurd (omega arith)
tally_all_lem (suc n) test h k small =
    let rest = tally_within n test in
    ⊎_elim (λ e. ap test e ∙ grind arith) (λ other. tally_all_lem n test (grind arith) k (omega arith)) (cases_eq k n)

module _ (f g : ℕ → Bool) (more : (k : ℕ) → f k ≡ true → g k ≡ true) where
  tally_keeps : (n : ℕ) → tally n f ≤ tally n g
  tally_keeps zero = omega arith
  tally_keeps (suc n) = let rest = tally_keeps n in let here = more n in grind arith

  -- one more passes
  pub tally_more : (n k : ℕ) → k < n → f k ≡ false → g k ≡ true → tally n f < tally n g
  tally_more zero k small fails passes = absurd (omega arith)
  tally_more (suc n) k small fails passes =
      let here = more n in
      ⊎_elim
      (λ e. let rest = tally_keeps n in let p = ap f e in let q = ap g e in grind arith)
      (λ other. let rest = tally_more n k (omega arith) fails passes in grind arith)
      (cases_eq k n)

-- one number that fails fails them all
pub every-false : (n : ℕ) (test : ℕ → Bool) (k : ℕ) → k < n → test k ≡ false → every n test ≡ false
every-false n test k h fails = go (every n test) refl
  where
    go : (t : Bool) → every n test ≡ t → every n test ≡ false
    go true e = let passes = (decides_every n test).0 e k h in let never : ◌≡◌ {A = ℕ} 0 1 = cc in absurd (omega arith)
    go false e = e
