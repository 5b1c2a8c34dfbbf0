-- The greatest common divisor of a modulus and the phases of a set. Assumes nothing.
use Rattle.std.specs.Prelude.{◌≡◌, ℕ, zero, suc, ◌%◌, ◌<◌, ◌≤◌, Bool, true, false, cond, not, ◌&&◌, ◌||◌, Decides, refl}
use Rattle.std.proofs.Common.{sym, subst, ⊎_elim, arith, le_antisymm}
use Rattle.std.specs.Int.{◌∣◌}
use Rattle.std.proofs.Math.Nat.{dvd_refl, dvd-zero, dvd_trans, one-dvd, dvd-mod_iff, le_of_dvd, pos_of_dvd_of_pos, dvd_of_mod-eq-zero, mod-eq-zero_of_dvd, mod_self}
use Rattle.std.proofs.lemmas.Nat.{mod_below}
use Rattle.std.proofs.lemmas.Bool.{both_ways, false≢true, cases_eq, cond_both, cond-true}
use Rattle.std.proofs.lemmas.Bool.Decides.{Decides-and, Decides-like, Decides-eqb, Decides-below_and}
use Rattle.bits.specs.Bits.{has, every}
use Rattle.algebras.specs.Phases.{divides, greatest, gcd_with}

pub decides_divides : (d n : ℕ) → Decides (divides d n) (d ∣ n)
decides_divides d n = Decides-like (divides d n) (dvd_of_mod-eq-zero d) (mod-eq-zero_of_dvd d) (Decides-eqb (n % d) 0)

decides_unless : {P : Type 0} (x y : Bool) → Decides y P → Decides (not x || y) (x ≡ true → P)
decides_unless true y h = (λ e _. h.0 e, λ f. h.1 (f refl))
decides_unless false y h = (λ _ e. absurd (false≢true e), λ _. refl)

-- d divides m and every phase of a
abbrev pub Common : ℕ → ℕ → ℕ → Type 0
Common m a d = (d ∣ m) × ((i : ℕ) → i < m → has a i ≡ true → d ∣ i)

-- the test of `gcd_with`
abbrev pub common : ℕ → ℕ → ℕ → Bool
common m a d = divides d m && every m (λ i. not (has a i) || divides d i)

pub decides_common : (m a d : ℕ) → Decides (common m a d) (Common m a d)
decides_common m a d =
    let test : ℕ → Bool = λ i. not (has a i) || divides d i in
    Decides-and (divides d m) (every m test) (decides_divides d m)
    (Decides-below_and test (λ i. has a i ≡ true → d ∣ i) (λ n. every n test) (λ i. decides_unless (has a i) (divides d i) (decides_divides d i)) refl (λ _. refl) m)

-- the greatest number that passes a test passes it, and is no less than any other that does
greatest_is : (n : ℕ) (test : ℕ → Bool) (d : ℕ) → 1 ≤ d → d ≤ n → test d ≡ true → (test (greatest n test) ≡ true) × (d ≤ greatest n test)
greatest_is zero test d low high passes = absurd (omega arith)
greatest_is (suc n) test d low high passes =
    cond_both (test (suc n)) (suc n) (greatest n test) (λ g. (test g ≡ true) × (d ≤ g)) (λ e. (e, high)) (λ fails.
    ⊎_elim
    (λ same. absurd (both_ways (test d) (subst (λ x. test x ≡ false) (sym same) fails) passes))
    (λ other. greatest_is n test d low (omega arith) passes)
    (cases_eq d (suc n)))

pub gcd_common : (m a : ℕ) → 1 ≤ m → Common m a (gcd_with m a)
gcd_common m a pos =
    let passes = (decides_common m a 1).1 (one-dvd m, λ i _ _. one-dvd i) in
    (decides_common m a (gcd_with m a)).0 (greatest_is m (common m a) 1 (omega arith) pos passes).0

-- a common divisor into which every common divisor divides is the greatest
pub gcd_unique : (m a g : ℕ) → 1 ≤ m → Common m a g → ((d : ℕ) → Common m a d → d ∣ g) → g ≡ gcd_with m a
gcd_unique m a g pos divisor greatest-one =
    let low : 1 ≤ g = pos_of_dvd_of_pos divisor.0 pos in
    let best = greatest_is m (common m a) g low (le_of_dvd pos divisor.0) ((decides_common m a g).1 divisor) in
    le_antisymm best.1 (le_of_dvd low (greatest-one (gcd_with m a) ((decides_common m a (gcd_with m a)).0 best.0)))

-- a set of numbers that is closed under remainders
abbrev pub Closed : (ℕ → Type 0) → Type 0
Closed T = (u v : ℕ) → T u → T v → T (u % v)

-- Euclid's algorithm: a common divisor of two numbers that lies in every closed set with both
euclid : (fuel a b : ℕ) → b < fuel → (g : ℕ) × (g ∣ a) × (g ∣ b) × ((T : ℕ → Type 0) → Closed T → T a → T b → T g)
euclid zero a b h = absurd (omega arith)
euclid (suc fuel) a zero h = (a, dvd_refl a, dvd-zero a, λ T closed ta tb. ta)
euclid (suc fuel) a (suc b) h =
    let less : a % suc b < fuel = omega (arith, mod_below a (suc b)) in
    let (g, p, q, within) = euclid fuel (suc b) (a % suc b) less in
    (g, (dvd-mod_iff g p).0 q, p, λ T closed ta tb. within T closed tb (closed a (suc b) ta tb))

-- the same of m and the first n numbers of a sequence
euclid-all : (m : ℕ) (f : ℕ → ℕ) (n : ℕ) → (g : ℕ) × (g ∣ m) × ((i : ℕ) → i < n → g ∣ f i) × ((T : ℕ → Type 0) → Closed T → T m → ((i : ℕ) → i < n → T (f i)) → T g)
euclid-all m f zero = (m, dvd_refl m, λ i h. absurd (omega arith), λ T closed tm each. tm)
euclid-all m f (suc n) =
    let (g, p, q, within) = euclid-all m f n in
    let (k, r, s, narrow) = euclid (suc (f n)) g (f n) (omega arith) in (
      k,
      dvd_trans k r p,
      λ i h. ⊎_elim (λ same. subst (λ j. k ∣ f j) (sym same) s) (λ other. dvd_trans k r (q i (omega arith))) (cases_eq i n),
      λ T closed tm each. narrow T closed (within T closed tm (λ i h. each i (omega arith))) (each n (omega arith)),
    )

-- the same of m and the phases of a: a number that is no phase counts as 0
euclid_phases : (m a : ℕ) → (g : ℕ) × Common m a g × ((T : ℕ → Type 0) → Closed T → T m → ((i : ℕ) → i < m → has a i ≡ true → T i) → T g)
euclid_phases m a =
    let (g, p, q, within) = euclid-all m (λ i. cond (has a i) i 0) m in (
      g,
      (p, λ i h e. subst (λ n. g ∣ n) (cond-true (has a i) i 0 e) (q i h)),
      λ T closed tm each. within T closed tm (λ i h. cond_both (has a i) i 0 T (each i h) (λ _. subst T (mod_self m) (closed m m tm tm))),
    )

-- every closed set with the modulus and all phases of a has their greatest common divisor
pub gcd_within : (m a : ℕ) → 1 ≤ m → (T : ℕ → Type 0) → Closed T → T m → ((i : ℕ) → i < m → has a i ≡ true → T i) → T (gcd_with m a)
gcd_within m a pos T closed tm each =
    let (g, divisor, within) = euclid_phases m a in
    let same = gcd_unique m a g pos divisor (λ d other. within (λ n. d ∣ n) (λ u v p q. (dvd-mod_iff d q).1 p) other.0 other.1) in
    subst T same (within T closed tm each)
