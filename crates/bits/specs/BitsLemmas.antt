-- Numbers by their bits. Assumes nothing.
use Rattle.std.specs.Prelude.{◌≡◌, ℕ, zero, suc, ◌+◌, ◌-◌, ◌*◌, ◌/◌, ◌%◌, ◌^◌, ◌<◌, ◌≤◌, Bool, true, false, cond, not, ◌&&◌, ◌||◌, ◌⊎◌, ◌==◌, bit_and, bit_or, nat_eq, refl}
use Rattle.std.specs.Int.{Width}
use Rattle.std.proofs.Common.{ap, sym, subst, ◌∙◌, ⊎_elim, arith}
use Rattle.std.proofs.Math.Nat.{two-pow-succ}
use Rattle.std.proofs.lemmas.Nat.Bits.{bit_at_lowest, bit_at-suc, bit_at-zero, bit_at_or, bit_at_and, bit_at-lt, bit_at_above, bit_at_set_same, bit_at_set_other, same_from_bits_below}
use Rattle.std.proofs.lemmas.Bool.{cases_eq}
use Rattle.std.proofs.lemmas.Bool.Decides.{nat_tests}
use mir.Val.{bits}
use Rattle.bits.specs.Bits.{has, set_of}

pub low : (n : ℕ) → (n % 2 ≡ 0) ⊎ (n % 2 ≡ 1)
low n = grind arith

-- what holds of 0 and 1 holds of the lowest bit
low_bit : (P : ℕ → Type 0) → P 0 → P 1 → (x : ℕ) → P (x % 2)
low_bit P a b x = ⊎_elim (λ e. subst P (sym e) a) (λ e. subst P (sym e) b) (low x)

low_bits : (P : ℕ → ℕ → Type 0) → P 0 0 → P 0 1 → P 1 0 → P 1 1 → (x y : ℕ) → P (x % 2) (y % 2)
low_bits P a b c d x y = low_bit (λ u. P u (y % 2)) (low_bit (P 0) a b y) (low_bit (P 1) c d y) x

pub has-or : (a b i : ℕ) → has (bit_or a b) i ≡ (has a i || has b i)
has-or a b i = let e = bit_at_or a b i in let p = bit_at-lt a i in let q = bit_at-lt b i in grind (arith, nat_tests)

pub has-and : (a b i : ℕ) → has (bit_and a b) i ≡ (has a i && has b i)
has-and a b i = let e = bit_at_and a b i in let p = bit_at-lt a i in let q = bit_at-lt b i in grind (arith, nat_tests)

-- the lowest bit, and the others by halves
pub has_first : (x : ℕ) → has x 0 ≡ (x % 2 == 1)
has_first x = ap (λ b. nat_eq b 1) (bit_at_lowest x)

pub has_half : (x i : ℕ) → has x (suc i) ≡ has (x / 2) i
has_half x i = ap (λ b. nat_eq b 1) (bit_at-suc x i)

pub half_below : (n x : ℕ) → x < 2 ^ suc n → x / 2 < 2 ^ n
half_below n x h = omega (arith, two-pow-succ n)

pub has-zero : (i : ℕ) → has 0 i ≡ false
has-zero i = ap (λ b. nat_eq b 1) (bit_at-zero i)

-- past a number's own bits there is none
pub has_above : (n x i : ℕ) → x < 2 ^ n → n ≤ i → has x i ≡ false
has_above n x i small h = ap (λ b. nat_eq b 1) (bit_at_above x n i small h)

rest_half : (n x : ℕ) → x < 2 ^ suc n → (2 ^ suc n - 1 - x) / 2 ≡ 2 ^ n - 1 - x / 2
rest_half n x h = omega (arith, two-pow-succ n)

-- the complement in n bits
pub has_rest : (n x i : ℕ) → x < 2 ^ n → i < n → has (2 ^ n - 1 - x) i ≡ not (has x i)
has_rest zero x i small h = absurd (omega arith)
has_rest (suc n) x zero small h =
    let flipped : (2 ^ suc n - 1 - x) % 2 ≡ 1 - x % 2 = omega (arith, two-pow-succ n) in
    has_first _ ∙ ap (λ y. nat_eq y 1) flipped ∙ low_bit (λ u. (1 - u == 1) ≡ not (u == 1)) refl refl x ∙ sym (ap not (has_first x))
has_rest (suc n) x (suc i) small h =
    has_half _ i ∙ ap (λ y. has y i) (rest_half n x small) ∙ has_rest n (x / 2) i (half_below n x small) (omega arith) ∙ ap not (sym (has_half x i))

-- one more bit, in a number of a type's width
pub has_more : (w : Width) (x k i : ℕ) → k < bits w → has (bit_or x (1 * 2 ^ k % 2 ^ bits w)) i ≡ (has x i || k == i)
has_more w x k i h =
    ⊎_elim
    (λ same. let e = bit_at_set_same w x k h in let here = ap (has (bit_or x (1 * 2 ^ k % 2 ^ bits w))) same in grind (arith, nat_tests))
    (λ other. let e = bit_at_set_other w x k h i other in grind (arith, nat_tests))
    (cases_eq i k)

-- numbers of n bits with the same bits are equal
pub same_bits : (n a b : ℕ) → a < 2 ^ n → b < 2 ^ n → ((i : ℕ) → i < n → has a i ≡ has b i) → a ≡ b
same_bits n a b ha hb same =
    same_from_bits_below n a b ha hb (λ i h. let e = same i h in let p = bit_at-lt a i in let q = bit_at-lt b i in grind (arith, nat_tests))

pub set_of-below : (n : ℕ) (test : ℕ → Bool) → set_of n test < 2 ^ n
set_of-below zero test = omega arith
set_of-below (suc n) test =
    let rest = set_of-below n (λ i. test (suc i)) in
    let p = two-pow-succ n in
    grind arith

bit_then : (b : Bool) (y : ℕ) → (((cond b 1 0 + 2 * y) % 2 == 1) ≡ b) × ((cond b 1 0 + 2 * y) / 2 ≡ y)
bit_then true y = (grind (arith, nat_tests), omega arith)
bit_then false y = (grind (arith, nat_tests), omega arith)

pub has-set_of : (n : ℕ) (test : ℕ → Bool) (i : ℕ) → i < n → has (set_of n test) i ≡ test i
has-set_of zero test i h = absurd (omega arith)
has-set_of (suc n) test zero h = has_first _ ∙ (bit_then (test 0) (set_of n (λ i. test (suc i)))).0
has-set_of (suc n) test (suc i) h =
    has_half _ i ∙ ap (λ y. has y i) (bit_then (test 0) (set_of n (λ k. test (suc k)))).1 ∙ has-set_of n (λ k. test (suc k)) i (omega arith)
