-- The greatest common divisor of a set of phases and its multiples, as loops find them. Assumes nothing.
use Rattle.std.proofs.Common.{◌≡◌, ℕ, ◌+◌, ◌-◌, ◌*◌, ◌%◌, ◌^◌, ◌<◌, ◌≤◌, not, ◌&&◌, ◌||◌, eqb, ltb, List, [], ◌∷◌, ◌++◌, sym, ap, ◌∙◌, mod-eq_of_lt, zero-add, arith, zero, suc, ⊎_elim, refl}
use native.Mathlib.Nat.{mod_self, mod-add-mod}
use lib.Bits.{bit_and, bit_or}
use Rattle.std.specs.Int.{IsGcd}
use Rattle.std.specs.List.{list_any}
use Rattle.std.proofs.lemmas.Nat.{pow_pos, and_le_r}
use Rattle.std.proofs.lemmas.Nat.Gcd.{dvd_refl, dvd_trans}
use Rattle.std.proofs.Math.Nat.{pos_of_dvd_of_pos, le_of_dvd}
use Rattle.std.proofs.lemmas.List.Folds.{list_any-append}
use Rattle.std.proofs.lemmas.Bool.{cases_lt}
use Rattle.std.proofs.lemmas.Bool.Decides.{nat_tests, same_from_decides, Decides-and, Decides-like}
use Rattle.bits.specs.Bits.{has, set_of, every, places}
use Rattle.algebras.specs.Phases.{divides, gcd_with}
use Rattle.algebras.specs.Divisors.{decides_divides, decides_common, gcd_unique}
use Rattle.bits.specs.BitsLemmas.{has-or, has-zero, has_half, same_bits, set_of-below, has-set_of}
use Rattle.bits.proofs.Places.{any-places}
use Rattle.algebras.proofs.Shifts.{has-shl, has-below, has-mod, has_masked}
use Rattle.algebras.proofs.Somewhere.{every-not}

-- the divisors of a greatest common divisor are the common divisors
divides_gcd : (a b g d : ℕ) → IsGcd a b g → divides d g ≡ (divides d a && divides d b)
divides_gcd a b g d (first, second, greatest) =
    same_from_decides (divides d g) (divides d a && divides d b)
    (Decides-like (divides d g) (λ h. (dvd_trans d h first, dvd_trans d h second)) (λ h. greatest d h.0 h.1) (decides_divides d g))
    (Decides-and (divides d a) (divides d b) (decides_divides d a) (decides_divides d b))

-- the divisors of g are those of the modulus that divide each number of a list
abbrev pub Dividing : ℕ → List ℕ → ℕ → Type 0
Dividing m xs g = (d : ℕ) → divides d g ≡ (divides d m && not (list_any (λ i. not (divides d i)) xs))

pub dividing_none : (m : ℕ) → Dividing m [] m
dividing_none m d = grind arith

pub dividing-more : (m : ℕ) (xs : List ℕ) (g x next : ℕ) → Dividing m xs g → IsGcd g x next → Dividing m (xs ++ x ∷ []) next
dividing-more m xs g x next dividing gcd d =
    let now = divides_gcd g x next d gcd in
    let before = dividing d in
    let more = list_any-append (λ i. not (divides d i)) xs (x ∷ []) in
    grind arith

-- with every phase, g is the greatest common divisor
pub dividing_all : (m a g : ℕ) → 1 ≤ m → m ≤ 64 → a < 2 ^ m → Dividing m (places 64 a) g → (g ≡ gcd_with m a) × (1 ≤ g) × (g ≤ m)
dividing_all m a g pos wide small dividing =
    let same : (d : ℕ) → divides d g ≡ (divides d m && every m (λ i. not (has a i) || divides d i)) = λ d.
    dividing d
    ∙ ap (λ t. divides d m && not t) (any-places 64 m a (λ i. not (divides d i)) wide small)
    ∙ ap (λ t. divides d m && t) (sym (every-not m (has a) (divides d))) in
    let common = (decides_common m a g).0 (sym (same g) ∙ (decides_divides g g).1 (dvd_refl g)) in (
      gcd_unique m a g pos common (λ d h. (decides_divides d g).0 (same d ∙ (decides_common m a d).1 h)),
      pos_of_dvd_of_pos common.0 pos,
      le_of_dvd pos common.0,
    )

-- from a multiple k of g on, the multiples are those from 0 on
from_multiple : (g k i : ℕ) → k % g ≡ 0 → k ≤ i → i % g ≡ (i - k) % g
from_multiple g k i e from =
    let split : i ≡ k + (i - k) = omega arith in
    ap (λ n. n % g) split ∙ sym (mod-add-mod k g (i - k)) ∙ ap (λ n. (n + (i - k)) % g) e ∙ ap (λ n. n % g) (zero-add (i - k))

has-one : (i : ℕ) → has 1 i ≡ eqb i 0
has-one zero = refl
has-one (suc i) = has_half 1 i ∙ has-zero i ∙ grind (arith, nat_tests)

-- out has the multiples of g below the span, which is one
pub record Filling (g out span : ℕ) : Type 0 where
  pub low : 1 ≤ span
  pub multiple : span % g ≡ 0
  pub same : (i : ℕ) → i < 64 → has out i ≡ (divides g i && ltb i span)

module _ (g : ℕ) where
  pub filling_first : 1 ≤ g → Filling g 1 g
  filling_first pos = record {
    low = pos;
    multiple = mod_self g;
    same = λ i h. has-one i ∙ ⊎_elim (λ less. let rest = mod-eq_of_lt less in grind (arith, nat_tests)) (λ more. grind (arith, nat_tests)) (cases_lt i g);
  }

  pub filling_more : (out span : ℕ) → span < 64 → Filling g out span → Filling g (bit_or out (out * 2 ^ span % 2 ^ 64)) (span * 2)
  filling_more out span wide filling =
      let multiple = filling.multiple in
      let same = filling.same in
      record {
        low = let low = filling.low in omega arith;
        multiple = let twice : span * 2 ≡ span + span = omega arith in
            ap (λ n. n % g) twice ∙ sym (mod-add-mod span g span) ∙ ap (λ n. (n + span) % g) multiple ∙ ap (λ n. n % g) (zero-add span) ∙ multiple;
        same = λ i h.
            has-or out _ i
            ∙ ap (λ t. has out i || t) (has-mod 64 (out * 2 ^ span) i h)
            ∙ ⊎_elim
            (λ less. let none = has-below out span i less in let here = same i h in grind (arith, nat_tests))
            (λ more.
            let split : span + (i - span) ≡ i = omega arith in
            let up = ap (has (out * 2 ^ span)) (sym split) ∙ has-shl out span (i - span) in
            let here = same i h in
            let before = same (i - span) (omega arith) in
            let near = from_multiple g span i multiple more in
            grind (arith, nat_tests))
            (cases_lt i span);
      }

  pub filling_all : (m out span : ℕ) → m ≤ 64 → m ≤ span → Filling g out span → bit_and out (2 ^ m - 1) ≡ set_of m (divides g)
  filling_all m out span wide end filling =
      same_bits m _ _ (omega (arith, and_le_r out (2 ^ m - 1), pow_pos m)) (set_of-below m _) (λ i hi.
      has_masked m out i hi ∙ filling.same i (omega arith) ∙ grind (arith, nat_tests) ∙ sym (has-set_of m (divides g) i hi))
