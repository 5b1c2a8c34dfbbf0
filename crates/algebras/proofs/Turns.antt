-- A set of phases that is turned by shifts. Assumes nothing.
use Rattle.std.proofs.Common.{◌≡◌, ℕ, ◌+◌, ◌-◌, ◌*◌, ◌/◌, ◌%◌, ◌^◌, ◌<◌, ◌≤◌, Bool, false, not, ◌&&◌, ◌||◌, eqb, ltb, List, [], ◌∷◌, ◌⊎◌, sym, ap, ◌∙◌, subst, inl, inr, ⊎_elim, mod-eq_of_lt, arith}
use native.Mathlib.Nat.{mod-eq-sub-mod}
use lib.Bits.{bit_and, bit_or}
use Rattle.std.specs.List.{list_any}
use Rattle.std.proofs.lemmas.Nat.{pow_pos, and_le_r, or_lt}
use Rattle.std.proofs.lemmas.Bool.{cases_lt, cond_both, ltb-true}
use Rattle.std.proofs.lemmas.Bool.Decides.{nat_tests}
use Rattle.kleene.specs.Algebras.{taken}
use Rattle.bits.specs.Bits.{has, some, places}
use Rattle.algebras.specs.Phases.{later, phase_meaning}
use Rattle.bits.specs.BitsLemmas.{has-or, has-zero, has_above, same_bits, set_of-below, has-set_of}
use Rattle.bits.proofs.Places.{any-places}
use Rattle.algebras.proofs.Shifts.{has-shl, has-shr, has-below, has-mod, has_masked}
use Rattle.algebras.proofs.Somewhere.{some_same, some-and, some_at}

-- k is a phase of b turned by i
abbrev pub to : ℕ → ℕ → ℕ → ℕ → Bool
to m b k i = some m (λ j. has b j && eqb ((i + j) % m) k)

-- the remainder of a number below twice the modulus
once : (m x : ℕ) → x < m + m → ((x % m ≡ x) × (x < m)) ⊎ ((x % m ≡ x - m) × (m ≤ x))
once m x h =
    ⊎_elim
    (λ small. inl (mod-eq_of_lt small, small))
    (λ large. let less : x - m < m = omega arith in inr (mod-eq-sub-mod large ∙ mod-eq_of_lt less, large))
    (cases_lt x m)

-- two phases that are turned to the same one are the same
same_turn : (m i j k : ℕ) → i < m → j < m → k < m → eqb ((i + k) % m) ((i + j) % m) ≡ eqb j k
same_turn m i j k hi hj hk = let a = once m (i + j) (omega arith) in let b = once m (i + k) (omega arith) in grind (arith, nat_tests)

-- what is turned to k
to_is : (m b i j k : ℕ) → i < m → j < m → (i + j) % m ≡ k → to m b k i ≡ has b j
to_is m b i j k hi hj e =
    some_same m _ (λ n. eqb j n && has b n) (λ n hn.
    ap (λ t. has b n && eqb ((i + n) % m) t) (sym e) ∙ ap (λ t. has b n && t) (same_turn m i j n hi hj hn) ∙ grind arith)
    ∙ some_at m (has b) j hj

-- a shift up, or a shift down from the modulus
shifts_are : (m b i k : ℕ) → i < m → b < 2 ^ m → k < m → (has (b * 2 ^ i) k || has (b / 2 ^ (m - i)) k) ≡ to m b k i
shifts_are m b i k hi small hk =
    let down = has-shr b (m - i) k in
    ⊎_elim
    (λ less.
    let up = has-below b i k less in
    let e : (i + (m - i + k)) % m ≡ k = grind (arith, once m (i + (m - i + k)) (omega arith)) in
    let at = to_is m b i (m - i + k) k hi (omega arith) e in
    grind arith)
    (λ more.
    let split : i + (k - i) ≡ k = omega arith in
    let up = ap (has (b * 2 ^ i)) (sym split) ∙ has-shl b i (k - i) in
    let none = has_above m b (m - i + k) small (omega arith) in
    let at = to_is m b i (k - i) k hi (omega arith) (ap (λ n. n % m) split ∙ mod-eq_of_lt hk) in
    grind arith)
    (cases_lt k i)

-- two shifts and a mask turn a set
pub turned-is :
    (m b i : ℕ) → m ≤ 64 → i < m → b < 2 ^ m → bit_and (bit_or (b * 2 ^ i % 2 ^ 64) (b / 2 ^ (m - i))) (2 ^ m - 1) ≡ later m b i
turned-is m b i wide hi small =
    let both = bit_or (b * 2 ^ i % 2 ^ 64) (b / 2 ^ (m - i)) in
    same_bits m _ _ (omega (arith, and_le_r both (2 ^ m - 1), pow_pos m)) (set_of-below m _) (λ k hk.
    has_masked m both k hk
    ∙ has-or _ _ k
    ∙ ap (λ t. t || has (b / 2 ^ (m - i)) k) (has-mod 64 (b * 2 ^ i) k (omega arith))
    ∙ shifts_are m b i k hi small hk
    ∙ sym (has-set_of m _ k hk))

-- an operand is a set of phases below the modulus
pub operand-below : (m a : ℕ) → taken (phase_meaning m) a < 2 ^ m
operand-below m a = cond_both (ltb a (2 ^ m)) a 0 (λ x. x < 2 ^ m) (ltb-true a (2 ^ m)) (λ _. pow_pos m)

-- out holds the phases of b turned by those of a list, but for those that are still to be turned by the rest of it
pub record Joining (m b : ℕ) (all rest : List ℕ) (out : ℕ) : Type 0 where
  pub low : out < 2 ^ m
  pub below : list_any (λ i. not (ltb i m)) rest ≡ false
  pub same : (k : ℕ) → k < m → (has out k || list_any (to m b k) rest) ≡ list_any (to m b k) all

module _ (m b : ℕ) (all : List ℕ) where
  pub joining_none : list_any (λ i. not (ltb i m)) all ≡ false → Joining m b all all 0
  joining_none below = record { low = pow_pos m; below = below; same = λ k hk. let none = has-zero k in grind arith }

  pub joining-more : (i : ℕ) (rest : List ℕ) (out more : ℕ) → more ≡ later m b i → Joining m b all (i ∷ rest) out → Joining m b all rest (bit_or out more)
  joining-more i rest out more turned joining = record {
    low = or_lt m out more joining.low (subst (λ x. x < 2 ^ m) (sym turned) (set_of-below m _));
    below = let below = joining.below in grind arith;
    same = λ k hk.
        let new = has-or out more k ∙ ap (λ x. has out k || has x k) turned ∙ ap (λ t. has out k || t) (has-set_of m _ k hk) in
        let before = joining.same k hk in
        grind arith;
  }

  pub joining_all : (a out : ℕ) → m ≤ 64 → a < 2 ^ m → all ≡ places 64 a → Joining m b all [] out → out ≡ (phase_meaning m).on.product a b
  joining_all a out wide small e joining =
      same_bits m _ _ joining.low (set_of-below m _) (λ k hk.
      let done = joining.same k hk in
      let whole : has out k ≡ list_any (to m b k) all = grind arith in
      whole
      ∙ ap (list_any (to m b k)) e
      ∙ any-places 64 m a (to m b k) wide small
      ∙ some_same m _ _ (λ i _. sym (some-and m (has a i) (λ j. has b j && eqb ((i + j) % m) k)))
      ∙ sym (has-set_of m _ k hk))
