-- Tests that pass somewhere below a number. Assumes nothing.
use Rattle.std.proofs.Common.{◌≡◌, ℕ, zero, suc, ◌<◌, Bool, true, false, not, ◌&&◌, ◌||◌, eqb, refl, ap, ◌∙◌, ⊎_elim, arith}
use Rattle.std.proofs.lemmas.Bool.{cases_eq}
use Rattle.std.proofs.lemmas.Bool.Decides.{nat_tests}
use Rattle.bits.specs.Bits.{some, every}
use Rattle.bits.proofs.Places.{some_never}

pub some_same : (n : ℕ) (f g : ℕ → Bool) → ((k : ℕ) → k < n → f k ≡ g k) → some n f ≡ some n g
some_same zero f g same = refl
some_same (suc n) f g same = let here = same n (omega arith) in let before = some_same n f g (λ k h. same k (omega arith)) in cc

some_or : (n : ℕ) (f g : ℕ → Bool) → some n (λ k. f k || g k) ≡ (some n f || some n g)
some_or zero f g = refl
some_or (suc n) f g = ap (λ t. (f n || g n) || t) (some_or n f g) ∙ grind arith

pub some-and : (n : ℕ) (t : Bool) (f : ℕ → Bool) → some n (λ k. t && f k) ≡ (t && some n f)
some-and n true f = refl
some-and n false f = some_never n (λ k. false && f k) (λ k h. refl)

-- one number alone is looked at
pub some_at : (n : ℕ) (f : ℕ → Bool) (k : ℕ) → k < n → some n (λ i. eqb k i && f i) ≡ f k
some_at zero f k h = absurd (omega arith)
some_at (suc n) f k h =
    ⊎_elim
    (λ e. let rest = some_never n (λ i. eqb k i && f i) (λ i small. grind (arith, nat_tests)) in let same = ap f e in grind (arith, nat_tests))
    (λ other. let rest = some_at n f k (omega arith) in grind (arith, nat_tests))
    (cases_eq k n)

pub every-not : (n : ℕ) (f g : ℕ → Bool) → every n (λ k. not (f k) || g k) ≡ not (some n (λ k. f k && not (g k)))
every-not zero f g = refl
every-not (suc n) f g = ap (λ t. (not (f n) || g n) && t) (every-not n f g) ∙ grind arith
