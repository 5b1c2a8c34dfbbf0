-- The array that a closure makes of another, where it computes the same at each call. Assumes nothing.
use Rattle.std.proofs.Common.{◌≡◌, ℕ, zero, suc, ◌+◌, ◌<◌, ◌≤◌, List, length, get_or, sym, ap, ◌∙◌, subst, ⊎_elim, arith}
use Rattle.std.proofs.lemmas.List.{get_or_past}
use Rattle.std.proofs.lemmas.Bool.{cases_eq, cases_lt}
use Rattle.std.specs.Array.{MapsFrom, IsMapOf}
use denote.Param.Members.{Mut, Called}

module _ {F : Type 0} (g : Mut F (ℕ × Unit {0}) ℕ) (f : F) (h : ℕ → ℕ) (same : (x y : ℕ) (q : F) → Called g f (x, tt) y q → (q ≡ f) × (y ≡ h x)) where
  mapped_from : (xs ys : List ℕ) (n i k : ℕ) → MapsFrom g f xs ys i n → i ≤ k → k < i + n → get_or ys k 0 ≡ h (get_or xs k 0)
  mapped_from xs ys zero i k made low high = absurd (omega arith)
  mapped_from xs ys (suc n) i k (q, x, y, from, to, call, rest) low high =
      let (stays, is) = same x y q call in
      ⊎_elim
      (λ e. ap (λ j. get_or ys j 0) e ∙ to.1 0 ∙ is ∙ ap h (sym (ap (λ j. get_or xs j 0) e ∙ from.1 0)))
      (λ other. mapped_from xs ys n (i + 1) k (subst (λ p. MapsFrom g p xs ys (i + 1) n) stays rest) (omega arith) (omega arith))
      (cases_eq k i)

  -- each place holds what the closure computes of what was there; past the end there is 0 before and after
  pub mapped_at : (xs ys : List ℕ) (n k : ℕ) → h 0 ≡ 0 → length xs ≡ n → IsMapOf g f xs ys n → get_or ys k 0 ≡ h (get_or xs k 0)
  mapped_at xs ys n k none long made =
      ⊎_elim
      (λ low. mapped_from xs ys n 0 k made.each (omega arith) (omega arith))
      (λ high. get_or_past ys k 0 (omega (arith, made.long)) ∙ sym none ∙ ap h (sym (get_or_past xs k 0 (omega arith))))
      (cases_lt k n)
