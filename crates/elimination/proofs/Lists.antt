-- Lists of numbers without repetition, and those that the moves go over. Assumes nothing.
use Rattle.std.proofs.Common.{◌≡◌, ℕ, zero, suc, Bool, true, false, ◌&&◌, ◌||◌, eqb, ltb, List, [], ◌∷◌, ◌++◌, length, fold, sym, refl, ap, ◌∙◌, arith}
use Rattle.std.proofs.lemmas.Bool.{cond_both}
use Rattle.std.proofs.lemmas.Bool.Decides.{nat_tests}
use Rattle.std.proofs.lemmas.List.Sums.{fold-append}
use Rattle.elimination.specs.Networks.{Network, arc, InForce}
use Rattle.elimination.specs.Moves.{keep, below, for_each, formats_of, steps_in_force}

-- whether u is in the list
abbrev pub has : List ℕ → ℕ → Bool
has [] u = false
has (v ∷ vs) u = eqb u v || has vs u

-- no number is there twice
abbrev pub Distinct : List ℕ → Type 0
Distinct [] = Unit {0}
Distinct (v ∷ vs) = (has vs v ≡ false) × Distinct vs

pub has_push : (vs : List ℕ) (v u : ℕ) → has (vs ++ v ∷ []) u ≡ (has vs u || eqb u v)
has_push [] v u = grind (arith, nat_tests)
has_push (w ∷ vs) v u = let before = has_push vs v u in grind (arith, nat_tests)

pub distinct_push : (vs : List ℕ) (v : ℕ) → Distinct vs → has vs v ≡ false → Distinct (vs ++ v ∷ [])
distinct_push [] v d new = (refl, tt)
distinct_push (w ∷ vs) v d new =
    let at = has_push vs v w in
    (grind (arith, nat_tests), distinct_push vs v d.1 (grind (arith, nat_tests)))

pub has-below : (n u : ℕ) → has (below n) u ≡ ltb u n
has-below zero u = grind (arith, nat_tests)
has-below (suc n) u = let before = has-below n u in let more = has_push (below n) n u in grind (arith, nat_tests)

pub distinct_below : (n : ℕ) → Distinct (below n)
distinct_below zero = tt
distinct_below (suc n) = let new = has-below n n in distinct_push (below n) n (distinct_below n) (grind (arith, nat_tests))

module _ (test : ℕ → Bool) where
  pub has-keep : (vs : List ℕ) (u : ℕ) → has (keep test vs) u ≡ (has vs u && test u)
  has-keep [] u = refl
  has-keep (v ∷ vs) u = let before = has-keep vs u in grind (arith, nat_tests)

  pub distinct_keep : (vs : List ℕ) → Distinct vs → Distinct (keep test vs)
  distinct_keep [] d = tt
  distinct_keep (v ∷ vs) d =
      let before = distinct_keep vs d.1 in
      let new = has-keep vs v in
      cond_both (test v) (v ∷ keep test vs) (keep test vs) Distinct (λ _. (grind arith, before)) (λ _. before)

module _ (N : Network) (component : ℕ → ℕ) where
  pub has-formats : (c u : ℕ) → has (formats_of N component c) u ≡ (ltb u N.formats && eqb (component u) c)
  has-formats c u =
      has-keep (λ v. eqb (component v) c) (below N.formats) u ∙ ap (λ b. b && eqb (component u) c) (has-below N.formats u)

  pub distinct_formats : (c : ℕ) → Distinct (formats_of N component c)
  distinct_formats c = distinct_keep (λ v. eqb (component v) c) (below N.formats) (distinct_below N.formats)

  pub has-steps : (j : ℕ) → has (steps_in_force N component) j ≡ true → InForce N j
  has-steps j h = let e = has-keep (λ i. (arc N i).in_force) (below (length N.steps)) j in grind arith

-- the moves of one number more run last
module _ {X Y : Type 0} (run : Y → X → Y) (f : ℕ → List X) where
  pub for_push : (y : Y) (vs : List ℕ) (v : ℕ) → fold run y (for_each f (vs ++ v ∷ [])) ≡ fold run (fold run y (for_each f vs)) (f v)
  for_push y [] v = fold-append run y (f v) []
  for_push y (w ∷ vs) v =
      fold-append run y (f w) (for_each f (vs ++ v ∷ []))
      ∙ for_push (fold run y (f w)) vs v
      ∙ ap (λ z. fold run z (f v)) (sym (fold-append run y (f w) (for_each f vs)))
