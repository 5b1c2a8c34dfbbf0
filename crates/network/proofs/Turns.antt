-- An order of the formats by component has each format, the components in turn, and rises inside each. Assumes nothing.
use Rattle.std.proofs.Common.{◌≡◌, ℕ, zero, suc, ◌<◌, true, eqb, ◌⊎◌, List, [], ◌∷◌, ◌++◌, length, get_or, sym, refl, ◌∙◌, subst, inl, inr, arith}
use Rattle.std.specs.List.{AllByRecursion as All}
use Rattle.std.proofs.ByRecursion.{All-append, All-weaker, All-get_or}
use Rattle.std.proofs.lemmas.Bool.{eqb-true, eq-eqb, ne_eqb, cases_eq, and_from, lt-ltb}
use Rattle.elimination.specs.Moves.{below, for_each}
use Rattle.elimination.proofs.Lists.{has, has-keep, has-below}
use Rattle.elimination.proofs.Schedules.{Rising, every, all_keep, all-for_each, rising_keep, rising_below}
use Rattle.planning.specs.Orders.{members_of, in_order}
use Rattle.planning.proofs.Orders.{order_full}
use Rattle.network.specs.Plans.{Planned, InTurn}

-- a number of a list stands at some place of it
place : (xs : List ℕ) (v : ℕ) → has xs v ≡ true → (k : ℕ) × (k < length xs) × (get_or xs k 0 ≡ v)
place [] v h = let never : ◌≡◌ {A = ℕ} 0 1 = cc in absurd (omega arith)
place (x ∷ xs) v h =
    elim (cases_eq v x) [
      | inl e ↦ (0, omega arith, sym e)
      | inr ne ↦ let new = ne_eqb v x ne in let (k, l, is) = place xs v (grind arith) in (suc k, omega arith, is)
    ]

has_left : (xs ys : List ℕ) (v : ℕ) → has xs v ≡ true → has (xs ++ ys) v ≡ true
has_left [] ys v h = let never : ◌≡◌ {A = ℕ} 0 1 = cc in absurd (omega arith)
has_left (x ∷ xs) ys v h = let rest = has_left xs ys v in grind arith

has_right : (xs ys : List ℕ) (v : ℕ) → has ys v ≡ true → has (xs ++ ys) v ≡ true
has_right [] ys v h = h
has_right (x ∷ xs) ys v h = let rest = has_right xs ys v h in grind arith

-- what one part of a list of parts has, the whole has
has_part : (f : ℕ → List ℕ) (cs : List ℕ) (c v : ℕ) → has cs c ≡ true → has (f c) v ≡ true → has (for_each f cs) v ≡ true
has_part f [] c v h k = let never : ◌≡◌ {A = ℕ} 0 1 = cc in absurd (omega arith)
has_part f (d ∷ cs) c v h k =
    elim (cases_eq c d) [
      | inl e ↦ has_left (f d) (for_each f cs) v (subst (λ b. has (f b) v ≡ true) e k)
      | inr ne ↦ let other = ne_eqb c d ne in has_right (f d) (for_each f cs) v (has_part f cs c v (grind arith) k)
    ]

-- each number is related to those after it
abbrev Pairs : (ℕ → ℕ → Type 0) → List ℕ → Type 0
Pairs R [] = Unit {0}
Pairs R (x ∷ xs) = All (R x) xs × Pairs R xs

pairs_append : (R : ℕ → ℕ → Type 0) (xs ys : List ℕ) → Pairs R xs → Pairs R ys → All (λ x. All (R x) ys) xs → Pairs R (xs ++ ys)
pairs_append R [] ys p q across = q
pairs_append R (x ∷ xs) ys p q across = (All-append (R x) xs ys p.0 across.0, pairs_append R xs ys p.1 q across.1)

pairs_at : (R : ℕ → ℕ → Type 0) (xs : List ℕ) (i k : ℕ) → i < k → k < length xs → Pairs R xs → R (get_or xs i 0) (get_or xs k 0)
pairs_at R [] i k h l p = absurd (omega arith)
pairs_at R (x ∷ xs) zero zero h l p = absurd (omega arith)
pairs_at R (x ∷ xs) zero (suc k) h l p = All-get_or (R x) xs k 0 (omega arith) p.0
pairs_at R (x ∷ xs) (suc i) zero h l p = absurd (omega arith)
pairs_at R (x ∷ xs) (suc i) (suc k) h l p = pairs_at R xs i k (omega arith) (omega arith) p.1

module _ (n : ℕ) (component : ℕ → ℕ) where
  -- a later component, or a higher format of the same
  abbrev Before : ℕ → ℕ → Type 0
  Before u v = (component u < component v) ⊎ ((component u ≡ component v) × (u < v))

  members_of_lem : (c : ℕ) → All (λ v. component v ≡ c) (members_of n component c)
  members_of_lem c = All-weaker _ _ (λ v h. eqb-true _ _ h.1) (members_of n component c) (all_keep (λ _. Unit {0}) (λ v. eqb (component v) c) (below n) (every _ (λ _. tt) (below n)))

  -- formats of one component that rise
  rising_pairs : (c : ℕ) (vs : List ℕ) → All (λ v. component v ≡ c) vs → Rising vs → Pairs Before vs
  rising_pairs c [] of rising = tt
  rising_pairs c (v ∷ vs) of rising = (later vs of.1 rising.0, rising_pairs c vs of.1 rising.1)
    where
      later : (ws : List ℕ) → All (λ w. component w ≡ c) ws → All (λ w. v < w) ws → All (Before v) ws
      later [] of' above = tt
      later (w ∷ ws) of' above = (inr (of.0 ∙ sym of'.0, above.0), later ws of'.1 above.1)

  order_pairs : (cs : List ℕ) → Rising cs → Pairs Before (for_each (members_of n component) cs)
  order_pairs [] rising = tt
  order_pairs (c ∷ cs) rising =
      pairs_append Before (members_of n component c) (for_each (members_of n component) cs)
      (rising_pairs c (members_of n component c) (members_of_lem c) (rising_keep _ (below n) (rising_below n)))
      (order_pairs cs rising.1)
      (All-weaker _ _ (λ u is. all-for_each (Before u) (members_of n component) cs
      (All-weaker _ _ (λ d h. All-weaker _ _ (λ v e. inl (omega arith)) (members_of n component d) (members_of_lem d)) cs rising.0))
      (members_of n component c) (members_of_lem c))

-- a plan whose order is the formats of its components in turn
pub in_turn : (p : Planned) → ((v : ℕ) → v < p.formats → p.component v < p.components) →
    ((k : ℕ) → k < p.formats → p.order k ≡ get_or (in_order p.formats p.components p.component) k 0) → InTurn p
in_turn p counted at =
    let n = p.formats in
    let component = p.component in
    let xs = in_order n p.components component in
    let long = order_full n component p.components counted in
    record {
      each = λ v h.
          let here = and_from _ _ (has-below n v ∙ lt-ltb v n h) (eq-eqb (component v) (component v) refl) in
          let listed = has-keep (λ u. eqb (component u) (component v)) (below n) v ∙ here in
          let one = has-below p.components (component v) ∙ lt-ltb _ _ (counted v h) in
          let (k, l, e) = place xs v (has_part (members_of n component) (below p.components) (component v) v one listed) in
          (k, omega arith, at k (omega arith) ∙ e);
      turns = λ i k h l.
          let pair = pairs_at (Before n component) xs i k h (omega arith) (order_pairs n component (below p.components) (rising_below p.components)) in
          subst (λ u. Before n component u (p.order k)) (sym (at i (omega arith))) (subst (Before n component (get_or xs i 0)) (sym (at k l)) pair);
    }
