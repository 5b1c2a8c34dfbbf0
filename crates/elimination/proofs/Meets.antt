-- What the schedules of elimination leave out of no component: each format is closed, and each comes to every other, itself
-- too. Assumes nothing.
use Rattle.std.proofs.Common.{◌≡◌, ℕ, zero, suc, ◌<◌, Bool, true, eqb, ◌⊎◌, List, [], ◌∷◌, ◌++◌, map, sym, refl, subst, inl, inr, ⊎_elim, arith}
use Rattle.std.proofs.lemmas.Bool.{cond_both, both_ways, cases_eq, eq-eqb}
use Rattle.elimination.specs.Networks.{Network}
use Rattle.elimination.specs.Moves.{Move, Act, scale, pass, cross, load, close, at, keep, below, for_each, formats_of, loads, leaving, eliminate, sweep, sweep_back, sealing, tracing}

-- P holds of some element
abbrev pub Some : {X : Type 0} → (X → Type 0) → List X → Type 0
Some P [] = ⊥
Some P (x ∷ xs) = P x ⊎ Some P xs

-- v is among vs
abbrev pub Among : ℕ → List ℕ → Type 0
Among v = Some (λ x. x ≡ v)

module _ {X : Type 0} (P : X → Type 0) where
  some_left : (xs ys : List X) → Some P xs → Some P (xs ++ ys)
  some_left [] ys h = absurd h
  some_left (x ∷ xs) ys (inl p) = inl p
  some_left (x ∷ xs) ys (inr h) = inr (some_left xs ys h)

  some_right : (xs ys : List X) → Some P ys → Some P (xs ++ ys)
  some_right [] ys h = h
  some_right (x ∷ xs) ys h = inr (some_right xs ys h)

  some-map : (f : ℕ → X) (vs : List ℕ) (v : ℕ) → Among v vs → P (f v) → Some P (map f vs)
  some-map f [] v h p = absurd h
  some-map f (x ∷ vs) v (inl e) p = inl (subst (λ y. P (f y)) (sym e) p)
  some-map f (x ∷ vs) v (inr h) p = inr (some-map f vs v h p)

  some-for_each : (f : ℕ → List X) (vs : List ℕ) (v : ℕ) → Among v vs → Some P (f v) → Some P (for_each f vs)
  some-for_each f [] v h p = absurd h
  some-for_each f (x ∷ vs) v (inl e) p = some_left (f x) (for_each f vs) (subst (λ y. Some P (f y)) (sym e) p)
  some-for_each f (x ∷ vs) v (inr h) p = some_right (f x) (for_each f vs) (some-for_each f vs v h p)

among_below : (n v : ℕ) → v < n → Among v (below n)
among_below zero v h = absurd (omega arith)
among_below (suc n) v h =
    ⊎_elim (λ e. some_right _ (below n) (n ∷ []) (inl (sym e))) (λ e. some_left _ (below n) (n ∷ []) (among_below n v (omega arith))) (cases_eq v n)

among_keep : (test : ℕ → Bool) (vs : List ℕ) (v : ℕ) → Among v vs → test v ≡ true → Among v (keep test vs)
among_keep test [] v h e = absurd h
among_keep test (x ∷ vs) v (inl p) e =
    cond_both (test x) (x ∷ keep test vs) (keep test vs) (Among v) (λ _. inl p) (λ no. absurd (both_ways (test x) no (subst (λ y. test y ≡ true) (sym p) e)))
among_keep test (x ∷ vs) v (inr h) e =
    let rest = among_keep test vs v h e in
    cond_both (test x) (x ∷ keep test vs) (keep test vs) (Among v) (λ _. inr rest) (λ _. rest)

-- the act that closes v
abbrev pub Closing : ℕ → Act → Type 0
Closing v (load j from to shared) = ⊥
Closing v (close x) = x ≡ v
Closing v (at u m) = ⊥

-- a move that brings what the table has from u to w into the row of u
abbrev pub Bringing : ℕ → ℕ → Move → Type 0
Bringing u w (scale x) = (x ≡ u) × (x ≡ w)
Bringing u w (pass x y) = (x ≡ u) × (y ≡ w)
Bringing u w (cross j from to) = ⊥

eliminate_closes : (vs : List ℕ) (v : ℕ) → Among v vs → Some (Closing v) (eliminate vs)
eliminate_closes [] v h = absurd h
eliminate_closes (x ∷ later) v (inl e) = inl e
eliminate_closes (x ∷ later) v (inr h) = inr (some_right (Closing v) _ (eliminate later) (eliminate_closes later v h))

module _ (u w : ℕ) where
  back_brings : (earlier vs : List ℕ) → Among u vs → Among w earlier → Some (Bringing u w) (sweep_back earlier vs)
  back_brings earlier [] h k = absurd h
  back_brings earlier (x ∷ us) (inl e) k =
      some_right (Bringing u w) (sweep_back (earlier ++ x ∷ []) us) (map (pass x) earlier) (some-map (Bringing u w) (pass x) earlier w k (e, refl))
  back_brings earlier (x ∷ us) (inr h) k =
      some_left (Bringing u w) (sweep_back (earlier ++ x ∷ []) us) (map (pass x) earlier) (back_brings (earlier ++ x ∷ []) us h (some_left _ earlier (x ∷ []) k))

  sweeps_bring : (earlier vs : List ℕ) → Among u vs → Among w vs → Some (Bringing u w) (sweep vs) ⊎ Some (Bringing u w) (sweep_back earlier vs)
  sweeps_bring earlier [] h k = absurd h
  sweeps_bring earlier (x ∷ later) (inl e) (inl f) = inl (inl (e, f))
  sweeps_bring earlier (x ∷ later) (inl e) (inr k) =
      inl (inr (some_left (Bringing u w) (map (pass x) later) (sweep later) (some-map (Bringing u w) (pass x) later w k (e, refl))))
  sweeps_bring earlier (x ∷ later) (inr h) (inl f) =
      inr (some_left (Bringing u w) (sweep_back (earlier ++ x ∷ []) later) (map (pass x) earlier) (back_brings (earlier ++ x ∷ []) later h (some_right _ earlier (x ∷ []) (inl f))))
  sweeps_bring earlier (x ∷ later) (inr h) (inr k) = ⊎_elim
      (λ p. inl (inr (some_right (Bringing u w) (map (pass x) later) (sweep later) p)))
      (λ p. inr (some_left (Bringing u w) (sweep_back (earlier ++ x ∷ []) later) (map (pass x) earlier) p))
      (sweeps_bring (earlier ++ x ∷ []) later h k)

module _ (N : Network) (count : ℕ) (component : ℕ → ℕ) where
  among_formats : (v : ℕ) → v < N.formats → (c : ℕ) → component v ≡ c → Among v (formats_of N component c)
  among_formats v h c e = among_keep (λ x. eqb (component x) c) (below N.formats) v (among_below N.formats v h) (eq-eqb _ _ e)

  pub sealing_closes : (v : ℕ) → v < N.formats → component v < count → Some (Closing v) (sealing N count component)
  unfolding sealing
  sealing_closes v h k =
      some_right (Closing v) (loads N component) _
      (some-for_each (Closing v) (λ c. eliminate (formats_of N component c)) (below count) (component v) (among_below count (component v) k)
      (eliminate_closes (formats_of N component (component v)) v (among_formats v h (component v) refl)))

  pub tracing_brings : (u w : ℕ) → u < N.formats → w < N.formats → component u ≡ component w → component w < count → Some (Bringing u w) (tracing N count component)
  unfolding tracing
  tracing_brings u w h k e below-count =
      let c = component w in
      let vs = formats_of N component c in
      some-for_each (Bringing u w) _ (below count) c (among_below count c below-count)
      (some_left (Bringing u w) (sweep vs ++ sweep_back [] vs) (leaving N component c)
      (⊎_elim (some_left (Bringing u w) (sweep vs) (sweep_back [] vs)) (some_right (Bringing u w) (sweep vs) (sweep_back [] vs))
      (sweeps_bring u w [] vs (among_formats u h c e) (among_formats w k c refl))))
