-- The test by Warshall finds the formats to which routes lead. Assumes nothing.
use Rattle.std.proofs.Common.{◌≡◌, ℕ, zero, suc, ◌<◌, Bool, true, false, ◌&&◌, eqb, List, [], ◌∷◌, ◌++◌, get_or, sym, refl, subst, ⊎_elim, arith}
use Rattle.std.proofs.lemmas.Bool.{or_cases, and_parts, eqb-true, cases_lt}
use Rattle.std.proofs.lemmas.Bool.Decides.{nat_tests}
use Rattle.elimination.specs.Networks.{Arc, Network, arc, InForce, Joined, Route}
use Rattle.planning.specs.Components.{Leads, joins, direct, through, leads}

-- a step in force joins its ends
joins-step : (steps : List Arc) (j : ℕ) (a : Arc) → (get_or steps j a).in_force ≡ true → a.in_force ≡ false → joins steps (get_or steps j a).from (get_or steps j a).to ≡ true
joins-step [] j a force none = grind arith
joins-step (b ∷ steps) zero a force none = grind (arith, nat_tests)
joins-step (b ∷ steps) (suc j) a force none = let rest = joins-step steps j a force none in grind (arith, nat_tests)

-- and where ends are joined there is a step in force
step_joining : (steps : List Arc) (u v : ℕ) (a : Arc) → joins steps u v ≡ true →
    (j : ℕ) × ((get_or steps j a).in_force ≡ true) × ((get_or steps j a).from ≡ u) × ((get_or steps j a).to ≡ v)
step_joining [] u v a e = absurd (let z : ◌≡◌ {A = ℕ} 0 1 = cc in omega arith)
step_joining (b ∷ steps) u v a e =
    ⊎_elim
    (λ h. (0, grind (arith, nat_tests), grind (arith, nat_tests), grind (arith, nat_tests)))
    (λ h. let (j, force, from, to) = step_joining steps u v a h in (suc j, force, from, to))
    (or_cases (b.in_force && (eqb b.from u && eqb b.to v)) (joins steps u v) e)

route_append : (N : Network) (s u t : ℕ) (js ks : List ℕ) → Route N s u js → Route N u t ks → Route N s t (js ++ ks)
route_append N s u t [] ks e route = subst (λ x. Route N x t ks) (sym e) route
route_append N s u t (j ∷ js) ks (force, from, rest) route = (force, from, route_append N (arc N j).to u t js ks rest route)

pub leads_then : (N : Network) (s u t : ℕ) → Leads N s u → Leads N u t → Leads N s t
leads_then N s u t (js, p) (ks, q) = (js ++ ks, route_append N s u t js ks p q)

by_route : (N : Network) (k u v : ℕ) → through (direct N) k u v ≡ true → Leads N u v
by_route N zero u v e =
    ⊎_elim
    (λ h. ([], eqb-true u v h))
    (λ h. let (j, force, from, to) = step_joining N.steps u v _ h in (j ∷ [], (force, from, to)))
    (or_cases (eqb u v) (joins N.steps u v) e)
by_route N (suc k) u v e =
    let far = through (direct N) k in
    ⊎_elim
    (by_route N k u v)
    (λ h. let (p, q) = and_parts (far u k) (far k v) h in leads_then N u k v (by_route N k u k p) (by_route N k k v q))
    (or_cases (far u v) (far u k && far k v) e)

-- more numbers to go through keep what was found
through_keeps : (goes : ℕ → ℕ → Bool) (k u v : ℕ) → goes u v ≡ true → through goes k u v ≡ true
through_keeps goes zero u v e = e
through_keeps goes (suc k) u v e = let before = through_keeps goes k u v e in grind arith

-- ways that meet below k join
through-joins : (goes : ℕ → ℕ → Bool) (k u w v : ℕ) → w < k → through goes k u w ≡ true → through goes k w v ≡ true → through goes k u v ≡ true
through-joins goes zero u w v h p q = absurd (omega arith)
through-joins goes (suc k) u w v h p q =
    ⊎_elim
    (λ small.
    let both = through-joins goes k u w v small in
    let before = through-joins goes k u w k small in
    let after = through-joins goes k k w v small in
    grind arith)
    (λ large. let same : w ≡ k = omega arith in grind arith)
    (cases_lt w k)

module _ (N : Network) (ends : Joined N) where
  pub leads_self : (u : ℕ) → leads N u u ≡ true
  leads_self u = through_keeps (direct N) N.formats u u (grind (arith, nat_tests))

  pub leads-step : (j : ℕ) → InForce N j → leads N (arc N j).from (arc N j).to ≡ true
  leads-step j force = through_keeps (direct N) N.formats _ _ (let e = joins-step N.steps j _ force refl in grind arith)

  pub leads-on : (u w v : ℕ) → w < N.formats → leads N u w ≡ true → leads N w v ≡ true → leads N u v ≡ true
  leads-on u w v h = through-joins (direct N) N.formats u w v h

  pub leads_route : (u v : ℕ) → Leads N u v → leads N u v ≡ true
  leads_route u v ([], e) = subst (λ x. leads N u x ≡ true) e (leads_self u)
  leads_route u v (j ∷ js, (force, from, rest)) =
      subst (λ x. leads N x v ≡ true) from
      (leads-on (arc N j).from (arc N j).to v (ends j force).1 (leads-step j force) (leads_route (arc N j).to v (js, rest)))

  pub route_leads : (u v : ℕ) → leads N u v ≡ true → Leads N u v
  route_leads = by_route N N.formats
