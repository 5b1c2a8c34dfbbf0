-- What solves a network's equations in counts is the count of its routes, so the row that elimination gives is. Assumes nothing.
use Rattle.std.proofs.Common.{◌≡◌, ℕ, zero, suc, ◌<◌, Bool, true, false, cond, ◌&&◌, eqb, ltb, List, [], ◌∷◌, ◌++◌, length, Decides, sym, refl, ap, subst, append_assoc, append-nil, arith}
use Rattle.std.proofs.lemmas.List.{get_or_past}
use Rattle.std.proofs.lemmas.Bool.Decides.{nat_tests, Decides-eqb}
use Rattle.elimination.specs.Networks.{Network, arc, Joined, Route}
use Rattle.elimination.specs.Equations.{when, sum_below, start, inflow}
use Rattle.elimination.specs.Moves.{traced}
use Rattle.elimination.specs.Series.{Series, over_cuts, empty, letter, counting}
use Rattle.elimination.specs.Theorems.{EveryRouteOnce}
use Rattle.elimination.proofs.Series.{Proper, counting_laws}
use Rattle.elimination.proofs.Solves.{solves}

-- the test whether a list is a route from s to t
abbrev pub routes : Network → ℕ → ℕ → List ℕ → Bool
routes N s t [] = eqb s t
routes N s t (j ∷ js) = (arc N j).in_force && (eqb (arc N j).from s && routes N (arc N j).to t js)

pub decides_route : (N : Network) (s t : ℕ) (js : List ℕ) → Decides (routes N s t js) (Route N s t js)
decides_route N s t [] = Decides-eqb s t
decides_route N s t (j ∷ js) =
    let rest = decides_route N (arc N j).to t js in
    (λ test. grind (arith, nat_tests), λ route. grind (arith, nat_tests))

-- a route with one more step at its end
routes-more :
    (N : Network) (s t : ℕ) (is : List ℕ) (i : ℕ) →
    routes N s t (is ++ i ∷ []) ≡ ((arc N i).in_force && (eqb (arc N i).to t && routes N s (arc N i).from is))
routes-more N s t [] i = grind (arith, nat_tests)
routes-more N s t (j ∷ is) i = let rest = routes-more N (arc N j).to t is i in grind arith

-- what a step more at the end keeps goes from a list to all that begin with it
from_end : (P : List ℕ → Type 0) → ((is : List ℕ) (i : ℕ) → P is → P (is ++ i ∷ [])) → (is js : List ℕ) → P is → P (is ++ js)
from_end P more is [] h = subst P (sym (append-nil is)) h
from_end P more is (j ∷ js) h = subst P (append_assoc is (j ∷ []) js) (from_end P more (is ++ j ∷ []) js (more is j h))

not-empty : (is : List ℕ) (i : ℕ) → empty (is ++ i ∷ []) ≡ 0
not-empty [] i = refl
not-empty (j ∷ is) i = refl

-- a series times a letter counts the lists that end with the letter, as the series counts what stands before it
times_letter : (f : Series) (j : ℕ) (is : List ℕ) (i : ℕ) → over_cuts f (letter j) (is ++ i ∷ []) ≡ cond (eqb i j) (f is) 0
times_letter f j [] i = grind (arith, nat_tests)
times_letter f j (k ∷ is) i =
    let rest = times_letter (λ js. f (k ∷ js)) j is i in
    let long = not-empty is i in
    grind (arith, nat_tests)

when-at : (test : Bool) (f : Series) (js : List ℕ) → when counting test f js ≡ cond test (f js) 0
when-at true f js = refl
when-at false f js = refl

-- a sum of such products, each with its own letter: at the empty list it is 0, and at another the term of its last step
module _ (test : ℕ → Bool) (f : ℕ → Series) where
  abbrev term : ℕ → Series
  term j = when counting (test j) (over_cuts (f j) (letter j))

  terms_none : (n : ℕ) → sum_below counting n term [] ≡ 0
  terms_none zero = refl
  terms_none (suc n) = let rest = terms_none n in let here = when-at (test n) (over_cuts (f n) (letter n)) [] in grind arith

  terms_last : (n : ℕ) (is : List ℕ) (i : ℕ) → sum_below counting n term (is ++ i ∷ []) ≡ cond (ltb i n && test i) (f i is) 0
  terms_last zero is i = grind (arith, nat_tests)
  terms_last (suc n) is i =
      let rest = terms_last n is i in
      let here = when-at (test n) (over_cuts (f n) (letter n)) (is ++ i ∷ []) in
      let last = times_letter (f n) n is i in
      grind (arith, nat_tests)

-- x solves the network's equations in counts, each step spelling itself
abbrev pub SolvesInCounts : Network → ℕ → (ℕ → Series) → Type 0
SolvesInCounts N s x = (t : ℕ) → t < N.formats → x t ≡ counting.sum (start counting s t) (inflow counting N letter x t)

module _ (N : Network) (s : ℕ) (x : ℕ → Series) (joined : Joined N) (source : s < N.formats) (solves : SolvesInCounts N s x) where
  -- at every format the list is counted 1 where it is a route, else 0
  abbrev Counted : List ℕ → Type 0
  Counted js = (t : ℕ) → t < N.formats → x t js ≡ cond (routes N s t js) 1 0

  counted-empty : Counted []
  unfolding inflow
  counted-empty t within =
      let whole = ap (λ f. f []) (solves t within) in
      let first = when-at (eqb t s) empty [] in
      let none = terms_none (λ j. (arc N j).in_force && eqb (arc N j).to t) (λ j. x (arc N j).from) (length N.steps) in
      grind (arith, nat_tests)

  counted_more : (is : List ℕ) (i : ℕ) → Counted is → Counted (is ++ i ∷ [])
  unfolding inflow
  counted_more is i before t within =
      let whole = ap (λ f. f (is ++ i ∷ [])) (solves t within) in
      let first = when-at (eqb t s) empty (is ++ i ∷ []) in
      let long = not-empty is i in
      let last = terms_last (λ j. (arc N j).in_force && eqb (arc N j).to t) (λ j. x (arc N j).from) (length N.steps) is i in
      let past = get_or_past N.steps i in
      let inside = joined i in
      let earlier = before (arc N i).from in
      let more = routes-more N s t is i in
      grind (arith, nat_tests)

  pub counted : (js : List ℕ) → Counted js
  counted js = from_end Counted counted_more [] js counted-empty

  pub routes-counted :
      (t : ℕ) → t < N.formats → (js : List ℕ) →
      (Route N s t js → x t js ≡ 1) × ((Route N s t js → ⊥) → x t js ≡ 0)
  routes-counted t within js =
      let count = counted js t within in
      let decided = decides_route N s t js in
      (λ route. grind arith, λ other. grind arith)

pub every_route_once_spec : EveryRouteOnce
every_route_once_spec N count component s joined ordered source =
    routes-counted N s (traced counting letter N count component s) joined source
    (solves counting Proper counting_laws N count component s letter joined ordered source (λ j _. refl))
