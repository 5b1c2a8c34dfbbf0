-- In a Kleene algebra the row that elimination gives is below every solution of the network's equations, so it is the least,
-- and like networks have the same. Assumes nothing.
use Rattle.std.proofs.Common.{◌≡◌, ℕ, zero, suc, ◌<◌, Bool, true, false, ◌&&◌, eqb, length, sym, refl, ap, ◌∙◌, subst, subst₂, ⊎_elim, arith}
use mathlib.Core.Path.{subst₃}
use Rattle.std.proofs.lemmas.List.{get_or_past}
use Rattle.std.proofs.lemmas.Bool.{cases_lt, cases_eq, both_ways, eq-eqb, cond-true, and_parts, and_from}
use Rattle.kleene.specs.Algebras.{Operations, Meaning, Kleene, Member, Below}
use Rattle.elimination.specs.Networks.{Network, arc, InForce, Joined, Ordered}
use Rattle.elimination.specs.Equations.{when, sum_below, start, inflow, Weighed, Solution, Least}
use Rattle.elimination.specs.Moves.{traced}
use Rattle.elimination.specs.Theorems.{SolvesAndLeast, LikeAgree}
use Rattle.elimination.proofs.Runs.{TableKept, RowKept, traced_keeps, Homomorphism}
use Rattle.elimination.proofs.Members.{whole, Members, same-member, on_members, value_respects, as_member, value_as_member, members_laws, below_trans, below_both, sum-below, left_below, right-below, product-below, members_semiring, weights_agree, traced_value}
use Rattle.elimination.proofs.Solves.{solves}

-- the steps in force are among those that were added
force_counted : (N : Network) (j : ℕ) → InForce N j → j < length N.steps
force_counted N j force =
    ⊎_elim (λ h. h) (λ h. let e : (arc N j).in_force ≡ false = ap (λ a. a.in_force) (get_or_past N.steps j _ h) in absurd (both_ways _ e force)) (cases_lt j (length N.steps))

-- a homomorphism takes an equation of a network to the equation over the values that it gives
module _ {S S' : Type 0} {o : Operations S} {o' : Operations S'} (h : S → S') (hom : Homomorphism o o' h) where
  when_agrees : (test : Bool) (a : S) (a' : S') → (test ≡ true → h a ≡ a') → h (when o test a) ≡ when o' test a'
  when_agrees true a a' e = e refl
  when_agrees false a a' e = hom.zero

  sum_agrees : (n : ℕ) (f : ℕ → S) (f' : ℕ → S') → ((j : ℕ) → h (f j) ≡ f' j) → h (sum_below o n f) ≡ sum_below o' n f'
  sum_agrees zero f f' e = hom.zero
  sum_agrees (suc n) f f' e = hom.sum _ _ ∙ λ i. o'.sum (sum_agrees n f f' e i) (e n i)

  -- the right side of the equation of t
  equation_agrees : (N : Network) (s : ℕ) (weight x : ℕ → S) (weight' x' : ℕ → S') →
      ((j : ℕ) → InForce N j → h (weight j) ≡ weight' j) → ((j : ℕ) → InForce N j → h (x (arc N j).from) ≡ x' (arc N j).from) →
      (t : ℕ) → h (o.sum (start o s t) (inflow o N weight x t)) ≡ o'.sum (start o' s t) (inflow o' N weight' x' t)
  unfolding inflow
  equation_agrees N s weight x weight' x' p q t =
      let starts = when_agrees (eqb t s) o.one o'.one (λ _. hom.one) in
      let comes = sum_agrees (length N.steps) _ _ (λ j. when_agrees _ _ _ (λ e.
      let force = (and_parts (arc N j).in_force (eqb (arc N j).to t) e).0 in
      hom.product _ _ ∙ λ i. o'.product (q j force i) (p j force i))) in
      hom.sum _ _ ∙ λ i. o'.sum (starts i) (comes i)

-- each step in force of N has a partner in M, with the same ends and weight
abbrev Partners : {S : Type 0} → Network → Network → (ℕ → S) → (ℕ → S) → Type 0
Partners N M weight other =
    (j : ℕ) → InForce N j →
    (i : ℕ) × InForce M i × ((arc M i).from ≡ (arc N j).from) × ((arc M i).to ≡ (arc N j).to) × (other i ≡ weight j)

module _ {S : Type 0} (o : Operations S) (laws : Kleene (whole o)) where
  open o use {one, sum as ◌⊕◌, product as ◌⊙◌, star}
  open laws use {sum_same, zero-sum, product_assoc, product-zero, product-sum, least_last}

  infixl 60 ◌⊕◌
  infixl 70 ◌⊙◌
  infix 50 ◌≼◌
  -- the order of the algebra
  abbrev ◌≼◌ : S → S → Type 0
  a ≼ b = Below (whole o) a b

  -- a sum is above each of its terms
  term_below : (n j : ℕ) (f : ℕ → S) → j < n → f j ≼ sum_below o n f
  term_below zero j f h = absurd (omega arith)
  term_below (suc n) j f h = ⊎_elim
      (λ e. subst (λ i. f i ≼ sum_below o n f ⊕ f n) (sym e) (right-below o laws (sum_below o n f) (f n)))
      (λ e. below_trans o laws (term_below n j f (omega arith)) (left_below o laws (sum_below o n f) (f n)))
      (cases_eq j n)

  module _ (N : Network) (s : ℕ) (weight y : ℕ → S) where
    -- y is no less than one at the source, and no step in force leads above it
    record Upper : Type 0 where
      begins : one ≼ y s
      along : (j : ℕ) → InForce N j → y (arc N j).from ⊙ weight j ≼ y (arc N j).to

    solution_upper : Joined N → s < N.formats → ((t : ℕ) → t < N.formats → y t ≡ start o s t ⊕ inflow o N weight y t) → Upper
    unfolding inflow
    solution_upper joined source solution = record {
      begins = subst (λ x. one ≼ x) (sym (solution s source ∙ ap (λ x. x ⊕ inflow o N weight y s) (cond-true (eqb s s) one _ (eq-eqb s s refl)))) (left_below o laws one _);
      along = λ j force.
          let t = (arc N j).to in
          let come = y (arc N j).from ⊙ weight j in
          let counted = cond-true ((arc N j).in_force && eqb t t) come _ (and_from _ _ force (eq-eqb t t refl)) in
          let among = subst (λ x. x ≼ inflow o N weight y t) counted (term_below (length N.steps) j _ (force_counted N j force)) in
          subst (λ x. come ≼ x) (sym (solution t (joined j force).1)) (below_trans o laws among (right-below o laws (start o s t) _));
    }

    module _ (upper : Upper) (component : ℕ → ℕ) where
      table_upper : TableKept o o weight weight N component (λ u w a _. y u ⊙ a ≼ y w)
      table_upper = record {
        nothing = λ u w. cc (product-zero (y u) refl, zero-sum (y w) refl);
        sum = λ {u} {w} {a} {b} p q. subst (λ x. x ≼ y w) (sym (product-sum (y u) a b refl refl refl)) (sum-below o laws p q);
        product = λ {u} {v} {w} {a} {b} p q. subst (λ x. x ≼ y w) (product_assoc (y u) a b refl refl refl) (below_trans o laws (product-below o laws b p) q);
        star = λ {v} {a} _ p. least_last a (y v) (y v) refl refl refl (sum-below o laws (sum_same (y v) refl) p);
        along = λ j force _. upper.along j force;
      }

      row_upper : RowKept o o weight weight N component (λ u w a _. y u ⊙ a ≼ y w) (λ w a _. a ≼ y w)
      row_upper = record {
        nothing = λ w. zero-sum (y w) refl;
        sum = λ p q. sum-below o laws p q;
        product = λ {v} {w} {a} {b} p q. below_trans o laws (product-below o laws b p) q;
        along = λ j force p. below_trans o laws (product-below o laws (weight j) p) (upper.along j force);
      }

      traced_upper : (count t : ℕ) → traced o weight N count component s t ≼ y t
      traced_upper count = traced_keeps o o weight weight N component _ table_upper _ row_upper count s upper.begins

  -- a bound of the rows of one network is one for another whose steps in force have partners there
  upper_partners : (N M : Network) (s : ℕ) (weight other y : ℕ → S) → Partners N M weight other → Upper M s other y → Upper N s weight y
  upper_partners N M s weight other y partner upper = record {
    begins = upper.begins;
    along = λ j force. let p = partner j force in subst₃ (λ from to a. y from ⊙ a ≼ y to) p.2 p.3 p.4 (upper.along p.0 p.1);
  }

module _ {V : Type 0} (m : Meaning V) (laws : Kleene m) where
  -- a network and its order, a source, and weights that are members
  record Asked (N : Network) (count : ℕ) (component : ℕ → ℕ) (s : ℕ) (weight : ℕ → V) : Type 0 where
    joined : Joined N
    ordered : Ordered N count component
    source : s < N.formats
    weighed : Weighed m N weight

  abbrev over : Operations (Members m)
  over = on_members m laws

  -- values as members
  abbrev lifted : (ℕ → V) → ℕ → Members m
  lifted x t = as_member m laws (x t)

  -- y bounds the row among the members
  abbrev Bounds : Network → ℕ → (ℕ → V) → (ℕ → Members m) → Type 0
  Bounds N s weight y = Upper over (members_laws m laws) N s (lifted weight) y

  module _ {N : Network} {count : ℕ} {component : ℕ → ℕ} {s : ℕ} {weight : ℕ → V} (asked : Asked N count component s weight) where
    open asked use {joined, ordered, source, weighed}

    -- the row among the members
    abbrev row : ℕ → Members m
    row = traced over (lifted weight) N count component s

    row_value : (t : ℕ) → (row t).0 ≡ traced m.on weight N count component s t
    row_value = traced_value m laws N component weight weighed count s

    -- the values of a right side among the members
    equation_value : (x : ℕ → Members m) (y : ℕ → V) → ((j : ℕ) → InForce N j → (x (arc N j).from).0 ≡ y (arc N j).from) → (t : ℕ) →
        (over.sum (start over s t) (inflow over N (lifted weight) x t)).0 ≡ m.on.sum (start m.on s t) (inflow m.on N weight y t)
    equation_value x y = equation_agrees (λ a. a.0) (value_respects m laws) N s (lifted weight) x weight y (weights_agree m laws N component weight weighed)

    row-solves : (t : ℕ) → t < N.formats → row t ≡ over.sum (start over s t) (inflow over N (lifted weight) row t)
    row-solves = solves over (λ _. Unit {0}) (members_semiring m laws) N count component s (lifted weight) joined ordered source (λ _ _. tt)

    row_bounds : Bounds N s weight row
    row_bounds = solution_upper over (members_laws m laws) N s (lifted weight) row joined source row-solves

    row_below : (y : ℕ → Members m) → Bounds N s weight y → (t : ℕ) → over.sum (row t) (y t) ≡ y t
    row_below y bounds = traced_upper over (members_laws m laws) N s (lifted weight) y bounds component count

    -- a solution among the values bounds the row among the members
    solution_bounds : (y : ℕ → V) → Solution m N s weight y → Bounds N s weight (lifted y)
    solution_bounds y solution = solution_upper over (members_laws m laws) N s (lifted weight) (lifted y) joined source (λ t h.
        same-member m _ _ (
        value_as_member m laws (y t) (solution.members t h)
        ∙ solution.holds t h
        ∙ sym (equation_value (lifted y) y (λ j force. value_as_member m laws _ (solution.members _ (joined j force).0)) t)))

    row-least : Least m N s weight (traced m.on weight N count component s)
    row-least = record {
      solves = record {
        members = λ t h. subst (Member m) (row_value t) (row t).1;
        holds = λ t h. sym (row_value t) ∙ ap (λ a. a.0) (row-solves t h) ∙ equation_value row _ (λ j _. row_value _) t;
      };
      below = λ y solution t h.
          subst₂ (Below m) (row_value t) (value_as_member m laws (y t) (solution.members t h))
          (ap (λ a. a.0) (row_below (lifted y) (solution_bounds y solution) t));
    }

  pub solves-and-least : SolvesAndLeast m
  solves-and-least N count component s weight joined ordered source weighed =
      row-least (record { joined = joined; ordered = ordered; source = source; weighed = weighed })

  module _ {N M : Network} {count counts : ℕ} {component components : ℕ → ℕ} {s : ℕ} {weight other : ℕ → V}
      (asked : Asked N count component s weight) (again : Asked M counts components s other) where
    partners_below : Partners N M weight other → (t : ℕ) → over.sum (row asked t) (row again t) ≡ row again t
    partners_below partner = row_below asked (row again) (upper_partners over (members_laws m laws) N M s (lifted weight) (lifted other) (row again)
        (λ j force. let p = partner j force in (p.0, p.1, p.2, p.3, ap (as_member m laws) p.4)) (row_bounds again))

  pub like_agree : LikeAgree m
  like_agree N M count counts component components s weight other joined ordered joinedM orderedM source weighed match equal t _ =
      let same = λ (j : ℕ) (force : InForce M j). equal (match.back j) (match.back-joins j force).0 ∙ ap other (match.back-there j force) in
      let asked : Asked N count component s weight = record { joined = joined; ordered = ordered; source = source; weighed = weighed } in
      let again : Asked M counts components s other = record {
        joined = joinedM;
        ordered = orderedM;
        source = subst (λ n. s < n) match.formats source;
        weighed = λ j force. subst (Member m) (same j force) (weighed _ (match.back-joins j force).0);
      } in
      let there = partners_below asked again (λ j force. let p = match.there-joins j force in (match.there j, p.0, p.1, p.2, sym (equal j force))) t in
      let back = partners_below again asked (λ j force. let p = match.back-joins j force in (match.back j, p.0, p.1, p.2, same j force)) t in
      sym (row_value asked t) ∙ ap (λ a. a.0) (below_both over (members_laws m laws) there back) ∙ row_value again t
