-- Every value of the table and of the row along the run counts each list at most once, if the row at the end does: the moves
-- only raise counts, and what the table has from u to w comes into the row of u. Assumes nothing.
use Rattle.std.proofs.Common.{◌≡◌, ℕ, ◌+◌, ◌*◌, ◌<◌, ◌≤◌, Bool, true, false, cond, eqb, ◌⊎◌, List, [], ◌∷◌, ◌++◌, fold, sym, refl, ap, ◌∙◌, subst, subst₂, inl, inr, ⊎_elim, le_trans, mul-le-mul_right, mul-le-mul_left, mul-zero, zero-mul, le-mul_of_pos_right, arith}
use Rattle.std.specs.List.{AllByRecursion as All}
use Rattle.std.proofs.ByRecursion.{All-weaker}
use Rattle.std.proofs.lemmas.Bool.{cases_lt, cond-true, eq-eqb, false≢true}
use Rattle.std.proofs.lemmas.Bool.Decides.{nat_tests}
use Rattle.elimination.specs.Networks.{Network, Joined, Ordered}
use Rattle.elimination.specs.Moves.{Move, Act, scale, pass, cross, load, close, at, put, move, act, no_table, first_row, sealing, tracing, sealed, traced}
use Rattle.elimination.specs.Series.{Series, over_cuts, counting, letter}
use Rattle.elimination.specs.Theorems.{EveryRouteOnce, AtMostOnce}
use Rattle.elimination.proofs.Schedules.{FitMove, FitAct, Fit, after, formats_fit, fit_sealing, fit_tracing}
use Rattle.elimination.proofs.Runs.{put_both, TableKept, RowKept, sealed_keeps, traced_keeps}
use Rattle.elimination.proofs.Meets.{Some, Closing, Bringing, sealing_closes, tracing_brings}

infix 50 ◌≼◌
-- no list is counted less often
abbrev ◌≼◌ : Series → Series → Type 0
f ≼ g = (js : List ℕ) → f js ≤ g js

product_raises_first : (f g : Series) → 1 ≤ g [] → f ≼ over_cuts f g
product_raises_first f g h [] = le-mul_of_pos_right (f []) h
product_raises_first f g h (j ∷ js) = omega (arith, product_raises_first (λ rest. f (j ∷ rest)) g h js)

product_raises_last : (f g : Series) → 1 ≤ f [] → g ≼ over_cuts f g
product_raises_last f g h [] = omega (arith, mul-le-mul_right (g []) h)
product_raises_last f g h (j ∷ js) = omega (arith, mul-le-mul_right (g (j ∷ js)) h)

star_raises : (f : Series) → f [] ≤ 1 → f ≼ counting.star f
star_raises f h [] = h
star_raises f h (j ∷ js) = product_raises_first (λ rest. f (j ∷ rest)) _ (omega arith) js

-- no list is counted at all
abbrev Nothing : Series → Type 0
Nothing f = (js : List ℕ) → f js ≡ 0

nothing-first : (f g : Series) → Nothing f → Nothing (over_cuts f g)
nothing-first f g h [] = ap (λ n. n * g []) (h []) ∙ zero-mul (g [])
nothing-first f g h (j ∷ js) =
    let first = ap (λ n. n * g (j ∷ js)) (h []) in
    let rest = nothing-first (λ rest. f (j ∷ rest)) g (λ rest. h (j ∷ rest)) js in
    omega arith

nothing_last : (f g : Series) → Nothing g → Nothing (over_cuts f g)
nothing_last f g h [] = ap (λ n. f [] * n) (h []) ∙ mul-zero (f [])
nothing_last f g h (j ∷ js) =
    let first = ap (λ n. f [] * n) (h (j ∷ js)) in
    let rest = nothing_last (λ rest. f (j ∷ rest)) g h js in
    omega arith

sum_either : {A : Type 0} (f g : Series) → A ⊎ Nothing f → A ⊎ Nothing g → A ⊎ Nothing (counting.sum f g)
sum_either f g (inl a) q = inl a
sum_either f g (inr h) (inl a) = inl a
sum_either f g (inr h) (inr k) = inr (λ js. omega (arith, h js, k js))

put_here : {X : Type 0} (v : ℕ) (a : X) (f : ℕ → X) → put v a f v ≡ a
put_here v a f = cond-true (eqb v v) a (f v) (eq-eqb v v refl)

put_raises : (v : ℕ) (a : Series) (R : ℕ → Series) → R v ≼ a → (w : ℕ) → R w ≼ put v a R w
put_raises v a R h = put_both (λ w f _. R w ≼ f) v a a R R h (λ w js. omega arith)

-- the most that the empty list may be counted from u to w
abbrev once : ℕ → ℕ → ℕ
once u w = cond (eqb u w) 1 0

-- a table in which the empty list is counted once where a format is closed, at most once on the diagonal, and not elsewhere
record Sound (closed : ℕ → Bool) (P : ℕ → ℕ → Series) : Type 0 where
  bounded : (u w : ℕ) → P u w [] ≤ once u w
  counted : (v : ℕ) → closed v ≡ true → 1 ≤ P v v []

module _ (N : Network) (component : ℕ → ℕ) where
  module _ (closed : ℕ → Bool) (P : ℕ → ℕ → Series) (sound : Sound closed P) where
    open sound use {bounded, counted}

    -- what may stand from u to w after an act
    abbrev Raised : ℕ → ℕ → Series → Type 0
    Raised u w f = (P u w ≼ f) × (f [] ≤ once u w)

    changed : (x y : ℕ) (f : Series) → Raised x y f → (u w : ℕ) → Raised u w (put x (put y f (P x)) P u w)
    changed x y f h =
        let same : (u w : ℕ) → Raised u w (P u w) = λ u w. (λ js. omega arith, bounded u w) in
        put_both (λ u R _. (w : ℕ) → Raised u w (R w)) x _ (P x) P P (put_both (λ w g _. Raised x w g) y f f (P x) (P x) h (same x)) same

    diagonal : (v : ℕ) → P v v [] ≤ 1
    diagonal v = let b = bounded v v in grind (arith, nat_tests)

    elsewhere : (v w : ℕ) → v < w → P v w [] ≡ 0
    elsewhere v w h = let b = bounded v w in grind (arith, nat_tests)

    act_raises : (a : Act) → FitAct N component closed a → (u w : ℕ) → Raised u w (act counting letter P a u w)
    act_raises (load j from to false) fit = changed from to _ (λ js. omega arith, bounded from to)
    act_raises (load j from to true) fit = changed from to _ (λ js. omega arith, omega (arith, bounded from to))
    act_raises (close v) fit = changed v v _ (star_raises (P v v) (diagonal v), grind (arith, nat_tests))
    act_raises (at u (scale v)) fit =
        changed u v _ (product_raises_first (P u v) (P v v) (counted v fit), omega (arith, mul-le-mul_left (P u v []) (diagonal v), bounded u v))
    act_raises (at u (pass v w)) fit =
        let none = ap (λ n. P u v [] * n) (elsewhere v w fit) in changed u w _ (λ js. omega arith, omega (arith, bounded u w))
    act_raises (at u (cross j from to)) fit = absurd fit

    act-counts : (a : Act) → FitAct N component closed a → (v : ℕ) → after closed a v ≡ true → 1 ≤ act counting letter P a v v []
    act-counts (load j from to shared) fit v e = le_trans (counted v e) ((act_raises (load j from to shared) fit v v).0 [])
    act-counts (close x) fit v e =
        put_both (λ u R t. t ≡ true → 1 ≤ R u []) x _ true P closed
        (λ _. subst (λ f. 1 ≤ f []) (sym (put_here x (counting.star (P x x)) (P x))) (omega arith)) counted v e
    act-counts (at u m) fit v e = le_trans (counted v e) ((act_raises (at u m) fit v v).0 [])

    act-sound : (a : Act) → FitAct N component closed a → Sound (after closed a) (act counting letter P a)
    act-sound a fit = record { bounded = λ u w. (act_raises a fit u w).1; counted = act-counts a fit }

  acts_raise : (done rest : List Act) (closed : ℕ → Bool) (P : ℕ → ℕ → Series) → Sound closed P → Fit N component closed (done ++ rest) →
      (u w : ℕ) → fold (act counting letter) P done u w ≼ fold (act counting letter) P (done ++ rest) u w
  acts_raise [] [] closed P sound fit u w js = omega arith
  acts_raise [] (a ∷ rest) closed P sound fit u w js =
      le_trans ((act_raises closed P sound a fit.0 u w).0 js) (acts_raise [] rest (after closed a) _ (act-sound closed P sound a fit.0) fit.1 u w js)
  acts_raise (a ∷ done) rest closed P sound fit u w js = acts_raise done rest (after closed a) _ (act-sound closed P sound a fit.0) fit.1 u w js

  closing_closes : (a : Act) (closed : ℕ → Bool) (v : ℕ) → Closing v a → after closed a v ≡ true
  closing_closes (load j from to shared) closed v e = absurd e
  closing_closes (close x) closed v e = subst (λ y. put x true closed y ≡ true) e (put_here x true closed)
  closing_closes (at u m) closed v e = absurd e

  acts_count : (acts : List Act) (closed : ℕ → Bool) (P : ℕ → ℕ → Series) → Sound closed P → Fit N component closed acts →
      (v : ℕ) → Some (Closing v) acts → 1 ≤ fold (act counting letter) P acts v v []
  acts_count [] closed P sound fit v h = absurd h
  acts_count (a ∷ acts) closed P sound fit v (inl e) =
      le_trans (act-counts closed P sound a fit.0 v (closing_closes a closed v e))
      (acts_raise [] acts (after closed a) _ (act-sound closed P sound a fit.0) fit.1 v v [])
  acts_count (a ∷ acts) closed P sound fit v (inr h) = acts_count acts (after closed a) _ (act-sound closed P sound a fit.0) fit.1 v h

  module _ (P : ℕ → ℕ → Series) where
    -- a move that scales by a format where the empty list is counted
    abbrev Fine : Move → Type 0
    Fine = FitMove N (λ v. 1 ≤ P v v [])

    move_raises : (R : ℕ → Series) (m : Move) → Fine m → (w : ℕ) → R w ≼ move counting letter P R m w
    move_raises R (scale v) fit = put_raises v _ R (product_raises_first (R v) (P v v) fit)
    move_raises R (pass v w) fit = put_raises w _ R (λ js. omega arith)
    move_raises R (cross j from to) fit = put_raises to _ R (λ js. omega arith)

    moves_raise : (done rest : List Move) (R : ℕ → Series) → All Fine (done ++ rest) →
        (w : ℕ) → fold (move counting letter P) R done w ≼ fold (move counting letter P) R (done ++ rest) w
    moves_raise [] [] R fit w js = omega arith
    moves_raise [] (m ∷ rest) R fit w js = le_trans (move_raises R m fit.0 w js) (moves_raise [] rest _ fit.1 w js)
    moves_raise (m ∷ done) rest R fit w js = moves_raise done rest _ fit.1 w js

    move_brings : (R : ℕ → Series) (m : Move) (u w : ℕ) → Bringing u w m → 1 ≤ R u [] → P u w ≼ move counting letter P R m w
    move_brings R (scale x) u w h k =
        subst₂ (λ a b. 1 ≤ R a [] → P a b ≼ put x (over_cuts (R x) (P x x)) R b) h.0 h.1
        (λ k. subst (λ f. P x x ≼ f) (sym (put_here x _ R)) (product_raises_last (R x) (P x x) k)) k
    move_brings R (pass x y) u w h k =
        subst₂ (λ a b. 1 ≤ R a [] → P a b ≼ put y (λ js. R y js + over_cuts (R x) (P x y) js) R b) h.0 h.1
        (λ k. subst (λ f. P x y ≼ f) (sym (put_here y _ R)) (λ js. omega (arith, product_raises_last (R x) (P x y) k js))) k
    move_brings R (cross j from to) u w h k = absurd h

    moves_bring : (moves : List Move) (R : ℕ → Series) → All Fine moves → (u w : ℕ) → Some (Bringing u w) moves → 1 ≤ R u [] →
        P u w ≼ fold (move counting letter P) R moves w
    moves_bring [] R fit u w h k js = absurd h
    moves_bring (m ∷ moves) R fit u w (inl b) k js = le_trans (move_brings R m u w b k js) (moves_raise [] moves _ fit.1 w js)
    moves_bring (m ∷ moves) R fit u w (inr h) k js = moves_bring moves _ fit.1 u w h (le_trans k (move_raises R m fit.0 u [])) js

module _ (N : Network) (count : ℕ) (component : ℕ → ℕ) (joined : Joined N) (ordered : Ordered N count component) where
  -- the counts at the end of the acts
  abbrev table : ℕ → ℕ → Series
  table = sealed counting letter N count component

  -- the counts after some acts, and after some moves
  abbrev acted : List Act → ℕ → ℕ → Series
  acted = fold (act counting letter) (no_table counting letter)

  abbrev moved : ℕ → List Move → ℕ → Series
  moved s = fold (move counting letter table) (first_row counting letter s)

  start-sound : Sound (λ _. false) (no_table counting letter)
  start-sound = record { bounded = λ u w. omega arith; counted = λ v e. absurd (false≢true e) }

  -- both are formats of the network, of one component
  abbrev Related : ℕ → ℕ → Type 0
  Related u w = (u < N.formats) × (w < N.formats) × (component u ≡ component w)

  -- the table has nothing from u to w unless they are related
  table_related : TableKept counting counting letter letter N component (λ u w f _. Related u w ⊎ Nothing f)
  table_related = record {
    nothing = λ u w. inr (λ js. refl);
    sum = λ {u} {w} {a} {b} p q. sum_either a b p q;
    product = λ {u} {v} {w} {a} {b} p q.
        ⊎_elim (λ r. ⊎_elim (λ s. inl (r.0, s.1, r.2 ∙ s.2)) (λ none. inr (nothing_last a b none)) q) (λ none. inr (nothing-first a b none)) p;
    star = λ h _. inl (h, h, refl);
    along = λ j force e. inl ((joined j force).0, (joined j force).1, e);
  }

  -- the row has nothing beyond the formats
  row_inside : RowKept counting counting letter letter N component (λ u w f _. Related u w ⊎ Nothing f) (λ w f _. (w < N.formats) ⊎ Nothing f)
  row_inside = record {
    nothing = λ w. inr (λ js. refl);
    sum = λ {w} {a} {b} p q. sum_either a b p q;
    product = λ {v} {w} {a} {b} p q. ⊎_elim (λ r. inl r.1) (λ none. inr (nothing_last a b none)) q;
    along = λ j force _. inl (joined j force).1;
  }

  -- a front of the acts counts no more than the table
  sealing_raises : (done rest : List Act) → done ++ rest ≡ sealing N count component → (u w : ℕ) → acted done u w ≼ table u w
  unfolding sealed
  sealing_raises done rest e u w js =
      let fit = subst (Fit N component (λ _. false)) (sym e) (fit_sealing N component count _) in
      subst (λ acts. acted done u w js ≤ acted acts u w js) e (acts_raise N component done rest _ _ start-sound fit u w js)

  table-counts : (v : ℕ) → v < N.formats → 1 ≤ table v v []
  unfolding sealed
  table-counts v h =
      let closed = sealing_closes N count component v h (ordered.counted v h) in
      acts_count N component (sealing N count component) (λ _. false) _ start-sound (fit_sealing N component count _) v closed

  tracing_fine : All (Fine N component table) (tracing N count component)
  tracing_fine = fit_tracing N component _ count (λ c h. All-weaker _ _ table-counts _ (formats_fit N component c))

  -- a front of the moves counts no more than the row
  tracing_raises : (s : ℕ) (done rest : List Move) → done ++ rest ≡ tracing N count component → (t : ℕ) →
      moved s done t ≼ traced counting letter N count component s t
  unfolding traced
  tracing_raises s done rest e t js =
      let fine = subst (All (Fine N component table)) (sym e) tracing_fine in
      subst (λ moves. moved s done t js ≤ moved s moves t js) e (moves_raise N component table done rest _ fine t js)

  -- the table from u to w counts no more than the row of u at w
  table_below : (u w : ℕ) → Related u w → table u w ≼ traced counting letter N count component u w
  unfolding traced
  table_below u w (hu, hw, e) =
      let brought = tracing_brings N count component u w hu hw e (ordered.counted w hw) in
      moves_bring N component table (tracing N count component) _ tracing_fine u w brought
      (subst (λ f. 1 ≤ f []) (sym (put_here u counting.one (λ _. counting.zero))) (omega arith))

  module _ (once-each : EveryRouteOnce) where
    row_once : (s : ℕ) → s < N.formats → (t : ℕ) (js : List ℕ) → traced counting letter N count component s t js ≤ 1
    row_once s source t js = ⊎_elim
        (λ h.
        let counts = once-each N count component s joined ordered source t h js in
        ⊎_elim (λ small. omega arith) (λ large. let none = counts.1 (λ route. omega (arith, counts.0 route)) in omega arith)
        (cases_lt (traced counting letter N count component s t js) 2))
        (λ none. omega (arith, none js))
        (traced_keeps counting counting letter letter N component _ table_related _ row_inside count s (inl source) t)

    table_once : (u w : ℕ) (js : List ℕ) → table u w js ≤ 1
    table_once u w js = ⊎_elim
        (λ r. le_trans (table_below u w r js) (row_once u r.0 w js))
        (λ none. omega (arith, none js))
        (sealed_keeps counting counting letter letter N component _ table_related count u w)

pub at_most_once_spec : EveryRouteOnce → AtMostOnce
at_most_once_spec once-each N count component s joined ordered source = (
  λ done rest e u w js.
      le_trans (sealing_raises N count component joined ordered done rest e u w js) (table_once N count component joined ordered once-each u w js),
  λ done rest e t js.
      le_trans (tracing_raises N count component joined ordered s done rest e t js) (row_once N count component joined ordered once-each s source t js),
)
