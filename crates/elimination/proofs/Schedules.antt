-- What the schedules of elimination hold: they name steps in force alone, each with its own ends; they scale the rows of a
-- table by closed formats alone, and pass in them from a format to later ones alone. Assumes nothing.
use Rattle.std.proofs.Common.{◌≡◌, ℕ, zero, suc, ◌<◌, Bool, true, not, ◌&&◌, eqb, List, [], ◌∷◌, ◌++◌, map, length, sym, refl, subst, arith}
use Rattle.std.specs.List.{AllByRecursion as All}
use Rattle.std.proofs.ByRecursion.{All-append, All-push, All-map, All-weaker}
use Rattle.std.proofs.lemmas.Bool.{cond_both, eqb-true}
use Rattle.std.proofs.lemmas.Bool.Decides.{nat_tests}
use Rattle.elimination.specs.Networks.{Network, arc, InForce}
use Rattle.elimination.specs.Moves.{Move, Act, scale, pass, cross, load, close, at, keep, below, for_each, formats_of, steps_in_force, loads, leaving, eliminate, sweep, sweep_back, sealing, tracing, put}

-- what a list keeps has what all of it had, and passes the test
pub all_keep : (P : ℕ → Type 0) (test : ℕ → Bool) (vs : List ℕ) → All P vs → All (λ v. P v × (test v ≡ true)) (keep test vs)
all_keep P test [] h = tt
all_keep P test (v ∷ vs) h =
    let rest = all_keep P test vs h.1 in
    cond_both (test v) (v ∷ keep test vs) (keep test vs) (All (λ u. P u × (test u ≡ true))) (λ e. ((h.0, e), rest)) (λ _. rest)

pub all-below : (n : ℕ) → All (λ v. v < n) (below n)
all-below zero = tt
all-below (suc n) = All-push (λ v. v < suc n) (below n) n (All-weaker _ _ (λ v h. omega arith) (below n) (all-below n)) (omega arith)

pub every : {X : Type 0} (P : X → Type 0) → ((x : X) → P x) → (xs : List X) → All P xs
every P h [] = tt
every P h (x ∷ xs) = (h x, every P h xs)

pub all-for_each : {X : Type 0} (P : X → Type 0) (f : ℕ → List X) (vs : List ℕ) → All (λ v. All P (f v)) vs → All P (for_each f vs)
all-for_each P f [] h = tt
all-for_each P f (v ∷ vs) h = All-append P (f v) (for_each f vs) h.0 (all-for_each P f vs h.1)

pub all-front : {X : Type 0} (P : X → Type 0) (xs ys : List X) → All P (xs ++ ys) → All P xs
all-front P [] ys h = tt
all-front P (x ∷ xs) ys h = (h.0, all-front P xs ys h.1)

-- each number is below those after it
abbrev pub Rising : List ℕ → Type 0
Rising [] = Unit {0}
Rising (v ∷ vs) = All (λ w. v < w) vs × Rising vs

rising_push : (vs : List ℕ) (n : ℕ) → Rising vs → All (λ v. v < n) vs → Rising (vs ++ n ∷ [])
rising_push [] n rising h = (tt, tt)
rising_push (v ∷ vs) n rising h = (All-push (λ w. v < w) vs n rising.0 h.0, rising_push vs n rising.1 h.1)

pub rising_keep : (test : ℕ → Bool) (vs : List ℕ) → Rising vs → Rising (keep test vs)
rising_keep test [] rising = tt
rising_keep test (v ∷ vs) rising =
    let rest = rising_keep test vs rising.1 in
    let later = All-weaker _ (λ w. v < w) (λ w h. h.0) (keep test vs) (all_keep (λ w. v < w) test vs rising.0) in
    cond_both (test v) (v ∷ keep test vs) (keep test vs) Rising (λ _. (later, rest)) (λ _. rest)

pub rising_below : (n : ℕ) → Rising (below n)
rising_below zero = tt
rising_below (suc n) = rising_push (below n) n (rising_below n) (all-below n)

-- which formats are closed after an act
abbrev pub after : (ℕ → Bool) → Act → ℕ → Bool
after closed (load j from to shared) = closed
after closed (close v) = put v true closed
after closed (at u m) = closed

module _ (N : Network) where
  -- the ends of a step in force
  abbrev pub Ends : ℕ → ℕ → ℕ → Type 0
  Ends j from to = InForce N j × ((arc N j).from ≡ from) × ((arc N j).to ≡ to)

  -- a move of a source's row: it scales by formats of which a given fact holds, and crosses steps in force
  abbrev pub FitMove : (ℕ → Type 0) → Move → Type 0
  FitMove Scaled (scale v) = Scaled v
  FitMove Scaled (pass v w) = Unit {0}
  FitMove Scaled (cross j from to) = Ends j from to

module _ (N : Network) (component : ℕ → ℕ) where
  -- an act that may come when these formats are closed
  abbrev pub FitAct : (ℕ → Bool) → Act → Type 0
  FitAct closed (load j from to shared) = Ends N j from to × (shared ≡ true → component from ≡ component to)
  FitAct closed (close v) = v < N.formats
  FitAct closed (at u (scale v)) = closed v ≡ true
  FitAct closed (at u (pass v w)) = v < w
  FitAct closed (at u (cross j from to)) = ⊥

  -- acts that may come in turn
  abbrev pub Fit : (ℕ → Bool) → List Act → Type 0
  Fit closed [] = Unit {0}
  Fit closed (a ∷ acts) = FitAct closed a × Fit (after closed a) acts

  fit_append : (acts more : List Act) (closed : ℕ → Bool) → Fit closed acts → ((c : ℕ → Bool) → Fit c more) → Fit closed (acts ++ more)
  fit_append [] more closed h k = k closed
  fit_append (a ∷ acts) more closed h k = (h.0, fit_append acts more (after closed a) h.1 k)

  pub fit_front : (done rest : List Act) (closed : ℕ → Bool) → Fit closed (done ++ rest) → Fit closed done
  fit_front [] rest closed h = tt
  fit_front (a ∷ done) rest closed h = (h.0, fit_front done rest (after closed a) h.1)

  -- an act that closes nothing
  abbrev Plain : (ℕ → Bool) → Act → Type 0
  Plain closed a = FitAct closed a × (after closed a ≡ closed)

  fit_plain : (acts : List Act) (closed : ℕ → Bool) → All (Plain closed) acts → Fit closed acts
  fit_plain [] closed h = tt
  fit_plain (a ∷ acts) closed h = (h.0.0, subst (λ c. Fit c acts) (sym h.0.1) (fit_plain acts closed h.1))

  fit_for_each : (f : ℕ → List Act) (vs : List ℕ) → ((v : ℕ) (closed : ℕ → Bool) → Fit closed (f v)) → (closed : ℕ → Bool) → Fit closed (for_each f vs)
  fit_for_each f [] h closed = tt
  fit_for_each f (v ∷ vs) h closed = fit_append (f v) (for_each f vs) closed (h v closed) (fit_for_each f vs h)

  fit_eliminate : (vs : List ℕ) → Rising vs → All (λ v. v < N.formats) vs → (closed : ℕ → Bool) → Fit closed (eliminate vs)
  fit_eliminate [] rising h closed = tt
  fit_eliminate (v ∷ later) rising h closed = (
    h.0,
    fit_append (for_each row later) (eliminate later) now
        (fit_plain (for_each row later) now (all-for_each (Plain now) row later (every _ fit_row later)))
        (fit_eliminate later rising.1 h.1),
  )
    where
      now : ℕ → Bool
      now = put v true closed

      row : ℕ → List Act
      row u = at u (scale v) ∷ map (λ w. at u (pass v w)) later

      fit_row : (u : ℕ) → All (Plain now) (row u)
      fit_row u =
          ((grind (arith, nat_tests), refl), All-map (Plain now) (λ w. at u (pass v w)) later (All-weaker _ _ (λ w h. (h, refl)) later rising.0))

  steps_fit : All (InForce N) (steps_in_force N component)
  steps_fit =
      let added = below (length N.steps) in
      All-weaker _ (InForce N) (λ j h. h.1) (steps_in_force N component) (all_keep _ (λ j. (arc N j).in_force) added (all-below (length N.steps)))

  pub formats_fit : (c : ℕ) → All (λ v. v < N.formats) (formats_of N component c)
  formats_fit c = All-weaker _ _ (λ v h. h.0) (formats_of N component c) (all_keep _ (λ v. eqb (component v) c) (below N.formats) (all-below N.formats))

  loads_fit : (closed : ℕ → Bool) → Fit closed (loads N component)
  loads_fit closed =
      fit_plain (loads N component) closed
      (All-map (Plain closed) _ (steps_in_force N component) (All-weaker _ _ (λ j h. (((h, refl, refl), eqb-true _ _), refl)) (steps_in_force N component) steps_fit))

  pub fit_sealing : (count : ℕ) (closed : ℕ → Bool) → Fit closed (sealing N count component)
  unfolding sealing
  fit_sealing count closed =
      let vs = λ (c : ℕ). formats_of N component c in
      fit_append (loads N component) (for_each (λ c. eliminate (vs c)) (below count)) closed (loads_fit closed)
      (fit_for_each (λ c. eliminate (vs c)) (below count)
      (λ c. fit_eliminate (vs c) (rising_keep _ (below N.formats) (rising_below N.formats)) (formats_fit c)))

  module _ (Scaled : ℕ → Type 0) where
    abbrev FitMoves : List Move → Type 0
    FitMoves = All (FitMove N Scaled)

    fit_passes : (v : ℕ) (ws : List ℕ) → FitMoves (map (pass v) ws)
    fit_passes v ws = All-map (FitMove N Scaled) (pass v) ws (every _ (λ _. tt) ws)

    fit_sweep : (vs : List ℕ) → All Scaled vs → FitMoves (sweep vs)
    fit_sweep [] h = tt
    fit_sweep (v ∷ later) h = (h.0, All-append (FitMove N Scaled) (map (pass v) later) (sweep later) (fit_passes v later) (fit_sweep later h.1))

    fit_sweep_back : (earlier vs : List ℕ) → FitMoves (sweep_back earlier vs)
    fit_sweep_back earlier [] = tt
    fit_sweep_back earlier (u ∷ us) =
        All-append (FitMove N Scaled) (sweep_back (earlier ++ u ∷ []) us) (map (pass u) earlier) (fit_sweep_back (earlier ++ u ∷ []) us) (fit_passes u earlier)

    fit_leaving : (c : ℕ) → FitMoves (leaving N component c)
    fit_leaving c =
        let test = λ (j : ℕ). eqb (component (arc N j).from) c && not (eqb (component (arc N j).to) c) in
        All-map (FitMove N Scaled) _ (keep test (steps_in_force N component))
        (All-weaker _ _ (λ j h. (h.0, refl, refl)) (keep test (steps_in_force N component)) (all_keep (InForce N) test (steps_in_force N component) steps_fit))

    -- a trace scales by the formats of the components alone
    pub fit_tracing : (count : ℕ) → ((c : ℕ) → c < count → All Scaled (formats_of N component c)) → FitMoves (tracing N count component)
    unfolding tracing
    fit_tracing count h = all-for_each (FitMove N Scaled) _ (below count) (All-weaker _ _ (λ c k.
        let vs = formats_of N component c in
        let sweeps = All-append (FitMove N Scaled) (sweep vs) (sweep_back [] vs) (fit_sweep vs (h c k)) (fit_sweep_back [] vs) in
        All-append (FitMove N Scaled) (sweep vs ++ sweep_back [] vs) (leaving N component c) sweeps (fit_leaving c)) (below count) (all-below count))
