-- Elimination solves the equations of one component. Assumes nothing.
use Rattle.std.proofs.Common.{◌≡◌, ℕ, true, false, cond, ◌&&◌, eqb, List, [], ◌∷◌, ◌++◌, map, fold, sym, refl, ap, ◌∙◌, subst, ap₂, ⊎_elim, arith}
use mathlib.Core.Path.{fun_ext}
use Rattle.std.proofs.lemmas.Bool.{cases_eq, cond_both}
use Rattle.std.proofs.lemmas.Bool.Decides.{nat_tests}
use Rattle.kleene.specs.Algebras.{Operations}
use Rattle.std.proofs.lemmas.List.Sums.{fold-append}
use Rattle.elimination.specs.Moves.{Act, scale, pass, at, close, move, act, put, for_each, eliminate, sweep, sweep_back}
use Rattle.elimination.proofs.Semirings.{StarSemiring}
use Rattle.elimination.proofs.Lists.{has, Distinct, has_push, distinct_push}
use Rattle.elimination.proofs.Sums.{total, total_same, total_sum, total_product, left_comm, sum-zero}

regrouped : {X Y : Type 0} (f : Y → X → Y) (y : Y) (a b c d : List X) →
    fold f y ((a ++ b) ++ (c ++ d)) ≡ fold f (fold f (fold f y a) (b ++ c)) d
regrouped f y a b c d = simp fold-append

-- the acts that free row u from v
abbrev free : ℕ → List ℕ → ℕ → List Act
free v later u = at u (scale v) ∷ map (λ w. at u (pass v w)) later

-- the acts that eliminate v
abbrev drop : ℕ → List ℕ → List Act
drop v later = close v ∷ for_each (free v later) later

module _ {S : Type 0} (o : Operations S) where
  open o use {sum as ◌⊕◌, product as ◌⊙◌, star}

  infixl 60 ◌⊕◌
  infixl 70 ◌⊙◌
  -- a row after what it has at v was passed to each of a list
  abbrev spread : (ℕ → ℕ → S) → ℕ → List ℕ → (ℕ → S) → ℕ → S
  spread P v ws R t = cond (has ws t) (R t ⊕ R v ⊙ P v t) (R t)

  -- row u of a table once it is free from v
  abbrev freed : ℕ → List ℕ → (ℕ → ℕ → S) → ℕ → ℕ → S
  freed v later P u w = cond (eqb w v) (P u v ⊙ P v v) (cond (has later w) (P u w ⊕ P u v ⊙ P v v ⊙ P v w) (P u w))

  -- a table once v is eliminated
  abbrev without : ℕ → List ℕ → (ℕ → ℕ → S) → ℕ → ℕ → S
  without v later T u w = let P = put v (put v (star (T v v)) (T v)) T in cond (has later u) (freed v later P u w) (P u w)

  module _ (step : ℕ → S) where
    -- passing does that
    passed : (P : ℕ → ℕ → S) (v : ℕ) (ws : List ℕ) (R : ℕ → S) → Distinct ws → has ws v ≡ false → (t : ℕ) →
        fold (move o step P) R (map (pass v) ws) t ≡ spread P v ws R t
    passed P v [] R d new t = refl
    passed P v (w ∷ ws) R d new t =
        let rest = passed P v ws (move o step P R (pass v w)) d.1 (grind (arith, nat_tests)) t in grind (arith, nat_tests)

    -- the same in row u of the table
    row_passed : (v u : ℕ) (ws : List ℕ) (P : ℕ → ℕ → S) → Distinct ws → has ws v ≡ false → eqb u v ≡ false → (x y : ℕ) →
        fold (act o step) P (map (λ w. at u (pass v w)) ws) x y ≡ cond (eqb x u) (spread P v ws (P x) y) (P x y)
    row_passed v u [] P d new other x y = grind (arith, nat_tests)
    row_passed v u (w ∷ ws) P d new other x y =
        let rest = row_passed v u ws (act o step P (at u (pass v w))) d.1 (grind (arith, nat_tests)) other x y in grind (arith, nat_tests)

    -- the acts that free a list of rows from v do that
    rows_freed : (v : ℕ) (later : List ℕ) → Distinct (v ∷ later) → (us : List ℕ) (P : ℕ → ℕ → S) → Distinct us → has us v ≡ false →
        (x y : ℕ) → fold (act o step) P (for_each (free v later) us) x y ≡ cond (has us x) (freed v later P x y) (P x y)
    rows_freed v later d [] P e apart x y = refl
    rows_freed v later d (u ∷ us) P e apart x y =
        let row = row_passed v u later (act o step P (at u (scale v))) d.1 d.0 (grind (arith, nat_tests)) in
        let rest = rows_freed v later d us (fold (act o step) P (free v later u)) e.1 (grind (arith, nat_tests)) x y in
        ap (λ T. T x y) (fold-append (act o step) P (free v later u) (for_each (free v later) us)) ∙ rest ∙ grind (arith, nat_tests, row)

    -- elimination of a list begins with its first
    eliminated : (v : ℕ) (later : List ℕ) (T : ℕ → ℕ → S) → Distinct (v ∷ later) →
        fold (act o step) T (eliminate (v ∷ later)) ≡ fold (act o step) (without v later T) (eliminate later)
    eliminated v later T d =
        fold-append (act o step) T (drop v later) (eliminate later)
        ∙ ap (λ P. fold (act o step) P (eliminate later))
        (fun_ext (λ x. fun_ext (λ y. rows_freed v later d later (act o step T (close v)) d.1 d.0 x y)))

    -- no entry changes but those with both ends in the list
    pub kept : (vs : List ℕ) (T : ℕ → ℕ → S) → Distinct vs → (x y : ℕ) → (has vs x && has vs y) ≡ false →
        fold (act o step) T (eliminate vs) x y ≡ T x y
    kept [] T d x y apart = refl
    kept (v ∷ later) T d x y apart =
        let rest = kept later (without v later T) d.1 x y (grind (arith, nat_tests)) in
        ap (λ P. P x y) (eliminated v later T d) ∙ rest ∙ grind (arith, nat_tests)

    -- so do the two sweeps, and they end with it
    twice_swept : (v : ℕ) (later earlier : List ℕ) (Q : ℕ → ℕ → S) (b : ℕ → S) →
        Distinct (v ∷ later) → Distinct earlier → has earlier v ≡ false →
        fold (move o step Q) b (sweep (v ∷ later) ++ sweep_back earlier (v ∷ later))
        ≡ spread Q v earlier (fold (move o step Q) (spread Q v later (put v (b v ⊙ Q v v) b)) (sweep later ++ sweep_back (earlier ++ v ∷ []) later))
    twice_swept v later earlier Q b d e new =
        let run = move o step Q in
        regrouped run (run b (scale v)) (map (pass v) later) (sweep later) (sweep_back (earlier ++ v ∷ []) later) (map (pass v) earlier)
        ∙ fun_ext (passed Q v earlier _ e new)
        ∙ ap (λ R. spread Q v earlier (fold run R (sweep later ++ sweep_back (earlier ++ v ∷ []) later))) (fun_ext (passed Q v later _ d.1 d.0))

-- x solves the equations of a list, with table T and right side b, and each earlier format has what comes by Q
pub record Swept {S : Type 0} (o : Operations S) (vs earlier : List ℕ) (T Q : ℕ → ℕ → S) (b x : ℕ → S) : Type 0 where
  pub within : (t : ℕ) → has vs t ≡ true → x t ≡ o.sum (b t) (total o vs (λ u. o.product (x u) (T u t)))
  pub before : (t : ℕ) → has earlier t ≡ true → x t ≡ o.sum (b t) (total o vs (λ u. o.product (x u) (Q u t)))
  pub apart : (t : ℕ) → has vs t ≡ false → has earlier t ≡ false → x t ≡ b t

module _ {S : Type 0} {o : Operations S} {Proper : S → Type 0} (laws : StarSemiring o Proper) where
  open o use {one, sum as ◌⊕◌, product as ◌⊙◌, star}
  open laws use {sum_assoc, sum_comm, product_assoc, product-one, product-sum, sum-product, sum_proper, product_proper_left, star_unfolds}

  infixl 60 ◌⊕◌
  infixl 70 ◌⊙◌
  -- the one use of the star's law
  closes : (a c z : S) → Proper a → z ≡ c ⊙ star a → z ≡ c ⊕ z ⊙ a
  closes a c z proper e =
      e ∙ ap (λ p. c ⊙ p) (star_unfolds a proper) ∙ product-sum c one (star a ⊙ a)
      ∙ ap₂ ◌⊕◌ (product-one c) (sym (product_assoc c (star a) a) ∙ ap (λ d. d ⊙ a) (sym e))

  -- y solves the equations of v ∷ later where it solves those without v, and y v is what b and the others bring, closed
  module _ (v : ℕ) (later : List ℕ) (T : ℕ → ℕ → S) (b y : ℕ → S)
      (here : y v ≡ b v ⊙ star (T v v) ⊕ total o later (λ u. y u ⊙ (T u v ⊙ star (T v v)))) where
    solved_first : Proper (T v v) → y v ≡ b v ⊕ (y v ⊙ T v v ⊕ total o later (λ u. y u ⊙ T u v))
    solved_first proper =
        let before = total o later (λ u. y u ⊙ T u v) in
        let closed : y v ≡ (b v ⊕ before) ⊙ star (T v v) = here ∙ simp (← product_assoc, total_product laws, sum-product) in
        closes (T v v) (b v ⊕ before) (y v) proper closed ∙ simp (sum_assoc, sum_comm)

    solved_later : (t : ℕ) →
        y t ≡ b t ⊕ b v ⊙ star (T v v) ⊙ T v t ⊕ total o later (λ u. y u ⊙ (T u t ⊕ T u v ⊙ star (T v v) ⊙ T v t)) →
        y t ≡ b t ⊕ (y v ⊙ T v t ⊕ total o later (λ u. y u ⊙ T u t))
    solved_later t there =
        there
        ∙ simp (here, ← product_assoc, product-sum, sum-product, total_sum laws, total_product laws, sum_assoc, sum_comm, left_comm laws)

  -- from y, swept over later by the table without v, to the row swept over v ∷ later
  module _ (v : ℕ) (later earlier : List ℕ) (T Q : ℕ → ℕ → S) (b y : ℕ → S)
      (d : Distinct (v ∷ later)) (new : (u : ℕ) → has (v ∷ later) u ≡ true → has earlier u ≡ false) (proper : Proper (T v v))
      (is : (u w : ℕ) → has (v ∷ later) u ≡ true → (has later u && has later w) ≡ false → Q u w ≡ without o v later T u w)
      (rest : Swept o later (earlier ++ v ∷ []) (without o v later T) Q (spread o Q v later (put v (b v ⊙ Q v v) b)) y) where
    first : has (v ∷ later) v ≡ true
    first = grind (arith, nat_tests)

    here : y v ≡ b v ⊙ star (T v v) ⊕ total o later (λ u. y u ⊙ (T u v ⊙ star (T v v)))
    here =
        let push = has_push earlier v v in
        let closed = is v v first (grind arith) in
        rest.before v (grind (arith, nat_tests))
        ∙ ap₂ ◌⊕◌ (grind (arith, nat_tests))
        (total_same laws later _ _ (λ u h. let column = is u v (grind arith) (grind arith) in ap (λ a. y u ⊙ a) (column ∙ grind (arith, nat_tests))))

    solved : (t : ℕ) → has (v ∷ later) t ≡ true → y t ≡ b t ⊕ total o (v ∷ later) (λ u. y u ⊙ T u t)
    solved t h =
        ⊎_elim
        (λ same. subst (λ s. y s ≡ b s ⊕ total o (v ∷ later) (λ u. y u ⊙ T u s)) (sym same) (solved_first v later T b y here proper))
        (λ other.
        let inside : has later t ≡ true = grind (arith, nat_tests) in
        let closed = is v v first (grind arith) in
        let row = is v t first (grind arith) in
        solved_later v later T b y here t
        (rest.within t inside
        ∙ ap₂ ◌⊕◌ (grind (arith, nat_tests)) (total_same laws later _ _ (λ u h. ap (λ a. y u ⊙ a) (grind (arith, nat_tests))))))
        (cases_eq t v)

    abbrev x : ℕ → S
    x = spread o Q v earlier y

    stays : (u : ℕ) → has (v ∷ later) u ≡ true → x u ≡ y u
    stays u h = let away = new u h in grind arith

    stay : (F : ℕ → S) → total o (v ∷ later) (λ u. y u ⊙ F u) ≡ total o (v ∷ later) (λ u. x u ⊙ F u)
    stay F = total_same laws (v ∷ later) _ _ (λ u h. ap (λ a. a ⊙ F u) (sym (stays u h)))

    earlier_one : (t : ℕ) → has earlier t ≡ true → x t ≡ b t ⊕ total o (v ∷ later) (λ u. y u ⊙ Q u t)
    earlier_one t h =
        let push = has_push earlier v t in
        let away = new t in
        let y-is = rest.before t (grind arith) in
        grind (arith, nat_tests, sum_assoc, sum_comm)

    swept_more : Swept o (v ∷ later) earlier T Q b x
    swept_more = record {
      within = λ t h. stays t h ∙ solved t h ∙ ap (λ a. b t ⊕ a) (stay (λ u. T u t));
      before = λ t h. earlier_one t h ∙ ap (λ a. b t ⊕ a) (stay (λ u. Q u t));
      apart = λ t h k. let push = has_push earlier v t in let y-is = rest.apart t (grind arith) (grind arith) in grind (arith, nat_tests);
    }

  -- the rows of the list stay proper
  without_proper : (v : ℕ) (later : List ℕ) (T : ℕ → ℕ → S) (u w : ℕ) → has later u ≡ true → has later v ≡ false →
      Proper (T u v) → Proper (T u w) → Proper (without o v later T u w)
  without_proper v later T u w inside new column entry =
      let p = star (T v v) in
      let is : without o v later T u w ≡ cond (eqb w v) (T u v ⊙ p) (cond (has later w) (T u w ⊕ T u v ⊙ p ⊙ T v w) (T u w)) =
      grind (arith, nat_tests) in
      let raised = sum_proper (T u w) (T u v ⊙ p ⊙ T v w) entry (product_proper_left (T u v ⊙ p) (T v w) (product_proper_left (T u v) p column)) in
      subst Proper (sym is)
      (cond_both (eqb w v) _ _ Proper (λ _. product_proper_left (T u v) p column) (λ _. cond_both (has later w) _ _ Proper (λ _. raised) (λ _. entry)))

  -- the two sweeps over a list, by a table that was eliminated on it
  pub swept : (step : ℕ → S) (vs earlier : List ℕ) (T Q : ℕ → ℕ → S) (b : ℕ → S) → Distinct vs → Distinct earlier →
      ((u : ℕ) → has vs u ≡ true → has earlier u ≡ false) →
      ((u w : ℕ) → has vs u ≡ true → Proper (T u w)) →
      ((u w : ℕ) → has vs u ≡ true → Q u w ≡ fold (act o step) T (eliminate vs) u w) →
      Swept o vs earlier T Q b (fold (move o step Q) b (sweep vs ++ sweep_back earlier vs))
  swept step [] earlier T Q b d e new proper is =
      record { within = λ t h. grind arith; before = λ t h. sym (sum-zero laws (b t)); apart = λ t h k. refl }
  swept step (v ∷ later) earlier T Q b d e new proper is =
      let first : has (v ∷ later) v ≡ true = grind (arith, nat_tests) in
      let more : (u : ℕ) → has later u ≡ true → has (v ∷ later) u ≡ true = λ u h. grind arith in
      let b₁ = spread o Q v later (put v (b v ⊙ Q v v) b) in
      let is₁ : (u w : ℕ) → has (v ∷ later) u ≡ true → Q u w ≡ fold (act o step) (without o v later T) (eliminate later) u w =
      λ u w h. is u w h ∙ ap (λ P. P u w) (eliminated o step v later T d) in
      let rest =
      swept step later (earlier ++ v ∷ []) (without o v later T) Q b₁ d.1 (distinct_push earlier v e (new v first))
      (λ u h. let other = new u (more u h) in let push = has_push earlier v u in grind (arith, nat_tests))
      (λ u w h. without_proper v later T u w h d.0 (proper u v (more u h)) (proper u w (more u h)))
      (λ u w h. is₁ u w (more u h)) in
      subst (Swept o (v ∷ later) earlier T Q b) (sym (twice_swept o step v later earlier Q b d e (new v first)))
      (swept_more v later earlier T Q b _ d new (proper v v first)
      (λ u w h k. is₁ u w h ∙ kept o step later (without o v later T) d.1 u w k)
      rest)
