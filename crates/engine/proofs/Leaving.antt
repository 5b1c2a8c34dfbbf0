-- The second sweep from its end, and the steps that leave a component one by one. Assumes nothing.
use Rattle.std.proofs.Common.{◌≡◌, ℕ, ◌+◌, ◌<◌, Bool, true, false, cond, not, ◌&&◌, eqb, List, [], ◌∷◌, ◌++◌, map, length, get_or, drop, sym, refl, ap, ◌∙◌, append_assoc, append-nil}
use Rattle.std.proofs.lemmas.List.{get_or-map, length-map}
use Rattle.std.proofs.lemmas.Bool.{cond-true, cond-false}
use Rattle.elimination.specs.Moves.{Move, pass, cross, keep, below, sweep_back, for_each}
use Rattle.elimination.specs.Networks.{Arc, Network, arc}
use Rattle.expressions.specs.declared.Step.{Step}
use Rattle.engine.specs.Rows.{leaves, through_component}
use Rattle.planning.specs.Drawn.{arc_of, drawn}
use Rattle.planning.proofs.Entries.{at-cond}
use Rattle.planning.proofs.Orders.{below-from}
use Rattle.planning.proofs.Loads.{no_step, numbers, below_at}

-- the last format is passed to the earlier ones, before the others are
pub sweep_back_push : (earlier vs : List ℕ) (u : ℕ) → sweep_back earlier (vs ++ u ∷ []) ≡ map (pass u) (earlier ++ vs) ++ sweep_back earlier vs
sweep_back_push earlier [] u = ap (map (pass u)) (sym (append-nil earlier)) ∙ sym (append-nil _)
sweep_back_push earlier (v ∷ vs) u =
    ap (λ ms. ms ++ map (pass v) earlier) (sweep_back_push (earlier ++ v ∷ []) vs u)
    ∙ append_assoc (map (pass u) ((earlier ++ v ∷ []) ++ vs)) (sweep_back (earlier ++ v ∷ []) vs) (map (pass v) earlier)
    ∙ ap (λ ws. map (pass u) ws ++ (sweep_back (earlier ++ v ∷ []) vs ++ map (pass v) earlier)) (append_assoc earlier (v ∷ []) vs)

-- one choice after another
cond-and : {X : Type 0} (a b : Bool) (x y : X) → cond a (cond b x y) y ≡ cond (a && b) x y
cond-and true b x y = refl
cond-and false b x y = refl

module _ (n : ℕ) (steps : List Step) (component : ℕ → ℕ) (c : ℕ) where
  -- those of a list of steps that do are crossed
  abbrev pub leaving_of : List ℕ → List Move
  leaving_of js =
      let at = arc (drawn n steps) in
      map (λ j. cross j (at j).from (at j).to) (keep (λ j. eqb (component (at j).from) c && not (eqb (component (at j).to) c)) (keep (λ j. (at j).in_force) js))

  module _ (j : ℕ) (h : j < length steps) (js : List ℕ) where
    leaving-at : leaving_of (get_or (numbers steps) j 0 ∷ js) ≡
        (let s = get_or steps j no_step in cond (leaves component c s) (cross j s.from s.to ∷ leaving_of js) (leaving_of js))
    leaving-at =
        let at = arc (drawn n steps) in
        let test : ℕ → Bool = λ i. eqb (component (at i).from) c && not (eqb (component (at i).to) c) in
        let one : ℕ → Move = λ i. cross i (at i).from (at i).to in
        let kept = keep (λ i. (at i).in_force) js in
        let rest = leaving_of js in
        ap (λ i. leaving_of (i ∷ js)) (below_at (length (map arc_of steps)) j (rw length-map h))
        ∙ at-cond (λ is. map one (keep test is)) (at j).in_force (j ∷ kept) kept
        ∙ ap (λ ms. cond (at j).in_force ms rest) (at-cond (map one) (test j) (j ∷ keep test kept) (keep test kept))
        ∙ cond-and (at j).in_force (test j) (one j ∷ rest) rest
        ∙ ap (λ (a : Arc). cond (a.in_force && (eqb (component a.from) c && not (eqb (component a.to) c))) (cross j a.from a.to ∷ rest) rest) (get_or-map arc_of steps j no_step _ h)

    -- it is crossed before the others
    pub leaving-first : leaves component c (get_or steps j no_step) ≡ true → leaving_of (get_or (numbers steps) j 0 ∷ js) ≡ cross j (get_or steps j no_step).from (get_or steps j no_step).to ∷ leaving_of js
    leaving-first e = leaving-at ∙ cond-true _ _ _ e

    -- or passed over
    pub leaving_past : leaves component c (get_or steps j no_step) ≡ false → leaving_of (get_or (numbers steps) j 0 ∷ js) ≡ leaving_of js
    leaving_past e = leaving-at ∙ cond-false _ _ _ e

-- those of the first component that is left come before the others
pub components-first : (N : Network) (component : ℕ → ℕ) (count c : ℕ) → c < count →
    for_each (through_component N component) (drop c (below count)) ≡ through_component N component c ++ for_each (through_component N component) (drop (c + 1) (below count))
components-first N component count c h = ap (for_each (through_component N component)) (below-from count c h)
