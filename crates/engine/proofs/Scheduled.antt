-- Sealing and tracing keep a store that names steps in force alone, whether they go through or stop; a cleared store is one, and
-- so is one whose records are not damaged. Assumes nothing.
use Rattle.std.proofs.Common.{◌≡◌, ℕ, zero, suc, ◌<◌, ◌≤◌, true, eqb, List, [], ◌∷◌, length, get_or, Option, sym, refl, ◌∙◌, subst, zero-add, arith}
use Rattle.std.proofs.lemmas.List.{length-take, get_or-take}
use Rattle.std.proofs.lemmas.Bool.{cond_both, and_from, eqb-true}
use Rattle.elimination.specs.Networks.{Network, arc, InForce}
use Rattle.elimination.specs.Moves.{put, sealing, tracing}
use Rattle.expressions.specs.declared.Record.{Record}
use Rattle.expressions.specs.declared.Step.{Step}
use Rattle.expressions.specs.Layout.{blank, in_force, well_formed, linked, record_sound, records_sound}
use Rattle.expressions.specs.Contents.{Contents, Sound, used, cleared}
use Rattle.expressions.proofs.Eaches.{each_at, at_each}
use Rattle.expressions.proofs.SoundRecords.{records_decide}
use Rattle.expressions.proofs.Stores.{cleared-sound}
use Rattle.planning.specs.Drawn.{drawn}
use Rattle.planning.specs.Running.{through, stopped, run_moves, run_acts}
use Rattle.engine.proofs.Makings.{Named, Good, From}
use Rattle.engine.proofs.Kept.{RowUsed, TableUsed, acts_through, acts_stopped, moves_through, moves_stopped}
use Rattle.engine.proofs.Naming.{sealing_names, tracing_crosses}

-- the first row and the first table are in use
pub first-used : {c : Contents} → Sound c → (s : ℕ) → RowUsed c (put s 1 (λ _. 0))
first-used {c} sound s w = cond_both _ 1 0 (λ x. x < c.count) (λ _. omega arith) (λ _. omega arith)

pub none_used : {c : Contents} → Sound c → TableUsed c (λ _ _. 0)
none_used sound u w = omega arith

module _ (N : Network) (count : ℕ) (component : ℕ → ℕ) {c d : Contents} (good : Good (InForce N) c) where
  -- a network is sealed in the store
  pub sealing-through : {Q : ℕ → ℕ → ℕ} → run_acts c (λ _ _. 0) (sealing N count component) ≡ through d Q → From (InForce N) c d × TableUsed d Q
  sealing-through = acts_through (InForce N) good (none_used good.sound) _ (sealing_names (InForce N) N component (λ _ force. force) count)

  pub sealing-stopped : {n : ℕ} {v : Option ℕ} → run_acts c (λ _ _. 0) (sealing N count component) ≡ stopped d n v → From (InForce N) c d
  sealing-stopped = acts_stopped (InForce N) good (none_used good.sound) _ (sealing_names (InForce N) N component (λ _ force. force) count)

  module _ (s : ℕ) {Q : ℕ → ℕ → ℕ} (table : TableUsed c Q) where
    -- a row is traced in the store
    pub tracing-through : {R : ℕ → ℕ} → run_moves Q c (put s 1 (λ _. 0)) (tracing N count component) ≡ through d R → From (InForce N) c d × RowUsed d R
    tracing-through =
        moves_through (InForce N) good table (first-used good.sound s) _ (tracing_crosses (InForce N) N component (λ _ force. force) count)

    pub tracing-stopped : {n : ℕ} {v : Option ℕ} → run_moves Q c (put s 1 (λ _. 0)) (tracing N count component) ≡ stopped d n v → From (InForce N) c d
    tracing-stopped =
        moves_stopped (InForce N) good table (first-used good.sound s) _ (tracing_crosses (InForce N) N component (λ _ force. force) count)

-- a cleared store names no step
cleared_named : (F : ℕ → Type 0) (c : Contents) → Named F (cleared c)
cleared_named F c zero h e = absurd (omega arith)
cleared_named F c (suc zero) h e = absurd (omega arith)
cleared_named F c (suc (suc i)) h e = absurd (omega arith)

-- so it is good for every fact
pub cleared_good : (F : ℕ → Type 0) (c : Contents) → 2 ≤ length c.records → 1024 ≤ length c.heads → Good F (cleared c)
cleared_good F c records heads = record { sound = cleared-sound c records heads; named = cleared_named F c }

-- a step of a buffer is in force exactly when it is so in the network that the buffer holds
pub drawn_force : (n : ℕ) (steps : List Step) (j : ℕ) → (arc (drawn n steps) j).in_force ≡ in_force steps j
drawn_force n [] j = refl
drawn_force n (x ∷ steps) zero = refl
drawn_force n (x ∷ steps) (suc j) = drawn_force n steps j

module _ (n : ℕ) (steps : List Step) (c : Contents) where
  -- a record that names a step names one in force
  abbrev Says : Record → Type 0
  Says r = r.kind ≡ 2 → in_force steps r.left ≡ true

  -- records that are not damaged name steps in force
  pub undamaged_named : records_sound steps (used c) ≡ true → c.count ≤ length c.records → Named (InForce (drawn n steps)) c
  undamaged_named all room i h e =
      let here = (records_decide steps (used c)).0 all i (simp length-take (omega arith)) in
      drawn_force n steps _ ∙ subst Says (get_or-take c.count c.records i blank h) (λ k. (here.step k).0) e

  -- and a store that is sound and names such steps has records that are not damaged
  pub named_undamaged : Good (InForce (drawn n steps)) c → records_sound steps (used c) ≡ true
  named_undamaged good =
      at_each (record_sound steps) 0 (used c) blank (λ i h.
      let within : i < c.count = omega (arith, length-take c.count c.records) in
      let formed = each_at well_formed (used c) i blank h good.sound.formed in
      let chained = each_at linked (used c) i blank h good.sound.linked in
      let says = subst Says (sym (get_or-take c.count c.records i blank within)) (λ k. sym (drawn_force n steps _) ∙ good.named i within k) in
      let names = cond_both (eqb (get_or (used c) i blank).kind 2) _ true (λ b. b ≡ true) (λ k. says (eqb-true _ _ k)) (λ _. refl) in
      rw zero-add (and_from _ _ formed (and_from _ _ chained names)))
