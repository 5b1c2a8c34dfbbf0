-- The moves of elimination, run in the store: a table of expressions in place of values, the inner expression made first. A
-- run stops where the store is full, and what was made before stands. Assumes nothing.
use Rattle.std.specs.Prelude.{ℕ, cond, List, [], ◌∷◌, map, Ok, Err, Option, Result}
use Rattle.refusals.specs.Refused.{Outcome, done, refused, listed}
use Rattle.refusals.specs.declared.Refusal.{Refusal}
use Rattle.elimination.specs.Moves.{Move, Act, scale, pass, cross, load, close, at, put}
use Rattle.expressions.specs.Contents.{Contents}
use Rattle.expressions.specs.Making.{step_made, sum_made, then_made, repeat_made}

-- what came of a run: it went through, with the contents and a result, or it was refused, with the contents as they stood
pub data Ran (X : Type 0) : Type 0 where
  through : Contents → X → Ran X
  stopped : Contents → ℕ → Option ℕ → Ran X

-- an expression is made, and the run goes on with it
abbrev pub then_with : {X : Type 0} → Outcome ℕ × Contents → (ℕ → Contents → Ran X) → Ran X
then_with made next = elim made.0 [ done z ↦ next z made.1 | refused n v ↦ stopped made.1 n v ]

-- a run goes on where the one before it went through
abbrev pub onward : {X Y : Type 0} → Ran X → (Contents → X → Ran Y) → Ran Y
onward (through c x) next = next c x
onward (stopped c n v) next = stopped c n v

-- a move of a row R, by the table P
abbrev pub move_in : (ℕ → ℕ → ℕ) → Contents → (ℕ → ℕ) → Move → Ran (ℕ → ℕ)
move_in P c R (scale v) = then_with (then_made c (R v) (P v v)) (λ x d. through d (put v x R))
move_in P c R (pass v w) = then_with (then_made c (R v) (P v w)) (λ y d. then_with (sum_made d (R w) y) (λ x e. through e (put w x R)))
move_in P c R (cross j from to) =
    then_with (step_made c j) (λ step b. then_with (then_made b (R from) step) (λ y d. then_with (sum_made d (R to) y) (λ x e. through e (put to x R))))

-- an act on the table
abbrev pub act_in : Contents → (ℕ → ℕ → ℕ) → Act → Ran (ℕ → ℕ → ℕ)
act_in c P (load j from to shared) =
    then_with (step_made c j) (λ step d. cond shared (then_with (sum_made d (P from to) step) (λ x e. through e (put from (put to x (P from)) P))) (through d P))
act_in c P (close v) = then_with (repeat_made c (P v v)) (λ x d. through d (put v (put v x (P v)) P))
act_in c P (at u m) = onward (move_in P c (P u) m) (λ d R. through d (put u R P))

-- a list of acts, one after the other
abbrev pub run_acts : Contents → (ℕ → ℕ → ℕ) → List Act → Ran (ℕ → ℕ → ℕ)
run_acts c P [] = through c P
run_acts c P (a ∷ acts) = onward (act_in c P a) (λ d Q. run_acts d Q acts)

-- the acts by which the format v is eliminated from row u
abbrev pub freeing : ℕ → List ℕ → ℕ → List Act
freeing v later u = at u (scale v) ∷ map (λ w. at u (pass v w)) later

-- a list of moves of a row
abbrev pub run_moves : (ℕ → ℕ → ℕ) → Contents → (ℕ → ℕ) → List Move → Ran (ℕ → ℕ)
run_moves P c R [] = through c R
run_moves P c R (m ∷ moves) = onward (move_in P c R m) (λ d S. run_moves P d S moves)

-- what came of a call that runs moves: its result, the contents and the row or table at its exit
abbrev pub seen : {X : Type 0} → Result (Unit {0}) Refusal → Contents → X → Ran X
seen (Ok _) c x = through c x
seen (Err e) c x = stopped c (listed e).0 (listed e).1
