-- A run of moves by a tracer, from what each call in it gives. Assumes nothing.
use Rattle.std.proofs.Common.{◌≡◌, ℕ, zero, suc, ◌<◌, List, [], ◌∷◌, ◌++◌, Ok, Err, Result, sym, refl, ap, ◌∙◌, subst, arith}
use Rattle.refusals.specs.declared.Refusal.{Refusal}
use Rattle.elimination.specs.Moves.{Move}
use Rattle.expressions.specs.Contents.{Contents}
use Rattle.expressions.specs.Stores.{contents}
use Rattle.expressions.specs.declared.Step.{Step}
use Rattle.network.specs.Plans.{Planned, planned}
use Rattle.planning.specs.Running.{Ran, through, stopped, onward, move_in, run_moves}
use Rattle.planning.specs.Tables.{row_of}
use Rattle.planning.proofs.Runs.{extends-on}
use Rattle.engine.specs.declared.tracer.Tracer.{Tracer}
use Rattle.engine.specs.Rows.{Formats, Kept, Traced, run_by}

module _ (P : ℕ → ℕ → ℕ) where
  -- the same moves are run after the same
  pub onward-on : (moves : List Move) {m ran : Ran (ℕ → ℕ)} → m ≡ ran → onward m (λ d S. run_moves P d S moves) ≡ onward ran (λ d S. run_moves P d S moves)
  onward-on moves e = ap (λ m. onward m (λ d S. run_moves P d S moves)) e

  -- two lists of moves, one after the other
  after_both : (moves rest : List Move) → ((c : Contents) (R : ℕ → ℕ) → onward (run_moves P c R moves) (λ d S. run_moves P d S rest) ≡ run_moves P c R (moves ++ rest)) →
      (m : Ran (ℕ → ℕ)) → onward (onward m (λ d S. run_moves P d S moves)) (λ d S. run_moves P d S rest) ≡ onward m (λ d S. run_moves P d S (moves ++ rest))
  after_both moves rest both (through c R) = both c R
  after_both moves rest both (stopped c n v) = refl

  pub moves-++ : (c : Contents) (R : ℕ → ℕ) (moves rest : List Move) → onward (run_moves P c R moves) (λ d S. run_moves P d S rest) ≡ run_moves P c R (moves ++ rest)
  moves-++ c R [] rest = refl
  moves-++ c R (m ∷ moves) rest = after_both moves rest (λ d S. moves-++ d S moves rest) (move_in P c R m)

-- the number of formats of a tracer's plan
abbrev pub formats : Tracer → ℕ
formats t = (planned t.plan.now).formats

abbrev table : Tracer → ℕ → ℕ → ℕ
table t = (planned t.plan.now).table

pub unmoved : (t : Tracer) → Kept t t
unmoved t = record { same = refl; store = record { grown = record { counts = omega arith; records = refl; heads = refl; lower = refl }; lent = record { records = refl; heads = refl } }; plan = refl; steps = refl }

-- what is kept in two steps is kept
pub kept-on : {s t u : Tracer} → Kept s t → Kept t u → Kept s u
kept-on g h = record { same = h.same ∙ g.same; store = extends-on g.store h.store; plan = h.plan ∙ g.plan; steps = h.steps ∙ g.steps }

-- a format stays one
pub format-on : {s t : Tracer} → Kept s t → (v : ℕ) → v < formats s → v < formats t
format-on kept v h = subst (λ p. v < (planned p.now).formats) (sym kept.plan) h

pub formats-on : {s t : Tracer} → Kept s t → (vs : List ℕ) → Formats (formats s) vs → Formats (formats t) vs
formats-on kept vs all k h = format-on kept _ (all k h)

-- so where a list of them is split
pub first_format : {n v : ℕ} {vs later : List ℕ} → vs ≡ v ∷ later → Formats n vs → v < n
first_format {n} e all = subst (Formats n) e all 0 (omega arith)

pub later_formats : {n v : ℕ} {vs later : List ℕ} → vs ≡ v ∷ later → Formats n vs → Formats n later
later_formats {n} e all k h = subst (Formats n) e all (suc k) (omega arith)

pub last_format : (n v : ℕ) (earlier : List ℕ) → Formats n (earlier ++ v ∷ []) → v < n
last_format n v [] all = all 0 (omega arith)
last_format n v (u ∷ us) all = last_format n v us (λ k h. all (suc k) (omega arith))

pub earlier_formats : (n v : ℕ) (earlier : List ℕ) → Formats n (earlier ++ v ∷ []) → Formats n earlier
earlier_formats n v [] all k h = absurd (omega arith)
earlier_formats n v (u ∷ us) all zero h = all zero (omega arith)
earlier_formats n v (u ∷ us) all (suc k) h = earlier_formats n v us (λ i l. all (suc i) (omega arith)) k (omega arith)

-- a number of a component stays one
pub component-on : {s t : Tracer} → Kept s t → (c : ℕ) → c < (planned s.plan.now).components → c < (planned t.plan.now).components
component-on kept c h = subst (λ p. c < (planned p.now).components) (sym kept.plan) h

-- and the moves that a plan and steps ask for stay the same
pub moves-on : {s t u : Tracer} {r : Result (Unit {0}) Refusal} (moves : Planned → List Step → List Move) → Kept s t →
    Traced t u r (moves (planned t.plan.now) t.steps.now) → Traced t u r (moves (planned s.plan.now) s.steps.now)
moves-on {t = t} {u = u} {r = r} moves kept e = subst (Traced t u r) (λ i. moves (planned (kept.plan i).now) (kept.steps i).now) e

-- one move is a list of moves
pub one_move : (ran : Ran (ℕ → ℕ)) → onward ran through ≡ ran
one_move (through c R) = refl
one_move (stopped c n v) = refl

-- some moves are run, and then the others that are left, or no more after a refusal
after : (t : Tracer) (now left : List Move) {m : Ran (ℕ → ℕ)} → m ≡ run_by t now → onward m (λ d S. run_moves (table t) d S left) ≡ run_by t (now ++ left)
after t now left e = onward-on (table t) left e ∙ moves-++ (table t) (contents t.store.now) (row_of t.row) now left

-- What a loop or a list of calls keeps, from a tracer at first to the one of now: what a run keeps, and that the moves that are left
-- give what all gave at first.
pub record Sofar (rest all : List Move) (first t : Tracer) : Type 0 where
  pub kept : Kept first t
  pub run : run_by t rest ≡ run_by first all

-- at first all are left
pub begun : (all : List Move) (t : Tracer) → Sofar all all t t
begun all t = record { kept = unmoved t; run = refl }

module _ {rest all : List Move} {s t : Tracer} (sofar : Sofar rest all s t) where
  -- no move is left
  pub ended : rest ≡ [] → Traced s t (Ok tt) all
  ended none = record { kept = sofar.kept; run = sym (ap (run_by t) none) ∙ sofar.run }

  -- the moves that are left are those of one call
  pub last-on : {u : Tracer} {r : Result (Unit {0}) Refusal} → Traced t u r rest → Traced s u r all
  last-on e = record { kept = kept-on sofar.kept e.kept; run = e.run ∙ sofar.run }

  module _ {u : Tracer} (now left : List Move) (split : rest ≡ now ++ left) where
    -- the first of them went through
    pub went-on : Traced t u (Ok tt) now → Sofar left all s u
    went-on e = record {
      kept = kept-on sofar.kept e.kept;
      run = ap (λ p. run_moves (planned p.now).table (contents u.store.now) (row_of u.row) left) e.kept.plan ∙ after t now left e.run ∙ sym (ap (run_by t) split) ∙ sofar.run;
    }

    -- or one of them was refused
    pub stopped-on : {e : Refusal} → Traced t u (Err e) now → Traced s u (Err e) all
    stopped-on e = record { kept = kept-on sofar.kept e.kept; run = after t now left e.run ∙ sym (ap (run_by t) split) ∙ sofar.run }
