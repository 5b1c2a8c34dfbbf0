-- A run of moves in the store, from what each call in it gives; and what grows in two steps has grown. Assumes nothing.
use Rattle.std.proofs.Common.{◌≡◌, ℕ, ◌+◌, ◌<◌, ◌≤◌, true, List, [], ◌∷◌, ◌++◌, length, get_or, take, drop, set, Ok, Err, Result, sym, refl, ap, ◌∙◌, arith}
use Rattle.std.proofs.lemmas.List.{take-take, at_drop_more, at_drop_all}
use Rattle.refusals.specs.Refused.{Outcome, done}
use Rattle.refusals.specs.declared.Refusal.{Refusal}
use Rattle.elimination.specs.Moves.{Act, put, pass, load}
use Rattle.expressions.specs.declared.store.Store.{Store}
use Rattle.expressions.specs.Contents.{Contents, Grown}
use Rattle.expressions.specs.Stores.{contents, Lent, Extends}
use Rattle.expressions.specs.Making.{step_made, sum_made, then_made}
use Rattle.planning.specs.Running.{Ran, through, stopped, then_with, onward, move_in, act_in, run_acts, seen}
use Rattle.planning.specs.declared.rows.Row.{Row}
use Rattle.planning.specs.Eliminating.{Kept, came, by_act, by_acts}
use Rattle.planning.specs.Tables.{row_of, table_of}
use Rattle.planning.specs.declared.table.Table.{Table}
use Rattle.planning.proofs.Entries.{table-put}

-- a store that has grown twice has grown
pub grown-on : {b c d : Contents} → Grown b c → Grown c d → Grown b d
grown-on {b} {c} {d} g h = record {
  counts = omega arith;
  records = h.records ∙ g.records;
  heads = h.heads ∙ g.heads;
  lower =
      g.lower ∙ sym (take-take b.count c.count c.records g.counts) ∙
      ap (take b.count) h.lower ∙ take-take b.count c.count d.records g.counts;
}

-- and works on the buffers that were lent at first
pub lent-on : {s t u : Store} → Lent t s → Lent u t → Lent u s
lent-on g h = record { records = h.records ∙ g.records; heads = h.heads ∙ g.heads }

-- and so it is extended
pub extends-on : {s t u : Store} → Extends s t → Extends t u → Extends s u
extends-on g h = record { grown = grown-on g.grown h.grown; lent = lent-on g.lent h.lent }

-- a run goes on with what was made
pub made-on : {X : Type 0} {o made : Outcome ℕ × Contents} (next : ℕ → Contents → Ran X) → o ≡ made → then_with o next ≡ then_with made next
made-on next e = ap (λ m. then_with m next) e

-- a run has come through to the same contents and the same table
pub through-both : {X : Type 0} {c d : Contents} {x y : X} → c ≡ d → x ≡ y → through c x ≡ through d y
through-both e f = λ i. through (e i) (f i)

-- a pass of a row, from the two expressions that are made in it
pub passed : (R : ℕ → ℕ) (c : Contents) (v w leads : ℕ) {y : ℕ} {d : Contents} {o : Outcome ℕ × Contents} →
    ◌≡◌ {A = Outcome ℕ × Contents} (done y, d) (then_made c (R v) leads) → o ≡ sum_made d (R w) y →
    then_with o (λ x e. through e (put w x R)) ≡ move_in (λ _ _. leads) c R (pass v w)
passed R c v w leads carried made =
    let written : ℕ → Contents → Ran (ℕ → ℕ) = λ x e. through e (put w x R) in
    made-on written made ∙ made-on (λ y d. then_with (sum_made d (R w) y) written) carried

-- a step is loaded between formats of one component, from the two expressions that are made for it
pub loaded : (P : ℕ → ℕ → ℕ) (c : Contents) (j from to : ℕ) {step : ℕ} {d : Contents} {o : Outcome ℕ × Contents} →
    ◌≡◌ {A = Outcome ℕ × Contents} (done step, d) (step_made c j) → o ≡ sum_made d (P from to) step →
    then_with o (λ x e. through e (put from (put to x (P from)) P)) ≡ act_in c P (load j from to true)
loaded P c j from to stepped made =
    let written : ℕ → Contents → Ran (ℕ → ℕ → ℕ) = λ x e. through e (put from (put to x (P from)) P) in
    made-on written made ∙ made-on (λ step d. then_with (sum_made d (P from to) step) written) stepped

-- a table, of which one row has been moved
pub row_moved : (r : Result (Unit {0}) Refusal) (d : Contents) (rows : List Row) (u : ℕ) (row : Row) {ran : Ran (ℕ → ℕ)} → u < length rows →
    seen r d (row_of row) ≡ ran → seen r d (table_of (set rows u row)) ≡ onward ran (λ e R. through e (put u R (table_of rows)))
row_moved r d rows u row h e = written r ∙ ap (λ m. onward m next) e
  where
    next : Contents → (ℕ → ℕ) → Ran (ℕ → ℕ → ℕ)
    next b R = through b (put u R (table_of rows))

    written : (r : Result (Unit {0}) Refusal) → seen r d (table_of (set rows u row)) ≡ onward (seen r d (row_of row)) next
    written (Ok _) = ap (through d) (table-put rows u row h)
    written (Err _) = refl

-- what is kept in two steps is kept
pub kept_on : {s t u : Table} → Kept s t → Kept t u → Kept s u
kept_on g h = record { store = extends-on g.store h.store; same = h.same ∙ g.same }

-- the same acts are run after the same
pub onward-on : (acts : List Act) {m ran : Ran (ℕ → ℕ → ℕ)} → m ≡ ran → onward m (λ e S. run_acts e S acts) ≡ onward ran (λ e S. run_acts e S acts)
onward-on acts e = ap (λ m. onward m (λ e S. run_acts e S acts)) e

-- two lists of acts, one after the other
after_both : (acts rest : List Act) → ((c : Contents) (P : ℕ → ℕ → ℕ) → onward (run_acts c P acts) (λ e S. run_acts e S rest) ≡ run_acts c P (acts ++ rest)) →
    (m : Ran (ℕ → ℕ → ℕ)) → onward (onward m (λ d Q. run_acts d Q acts)) (λ e S. run_acts e S rest) ≡ onward m (λ d Q. run_acts d Q (acts ++ rest))
after_both acts rest both (through d Q) = both d Q
after_both acts rest both (stopped d n v) = refl

pub run-++ : (c : Contents) (P : ℕ → ℕ → ℕ) (acts rest : List Act) → onward (run_acts c P acts) (λ e S. run_acts e S rest) ≡ run_acts c P (acts ++ rest)
run-++ c P [] rest = refl
run-++ c P (a ∷ acts) rest = after_both acts rest (λ d Q. run-++ d Q acts rest) (act_in c P a)

-- an act is run, then acts after it, and then the rest
pub after_act : (t : Table) (a : Act) (acts rest : List Act) (u : Table) {m : Ran (ℕ → ℕ → ℕ)} →
    came (Ok tt) u ≡ by_act t a → m ≡ by_acts u acts → onward m (λ e S. run_acts e S rest) ≡ by_acts t (a ∷ acts ++ rest)
after_act t a acts rest u first then =
    onward-on rest then ∙ run-++ (contents u.store.now) (table_of u.rows) acts rest ∙ onward-on (acts ++ rest) first

-- What a loop over a list keeps, from a table at first to that at element k: what a run keeps, and that the acts of the
-- elements that are left give what those of all gave at first.
pub record Left (acts : List ℕ → List Act) (xs : List ℕ) (first now : Table) (k : ℕ) : Type 0 where
  pub kept : Kept first now
  pub run : by_acts now (acts (drop k xs)) ≡ by_acts first (acts xs)

-- the acts of element k are run, and then the others that are left, or no more after a refusal
pub left-on : {acts : List ℕ → List Act} {xs : List ℕ} {first now : Table} {k : ℕ} {m ran : Ran (ℕ → ℕ → ℕ)} →
    Left acts xs first now k → k < length xs → m ≡ ran →
    onward ran (λ e S. run_acts e S (acts (drop (k + 1) xs))) ≡ by_acts now (acts (get_or xs k 0 ∷ drop (k + 1) xs)) →
    onward m (λ e S. run_acts e S (acts (drop (k + 1) xs))) ≡ by_acts first (acts xs)
left-on {acts} {xs} {now} {k} left h e split =
    onward-on (acts (drop (k + 1) xs)) e ∙ split ∙
    sym (at_drop_more (λ ys. by_acts now (acts ys)) xs k 0 h) ∙ left.run

-- so where the acts of element k are a list of their own
pub left-first : {acts : List ℕ → List Act} {xs : List ℕ} {first now : Table} {k : ℕ} {m : Ran (ℕ → ℕ → ℕ)} (turn : List Act) →
    Left acts xs first now k → k < length xs → acts (get_or xs k 0 ∷ drop (k + 1) xs) ≡ turn ++ acts (drop (k + 1) xs) →
    m ≡ by_acts now turn →
    onward m (λ e S. run_acts e S (acts (drop (k + 1) xs))) ≡ by_acts first (acts xs)
left-first {acts} {xs} {now} {k} turn left h split e =
    left-on left h e (run-++ (contents now.store.now) (table_of now.rows) turn (acts (drop (k + 1) xs)) ∙ ap (by_acts now) (sym split))

-- no element is left
pub left_none : {acts : List ℕ → List Act} {xs : List ℕ} {first now : Table} {k : ℕ} →
    Left acts xs first now k → length xs ≤ k → by_acts now (acts []) ≡ by_acts first (acts xs)
left_none {acts} {xs} {now} {k} left h = sym (at_drop_all (λ ys. by_acts now (acts ys)) xs k h) ∙ left.run
