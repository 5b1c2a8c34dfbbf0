-- Each turn closes the first of the formats that are left, and frees the rows of the others from it. Assumes nothing.
use Rattle.std.proofs.Common.{◌≡◌, ℕ, ◌<◌, suc, List, [], ◌∷◌, ◌++◌, length, sym, refl, ap, ◌∙◌, subst, arith}
use Rattle.std.proofs.lemmas.Result.{err_from_is_err_and}
use Rattle.elimination.specs.Moves.{Act, close, for_each, eliminate}
use Rattle.planning.specs.Running.{freeing}
use Rattle.planning.specs.Eliminating.{by_acts}
use Rattle.planning.specs.Tables.{Places}
use Rattle.planning.proofs.Runs.{kept_on, onward-on, after_act}
use Rattle.planning.proofs.table.Table.eliminate.Goals as goal

-- the first of some places is one, and those after it are
first_place : {xs later : List ℕ} {v : ℕ} → xs ≡ v ∷ later → Places xs → (v < 32) × Places later
first_place e places = let all = subst Places e places in (all 0, λ k. all (suc k))

-- a list of no length is empty
none_left : (xs : List ℕ) → length xs ≡ 0 → xs ≡ []
none_left [] e = refl
none_left (x ∷ xs) e = absurd (omega arith)

-- what is run in a turn after the first format is closed
abbrev turn : ℕ → List ℕ → List Act
turn v later = for_each (freeing v later) later

pub close-requires : goal.close-requires
close-requires c = (first_place c.in-Some.ensures.cases.0 c.loop-first.invariant.places).0

pub free_all-requires : goal.free_all-requires
free_all-requires c = let p = first_place c.in-Some.ensures.cases.0 c.loop-first.invariant.places in record { from = p.0; places = p.1 }

pub returns-in_err-close : goal.returns-in_err-close
returns-in_err-close c =
    let p = err_from_is_err_and c.from_residual.result c.from_residual.ensures.1 in
    let e = c.in_err-close.ensures in
    let v = c.in-Some.first.now in
    let later = c.in-Some.later.now in
    let now = c.loop-first in
    let run = onward-on (turn v later ++ eliminate later) e.run ∙ ap (λ vs. by_acts now.self (eliminate vs)) (sym c.in-Some.ensures.cases.0) ∙ now.invariant.run in
    record { run = rw (p.1, p.2) run; kept = kept_on now.invariant.kept e.kept }

pub returns-in_err-free_all : goal.returns-in_err-free_all
returns-in_err-free_all c =
    let p = err_from_is_err_and c.from_residual-in_err-free_all.result c.from_residual-in_err-free_all.ensures.1 in
    let closed = c.in_ok-close.ensures in
    let e = c.in_err-free_all.ensures in
    let v = c.in-Some.first.now in
    let later = c.in-Some.later.now in
    let now = c.loop-first in
    let run = after_act now.self (close v) (turn v later) (eliminate later) c.close.new.self closed.run e.run ∙ ap (λ vs. by_acts now.self (eliminate vs)) (sym c.in-Some.ensures.cases.0) ∙ now.invariant.run in
    record { run = rw (p.1, p.2) run; kept = kept_on now.invariant.kept (kept_on closed.kept e.kept) }

pub loop-first-preserved : goal.loop-first-preserved
loop-first-preserved c =
    let closed = c.in_ok-close.ensures in
    let freed = c.in_ok-free_all.ensures in
    let v = c.in-Some.first.now in
    let later = c.in-Some.later.now in
    let now = c.loop-first in
    record {
      places = (first_place c.in-Some.ensures.cases.0 now.invariant.places).1;
      kept = kept_on now.invariant.kept (kept_on closed.kept freed.kept);
      run = after_act now.self (close v) (turn v later) (eliminate later) c.close.new.self closed.run freed.run ∙ ap (λ vs. by_acts now.self (eliminate vs)) (sym c.in-Some.ensures.cases.0) ∙ now.invariant.run;
    }

pub returns : goal.returns
returns c = record {
  run = ap (λ vs. by_acts c.loop-first.self (eliminate vs)) (sym (none_left c.loop-first.rest.now c.in_default.ensures.cases)) ∙ c.loop-first.invariant.run;
  kept = c.loop-first.invariant.kept;
}
