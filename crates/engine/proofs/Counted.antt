-- In counts of ways: the row that is traced in the store spells every route exactly once, and nothing else. Assumes nothing.
use Rattle.std.proofs.Common.{◌≡◌, ℕ, ◌<◌, ◌≤◌, List, ap, ◌∙◌, arith}
use Rattle.elimination.specs.Networks.{Network, Route}
use Rattle.elimination.specs.Moves.{traced}
use Rattle.elimination.specs.Series.{Series, counting, letter}
use Rattle.elimination.proofs.Once.{at_most_once_spec}
use Rattle.elimination.proofs.Routes.{every_route_once_spec}
use Rattle.expressions.specs.Contents.{Contents, Sound, Grown}
use Rattle.expressions.specs.Meanings.{ways}
use Rattle.expressions.proofs.Ways.{ways_mean_spec}
use Rattle.engine.proofs.Makings.{From}
use Rattle.engine.proofs.Standings.{Taking}
use Rattle.engine.proofs.Meanings.{Rows}
use Rattle.engine.proofs.Kept.{Any, RowUsed}
use Rattle.engine.proofs.Traces.{Traces, row_stands}

-- each list is spelled at most once
abbrev Once : Series → Type 0
Once f = (js : List ℕ) → f js ≤ 1

-- what is added to itself and spells each list at most once spells nothing
counted : Taking counting letter Any Once
counted = record {
  Fit = λ _. Unit {0};
  Twice = λ c x. (js : List ℕ) → ways c x js ≡ 0;
  means = ways_mean_spec;
  fits = λ _ _. tt;
  again = λ c x once js. omega (arith, once js);
}

module _ {N : Network} {count : ℕ} {component : ℕ → ℕ} {s : ℕ} {c d later e : Contents} {Q : ℕ → ℕ → ℕ} {R : ℕ → ℕ}
    (t : Traces N count component s c d later e Q R) where
  -- the row stands for what elimination counts
  stands : From Any later e × Rows counting letter e R (traced counting letter N count component s)
  stands =
      let once = at_most_once_spec every_route_once_spec N count component s t.joined t.ordered t.source in
      row_stands counted N count component (λ _ _. tt) t once.0 once.1 (λ _ _ _. tt) (λ _ _ _. tt)

  -- the store is sound and has grown, and the row is in use
  pub traces-keep : Sound e × Grown later e × RowUsed e R
  traces-keep = (stands.0.good.sound, stands.0.grown, λ v. (stands.1 v).in_use)

  -- what it spells is what elimination counts
  pub ways-traced : (v : ℕ) → ways e (R v) ≡ traced counting letter N count component s v
  ways-traced v = (stands.1 v).means

  -- so every route from the source exactly once, and no other list
  pub ways-routes : (v : ℕ) → v < N.formats → (js : List ℕ) → (Route N s v js → ways e (R v) js ≡ 1) × ((Route N s v js → ⊥) → ways e (R v) js ≡ 0)
  ways-routes v h js =
      let counts = every_route_once_spec N count component s t.joined t.ordered t.source v h js in
      let same = ap (λ f. f js) (ways-traced v) in
      (λ route. same ∙ counts.0 route, λ none. same ∙ counts.1 none)
