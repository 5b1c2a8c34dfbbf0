-- A trace or a query that answers, in any history: its checks were passed and its run went through, in a store and by a table that are
-- the network's. Assumes nothing.
use Rattle.std.proofs.Common.{◌≡◌, ℕ, ◌<◌, List, map, get_or, take, drop, sym, refl, ap, ◌∙◌, subst, arith}
use Rattle.std.proofs.lemmas.List.{get_or_append_left, get_or-map, length-map}
use Rattle.std.proofs.lemmas.Bool.{cond-true, lt-ltb}
use Rattle.refusals.specs.Refused.{Outcome, done, refused}
use Rattle.elimination.specs.Networks.{Network, Route, Joined, Ordered}
use Rattle.elimination.specs.Moves.{below}
use Rattle.expressions.specs.declared.Record.{Record}
use Rattle.expressions.specs.declared.Step.{Step}
use Rattle.expressions.specs.Contents.{Contents}
use Rattle.expressions.specs.Meanings.{ways}
use Rattle.planning.specs.Components.{component_of, component_count}
use Rattle.planning.specs.Running.{Ran, through, stopped}
use Rattle.planning.proofs.Listings.{listing, listing-same}
use Rattle.planning.proofs.Loads.{length-below, below_at}
use Rattle.network.specs.Plans.{Planned}
use Rattle.network.specs.Seals.{components}
use Rattle.network.specs.States.{SealedCounts}
use Rattle.network.proofs.Plannings.{sound-joined}
use Rattle.engine.specs.Tracking.{tracked_by, ran_from, tracked, contents_after, filled, row_after, plain}
use Rattle.engine.specs.Histories.{History}
use Rattle.engine.specs.Promises.{sealed_world, EveryRouteOnce}
use Rattle.engine.proofs.Traces.{Traces}
use Rattle.engine.proofs.Counted.{ways-routes}
use Rattle.engine.proofs.Held.{Holds}
use Rattle.engine.proofs.Agreeing.{Settles, tracked_is, history_agrees}
use Rattle.engine.proofs.Passing.{never_done}

-- the places that were filled hold what they were filled with
pub filled_at : {X : Type 0} (f : ℕ → X) (n : ℕ) (xs : List X) (k : ℕ) (d : X) → k < n → get_or (filled f n xs) k d ≡ f k
filled_at f n xs k d h =
    let long = length-below n in
    get_or_append_left (map f (below n)) (drop n xs) d k (rw length-map (omega arith)) ∙ get_or-map f (below n) k 0 d (omega arith) ∙ ap f (below_at n k h)

-- the components of a joined network, as a plan has them, are in order
pub components_ordered : (N : Network) → Joined N → Ordered N (component_count N) (components N)
components_ordered N joined =
    let listed = listing-same N joined (component_count N) (component_of N) (components N) (λ v h. cond-true _ _ _ (lt-ltb _ _ h)) (listing N joined) in
    record { counted = listed.counted; forward = listed.forward }

-- the checks were passed, and the run went through to a store and a row
pub record Went (s : SealedCounts) (steps : List Step) (records : List Record) (heads : List ℕ) (plan : Planned) (source : ℕ) (check : Outcome (Unit {0})) : Type 0 where
  pub end : Contents
  pub found : ℕ → ℕ
  pub passed : check ≡ done tt
  pub runs : ran_from s (take s.steps steps) records heads plan source ≡ through end found
  pub gives : tracked s steps records heads plan source check ≡ tracked_by s (through end found)

module _ (s : SealedCounts) (steps : List Step) (records : List Record) (heads : List ℕ) (plan : Planned) (source : ℕ) where
  ran_went : (ran : Ran (ℕ → ℕ)) → ran_from s (take s.steps steps) records heads plan source ≡ ran → plain (tracked_by s ran).answer ≡ done tt →
      Went s steps records heads plan source (done tt)
  ran_went (through c row) run e = record { end = c; found = row; passed = refl; runs = run; gives = ap (tracked_by s) run }
  ran_went (stopped c n v) run e = absurd (never_done e)

  -- so it is where the call was done
  pub done_went : (check : Outcome (Unit {0})) → plain (tracked s steps records heads plan source check).answer ≡ done tt →
      Went s steps records heads plan source check
  done_went (done _) e = ran_went _ refl e
  done_went (refused _ _) e = absurd (never_done e)

-- in a history, with a source that is a format
module _ {s : SealedCounts} {steps : List Step} {records : List Record} {heads : List ℕ} {plan : Planned} {N : Network}
    (history : History (sealed_world s steps records heads plan) N) where
  -- the buffer holds the network, and the plan and the store are the network's
  pub holds : Holds s.formats s.steps steps N
  holds = (history_agrees history).0

  pub settles : Settles N plan (record { records = records; heads = heads; count = s.records })
  settles = (history_agrees history).1

  pub same-formats : s.formats ≡ N.formats
  same-formats = ap (λ M. M.formats) holds.draws

  pub network_joined : Joined N
  network_joined = subst Joined holds.draws (sound-joined s.formats (take s.steps steps) holds.sound)

  module _ {source : ℕ} {check : Outcome (Unit {0})} (went : Went s steps records heads plan source check) (known : source < s.formats) where
    -- what was traced
    pub went_traces : Traces N (component_count N) (components N) source settles.first settles.later
        (record { records = records; heads = heads; count = s.records }) went.end settles.table went.found
    went_traces = record {
      joined = network_joined;
      ordered = components_ordered N network_joined;
      source = subst (λ n. source < n) same-formats known;
      begun = settles.begun.sound;
      seals = settles.seals;
      sound = settles.good.sound;
      grown = settles.grown;
      traces = sym (tracked_is s holds settles source) ∙ went.runs;
    }

    -- its row spells every route once
    pub went_routes : (row : List ℕ) →
        (let t = tracked s steps records heads plan source check in EveryRouteOnce N source (contents_after t) (row_after s.formats t.answer row))
    went_routes row =
        subst (λ t. EveryRouteOnce N source (contents_after t) (row_after s.formats t.answer row)) (sym went.gives) (λ t h js.
        subst (λ x. (Route N source t js → ways went.end x js ≡ 1) × ((Route N source t js → ⊥) → ways went.end x js ≡ 0))
        (sym (filled_at went.found s.formats row t 0 (subst (λ n. t < n) (sym same-formats) h))) (ways-routes went_traces t h js))
