-- Histories: whatever may happen to one network after it was opened, as long as only the calls of the engine reach it and write
-- its buffers. The calls are those of the contracts: what each does to the state and the buffers, and whether it was taken, is
-- said by the definitions that the contracts of the calls cite. Assumes nothing.
use Rattle.std.specs.Prelude.{◌≡◌, ℕ, Bool, true, false, cond, List, [], ◌∷◌, ◌++◌, slice_set}
use Rattle.refusals.specs.Refused.{Outcome, done, refused}
use Rattle.elimination.specs.Networks.{Network, arc}
use Rattle.expressions.specs.declared.Record.{Record}
use Rattle.expressions.specs.declared.Step.{Step}
use Rattle.network.specs.Drafts.{opened, added, turned}
use Rattle.network.specs.Plans.{Planned}
use Rattle.network.specs.Seals.{seals}
use Rattle.network.specs.States.{DraftCounts, SealedCounts, State, drafted, sealed, reopened}
use Rattle.engine.specs.Checks.{Lengths, traceable, queryable}
use Rattle.engine.specs.Tracking.{Tracked, tracked}

-- what a history carries from call to call: the state, and the buffers of steps, records, heads and plan
pub record World : Type 0 where
  pub state : State
  pub steps : List Step
  pub records : List Record
  pub heads : List ℕ
  pub plan : Planned

-- the calls on a draft
pub data DraftCall : Type 0 where
  add : (from to : ℕ) → DraftCall
  retire : (j : ℕ) → DraftCall
  restore : (j : ℕ) → DraftCall
  seal : DraftCall

-- The calls on a sealed network. A trace and a query bring buffers of their own; a query brings its algebra and weights too, of
-- which the network sees whether the weight of each step is a member.
pub data SealedCall : Type 0 where
  reopen : SealedCall
  size : SealedCall
  trace : (row source : ℕ) → SealedCall
  query : (lengths : Lengths) (member : ℕ → Bool) (source : ℕ) → SealedCall

-- whether a call was taken
abbrev pub is_done : {A : Type 0} → Outcome A → Bool
is_done (done _) = true
is_done (refused _ _) = false

-- what a call on a draft leaves
abbrev pub after_draft : DraftCounts → DraftCall → World → World
after_draft d (add from to) w =
    let a = added d w.steps from to in record { state = drafted a.draft; steps = a.buffer; records = w.records; heads = w.heads; plan = w.plan }
after_draft d (retire j) w =
    let a = turned false d w.steps j in record { state = drafted a.draft; steps = a.buffer; records = w.records; heads = w.heads; plan = w.plan }
after_draft d (restore j) w =
    let a = turned true d w.steps j in record { state = drafted a.draft; steps = a.buffer; records = w.records; heads = w.heads; plan = w.plan }
after_draft d seal w =
    let a = seals d w.steps w.records w.heads w.plan in record { state = a.state; steps = w.steps; records = a.records; heads = a.heads; plan = a.plan }

-- what a trace or a query leaves
abbrev pub after_track : World → Tracked → World
after_track w t = record { state = sealed t.state; steps = w.steps; records = t.records; heads = t.heads; plan = w.plan }

-- what a call on a sealed network leaves
abbrev pub after_sealed : SealedCounts → SealedCall → World → World
after_sealed s reopen w = record { state = drafted (reopened s); steps = w.steps; records = w.records; heads = w.heads; plan = w.plan }
after_sealed s size w = w
after_sealed s (trace row source) w =
    after_track w (tracked s w.steps w.records w.heads w.plan source (traceable s w.steps w.records w.heads row w.plan source))
after_sealed s (query lengths member source) w =
    after_track w (tracked s w.steps w.records w.heads w.plan source (queryable s w.steps w.records w.heads lengths member w.plan source))

-- step j of a network, put in force or retired
abbrev pub turned_in : Bool → ℕ → Network → Network
turned_in on j N = record { formats = N.formats; steps = slice_set N.steps j (record { from = (arc N j).from; to = (arc N j).to; in_force = on }) }

-- A taken Add brings the next step, in force, from the format that it names first to the one that it names second; a taken Retire
-- retires its step, and a taken Restore puts it in force again. Nothing else, and no refused call, alters a step.
abbrev pub changed : DraftCounts → DraftCall → World → Network → Network
changed d (add from to) w N =
    cond (is_done (added d w.steps from to).answer) (record { formats = N.formats; steps = N.steps ++ record { from = from; to = to; in_force = true } ∷ [] }) N
changed d (retire j) w N = cond (is_done (turned false d w.steps j).answer) (turned_in false j N) N
changed d (restore j) w N = cond (is_done (turned true d w.steps j).answer) (turned_in true j N) N
changed d seal w N = N

-- A history leads from Open, on buffers that may hold anything, by calls that the states allow, taken or refused, to a state and
-- buffers; its network is read off its calls and which of them were taken, and not off any buffer.
pub data History : World → Network → Type 0 where
  -- Open gives n and no steps
  begins :
      (n : ℕ) (d : DraftCounts) (steps : List Step) (records : List Record) (heads : List ℕ) (plan : Planned) → opened n ≡ done d →
      History (record { state = drafted d; steps = steps; records = records; heads = heads; plan = plan }) (record { formats = n; steps = [] })
  -- a call on a draft finds what those before it left
  draws : {w : World} {N : Network} → History w N → (d : DraftCounts) → w.state ≡ drafted d → (call : DraftCall) → History (after_draft d call w) (changed d call w N)
  -- and so does a call on a sealed network
  asks : {w : World} {N : Network} → History w N → (s : SealedCounts) → w.state ≡ sealed s → (call : SealedCall) → History (after_sealed s call w) N
