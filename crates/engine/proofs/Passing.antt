-- What it says that the checks of a call were passed. Assumes nothing.
use Rattle.std.proofs.Common.{◌≡◌, ℕ, ◌<◌, ◌≤◌, Bool, true, false, cond, not, ◌&&◌, ltb, leb, List, length, take, Option, refl, ap, ⊎_elim, arith}
use Rattle.std.proofs.lemmas.List.{get_or_past}
use Rattle.std.proofs.lemmas.Bool.{false≢true, both_ways, ltb-false, leb-false, cases_lt, and_cases, not-false}
use Rattle.refusals.specs.Refused.{Outcome, done, refused}
use Rattle.expressions.specs.declared.Record.{Record}
use Rattle.expressions.specs.declared.Step.{Step}
use Rattle.expressions.specs.Layout.{in_force, nowhere}
use Rattle.planning.specs.Components.{lowest}
use Rattle.planning.proofs.Lowest.{lowest-first}
use Rattle.network.specs.Plans.{Planned}
use Rattle.network.specs.Seals.{steps_sound, sealable}
use Rattle.network.specs.States.{DraftCounts, SealedCounts}
use Rattle.engine.specs.Checks.{Lengths, before, long_enough, long_too, undamaged, known, weighed, traceable, queryable}
use Rattle.engine.specs.Histories.{is_done}

-- what was refused was not done
pub never_done : {A : Type 0} {n : ℕ} {v : Option ℕ} {y : A} → refused n v ≡ done y → ⊥
never_done e = false≢true (ap is_done e)

-- a call that is refused where a test passes, and was done
pub not-refused : {A : Type 0} (b : Bool) (n : ℕ) (v : Option ℕ) {x : Outcome A} {y : A} → cond b (refused n v) x ≡ done y → (b ≡ false) × (x ≡ done y)
not-refused true n v e = absurd (never_done e)
not-refused false n v e = (refl, e)

-- a call that is done where a test passes, and was done
pub was_done : {A : Type 0} (b : Bool) (n : ℕ) (v : Option ℕ) {x y : A} → cond b (done x) (refused n v) ≡ done y → (b ≡ true) × (x ≡ y)
was_done true n v e = (refl, cc)
was_done false n v e = absurd (never_done e)

-- both of two checks were passed
pub both_done : {A : Type 0} (check : Outcome (Unit {0})) {next : Outcome A} {y : A} → before check next ≡ done y → (check ≡ done tt) × (next ≡ done y)
both_done (done _) e = (refl, e)
both_done (refused _ _) e = absurd (never_done e)

-- a draft can be sealed: the buffers are long enough, and the steps are those that were added
pub record Sealable (d : DraftCounts) (steps : List Step) (records : List Record) (heads : List ℕ) (added : List Step) : Type 0 where
  pub some : 2 ≤ length records
  pub chains : 1024 ≤ length heads
  pub these : take d.steps steps ≡ added

pub sealable-done : (d : DraftCounts) (steps : List Step) (records : List Record) (heads : List ℕ) (added : List Step) →
    sealable d steps records heads ≡ done added → Sealable d steps records heads added
sealable-done d steps records heads added e =
    let (_, more) = not-refused (ltb (length steps) d.steps) _ _ e in
    let (some, rest) = not-refused (ltb (length records) 2) _ _ more in
    let (chains, last) = not-refused (ltb (length heads) 1024) _ _ rest in
    record { some = ltb-false _ _ some; chains = ltb-false _ _ chains; these = (was_done (steps_sound d.formats (take d.steps steps)) _ _ last).1 }

-- the source is a format
pub known-done : (s : SealedCounts) (source : ℕ) → known s source ≡ done tt → source < s.formats
known-done s source e = leb-false _ _ (not-refused (leb s.formats source) _ _ e).0

-- a step in force is one that was added
pub force_added : (added : List Step) (j : ℕ) → in_force added j ≡ true → j < length added
force_added added j force = ⊎_elim (λ h. h)
    (λ h. absurd (both_ways _ (ap (λ (s : Step). s.in_force) (get_or_past added j nowhere h)) force)) (cases_lt j (length added))

-- the weights of the steps in force are members
pub weighed-done : (added : List Step) (member : ℕ → Bool) → weighed added member ≡ done tt → (j : ℕ) → in_force added j ≡ true → member j ≡ true
weighed-done added member e j force =
    let test : ℕ → Bool = λ i. in_force added i && not (member i) in
    let none = ltb-false _ _ (not-refused (ltb (lowest (length added) test) (length added)) _ _ e).0 in
    let within = force_added added j force in
    ⊎_elim (λ off. absurd (both_ways _ off force)) (λ on. not-false _ on) (and_cases _ _ (lowest-first (length added) test j (omega arith)))

-- a trace that passes its checks has a source that is a format
pub traceable-known : (s : SealedCounts) (steps : List Step) (records : List Record) (heads : List ℕ) (row : ℕ) (plan : Planned) (source : ℕ) →
    traceable s steps records heads row plan source ≡ done tt → source < s.formats
traceable-known s steps records heads row plan source e =
    let (_, rest) = both_done (long_enough s (length steps) (length records) (length heads) row) e in
    known-done s source (both_done (undamaged s steps records heads plan) rest).1

-- and so has a query, which has members for weights too
pub queryable_so : (s : SealedCounts) (steps : List Step) (records : List Record) (heads : List ℕ) (lengths : Lengths) (member : ℕ → Bool) (plan : Planned) (source : ℕ) →
    queryable s steps records heads lengths member plan source ≡ done tt →
    (source < s.formats) × ((j : ℕ) → in_force (take s.steps steps) j ≡ true → member j ≡ true)
queryable_so s steps records heads lengths member plan source e =
    let (_, more) = both_done (long_enough s (length steps) (length records) (length heads) lengths.row) e in
    let (_, rest) = both_done (long_too s (length records) lengths.weights lengths.memo lengths.answers) more in
    let (_, last) = both_done (undamaged s steps records heads plan) rest in
    let (source, members) = both_done (known s source) last in
    (known-done s _ source, weighed-done (take s.steps steps) member members)
