-- What a trace leaves can be read: its store is sound and names steps that were added, and its row is in use. A trace looks at no entry
-- of the table but those between formats. Assumes nothing.
use Rattle.std.proofs.Common.{◌≡◌, ℕ, ◌<◌, ◌≤◌, min, Bool, true, false, cond, ◌&&◌, eqb, ltb, List, [], ◌∷◌, ◌++◌, map, length, take, sym, refl, ap, ◌∙◌, subst, le_trans, arith}
use Rattle.std.specs.List.{AllByRecursion as All}
use Rattle.std.proofs.ByRecursion.{All-append, All-push, All-map, All-weaker}
use Rattle.std.proofs.lemmas.Bool.{and_parts, and_from, or_left, or_right, not_from_false, cond-true, cond_both, lt-ltb, ltb-true}
use Rattle.refusals.specs.Refused.{Outcome, done, refused}
use Rattle.elimination.specs.Moves.{Move, scale, pass, cross, put, below, formats_of, sweep, sweep_back, leaving, tracing}
use Rattle.elimination.specs.Networks.{Network, InForce}
use Rattle.elimination.proofs.Schedules.{every, all-for_each, formats_fit}
use Rattle.expressions.specs.declared.Record.{Record}
use Rattle.expressions.specs.declared.Step.{Step}
use Rattle.expressions.specs.Contents.{Contents, used}
use Rattle.expressions.specs.Layout.{each, well_formed, linked, names_in_force, record_sound, records_sound}
use Rattle.expressions.specs.Meanings.{names_below}
use Rattle.planning.specs.Drawn.{drawn}
use Rattle.planning.specs.Running.{Ran, through, stopped, onward, move_in, run_moves}
use Rattle.network.specs.Plans.{Planned}
use Rattle.network.specs.States.{SealedCounts}
use Rattle.engine.specs.Passing.{Undamaged}
use Rattle.engine.specs.Tracking.{Tracked, tracked_by, ran_from}
use Rattle.engine.proofs.Kept.{TableUsed, moves_through}
use Rattle.engine.proofs.Makings.{Good}
use Rattle.engine.proofs.Naming.{tracing_crosses}
use Rattle.engine.proofs.Passing.{force_added}
use Rattle.engine.proofs.Scheduled.{first-used, undamaged_named, named_undamaged}
use Rattle.engine.proofs.Sounds.{each_weaker, undamaged-sound, plan-formats, names_in_use}

-- a table with nothing past n
abbrev inside : ℕ → (ℕ → ℕ → ℕ) → ℕ → ℕ → ℕ
inside n P u w = cond (ltb u n && ltb w n) (P u w) 0

-- a move that looks at entries between formats alone
abbrev Looks : ℕ → Move → Type 0
Looks n (scale v) = v < n
Looks n (pass v w) = (v < n) × (w < n)
Looks n (cross j from to) = Unit {0}

module _ (n : ℕ) (P : ℕ → ℕ → ℕ) where
  inside_at : (u w : ℕ) → u < n → w < n → P u w ≡ inside n P u w
  inside_at u w h l = sym (cond-true _ _ _ (and_from _ _ (lt-ltb _ _ h) (lt-ltb _ _ l)))

  -- such a move is the same in both
  move_inside : (c : Contents) (R : ℕ → ℕ) (m : Move) → Looks n m → move_in P c R m ≡ move_in (inside n P) c R m
  move_inside c R (scale v) looks = ap (λ x. move_in (λ _ _. x) c R (scale v)) (inside_at v v looks looks)
  move_inside c R (pass v w) looks = ap (λ x. move_in (λ _ _. x) c R (pass v w)) (inside_at v w looks.0 looks.1)
  move_inside c R (cross j from to) looks = refl

  onward-same : (m : Ran (ℕ → ℕ)) (f g : Contents → (ℕ → ℕ) → Ran (ℕ → ℕ)) → ((c : Contents) (R : ℕ → ℕ) → f c R ≡ g c R) → onward m f ≡ onward m g
  onward-same (through c R) f g same = same c R
  onward-same (stopped c k v) f g same = refl

  moves_inside : (c : Contents) (R : ℕ → ℕ) (moves : List Move) → All (Looks n) moves → run_moves P c R moves ≡ run_moves (inside n P) c R moves
  moves_inside c R [] all = refl
  moves_inside c R (m ∷ moves) all =
      ap (λ ran. onward ran (λ d S. run_moves P d S moves)) (move_inside c R m all.0)
      ∙ onward-same (move_in (inside n P) c R m) _ _ (λ d S. moves_inside d S moves all.1)

module _ (n : ℕ) where
  passes_look : (v : ℕ) (ws : List ℕ) → v < n → All (λ w. w < n) ws → All (Looks n) (map (pass v) ws)
  passes_look v ws h all = All-map (Looks n) (pass v) ws (All-weaker _ _ (λ w l. (h, l)) ws all)

  sweep_looks : (vs : List ℕ) → All (λ v. v < n) vs → All (Looks n) (sweep vs)
  sweep_looks [] all = tt
  sweep_looks (v ∷ later) all = (all.0, All-append (Looks n) (map (pass v) later) (sweep later) (passes_look v later all.0 all.1) (sweep_looks later all.1))

  back_looks : (earlier vs : List ℕ) → All (λ v. v < n) earlier → All (λ v. v < n) vs → All (Looks n) (sweep_back earlier vs)
  back_looks earlier [] before all = tt
  back_looks earlier (u ∷ us) before all =
      All-append (Looks n) (sweep_back (earlier ++ u ∷ []) us) (map (pass u) earlier)
      (back_looks (earlier ++ u ∷ []) us (All-push _ earlier u before all.0) all.1) (passes_look u earlier all.0 before)

-- so are all the moves of a trace
tracing_looks : (N : Network) (count : ℕ) (component : ℕ → ℕ) → All (Looks N.formats) (tracing N count component)
unfolding tracing
tracing_looks N count component = all-for_each (Looks n) _ (below count) (every _ (λ c.
    let vs = formats_of N component c in
    let fit = formats_fit N component c in
    All-append (Looks n) (sweep vs ++ sweep_back [] vs) (leaving N component c)
    (All-append (Looks n) (sweep vs) (sweep_back [] vs) (sweep_looks n vs fit) (back_looks n [] vs tt fit))
    (All-map (Looks n) _ _ (every _ (λ _. tt) _))) (below count))
  where
    n : ℕ
    n = N.formats

-- what can be read: the records in use are laid out as they should be, name steps in force, which are below k, and the row is in use
pub record Reads (added : List Step) (records : List Record) (count k : ℕ) (found : ℕ → ℕ) : Type 0 where
  pub begun : 2 ≤ count
  pub room : count ≤ min (length records) 131072
  pub formed : each well_formed 0 (take count records) ≡ true
  pub forced : records_sound added (take count records) ≡ true
  pub named : each (names_below k) 0 (take count records) ≡ true
  pub row : (t : ℕ) → found t < count

-- a record that is not damaged names a step that was added
sound_names : (steps : List Step) (k : ℕ) → length steps ≤ k → (i : ℕ) (r : Record) → record_sound steps i r ≡ true → names_below k i r ≡ true
sound_names steps k held i r sound = go (eqb r.kind 2) refl (and_parts (linked i r) (names_in_force steps r) (and_parts (well_formed i r) (linked i r && names_in_force steps r) sound).1).1
  where
    go : (t : Bool) → eqb r.kind 2 ≡ t → names_in_force steps r ≡ true → names_below k i r ≡ true
    go true e named = or_right _ _ (lt-ltb _ _ (le_trans (force_added steps r.left (sym (cond-true _ _ _ e) ∙ named)) held))
    go false e named = or_left _ _ (not_from_false _ e)

module _ {s : SealedCounts} {added : List Step} {records : List Record} {heads : List ℕ} {plan : Planned} (u : Undamaged s added records heads plan)
    (begun : 2 ≤ s.records) (within : s.records ≤ 131072) (room : s.records ≤ length records) (chains : 1024 ≤ length heads) (source k : ℕ) (held : length added ≤ k) where
  -- the run in the store
  pub run_reads : {d : Contents} {found : ℕ → ℕ} → ran_from s added records heads plan source ≡ through d found → Reads added d.records d.count k found × (length d.records ≡ length records)
  run_reads {d} {found} ran =
      let c : Contents = record { records = records; heads = heads; count = s.records } in
      let N = drawn s.formats added in
      let sound = undamaged-sound u begun within room chains in
      let good : Good (InForce N) c = record { sound = sound; named = undamaged_named s.formats added c u.formed room } in
      let moves = tracing N plan.components plan.component in
      let table : TableUsed c (inside s.formats plan.table) = λ v w.
      let same = plan-formats u in
      cond_both (ltb v s.formats && ltb w s.formats) (plan.table v w) 0 (λ x. x < s.records)
      (λ e. let (h, l) = and_parts _ _ e in names_in_use u v w (subst (λ n. v < n) (sym same) (ltb-true _ _ h)) (subst (λ n. w < n) (sym same) (ltb-true _ _ l))) (λ _. omega arith) in
      let run = sym (moves_inside s.formats plan.table c (put source 1 (λ _. 0)) moves (tracing_looks N plan.components plan.component)) ∙ ran in
      let (from, row) = moves_through (InForce N) good table (first-used sound source) moves (tracing_crosses (InForce N) N plan.component (λ _ force. force) plan.components) run in
      let forced = named_undamaged s.formats added d from.good in (
        record {
          begun = from.good.sound.begun;
          room = from.good.sound.room;
          formed = from.good.sound.formed;
          forced = forced;
          named = each_weaker (record_sound added) (names_below k) (sound_names added k held) 0 (used d) forced;
          row = row;
        },
        from.grown.records,
      )

  -- so is what was tracked
  pub tracked_reads : {found : ℕ → ℕ} {after : SealedCounts} {records' : List Record} {heads' : List ℕ} →
      record { answer = done found; state = after; records = records'; heads = heads' } ≡ tracked_by s (ran_from s added records heads plan source) →
      Reads added records' after.records k found × (length records' ≡ length records)
  tracked_reads {found} {after} {records'} {heads'} e = go (ran_from s added records heads plan source) refl e
    where
      row_of : Outcome (ℕ → ℕ) → ℕ → ℕ
      row_of (done row) = row
      row_of (refused _ _) = λ _. 0

      Can : Tracked → Type 0
      Can t = Reads added t.records t.state.records k (row_of t.answer) × (length t.records ≡ length records)

      was : Tracked
      was = record { answer = done found; state = after; records = records'; heads = heads' }

      go : (ran : Ran (ℕ → ℕ)) → ran_from s added records heads plan source ≡ ran → was ≡ tracked_by s ran → Can was
      go (through d row) ran same = subst Can (sym same) (run_reads ran)
      go (stopped d n v) ran same = let never = ap (λ t. t.answer) same in let no : ◌≡◌ {A = ℕ} 0 1 = cc in absurd (omega arith)
