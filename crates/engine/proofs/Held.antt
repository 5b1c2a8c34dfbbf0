-- A step buffer holds a network: its first entries are the network's steps, and end at its formats. Every call on a draft that
-- alters a step keeps it so. Assumes nothing.
use Rattle.std.proofs.Common.{◌≡◌, ℕ, zero, suc, ◌+◌, ◌<◌, ◌≤◌, Bool, true, false, cond, not, ◌&&◌, ◌||◌, ltb, leb, List, [], ◌∷◌, ◌++◌, map, length, get_or, take, set, sym, refl, ap, ◌∙◌, subst, arith}
use Rattle.std.proofs.lemmas.List.{take_more_set, map_push, length-set}
use Rattle.std.proofs.lemmas.Bool.{cond_both, and_parts, and_from, or_parts, leb-false, lt-ltb}
use Rattle.elimination.specs.Networks.{Network}
use Rattle.expressions.specs.declared.Step.{Step}
use Rattle.expressions.specs.Layout.{each, nowhere}
use Rattle.expressions.proofs.Eaches.{each_push}
use Rattle.planning.specs.Drawn.{arc_of, drawn}
use Rattle.network.specs.States.{DraftCounts}
use Rattle.network.specs.Drafts.{After, added, switched, turned}
use Rattle.network.specs.Seals.{steps_sound}
use Rattle.engine.specs.Histories.{is_done, turned_in}

-- the first entries of a buffer are the steps of a network, and their ends are formats
pub record Holds (formats steps : ℕ) (buffer : List Step) (N : Network) : Type 0 where
  pub room : steps ≤ length buffer
  pub draws : drawn formats (take steps buffer) ≡ N
  pub sound : steps_sound formats (take steps buffer) ≡ true

-- a network with one step more, in force
abbrev pub pushed : ℕ → ℕ → Network → Network
pushed from to N = record { formats = N.formats; steps = N.steps ++ record { from = from; to = to; in_force = true } ∷ [] }

-- what a call on a draft leaves holds the network, changed where the call was taken
pub record Leaves {A : Type 0} (N changed : Network) (a : After A) : Type 0 where
  pub holds : Holds a.draft.formats a.draft.steps a.buffer (cond (is_done a.answer) changed N)

module _ {d : DraftCounts} {steps : List Step} {N : Network} (held : Holds d.formats d.steps steps N) where
  -- a step is added past the others
  push_holds : (from to : ℕ) → from < d.formats → to < d.formats → d.steps < length steps →
      Holds d.formats (d.steps + 1) (set steps d.steps (record { from = from; to = to; in_force = true })) (pushed from to N)
  push_holds from to begin end room =
      let new : Step = record { from = from; to = to; in_force = true } in
      let more = take_more_set steps d.steps new room in
      record {
        room = rw length-set (omega arith);
        draws = (λ i. record { formats = d.formats; steps = (ap (map arc_of) more ∙ map_push arc_of _ new) i }) ∙ ap (pushed from to) held.draws;
        sound = subst (λ xs. steps_sound d.formats xs ≡ true) (sym more)
            (each_push _ (take d.steps steps) new held.sound (and_from _ _ (lt-ltb _ _ begin) (lt-ltb _ _ end)));
      }

  -- an Add, taken or refused
  pub added-holds : (from to : ℕ) → Leaves N (pushed from to N) (added d steps from to)
  added-holds from to =
      cond_both (ltb (length steps) d.steps) _ _ (Leaves N (pushed from to N)) (λ _. record { holds = held }) (λ _.
      cond_both (leb d.formats from || leb d.formats to) _ _ (Leaves N (pushed from to N)) (λ _. record { holds = held }) (λ ends.
      cond_both (leb 256 d.steps || leb (length steps) d.steps) _ _ (Leaves N (pushed from to N)) (λ _. record { holds = held }) (λ full.
      let (begin, end) = or_parts _ _ ends in
      record { holds = push_holds from to (leb-false _ _ begin) (leb-false _ _ end) (leb-false _ _ (or_parts _ _ full).1) })))

-- whether a step is so already
abbrev already : Bool → Bool → Bool
already true b = b
already false b = not b

-- an entry of a buffer, put in force or retired
abbrev turned_at : Bool → ℕ → List Step → List Step
turned_at on j steps = set steps j (switched on (get_or steps j nowhere))

-- the entries up to k, where the entry is one of them
take-turned : (on : Bool) (k j : ℕ) (steps : List Step) → j < k → take k (turned_at on j steps) ≡ turned_at on j (take k steps)
take-turned on zero j steps h = absurd (omega arith)
take-turned on (suc k) j [] h = refl
take-turned on (suc k) zero (x ∷ steps) h = refl
take-turned on (suc k) (suc j) (x ∷ steps) h = ap (λ xs. x ∷ xs) (take-turned on k j steps (omega arith))

-- the steps that they draw
arcs_turned : (on : Bool) (n j : ℕ) (steps : List Step) → map arc_of (turned_at on j steps) ≡ (turned_in on j (drawn n steps)).steps
arcs_turned on n j [] = refl
arcs_turned on n zero (x ∷ steps) = refl
arcs_turned on n (suc j) (x ∷ steps) = ap (λ xs. arc_of x ∷ xs) (arcs_turned on n j steps)

-- its ends are as before
sound-turned : (on : Bool) (n i j : ℕ) (steps : List Step) → each (λ _ s. ltb s.from n && ltb s.to n) i steps ≡ true →
    each (λ _ s. ltb s.from n && ltb s.to n) i (turned_at on j steps) ≡ true
sound-turned on n i j [] e = e
sound-turned on n i zero (x ∷ steps) e = e
sound-turned on n i (suc j) (x ∷ steps) e = let (here, rest) = and_parts _ _ e in and_from _ _ here (sound-turned on n (suc i) j steps rest)

module _ {d : DraftCounts} {steps : List Step} {N : Network} (held : Holds d.formats d.steps steps N) where
  -- a step is put in force or retired
  turn_holds : (on : Bool) (j : ℕ) → j < d.steps → Holds d.formats d.steps (turned_at on j steps) (turned_in on j N)
  turn_holds on j h =
      let upto = take-turned on d.steps j steps h in
      record {
        room = rw length-set held.room;
        draws = (λ i. record { formats = d.formats; steps = (ap (map arc_of) upto ∙ arcs_turned on d.formats j _) i }) ∙ ap (turned_in on j) held.draws;
        sound = subst (λ xs. steps_sound d.formats xs ≡ true) (sym upto) (sound-turned on d.formats 0 j _ held.sound);
      }

  -- a Retire or a Restore, taken or refused
  pub turned-holds : (on : Bool) (j : ℕ) → Leaves N (turned_in on j N) (turned on d steps j)
  turned-holds on j =
      cond_both (ltb (length steps) d.steps) _ _ (Leaves N (turned_in on j N)) (λ _. record { holds = held }) (λ _.
      cond_both (leb d.steps j) _ _ (Leaves N (turned_in on j N)) (λ _. record { holds = held }) (λ known.
      cond_both (already on (get_or steps j nowhere).in_force) _ _ (Leaves N (turned_in on j N)) (λ _. record { holds = held }) (λ _.
      record { holds = turn_holds on j (leb-false _ _ known) })))
