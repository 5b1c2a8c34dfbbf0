-- What every run of moves in the store keeps: the store is sound and has grown, it names no steps but those of the moves and
-- those from before, and the table or row is in use. Assumes nothing.
use Rattle.std.proofs.Common.{◌≡◌, ℕ, ◌<◌, List, Option, refl, subst}
use Rattle.std.specs.List.{AllByRecursion as All}
use Rattle.kleene.specs.Algebras.{Operations}
use Rattle.elimination.specs.Moves.{Move, Act, scale, pass, cross, load, close, at}
use Rattle.elimination.proofs.Schedules.{every}
use Rattle.expressions.specs.Contents.{Contents, Sound, Grown}
use Rattle.planning.specs.Running.{through, stopped, run_moves, run_acts}
use Rattle.engine.proofs.Makings.{Good, From}
use Rattle.engine.proofs.Comings.{Comes}
use Rattle.engine.proofs.Standings.{Taking}
use Rattle.engine.proofs.Meanings.{Crosses, Names, Rows, moves_come, acts_come}

-- operations of a single value, of which every expression means that one
abbrev single : Operations (Unit {0})
single = record { zero = tt; one = tt; sum = λ _ _. tt; product = λ _ _. tt; star = λ _. tt }

-- they ask nothing of a store
taken : (F : ℕ → Type 0) → Taking single (λ _. tt) F (λ _. Unit {0})
taken F = record {
  Fit = λ _. Unit {0};
  Twice = λ _ _. Unit {0};
  means = record {
    stays = λ _ _ _ _ _ _. refl;
    nothing = λ _ _. refl;
    stay = λ _ _. refl;
    steps = λ _ _ _ _ _ _. refl;
    sums = λ _ _ _ _ _ _ _ _ _ _ _. refl;
    thens = λ _ _ _ _ _ _ _ _ _ _. refl;
    repeats = λ _ _ _ _ _ _ _ _. refl;
  };
  fits = λ _ _. tt;
  again = λ _ _ _. tt;
}

-- the expressions of a row, and of a table, are in use
abbrev pub RowUsed : Contents → (ℕ → ℕ) → Type 0
RowUsed c R = (w : ℕ) → R w < c.count

abbrev pub TableUsed : Contents → (ℕ → ℕ → ℕ) → Type 0
TableUsed c P = (u : ℕ) → RowUsed c (P u)

-- an expression in use stands for that value, so a row does, and a table
abbrev OneRow : Contents → (ℕ → ℕ) → Type 0
OneRow d R = Rows single (λ _. tt) d R (λ _. tt)

abbrev OneTable : Contents → (ℕ → ℕ → ℕ) → Type 0
OneTable d P = (u : ℕ) → OneRow d (P u)

module _ (F : ℕ → Type 0) {c : Contents} {P : ℕ → ℕ → ℕ} (good : Good F c) (table : TableUsed c P) where
  -- the acts on a table, gone through and stopped
  module _ (acts : List Act) (facts : All (Names F) acts) where
    acts_so : Comes F OneTable c (run_acts c P acts)
    acts_so = acts_come (taken F) acts good (λ u w. record { in_use = table u w; means = refl }) facts (λ _ _ _ _ _. tt)

    pub acts_through : {d : Contents} {Q : ℕ → ℕ → ℕ} → run_acts c P acts ≡ through d Q → From F c d × TableUsed d Q
    acts_through e = let so = subst (Comes F OneTable c) e acts_so in (so.0, λ u w. (so.1 u w).in_use)

    pub acts_stopped : {d : Contents} {n : ℕ} {v : Option ℕ} → run_acts c P acts ≡ stopped d n v → From F c d
    acts_stopped e = subst (Comes F OneTable c) e acts_so

  -- the moves of a row
  module _ {R : ℕ → ℕ} (row : RowUsed c R) (moves : List Move) (facts : All (Crosses F) moves) where
    moves_so : Comes F OneRow c (run_moves P c R moves)
    moves_so =
        moves_come (taken F) moves good (λ u w. record { in_use = table u w; means = refl }) (λ w. record { in_use = row w; means = refl }) facts
        (λ _ _ _ _. tt)

    pub moves_through : {d : Contents} {S : ℕ → ℕ} → run_moves P c R moves ≡ through d S → From F c d × RowUsed d S
    moves_through e = let so = subst (Comes F OneRow c) e moves_so in (so.0, λ w. (so.1 w).in_use)

    pub moves_stopped : {d : Contents} {n : ℕ} {v : Option ℕ} → run_moves P c R moves ≡ stopped d n v → From F c d
    moves_stopped e = subst (Comes F OneRow c) e moves_so

-- The same of the store alone, where nothing is asked of the steps.
abbrev pub Any : ℕ → Type 0
Any _ = Unit {0}

-- every move crosses, and every act names, any steps
any_cross : (m : Move) → Crosses Any m
any_cross (scale v) = tt
any_cross (pass v w) = tt
any_cross (cross j from to) = tt

any_name : (a : Act) → Names Any a
any_name (load j from to shared) = tt
any_name (close v) = tt
any_name (at u m) = any_cross m

-- and so does every store
pub any_good : {c : Contents} → Sound c → Good Any c
any_good sound = record { sound = sound; named = λ _ _ _. tt }

pub any_names : (acts : List Act) → All (Names Any) acts
any_names = every (Names Any) any_name

pub any_crosses : (moves : List Move) → All (Crosses Any) moves
any_crosses = every (Crosses Any) any_cross

module _ {c d : Contents} {P : ℕ → ℕ → ℕ} (sound : Sound c) (table : TableUsed c P) where
  -- a run of acts goes through, or stops; so a run of moves
  pub acts_keep : (acts : List Act) {Q : ℕ → ℕ → ℕ} → run_acts c P acts ≡ through d Q → Sound d × Grown c d × TableUsed d Q
  acts_keep acts e = let so = acts_through Any (any_good sound) table acts (any_names acts) e in (so.0.good.sound, so.0.grown, so.1)

  pub acts_stop : (acts : List Act) {n : ℕ} {v : Option ℕ} → run_acts c P acts ≡ stopped d n v → Sound d × Grown c d
  acts_stop acts e = let so = acts_stopped Any (any_good sound) table acts (any_names acts) e in (so.good.sound, so.grown)

  pub moves_keep : {R : ℕ → ℕ} → RowUsed c R → (moves : List Move) {S : ℕ → ℕ} → run_moves P c R moves ≡ through d S → Sound d × Grown c d × RowUsed d S
  moves_keep row moves e = let so = moves_through Any (any_good sound) table row moves (any_crosses moves) e in (so.0.good.sound, so.0.grown, so.1)

  pub moves_stop : {R : ℕ → ℕ} → RowUsed c R → (moves : List Move) {n : ℕ} {v : Option ℕ} → run_moves P c R moves ≡ stopped d n v → Sound d × Grown c d
  moves_stop row moves e = let so = moves_stopped Any (any_good sound) table row moves (any_crosses moves) e in (so.good.sound, so.grown)
