-- What the loop keeps: the places so far hold what f gives of them. Assumes nothing.
use Rattle.std.proofs.Common.{◌≡◌, ℕ, ◌<◌, length}
use Rattle.engine.specs.Tracking.{filled}
use Rattle.engine.proofs.tracks.fill.Given as goal

abbrev pub invariant-loop-t : goal.invariant-loop-t
invariant-loop-t g l =
    (h : ℕ → g.row.V.Denot) → ((t : ℕ) (x : g.row.V.Denot) → t < length l.initial.places → goal.F-post g l.f t x → x ≡ h t) → l.places ≡ filled h l.t l.initial.places
