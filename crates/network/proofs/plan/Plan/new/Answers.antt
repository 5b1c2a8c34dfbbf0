-- A new plan has 0 everywhere. Assumes nothing.
use Rattle.std.proofs.Common.{◌≡◌, ℕ, zero, suc, get_or, replicate, refl, ap, ◌∙◌}
use Rattle.planning.specs.declared.rows.Row.{Row}
use Rattle.planning.specs.Tables.{row_of, table_of}
use Rattle.network.proofs.plan.Plan.new.Goals as goal

zeros : (n k : ℕ) → ◌≡◌ {A = ℕ} (get_or (replicate n 0) k 0) 0
zeros zero k = refl
zeros (suc n) zero = refl
zeros (suc n) (suc k) = zeros n k

rows : (r : Row) → r ≡ record { at = replicate 32 0 } → (n u w : ℕ) → table_of (replicate n r) u w ≡ 0
rows r e zero u w = refl
rows r e (suc n) zero w = ap (λ s. row_of s w) e ∙ zeros 32 w
rows r e (suc n) (suc u) w = rows r e n u w

pub returns : goal.returns
returns c = λ i. record {
  formats = 0;
  components = 0;
  records = 0;
  order = λ k. zeros 32 k i;
  component = λ v. zeros 32 v i;
  table = λ u w. rows c.empty.result c.empty.ensures 32 u w i;
}
