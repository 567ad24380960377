-- The start of a job: bare rows and zero places, whatever scratch held before. That it holds is proved in proofs/StartHolds.
-- Assumes nothing.
use Rattle.std.specs.Prelude.{◌≡◌, List, ℕ, ◌*◌, ◌≤◌, length, replicate}
use Rattle.rules.specs.Limits.{most_ops, scratch_size}
use Rattle.rules.specs.Job.{bare_entry}
use Rattle.rules.specs.Step.{splice}
use Rattle.rules.specs.Report.{op_rows}
use Rattle.state.specs.Layout.{seat_size, places_at}

-- n bare rows
abbrev pub bare_rows : (n : ℕ) → List ℕ
bare_rows n = op_rows (replicate n (bare_entry 0))

-- the first i rows are bare
pub record Bare (c s : List ℕ) (n i : ℕ) : Type 0 where
  pub few : n ≤ most_ops
  pub upper : i ≤ n
  pub roomy : scratch_size ≤ length c
  pub size : length s ≡ length c
  pub is : s ≡ splice c 0 (bare_rows i)

-- what `init` leaves in scratch
abbrev pub started_bytes : List ℕ → (p n : ℕ) → List ℕ
started_bytes c p n = splice (splice c 0 (bare_rows n)) places_at (replicate (seat_size * p) 0)
