-- Jobs whose boards stand at the same places, and which started from the same inboxes, are alike.
--   positions_memory    their memories are equal
--   positions_alike     so the jobs are alike
-- Assumes nothing.
use Rattle.std.specs.Prelude.{◌≡◌, List, ℕ}
use Rattle.std.proofs.Common.{sym, ◌∙◌}
use Rattle.rules.specs.Sheet.{Sheet, N_of}
use Rattle.rules.specs.Job.{Job}
use Rattle.rules.specs.Claims.{Alike}
use Rattle.invariant.specs.sheet.Valid.{Valid}
use Rattle.invariant.specs.Invariant.{Reached}
use Rattle.invariant.specs.preserve.Memory.{replayed_rows}
use Rattle.promises.proofs.compare.SamePositions.{SamePositions, positions_rows, positions_equal}
use Rattle.promises.proofs.compare.PeaksAside.{equal_alike}

pub positions_memory : {s : Sheet} → Valid s → {i : List ℕ} {x y : Job} {X : Reached s i x} {Y : Reached s i y} → SamePositions X Y →
    x.memory ≡ y.memory
positions_memory {s} g {i} {x} {y} {X} {Y} K =
    X.memory_replayed ∙ sym (replayed_rows s x y (N_of s) i (positions_rows g K))
    ∙ sym Y.memory_replayed

pub positions_alike : {s : Sheet} → Valid s → {i : List ℕ} {x y : Job} {X : Reached s i x} {Y : Reached s i y} → SamePositions X Y → Alike s x y
positions_alike {s} g {i} {x} {y} K = equal_alike s x y (positions_equal g K) (positions_memory g K)
