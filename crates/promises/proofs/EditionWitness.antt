-- Two sheets that EditionStatements speaks of: bench job 1, in both editions. Computed. Assumes nothing.
use Rattle.std.specs.Prelude.{◌≡◌, refl, true, ℕ, zero, suc, ◌<◌}
use Rattle.std.proofs.Common.{arith}
use Rattle.rules.specs.Claims.{passes}
use Rattle.rules.specs.BenchJob.{draft_bytes}
use Rattle.rules.specs.BenchNumbered.{case_1_sheet}
use Rattle.rules.specs.Definitions.{definitions}
use Rattle.promises.specs.EditionStatements.{NoRooms, SameInBoth}
use Rattle.promises.specs.EditionWitness.{case_1_second}

both : (C : ℕ → Type 0) → C 0 → C 1 → (r : ℕ) → r < 2 → C r
both C a b zero l = a
both C a b (suc zero) l = b
both C a b (suc (suc r)) l = absurd (omega arith)

pub both_pass : (passes (draft_bytes case_1_sheet) ≡ true) × (passes (draft_bytes case_1_second) ≡ true)
unfolding definitions case_1_second
both_pass = (refl, refl)

pub same_in_both : SameInBoth (draft_bytes case_1_sheet) (draft_bytes case_1_second)
unfolding definitions case_1_second NoRooms
same_in_both =
    record {
      first = refl;
      second = refl;
      comms = refl;
      boards = refl;
      firsts = both _ refl refl;
      counts = both _ refl refl;
      attached = both _ refl refl;
      inboxes = both _ refl refl;
      no_rooms = both _ refl refl;
      ops = refl;
      payload = refl;
    }
