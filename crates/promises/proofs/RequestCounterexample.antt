-- Why verdict 1 leaves no request only with document 02's K7. A sheet that keeps every other rule, and forgets a receive: its run
-- finishes, and the receive is pending. The sheet is written as a bench job and computed. Assumes nothing.
use Rattle.std.specs.Prelude.{◌≡◌, refl}
use Rattle.std.proofs.Common.{arith}
use Rattle.rules.specs.Sheet.{N_of}
use Rattle.rules.specs.Refusal.{refusal, accepted, or_else, first_broken, boards_refusal, ops_refusal, request_good, sheet_refusal}
use Rattle.rules.specs.BenchJob.{draft_bytes}
use Rattle.rules.specs.Definitions.{definitions}
use Rattle.promises.specs.Statements.{told_by, FinishedLeavesNone}
use Rattle.promises.specs.RequestCounterexample.{forgetful_sheet, forgetful, forgotten}

-- it is refused for that alone
pub forgetful_refused : sheet_refusal (draft_bytes forgetful_sheet) ≡ refusal 7 0
unfolding forgetful_sheet definitions
forgetful_refused = refl

pub forgetful_keeps_others : or_else (boards_refusal forgetful) (or_else (ops_refusal forgetful)
    (first_broken 7 (request_good forgetful) (N_of forgetful) 0)) ≡ accepted
unfolding forgetful_sheet definitions
forgetful_keeps_others = refl

pub forgotten_matters : FinishedLeavesNone forgetful (told_by forgetful forgotten) → ⊥
unfolding forgetful_sheet definitions FinishedLeavesNone told_by
forgotten_matters clear = omega (arith, (clear refl).none_pending)
