-- Why verdict 1 leaves no request only with document 02's K7. A sheet that keeps every other rule, and forgets a receive: its run
-- finishes, and the receive is pending. The sheet is written as a bench job and computed, in
-- proofs/RequestCounterexample. Assumes nothing.
use Rattle.std.specs.Prelude.{[], ◌∷◌}
use Rattle.rules.specs.Sheet.{Sheet, sheet_in}
use Rattle.rules.specs.Job.{Job}
use Rattle.rules.specs.Order.{run}
use Rattle.rules.specs.BenchJob.{ireceive, script, Draft, draft, draft_bytes}

-- one board, which posts a receive from itself and ends
unfoldable pub forgetful_sheet : Draft
forgetful_sheet = draft 1 0x89bf [] (script 0 1 (ireceive 0 0 0 0 1 0 ∷ []) ∷ [])

abbrev pub forgetful : Sheet
forgetful = sheet_in (draft_bytes forgetful_sheet)

-- its run ends with verdict 1 and a receive pending
abbrev pub forgotten : Job
forgotten = (run forgetful (0 ∷ [])).end
