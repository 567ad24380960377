-- The numbers of a board's states and of the verdicts (document 01, "The report"). Assumes nothing: these are definitions.
use Rattle.std.specs.Prelude.{ℕ}
use Rattle.state.specs.Numbers.{verdict_number as stop_number}
use Rattle.report.specs.declared.BoardState.{BoardState}
use Rattle.report.specs.declared.BoardState.TheVariants as board
use Rattle.report.specs.declared.Verdict.{Verdict}
use Rattle.report.specs.declared.Verdict.TheVariants.{Going, Finished, Deadlock, Stopped}

abbrev pub board_state_number : BoardState → ℕ
board_state_number board.Neither = 0
board_state_number board.Able = 1
board_state_number board.Finished = 2

abbrev pub verdict_number : Verdict → ℕ
verdict_number Going = 0
verdict_number Finished = 1
verdict_number Deadlock = 2
verdict_number (Stopped v) = stop_number v
