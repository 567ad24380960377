-- The numbers of an operation's states, of the verdicts that stop a job (document 01, "The report"), and of a test. Assumes nothing.
use Rattle.std.specs.Prelude.{◌≡◌, refl, Bool, true, false, cond, ℕ}
use Rattle.std.specs.Int.{from_bool}
use Rattle.state.specs.declared.State.{State}
use Rattle.state.specs.declared.State.TheVariants.{NotEntered, Pending, Buffered, Matched, Finished}
use Rattle.state.specs.declared.StopVerdict.{StopVerdict}
use Rattle.state.specs.declared.StopVerdict.TheVariants.{Overflow, NotReady}

abbrev pub state_number : State → ℕ
state_number NotEntered = 0
state_number Pending = 1
state_number Buffered = 2
state_number Matched = 3
state_number Finished = 5

abbrev pub verdict_number : StopVerdict → ℕ
verdict_number Overflow = 3
verdict_number NotReady = 4

-- a test is 1 where it holds, else 0
pub bit_is : (b : Bool) → from_bool b ≡ cond b 1 0
bit_is true = refl
bit_is false = refl
