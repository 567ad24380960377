-- An index or a rank that code answers, if there is one, as rules has it. Assumes nothing.
use Rattle.std.specs.Prelude.{ℕ, Option, None, Some}
use Rattle.std.proofs.Math.Option.{Option as Maybe, none, some}

abbrev pub option_of : Option ℕ → Maybe ℕ
option_of None = none
option_of (Some n) = some n
