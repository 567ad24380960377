-- The invariant of `sheet::refusal::first_broken`: for each rule that the closure tests, the search has come to index i and refused
-- nothing. It ends at `end`, or where it begins if that is behind it.
use Rattle.std.proofs.Common.{Bool, ◌+◌, ◌-◌, ℕ}
use Rattle.rules.specs.Refusal.{first_broken}
use Rattle.laws.specs.Answers.{Sought}
use Rattle.sheet.specs.Refused.{number_of, Tests}
use Rattle.sheet.proofs.refusal.first_broken.Given as goal

abbrev pub invariant-loop-i : goal.invariant-loop-i
invariant-loop-i g l =
    (f : ℕ → Bool) → Tests (goal.F-post g l.keeps) l.from l.end f →
    Sought (first_broken (number_of l.rule) f (l.end - l.from) l.from) (number_of l.rule) f l.i (l.from + (l.end - l.from))
