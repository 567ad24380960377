-- The invariant of `refusals::scripts::refusal`: for each rule that the closure searches for, nothing is refused before the script of
-- board r.
use Rattle.std.proofs.Common.{Bool, ℕ}
use Rattle.std.specs.Prelude.{◌≢◌}
use Rattle.rules.specs.Sheet.{sheet_in}
use Rattle.laws.specs.Scripts.{Passed}
use Rattle.refusals.specs.Scripts.{InScripts}
use Rattle.refusals.proofs.scripts.refusal.Given as goal

abbrev pub invariant-loop-r : goal.invariant-loop-r
invariant-loop-r g l =
    (n : ℕ) (f : ℕ → Bool) → n ≢ 0 → InScripts (goal.F-post g l.in_script) n f (sheet_in l.s) → Passed (sheet_in l.s) n f l.r
