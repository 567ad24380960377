-- The search for the first operation that breaks a rule, script by script, by what a closure answers of each. Assumes nothing.
use Rattle.std.specs.Prelude.{Bool, ℕ, ◌<◌, Result}
use Rattle.rules.specs.Sheet.{Sheet, P_of}
use Rattle.laws.specs.Scripts.{script_broken}
use Rattle.sheet.specs.declared.refusal.Refusal.{Refusal as Refused}
use Rattle.sheet.specs.Refused.{Refuses}

-- what the closure answers of a board is where its script breaks the rule f, which is refused with n
abbrev pub InScripts : (post : ℕ → Result Unit Refused → Type 0) → (n : ℕ) → (ℕ → Bool) → Sheet → Type 0
InScripts post n f s = (r : ℕ) → r < P_of s → (said : Result Unit Refused) → post r said → Refuses (script_broken n f s r) said
