-- Which line is printed, by the number of check's refusal: the one for a sheet that it accepts, or number and place.
-- Assumes nothing.
use Rattle.std.specs.Prelude.{◌≡◌, Bool, List, ℕ}
use Rattle.std.proofs.Math.Path.{ap}
use Rattle.std.proofs.Math.Bool.{cond}
use Rattle.std.proofs.Common.{eq-eqb, ne_eqb}
use Rattle.rules.specs.Refusal.{sheet_refusal}
use Rattle.judge.specs.Printed.{refusal_line, unless_refused}

module _ (bs line : List ℕ) where
  abbrev refused : List ℕ
  refused = refusal_line (sheet_refusal bs).number (sheet_refusal bs).place

  pub unless_passed : (sheet_refusal bs).number ≡ 0 → unless_refused bs line ≡ line
  unfolding unless_refused
  unless_passed z = ap (λ (t : Bool). cond t line refused) (eq-eqb (sheet_refusal bs).number 0 z)

  pub unless_stopped : ((sheet_refusal bs).number ≡ 0 → ⊥) → unless_refused bs line ≡ refusal_line (sheet_refusal bs).number (sheet_refusal bs).place
  unfolding unless_refused
  unless_stopped h = ap (λ (t : Bool). cond t line refused) (ne_eqb (sheet_refusal bs).number 0 h)
