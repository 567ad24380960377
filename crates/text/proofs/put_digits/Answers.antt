-- A copy and a store side by side are one splice. Assumes nothing.
use Rattle.std.proofs.Common.{◌∙◌, ap, refl, List, [], ◌∷◌, ℕ, length, arith}
use Rattle.std.proofs.Math.Seq.{take-length}
use Rattle.rules.specs.Step.{splice}
use Rattle.laws.specs.Splice.{splice_then}
use Rattle.text.proofs.put_digits.Goals as goal

pub returns : goal.returns
returns c =
    let a = c.args in
    let all = c.copy.ensures ∙ ap (λ (vs : List ℕ). splice a.line.now a.at vs) (take-length a.digits.now) in (
      splice_then a.line.now c.copy.new.s c.put_byte.new.s a.at (length a.digits.now) a.digits.now (a.behind ∷ []) all refl c.put_byte.ensures (omega arith),
      omega arith,
    )
