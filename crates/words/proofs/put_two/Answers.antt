-- `words::put_two` meets its contract: the two bytes of a number are a splice. Assumes nothing.
use Rattle.std.proofs.Common.{ap₂, arith, ℕ, [], ◌∷◌, refl, ◌∙◌}
use Rattle.rules.specs.Report.{low_two}
use Rattle.words.specs.Putting.{part_put}
use Rattle.words.proofs.put_two.Goals as goal

pub returns : goal.returns
unfolding low_two
returns c =
    let a = c.args in
    part_put a.s.now a.at 2 c.copy_from_slice.new.self (low_two a.v) (c.copy_from_slice.ensures.after ∙ (c.to_le_bytes-bytes.ensures ∙ ap₂ (λ (x y : ℕ). x ∷ y ∷ []) (omega arith) (omega arith))) refl
