-- `sheet::ops::at` meets its contract: the header's offset is where the table stands. Assumes nothing.
use Rattle.std.proofs.Common.{ap, arith, refl, ℕ, ◌*◌, ◌+◌, ◌∙◌, ◌≡◌}
use Rattle.rules.specs.Limits.{op_size, ops_at}
use Rattle.rules.specs.Sheet.{op_in, op, sheet_in, second_in, P_in}
use Rattle.laws.specs.Decoded.{op_by}
use Rattle.sheet.specs.Fields.{op_fields}
use Rattle.sheet.proofs.ops.at.Goals as goal

pub returns : goal.returns
returns c =
    let a = c.args in
    let p = c.requires in
    let bs = a.s.now in
    let there : c.ops_offset.result ≡ ops_at (second_in bs) (P_in bs) = c.ops_offset.ensures.is ∙ p.0.ops_offset in (
      op_fields bs (c.ops_offset.result + op_size * a.i) (op (sheet_in bs) a.i)
          (ap (λ (k : ℕ). op_in bs (k + op_size * a.i)) there ∙ op_by bs a.i (P_in bs) p.1 refl),
      omega arith,
    )
