-- A pair is put behind those that stand, and the last one ends the line. Assumes nothing.
use Rattle.std.proofs.Common.{◌≡◌, ℕ, ◌+◌, ◌-◌, ◌*◌, refl, ap, ◌∙◌, length, arith, slice_index_or}
use Rattle.std.proofs.Math.Seq.{length-take-le, get_or-take}
use Rattle.rules.specs.Step.{splice}
use Rattle.text.specs.Text.{pair}
use Rattle.text.specs.Lines.{lined_none, lined_more, lined_end}
use Rattle.text.specs.Lengths.{pair_length}
use Rattle.text.proofs.hex_line.Goals as goal

pub loop-i-init : goal.loop-i-init
loop-i-init c = lined_none pair c.args.bytes.now c.args.line.now

pub loop-i-preserved : goal.loop-i-preserved
loop-i-preserved c =
    let l = c.loop-i in
    let bytes = c.args.bytes.now in
    let front = length-take-le (length bytes - 1) bytes (omega arith) in
    let size = pair_length (slice_index_or bytes l.i 0) 32 in
    let put =
    c.put_pair.ensures
    ∙ ap (λ (b : ℕ). splice l.line (3 * l.i) (pair b 32)) (get_or-take (length bytes - 1) bytes l.i 0 (omega arith)) in
    lined_more pair l.invariant (omega arith) c.put_pair.new.line 32 put (omega (arith, size)) refl (3 * (l.i + 1)) (omega (arith, size))

pub returns : goal.returns
returns c =
    let l = c.loop-i in
    let bytes = c.args.bytes.now in
    let front = length-take-le (length bytes - 1) bytes (omega arith) in
    let last : length bytes - 1 ≡ l.i = omega arith in
    let size = pair_length (slice_index_or bytes l.i 0) 10 in
    let put =
    c.put_pair-2.ensures
    ∙ ap (λ (k : ℕ). splice l.line (3 * k) (pair (slice_index_or bytes k 0) 10)) last in
    (lined_end pair l.invariant (omega arith) c.put_pair-2.new.line 10 put (omega (arith, size)) refl (omega arith)).0
