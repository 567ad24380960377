-- The pairs of the first i bytes stand at the start of the line. Assumes nothing.
use Rattle.std.proofs.Common.{◌*◌}
use Rattle.text.specs.Text.{pair}
use Rattle.text.specs.Lines.{Lined}
use Rattle.text.proofs.hex_line.Given as goal

abbrev pub invariant-loop-i : goal.invariant-loop-i
invariant-loop-i l = Lined pair l.bytes l.initial.line l.line l.i (3 * l.i)
