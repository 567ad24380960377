-- The first numbers stand at the start of the line, up to `at`. Assumes nothing.
use Rattle.text.specs.Text.{number}
use Rattle.text.specs.Lines.{Lined}
use Rattle.text.proofs.numbers_line.Given as goal

abbrev pub invariant-loop-n : goal.invariant-loop-n
invariant-loop-n l = Lined number l.numbers l.initial.line l.line l.n-index l.at
