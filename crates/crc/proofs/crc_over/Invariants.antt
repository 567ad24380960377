-- The invariant of `crc::crc_over`.
use Rattle.std.proofs.Common.{drop, ◌≡◌}
use Rattle.rules.specs.Crc.{crc_from}
use Rattle.crc.proofs.crc_over.Given as goal

abbrev pub invariant-loop-b : goal.invariant-loop-b
invariant-loop-b l = crc_from l.fn.start l.s ≡ crc_from l.crc (drop l.b-index l.s)
