-- Each number is the one that was read. Assumes nothing.
use Rattle.judge.specs.Printed.{header_numbers}
use Rattle.judge.proofs.lines.facts.Goals as goal

pub returns : goal.returns
unfolding header_numbers
returns c =
    cc (
      c.byte_at.ensures.is,
      c.byte_at-2.ensures.is,
      c.two_at.ensures.is,
      c.two_at-2.ensures.is,
      c.two_at-3.ensures.is,
      c.two_at-4.ensures.is,
      c.two_at-5.ensures.is,
      c.two_at-6.ensures.is,
      c.two_at-7.ensures.is,
    )
