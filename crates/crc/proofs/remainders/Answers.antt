-- `crc::remainders` meets its contract: the table keeps the eight-shift rule, by one test that is computed over all of
-- its entries. Assumes nothing.
use Rattle.std.proofs.Common.{refl}
use Rattle.rules.specs.Crc.{flip, shift, shifts}
use Rattle.laws.specs.Table.{every}
use Rattle.crc.specs.Remainders.{remainders_tested, eight_shifts}
use Rattle.crc.proofs.remainders.Goals as goal

pub returns : goal.returns
unfolding every eight_shifts shifts shift flip
returns c = remainders_tested _ refl refl
