-- `crc::crc_of_short` meets its contract: of at most 14 bytes all are taken, of 15 the first 14. Assumes nothing.
use Rattle.std.proofs.Common.{List, ap, arith, sym, take, take_all, ℕ, ◌∙◌, ◌≡◌}
use Rattle.rules.specs.Crc.{crc_from}
use Rattle.crc.specs.Short.{crc_short}
use Rattle.crc.proofs.crc_of_short.Goals as goal

pub returns-then-s-lt-CRC_AT : goal.returns-then-s-lt-CRC_AT
returns-then-s-lt-CRC_AT c =
    let s = c.args.s.now in
    let all : take 14 s ≡ s = take_all 14 s (omega arith) in
    c.crc_of_bytes.ensures ∙ (sym (ap (λ (l : List ℕ). crc_from 65535 l) all) ∙ sym (crc_short s c.requires))

pub returns : goal.returns
returns c = c.crc_of_bytes-2.ensures ∙ sym (crc_short c.args.s.now c.requires)
