-- `crc::crc_by` meets its contract: the CRC of the two parts, one carried on over the other, is the sheet's.
-- Assumes nothing.
use Rattle.std.proofs.Common.{List, ap, arith, drop, length, length-drop, sym, take, take_all, ℕ, ◌-◌, ◌∙◌, ◌≡◌}
use Rattle.rules.specs.Crc.{crc, crc_from}
use Rattle.rules.specs.Limits.{header_size}
use Rattle.laws.specs.CrcStep.{crc_from_append}
use Rattle.crc.proofs.crc_by.Goals as goal

pub returns : goal.returns
unfolding crc
returns c =
    let s = c.args.s.now in
    let rest : take (length s - header_size) (drop header_size s) ≡ drop header_size s =
    take_all (length s - header_size) (drop header_size s) (omega (arith, length-drop header_size s)) in
    c.crc_over.ensures
    ∙ (ap (λ (l : List ℕ). crc_from c.crc_over-head.result l) rest
    ∙ (ap (λ (n : ℕ). crc_from n (drop header_size s)) c.crc_over-head.ensures ∙ sym (crc_from_append 65535 (take 14 s) (drop header_size s))))
