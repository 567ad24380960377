-- `crc::crc_over` meets its contract. The loop's invariant: the CRC so far, carried on over what is left, is the whole CRC.
-- Assumes nothing.
use Rattle.std.proofs.Common.{List, [], ap, arith, bit_xor, drop, get_or, drop_of_length-le, sym, ℕ, ◌/◌, ◌<◌, ◌∙◌, ◌≡◌}
use lib.Bits.{xor_lt}
use Rattle.rules.specs.Crc.{crc_from}
use Rattle.laws.specs.CrcStep.{crc_turn}
use Rattle.crc.proofs.crc_over.Goals as goal

pub loop-b-preserved : goal.loop-b-preserved
loop-b-preserved c =
    let l = c.loop-b in
    let t = c.args.table.now in
    let v = c.from-in-loop-b.result in
    let below : bit_xor (l.crc / 256) v < 256 = xor_lt 8 (l.crc / 256) v (omega arith) (omega arith) in
    let read = ap (λ (n : ℕ). get_or t (bit_xor n v) 0) c.from.ensures ∙ c.requires.at (bit_xor (l.crc / 256) v) below in
    let turn = crc_turn l.crc c.args.s.now l.b-index v (get_or t (bit_xor c.from.result v) 0) (omega arith) (omega arith) c.from-in-loop-b.ensures (omega arith) read in
    l.invariant ∙ turn.1

pub returns : goal.returns
unfolding crc_from
returns c =
    let l = c.loop-b in
    let s = c.args.s.now in
    let done : drop l.b-index s ≡ [] = drop_of_length-le s {i = l.b-index} (omega arith) in
    sym (l.invariant ∙ ap (λ (xs : List ℕ). crc_from l.crc xs) done)
