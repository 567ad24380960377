-- The CRC of bytes that end before a sheet's header does: nothing stands behind the header's own CRC. Assumes nothing.
use Rattle.std.specs.Prelude.{◌≡◌, List, [], ◌++◌, ℕ, ◌<◌, length, take, drop}
use Rattle.std.proofs.Common.{◌∙◌, ap, append-nil, arith, drop_of_length-le}
use Rattle.rules.specs.Limits.{header_size}
use Rattle.rules.specs.Crc.{crc, crc_from}

pub crc_short : (bs : List ℕ) → length bs < header_size → crc bs ≡ crc_from 65535 (take 14 bs)
unfolding crc
crc_short bs h =
    let none : drop header_size bs ≡ [] = drop_of_length-le bs {i = header_size} (omega arith) in
    ap (λ (rest : List ℕ). crc_from 65535 (take 14 bs ++ rest)) none ∙ ap (λ (all : List ℕ). crc_from 65535 all) (append-nil (take 14 bs))
