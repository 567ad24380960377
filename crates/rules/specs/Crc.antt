-- CRC-16 (document 01, "The sheet, byte by byte"; the catalogue's CRC-16/IBM-3740): polynomial 1021 hex, start FFFF hex,
-- high bit first, no final change. Assumes nothing: these are definitions.
use Rattle.std.specs.Prelude.{cond, List, [], ◌∷◌, ◌++◌, ℕ, zero, suc, ◌+◌, ◌-◌, ◌*◌, ◌/◌, ◌%◌, leb, eqb, take, drop}

-- exclusive or of the lowest `bits` bits of two numbers
unfoldable pub xor : (bits a b : ℕ) → ℕ
xor zero a b = 0
xor (suc k) a b = (a + b) % 2 + 2 * xor k (a / 2) (b / 2)

-- one bit of a number, given by its value, is changed
unfoldable pub flip : (bit n : ℕ) → ℕ
flip p n = cond (eqb (n / p % 2) 0) (n + p) (n - p)

-- one shift: the high bit goes out, and where it was set the polynomial goes in, the bits of 1021 hex
unfoldable pub shift : ℕ → ℕ
shift c = cond (leb 32768 c) (flip 0x1000 (flip 0x20 (flip 1 (2 * c % 65536)))) (2 * c % 65536)

unfoldable pub shifts : (times c : ℕ) → ℕ
shifts zero c = c
shifts (suc k) c = shifts k (shift c)

-- a byte enters at the high end, and eight shifts follow
unfoldable pub crc_byte : (c b : ℕ) → ℕ
crc_byte c b = shifts 8 (256 * xor 8 (c / 256) b + c % 256)

unfoldable pub crc_from : (c : ℕ) → List ℕ → ℕ
crc_from c [] = c
crc_from c (b ∷ bs) = crc_from (crc_byte c b) bs

-- of a sheet: bytes 0 to 13, then 16 to the end
unfoldable pub crc : List ℕ → ℕ
crc bs = crc_from 0xffff (take 14 bs ++ drop 16 bs)
