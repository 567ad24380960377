-- Rules' CRC is the one that document 03 writes, by exclusive or of sixteen bits throughout, of every list of numbers.
--   shift_by_xor, crc_byte_by_xor   a shift and a byte
--   crc_by_xor                      the whole
-- Assumes nothing.
use Rattle.std.specs.Prelude.{◌≡◌, refl, cond, List, [], ◌∷◌, ◌++◌, ℕ, zero, suc, ◌+◌, ◌*◌, ◌/◌, ◌%◌, leb, take, drop}
use Rattle.std.proofs.Common.{sym, ◌∙◌, ap, ap₂, arith}
use Rattle.rules.specs.Crc.{xor, shift, shifts, crc_byte, crc_from, crc}
use Rattle.laws.specs.Flip.{polynomial_in}
use Rattle.laws.specs.Xor.{xor_parts}

-- DOCUMENT 03'S
unfoldable pub shifted : (times c : ℕ) → ℕ
shifted zero c = c
shifted (suc k) c = shifted k (cond (leb 32768 c) (xor 16 (2 * c % 65536) 4129) (2 * c % 65536))

unfoldable pub crc_shifted : (c : ℕ) → List ℕ → ℕ
crc_shifted c [] = c
crc_shifted c (b ∷ bs) = crc_shifted (shifted 8 (xor 16 c (256 * b))) bs

-- A SHIFT
pub shift_by_xor : (c : ℕ) → shift c ≡ cond (leb 32768 c) (xor 16 (2 * c % 65536) 4129) (2 * c % 65536)
unfolding shift
shift_by_xor c = ap (λ (n : ℕ). cond (leb 32768 c) n (2 * c % 65536)) (polynomial_in (2 * c % 65536) (omega arith))

shifts_by_xor : (k c : ℕ) → shifts k c ≡ shifted k c
unfolding shifts shifted
shifts_by_xor zero c = refl
shifts_by_xor (suc k) c =
    ap (λ (n : ℕ). shifts k n) (shift_by_xor c) ∙ shifts_by_xor k (cond (leb 32768 c) (xor 16 (2 * c % 65536) 4129) (2 * c % 65536))

-- A BYTE at the high end: the j bits below it stay. m with j zeros behind, what is left of c above its j lowest bits, and these
unfoldable double : (j m : ℕ) → ℕ
double zero m = m
double (suc j) m = 2 * double j m

unfoldable above : (j c : ℕ) → ℕ
above zero c = c
above (suc j) c = above j (c / 2)

unfoldable below : (j c : ℕ) → ℕ
below zero c = 0
below (suc j) c = c % 2 + 2 * below j (c / 2)

up_one : (k c m : ℕ) → xor (suc k) c (2 * m) ≡ c % 2 + 2 * xor k (c / 2) m
up_one k c m =
    xor_parts k c (2 * m)
    ∙ ap₂ (λ (x y : ℕ). x + 2 * y) (omega arith) (ap (λ (n : ℕ). xor k (c / 2) n) (omega arith))

up : (j k c m : ℕ) → xor (j + k) c (double j m) ≡ below j c + double j (xor k (above j c) m)
unfolding double above below
up zero k c m =
    let none : 0 + k ≡ k = omega arith in
    ap (λ (n : ℕ). xor n c m) none ∙ omega arith
up (suc j) k c m =
    let e = up j k (c / 2) m in
    let one : suc j + k ≡ suc (j + k) = omega arith in
    ap (λ (n : ℕ). xor n c (2 * double j m)) one ∙ (up_one (j + k) c (double j m) ∙ omega arith)

entered : (c b : ℕ) → 256 * xor 8 (c / 256) b + c % 256 ≡ xor 16 c (256 * b)
unfolding double above below
entered c b =
    let wide : double 8 b ≡ 256 * b = omega arith in
    let high : above 8 c ≡ c / 256 = omega arith in
    let low : below 8 c ≡ c % 256 = omega arith in
    let e = up 8 8 c b in
    sym
    (ap (λ (n : ℕ). xor 16 c n) (sym wide)
    ∙ (e ∙ (ap (λ (n : ℕ). below 8 c + double 8 (xor 8 n b)) high ∙ omega arith)))

pub crc_byte_by_xor : (c b : ℕ) → crc_byte c b ≡ shifts 8 (xor 16 c (256 * b))
unfolding crc_byte
crc_byte_by_xor c b = ap (λ (n : ℕ). shifts 8 n) (entered c b)

-- THE WHOLE
from_by_xor : (c : ℕ) (bs : List ℕ) → crc_from c bs ≡ crc_shifted c bs
unfolding crc_from crc_shifted
from_by_xor c [] = refl
from_by_xor c (b ∷ bs) =
    ap (λ (n : ℕ). crc_from n bs) (crc_byte_by_xor c b ∙ shifts_by_xor 8 (xor 16 c (256 * b)))
    ∙ from_by_xor (shifted 8 (xor 16 c (256 * b))) bs

pub crc_by_xor : (bs : List ℕ) → crc bs ≡ crc_shifted 65535 (take 14 bs ++ drop 16 bs)
unfolding crc
crc_by_xor bs = from_by_xor 65535 (take 14 bs ++ drop 16 bs)
