-- A byte of the CRC by a table of remainders: eight shifts of a sum are the sum of eight shifts, so the high byte goes through
-- the table and the low byte moves up. Assumes nothing.
use Rattle.std.specs.Prelude.{◌≡◌, refl, Bool, true, false, cond, List, [], ◌∷◌, ◌++◌, ℕ, zero, suc, ◌+◌, ◌*◌, ◌/◌, ◌%◌, ◌^◌, ◌<◌, ◌≤◌, length, get_or, drop, leb}
use Rattle.std.proofs.Common.{sym, ◌∙◌, ap, ap₂, subst, arith, pow_pos, drop-cons, add-one, mul-le-mul_left, leb-true, leb-false}
use Rattle.std.specs.Int.Bits.{bit_xor, xor_shifted}
use Rattle.std.proofs.lemmas.Nat.{xor_shr, xor_mod}
use Rattle.rules.specs.Crc.{xor, shift, shifts, crc_byte, crc_from}
use Rattle.laws.specs.CrcByXor.{shift_by_xor}
use Rattle.laws.specs.Xor.{xor_parts, xor_is, xor_zero, xor_comm, xor_swap, xor_bound}

-- one shift, without the test
shift_is : (c : ℕ) → c < 65536 → shift c ≡ xor 16 (2 * c % 65536) (4129 * (c / 32768))
shift_is c h = shift_by_xor c ∙ go (leb 32768 c) refl
  where
    go : (t : Bool) → leb 32768 c ≡ t → cond t (xor 16 (2 * c % 65536) 4129) (2 * c % 65536) ≡ xor 16 (2 * c % 65536) (4129 * (c / 32768))
    go true e = let l = leb-true 32768 c e in ap (λ (n : ℕ). xor 16 (2 * c % 65536) n) (omega arith)
    go false e =
        let l = leb-false 32768 c e in
        sym (ap (λ (n : ℕ). xor 16 (2 * c % 65536) n) (omega arith) ∙ xor_zero 16 (2 * c % 65536) (omega arith))

pub shift_bound : (c : ℕ) → c < 65536 → shift c < 65536
shift_bound c h = let e = shift_is c h in let b = xor_bound 16 (2 * c % 65536) (4129 * (c / 32768)) in omega arith

-- the part that stays, doubled, of a sum
xor_even : (c d : ℕ) → xor 16 (2 * c) (2 * d) ≡ 2 * xor 15 c d
xor_even c d =
    let e : 2 * c / 2 ≡ c = omega arith in
    let f : 2 * d / 2 ≡ d = omega arith in
    let g : (2 * c + 2 * d) % 2 ≡ 0 = omega arith in
    let h : xor 15 (2 * c / 2) (2 * d / 2) ≡ xor 15 c d = ap₂ (λ (a b : ℕ). xor 15 a b) e f in
    xor_parts 15 (2 * c) (2 * d) ∙ tail (xor 15 (2 * c / 2) (2 * d / 2)) (xor 15 c d) ((2 * c + 2 * d) % 2) h g
  where
    tail : (x y z : ℕ) → x ≡ y → z ≡ 0 → z + 2 * x ≡ 2 * y
    tail x y z p q = omega arith

doubled : (a b : ℕ) → a < 65536 → b < 65536 → 2 * xor 16 a b % 65536 ≡ xor 16 (2 * a % 65536) (2 * b % 65536)
doubled a b h l =
    let w : bit_xor a b ≡ xor 16 a b = xor_is 16 a b h l in
    let m : bit_xor a b % 32768 ≡ bit_xor (a % 32768) (b % 32768) = xor_mod a b 15 in
    let n : bit_xor (a % 32768) (b % 32768) ≡ xor 15 (a % 32768) (b % 32768) = xor_is 15 (a % 32768) (b % 32768) (omega arith) (omega arith) in
    let p : 2 * a % 65536 ≡ 2 * (a % 32768) = omega arith in
    let q : 2 * b % 65536 ≡ 2 * (b % 32768) = omega arith in
    let z : xor 16 a b % 32768 ≡ xor 15 (a % 32768) (b % 32768) = ap (λ (k : ℕ). k % 32768) (sym w) ∙ (m ∙ n) in
    let y : xor 16 (2 * (a % 32768)) (2 * (b % 32768)) ≡ 2 * xor 15 (a % 32768) (b % 32768) = xor_even (a % 32768) (b % 32768) in
    let x : xor 16 (2 * a % 65536) (2 * b % 65536) ≡ xor 16 (2 * (a % 32768)) (2 * (b % 32768)) = ap₂ (λ (c d : ℕ). xor 16 c d) p q in
    omega arith

-- the bit that goes out, of a sum: the polynomial goes in as often
fed_bits : (g h : ℕ) → g < 2 → h < 2 → 4129 * xor 1 g h ≡ xor 16 (4129 * g) (4129 * h)
unfolding xor
fed_bits zero zero p q = refl
fed_bits zero (suc zero) p q = refl
fed_bits (suc zero) zero p q = refl
fed_bits (suc zero) (suc zero) p q = refl
fed_bits zero (suc (suc h)) p q = absurd (omega arith)
fed_bits (suc zero) (suc (suc h)) p q = absurd (omega arith)
fed_bits (suc (suc g)) zero p q = absurd (omega arith)
fed_bits (suc (suc g)) (suc zero) p q = absurd (omega arith)
fed_bits (suc (suc g)) (suc (suc h)) p q = absurd (omega arith)

fed : (a b : ℕ) → a < 65536 → b < 65536 → 4129 * (xor 16 a b / 32768) ≡ xor 16 (4129 * (a / 32768)) (4129 * (b / 32768))
fed a b h l =
    let w : bit_xor a b ≡ xor 16 a b = xor_is 16 a b h l in
    let m : bit_xor a b / 32768 ≡ bit_xor (a / 32768) (b / 32768) = xor_shr a b 15 in
    let n : bit_xor (a / 32768) (b / 32768) ≡ xor 1 (a / 32768) (b / 32768) = xor_is 1 (a / 32768) (b / 32768) (omega arith) (omega arith) in
    ap (λ (k : ℕ). 4129 * (k / 32768)) (sym w) ∙ (ap (λ (k : ℕ). 4129 * k) (m ∙ n) ∙ fed_bits (a / 32768) (b / 32768) (omega arith) (omega arith))

-- a shift of a sum is the sum of the shifts
shift_sum : (a b : ℕ) → a < 65536 → b < 65536 → shift (xor 16 a b) ≡ xor 16 (shift a) (shift b)
shift_sum a b h l =
    shift_is (xor 16 a b) (xor_bound 16 a b)
    ∙ (ap₂ (λ (c d : ℕ). xor 16 c d) (doubled a b h l) (fed a b h l)
    ∙ (xor_swap 16 (2 * a % 65536) (2 * b % 65536) (4129 * (a / 32768)) (4129 * (b / 32768))
    ∙ ap₂ (λ (c d : ℕ). xor 16 c d) (sym (shift_is a h)) (sym (shift_is b l))))

shifts_sum : (k a b : ℕ) → a < 65536 → b < 65536 → shifts k (xor 16 a b) ≡ xor 16 (shifts k a) (shifts k b)
unfolding shifts
shifts_sum zero a b h l = refl
shifts_sum (suc k) a b h l =
    ap (λ (c : ℕ). shifts k c) (shift_sum a b h l) ∙ shifts_sum k (shift a) (shift b) (shift_bound a h) (shift_bound b l)

pub shifts_bound : (k c : ℕ) → c < 65536 → shifts k c < 65536
unfolding shifts
shifts_bound zero c h = h
shifts_bound (suc k) c h = shifts_bound k (shift c) (shift_bound c h)

-- a small number only moves up
shift_up : (c : ℕ) → c < 32768 → shift c ≡ 2 * c
shift_up c h =
    let p : 2 * c % 65536 ≡ 2 * c = omega arith in
    let q : 4129 * (c / 32768) ≡ 0 = omega arith in
    shift_is c (omega arith) ∙ (ap₂ (λ (a b : ℕ). xor 16 a b) p q ∙ xor_zero 16 (2 * c) (omega arith))

shifts_up : (k c : ℕ) → c * 2 ^ k < 65536 → shifts k c ≡ c * 2 ^ k
unfolding shifts
shifts_up zero c h = omega arith
shifts_up (suc k) c h =
    let m : c * 1 ≤ c * 2 ^ k = mul-le-mul_left c (pow_pos k) in
    let d : 2 ^ suc k ≡ 2 * 2 ^ k = omega arith in
    let e : c * 2 ^ suc k ≡ c * (2 * 2 ^ k) = ap (λ (n : ℕ). c * n) d in
    ap (λ (n : ℕ). shifts k n) (shift_up c (omega arith)) ∙ (shifts_up k (2 * c) (omega arith) ∙ omega arith)

-- a byte of the CRC, with the machine's exclusive or: the table's entry at the high byte with the new one, and the low byte
-- moved up. `table k` is eight shifts of k at the high end
abbrev pub remainder : (k : ℕ) → ℕ
remainder k = shifts 8 (256 * k)

pub crc_byte_by_table : (c b : ℕ) → c < 65536 → b < 256 → crc_byte c b ≡ bit_xor (c % 256 * 256) (remainder (bit_xor (c / 256) b))
unfolding crc_byte
crc_byte_by_table c b h l =
    let hi : ℕ = c / 256 in
    let lo : ℕ = c % 256 in
    let k : ℕ = bit_xor hi b in
    let bits : k ≡ xor 8 hi b = xor_is 8 hi b (omega arith) l in
    let kb : k < 256 = subst (λ (n : ℕ). n < 256) (sym bits) (xor_bound 8 hi b) in
    let mixed : 256 * xor 8 hi b + lo ≡ k * 256 + lo = omega arith in
    let apart : k * 256 + lo ≡ xor 16 (256 * k) lo =
    sym (xor_shifted k 8 lo (omega arith)) ∙ (xor_is 16 (k * 256) lo (omega arith) (omega arith) ∙ ap (λ (n : ℕ). xor 16 n lo) (omega arith)) in
    ap (λ (n : ℕ). shifts 8 n) (mixed ∙ apart)
    ∙ (shifts_sum 8 (256 * k) lo (omega arith) (omega arith)
    ∙ (xor_comm 16 (shifts 8 (256 * k)) (shifts 8 lo)
    ∙ (ap (λ (n : ℕ). xor 16 n (shifts 8 (256 * k))) (shifts_up 8 lo (omega arith))
    ∙ sym (xor_is 16 (lo * 256) (shifts 8 (256 * k)) (omega arith) (shifts_bound 8 (256 * k) (omega arith))))))

-- the CRC of two lists, one after the other
pub crc_from_append : (c : ℕ) (xs ys : List ℕ) → crc_from c (xs ++ ys) ≡ crc_from (crc_from c xs) ys
unfolding crc_from
crc_from_append c [] ys = refl
crc_from_append c (x ∷ xs) ys = crc_from_append (crc_byte c x) xs ys

pub crc_byte_bound : (c b : ℕ) → crc_byte c b < 65536
unfolding crc_byte
crc_byte_bound c b =
    let e = xor_bound 8 (c / 256) b in
    shifts_bound 8 (256 * xor 8 (c / 256) b + c % 256) (omega arith)

pub crc_from_bound : (c : ℕ) (xs : List ℕ) → c < 65536 → crc_from c xs < 65536
unfolding crc_from
crc_from_bound c [] h = h
crc_from_bound c (x ∷ xs) h = crc_from_bound (crc_byte c x) xs (crc_byte_bound c x)

-- the CRC of what is left of a list, one byte on
pub crc_from_more : (c : ℕ) (xs : List ℕ) (i : ℕ) → i < length xs → crc_from c (drop i xs) ≡ crc_from (crc_byte c (get_or xs i 0)) (drop (i + 1) xs)
unfolding crc_from
crc_from_more c xs i h = rw (add-one, drop-cons xs i 0)

-- one turn of a loop that goes by a table of remainders: the byte v has been read, and the entry w
pub crc_turn : (c : ℕ) (xs : List ℕ) (i v w : ℕ) → c < 65536 → i < length xs → v ≡ get_or xs i 0 → v < 256 → w ≡ remainder (bit_xor (c / 256) v) → (bit_xor (c % 256 * 256) w < 65536) ×
    (crc_from c (drop i xs) ≡ crc_from (bit_xor (c % 256 * 256) w) (drop (i + 1) xs))
crc_turn c xs i v w h l ev lv ew =
    let same : crc_byte c (get_or xs i 0) ≡ bit_xor (c % 256 * 256) w =
    ap (λ (n : ℕ). crc_byte c n) (sym ev) ∙ (crc_byte_by_table c v h lv ∙ ap (λ (n : ℕ). bit_xor (c % 256 * 256) n) (sym ew)) in
    (subst (λ (n : ℕ). n < 65536) same (crc_byte_bound c (get_or xs i 0)), crc_from_more c xs i l ∙ ap (λ (n : ℕ). crc_from n (drop (i + 1) xs)) same)
