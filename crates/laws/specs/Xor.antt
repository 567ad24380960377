-- Laws of the exclusive or of rules (`xor bits a b`): its order and grouping do not matter, 0 changes nothing, it stays within
-- its bits, and it is the machine's. Assumes nothing.
use Rattle.std.specs.Prelude.{◌≡◌, ℕ, zero, suc, ◌+◌, ◌*◌, ◌/◌, ◌%◌, ◌^◌, ◌<◌}
use Rattle.std.proofs.Math.Path.{refl}
use Rattle.std.proofs.Common.{sym, ◌∙◌, ap, ap₂, arith}
use Rattle.std.specs.Int.Bits.{bit_xor, differ, xor_step}
use Rattle.rules.specs.Crc.{xor}

-- the lowest bit, and the others
pub xor_parts : (k a b : ℕ) → xor (suc k) a b ≡ (a + b) % 2 + 2 * xor k (a / 2) (b / 2)
unfolding xor
xor_parts k a b = refl

xor_low : (k a b : ℕ) → xor (suc k) a b % 2 ≡ (a + b) % 2
xor_low k a b = omega (arith, xor_parts k a b)

xor_high : (k a b : ℕ) → xor (suc k) a b / 2 ≡ xor k (a / 2) (b / 2)
xor_high k a b = omega (arith, xor_parts k a b)

pub xor_comm : (k a b : ℕ) → xor k a b ≡ xor k b a
unfolding xor
xor_comm zero a b = refl
xor_comm (suc k) a b = let e = xor_comm k (a / 2) (b / 2) in omega arith

odd_sum : (u c n : ℕ) → u % 2 ≡ n % 2 → (u + c) % 2 ≡ (n + c) % 2
odd_sum u c n e = omega arith

regroup : (a b c : ℕ) → a + b + c ≡ a + (b + c)
regroup a b c = omega arith

swap : (a b : ℕ) → a + b ≡ b + a
swap a b = omega arith

pub xor_assoc : (k a b c : ℕ) → xor k (xor k a b) c ≡ xor k a (xor k b c)
xor_assoc zero a b c = unfold xor in refl
xor_assoc (suc k) a b c =
    let u : ℕ = xor (suc k) a b in
    let v : ℕ = xor (suc k) b c in
    let e : xor k (u / 2) (c / 2) ≡ xor k (a / 2) (v / 2) =
    ap (λ (n : ℕ). xor k n (c / 2)) (xor_high k a b) ∙ (xor_assoc k (a / 2) (b / 2) (c / 2) ∙ ap (λ (n : ℕ). xor k (a / 2) n) (sym (xor_high k b c))) in
    let p = xor_low k a b in
    let q = xor_low k b c in
    xor_parts k u c ∙ (ap₂ (λ (x y : ℕ). x + 2 * y) (low u v p q) e ∙ sym (xor_parts k a v))
  where
    low : (u v : ℕ) → u % 2 ≡ (a + b) % 2 → v % 2 ≡ (b + c) % 2 → (u + c) % 2 ≡ (a + v) % 2
    low u v p q = odd_sum u c (a + b) p ∙ (ap (λ (n : ℕ). n % 2) (regroup a b c) ∙ sym (ap (λ (n : ℕ). n % 2) (swap a v) ∙ (odd_sum v a (b + c) q ∙ ap (λ (n : ℕ). n % 2) (swap (b + c) a))))

-- two pairs, regrouped
pub xor_swap : (k a b c d : ℕ) → xor k (xor k a b) (xor k c d) ≡ xor k (xor k a c) (xor k b d)
xor_swap k a b c d =
    xor_assoc k a b (xor k c d)
    ∙ (ap (λ (n : ℕ). xor k a n) (sym (xor_assoc k b c d) ∙ (ap (λ (n : ℕ). xor k n d) (xor_comm k b c) ∙ xor_assoc k c b d))
    ∙ sym (xor_assoc k a c (xor k b d)))

pub xor_zero : (k a : ℕ) → a < 2 ^ k → xor k a 0 ≡ a
unfolding xor
xor_zero zero a h = let e : 2 ^ 0 ≡ 1 = refl in omega arith
xor_zero (suc k) a h = let e = xor_zero k (a / 2) (omega arith) in omega arith

pub xor_bound : (k a b : ℕ) → xor k a b < 2 ^ k
unfolding xor
xor_bound zero a b = omega arith
xor_bound (suc k) a b = let e = xor_bound k (a / 2) (b / 2) in omega arith

-- the machine's exclusive or
differ_is : (x y : ℕ) → x < 2 → y < 2 → differ x y ≡ (x + y) % 2
differ_is zero zero h l = refl
differ_is zero (suc zero) h l = refl
differ_is (suc zero) zero h l = refl
differ_is (suc zero) (suc zero) h l = refl
differ_is zero (suc (suc y)) h l = absurd (omega arith)
differ_is (suc zero) (suc (suc y)) h l = absurd (omega arith)
differ_is (suc (suc x)) zero h l = absurd (omega arith)
differ_is (suc (suc x)) (suc zero) h l = absurd (omega arith)
differ_is (suc (suc x)) (suc (suc y)) h l = absurd (omega arith)

pub xor_is : (k a b : ℕ) → a < 2 ^ k → b < 2 ^ k → bit_xor a b ≡ xor k a b
unfolding xor
xor_is zero a b h l = let p : a ≡ 0 = omega arith in let q : b ≡ 0 = omega arith in ap₂ bit_xor p q
xor_is (suc k) a b h l =
    xor_step a b ∙ join (bit_xor (a / 2) (b / 2)) (differ (a % 2) (b % 2)) (xor_is k (a / 2) (b / 2) (omega arith) (omega arith)) (differ_is (a % 2) (b % 2) (omega arith) (omega arith))
  where
    join : (x y : ℕ) → x ≡ xor k (a / 2) (b / 2) → y ≡ (a % 2 + b % 2) % 2 → x * 2 + y ≡ (a + b) % 2 + 2 * xor k (a / 2) (b / 2)
    join x y p q = omega arith
