-- Changing one bit of a number (rules' `flip`) is the exclusive or with that bit; and changing those of the polynomial, 1021 hex, the
-- exclusive or with it. Assumes nothing.
use Rattle.std.specs.Prelude.{◌≡◌, refl, Bool, true, false, cond, ℕ, zero, suc, ◌+◌, ◌-◌, ◌*◌, ◌/◌, ◌%◌, ◌^◌, ◌<◌, eqb}
use Rattle.std.proofs.Common.{sym, ◌∙◌, ap, ap₂, arith, div-add-mod', mod-lt, suc-mul, pow_pos, eqb-true}
use Rattle.std.specs.Int.Bits.{bit_xor, differ, xor_step, xor_zero_r}
use Rattle.std.proofs.lemmas.Nat.{xor_block}
use Rattle.std.proofs.lemmas.Bool.{eqb-false}
use Rattle.rules.specs.Crc.{xor, flip}
use Rattle.laws.specs.Xor.{xor_is, xor_assoc, xor_bound}

-- the lowest bit changed
low_bit : (a : ℕ) → bit_xor a 1 ≡ a / 2 * 2 + differ (a % 2) 1
low_bit a = xor_step a 1 ∙ ap (λ (n : ℕ). n * 2 + differ (a % 2) 1) (xor_zero_r (a / 2))

set_bit : (a : ℕ) → a % 2 ≡ 0 → bit_xor a 1 ≡ suc a
set_bit a e =
    let d : a / 2 * 2 + differ (a % 2) 1 ≡ a / 2 * 2 + 1 = ap (λ (n : ℕ). a / 2 * 2 + differ n 1) e in
    low_bit a ∙ (d ∙ omega arith)

cleared_bit : (a : ℕ) → suc a % 2 ≡ 1 → bit_xor (suc a) 1 ≡ a
cleared_bit a e =
    let d : suc a / 2 * 2 + differ (suc a % 2) 1 ≡ suc a / 2 * 2 + 0 = ap (λ (n : ℕ). suc a / 2 * 2 + differ n 1) e in
    low_bit (suc a) ∙ (d ∙ omega arith)

-- bit k, of a number with a above it and r below
module _ (k r : ℕ) where
  added : (a : ℕ) → a * 2 ^ k + r + 2 ^ k ≡ suc a * 2 ^ k + r
  added a = let e = suc-mul a (2 ^ k) in omega arith

  taken : (a : ℕ) → suc a * 2 ^ k + r - 2 ^ k ≡ a * 2 ^ k + r
  taken a = let e = suc-mul a (2 ^ k) in omega arith

  split_flip : (a : ℕ) (t : Bool) → eqb (a % 2) 0 ≡ t →
      cond t (a * 2 ^ k + r + 2 ^ k) (a * 2 ^ k + r - 2 ^ k) ≡ bit_xor a 1 * 2 ^ k + r
  split_flip a true e = added a ∙ ap (λ (n : ℕ). n * 2 ^ k + r) (sym (set_bit a (eqb-true (a % 2) 0 e)))
  split_flip zero false e = absurd (eqb-false 0 0 e refl)
  split_flip (suc a) false e =
      let odd = eqb-false (suc a % 2) 0 e in
      taken a ∙ ap (λ (n : ℕ). n * 2 ^ k + r) (sym (cleared_bit a (omega arith)))

pub flip_is : (k n : ℕ) → flip (2 ^ k) n ≡ bit_xor n (2 ^ k)
unfolding flip
flip_is k n =
    let a : ℕ = n / 2 ^ k in
    let r : ℕ = n % 2 ^ k in
    let whole : a * 2 ^ k + r ≡ n = div-add-mod' n (2 ^ k) in
    let bit : 1 * 2 ^ k + 0 ≡ 2 ^ k = omega arith in
    ap (λ (m : ℕ). cond (eqb (a % 2) 0) (m + 2 ^ k) (m - 2 ^ k)) (sym whole)
    ∙ (split_flip k r a (eqb (a % 2) 0) refl
    ∙ (ap (λ (m : ℕ). bit_xor a 1 * 2 ^ k + m) (sym (xor_zero_r r))
    ∙ (sym (xor_block k a 1 r 0 (mod-lt n (pow_pos k)) (pow_pos k)) ∙ ap₂ bit_xor whole bit)))

-- of sixteen bits, in rules' words
flip_in_16 : (k n : ℕ) → 2 ^ k < 65536 → n < 65536 → flip (2 ^ k) n ≡ xor 16 n (2 ^ k)
flip_in_16 k n l h = flip_is k n ∙ xor_is 16 n (2 ^ k) h l

pub polynomial_in : (n : ℕ) → n < 65536 → flip 4096 (flip 32 (flip 1 n)) ≡ xor 16 n 4129
polynomial_in n h =
    ap (λ (m : ℕ). flip 4096 (flip 32 m)) (flip_in_16 0 n (omega arith) h)
    ∙ (ap (λ (m : ℕ). flip 4096 m) (flip_in_16 5 (xor 16 n 1) (omega arith) (xor_bound 16 n 1))
    ∙ (flip_in_16 12 (xor 16 (xor 16 n 1) 32) (omega arith) (xor_bound 16 (xor 16 n 1) 32)
    ∙ (ap (λ (m : ℕ). xor 16 m 4096) (xor_assoc 16 n 1 32) ∙ xor_assoc 16 n (xor 16 1 32) 4096 ∙ sum)))
  where
    sum : xor 16 n (xor 16 (xor 16 1 32) 4096) ≡ xor 16 n 4129
    sum = ap (λ (m : ℕ). xor 16 n m) (unfold xor in refl)
