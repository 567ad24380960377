-- A number in decimal is its fewest digits in base 10, the most significant first, and it is the text that std prints of it.
-- Assumes nothing.
use Rattle.std.specs.Prelude.{◌≡◌, Bool, cond, List, [], ◌∷◌, ◌++◌, ℕ, zero, suc, ◌+◌, ◌-◌, ◌/◌, ◌%◌, ◌^◌, ◌<◌, ◌≤◌}
use Rattle.std.proofs.Common.{sym, ◌∙◌, ap, ap₂, subst, arith, pow-suc, pow-add, lt-ltb, le-ltb}
use Rattle.std.proofs.Math.Decide.{dec_le}
use Rattle.std.specs.Fmt as fmt
use Rattle.std.proofs.lemmas.Fmt.{length-decimal-le, AppendsLastDigit, decimal_from_appends}
use Rattle.std.proofs.lemmas.Bool.Decides.{nat_tests}
use Rattle.text.specs.Digits.{hex_digit_ascii, last_digits, IsDigitCount}
use Rattle.text.specs.Text.{digit_of, decimal_in, decimal, most_digits}

-- a decimal digit is the same in both
glyph_is : (d : ℕ) → d < 10 → hex_digit_ascii d ≡ digit_of d
unfolding digit_of
glyph_is d h = ap (λ (t : Bool). cond t (48 + d) (87 + d)) (lt-ltb d 10 h) ∙ sym (ap (λ (t : Bool). cond t (48 + d) (55 + d)) (lt-ltb d 10 h))

ten_pos : (j : ℕ) → 0 < 10 ^ j
ten_pos zero = omega arith
ten_pos (suc j) = omega (arith, ten_pos j, pow-suc 10 j)

decimal_fewest : (most k n : ℕ) → k ≤ most → IsDigitCount 10 1 n k → decimal_in most n ≡ last_digits 10 k n
unfolding decimal_in
decimal_fewest zero k n l f = absurd (omega (arith, f.0))
decimal_fewest (suc m) zero n l f = absurd (omega (arith, f.0))
decimal_fewest (suc m) (suc zero) n l f =
    let below : n < 10 = omega (arith, f.1) in
    let same : n % 10 ≡ n = omega arith in
    ap (λ (t : Bool). cond t (digit_of n ∷ []) (decimal_in m (n / 10) ++ (digit_of (n % 10) ∷ []))) (lt-ltb n 10 below)
    ∙ ap (λ (d : ℕ). d ∷ []) (sym (glyph_is n below) ∙ ap hex_digit_ascii (sym same))
decimal_fewest (suc m) (suc (suc j)) n l f =
    let one : suc (suc j) - 1 ≡ suc j = omega arith in
    let least : 10 ^ suc j ≤ n = subst (λ (i : ℕ). 10 ^ i ≤ n) one (f.2 (omega arith)) in
    let high : 10 ≤ n = omega (arith, least, pow-suc 10 j, ten_pos j) in
    let two : suc j - 1 ≡ j = omega arith in
    let fewest : IsDigitCount 10 1 (n / 10) (suc j) = (omega arith, omega (arith, f.1, pow-suc 10 (suc j)), λ _. subst (λ (i : ℕ). 10 ^ i ≤ n / 10) (sym two) (omega (arith, least, pow-suc 10 j))) in
    let tenth = decimal_fewest m (suc j) (n / 10) (omega arith) fewest in
    ap (λ (t : Bool). cond t (digit_of n ∷ []) (decimal_in m (n / 10) ++ (digit_of (n % 10) ∷ []))) (le-ltb n 10 high)
    ∙ ap₂ (λ (front : List ℕ) (d : ℕ). front ++ (d ∷ [])) tenth (sym (glyph_is (n % 10) (omega arith)))

-- a number of 64 bits has at most 20 digits
pub fewest_most : (k n : ℕ) → n < 2 ^ 64 → IsDigitCount 10 1 n k → k ≤ most_digits
fewest_most k n small f = go (dec_le k most_digits)
  where
    go : Dec (k ≤ most_digits) → k ≤ most_digits
    go (yes h) = h
    go (no h) =
        let split : k - 1 ≡ 20 + (k - 21) = omega (arith, h) in
        let least : 10 ^ (20 + (k - 21)) ≤ n = subst (λ (i : ℕ). 10 ^ i ≤ n) split (f.2 (omega (arith, h))) in
        absurd (omega (arith, least, pow-add 10 20 (k - 21), ten_pos (k - 21), small))

-- so that these digits are the number in decimal
pub decimal_is : (k n : ℕ) → n < 2 ^ 64 → IsDigitCount 10 1 n k → decimal n ≡ last_digits 10 k n
unfolding decimal
decimal_is k n small f = decimal_fewest most_digits k n (fewest_most k n small f) f

appends : AppendsLastDigit decimal_in
unfolding decimal_in digit_of
appends = record { one = λ k n h. grind (arith, nat_tests); more = λ k n h. grind (arith, nat_tests) }

-- what std prints of a number, and with it itoa, is the number in decimal
pub decimal_printed : (n : ℕ) → n < 2 ^ 64 → decimal n ≡ fmt.decimal n
unfolding decimal
decimal_printed n h = decimal_from_appends decimal_in appends most_digits n h (length-decimal-le most_digits n (omega arith) (omega arith) h)
