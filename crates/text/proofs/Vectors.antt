-- Numbers that were written by hand, computed: a digit on each side of ten, no zero in front, the largest number of 64 bits.
-- Assumes nothing.
use Rattle.std.specs.Prelude.{◌≡◌, refl, [], ◌∷◌}
use Rattle.text.specs.Text.{digit_of, decimal_in, decimal, number, line, numbers_line}

-- 0 9 10 100 65535
pub decimal_vector : numbers_line (0 ∷ 9 ∷ 10 ∷ 100 ∷ 65535 ∷ []) ≡ 48 ∷ 32 ∷ 57 ∷ 32 ∷ 49 ∷ 48 ∷ 32 ∷ 49 ∷ 48 ∷ 48 ∷ 32 ∷ 54 ∷ 53 ∷ 53 ∷ 51 ∷ 53 ∷ 10 ∷ []
unfolding line number decimal decimal_in digit_of
decimal_vector = refl

-- 18446744073709551615
pub largest_vector : decimal 18446744073709551615 ≡ 49 ∷ 56 ∷ 52 ∷ 52 ∷ 54 ∷ 55 ∷ 52 ∷ 52 ∷ 48 ∷ 55 ∷ 51 ∷ 55 ∷ 48 ∷ 57 ∷ 53 ∷ 53 ∷ 49 ∷ 54 ∷ 49 ∷ 53 ∷ []
unfolding decimal decimal_in digit_of
largest_vector = refl
