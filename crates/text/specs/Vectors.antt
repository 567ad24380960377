-- A line that was written by hand, computed: a digit on each side of ten. Numbers are in proofs/Vectors. Assumes nothing.
use Rattle.std.specs.Prelude.{◌≡◌, refl, [], ◌∷◌}
use Rattle.text.specs.Text.{digit_of, pair, line, hex_line}

-- 00 9A FF
pub hex_vector : hex_line (0 ∷ 154 ∷ 255 ∷ []) ≡ 48 ∷ 48 ∷ 32 ∷ 57 ∷ 65 ∷ 32 ∷ 70 ∷ 70 ∷ 10 ∷ []
unfolding line pair digit_of
hex_vector = refl
