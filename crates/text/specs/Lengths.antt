-- How long a text is: three places a byte in hex, and the longest text of a number. That a number's text is no longer is in
-- proofs/Lengths. Assumes nothing.
use Rattle.std.specs.Prelude.{◌≡◌, refl, List, [], ◌∷◌, ℕ, ◌+◌, ◌*◌, length}
use Rattle.std.proofs.Common.{arith}
use Rattle.text.specs.Text.{pair, most_digits, line, hex_line}

pub pair_length : (b e : ℕ) → length (pair b e) ≡ 3
unfolding pair
pair_length b e = refl

pub hex_line_length : (bs : List ℕ) → length (hex_line bs) ≡ 3 * length bs
unfolding pair line
hex_line_length [] = refl
hex_line_length (b ∷ []) = refl
hex_line_length (b ∷ c ∷ bs) = let e = hex_line_length (c ∷ bs) in omega (arith, e)

-- the longest text of a number: its digits and the character behind them
abbrev pub most_places : ℕ
most_places = most_digits + 1
