-- Lines of text (document 01, "The desk and its three services"): bytes as hex pairs, numbers in decimal. Characters are in
-- ASCII. Assumes nothing: these are definitions.
use Rattle.std.specs.Prelude.{cond, List, [], ◌∷◌, ◌++◌, ℕ, zero, suc, ◌+◌, ◌/◌, ◌%◌, ltb}

-- an upper-case hex digit: 0 to 9 from 48 on, A to F from 65 on
unfoldable pub digit_of : ℕ → ℕ
digit_of d = cond (ltb d 10) (48 + d) (55 + d)

-- a byte's two digits, and the character behind them
unfoldable pub pair : (b behind : ℕ) → List ℕ
pair b e = digit_of (b / 16) ∷ digit_of (b % 16) ∷ e ∷ []

-- a number in decimal with no zero in front, of so many digits at the most: below ten its digit, else the digits of its tenth
-- part and its last digit
unfoldable pub decimal_in : (most n : ℕ) → List ℕ
decimal_in zero n = []
decimal_in (suc k) n = cond (ltb n 10) (digit_of n ∷ []) (decimal_in k (n / 10) ++ (digit_of (n % 10) ∷ []))

-- enough for every number of 64 bits
abbrev pub most_digits : ℕ
most_digits = 20

unfoldable pub decimal : ℕ → List ℕ
decimal n = decimal_in most_digits n

-- a number in decimal, and the character behind it
unfoldable pub number : (n behind : ℕ) → List ℕ
number n e = decimal n ++ (e ∷ [])

-- a line of items: one blank (32) between them, and a newline (10) behind the last
unfoldable pub line : (text : (item behind : ℕ) → List ℕ) → List ℕ → List ℕ
line text [] = []
line text (x ∷ []) = text x 10
line text (x ∷ y ∷ xs) = text x 32 ++ line text (y ∷ xs)

abbrev pub hex_line : List ℕ → List ℕ
hex_line bs = line pair bs

abbrev pub numbers_line : List ℕ → List ℕ
numbers_line ns = line number ns
