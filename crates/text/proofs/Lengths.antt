-- How long a text is: at most 21 places a number, its character behind it included. Assumes nothing.
use Rattle.std.specs.Prelude.{Bool, true, false, cond, List, [], ◌∷◌, ◌++◌, ℕ, zero, suc, ◌*◌, ◌/◌, ◌%◌, ◌≤◌, ltb, length}
use Rattle.std.proofs.Common.{arith, length-append}
use Rattle.text.specs.Text.{digit_of, decimal_in, decimal, most_digits, number, line, numbers_line}
use Rattle.text.specs.Lines.{spaced}
use Rattle.text.specs.Lengths.{most_places}

digits_most : (k n : ℕ) → length (decimal_in k n) ≤ k
unfolding decimal_in
digits_most zero n = omega arith
digits_most (suc k) n = go (ltb n 10) (digits_most k (n / 10))
  where
    go : (t : Bool) → length (decimal_in k (n / 10)) ≤ k → length (cond t (digit_of n ∷ []) (decimal_in k (n / 10) ++ (digit_of (n % 10) ∷ []))) ≤ suc k
    go true h = omega arith
    go false h = omega (arith, h, length-append (decimal_in k (n / 10)) (digit_of (n % 10) ∷ []))

pub number_most : (n e : ℕ) → length (number n e) ≤ most_places
unfolding number decimal
number_most n e = omega (arith, digits_most most_digits n, length-append (decimal n) (e ∷ []))

pub spaced_most : (ns : List ℕ) → length (spaced number ns) ≤ most_places * length ns
unfolding spaced
spaced_most [] = omega arith
spaced_most (n ∷ ns) = omega (arith, spaced_most ns, number_most n 32, length-append (number n 32) (spaced number ns))

pub numbers_line_most : (ns : List ℕ) → length (numbers_line ns) ≤ most_places * length ns
unfolding line
numbers_line_most [] = omega arith
numbers_line_most (n ∷ []) = number_most n 10
numbers_line_most (n ∷ m ∷ ns) =
    omega (arith, numbers_line_most (m ∷ ns), number_most n 32, length-append (number n 32) (numbers_line (m ∷ ns)))
