-- Sums over the numbers below n.
--   sum_below n f      f 0 + .. + f (n - 1)
--   sum_same           equal terms give equal sums
--   sum_le, sum_most   smaller terms give a smaller sum; n terms of at most c come to at most c * n
--   sum_change         where f and g differ at one place only, so do their sums
--   sum_gap            where f is smaller by c at one place and nowhere larger, so is its sum
--   sum_rest, sum_zero   terms that are 0 add nothing
-- Assumes nothing.
use Rattle.std.specs.Prelude.{◌≡◌, refl, ◌≢◌, ℕ, zero, suc, ◌+◌, ◌*◌, ◌≤◌, ◌<◌}
use Rattle.std.proofs.Common.{ap, ◌∙◌, arith}
use Rattle.std.proofs.Math.Decide.{ℕ_discrete}

unfoldable pub sum_below : (n : ℕ) → (ℕ → ℕ) → ℕ
sum_below zero f = 0
sum_below (suc n) f = sum_below n f + f n

pub sum_same : (n : ℕ) (f g : ℕ → ℕ) → ((j : ℕ) → j < n → f j ≡ g j) → sum_below n f ≡ sum_below n g
unfolding sum_below
sum_same zero f g h = refl
sum_same (suc n) f g h = omega (arith, sum_same n f g (λ j l. h j (omega arith)), h n (omega arith))

pub sum_le : (n : ℕ) (f g : ℕ → ℕ) → ((j : ℕ) → j < n → f j ≤ g j) → sum_below n f ≤ sum_below n g
unfolding sum_below
sum_le zero f g h = omega arith
sum_le (suc n) f g h = omega (arith, sum_le n f g (λ j l. h j (omega arith)), h n (omega arith))

pub sum_most : (n c : ℕ) (f : ℕ → ℕ) → ((j : ℕ) → j < n → f j ≤ c) → sum_below n f ≤ c * n
unfolding sum_below
sum_most zero c f h = omega arith
sum_most (suc n) c f h = omega (arith, sum_most n c f (λ j l. h j (omega arith)), h n (omega arith))

-- f and g differ at i only: the sums differ by what the terms at i differ by
pub sum_change : (n i : ℕ) (f g : ℕ → ℕ) → i < n → ((j : ℕ) → j < n → j ≢ i → f j ≡ g j) →
    sum_below n f + g i ≡ sum_below n g + f i
unfolding sum_below
sum_change zero i f g l h = absurd (omega arith)
sum_change (suc n) i f g l h = go (ℕ_discrete n i) (λ k. sum_change n i f g k (λ j m. h j (omega arith)))
  where
    go : Dec (n ≡ i) → (i < n → sum_below n f + g i ≡ sum_below n g + f i) →
        sum_below n f + f n + g i ≡ sum_below n g + g n + f i
    go (yes e) before = omega (arith, sum_same n f g (λ j k. h j (omega arith) (omega arith)), ap f e, ap g e)
    go (no d) before = omega (arith, before (omega arith), h n (omega arith) d)

pub sum_gap : (n i c : ℕ) (f g : ℕ → ℕ) → i < n → ((j : ℕ) → j < n → f j ≤ g j) → f i + c ≤ g i →
    sum_below n f + c ≤ sum_below n g
unfolding sum_below
sum_gap zero i c f g l h e = absurd (omega arith)
sum_gap (suc n) i c f g l h e = go (ℕ_discrete n i) (λ k. sum_gap n i c f g k (λ j m. h j (omega arith)) e)
  where
    go : Dec (n ≡ i) → (i < n → sum_below n f + c ≤ sum_below n g) → sum_below n f + f n + c ≤ sum_below n g + g n
    go (yes q) before = omega (arith, sum_le n f g (λ j k. h j (omega arith)), ap f q, ap g q)
    go (no d) before = omega (arith, before (omega arith), h n (omega arith))

pub sum_more : (n : ℕ) (f : ℕ → ℕ) → sum_below (suc n) f ≡ sum_below n f + f n
unfolding sum_below
sum_more n f = refl

sum_last : (n : ℕ) (f : ℕ → ℕ) → f n ≡ 0 → sum_below (suc n) f ≡ sum_below n f
sum_last n f e = omega (arith, sum_more n f)

pub sum_rest : (n k : ℕ) (f : ℕ → ℕ) → ((j : ℕ) → n ≤ j → j < n + k → f j ≡ 0) → sum_below (n + k) f ≡ sum_below n f
sum_rest n zero f h = ap (λ (z : ℕ). sum_below z f) (omega arith)
sum_rest n (suc k) f h = ap (λ (z : ℕ). sum_below z f) next ∙ more ∙ sum_rest n k f (λ j a b. h j a (omega arith))
  where
    next : n + suc k ≡ suc (n + k)
    next = omega arith

    more : sum_below (suc (n + k)) f ≡ sum_below (n + k) f
    more = sum_last (n + k) f (h (n + k) (omega arith) (omega arith))

pub sum_zero : (n : ℕ) (f : ℕ → ℕ) → ((j : ℕ) → j < n → f j ≡ 0) → sum_below n f ≡ 0
unfolding sum_below
sum_zero zero f h = refl
sum_zero (suc n) f h = omega (arith, sum_zero n f (λ j l. h j (omega arith)), h n (omega arith))
