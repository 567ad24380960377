-- A rule of a constant table, tested once over all of its entries and carried to each index. Assumes nothing.
use Rattle.std.specs.Prelude.{◌≡◌, Bool, true, ◌&&◌, List, [], ◌∷◌, ℕ, zero, suc, ◌+◌, ◌<◌, length, get_or}
use Rattle.std.proofs.Common.{subst, arith, zero-add}
use Rattle.laws.specs.Tests.{and_left, and_right}

-- a test passes at each entry of a list and its index, counted from i
unfoldable pub every : (ℕ → ℕ → Bool) → (i : ℕ) → List ℕ → Bool
every f i [] = true
every f i (x ∷ xs) = f i x && every f (suc i) xs

every_from : (f : ℕ → ℕ → Bool) (xs : List ℕ) (i : ℕ) → every f i xs ≡ true → (k : ℕ) → k < length xs → f (i + k) (get_or xs k 0) ≡ true
unfolding every
every_from f [] i t k h = absurd (omega arith)
every_from f (x ∷ xs) i t zero h =
    let e : i + 0 ≡ i = omega arith in
    rw e (and_left (f i x) (every f (suc i) xs) t)
every_from f (x ∷ xs) i t (suc k) h =
    let e : i + suc k ≡ suc i + k = omega arith in
    rw e (every_from f xs (suc i) (and_right (f i x) (every f (suc i) xs) t) k (omega arith))

pub every_at : (f : ℕ → ℕ → Bool) (xs : List ℕ) → every f 0 xs ≡ true → (k : ℕ) → k < length xs → f k (get_or xs k 0) ≡ true
every_at f xs t k h = subst (λ (n : ℕ). f n (get_or xs k 0) ≡ true) (zero-add k) (every_from f xs 0 t k h)
