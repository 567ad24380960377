-- Where a board stands in its script, as one number: two for each operation finished, one more in a waiting half.
--   position             the number
--   position_finished    equal positions: as many operations finished
--   position_waiting     and in the same half
-- Assumes nothing.
use Rattle.std.specs.Prelude.{◌≡◌, refl, Bool, true, false, cond, ℕ, ◌+◌, ◌*◌}
use Rattle.std.proofs.Common.{arith}
use Rattle.rules.specs.Job.{Job, place_at}

-- a board goes from operation to operation, by way of a waiting half
unfoldable pub position : Job → (r : ℕ) → ℕ
position x r = 2 * (place_at x r).finished + cond (place_at x r).waiting 1 0

pub position_finished : (x y : Job) (r : ℕ) → position x r ≡ position y r → (place_at x r).finished ≡ (place_at y r).finished
unfolding position
position_finished x y r = go (place_at x r).waiting (place_at y r).waiting
  where
    go : (a b : Bool) → 2 * (place_at x r).finished + cond a 1 0 ≡ 2 * (place_at y r).finished + cond b 1 0 →
        (place_at x r).finished ≡ (place_at y r).finished
    go true true e = omega arith
    go true false e = omega arith
    go false true e = omega arith
    go false false e = omega arith

pub position_waiting : (x y : Job) (r : ℕ) → position x r ≡ position y r → (place_at x r).waiting ≡ (place_at y r).waiting
unfolding position
position_waiting x y r = go (place_at x r).waiting (place_at y r).waiting
  where
    go : (a b : Bool) → 2 * (place_at x r).finished + cond a 1 0 ≡ 2 * (place_at y r).finished + cond b 1 0 → a ≡ b
    go true true e = refl
    go true false e = absurd (omega arith)
    go false true e = absurd (omega arith)
    go false false e = refl
