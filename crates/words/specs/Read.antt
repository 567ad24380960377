-- A number read from bytes: what it is, and that it is small enough for its width, so that sums of such numbers never wrap.
-- Assumes nothing: these are definitions.
use Rattle.std.specs.Prelude.{◌≡◌, ℕ, ◌<◌}

-- of two bytes
pub record Word (value r : ℕ) : Type 0 where
  pub is : r ≡ value
  pub small : r < 65536

-- of one byte
pub record Byte (value r : ℕ) : Type 0 where
  pub is : r ≡ value
  pub small : r < 256

-- the sum of two numbers of two bytes
pub record WordSum (value r : ℕ) : Type 0 where
  pub is : r ≡ value
  pub small : r < 131072
