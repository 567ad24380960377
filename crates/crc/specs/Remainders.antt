-- The CRC's table of remainders: its rule, and the test by which a table is found to keep it. Assumes nothing.
use Rattle.std.specs.Prelude.{◌≡◌, Bool, true, List, ℕ, ◌*◌, ◌<◌, eqb, length, get_or}
use Rattle.std.proofs.Common.{eqb-true}
use Rattle.rules.specs.Crc.{shifts}
use Rattle.laws.specs.Table.{every, every_at}

-- entry k of a table is what eight shifts leave of the byte k at the high end
pub record Remainders (t : List ℕ) : Type 0 where
  pub at : (k : ℕ) → k < 256 → get_or t k 0 ≡ shifts 8 (256 * k)

-- the eight-shift rule, as a test of an entry
unfoldable pub eight_shifts : (k x : ℕ) → Bool
eight_shifts k x = eqb x (shifts 8 (256 * k))

-- a table of 256 entries that all pass the test keeps the rule
pub remainders_tested : (t : List ℕ) → length t ≡ 256 → every eight_shifts 0 t ≡ true → Remainders t
unfolding eight_shifts
remainders_tested t n e =
    record { at = λ k h. eqb-true (get_or t k 0) (shifts 8 (256 * k)) (every_at eight_shifts t e k (rw n h)) }
