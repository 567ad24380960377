-- The tables of ranks and of who holds the slot that an operation names, which are filled once, before the start: what they
-- hold; in proofs/Indexed one entry more, and that a splice below them leaves them. Assumes nothing.
use Rattle.std.specs.Prelude.{◌≡◌, true, List, ℕ, ◌<◌, get_or}
use Rattle.std.proofs.Math.Option.{some}
use Rattle.rules.specs.Sheet.{Sheet, op, N_of, rank_of, names_slot, two}
use Rattle.rules.specs.Step.{waited}
use Rattle.state.specs.Layout.{rank_at, waits_at, word_at}

-- the first n entries of each table are the sheet's
abbrev pub Ranked : Sheet → List ℕ → (n : ℕ) → Type 0
Ranked s c n = (i : ℕ) → i < n → get_or c (rank_at i) 0 ≡ rank_of s i

abbrev pub Awaited : Sheet → List ℕ → (n : ℕ) → Type 0
Awaited s c n = (i : ℕ) → i < n → names_slot (op s i) ≡ true → waited s i ≡ some (two c (word_at waits_at i))

pub record Indexed (s : Sheet) (c : List ℕ) : Type 0 where
  pub rank_is : Ranked s c (N_of s)
  pub wait_is : Awaited s c (N_of s)
