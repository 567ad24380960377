-- What the engine's searches find in a job that an order leads to, as places in the list of pending messages.
-- What the search and its loop show of them is proved in proofs/Jobs. Assumes nothing.
--   place_by         the place of the first that passes a test, or the length of the list
--   sum_places       the places that n receives find in a list, one after another, added up
--   places_in_job    the same of the messages that are pending after an order
--   searched_places  the same for every input: 0 where the sheet is refused, scratch is short or there are no such operations
use Rattle.std.specs.Prelude.{Bool, ◌&&◌, cond, List, [], ◌∷◌, eqb, leb, replicate}
use Prim.Native.Nat.{ℕ, zero, suc, ◌+◌}
use Rattle.rules.specs.Limits.{scratch_size}
use Rattle.rules.specs.Sheet.{Sheet, sheet_in, N_of, inbox_total}
use Rattle.rules.specs.Step.{fits_with}
use Rattle.rules.specs.Order.{follow}
use Rattle.rules.specs.Refusal.{sheet_refusal}

unfoldable pub place_by : (ℕ → Bool) → List ℕ → ℕ
place_by f [] = 0
place_by f (x ∷ xs) = cond (f x) 0 (suc (place_by f xs))

unfoldable pub sum_places : Sheet → (messages : List ℕ) → (i n : ℕ) → ℕ
sum_places s ms i zero = 0
sum_places s ms i (suc n) = place_by (λ m. fits_with s m i) ms + sum_places s ms (suc i) n

-- no step reads an inbox: any will do
unfoldable pub places_in_job : (bs order : List ℕ) (i n : ℕ) → ℕ
places_in_job bs order i n =
    sum_places (sheet_in bs) (follow (sheet_in bs) order (replicate (inbox_total (sheet_in bs)) 0)).left.messages i n

abbrev pub askable : (bs : List ℕ) (room i n : ℕ) → Bool
askable bs room i n = eqb (sheet_refusal bs).number 0 && (leb scratch_size room && leb (i + n) (N_of (sheet_in bs)))

unfoldable pub searched_places : (bs order : List ℕ) (room i n : ℕ) → ℕ
searched_places bs order room i n = cond (askable bs room i n) (places_in_job bs order i n) 0
