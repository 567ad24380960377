-- The words in which the promises about orders are stated (document 01, "What is pinned down"): sheets that pass, calm
-- sheets, accepted orders, alike. Assumes nothing: these are definitions.
use Rattle.std.specs.Prelude.{◌≡◌, Bool, true, ◌&&◌, ◌||◌, not, cond, List, [], ◌∷◌, ℕ, zero, suc, ◌+◌, ◌≤◌, leb, eqb, length, set, take, drop}
use Rattle.rules.specs.Limits.{any, report_header_size, board_row_size}
use Rattle.rules.specs.Sheet.{Sheet, Op, Board, sheet_in, P_of, inbox_total, selects, tells_completion, is_ready}
use Rattle.rules.specs.Refusal.{sheet_refusal}
use Rattle.rules.specs.Job.{Job, Store, in_attached, in_room}
use Rattle.rules.specs.Step.{kept_in, size_of, charge_of, is_none}
use Rattle.rules.specs.Order.{follow}
use Rattle.rules.specs.Report.{report}

-- a sheet that check accepts. That its numbers are bytes is not asked: no promise needs it
unfoldable pub passes : List ℕ → Bool
passes bs = eqb (sheet_refusal bs).number 0

-- CALM: no receive and no probe from any source, no ready send and no query (document 02, K9); on each board the charges of all
-- its buffered sends, were none matched, add up to at most its attached size, and its room is 0 or covers the lengths of all its
-- standard sends (K6)
unfoldable pub is_any_source : Op → Bool
is_any_source o = selects o && eqb o.peer any

unfoldable pub none_wild : List Op → Bool
none_wild [] = true
none_wild (o ∷ os) = (not (is_any_source o) && (not (is_ready o) && not (tells_completion o))) && none_wild os

unfoldable pub all_charges : Store → List Op → ℕ
all_charges w [] = 0
all_charges w (o ∷ os) = cond (kept_in w o) (charge_of w o) 0 + all_charges w os

-- a board's script: its operations
unfoldable pub script : Board → List Op → List Op
script b os = take b.count (drop b.first os)

unfoldable pub covers : Store → List Op → Board → Bool
covers w os b = leb (all_charges w (script b os)) (size_of w b)

unfoldable pub none_or_covers : List Op → Board → Bool
none_or_covers os b = eqb b.room 0 || covers in_room os b

unfoldable pub every_board : (Board → Bool) → List Board → Bool
every_board f [] = true
every_board f (b ∷ bs) = f b && every_board f bs

unfoldable pub all_covered : Sheet → Bool
all_covered s = every_board (covers in_attached s.ops) s.boards

-- the condition on rooms: then whether a standard send is buffered does not depend on what is in use
unfoldable pub rooms_cover : Sheet → Bool
rooms_cover s = every_board (none_or_covers s.ops) s.boards

unfoldable pub calm : Sheet → Bool
calm s = none_wild s.ops && (all_covered s && rooms_cover s)

-- ORDERS: accepted by follow, and the job that they leave
unfoldable pub accepts : Sheet → (order inboxes : List ℕ) → Bool
accepts s rs i = is_none (follow s rs i).refused_at

unfoldable pub left_by : Sheet → (order inboxes : List ℕ) → Job
left_by s rs i = (follow s rs i).left

-- ALIKE: inboxes and the whole report end equal byte for byte, save the peak in each board row, bytes 4 and 5 of it, and in the
-- second edition the standard peak, bytes 10 and 11. Said of either edition's report, since the jobs do not know of editions
unfoldable pub two_zeroed : (at : ℕ) → List ℕ → List ℕ
two_zeroed at bs = set (set bs at 0) (at + 1) 0

unfoldable pub row_without_peaks : (second : Bool) → (at : ℕ) → List ℕ → List ℕ
row_without_peaks e at bs = cond e (two_zeroed (at + 10) (two_zeroed (at + 4) bs)) (two_zeroed (at + 4) bs)

unfoldable pub rows_without_peaks : (second : Bool) → (left at : ℕ) → List ℕ → List ℕ
rows_without_peaks e zero at bs = bs
rows_without_peaks e (suc k) at bs = rows_without_peaks e k (at + board_row_size e) (row_without_peaks e at bs)

unfoldable pub without_peaks : (second : Bool) → (p : ℕ) → (report : List ℕ) → List ℕ
without_peaks e p bs = rows_without_peaks e p report_header_size bs

unfoldable pub Alike : Sheet → (x y : Job) → Type 0
Alike s x y =
    (x.memory ≡ y.memory)
    × ((e : Bool) → without_peaks e (P_of s) (report e s x) ≡ without_peaks e (P_of s) (report e s y))

-- what demand 3 is given: bytes that pass, of a calm sheet, and inbox room enough (number 8 does not refuse)
pub record Given (bs i : List ℕ) : Type 0 where
  pub passing : passes bs ≡ true
  pub calm_sheet : calm (sheet_in bs) ≡ true
  pub room : inbox_total (sheet_in bs) ≤ length i
