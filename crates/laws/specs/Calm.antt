-- Calm sheets (document 01, "What is pinned down"), operation by operation and board by board; and the charges of a script, one
-- operation more at a time.
--   calm_op, calm_covered, calm_rooms, rooms_each   what calm says of an operation and of a board
--   calm_each, rooms_all         and back: where all of them are so, the sheet is calm
--   charges_none, charges_more   the charges of the first k operations from one on
-- Assumes nothing.
use Rattle.std.specs.Prelude.{◌≡◌, refl, Bool, true, false, ◌&&◌, not, cond, List, [], ◌∷◌, ◌++◌, ℕ, zero, suc, ◌+◌, ◌≤◌, ◌<◌, ◌⊎◌, eqb, length, get_or, take, drop}
use Rattle.std.proofs.Common.{ap, ◌∙◌, arith, inl, inr, length-drop, take-suc, get_or-drop, leb-true, le-leb, eqb-true, eq-eqb}
use Rattle.std.proofs.lemmas.Bool.{not-true}
use Rattle.rules.specs.Sheet.{Sheet, Op, Board, op, board, no_op, no_board, P_of, N_of, is_ready, tells_completion}
use Rattle.rules.specs.Job.{Store, in_attached, in_room}
use Rattle.rules.specs.Step.{kept_in, size_of, charge_of}
use Rattle.rules.specs.Claims.{calm, none_wild, is_any_source, all_charges, script, covers, none_or_covers, every_board, all_covered, rooms_cover}
use Rattle.laws.specs.Tests.{and_left, and_right, and_both, or_left, or_right, or_cases}

-- neither a receive or probe from any source (MPI: a wildcard), nor a ready send, nor a query
abbrev pub NotWild : Op → Type 0
NotWild o = (is_any_source o ≡ false) × (is_ready o ≡ false) × (tells_completion o ≡ false)

abbrev tame : Op → Bool
tame o = not (is_any_source o) && (not (is_ready o) && not (tells_completion o))

tame_not_wild : (o : Op) → tame o ≡ true → NotWild o
tame_not_wild o h =
    let rest = not (is_ready o) && not (tells_completion o) in
    let others = and_right (not (is_any_source o)) rest h in (
      not-true (is_any_source o) (and_left (not (is_any_source o)) rest h),
      not-true (is_ready o) (and_left (not (is_ready o)) (not (tells_completion o)) others),
      not-true (tells_completion o) (and_right (not (is_ready o)) (not (tells_completion o)) others),
    )

not_wild_tame : (o : Op) → NotWild o → tame o ≡ true
not_wild_tame o h = and_both (ap not h.0) (and_both (ap not h.1) (ap not h.2))

-- a board whose store covers the charges of all sends that are kept there; a board without a room, or whose room does so
abbrev pub Covered : Store → Board → List Op → Type 0
Covered w b os = all_charges w (script b os) ≤ size_of w b

abbrev pub RoomCovered : Board → List Op → Type 0
RoomCovered b os = (b.room ≡ 0) ⊎ Covered in_room b os

wild_none : (os : List Op) → none_wild os ≡ true → (k : ℕ) → k < length os → NotWild (get_or os k no_op)
unfolding none_wild
wild_none [] h k l = absurd (omega arith)
wild_none (o ∷ os) h zero l = tame_not_wild o (and_left (tame o) (none_wild os) h)
wild_none (o ∷ os) h (suc k) l = wild_none os (and_right (tame o) (none_wild os) h) k (omega arith)

not_wild_all : (os : List Op) → ((k : ℕ) → k < length os → NotWild (get_or os k no_op)) → none_wild os ≡ true
unfolding none_wild
not_wild_all [] h = refl
not_wild_all (o ∷ os) h =
    and_both (not_wild_tame o (h 0 (omega arith))) (not_wild_all os (λ k l. h (suc k) (omega arith)))

board_each : (f : Board → Bool) (bs : List Board) → every_board f bs ≡ true → (r : ℕ) → r < length bs → f (get_or bs r no_board) ≡ true
unfolding every_board
board_each f [] h r l = absurd (omega arith)
board_each f (b ∷ bs) h zero l = and_left (f b) (every_board f bs) h
board_each f (b ∷ bs) h (suc r) l = board_each f bs (and_right (f b) (every_board f bs) h) r (omega arith)

board_all : (f : Board → Bool) (bs : List Board) → ((r : ℕ) → r < length bs → f (get_or bs r no_board) ≡ true) → every_board f bs ≡ true
unfolding every_board
board_all f [] h = refl
board_all f (b ∷ bs) h = and_both (h 0 (omega arith)) (board_all f bs (λ r l. h (suc r) (omega arith)))

-- the tests of a board, and what they say
pub covers_covered : (w : Store) (os : List Op) (b : Board) → covers w os b ≡ true → Covered w b os
unfolding covers
covers_covered w os b h = leb-true (all_charges w (script b os)) (size_of w b) h

pub covered_covers : (w : Store) (os : List Op) (b : Board) → Covered w b os → covers w os b ≡ true
unfolding covers
covered_covers w os b h = le-leb (all_charges w (script b os)) (size_of w b) h

pub room_covered : (os : List Op) (b : Board) → none_or_covers os b ≡ true → RoomCovered b os
unfolding none_or_covers
room_covered os b h = go (or_cases (eqb b.room 0) (covers in_room os b) h)
  where
    go : (eqb b.room 0 ≡ true) ⊎ (covers in_room os b ≡ true) → RoomCovered b os
    go (inl e) = inl (eqb-true b.room 0 e)
    go (inr e) = inr (covers_covered in_room os b e)

pub covered_room : (os : List Op) (b : Board) → RoomCovered b os → none_or_covers os b ≡ true
unfolding none_or_covers
covered_room os b (inl e) = or_left (eqb b.room 0) (covers in_room os b) (eq-eqb b.room 0 e)
covered_room os b (inr h) = or_right (eqb b.room 0) (covers in_room os b) (covered_covers in_room os b h)

pub rooms_each : (s : Sheet) → rooms_cover s ≡ true → (r : ℕ) → r < P_of s → RoomCovered (board s r) s.ops
unfolding rooms_cover board P_of
rooms_each s h r l = room_covered s.ops (board s r) (board_each (none_or_covers s.ops) s.boards h r l)

pub rooms_all : (s : Sheet) → ((r : ℕ) → r < P_of s → RoomCovered (board s r) s.ops) → rooms_cover s ≡ true
unfolding rooms_cover board P_of
rooms_all s h = board_all (none_or_covers s.ops) s.boards (λ r l. covered_room s.ops (board s r) (h r l))

module _ (s : Sheet) (c : calm s ≡ true) where
  calm_boards : all_covered s && rooms_cover s ≡ true
  unfolding calm
  calm_boards = and_right (none_wild s.ops) (all_covered s && rooms_cover s) c

  pub calm_op : (k : ℕ) → k < N_of s → NotWild (op s k)
  unfolding calm op N_of
  calm_op k l = wild_none s.ops (and_left (none_wild s.ops) (all_covered s && rooms_cover s) c) k l

  pub calm_covered : (r : ℕ) → r < P_of s → Covered in_attached (board s r) s.ops
  unfolding all_covered board P_of
  calm_covered r l =
      covers_covered in_attached s.ops (board s r)
      (board_each (covers in_attached s.ops) s.boards (and_left (all_covered s) (rooms_cover s) calm_boards) r l)

  pub calm_rooms : rooms_cover s ≡ true
  calm_rooms = and_right (all_covered s) (rooms_cover s) calm_boards

pub calm_each : (s : Sheet) → ((k : ℕ) → k < N_of s → NotWild (op s k)) →
    ((r : ℕ) → r < P_of s → Covered in_attached (board s r) s.ops) →
    ((r : ℕ) → r < P_of s → RoomCovered (board s r) s.ops) → calm s ≡ true
unfolding calm op N_of board P_of all_covered
calm_each s t c d =
    and_both (not_wild_all s.ops t)
    (and_both (board_all (covers in_attached s.ops) s.boards (λ r l. covered_covers in_attached s.ops (board s r) (c r l)))
    (rooms_all s d))

-- CHARGES
charges_last : (w : Store) (a : List Op) (o : Op) →
    all_charges w (a ++ (o ∷ [])) ≡ all_charges w a + cond (kept_in w o) (charge_of w o) 0
unfolding all_charges
charges_last w [] o = omega arith
charges_last w (x ∷ xs) o = omega (arith, charges_last w xs o)

-- the charges of the first k operations from operation `from` on
abbrev pub charges_from : Store → Sheet → (from k : ℕ) → ℕ
charges_from w s from k = all_charges w (take k (drop from s.ops))

pub charges_none : (w : Store) (s : Sheet) (from : ℕ) → charges_from w s from 0 ≡ 0
unfolding all_charges
charges_none w s from = refl

-- one operation more
pub charges_more : (w : Store) (s : Sheet) (from k : ℕ) → from + k < N_of s
    → charges_from w s from (suc k) ≡ charges_from w s from k + cond (kept_in w (op s (from + k))) (charge_of w (op s (from + k))) 0
unfolding op N_of
charges_more w s from k l =
    ap (all_charges w) (take-suc rest k no_op (omega (arith, length-drop from s.ops)))
    ∙ (charges_last w (take k rest) (get_or rest k no_op)
    ∙ ap (λ (o : Op). all_charges w (take k rest) + charged o) (get_or-drop from s.ops k no_op))
  where
    rest : List Op
    rest = drop from s.ops

    charged : Op → ℕ
    charged o = cond (kept_in w o) (charge_of w o) 0
