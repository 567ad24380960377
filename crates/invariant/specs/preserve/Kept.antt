-- Whether an unmatched send is kept in a store, by its kind and by what is in use.
--   keeps_kept         what the rule gives is what the invariant allows, and where rooms are 0 or cover all the sheet alone decides
--   is_kept_receive    a receive is not
-- Assumes nothing.
use Rattle.std.specs.Prelude.{◌≡◌, ◌⊎◌, true, false, ◌&&◌, ◌||◌, List, ℕ, ◌<◌, ltb}
use Rattle.std.proofs.Common.{sym, subst, inl, inr, arith, lt-ltb}
use Rattle.rules.specs.Sheet.{Sheet, op, board, rank_of, is_standard, is_buffered, is_receive}
use Rattle.rules.specs.Job.{Job, in_room}
use Rattle.rules.specs.Step.{next_op, kept_in, fits_beside, fits_room}
use Rattle.laws.specs.Calm.{RoomCovered, rooms_each}
use Rattle.laws.specs.Tests.{and_both, and_left, or_left, or_right, or_cases, not_so, true_not_false}
use Rattle.invariant.specs.sheet.Valid.{Valid}
use Rattle.invariant.specs.sheet.Kinds.{receive_not_buffered, receive_not_standard}
use Rattle.invariant.specs.Invariant.{state_at, is_kept, Keeps, Reached}
use Rattle.invariant.specs.step.Places.{Next}
use Rattle.invariant.specs.step.CasesHold.{fits_room_standard, fits_room_some}
use Rattle.invariant.specs.preserve.Covered.{fits_covered}

pub keeps_kept : {s : Sheet} (g : Valid s) {lent : List ℕ} {x : Job} (R : Reached s lent x) (r : ℕ) → Next s x r →
    state_at x (next_op s x r) ≡ 0 → Keeps s (next_op s x r) (is_kept s r (next_op s x r) x)
unfolding is_kept kept_in fits_room
keeps_kept {s} g {lent} {x} R r n fresh =
    record {
      buffered = or_left (is_buffered (op s i)) (fits_room s r i x);
      covered =
          λ c d l. or_right (is_buffered (op s i)) (fits_room s r i x)
          (fits d (subst (λ (q : ℕ). 0 < (board s q).room) n.ranked l) (rooms_each s c r n.rank_small));
      only = λ h. by (or_cases (is_buffered (op s i)) (fits_room s r i x) h);
    }
  where
    i : ℕ
    i = next_op s x r

    fits : is_standard (op s i) ≡ true → 0 < (board s r).room → RoomCovered (board s r) s.ops →
        is_standard (op s i) && (ltb 0 (board s r).room && fits_beside in_room s r i x) ≡ true
    fits d l (inl none_there) = absurd (omega arith)
    fits d l (inr covers) = and_both d (and_both (lt-ltb 0 (board s r).room l) (fits_covered in_room g R r n fresh d covers))

    by : (is_buffered (op s i) ≡ true) ⊎ (fits_room s r i x ≡ true) →
        (is_buffered (op s i) ≡ true) ⊎ ((is_standard (op s i) ≡ true) × (0 < (board s (rank_of s i)).room))
    by (inl e) = inl e
    by (inr e) =
        inr (fits_room_standard s r i x e, subst (λ (q : ℕ). 0 < (board s q).room) (sym n.ranked) (fits_room_some s r i x e))

pub is_kept_receive : (s : Sheet) (r i : ℕ) (x : Job) → is_receive (op s i) ≡ true → is_kept s r i x ≡ false
unfolding is_kept fits_room
is_kept_receive s r i x e = not_so (is_buffered (op s i) || fits_room s r i x) (λ h. by (or_cases (is_buffered (op s i)) (fits_room s r i x) h))
  where
    by : (is_buffered (op s i) ≡ true) ⊎ (fits_room s r i x ≡ true) → ⊥
    by (inl h) = true_not_false h (receive_not_buffered (op s i) e)
    by (inr h) =
        true_not_false
        (and_left (is_standard (op s i)) (ltb 0 (board s r).room && fits_beside in_room s r i x) h)
        (receive_not_standard (op s i) e)
