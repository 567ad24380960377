-- Memory, byte by byte: what the deliveries in script order have replayed is what `expected_byte` tells.
--   deliveries_reached    the statement Deliveries, of one job that keeps the invariant
-- Assumes nothing.
use Rattle.std.specs.Prelude.{◌≡◌, Bool, ◌&&◌, List, length}
use Rattle.std.proofs.Math.Path.{refl, ap}
use Rattle.std.proofs.Common.{◌∙◌, arith}
use Rattle.std.proofs.Math.Bool.{true, false, cond}
use Prim.Native.Nat.{ℕ, zero, suc, ◌+◌, ◌-◌, ◌≤◌}
use Rattle.std.proofs.Math.Dec.{eqb}
use Rattle.std.proofs.Math.ListN.{get_or, drop}
use borrow.Author.Tests.{eqb-true}
use Rattle.rules.specs.Sheet.{Sheet, op, N_of, inbox_total, is_receive}
use Rattle.rules.specs.Job.{Job}
use Rattle.rules.specs.Step.{area_start, copied, delivered}
use Rattle.laws.specs.Tests.{and_left, and_right}
use Rattle.promises.specs.Statements.{told_by, covers, expected_byte, Delivered}
use Rattle.invariant.specs.sheet.Valid.{Valid}
use Rattle.invariant.specs.sheet.Extents.{area_inside}
use Rattle.laws.specs.Splice.{splice_drop}
use Rattle.laws.specs.SpliceOrder.{within}
use Rattle.invariant.specs.deliveries.Commute.{copied_bytes, copied_short, delivered_at, delivery_laws}
use Rattle.invariant.specs.Invariant.{state_at, partner_at, replay, replayed, Reached}
use Rattle.invariant.specs.preserve.Memory.{replayed_length}

module _ (s : Sheet) (g : Valid s) (lent : List ℕ) (x : Job) (R : Reached s lent x) (room : inbox_total s ≤ length lent) where
  -- the message's byte that receive j would have put at `at`
  abbrev message_byte : (j at : ℕ) → ℕ
  message_byte j at = get_or s.payload ((op s (partner_at x j)).offset + (at - area_start s j)) 0

  replay_is_byte_at : (j at : ℕ) (bs : List ℕ) → inbox_total s ≤ length bs →
      get_or (replay s x j bs) at 0 ≡ cond (covers s (told_by s x) j at) (message_byte j at) (get_or bs at 0)
  unfolding replay covers told_by
  replay_is_byte_at j at bs l = go (is_receive (op s j) && eqb (state_at x j) 3) refl
    where
      go : (b : Bool) → is_receive (op s j) && eqb (state_at x j) 3 ≡ b →
          get_or (cond b (delivered s (partner_at x j) j bs) bs) at 0 ≡
          cond (b && within (area_start s j) (copied s (partner_at x j) j) at) (message_byte j at) (get_or bs at 0)
      go true e =
          let receives = and_left (is_receive (op s j)) (eqb (state_at x j) 3) e in
          let matched = eqb-true (state_at x j) 3 (and_right (is_receive (op s j)) (eqb (state_at x j) 3) e) in
          delivered_at s g (partner_at x j) j receives bs l (R.stable.receive_pair j receives matched).sends at
      go false e = refl

  replayed_room : (n : ℕ) → inbox_total s ≤ length (replayed s x n lent)
  replayed_room n = omega (arith, replayed_length g (delivery_laws s g) R.stable R.placed R.shaped n lent room)

  replayed_is_byte_at : (n at : ℕ) → get_or (replayed s x n lent) at 0 ≡ expected_byte n s (told_by s x) lent at
  unfolding replayed expected_byte told_by
  replayed_is_byte_at zero at = refl
  replayed_is_byte_at (suc n) at =
      replay_is_byte_at n at (replayed s x n lent) (replayed_room n)
      ∙ ap (λ (z : ℕ). cond (covers s (told_by s x) n at) (message_byte n at) z) (replayed_is_byte_at n at)

  -- behind the sheet's total nothing is put: an area ends before it
  replay_beyond : (j : ℕ) (bs : List ℕ) → inbox_total s ≤ length bs → drop (inbox_total s) (replay s x j bs) ≡ drop (inbox_total s) bs
  unfolding replay delivered
  replay_beyond j bs l = go (is_receive (op s j) && eqb (state_at x j) 3) refl
    where
      go : (b : Bool) → is_receive (op s j) && eqb (state_at x j) 3 ≡ b →
          drop (inbox_total s) (cond b (delivered s (partner_at x j) j bs) bs) ≡ drop (inbox_total s) bs
      go true e =
          let receives = and_left (is_receive (op s j)) (eqb (state_at x j) 3) e in
          splice_drop bs (area_start s j) (copied_bytes s (partner_at x j) j) (inbox_total s)
          (omega (arith, area_inside s g j receives, copied_short s (partner_at x j) j)) l
      go false e = refl

  replayed_beyond : (n : ℕ) → drop (inbox_total s) (replayed s x n lent) ≡ drop (inbox_total s) lent
  unfolding replayed
  replayed_beyond zero = refl
  replayed_beyond (suc n) = replay_beyond n (replayed s x n lent) (replayed_room n) ∙ replayed_beyond n

  pub deliveries_reached : Delivered s (told_by s x) lent x.memory
  deliveries_reached =
      record {
        long = R.memory_long;
        bytes = λ at. ap (λ (bs : List ℕ). get_or bs at 0) R.memory_replayed ∙ replayed_is_byte_at (N_of s) at;
        beyond = ap (λ (bs : List ℕ). drop (inbox_total s) bs) R.memory_replayed ∙ replayed_beyond (N_of s);
      }
