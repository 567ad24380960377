-- A send that no posted receive fits, by its mode (document 01, "How a board steps"; standard: document 02, K6): the definitions by the
-- tests that the code makes. Assumes nothing.
use Rattle.std.specs.Prelude.{◌≡◌, true, false, ◌&&◌, cond, ℕ, suc, ◌<◌, ltb}
use Rattle.std.proofs.Math.Path.{refl}
use Rattle.std.proofs.Common.{sym, subst}
use Rattle.std.proofs.Math.Bool.{Bool}
use Rattle.rules.specs.Sheet.{Sheet, op, board, is_ready, is_buffered, is_standard}
use Rattle.rules.specs.Job.{Job, Store, in_attached, in_room, job, account, place_at, with_places, with_messages, with_entries}
use Rattle.rules.specs.Step.{charge_of, charged, charge, with_place, with_state, pend_message, stopped, initiated, fits_beside, fits_buffer}
use Rattle.rules.specs.Step.{fits_room, kept, not_kept, unmatched}
use Rattle.laws.specs.Stores.{finished_stays}
use Rattle.state.specs.Changes.{CanFinish, charged_in}
use Rattle.steps.specs.Parts.{place_put_finished}

-- the definition's parts for a buffered send, and for one that is neither ready nor buffered
unfoldable pub buffered_or_stopped : Sheet → (r i : ℕ) → Job → Job
buffered_or_stopped s r i x = cond (fits_buffer s r i x) (kept in_attached s r i x) (stopped 3 r i x)

unfoldable pub roomed_or_pending : Sheet → (r i : ℕ) → Job → Job
roomed_or_pending s r i x = cond (fits_room s r i x) (kept in_room s r i x) (not_kept s r i x)

-- a standard send of a board that has a room
unfoldable pub has_room : Sheet → (r i : ℕ) → Bool
has_room s r i = is_standard (op s i) && ltb 0 (board s r).room

module _ (s : Sheet) (r i : ℕ) (x : Job) where
  -- the code charges first: a charge and an entry in the waiting list commute
  pub kept_charged : (w : Store) → initiated s r i (pend_message i 2 (charge w s r i x)) ≡ kept w s r i x
  unfolding kept charge pend_message with_place with_places with_messages with_state with_entries job place_at
  kept_charged w = refl

  -- BUFFERED
  pub buffered_fits : fits_beside in_attached s r i x ≡ true → kept in_attached s r i x ≡ buffered_or_stopped s r i x
  unfolding buffered_or_stopped fits_buffer
  buffered_fits h = rw h

  pub buffered_overflows : fits_beside in_attached s r i x ≡ false → stopped 3 r i x ≡ buffered_or_stopped s r i x
  unfolding buffered_or_stopped fits_buffer
  buffered_overflows h = rw h

  -- STANDARD AND SYNCHRONOUS: whether there is a room decides first
  room_first : fits_room s r i x ≡ has_room s r i && fits_beside in_room s r i x
  unfolding fits_room has_room
  room_first = go (is_standard (op s i))
    where
      fits : Bool
      fits = fits_beside in_room s r i x

      go : (b : Bool) → (b && (ltb 0 (board s r).room && fits)) ≡ ((b && ltb 0 (board s r).room) && fits)
      go true = refl
      go false = refl

  pub roomed_fits : has_room s r i ≡ true → fits_beside in_room s r i x ≡ true → kept in_room s r i x ≡ roomed_or_pending s r i x
  unfolding roomed_or_pending
  roomed_fits h f = rw (room_first, h, f)

  pub roomed_full : has_room s r i ≡ true → fits_beside in_room s r i x ≡ false →
      initiated s r i (pend_message i 1 x) ≡ roomed_or_pending s r i x
  unfolding roomed_or_pending not_kept
  roomed_full h f = rw (room_first, h, f)

  pub roomed_not : has_room s r i ≡ false → initiated s r i (pend_message i 1 x) ≡ roomed_or_pending s r i x
  unfolding roomed_or_pending not_kept
  roomed_not h = rw (room_first, h)

  -- BY MODE
  pub unmatched_ready : is_ready (op s i) ≡ true → stopped 4 r i x ≡ unmatched s r i x
  unfolding unmatched
  unmatched_ready h = rw h

  pub unmatched_buffered : is_ready (op s i) ≡ false → is_buffered (op s i) ≡ true → buffered_or_stopped s r i x ≡ unmatched s r i x
  unfolding unmatched buffered_or_stopped
  unmatched_buffered h b = rw (h, b)

  pub unmatched_other : is_ready (op s i) ≡ false → is_buffered (op s i) ≡ false → roomed_or_pending s r i x ≡ unmatched s r i x
  unfolding unmatched roomed_or_pending
  unmatched_other h b = rw (h, b)

-- a charge changes no count of operations finished
pub charged_can_finish : (w : Store) (s : Sheet) (r i : ℕ) (x : Job) → CanFinish r s x → CanFinish r s (charge w s r i x)
unfolding charge
charged_can_finish w s r i x h =
    let p = place_at x r in
    let n = charge_of w (op s i) in
    record {
      there = h.there;
      room =
          subst (λ (m : ℕ). suc m < 65536)
          (sym (place_put_finished x r r (charged_in w n p) (finished_stays w (charged n (account w p)) p))) h.room;
    }
