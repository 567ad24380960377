-- A delivery puts the message's first bytes, as many as there is room for, at the start of the receive's area and nothing
-- elsewhere: it keeps the length of the inboxes, and deliveries to areas that share no byte may be exchanged.
--   copied_in_area, copied_in_message    a match copies at most the capacity, and at most the message
--   copied_length       as many bytes as it says
--   delivered_length    a delivery keeps the length
--   delivered_at        each byte after a delivery
--   delivered_swap      two deliveries commute
--   delivery_laws              all that the proofs about steps use of bytes and areas
-- Assumes nothing.
use Rattle.std.specs.Prelude.{◌≡◌, Bool, List, ℕ, ◌+◌, ◌-◌, ◌≤◌, length, get_or, take, drop}
use Rattle.std.proofs.Math.Path.{refl, ap}
use Rattle.std.proofs.Common.{sym, ◌∙◌, inl, inr, arith, length-take, length-drop}
use Rattle.std.proofs.Math.Bool.{true, false, cond}
use Rattle.std.proofs.Math.Seq.{get_or-take, get_or-drop}
use Rattle.rules.specs.Sheet.{Sheet, op, rank_of, inbox_total, is_send, is_receive}
use Rattle.rules.specs.Refusal.{share}
use Rattle.rules.specs.Step.{area_start, copied, delivered}
use Rattle.invariant.specs.sheet.Valid.{Valid}
use Rattle.laws.specs.Splice.{splice_length}
use Rattle.laws.specs.SpliceOrder.{within, within_low, within_high, splice_at, splice_swap}
use Rattle.invariant.specs.sheet.Extents.{send_extent, area_inside, areas_disjoint}
use Rattle.invariant.specs.sheet.Areas.{held_apart}
use Rattle.invariant.specs.deliveries.Laws.{DeliveryLaws, AreasApart}

-- the bytes that a match copies
abbrev pub copied_bytes : Sheet → (m r : ℕ) → List ℕ
copied_bytes s m r = take (copied s m r) (drop (op s m).offset s.payload)

pub copied_in_area : (s : Sheet) (m r : ℕ) → copied s m r ≤ (op s r).long
unfolding copied
copied_in_area s m r = omega arith

pub copied_in_message : (s : Sheet) (m r : ℕ) → copied s m r ≤ (op s m).long
unfolding copied
copied_in_message s m r = omega arith

pub copied_short : (s : Sheet) (m r : ℕ) → length (copied_bytes s m r) ≤ (op s r).long
copied_short s m r = omega (arith, length-take (copied s m r) (drop (op s m).offset s.payload), copied_in_area s m r)

pub copied_length : (s : Sheet) → Valid s → (m r : ℕ) → is_send (op s m) ≡ true → length (copied_bytes s m r) ≡ copied s m r
copied_length s g m r h =
    omega (
      arith,
      length-take (copied s m r) (drop (op s m).offset s.payload),
      length-drop (op s m).offset
          s.payload,
      copied_in_message s m r,
      send_extent s g m h,
    )

module _ (s : Sheet) (g : Valid s) (m r : ℕ) (receives : is_receive (op s r) ≡ true) (bs : List ℕ)
    (room : inbox_total s ≤ length bs) where
  delivered_room : area_start s r + length (copied_bytes s m r) ≤ length bs
  delivered_room = omega (arith, area_inside s g r receives, copied_short s m r)

  -- a delivery keeps the length of the inboxes
  pub delivered_length : length (delivered s m r bs) ≡ length bs
  unfolding delivered
  delivered_length = splice_length bs (area_start s r) (copied_bytes s m r) delivered_room

  -- each byte after a delivery
  pub delivered_at : is_send (op s m) ≡ true → (i : ℕ) →
      get_or (delivered s m r bs) i 0 ≡ cond (within (area_start s r) (copied s m r) i)
      (get_or s.payload ((op s m).offset + (i - area_start s r)) 0) (get_or bs i 0)
  unfolding delivered
  delivered_at sends i =
      splice_at bs (area_start s r) (copied_bytes s m r) (omega (arith, delivered_room)) i
      ∙ ap (λ (n : ℕ). cond (within (area_start s r) n i) (get_or (copied_bytes s m r) (i - area_start s r) 0) (get_or bs i 0))
      (copied_length s g m r sends)
      ∙ go (within (area_start s r) (copied s m r) i) refl
    where
      go : (b : Bool) → within (area_start s r) (copied s m r) i ≡ b →
          cond b (get_or (copied_bytes s m r) (i - area_start s r) 0) (get_or bs i 0) ≡ cond b
          (get_or s.payload ((op s m).offset + (i - area_start s r)) 0) (get_or bs i 0)
      go true e =
          let high = within_high (area_start s r) (copied s m r) i e in
          let low = within_low (area_start s r) (copied s m r) i e in
          get_or-take (copied s m r) (drop (op s m).offset s.payload) (i - area_start s r) 0 (omega arith)
          ∙ get_or-drop (op s m).offset s.payload (i - area_start s r) 0
      go false e = refl

-- deliveries to areas that share no byte commute
pub delivered_swap : (s : Sheet) → Valid s → (m r k q : ℕ) (bs : List ℕ) → is_receive (op s r) ≡ true →
    is_receive (op s q) ≡ true →
    (rank_of s r ≡ rank_of s q → share (op s r) (op s q) ≡ false) → inbox_total s ≤ length bs →
    delivered s m r (delivered s k q bs) ≡ delivered s k q (delivered s m r bs)
unfolding delivered
delivered_swap s g m r k q bs receives receives_too apart room =
    sym
    (splice_swap bs (area_start s r) (copied_bytes s m r) (area_start s q) (copied_bytes s k q)
    (delivered_room s g m r receives bs room) (delivered_room s g k q receives_too bs room)
    (λ i a b c d. areas_disjoint s g r q receives receives_too apart i a (omega (arith, copied_short s m r)) c
    (omega (arith, copied_short s k q))))

-- GROUND
pub delivery_laws : (s : Sheet) → Valid s → DeliveryLaws s
delivery_laws s g =
    record {
      held_apart =
          λ r q l inside same receives receives_later taken never. held_apart s g r q l inside same taken never receives
          receives_later;
      delivered_swap =
          λ m r k q bs a b apart room. delivered_swap s g m r k q bs a.receives b.receives
          (one_board r q apart) room;
      delivered_length = λ m r bs a room. delivered_length s g m r a.receives bs room;
    }
  where
    one_board : (r q : ℕ) → AreasApart s r q → rank_of s r ≡ rank_of s q → share (op s r) (op s q) ≡ false
    one_board r q (inl d) e = absurd (d e)
    one_board r q (inr h) e = h
