-- What the proofs about steps use of bytes and areas, and no more: that receives whose requests are still held have disjoint
-- areas, and that deliveries to disjoint areas may be exchanged. Commute proves it of every valid sheet.
--   Pair             a message and a receive of the sheet
--   AreasApart      two receives whose areas share no byte
--   DeliveryLaws    the laws
-- Assumes nothing: these are statements.
use Rattle.std.specs.Prelude.{◌≡◌, ◌⊎◌, ◌≢◌, true, false, List, ℕ, ◌≤◌, ◌<◌, length}
use Rattle.std.proofs.Math.Option.{some}
use Rattle.rules.specs.Sheet.{Sheet, op, N_of, rank_of, inbox_total, is_send, is_receive, takes_slot, frees_slot}
use Rattle.rules.specs.Refusal.{share}
use Rattle.rules.specs.Step.{waited, delivered}

-- a message and a receive of the sheet
pub record Pair (s : Sheet) (m r : ℕ) : Type 0 where
  pub message_inside : m < N_of s
  pub receive_inside : r < N_of s
  pub sends : is_send (op s m) ≡ true
  pub receives : is_receive (op s r) ≡ true

-- two receives whose areas share no byte: of different boards, or by the area rule
abbrev pub AreasApart : Sheet → (r q : ℕ) → Type 0
AreasApart s r q = (rank_of s r ≢ rank_of s q) ⊎ (share (op s r) (op s q) ≡ false)

-- what holds of the deliveries of a sheet
pub record DeliveryLaws (s : Sheet) : Type 0 where
  -- a receive r that takes a slot, and for which nothing up to q that frees a slot waits, still holds it at q, so q's area is
  -- another
  pub held_apart : (r q : ℕ) → r < q → q < N_of s → rank_of s r ≡ rank_of s q → is_receive (op s r) ≡ true →
      is_receive (op s q) ≡ true →
      takes_slot (op s r) ≡ true →
      ((w : ℕ) → r < w → w < q → rank_of s w ≡ rank_of s r → frees_slot (op s w) ≡ true → waited s w ≡ some r → ⊥) →
      share (op s r) (op s q) ≡ false
  -- deliveries to areas that share no byte may be exchanged
  pub delivered_swap : (m r k q : ℕ) (bs : List ℕ) → Pair s m r → Pair s k q → AreasApart s r q → inbox_total s ≤ length bs →
      delivered s m r (delivered s k q bs) ≡ delivered s k q (delivered s m r bs)
  -- a delivery keeps the length of the inboxes
  pub delivered_length : (m r : ℕ) (bs : List ℕ) → Pair s m r → inbox_total s ≤ length bs →
      length (delivered s m r bs) ≡ length bs
