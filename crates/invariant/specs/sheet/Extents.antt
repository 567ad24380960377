-- Where the bytes of an operation lie: a message inside the payload, an area inside its board's inbox (rule 6). Areas of
-- different boards are disjoint, since inboxes lie one after another; areas of one board where they share no byte (rule 7).
--   send_inside, receive_inside     a send or a receive is an operation of the sheet
--   takes_inside                    so is what takes a slot
--   send_extent, receive_extent     offset plus length stays inside payload or inbox
--   send_tag                        a send names one tag
--   area_inside                     an area lies inside the inbox memory
--   areas_disjoint                  areas that share no byte, or of different boards
-- Assumes nothing.
use Rattle.std.specs.Prelude.{◌≡◌, refl, true, false, ℕ, ◌+◌, ◌≤◌, ◌<◌, length}
use Rattle.std.proofs.Common.{sym, ap, subst, ◌∙◌, arith, lt-ltb}
use Rattle.std.proofs.Math.Decide.{dec_lt, ℕ_discrete}
use Rattle.std.proofs.Math.ListN.{get_or-eq_default}
use Rattle.rules.specs.Limits.{tag_limit}
use Rattle.rules.specs.Sheet.{Sheet, Op, op, no_op, board, P_of, N_of, rank_of, inbox_start, inbox_total, is_send, is_receive, is_nonblocking, takes_slot}
use Rattle.rules.specs.Refusal.{op_good, room_for, share}
use Rattle.rules.specs.Step.{area_start}
use Rattle.laws.specs.Tests.{and_both, cond_true, cond_false, true_not_false}
use Rattle.laws.specs.Fields.{fields_end, fields_one_tag}
use Rattle.invariant.specs.sheet.Valid.{Valid}
use Rattle.invariant.specs.sheet.Kinds.{send_not_receive, send_not_names, send_not_selects, send_kind, receive_kind}
use Rattle.laws.specs.SpliceOrder.{Disjoint}

-- INSIDE THE SHEET: past the table stands an operation of kind 0, which is blocking
op_past : (s : Sheet) (j : ℕ) → N_of s ≤ j → op s j ≡ no_op
unfolding op N_of
op_past s j l = get_or-eq_default s.ops no_op l

kind_past : (s : Sheet) (j : ℕ) → N_of s ≤ j → (op s j).kind ≡ 0
unfolding no_op
kind_past s j l = ap (λ (o : Op). o.kind) (op_past s j l)

pub send_inside : (s : Sheet) (m : ℕ) → is_send (op s m) ≡ true → m < N_of s
send_inside s m h = go (dec_lt m (N_of s))
  where
    go : Dec (m < N_of s) → m < N_of s
    go (yes l) = l
    go (no d) = absurd (omega (arith, (send_kind (op s m) h).0, kind_past s m (omega arith)))

pub receive_inside : (s : Sheet) (r : ℕ) → is_receive (op s r) ≡ true → r < N_of s
receive_inside s r h = go (dec_lt r (N_of s))
  where
    go : Dec (r < N_of s) → r < N_of s
    go (yes l) = l
    go (no d) = absurd (omega (arith, receive_kind (op s r) h, kind_past s r (omega arith)))

pub takes_inside : (s : Sheet) (i : ℕ) → takes_slot (op s i) ≡ true → i < N_of s
unfolding takes_slot is_nonblocking no_op
takes_inside s i h = go (dec_lt i (N_of s))
  where
    go : Dec (i < N_of s) → i < N_of s
    go (yes l) = l
    go (no d) = true_not_false (sym (ap (λ (o : Op). takes_slot o) (op_past s i (omega arith))) ∙ h) refl

-- INSIDE ITS ROOM
op_extent : (s : Sheet) → Valid s → (i : ℕ) → i < N_of s → (op s i).offset + (op s i).long ≤ room_for s i
unfolding op_good
op_extent s g i l = fields_end (P_of s) s.comms (room_for s i) (op s i) (g.ops_good i l)

pub send_extent : (s : Sheet) → Valid s → (m : ℕ) → is_send (op s m) ≡ true → (op s m).offset + (op s m).long ≤ length s.payload
unfolding room_for
send_extent s g m h =
    subst (λ (k : ℕ). (op s m).offset + (op s m).long ≤ k)
    (cond_false (is_receive (op s m)) (board s (rank_of s m)).inbox (length s.payload) (send_not_receive (op s m) h))
    (op_extent s g m (send_inside s m h))

-- a send names one tag
pub send_tag : (s : Sheet) → Valid s → (m : ℕ) → is_send (op s m) ≡ true → (op s m).tag < tag_limit
unfolding op_good
send_tag s g m e =
    fields_one_tag (P_of s) s.comms (room_for s m) (op s m) (g.ops_good m (send_inside s m e)) (send_not_names (op s m) e)
    (send_not_selects (op s m) e)

pub receive_extent : (s : Sheet) → Valid s → (r : ℕ) → is_receive (op s r) ≡ true →
    (op s r).offset + (op s r).long ≤ (board s (rank_of s r)).inbox
unfolding room_for
receive_extent s g r h =
    subst (λ (k : ℕ). (op s r).offset + (op s r).long ≤ k)
    (cond_true (is_receive (op s r)) (board s (rank_of s r)).inbox (length s.payload) h)
    (op_extent s g r (receive_inside s r h))

-- AREAS
pub area_inside : (s : Sheet) → Valid s → (r : ℕ) → is_receive (op s r) ≡ true → area_start s r + (op s r).long ≤ inbox_total s
unfolding area_start inbox_total
area_inside s g r h =
    let small = g.rank_small r (receive_inside s r h) in
    omega (arith, receive_extent s g r h, g.inbox_order (rank_of s r) (P_of s) small (omega arith))

-- no index lies in the areas of both r and q
abbrev pub AreasDisjoint : Sheet → (r q : ℕ) → Type 0
AreasDisjoint s r q = Disjoint (area_start s r) (op s r).long (area_start s q) (op s q).long

share_disjoint : (s : Sheet) (r q : ℕ) → rank_of s r ≡ rank_of s q → share (op s r) (op s q) ≡ false → AreasDisjoint s r q
unfolding area_start share
share_disjoint s r q same h i a b c d =
    let starts : inbox_start s (rank_of s r) ≡ inbox_start s (rank_of s q) = ap (λ (z : ℕ). inbox_start s z) same in
    true_not_false
    (and_both (and_both (lt-ltb 0 (op s r).long (omega arith)) (lt-ltb 0 (op s q).long (omega arith)))
    (and_both (lt-ltb (op s r).offset ((op s q).offset + (op s q).long) (omega arith))
    (lt-ltb (op s q).offset ((op s r).offset + (op s r).long) (omega arith))))
    h

boards_disjoint : (s : Sheet) → Valid s → (r q : ℕ) → is_receive (op s r) ≡ true → is_receive (op s q) ≡ true →
    rank_of s r < rank_of s q → AreasDisjoint s r q
unfolding area_start
boards_disjoint s g r q hr hq l i a b c d =
    let small = g.rank_small q (receive_inside s q hq) in
    omega (arith, receive_extent s g r hr, g.inbox_order (rank_of s r) (rank_of s q) l (omega arith))

pub areas_disjoint : (s : Sheet) → Valid s → (r q : ℕ) → is_receive (op s r) ≡ true → is_receive (op s q) ≡ true →
    (rank_of s r ≡ rank_of s q → share (op s r) (op s q) ≡ false) → AreasDisjoint s r q
areas_disjoint s g r q hr hq apart = go (ℕ_discrete (rank_of s r) (rank_of s q)) (dec_lt (rank_of s r) (rank_of s q))
  where
    go : Dec (rank_of s r ≡ rank_of s q) → Dec (rank_of s r < rank_of s q) → AreasDisjoint s r q
    go (yes e) _ = share_disjoint s r q e (apart e)
    go (no d) (yes l) = boards_disjoint s g r q hr hq l
    go (no d) (no n) = λ i a b c e. boards_disjoint s g q r hq hr (omega arith) i c e a b
