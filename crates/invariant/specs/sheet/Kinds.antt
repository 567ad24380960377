-- Kinds and roles of operations, and parts of a fit. A kind excludes the others; which roles go together is said here, once: all
-- proofs about jobs ask for roles, and cite these laws where one role tells another.
--   send_not_receive ..                    kinds: an operation has one
--   send_not_only_half, receive-not-..     roles that sends and receives don't have
--   tells_only_half, frees_only_half       what tells and what frees a slot is only a waiting half; frees_not_tells, ..: and which
--                                          roles exclude each other
--   receive_selects, message_selects       what selects messages
--   receive_no_half_takes, send-..         a receive or a send without a waiting half takes a slot
--   kind_send                              what has an initiating step and is no receive is a send
--   frees_not_no_half, takes_not_names     roles that exclude each other, in a valid sheet
--   fit_board, fit_comm, fit_source ..     what a fit says; fit_made: and what makes it
-- Assumes nothing.
use Rattle.std.specs.Prelude.{◌≡◌, refl, ◌⊎◌, ◌≢◌, Bool, true, false, ◌&&◌, ◌||◌, ℕ, ◌≤◌, ◌<◌, leb, eqb}
use Rattle.std.proofs.Common.{sym, ap, ◌∙◌, inl, inr, arith}
use borrow.Author.Tests.{leb-true, le-leb, eqb-true, eq-eqb, ne_eqb}
use Rattle.rules.specs.Limits.{any}
use Rattle.rules.specs.Sheet.{Sheet, Op, op, P_of, N_of, rank_of, is_send, is_receive, is_standard, is_buffered, is_wait, is_nonblocking, only_half, no_half}
use Rattle.rules.specs.Sheet.{is_probe, is_query, tells_message, tells_completion, tells, selects, takes_slot, names_slot, frees_slot}
use Rattle.rules.specs.Refusal.{op_good, fields_good, room_for}
use Rattle.rules.specs.Step.{fits_with}
use Rattle.laws.specs.Tests.{true_not_false, and_left, and_right, and_both, or_left, or_right, or_cases, not_so}
use Rattle.laws.specs.Fields.{fields_named, fields_transfers, wait_flag, frees_names}
use Rattle.invariant.specs.sheet.Valid.{Valid}

-- a test is true where its being false is absurd
pub is_true : (b : Bool) → (b ≡ false → ⊥) → b ≡ true
is_true true h = refl
is_true false h = absurd (h refl)

-- KINDS: an operation has one
pub receive_kind : (o : Op) → is_receive o ≡ true → o.kind ≡ 5
unfolding is_receive
receive_kind o e = eqb-true o.kind 5 e

wait_kind : (o : Op) → is_wait o ≡ true → o.kind ≡ 6
unfolding is_wait
wait_kind o e = eqb-true o.kind 6 e

pub send_kind : (o : Op) → is_send o ≡ true → (1 ≤ o.kind) × (o.kind ≤ 4)
unfolding is_send
send_kind o e = (
  leb-true 1 o.kind (and_left (leb 1 o.kind) (leb o.kind 4) e),
  leb-true o.kind 4
      (and_right (leb 1 o.kind) (leb o.kind 4) e),
)

pub send_not_receive : (o : Op) → is_send o ≡ true → is_receive o ≡ false
send_not_receive o e = not_so (is_receive o) (λ h. omega (arith, send_kind o e, receive_kind o h))

pub receive_not_send : (o : Op) → is_receive o ≡ true → is_send o ≡ false
receive_not_send o e = not_so (is_send o) (λ h. omega (arith, send_kind o h, receive_kind o e))

pub standard_not_buffered : (o : Op) → is_standard o ≡ true → is_buffered o ≡ false
unfolding is_standard is_buffered
standard_not_buffered o e = ne_eqb o.kind 2 (λ h. omega (arith, eqb-true o.kind 1 e))

pub standard_send : (o : Op) → is_standard o ≡ true → is_send o ≡ true
unfolding is_standard is_send
standard_send o e =
    let k = eqb-true o.kind 1 e in
    and_both (le-leb 1 o.kind (omega arith)) (le-leb o.kind 4 (omega arith))

pub receive_not_standard : (o : Op) → is_receive o ≡ true → is_standard o ≡ false
unfolding is_standard
receive_not_standard o e = ne_eqb o.kind 1 (λ h. omega (arith, receive_kind o e))

pub receive_not_buffered : (o : Op) → is_receive o ≡ true → is_buffered o ≡ false
unfolding is_buffered
receive_not_buffered o e = ne_eqb o.kind 2 (λ h. omega (arith, receive_kind o e))

-- a send is no receive: they differ as operations
pub send_receive_differ : (s : Sheet) (m r : ℕ) → is_send (op s m) ≡ true → is_receive (op s r) ≡ true → m ≢ r
send_receive_differ s m r p q e = true_not_false (ap (λ (z : ℕ). is_send (op s z)) (sym e) ∙ p) (receive_not_send (op s r) q)

-- ROLES: kinds up to 5 have an initiating step, the others are only a waiting half
tells_kind : (o : Op) → tells o ≡ true → 7 ≤ o.kind
unfolding tells tells_message tells_completion is_probe is_query
tells_kind o e = go (or_cases (eqb o.kind 7) (eqb o.kind 8) e)
  where
    go : (eqb o.kind 7 ≡ true) ⊎ (eqb o.kind 8 ≡ true) → 7 ≤ o.kind
    go (inl h) = omega (arith, eqb-true o.kind 7 h)
    go (inr h) = omega (arith, eqb-true o.kind 8 h)

only_half_kind : (o : Op) → only_half o ≡ true → 6 ≤ o.kind
unfolding only_half
only_half_kind o e = go (or_cases (is_wait o) (tells o) e)
  where
    go : (is_wait o ≡ true) ⊎ (tells o ≡ true) → 6 ≤ o.kind
    go (inl h) = omega (arith, wait_kind o h)
    go (inr h) = omega (arith, tells_kind o h)

-- sends and receives have an initiating step
pub send_not_only_half : (o : Op) → is_send o ≡ true → only_half o ≡ false
send_not_only_half o e = not_so (only_half o) (λ h. omega (arith, send_kind o e, only_half_kind o h))

pub receive_not_only_half : (o : Op) → is_receive o ≡ true → only_half o ≡ false
receive_not_only_half o e = not_so (only_half o) (λ h. omega (arith, receive_kind o e, only_half_kind o h))

-- what tells, what names a slot and what frees one has no initiating step
pub tells_only_half : (o : Op) → tells o ≡ true → only_half o ≡ true
unfolding only_half
tells_only_half o h = or_right (is_wait o) (tells o) h

pub message_tells : (o : Op) → tells_message o ≡ true → tells o ≡ true
unfolding tells
message_tells o h = or_left (tells_message o) (tells_completion o) h

pub completion_tells : (o : Op) → tells_completion o ≡ true → tells o ≡ true
unfolding tells
completion_tells o h = or_right (tells_message o) (tells_completion o) h

names_only_half : (o : Op) → names_slot o ≡ true → only_half o ≡ true
unfolding names_slot only_half
names_only_half o h = go (or_cases (is_wait o) (tells_completion o) h)
  where
    go : (is_wait o ≡ true) ⊎ (tells_completion o ≡ true) → is_wait o || tells o ≡ true
    go (inl e) = or_left (is_wait o) (tells o) e
    go (inr e) = or_right (is_wait o) (tells o) (completion_tells o e)

pub frees_only_half : (o : Op) → frees_slot o ≡ true → only_half o ≡ true
frees_only_half o h = names_only_half o (frees_names o h)

-- a receive neither names a slot that is held nor frees one, and a send frees none
pub receive_not_names : (o : Op) → is_receive o ≡ true → names_slot o ≡ false
receive_not_names o e = not_so (names_slot o) (λ h. true_not_false (names_only_half o h) (receive_not_only_half o e))

pub receive_not_frees : (o : Op) → is_receive o ≡ true → frees_slot o ≡ false
receive_not_frees o e = not_so (frees_slot o) (λ h. true_not_false (frees_only_half o h) (receive_not_only_half o e))

pub send_not_frees : (o : Op) → is_send o ≡ true → frees_slot o ≡ false
send_not_frees o e = not_so (frees_slot o) (λ h. true_not_false (frees_only_half o h) (send_not_only_half o e))

-- sends, receives and what frees a slot tell nothing
initiating_not_tells : (o : Op) → only_half o ≡ false → tells o ≡ false
initiating_not_tells o h = not_so (tells o) (λ e. true_not_false (tells_only_half o e) h)

pub send_not_tells : (o : Op) → is_send o ≡ true → tells o ≡ false
send_not_tells o e = initiating_not_tells o (send_not_only_half o e)

pub receive_not_tells : (o : Op) → is_receive o ≡ true → tells o ≡ false
receive_not_tells o e = initiating_not_tells o (receive_not_only_half o e)

pub frees_not_tells : (o : Op) → frees_slot o ≡ true → tells o ≡ false
unfolding frees_slot
frees_not_tells o e = not_so (tells o) (λ h. omega (arith, wait_kind o e, tells_kind o h))

-- what tells of a message tells nothing of a slot
pub message_not_completion : (o : Op) → tells_message o ≡ true → tells_completion o ≡ false
unfolding tells_message tells_completion is_probe is_query
message_not_completion o e = ne_eqb o.kind 8 (λ h. omega (arith, eqb-true o.kind 7 e))

-- messages are selected by receives and by what tells of a message
pub receive_selects : (o : Op) → is_receive o ≡ true → selects o ≡ true
unfolding selects
receive_selects o e = or_left (is_receive o) (tells_message o) e

pub message_selects : (o : Op) → tells_message o ≡ true → selects o ≡ true
unfolding selects
message_selects o e = or_right (is_receive o) (tells_message o) e

pub send_not_selects : (o : Op) → is_send o ≡ true → selects o ≡ false
unfolding selects
send_not_selects o e =
    ap (λ (b : Bool). b || tells_message o) (send_not_receive o e)
    ∙ not_so (tells_message o) (λ h. true_not_false (message_tells o h) (send_not_tells o e))

-- a send names no slot that is held
pub send_not_names : (o : Op) → is_send o ≡ true → names_slot o ≡ false
send_not_names o e = not_so (names_slot o) (λ h. true_not_false (names_only_half o h) (send_not_only_half o e))

-- a receive or a send that has no waiting half is nonblocking, and takes a slot
pub receive_no_half_takes : (o : Op) → is_receive o ≡ true → no_half o ≡ true → takes_slot o ≡ true
unfolding no_half takes_slot
receive_no_half_takes o e h = h

pub send_no_half_takes : (o : Op) → is_send o ≡ true → no_half o ≡ true → takes_slot o ≡ true
unfolding no_half takes_slot
send_no_half_takes o e h = h

module _ (s : Sheet) (g : Valid s) (i : ℕ) (l : i < N_of s) where
  fields : fields_good (P_of s) s.comms (room_for s i) (op s i) ≡ true
  unfolding op_good
  fields = g.ops_good i l

  -- what has an initiating step and is no receive is a send
  pub kind_send : only_half (op s i) ≡ false → is_receive (op s i) ≡ false → is_send (op s i) ≡ true
  kind_send h r =
      go (or_cases (is_send (op s i)) (is_receive (op s i))
      (fields_transfers (P_of s) s.comms (room_for s i) (op s i) fields names_none tells_none))
    where
      names_none : names_slot (op s i) ≡ false
      names_none = not_so (names_slot (op s i)) (λ e. true_not_false (names_only_half (op s i) e) h)

      tells_none : tells_message (op s i) ≡ false
      tells_none = not_so (tells_message (op s i)) (λ e. true_not_false (tells_only_half (op s i) (message_tells (op s i) e)) h)

      go : (is_send (op s i) ≡ true) ⊎ (is_receive (op s i) ≡ true) → is_send (op s i) ≡ true
      go (inl e) = e
      go (inr e) = true_not_false e r

  -- what names a slot is blocking: its flag is 0
  names_blocking : names_slot (op s i) ≡ true → is_nonblocking (op s i) ≡ false
  unfolding is_nonblocking
  names_blocking n =
      let flag = wait_flag (op s i) (fields_named (P_of s) s.comms (room_for s i) (op s i) fields n) in
      ne_eqb (op s i).flag 1 (λ e. omega (arith, flag))

  -- an operation that frees a slot does it in a waiting half
  pub frees_not_no_half : frees_slot (op s i) ≡ true → no_half (op s i) ≡ false
  unfolding no_half
  frees_not_no_half f = names_blocking (frees_names (op s i) f)

  -- one that takes a slot names none that is held
  pub takes_not_names : takes_slot (op s i) ≡ true → names_slot (op s i) ≡ false
  unfolding takes_slot
  takes_not_names t = not_so (names_slot (op s i)) (λ n. true_not_false t (names_blocking n))

-- FITS
-- a number is one of two
either : (v a b : ℕ) → (eqb v a || eqb v b) ≡ true → (v ≡ a) ⊎ (v ≡ b)
either v a b h = go (or_cases (eqb v a) (eqb v b) h)
  where
    go : (eqb v a ≡ true) ⊎ (eqb v b ≡ true) → (v ≡ a) ⊎ (v ≡ b)
    go (inl e) = inl (eqb-true v a e)
    go (inr e) = inr (eqb-true v b e)

one : (v a b : ℕ) → (v ≡ a) ⊎ (v ≡ b) → (eqb v a || eqb v b) ≡ true
one v a b (inl e) = or_left (eqb v a) (eqb v b) (eq-eqb v a e)
one v a b (inr e) = or_right (eqb v a) (eqb v b) (eq-eqb v b e)

module _ (s : Sheet) (m r : ℕ) (f : fits_with s m r ≡ true) where
  abbrev addressed : Bool
  addressed = eqb (op s m).peer (rank_of s r)

  abbrev comms_equal : Bool
  comms_equal = eqb (op s m).comm (op s r).comm

  abbrev source_fits : Bool
  source_fits = eqb (op s r).peer any || eqb (op s r).peer (rank_of s m)

  abbrev tag_fits : Bool
  tag_fits = eqb (op s r).tag any || eqb (op s r).tag (op s m).tag

  -- the message is addressed to the receive's board
  pub fit_board : (op s m).peer ≡ rank_of s r
  unfolding fits_with
  fit_board =
      eqb-true (op s m).peer (rank_of s r)
      (and_left addressed comms_equal (and_left (addressed && comms_equal) (source_fits && tag_fits) f))

  -- communicators are equal
  pub fit_comm : (op s m).comm ≡ (op s r).comm
  unfolding fits_with
  fit_comm =
      eqb-true (op s m).comm (op s r).comm
      (and_right addressed comms_equal (and_left (addressed && comms_equal) (source_fits && tag_fits) f))

  -- the receive names any tag, or the message's
  pub fit_tag : ((op s r).tag ≡ any) ⊎ ((op s r).tag ≡ (op s m).tag)
  unfolding fits_with
  fit_tag =
      either (op s r).tag any (op s m).tag
      (and_right source_fits tag_fits (and_right (addressed && comms_equal) (source_fits && tag_fits) f))

  -- the receive names any source, or the message's
  pub fit_source : ((op s r).peer ≡ any) ⊎ ((op s r).peer ≡ rank_of s m)
  unfolding fits_with
  fit_source =
      either (op s r).peer any (rank_of s m)
      (and_left source_fits tag_fits (and_right (addressed && comms_equal) (source_fits && tag_fits) f))

-- and what makes a fit
pub fit_made : (s : Sheet) (m r : ℕ) → (op s m).peer ≡ rank_of s r → (op s m).comm ≡ (op s r).comm →
    ((op s r).peer ≡ any) ⊎ ((op s r).peer ≡ rank_of s m) → ((op s r).tag ≡ any) ⊎ ((op s r).tag ≡ (op s m).tag) → fits_with s m r ≡ true
unfolding fits_with
fit_made s m r a b c d =
    and_both (and_both (eq-eqb (op s m).peer (rank_of s r) a) (eq-eqb (op s m).comm (op s r).comm b))
    (and_both (one (op s r).peer any (rank_of s m) c) (one (op s r).tag any (op s m).tag d))

-- receives that one message fits are of one board
pub fit_one_board : (s : Sheet) (m r q : ℕ) → fits_with s m r ≡ true → fits_with s m q ≡ true → rank_of s r ≡ rank_of s q
fit_one_board s m r q a b = sym (fit_board s m r a) ∙ fit_board s m q b
