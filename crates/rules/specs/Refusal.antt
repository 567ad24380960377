-- When the desk says no to a sheet (document 01, "When the desk says no"): numbers 1 to 7, lowest first, each over the whole
-- sheet, each at its place. Assumes nothing: these are definitions.
use Rattle.std.specs.Prelude.{Bool, false, ◌&&◌, ◌||◌, not, cond, List, ℕ, zero, suc, ◌+◌, ◌-◌, ltb, leb, eqb, length}
use Rattle.rules.specs.Limits.{most_boards, most_comms, most_ops, most_payload, most_attached, most_inbox, most_room, tag_limit, most_length, slot_limit}
use Rattle.rules.specs.Limits.{any, header_size, boards_at, ops_at, payload_at, sheet_size}
use Rattle.rules.specs.Sheet.{Sheet, Op, op, board, P_of, N_of, rank_of, counts_before, inbox_start, is_send, is_receive, takes_slot}
use Rattle.rules.specs.Sheet.{selects, tells_message, names_slot, frees_slot, two, P_in, C_in, N_in, L_in, second_in, sheet_in}
use Rattle.rules.specs.Crc.{crc}

-- an answer: number 0 and place 0 is success
pub record Refusal : Type 0 where
  pub number : ℕ
  pub place : ℕ

unfoldable pub refusal : (number place : ℕ) → Refusal
refusal n p =
    record {
      number = n;
      place = p;
    }

abbrev pub accepted : Refusal
accepted = refusal 0 0

unfoldable pub or_else : Refusal → Refusal → Refusal
or_else a b = cond (eqb a.number 0) b a

-- the first index from i on, among `left` of them, where a test fails, refused with a number
unfoldable pub first_broken : (number : ℕ) → (ℕ → Bool) → (left i : ℕ) → Refusal
first_broken n f zero i = accepted
first_broken n f (suc k) i = cond (f i) (first_broken n f k (suc i)) (refusal n i)

-- 2: P, C, N and L in their ranges
unfoldable pub sizes_good : List ℕ → Bool
sizes_good bs =
    ((leb 1 (P_in bs) && leb (P_in bs) most_boards) && (leb 1 (C_in bs) && leb (C_in bs) most_comms))
    && (leb (N_in bs) most_ops && leb (L_in bs) most_payload)

-- 3: the three offsets and the sheet's length, in the edition that the second offset tells
unfoldable pub layout_good : List ℕ → Bool
layout_good bs =
    let e = second_in bs in
    ((eqb (two bs 6) boards_at && eqb (two bs 8) (ops_at e (P_in bs)))
    && eqb (two bs 10) (payload_at e (P_in bs) (N_in bs)))
    && eqb (length bs) (sheet_size e (P_in bs) (N_in bs) (L_in bs))

-- 4: the CRC in the header
unfoldable pub crc_good : List ℕ → Bool
crc_good bs = eqb (crc bs) (two bs 14)

-- 5: a board's first operation is the sum of the counts before it; attached size; running total of the inboxes; standard room
unfoldable pub board_good : Sheet → (r : ℕ) → Bool
board_good s r =
    eqb (board s r).first (counts_before s r)
    && ((leb (board s r).attached most_attached && leb (inbox_start s (suc r)) most_inbox)
    && leb (board s r).room most_room)

unfoldable pub boards_refusal : Sheet → Refusal
boards_refusal s =
    or_else (first_broken 5 (board_good s) (P_of s) 0)
    (cond (eqb (counts_before s (P_of s)) (N_of s)) accepted (refusal 5 (P_of s)))

-- 6: what selects messages, a receive or a probe, may name any source and any tag
unfoldable pub or_any : Op → (limit v : ℕ) → Bool
or_any o l v = ltb v l || (selects o && eqb v any)

-- peer, communicator and tag of a send, a receive or a probe, among p boards and c communicators
unfoldable pub envelope_good : (p c : ℕ) → Op → Bool
envelope_good p c o = (or_any o p o.peer && ltb o.comm c) && or_any o tag_limit o.tag

-- a blocking operation's slot is 0; a nonblocking one takes a slot
unfoldable pub slot_good : Op → Bool
slot_good o = cond (eqb o.flag 0) (eqb o.slot 0) (ltb o.slot slot_limit)

-- flag, zero, length, area and slot of a send or a receive; offset plus length stays inside its room
unfoldable pub extent_good : (room : ℕ) → Op → Bool
extent_good room o =
    ((leb o.flag 1 && eqb o.zero_field 0) && (leb o.long most_length && leb (o.offset + o.long) room))
    && slot_good o

-- an operation that names a slot: its other fields are 0
unfoldable pub wait_good : Op → Bool
wait_good o =
    ((eqb o.flag 0 && eqb o.peer 0) && (eqb o.comm 0 && eqb o.zero_field 0))
    && ((eqb o.tag 0 && eqb o.offset 0) && (eqb o.long 0 && ltb o.slot slot_limit))

-- a probe has an envelope; its other fields are 0 (document 02, K9)
unfoldable pub probe_good : Op → Bool
probe_good o =
    (eqb o.flag 0 && eqb o.zero_field 0) && ((eqb o.offset 0 && eqb o.long 0) && eqb o.slot 0)

unfoldable pub fields_good : (p c room : ℕ) → Op → Bool
fields_good p c room o =
    cond (names_slot o) (wait_good o)
    (cond (tells_message o) (envelope_good p c o && probe_good o)
    ((is_send o || is_receive o) && (envelope_good p c o && extent_good room o)))

-- a receive's room is its board's inbox, a send's the payload
unfoldable pub room_for : Sheet → (i : ℕ) → ℕ
room_for s i = cond (is_receive (op s i)) (board s (rank_of s i)).inbox (length s.payload)

unfoldable pub op_good : Sheet → (i : ℕ) → Bool
op_good s i = fields_good (P_of s) s.comms (room_for s i) (op s i)

unfoldable pub ops_refusal : Sheet → Refusal
ops_refusal s = first_broken 6 (op_good s) (N_of s) 0

-- 7: slots and areas. One of the `left` operations from j on frees the slot k
unfoldable pub freed : Sheet → (left j k : ℕ) → Bool
freed s zero j k = false
freed s (suc l) j k = (frees_slot (op s j) && eqb (op s j).slot k) || freed s l (suc j) k

-- operation j is an earlier one of i's board that took its slot, and none between them freed it
unfoldable pub holds : Sheet → (j i : ℕ) → Bool
holds s j i =
    (ltb j i && eqb (rank_of s j) (rank_of s i))
    && (takes_slot (op s j) && not (freed s (i - suc j) (suc j) (op s j).slot))

-- a test holds of one of the numbers below i
unfoldable pub some_below : (i : ℕ) → (ℕ → Bool) → Bool
some_below zero f = false
some_below (suc j) f = f j || some_below j f

-- operation i's board holds the slot k
unfoldable pub slot_held : Sheet → (i k : ℕ) → Bool
slot_held s i k = some_below i (λ j. holds s j i && eqb (op s j).slot k)

-- two areas of one inbox share a byte; an empty area shares nothing
unfoldable pub share : (a b : Op) → Bool
share a b =
    (ltb 0 a.long && ltb 0 b.long)
    && (ltb a.offset (b.offset + b.long) && ltb b.offset (a.offset + a.long))

-- operation i's area shares a byte with that of an earlier receive of its board whose slot is held
unfoldable pub area_taken : Sheet → (i : ℕ) → Bool
area_taken s i = some_below i (λ j. holds s j i && (is_receive (op s j) && share (op s j) (op s i)))

unfoldable pub request_good : Sheet → (i : ℕ) → Bool
request_good s i =
    let o = op s i in
    cond (names_slot o) (slot_held s i o.slot)
    (not (takes_slot o && slot_held s i o.slot) && not (is_receive o && area_taken s i))

-- the slot that operation i takes, if it takes one, is freed later in its board's script. Where it is not, the board ends with
-- the slot held: a forgotten request (document 02, K7; MPI: a request leak)
unfoldable pub slot_freed : Sheet → (i : ℕ) → Bool
slot_freed s i =
    let b = board s (rank_of s i) in
    not (takes_slot (op s i)) || freed s ((b.first + b.count) - suc i) (suc i) (op s i).slot

-- the rules of slots and areas over the whole sheet, and behind them forgotten requests
unfoldable pub requests_refusal : Sheet → Refusal
requests_refusal s = or_else (first_broken 7 (request_good s) (N_of s) 0) (first_broken 7 (slot_freed s) (N_of s) 0)

-- 5 to 7 read the tables that 1 to 4 have found in place
unfoldable pub tables_refusal : Sheet → Refusal
tables_refusal s = or_else (boards_refusal s) (or_else (ops_refusal s) (requests_refusal s))

unfoldable pub sheet_refusal : List ℕ → Refusal
sheet_refusal bs =
    cond (ltb (length bs) header_size) (refusal 1 0)
    (cond (not (sizes_good bs)) (refusal 2 0)
    (cond (not (layout_good bs)) (refusal 3 0)
    (cond (not (crc_good bs)) (refusal 4 0) (tables_refusal (sheet_in bs)))))
