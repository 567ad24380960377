-- The sheet, byte by byte (document 01, "The sheet, byte by byte"): boards, operations and payload, and what bytes decode to.
-- Everything that reads a sheet goes through `sheet_in`. Assumes nothing: these are definitions.
use Rattle.std.specs.Prelude.{Bool, true, ◌&&◌, ◌||◌, cond, List, [], ◌∷◌, ℕ, zero, suc, ◌+◌, ◌*◌, ltb, leb, eqb, length, get_or, take, drop}
use Rattle.rules.specs.Limits.{boards_at, board_size, op_size, ops_at, payload_at}

-- an operation: a send, a receive, a wait on a request slot, a probe, or a status query on a request slot
pub record Op : Type 0 where
  pub kind : ℕ
  pub flag : ℕ
  pub peer : ℕ
  pub comm : ℕ
  pub zero_field : ℕ
  pub tag : ℕ
  pub offset : ℕ
  pub long : ℕ
  pub slot : ℕ

-- a board is an MPI process: its script, its attached buffer (MPI_Buffer_attach), its inbox, and the room in which the library
-- buffers its standard sends (document 02, K6). A board of the first edition has room 0
pub record Board : Type 0 where
  pub first : ℕ
  pub count : ℕ
  pub attached : ℕ
  pub inbox : ℕ
  pub room : ℕ

pub record Sheet : Type 0 where
  pub comms : ℕ
  pub boards : List Board
  pub ops : List Op
  pub payload : List ℕ

unfoldable pub no_op : Op
no_op =
    record {
      kind = 0;
      flag = 0;
      peer = 0;
      comm = 0;
      zero_field = 0;
      tag = 0;
      offset = 0;
      long = 0;
      slot = 0;
    }

unfoldable pub no_board : Board
no_board =
    record {
      first = 0;
      count = 0;
      attached = 0;
      inbox = 0;
      room = 0;
    }

-- P and N of the header, which are the tables' lengths
unfoldable pub P_of : Sheet → ℕ
P_of s = length s.boards

unfoldable pub N_of : Sheet → ℕ
N_of s = length s.ops

unfoldable pub op : Sheet → (i : ℕ) → Op
op s i = get_or s.ops i no_op

unfoldable pub board : Sheet → (r : ℕ) → Board
board s r = get_or s.boards r no_board

-- KINDS: 1 standard, 2 buffered, 3 synchronous, 4 ready send, 5 receive, 6 wait; 7 blocking probe, 8 status query (document
-- 02, K9; MPI_PROBE, MPI_REQUEST_GET_STATUS)
unfoldable pub is_send : Op → Bool
is_send o = leb 1 o.kind && leb o.kind 4

unfoldable pub is_standard : Op → Bool
is_standard o = eqb o.kind 1

unfoldable pub is_buffered : Op → Bool
is_buffered o = eqb o.kind 2

unfoldable pub is_ready : Op → Bool
is_ready o = eqb o.kind 4

unfoldable pub is_receive : Op → Bool
is_receive o = eqb o.kind 5

unfoldable pub is_wait : Op → Bool
is_wait o = eqb o.kind 6

unfoldable pub is_probe : Op → Bool
is_probe o = eqb o.kind 7

unfoldable pub is_query : Op → Bool
is_query o = eqb o.kind 8

-- a nonblocking operation (flag 1); all but sends and receives have flag 0
unfoldable pub is_nonblocking : Op → Bool
is_nonblocking o = eqb o.flag 1

-- ROLES: what an operation is asked for, beside sending and receiving. A further kind is given its roles here; everything else
-- asks for the role that it means and not for the kind.
-- Its one step tells in its row what it found, and changes nothing else (document 02, K9): of the earliest pending message that
-- fits, source, tag and length; of the operation that holds a slot, whether it is complete
unfoldable pub tells_message : Op → Bool
tells_message o = is_probe o

unfoldable pub tells_completion : Op → Bool
tells_completion o = is_query o

unfoldable pub tells : Op → Bool
tells o = tells_message o || tells_completion o

-- it names a source and a tag, or any, by which messages are selected (MPI: message selection)
unfoldable pub selects : Op → Bool
selects o = is_receive o || tells_message o

-- "Each operation but wait has an initiating step. A blocking one then has a waiting half; a wait is only a waiting half." (MPI:
-- an operation is initiated, and then completed.) An operation that tells initiates nothing, and is only a waiting half too
unfoldable pub only_half : Op → Bool
only_half o = is_wait o || tells o

-- an operation that is finished after its initiating step: it has no waiting half
unfoldable pub no_half : Op → Bool
no_half o = is_nonblocking o

-- SLOTS (MPI: requests): "a nonblocking operation takes a slot that its board doesn't hold; a wait names one it holds and
-- frees it". A query names one and does not free it (document 02, K9). At the end of its script a board holds none (K7)
unfoldable pub takes_slot : Op → Bool
takes_slot o = is_nonblocking o

unfoldable pub names_slot : Op → Bool
names_slot o = is_wait o || tells_completion o

unfoldable pub frees_slot : Op → Bool
frees_slot o = is_wait o

-- a figure of the boards before rank r, added up: counts give first operations, inbox sizes give inbox starts
unfoldable pub sum_before : (Board → ℕ) → (r : ℕ) → List Board → ℕ
sum_before f zero bs = 0
sum_before f (suc r) [] = 0
sum_before f (suc r) (b ∷ bs) = f b + sum_before f r bs

unfoldable pub counts_before : Sheet → (r : ℕ) → ℕ
counts_before s r = sum_before (λ b. b.count) r s.boards

-- inboxes lie one after another in rank order in the inbox memory
unfoldable pub inbox_start : Sheet → (r : ℕ) → ℕ
inbox_start s r = sum_before (λ b. b.inbox) r s.boards

unfoldable pub inbox_total : Sheet → ℕ
inbox_total s = inbox_start s (P_of s)

-- the rank of the board whose script an operation is in
unfoldable pub rank_from : (r : ℕ) → List Board → (i : ℕ) → ℕ
rank_from r [] i = r
rank_from r (b ∷ bs) i = cond (ltb i (b.first + b.count)) r (rank_from (suc r) bs i)

unfoldable pub rank_of : Sheet → (i : ℕ) → ℕ
rank_of s i = rank_from 0 s.boards i

-- BYTES: numbers are little-endian, 16 bits unless said
unfoldable pub two : List ℕ → (at : ℕ) → ℕ
two bs at = get_or bs at 0 + 256 * get_or bs (at + 1) 0

abbrev pub board_in : (second : Bool) → List ℕ → (at : ℕ) → Board
board_in e bs at =
    record {
      first = two bs at;
      count = two bs (at + 2);
      attached = two bs (at + 4);
      inbox = two bs (at + 6);
      room = cond e (two bs (at + 8)) 0;
    }

unfoldable pub boards_in : (second : Bool) → List ℕ → (left at : ℕ) → List Board
boards_in e bs zero at = []
boards_in e bs (suc k) at = board_in e bs at ∷ boards_in e bs k (at + board_size e)

abbrev pub op_in : List ℕ → (at : ℕ) → Op
op_in bs at =
    record {
      kind = get_or bs at 0;
      flag = get_or bs (at + 1) 0;
      peer = two bs (at + 2);
      comm = two bs (at + 4);
      zero_field = two bs (at + 6);
      tag = two bs (at + 8);
      offset = two bs (at + 10);
      long = two bs (at + 12);
      slot = two bs (at + 14);
    }

unfoldable pub ops_in : List ℕ → (left at : ℕ) → List Op
ops_in bs zero at = []
ops_in bs (suc k) at = op_in bs at ∷ ops_in bs k (at + op_size)

-- HEADER: P at byte 0, C at 2, N at 4, the offsets of the three tables at 6, 8 and 10, L at 12, CRC at 14
abbrev pub P_in : List ℕ → ℕ
P_in bs = two bs 0

abbrev pub C_in : List ℕ → ℕ
C_in bs = two bs 2

abbrev pub N_in : List ℕ → ℕ
N_in bs = two bs 4

abbrev pub L_in : List ℕ → ℕ
L_in bs = two bs 12

-- whether a sheet is of the second edition (document 02, K6): the offset of its operation table tells. No sheet that passes has
-- two readings: P is at least 1, so that 16 + 8P and 16 + 10P differ
unfoldable pub second_in : List ℕ → Bool
second_in bs = eqb (two bs 8) (ops_at true (P_in bs))

-- of the edition nothing is left but the boards' rooms, so that all that is said of a decoded sheet is said of both
unfoldable pub sheet_in : List ℕ → Sheet
sheet_in bs =
    let e = second_in bs in
    record {
      comms = C_in bs;
      boards = boards_in e bs (P_in bs) boards_at;
      ops = ops_in bs (N_in bs) (ops_at e (P_in bs));
      payload = take (L_in bs) (drop (payload_at e (P_in bs) (N_in bs)) bs);
    }
