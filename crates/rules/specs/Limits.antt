-- The numbers of documents 01 and 02, each under one name. Definitions, proofs and contracts cite the names.
-- Assumes nothing: these are definitions.
use Rattle.std.specs.Prelude.{Bool, cond, ℕ, ◌+◌, ◌*◌}

-- "The sheet, byte by byte": P boards, C communicators, N operations (document 02, K11), L payload bytes at the most
abbrev pub most_boards : ℕ
most_boards = 16

abbrev pub most_comms : ℕ
most_comms = 8

abbrev pub most_ops : ℕ
most_ops = 2048

abbrev pub most_payload : ℕ
most_payload = 16384

-- attached buffer size of a board; the inboxes of all boards together
abbrev pub most_attached : ℕ
most_attached = 16384

abbrev pub most_inbox : ℕ
most_inbox = 16384

-- standard room of a board (document 02, K6)
abbrev pub most_room : ℕ
most_room = 16384

-- what a buffered message costs in an attached buffer beside its bytes (MPI_BSEND_OVERHEAD; document 02, K2)
abbrev pub bsend_overhead : ℕ
bsend_overhead = 32

-- tags are below this, lengths and capacities at most that, request slots below that
abbrev pub tag_limit : ℕ
tag_limit = 32768

abbrev pub most_length : ℕ
most_length = 4096

abbrev pub slot_limit : ℕ
slot_limit = 32

-- any source (MPI_ANY_SOURCE), any tag (MPI_ANY_TAG), and in a report: none
abbrev pub any : ℕ
any = 65535

abbrev pub absent : ℕ
absent = 65535

-- where the tables stand in a sheet
abbrev pub header_size : ℕ
header_size = 16

abbrev pub op_size : ℕ
op_size = 16

abbrev pub boards_at : ℕ
boards_at = header_size

-- EDITIONS (document 02, K6): in the second a board entry has a number more, and a board's row of the report has two. What else
-- a sheet or a report has does not depend on the edition. p board entries, p rows
abbrev pub board_size : (second : Bool) → ℕ
board_size e = cond e 10 8

unfoldable pub boards_size : (second : Bool) → (p : ℕ) → ℕ
boards_size e p = cond e (10 * p) (8 * p)

abbrev pub board_row_size : (second : Bool) → ℕ
board_row_size e = cond e 12 8

unfoldable pub board_rows_size : (second : Bool) → (p : ℕ) → ℕ
board_rows_size e p = cond e (12 * p) (8 * p)

abbrev pub ops_at : (second : Bool) → (p : ℕ) → ℕ
ops_at e p = boards_at + boards_size e p

abbrev pub payload_at : (second : Bool) → (p n : ℕ) → ℕ
payload_at e p n = ops_at e p + op_size * n

abbrev pub sheet_size : (second : Bool) → (p n l : ℕ) → ℕ
sheet_size e p n l = payload_at e p n + l

-- "The report": a header, a row a board, a row an operation
abbrev pub report_header_size : ℕ
report_header_size = 16

abbrev pub op_row_size : ℕ
op_row_size = 12

abbrev pub report_size : (second : Bool) → (p n : ℕ) → ℕ
report_size e p n = report_header_size + board_rows_size e p + op_row_size * n

-- "When the desk says no", rooms: order out, and the scratch lent to follow and run (document 02, K11)
abbrev pub order_room : (n : ℕ) → ℕ
order_room n = 2 * n

abbrev pub scratch_size : ℕ
scratch_size = 65536
