-- Where each part of a job stands in scratch, in terms of the most operations and boards: another limit changes one number.
-- Rows have the report's own format, so that writing the report is a copy. Assumes nothing: these are definitions.
use Rattle.std.specs.Prelude.{true, ℕ, ◌+◌, ◌*◌}
use Rattle.rules.specs.Limits.{most_ops, most_boards, board_row_size, op_row_size}

-- rows of operations start at 0, 12 bytes each
abbrev pub row_at : (i : ℕ) → ℕ
row_at i = op_row_size * i

-- places of boards, as many bytes each as a board's row of the second edition has (document 02, K6)
abbrev pub seat_size : ℕ
seat_size = board_row_size true

abbrev pub places_at : ℕ
places_at = op_row_size * most_ops

abbrev pub seat_at : (r : ℕ) → ℕ
seat_at r = places_at + seat_size * r

-- the two waiting lists: pending messages and posted receives, two bytes an operation
abbrev pub messages_at : ℕ
messages_at = places_at + seat_size * most_boards

abbrev pub receives_at : ℕ
receives_at = messages_at + 2 * most_ops

abbrev pub word_at : (base k : ℕ) → ℕ
word_at base k = base + 2 * k

-- the rank of each operation, a byte each
abbrev pub ranks_at : ℕ
ranks_at = receives_at + 2 * most_ops

abbrev pub rank_at : (i : ℕ) → ℕ
rank_at i = ranks_at + i

-- for each wait the operation that it waits for, two bytes each
abbrev pub waits_at : ℕ
waits_at = ranks_at + most_ops

abbrev pub layout_end : ℕ
layout_end = waits_at + 2 * most_ops
