-- WHAT THE JUDGE PRINTS (document 01, "The desk and its three services"), and what it tells on standard error, both for every
-- input. Assumes nothing: these are definitions.
use Rattle.std.specs.Prelude.{true, cond, List, [], ◌∷◌, ◌++◌, ℕ, ◌+◌, ◌*◌, eqb, get_or, replicate}
use Rattle.rules.specs.Limits.{most_boards, most_ops, most_inbox, report_header_size, board_row_size, op_row_size, order_room}
use Rattle.rules.specs.Sheet.{two, second_in, sheet_in}
use Rattle.rules.specs.Refusal.{sheet_refusal}
use Rattle.rules.specs.Order.{run}
use Rattle.rules.specs.Report.{report}
use Rattle.rules.specs.Premise.{premise_refusal}
use Rattle.text.specs.Text.{hex_line, numbers_line}
use Rattle.text.specs.Lengths.{most_places}

-- the longest report, of the second edition (document 02, K6), and the longest order
abbrev pub most_report : ℕ
most_report = report_header_size + board_row_size true * most_boards + op_row_size * most_ops

abbrev pub most_order : ℕ
most_order = order_room most_ops

-- the rooms of the two lines: three places a byte of a report, and eleven numbers
abbrev pub line_size : ℕ
line_size = 3 * most_report

abbrev pub told_size : ℕ
told_size = most_places * 11

-- a zeroed room
abbrev pub zeros : ℕ → List ℕ
zeros n = replicate n 0

-- run's report from zeroed inboxes
unfoldable pub report_for : (sheet : List ℕ) → List ℕ
report_for bs = report (second_in bs) (sheet_in bs) (run (sheet_in bs) (zeros most_inbox)).end

unfoldable pub report_line : (sheet : List ℕ) → List ℕ
report_line bs = hex_line (report_for bs)

-- a refusal: number and place
unfoldable pub refusal_line : (number place : ℕ) → List ℕ
refusal_line n p = numbers_line (n ∷ p ∷ [])

-- the line for a sheet that check accepts, or the refusal: no room is short, so that run refuses what check refuses
unfoldable pub unless_refused : (sheet line : List ℕ) → List ℕ
unless_refused bs line =
    let f = sheet_refusal bs in
    cond (eqb f.number 0) line (refusal_line f.number f.place)

-- STANDARD OUTPUT
unfoldable pub printed : (sheet : List ℕ) → List ℕ
printed bs = unless_refused bs (report_line bs)

-- a report's header in numbers: verdict, stop rank, stop operation, steps, boards, operations, pending messages, pending receives,
-- cut messages
unfoldable pub header_numbers : (report : List ℕ) → List ℕ
header_numbers r =
    get_or r 0 0 ∷ get_or r 1 0 ∷ two r 2 ∷ two r 4 ∷ two r 6 ∷ two r 8 ∷ two r 10 ∷ two r 12 ∷ two r 14 ∷ []

-- these, and premise's number and place
unfoldable pub facts_line : (sheet : List ℕ) → List ℕ
facts_line bs =
    let q = premise_refusal bs in
    numbers_line (header_numbers (report_for bs) ++ (q.number ∷ q.place ∷ []))

-- STANDARD ERROR
unfoldable pub told : (sheet : List ℕ) → List ℕ
told bs = unless_refused bs (facts_line bs)
