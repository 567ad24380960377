-- Bench jobs of the second edition (document 02, K6): which standard sends are buffered, what their room is charged and when the
-- charge goes, and that the two accounts of a board are two. Worked out by hand, save the whole reports: these, as the CRCs, are from
-- a program that shares nothing with the definitions. BenchNumbered and BenchProbes say how to read a job. Beside that
--   draft_2 communicators CRC payload boards, a sheet of the second edition
--   roomed attached-size inbox-size standard-room operations
--   row_2 operations-finished in_use peak state room-in-use room_peak, of a board
-- Assumes nothing.
use Rattle.std.specs.Prelude.{List, [], ◌∷◌, ℕ}
use Rattle.rules.specs.BenchJob.{standard, buffered, synchronous, send, isend, receive, wait, query}
use Rattle.rules.specs.BenchJob.{roomed, Draft, draft_2, runs, follows, still_able, finished, deadlock, overflow}
use Rattle.rules.specs.BenchJob.{◌meets◌, row_2, said, ◌becomes◌, pending, cut, told, BenchJob, bench, bench_whole, bench_finds}

-- the sheet of job 6 with a room for each rank; each message has 2 bytes
unfoldable pub both_send_first : (crc room_0 room_1 : ℕ) → Draft
both_send_first k a b =
    draft_2 1 k (11 ∷ 12 ∷ 13 ∷ 14 ∷ [])
    (roomed 0 2 a (send standard 1 0 5 0 2 ∷ receive 1 0 5 0 2 ∷ [])
    ∷ roomed 0 2 b (send standard 0 0 5 2 2 ∷ receive 0 0 5 0 2 ∷ []) ∷ [])

unfoldable pub both_rooms_sheet : Draft
both_rooms_sheet = both_send_first 0xc8c5 2 2

-- rank 0 sends 2 and 3 bytes, which its room holds one at a time, and then receives; rank 1 receives the first, sends
-- synchronously and then receives the second
unfoldable pub some_covered_sheet : Draft
some_covered_sheet =
    draft_2 1 0x8439 (11 ∷ 12 ∷ 13 ∷ 14 ∷ 15 ∷ 16 ∷ [])
    (roomed 0 1 4 (send standard 1 0 4 0 2 ∷ send standard 1 0 4 2 3 ∷ receive 1 0 5 0 1 ∷ [])
    ∷ roomed 0 5 0 (receive 0 0 4 0 2 ∷ send synchronous 0 0 5 5 1 ∷ receive 0 0 4 2 3 ∷ []) ∷ [])

-- rank 0's buffered send fills its attached buffer, 2 + 32, and its standard one its room, 3
unfoldable pub two_accounts_sheet : Draft
two_accounts_sheet =
    draft_2 1 0x000e (11 ∷ 12 ∷ 13 ∷ 14 ∷ 15 ∷ [])
    (roomed 34 0 3 (send buffered 1 0 1 0 2 ∷ send standard 1 0 2 2 3 ∷ [])
    ∷ roomed 0 5 0 (receive 0 0 1 0 2 ∷ receive 0 0 2 2 3 ∷ []) ∷ [])

unfoldable pub room_jobs : List BenchJob
room_jobs =
    -- 6, both rooms hold the message: finished. Rank 0's message waits in its room; rank 1's finds its receive and is never charged
    bench
    both_rooms_sheet
    (runs (0 ∷ 0 ∷ 0 ∷ 1 ∷ 0 ∷ 1 ∷ 1 ∷ 1 ∷ []))
    (told finished 8 (0 meets 3 ∷ 2 meets 1 ∷ []) (pending 0 0) (cut 0) (row_2 2 0 0 2 0 2 ∷ row_2 2 0 0 2 0 0 ∷ []))
    ((90 ∷ 91 ∷ 92 ∷ 93 ∷ []) becomes (13 ∷ 14 ∷ 11 ∷ 12 ∷ []))
    -- 6, both messages in their rooms: state 2, both boards able
    ∷ bench_whole
    both_rooms_sheet
    (follows (0 ∷ 1 ∷ 0 ∷ 1 ∷ []))
    (told still_able 4 [] (pending 2 0) (cut 0) (row_2 1 0 0 1 2 2 ∷ row_2 1 0 0 1 2 2 ∷ []))
    ((90 ∷ 91 ∷ 92 ∷ 93 ∷ []) becomes (90 ∷ 91 ∷ 92 ∷ 93 ∷ []))
    (0x00 ∷ 0xff ∷ 0xff ∷ 0xff ∷ 0x04 ∷ 0x00 ∷ 0x02 ∷ 0x00 ∷ 0x04 ∷ 0x00 ∷ 0x02 ∷ 0x00 ∷ 0x00 ∷ 0x00 ∷ 0x00 ∷ 0x00
    ∷ 0x01 ∷ 0x00 ∷ 0x00 ∷ 0x00 ∷ 0x00 ∷ 0x00 ∷ 0x01 ∷ 0x00 ∷ 0x02 ∷ 0x00 ∷ 0x02 ∷ 0x00
    ∷ 0x01 ∷ 0x00 ∷ 0x00 ∷ 0x00 ∷ 0x00 ∷ 0x00 ∷ 0x01 ∷ 0x00 ∷ 0x02 ∷ 0x00 ∷ 0x02 ∷ 0x00
    ∷ 0x02 ∷ 0x00 ∷ 0xff ∷ 0xff ∷ 0xff ∷ 0xff ∷ 0xff ∷ 0xff ∷ 0x00 ∷ 0x00 ∷ 0x00 ∷ 0x00
    ∷ 0x00 ∷ 0x00 ∷ 0xff ∷ 0xff ∷ 0xff ∷ 0xff ∷ 0xff ∷ 0xff ∷ 0x00 ∷ 0x00 ∷ 0x00 ∷ 0x00
    ∷ 0x02 ∷ 0x00 ∷ 0xff ∷ 0xff ∷ 0xff ∷ 0xff ∷ 0xff ∷ 0xff ∷ 0x00 ∷ 0x00 ∷ 0x00 ∷ 0x00
    ∷ 0x00 ∷ 0x00 ∷ 0xff ∷ 0xff ∷ 0xff ∷ 0xff ∷ 0xff ∷ 0xff ∷ 0x00 ∷ 0x00 ∷ 0x00 ∷ 0x00 ∷ [])
    -- and received: the charges go
    ∷ bench
    both_rooms_sheet
    (follows (0 ∷ 1 ∷ 0 ∷ 1 ∷ 0 ∷ 1 ∷ 0 ∷ 1 ∷ []))
    (told finished 8 (0 meets 3 ∷ 2 meets 1 ∷ []) (pending 0 0) (cut 0) (row_2 2 0 0 2 0 2 ∷ row_2 2 0 0 2 0 2 ∷ []))
    ((90 ∷ 91 ∷ 92 ∷ 93 ∷ []) becomes (13 ∷ 14 ∷ 11 ∷ 12 ∷ []))
    -- 6, rooms 0: deadlock, as in the first edition, in wider rows
    ∷ bench_whole
    (both_send_first 0x9de7 0 0)
    (runs (0 ∷ 1 ∷ []))
    (told deadlock 2 [] (pending 2 0) (cut 0) (row_2 0 0 0 0 0 0 ∷ row_2 0 0 0 0 0 0 ∷ []))
    ((90 ∷ 91 ∷ 92 ∷ 93 ∷ []) becomes (90 ∷ 91 ∷ 92 ∷ 93 ∷ []))
    (0x02 ∷ 0xff ∷ 0xff ∷ 0xff ∷ 0x02 ∷ 0x00 ∷ 0x02 ∷ 0x00 ∷ 0x04 ∷ 0x00 ∷ 0x02 ∷ 0x00 ∷ 0x00 ∷ 0x00 ∷ 0x00 ∷ 0x00
    ∷ 0x00 ∷ 0x00 ∷ 0x00 ∷ 0x00 ∷ 0x00 ∷ 0x00 ∷ 0x00 ∷ 0x00 ∷ 0x00 ∷ 0x00 ∷ 0x00 ∷ 0x00
    ∷ 0x00 ∷ 0x00 ∷ 0x00 ∷ 0x00 ∷ 0x00 ∷ 0x00 ∷ 0x00 ∷ 0x00 ∷ 0x00 ∷ 0x00 ∷ 0x00 ∷ 0x00
    ∷ 0x01 ∷ 0x00 ∷ 0xff ∷ 0xff ∷ 0xff ∷ 0xff ∷ 0xff ∷ 0xff ∷ 0x00 ∷ 0x00 ∷ 0x00 ∷ 0x00
    ∷ 0x00 ∷ 0x00 ∷ 0xff ∷ 0xff ∷ 0xff ∷ 0xff ∷ 0xff ∷ 0xff ∷ 0x00 ∷ 0x00 ∷ 0x00 ∷ 0x00
    ∷ 0x01 ∷ 0x00 ∷ 0xff ∷ 0xff ∷ 0xff ∷ 0xff ∷ 0xff ∷ 0xff ∷ 0x00 ∷ 0x00 ∷ 0x00 ∷ 0x00
    ∷ 0x00 ∷ 0x00 ∷ 0xff ∷ 0xff ∷ 0xff ∷ 0xff ∷ 0xff ∷ 0xff ∷ 0x00 ∷ 0x00 ∷ 0x00 ∷ 0x00 ∷ [])
    -- 6, both rooms a byte short: deadlock
    ∷ bench
    (both_send_first 0xb776 1 1)
    (runs (0 ∷ 1 ∷ []))
    (told deadlock 2 [] (pending 2 0) (cut 0) (row_2 0 0 0 0 0 0 ∷ row_2 0 0 0 0 0 0 ∷ []))
    ((90 ∷ 91 ∷ 92 ∷ 93 ∷ []) becomes (90 ∷ 91 ∷ 92 ∷ 93 ∷ []))
    -- 6, one room 0 and the other a byte short: deadlock
    ∷ bench
    (both_send_first 0xe841 0 1)
    (runs (0 ∷ 1 ∷ []))
    (told deadlock 2 [] (pending 2 0) (cut 0) (row_2 0 0 0 0 0 0 ∷ row_2 0 0 0 0 0 0 ∷ []))
    ((90 ∷ 91 ∷ 92 ∷ 93 ∷ []) becomes (90 ∷ 91 ∷ 92 ∷ 93 ∷ []))
    -- 6, one room a byte short, the other covers: finished. Rank 1 goes on to its receive, which takes rank 0's message
    ∷ bench
    (both_send_first 0x299c 1 2)
    (runs (0 ∷ 1 ∷ 1 ∷ 1 ∷ 0 ∷ 0 ∷ 0 ∷ 1 ∷ []))
    (told finished 8 (0 meets 3 ∷ 2 meets 1 ∷ []) (pending 0 0) (cut 0) (row_2 2 0 0 2 0 0 ∷ row_2 2 0 0 2 0 2 ∷ []))
    ((90 ∷ 91 ∷ 92 ∷ 93 ∷ []) becomes (13 ∷ 14 ∷ 11 ∷ 12 ∷ []))
    -- An empty message that nobody receives, room 1: buffered, charged nothing; its board finishes
    ∷ bench_whole
    (draft_2 1 0x7bec []
    (roomed 0 0 1 (send standard 1 0 1 0 0 ∷ [])
    ∷ roomed 0 0 0 [] ∷ []))
    (runs (0 ∷ 0 ∷ []))
    (told finished 2 [] (pending 1 0) (cut 0) (row_2 1 0 0 2 0 0 ∷ row_2 0 0 0 2 0 0 ∷ []))
    ([] becomes [])
    (0x01 ∷ 0xff ∷ 0xff ∷ 0xff ∷ 0x02 ∷ 0x00 ∷ 0x02 ∷ 0x00 ∷ 0x01 ∷ 0x00 ∷ 0x01 ∷ 0x00 ∷ 0x00 ∷ 0x00 ∷ 0x00 ∷ 0x00
    ∷ 0x01 ∷ 0x00 ∷ 0x00 ∷ 0x00 ∷ 0x00 ∷ 0x00 ∷ 0x02 ∷ 0x00 ∷ 0x00 ∷ 0x00 ∷ 0x00 ∷ 0x00
    ∷ 0x00 ∷ 0x00 ∷ 0x00 ∷ 0x00 ∷ 0x00 ∷ 0x00 ∷ 0x02 ∷ 0x00 ∷ 0x00 ∷ 0x00 ∷ 0x00 ∷ 0x00
    ∷ 0x02 ∷ 0x00 ∷ 0xff ∷ 0xff ∷ 0xff ∷ 0xff ∷ 0xff ∷ 0xff ∷ 0x00 ∷ 0x00 ∷ 0x00 ∷ 0x00 ∷ [])
    -- The same, room 0: not buffered, and its board hangs
    ∷ bench_whole
    (draft_2 1 0x5f78 []
    (roomed 0 0 0 (send standard 1 0 1 0 0 ∷ [])
    ∷ roomed 0 0 0 [] ∷ []))
    (runs (0 ∷ []))
    (told deadlock 1 [] (pending 1 0) (cut 0) (row_2 0 0 0 0 0 0 ∷ row_2 0 0 0 2 0 0 ∷ []))
    ([] becomes [])
    (0x02 ∷ 0xff ∷ 0xff ∷ 0xff ∷ 0x01 ∷ 0x00 ∷ 0x02 ∷ 0x00 ∷ 0x01 ∷ 0x00 ∷ 0x01 ∷ 0x00 ∷ 0x00 ∷ 0x00 ∷ 0x00 ∷ 0x00
    ∷ 0x00 ∷ 0x00 ∷ 0x00 ∷ 0x00 ∷ 0x00 ∷ 0x00 ∷ 0x00 ∷ 0x00 ∷ 0x00 ∷ 0x00 ∷ 0x00 ∷ 0x00
    ∷ 0x00 ∷ 0x00 ∷ 0x00 ∷ 0x00 ∷ 0x00 ∷ 0x00 ∷ 0x02 ∷ 0x00 ∷ 0x00 ∷ 0x00 ∷ 0x00 ∷ 0x00
    ∷ 0x01 ∷ 0x00 ∷ 0xff ∷ 0xff ∷ 0xff ∷ 0xff ∷ 0xff ∷ 0xff ∷ 0x00 ∷ 0x00 ∷ 0x00 ∷ 0x00 ∷ [])
    -- A room that is freed by a match and used again: both messages are buffered in turn, and the job finishes
    ∷ bench
    some_covered_sheet
    (follows (0 ∷ 0 ∷ 1 ∷ 1 ∷ 0 ∷ 0 ∷ 1 ∷ 0 ∷ 0 ∷ 1 ∷ 1 ∷ 1 ∷ []))
    (told finished 12 (0 meets 3 ∷ 1 meets 5 ∷ 4 meets 2 ∷ []) (pending 0 0) (cut 0) (row_2 3 0 0 2 0 3 ∷ row_2 3 0 0 2 0 0 ∷ []))
    ((90 ∷ 91 ∷ 92 ∷ 93 ∷ 94 ∷ 95 ∷ []) becomes (16 ∷ 11 ∷ 12 ∷ 13 ∷ 14 ∷ 15 ∷ []))
    -- The second message comes while the first waits in the room, does not fit and is not buffered. Nothing stops, and both boards hang
    ∷ bench
    some_covered_sheet
    (follows (0 ∷ 0 ∷ 0 ∷ 1 ∷ 1 ∷ 1 ∷ []))
    (told deadlock 6 (0 meets 3 ∷ []) (pending 2 0) (cut 0) (row_2 1 0 0 0 0 2 ∷ row_2 1 0 0 0 0 0 ∷ []))
    ((90 ∷ 91 ∷ 92 ∷ 93 ∷ 94 ∷ 95 ∷ []) becomes (90 ∷ 11 ∷ 12 ∷ 93 ∷ 94 ∷ 95 ∷ []))
    -- Of three messages the second does not fit beside the first, and the third fills the room; waits for the buffered ones end, and a
    -- query tells 0 of the other until it is received
    ∷ bench_finds
    (draft_2 1 0x1ec8 (11 ∷ 12 ∷ 13 ∷ 14 ∷ 15 ∷ 16 ∷ 17 ∷ [])
    (roomed 0 0 4 (isend standard 1 0 1 0 2 0 ∷ isend standard 1 0 2 2 3 1 ∷ isend standard 1 0 3 5 2 2 ∷ wait 0 ∷ wait 2 ∷ query 1 ∷ query 1 ∷ wait 1 ∷ [])
    ∷ roomed 0 3 0 (receive 0 0 2 0 3 ∷ []) ∷ []))
    (follows (0 ∷ 0 ∷ 0 ∷ 0 ∷ 0 ∷ 0 ∷ 1 ∷ 0 ∷ 0 ∷ 1 ∷ []))
    (told finished 10 (1 meets 8 ∷ []) (pending 2 0) (cut 0) (row_2 8 0 0 2 4 4 ∷ row_2 1 0 0 2 0 0 ∷ []))
    (said 5 0 ∷ said 6 1 ∷ [])
    ((90 ∷ 91 ∷ 92 ∷ []) becomes (13 ∷ 14 ∷ 15 ∷ []))
    -- Two accounts: a buffered message fills the attached buffer, 2 + 32, and a standard one the room, 3
    ∷ bench
    two_accounts_sheet
    (follows (0 ∷ 0 ∷ 0 ∷ 0 ∷ []))
    (told still_able 4 [] (pending 2 0) (cut 0) (row_2 2 34 34 2 3 3 ∷ row_2 0 0 0 1 0 0 ∷ []))
    ((90 ∷ 91 ∷ 92 ∷ 93 ∷ 94 ∷ []) becomes (90 ∷ 91 ∷ 92 ∷ 93 ∷ 94 ∷ []))
    -- the first is received: its charge goes from its own account
    ∷ bench
    two_accounts_sheet
    (follows (0 ∷ 0 ∷ 0 ∷ 0 ∷ 1 ∷ 1 ∷ []))
    (told still_able 6 (0 meets 2 ∷ []) (pending 1 0) (cut 0) (row_2 2 0 34 2 3 3 ∷ row_2 1 0 0 1 0 0 ∷ []))
    ((90 ∷ 91 ∷ 92 ∷ 93 ∷ 94 ∷ []) becomes (11 ∷ 12 ∷ 92 ∷ 93 ∷ 94 ∷ []))
    -- both are
    ∷ bench
    two_accounts_sheet
    (follows (0 ∷ 0 ∷ 0 ∷ 0 ∷ 1 ∷ 1 ∷ 1 ∷ 1 ∷ []))
    (told finished 8 (0 meets 2 ∷ 1 meets 3 ∷ []) (pending 0 0) (cut 0) (row_2 2 0 34 2 0 3 ∷ row_2 2 0 0 2 0 0 ∷ []))
    ((90 ∷ 91 ∷ 92 ∷ 93 ∷ 94 ∷ []) becomes (11 ∷ 12 ∷ 13 ∷ 14 ∷ 15 ∷ []))
    -- A room does not help a buffered send: overflow
    ∷ bench
    (draft_2 1 0x2978 (11 ∷ 12 ∷ [])
    (roomed 33 0 100 (send buffered 1 0 1 0 2 ∷ [])
    ∷ roomed 0 2 0 (receive 0 0 1 0 2 ∷ []) ∷ []))
    (runs (0 ∷ []))
    (told (overflow 0 0) 1 [] (pending 0 0) (cut 0) (row_2 0 0 0 0 0 0 ∷ row_2 0 0 0 0 0 0 ∷ []))
    ((90 ∷ 91 ∷ []) becomes (90 ∷ 91 ∷ []))
    -- nor a synchronous one, which waits for its receive
    ∷ bench
    (draft_2 1 0x91dc (11 ∷ 12 ∷ [])
    (roomed 100 0 100 (send synchronous 1 0 1 0 2 ∷ [])
    ∷ roomed 0 0 0 [] ∷ []))
    (runs (0 ∷ []))
    (told deadlock 1 [] (pending 1 0) (cut 0) (row_2 0 0 0 0 0 0 ∷ row_2 0 0 0 2 0 0 ∷ []))
    ([] becomes [])
    -- 10 in standard mode: a send to oneself is buffered, and the receive behind it takes it
    ∷ bench
    (draft_2 1 0xbd25 (11 ∷ 12 ∷ [])
    (roomed 0 2 2 (send standard 0 0 3 0 2 ∷ receive 0 0 3 0 2 ∷ []) ∷ []))
    (runs (0 ∷ 0 ∷ 0 ∷ 0 ∷ []))
    (told finished 4 (0 meets 1 ∷ []) (pending 0 0) (cut 0) (row_2 2 0 0 2 0 2 ∷ []))
    ((90 ∷ 91 ∷ []) becomes (11 ∷ 12 ∷ []))
    ∷ []
