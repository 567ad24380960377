-- The starred bench jobs of document 01, "Bench jobs", 1 to 12 in its order, each variant behind its job. What must come out is
-- worked out by hand from document 01 and the examples of 000 and 002 that it cites. Inboxes start from bytes 90, 91 and so on,
-- payloads are 11, 12 and so on, so that each byte tells where it came from.
-- To read a sheet:
--   draft communicators CRC payload boards
--   script attached-size inbox-size operations
--   send mode to communicator tag offset length          isend .. and a slot
--   receive source communicator tag offset capacity      ireceive .. and a slot
-- To read a job:
--   bench sheet order outcome (inboxes becomes inboxes)     bench_whole .. and the whole report
--   told verdict steps matches (pending messages receives) (cut matches) board_rows
--   row operations-finished in_use peak state, of a board
-- Assumes nothing.
use Rattle.std.specs.Prelude.{List, [], ◌∷◌}
use Rattle.rules.specs.BenchJob.{standard, buffered, synchronous, ready, any, send, isend, receive, ireceive, wait, script, Draft}
use Rattle.rules.specs.BenchJob.{draft, runs, follows, finished, deadlock, overflow, not_ready, ◌meets◌, row}
use Rattle.rules.specs.BenchJob.{◌becomes◌, pending, cut, told, BenchJob, bench, bench_whole}

-- the sheet of job 1
unfoldable pub case_1_sheet : Draft
case_1_sheet =
    draft 1 0xde40 (11 ∷ 12 ∷ 13 ∷ [])
    (script 0 0 (send synchronous 1 0 7 0 3 ∷ [])
    ∷ script 0 4 (receive 0 0 any 0 4 ∷ []) ∷ [])

-- the sheet of job 7
unfoldable pub nonblocking_sheet : Draft
nonblocking_sheet =
    draft 1 0x88cb (11 ∷ 12 ∷ 13 ∷ 14 ∷ [])
    (script 0 0 (isend standard 1 0 0 0 2 0 ∷ isend standard 1 0 0 2 2 1 ∷ wait 0 ∷ wait 1 ∷ [])
    ∷ script 0 4 (ireceive 0 0 any 0 2 0 ∷ ireceive 0 0 0 2 2 1 ∷ wait 0 ∷ wait 1 ∷ []) ∷ [])

-- the sheet of job 9
unfoldable pub ready_sheet : Draft
ready_sheet =
    draft 1 0x0081 (11 ∷ 12 ∷ [])
    (script 0 0 (send ready 1 0 3 0 2 ∷ [])
    ∷ script 0 2 (receive 0 0 3 0 2 ∷ []) ∷ [])

-- the sheet of job 12
unfoldable pub any_source_sheet : Draft
any_source_sheet =
    draft 1 0x649e (11 ∷ 12 ∷ [])
    (script 0 0 (send standard 2 0 1 0 1 ∷ [])
    ∷ script 0 0 (send standard 2 0 2 1 1 ∷ [])
    ∷ script 0 2 (receive any 0 any 0 1 ∷ receive any 0 any 1 1 ∷ []) ∷ [])

unfoldable pub numbered_jobs : List BenchJob
numbered_jobs =
    -- 1. A synchronous send meets a receive of any tag. The report is document 01's own
    bench_whole case_1_sheet
    (runs (0 ∷ 1 ∷ 0 ∷ 1 ∷ []))
    (told finished 4 (0 meets 1 ∷ []) (pending 0 0) (cut 0) (row 1 0 0 2 ∷ row 1 0 0 2 ∷ []))
    ((90 ∷ 91 ∷ 92 ∷ 93 ∷ []) becomes (11 ∷ 12 ∷ 13 ∷ 93 ∷ []))
    (0x01 ∷ 0xff ∷ 0xff ∷ 0xff ∷ 0x04 ∷ 0x00 ∷ 0x02 ∷ 0x00 ∷ 0x02 ∷ 0x00 ∷ 0x00 ∷ 0x00 ∷ 0x00 ∷ 0x00 ∷ 0x00 ∷ 0x00
    ∷ 0x01 ∷ 0x00 ∷ 0x00 ∷ 0x00 ∷ 0x00 ∷ 0x00 ∷ 0x02 ∷ 0x00
    ∷ 0x01 ∷ 0x00 ∷ 0x00 ∷ 0x00 ∷ 0x00 ∷ 0x00 ∷ 0x02 ∷ 0x00
    ∷ 0x03 ∷ 0x00 ∷ 0x01 ∷ 0x00 ∷ 0xff ∷ 0xff ∷ 0xff ∷ 0xff ∷ 0x00 ∷ 0x00 ∷ 0x00 ∷ 0x00
    ∷ 0x03 ∷ 0x00 ∷ 0x00 ∷ 0x00 ∷ 0x00 ∷ 0x00 ∷ 0x07 ∷ 0x00 ∷ 0x03 ∷ 0x00 ∷ 0x00 ∷ 0x00 ∷ [])
    -- 2. Non-overtaking (000): two buffered sends of one tag, attached for exactly both, 2 + 32 and 3 + 32; the first goes to the
    -- first receive, of any tag, the second to the second
    ∷ bench
    (draft 1 0xdbd0 (11 ∷ 12 ∷ 13 ∷ 14 ∷ 15 ∷ [])
    (script 69 0 (send buffered 1 0 4 0 2 ∷ send buffered 1 0 4 2 3 ∷ [])
    ∷ script 0 6 (receive 0 0 any 0 3 ∷ receive 0 0 4 3 3 ∷ []) ∷ []))
    (runs (0 ∷ 0 ∷ 0 ∷ 0 ∷ 1 ∷ 1 ∷ 1 ∷ 1 ∷ []))
    (told finished 8 (0 meets 2 ∷ 1 meets 3 ∷ []) (pending 0 0) (cut 0) (row 2 0 69 2 ∷ row 2 0 0 2 ∷ []))
    ((90 ∷ 91 ∷ 92 ∷ 93 ∷ 94 ∷ 95 ∷ []) becomes (11 ∷ 12 ∷ 92 ∷ 13 ∷ 14 ∷ 15 ∷ []))
    -- 3. Two intertwined pairs (000): the messages are received in the reverse of the order in which they were sent
    ∷ bench
    (draft 1 0x2a9d (11 ∷ 12 ∷ 13 ∷ 14 ∷ 15 ∷ [])
    (script 35 0 (send buffered 1 0 1 0 3 ∷ send synchronous 1 0 2 3 2 ∷ [])
    ∷ script 0 5 (receive 0 0 2 0 2 ∷ receive 0 0 1 2 3 ∷ []) ∷ []))
    (runs (0 ∷ 0 ∷ 0 ∷ 1 ∷ 0 ∷ 1 ∷ 1 ∷ 1 ∷ []))
    (told finished 8 (0 meets 3 ∷ 1 meets 2 ∷ []) (pending 0 0) (cut 0) (row 2 0 35 2 ∷ row 2 0 0 2 ∷ []))
    ((90 ∷ 91 ∷ 92 ∷ 93 ∷ 94 ∷ []) becomes (14 ∷ 15 ∷ 11 ∷ 12 ∷ 13 ∷ []))
    -- 3, attached one byte under the first charge, 3 + 32: overflow. The stopping step counts, and its operation is not entered
    ∷ bench
    (draft 1 0xb687 (11 ∷ 12 ∷ 13 ∷ 14 ∷ 15 ∷ [])
    (script 34 0 (send buffered 1 0 1 0 3 ∷ send synchronous 1 0 2 3 2 ∷ [])
    ∷ script 0 5 (receive 0 0 2 0 2 ∷ receive 0 0 1 2 3 ∷ []) ∷ []))
    (runs (0 ∷ []))
    (told (overflow 0 0) 1 [] (pending 0 0) (cut 0) (row 0 0 0 0 ∷ row 0 0 0 0 ∷ []))
    ((90 ∷ 91 ∷ 92 ∷ 93 ∷ 94 ∷ []) becomes (90 ∷ 91 ∷ 92 ∷ 93 ∷ 94 ∷ []))
    -- 4. An exchange (000): rank 0 sends then receives, rank 1 receives then sends
    ∷ bench
    (draft 1 0x1f17 (11 ∷ 12 ∷ 13 ∷ 14 ∷ [])
    (script 0 2 (send standard 1 0 5 0 2 ∷ receive 1 0 5 0 2 ∷ [])
    ∷ script 0 2 (receive 0 0 5 0 2 ∷ send standard 0 0 5 2 2 ∷ []) ∷ []))
    (runs (0 ∷ 1 ∷ 0 ∷ 0 ∷ 1 ∷ 1 ∷ 0 ∷ 1 ∷ []))
    (told finished 8 (0 meets 2 ∷ 3 meets 1 ∷ []) (pending 0 0) (cut 0) (row 2 0 0 2 ∷ row 2 0 0 2 ∷ []))
    ((90 ∷ 91 ∷ 92 ∷ 93 ∷ []) becomes (13 ∷ 14 ∷ 11 ∷ 12 ∷ []))
    -- 5. Both receive first: deadlock after 2 steps
    ∷ bench
    (draft 1 0x09ea (11 ∷ 12 ∷ 13 ∷ 14 ∷ [])
    (script 0 2 (receive 1 0 5 0 2 ∷ send standard 1 0 5 0 2 ∷ [])
    ∷ script 0 2 (receive 0 0 5 0 2 ∷ send standard 0 0 5 2 2 ∷ []) ∷ []))
    (runs (0 ∷ 1 ∷ []))
    (told deadlock 2 [] (pending 0 2) (cut 0) (row 0 0 0 0 ∷ row 0 0 0 0 ∷ []))
    ((90 ∷ 91 ∷ 92 ∷ 93 ∷ []) becomes (90 ∷ 91 ∷ 92 ∷ 93 ∷ []))
    -- 6. Both send first, in standard mode, which is not buffered here: deadlock
    ∷ bench
    (draft 1 0xfab6 (11 ∷ 12 ∷ 13 ∷ 14 ∷ [])
    (script 0 2 (send standard 1 0 5 0 2 ∷ receive 1 0 5 0 2 ∷ [])
    ∷ script 0 2 (send standard 0 0 5 2 2 ∷ receive 0 0 5 0 2 ∷ []) ∷ []))
    (runs (0 ∷ 1 ∷ []))
    (told deadlock 2 [] (pending 2 0) (cut 0) (row 0 0 0 0 ∷ row 0 0 0 0 ∷ []))
    ((90 ∷ 91 ∷ 92 ∷ 93 ∷ []) becomes (90 ∷ 91 ∷ 92 ∷ 93 ∷ []))
    -- 7. Message ordering for nonblocking operations (002): both sends, both receives, waits; in order
    ∷ bench nonblocking_sheet
    (runs (0 ∷ 0 ∷ 1 ∷ 0 ∷ 1 ∷ 0 ∷ 1 ∷ 1 ∷ []))
    (told finished 8 (0 meets 4 ∷ 1 meets 5 ∷ []) (pending 0 0) (cut 0) (row 4 0 0 2 ∷ row 4 0 0 2 ∷ []))
    ((90 ∷ 91 ∷ 92 ∷ 93 ∷ []) becomes (11 ∷ 12 ∷ 13 ∷ 14 ∷ []))
    -- 8. Progress (002): the synchronous send completes when the nonblocking receive is initiated, before its board reaches the
    -- wait
    ∷ bench
    (draft 1 0x6965 (11 ∷ 12 ∷ [])
    (script 0 0 (send synchronous 1 0 0 0 1 ∷ send standard 1 0 1 1 1 ∷ [])
    ∷ script 0 2 (ireceive 0 0 0 0 1 0 ∷ receive 0 0 1 1 1 ∷ wait 0 ∷ []) ∷ []))
    (runs (0 ∷ 1 ∷ 0 ∷ 0 ∷ 1 ∷ 0 ∷ 1 ∷ 1 ∷ []))
    (told finished 8 (0 meets 2 ∷ 1 meets 3 ∷ []) (pending 0 0) (cut 0) (row 2 0 0 2 ∷ row 3 0 0 2 ∷ []))
    ((90 ∷ 91 ∷ []) becomes (11 ∷ 12 ∷ []))
    -- 9. A ready send with no receive posted: not ready
    ∷ bench ready_sheet
    (runs (0 ∷ []))
    (told (not_ready 0 0) 1 [] (pending 0 0) (cut 0) (row 0 0 0 0 ∷ row 0 0 0 0 ∷ []))
    ((90 ∷ 91 ∷ []) becomes (90 ∷ 91 ∷ []))
    -- 9, the receive posted first: finished
    ∷ bench ready_sheet
    (follows (1 ∷ 0 ∷ 0 ∷ 1 ∷ []))
    (told finished 4 (0 meets 1 ∷ []) (pending 0 0) (cut 0) (row 1 0 0 2 ∷ row 1 0 0 2 ∷ []))
    ((90 ∷ 91 ∷ []) becomes (11 ∷ 12 ∷ []))
    -- 10. A synchronous send to oneself, the receive after it: deadlock. Rank 1 has no operation, and is finished
    ∷ bench
    (draft 1 0xfaf7 (11 ∷ 12 ∷ [])
    (script 0 2 (send synchronous 0 0 3 0 2 ∷ receive 0 0 3 0 2 ∷ [])
    ∷ script 0 0 [] ∷ []))
    (runs (0 ∷ []))
    (told deadlock 1 [] (pending 1 0) (cut 0) (row 0 0 0 0 ∷ row 0 0 0 2 ∷ []))
    ((90 ∷ 91 ∷ []) becomes (90 ∷ 91 ∷ []))
    -- 10, a nonblocking receive before it and a wait after: finished
    ∷ bench
    (draft 1 0x67bc (11 ∷ 12 ∷ [])
    (script 0 2 (ireceive 0 0 3 0 2 0 ∷ send synchronous 0 0 3 0 2 ∷ wait 0 ∷ [])
    ∷ script 0 0 [] ∷ []))
    (runs (0 ∷ 0 ∷ 0 ∷ 0 ∷ []))
    (told finished 4 (1 meets 0 ∷ []) (pending 0 0) (cut 0) (row 3 0 0 2 ∷ row 0 0 0 2 ∷ []))
    ((90 ∷ 91 ∷ []) becomes (11 ∷ 12 ∷ []))
    -- 11. Length 5, capacity 4: cut. The first 4 bytes are copied, and the status tells source, tag and full length
    ∷ bench_whole
    (draft 1 0xa8cc (11 ∷ 12 ∷ 13 ∷ 14 ∷ 15 ∷ [])
    (script 0 0 (send standard 1 0 7 0 5 ∷ [])
    ∷ script 0 6 (receive 0 0 7 0 4 ∷ []) ∷ []))
    (runs (0 ∷ 1 ∷ 0 ∷ 1 ∷ []))
    (told finished 4 (0 meets 1 ∷ []) (pending 0 0) (cut 1) (row 1 0 0 2 ∷ row 1 0 0 2 ∷ []))
    ((90 ∷ 91 ∷ 92 ∷ 93 ∷ 94 ∷ 95 ∷ []) becomes (11 ∷ 12 ∷ 13 ∷ 14 ∷ 94 ∷ 95 ∷ []))
    (0x01 ∷ 0xff ∷ 0xff ∷ 0xff ∷ 0x04 ∷ 0x00 ∷ 0x02 ∷ 0x00 ∷ 0x02 ∷ 0x00 ∷ 0x00 ∷ 0x00 ∷ 0x00 ∷ 0x00 ∷ 0x01 ∷ 0x00
    ∷ 0x01 ∷ 0x00 ∷ 0x00 ∷ 0x00 ∷ 0x00 ∷ 0x00 ∷ 0x02 ∷ 0x00
    ∷ 0x01 ∷ 0x00 ∷ 0x00 ∷ 0x00 ∷ 0x00 ∷ 0x00 ∷ 0x02 ∷ 0x00
    ∷ 0x03 ∷ 0x00 ∷ 0x01 ∷ 0x00 ∷ 0xff ∷ 0xff ∷ 0xff ∷ 0xff ∷ 0x00 ∷ 0x00 ∷ 0x00 ∷ 0x00
    ∷ 0x03 ∷ 0x01 ∷ 0x00 ∷ 0x00 ∷ 0x00 ∷ 0x00 ∷ 0x07 ∷ 0x00 ∷ 0x05 ∷ 0x00 ∷ 0x00 ∷ 0x00 ∷ [])
    -- 11, length 4: whole
    ∷ bench
    (draft 1 0xed78 (11 ∷ 12 ∷ 13 ∷ 14 ∷ 15 ∷ [])
    (script 0 0 (send standard 1 0 7 0 4 ∷ [])
    ∷ script 0 6 (receive 0 0 7 0 4 ∷ []) ∷ []))
    (runs (0 ∷ 1 ∷ 0 ∷ 1 ∷ []))
    (told finished 4 (0 meets 1 ∷ []) (pending 0 0) (cut 0) (row 1 0 0 2 ∷ row 1 0 0 2 ∷ []))
    ((90 ∷ 91 ∷ 92 ∷ 93 ∷ 94 ∷ 95 ∷ []) becomes (11 ∷ 12 ∷ 13 ∷ 14 ∷ 94 ∷ 95 ∷ []))
    -- 12. Ranks 0 and 1 send to rank 2, which receives twice from any source: rank 0's message arrived first
    ∷ bench any_source_sheet
    (follows (0 ∷ 1 ∷ 2 ∷ 2 ∷ 2 ∷ 2 ∷ 0 ∷ 1 ∷ []))
    (told finished 8 (0 meets 2 ∷ 1 meets 3 ∷ []) (pending 0 0) (cut 0) (row 1 0 0 2 ∷ row 1 0 0 2 ∷ row 2 0 0 2 ∷ []))
    ((90 ∷ 91 ∷ []) becomes (11 ∷ 12 ∷ []))
    -- 12, rank 1's message arrived first, and goes to the first receive: arrival decides, not rank
    ∷ bench_whole any_source_sheet
    (follows (1 ∷ 0 ∷ 2 ∷ 2 ∷ 2 ∷ 2 ∷ 0 ∷ 1 ∷ []))
    (told finished 8 (0 meets 3 ∷ 1 meets 2 ∷ []) (pending 0 0) (cut 0) (row 1 0 0 2 ∷ row 1 0 0 2 ∷ row 2 0 0 2 ∷ []))
    ((90 ∷ 91 ∷ []) becomes (12 ∷ 11 ∷ []))
    (0x01 ∷ 0xff ∷ 0xff ∷ 0xff ∷ 0x08 ∷ 0x00 ∷ 0x03 ∷ 0x00 ∷ 0x04 ∷ 0x00 ∷ 0x00 ∷ 0x00 ∷ 0x00 ∷ 0x00 ∷ 0x00 ∷ 0x00
    ∷ 0x01 ∷ 0x00 ∷ 0x00 ∷ 0x00 ∷ 0x00 ∷ 0x00 ∷ 0x02 ∷ 0x00
    ∷ 0x01 ∷ 0x00 ∷ 0x00 ∷ 0x00 ∷ 0x00 ∷ 0x00 ∷ 0x02 ∷ 0x00
    ∷ 0x02 ∷ 0x00 ∷ 0x00 ∷ 0x00 ∷ 0x00 ∷ 0x00 ∷ 0x02 ∷ 0x00
    ∷ 0x03 ∷ 0x00 ∷ 0x03 ∷ 0x00 ∷ 0xff ∷ 0xff ∷ 0xff ∷ 0xff ∷ 0x00 ∷ 0x00 ∷ 0x00 ∷ 0x00
    ∷ 0x03 ∷ 0x00 ∷ 0x02 ∷ 0x00 ∷ 0xff ∷ 0xff ∷ 0xff ∷ 0xff ∷ 0x00 ∷ 0x00 ∷ 0x00 ∷ 0x00
    ∷ 0x03 ∷ 0x00 ∷ 0x01 ∷ 0x00 ∷ 0x01 ∷ 0x00 ∷ 0x02 ∷ 0x00 ∷ 0x01 ∷ 0x00 ∷ 0x00 ∷ 0x00
    ∷ 0x03 ∷ 0x00 ∷ 0x00 ∷ 0x00 ∷ 0x00 ∷ 0x00 ∷ 0x01 ∷ 0x00 ∷ 0x01 ∷ 0x00 ∷ 0x00 ∷ 0x00 ∷ [])
    ∷ []
