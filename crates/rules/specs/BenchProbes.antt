-- Bench jobs with probes and status queries (document 02, K9): what a probe waits for, which message it tells and that it leaves
-- everything as it was; what a query tells, when, and that it never waits. Worked out by hand, save the whole reports: these, as
-- the CRCs, are from a program that shares nothing with the definitions. BenchNumbered says how to read a job. Beside that
--   probe source communicator tag                        query slot
--   bench_finds sheet order outcome findings inboxes     bench_finds_whole .. and the whole report
--   found probe source tag length, of a finished probe's row; said query complete, of a finished query's
-- Assumes nothing.
use Rattle.std.specs.Prelude.{List, [], ◌∷◌}
use Rattle.rules.specs.BenchJob.{standard, buffered, synchronous, ready, any, send, isend, receive, ireceive, wait, probe, query}
use Rattle.rules.specs.BenchJob.{script, Draft, draft, runs, follows, still_able, finished, deadlock, not_ready}
use Rattle.rules.specs.BenchJob.{◌meets◌, row, found, said, ◌becomes◌, pending, cut, told, BenchJob}
use Rattle.rules.specs.BenchJob.{bench_finds, bench_finds_whole}

-- a synchronous message of 3 bytes, which rank 1 probes for and then receives
unfoldable pub probe_sheet : Draft
probe_sheet =
    draft 1 0x0a8d (11 ∷ 12 ∷ 13 ∷ [])
    (script 0 0 (send synchronous 1 0 7 0 3 ∷ [])
    ∷ script 0 4 (probe 0 0 7 ∷ receive 0 0 7 0 4 ∷ []) ∷ [])

-- the same of a buffered message of 2 bytes, charged 2 + 32; the probe is of any tag
unfoldable pub probe_buffered_sheet : Draft
probe_buffered_sheet =
    draft 1 0x1355 (11 ∷ 12 ∷ [])
    (script 34 0 (send buffered 1 0 5 0 2 ∷ [])
    ∷ script 0 2 (probe 0 0 any ∷ receive 0 0 5 0 2 ∷ []) ∷ [])

-- ranks 0 and 1 send to rank 2, which probes for any source and then receives from each by name
unfoldable pub any_probe_sheet : Draft
any_probe_sheet =
    draft 1 0x7580 (11 ∷ 12 ∷ 13 ∷ [])
    (script 0 0 (send standard 2 0 1 0 1 ∷ [])
    ∷ script 0 0 (send standard 2 0 2 1 2 ∷ [])
    ∷ script 0 3 (probe any 0 any ∷ receive 1 0 2 0 2 ∷ receive 0 0 1 2 1 ∷ []) ∷ [])

-- a synchronous send, two queries on its slot and then its wait; rank 1 receives
unfoldable pub query_sheet : Draft
query_sheet =
    draft 1 0xbef8 (11 ∷ [])
    (script 0 0 (isend synchronous 1 0 1 0 1 0 ∷ query 0 ∷ query 0 ∷ wait 0 ∷ [])
    ∷ script 0 1 (receive 0 0 1 0 1 ∷ []) ∷ [])

-- the same of a receive, in the highest slot; rank 0 sends
unfoldable pub query_receive_sheet : Draft
query_receive_sheet =
    draft 1 0x92e5 (11 ∷ [])
    (script 0 0 (send standard 1 0 1 0 1 ∷ [])
    ∷ script 0 1 (ireceive 0 0 1 0 1 31 ∷ query 31 ∷ query 31 ∷ wait 31 ∷ []) ∷ [])

-- rank 0's ready send stops the job, while a probe and a query that could step are next on ranks 1 and 2
unfoldable pub stopped_sheet : Draft
stopped_sheet =
    draft 1 0x6ada []
    (script 32 0 (send buffered 1 0 1 0 0 ∷ send ready 1 0 2 0 0 ∷ [])
    ∷ script 0 0 (probe 0 0 1 ∷ [])
    ∷ script 0 0 (ireceive 0 0 1 0 0 0 ∷ query 0 ∷ wait 0 ∷ []) ∷ [])

-- a request of each board that nothing meets, and a probe that finds rank 0's message
unfoldable pub hanging_sheet : Draft
hanging_sheet =
    draft 1 0x431c (11 ∷ [])
    (script 0 0 (isend synchronous 1 0 1 0 1 0 ∷ query 0 ∷ wait 0 ∷ [])
    ∷ script 0 1 (ireceive 0 0 2 0 1 0 ∷ probe 0 0 1 ∷ query 0 ∷ wait 0 ∷ []) ∷ [])

unfoldable pub probe_jobs : List BenchJob
probe_jobs =
    -- T. A probe before its message arrives: no step was taken, and rank 1 is not able
    bench_finds probe_sheet
    (follows [])
    (told still_able 0 [] (pending 0 0) (cut 0) (row 0 0 0 1 ∷ row 0 0 0 0 ∷ []))
    []
    ((90 ∷ 91 ∷ 92 ∷ 93 ∷ []) becomes (90 ∷ 91 ∷ 92 ∷ 93 ∷ []))
    -- T, the message has arrived: rank 1 is able
    ∷ bench_finds probe_sheet
    (follows (0 ∷ []))
    (told still_able 1 [] (pending 1 0) (cut 0) (row 0 0 0 0 ∷ row 0 0 0 1 ∷ []))
    []
    ((90 ∷ 91 ∷ 92 ∷ 93 ∷ []) becomes (90 ∷ 91 ∷ 92 ∷ 93 ∷ []))
    -- T, after the probe: it tells source, tag and length. The message is pending as before, and its send is not complete
    ∷ bench_finds probe_sheet
    (follows (0 ∷ 1 ∷ []))
    (told still_able 2 [] (pending 1 0) (cut 0) (row 0 0 0 0 ∷ row 1 0 0 1 ∷ []))
    (found 1 0 7 3 ∷ [])
    ((90 ∷ 91 ∷ 92 ∷ 93 ∷ []) becomes (90 ∷ 91 ∷ 92 ∷ 93 ∷ []))
    -- T, to the end: the receive takes the message, and the probe's row stays
    ∷ bench_finds_whole probe_sheet
    (runs (0 ∷ 1 ∷ 1 ∷ 0 ∷ 1 ∷ []))
    (told finished 5 (0 meets 2 ∷ []) (pending 0 0) (cut 0) (row 1 0 0 2 ∷ row 2 0 0 2 ∷ []))
    (found 1 0 7 3 ∷ [])
    ((90 ∷ 91 ∷ 92 ∷ 93 ∷ []) becomes (11 ∷ 12 ∷ 13 ∷ 93 ∷ []))
    (0x01 ∷ 0xff ∷ 0xff ∷ 0xff ∷ 0x05 ∷ 0x00 ∷ 0x02 ∷ 0x00 ∷ 0x03 ∷ 0x00 ∷ 0x00 ∷ 0x00 ∷ 0x00 ∷ 0x00 ∷ 0x00 ∷ 0x00
    ∷ 0x01 ∷ 0x00 ∷ 0x00 ∷ 0x00 ∷ 0x00 ∷ 0x00 ∷ 0x02 ∷ 0x00
    ∷ 0x02 ∷ 0x00 ∷ 0x00 ∷ 0x00 ∷ 0x00 ∷ 0x00 ∷ 0x02 ∷ 0x00
    ∷ 0x03 ∷ 0x00 ∷ 0x02 ∷ 0x00 ∷ 0xff ∷ 0xff ∷ 0xff ∷ 0xff ∷ 0x00 ∷ 0x00 ∷ 0x00 ∷ 0x00
    ∷ 0x05 ∷ 0x00 ∷ 0xff ∷ 0xff ∷ 0x00 ∷ 0x00 ∷ 0x07 ∷ 0x00 ∷ 0x03 ∷ 0x00 ∷ 0x00 ∷ 0x00
    ∷ 0x03 ∷ 0x00 ∷ 0x00 ∷ 0x00 ∷ 0x00 ∷ 0x00 ∷ 0x07 ∷ 0x00 ∷ 0x03 ∷ 0x00 ∷ 0x00 ∷ 0x00 ∷ [])
    -- U. A buffered message, and a probe of any tag: the message stays pending and charged
    ∷ bench_finds probe_buffered_sheet
    (follows (0 ∷ 0 ∷ 1 ∷ []))
    (told still_able 3 [] (pending 1 0) (cut 0) (row 1 34 34 2 ∷ row 1 0 0 1 ∷ []))
    (found 1 0 5 2 ∷ [])
    ((90 ∷ 91 ∷ []) becomes (90 ∷ 91 ∷ []))
    -- U, to the end: its charge goes at the match
    ∷ bench_finds probe_buffered_sheet
    (runs (0 ∷ 0 ∷ 1 ∷ 1 ∷ 1 ∷ []))
    (told finished 5 (0 meets 2 ∷ []) (pending 0 0) (cut 0) (row 1 0 34 2 ∷ row 2 0 0 2 ∷ []))
    (found 1 0 5 2 ∷ [])
    ((90 ∷ 91 ∷ []) becomes (11 ∷ 12 ∷ []))
    -- V. Any source and any tag: rank 0's message arrived first, and is told
    ∷ bench_finds any_probe_sheet
    (follows (0 ∷ 1 ∷ 2 ∷ 2 ∷ 2 ∷ 2 ∷ 2 ∷ 0 ∷ 1 ∷ []))
    (told finished 9 (0 meets 4 ∷ 1 meets 3 ∷ []) (pending 0 0) (cut 0) (row 1 0 0 2 ∷ row 1 0 0 2 ∷ row 3 0 0 2 ∷ []))
    (found 2 0 1 1 ∷ [])
    ((90 ∷ 91 ∷ 92 ∷ []) becomes (12 ∷ 13 ∷ 11 ∷ []))
    -- V, rank 1's arrived first, and is told: arrival decides, not rank
    ∷ bench_finds_whole any_probe_sheet
    (follows (1 ∷ 0 ∷ 2 ∷ 2 ∷ 2 ∷ 2 ∷ 2 ∷ 0 ∷ 1 ∷ []))
    (told finished 9 (0 meets 4 ∷ 1 meets 3 ∷ []) (pending 0 0) (cut 0) (row 1 0 0 2 ∷ row 1 0 0 2 ∷ row 3 0 0 2 ∷ []))
    (found 2 1 2 2 ∷ [])
    ((90 ∷ 91 ∷ 92 ∷ []) becomes (12 ∷ 13 ∷ 11 ∷ []))
    (0x01 ∷ 0xff ∷ 0xff ∷ 0xff ∷ 0x09 ∷ 0x00 ∷ 0x03 ∷ 0x00 ∷ 0x05 ∷ 0x00 ∷ 0x00 ∷ 0x00 ∷ 0x00 ∷ 0x00 ∷ 0x00 ∷ 0x00
    ∷ 0x01 ∷ 0x00 ∷ 0x00 ∷ 0x00 ∷ 0x00 ∷ 0x00 ∷ 0x02 ∷ 0x00
    ∷ 0x01 ∷ 0x00 ∷ 0x00 ∷ 0x00 ∷ 0x00 ∷ 0x00 ∷ 0x02 ∷ 0x00
    ∷ 0x03 ∷ 0x00 ∷ 0x00 ∷ 0x00 ∷ 0x00 ∷ 0x00 ∷ 0x02 ∷ 0x00
    ∷ 0x03 ∷ 0x00 ∷ 0x04 ∷ 0x00 ∷ 0xff ∷ 0xff ∷ 0xff ∷ 0xff ∷ 0x00 ∷ 0x00 ∷ 0x00 ∷ 0x00
    ∷ 0x03 ∷ 0x00 ∷ 0x03 ∷ 0x00 ∷ 0xff ∷ 0xff ∷ 0xff ∷ 0xff ∷ 0x00 ∷ 0x00 ∷ 0x00 ∷ 0x00
    ∷ 0x05 ∷ 0x00 ∷ 0xff ∷ 0xff ∷ 0x01 ∷ 0x00 ∷ 0x02 ∷ 0x00 ∷ 0x02 ∷ 0x00 ∷ 0x00 ∷ 0x00
    ∷ 0x03 ∷ 0x00 ∷ 0x01 ∷ 0x00 ∷ 0x01 ∷ 0x00 ∷ 0x02 ∷ 0x00 ∷ 0x02 ∷ 0x00 ∷ 0x00 ∷ 0x00
    ∷ 0x03 ∷ 0x00 ∷ 0x00 ∷ 0x00 ∷ 0x00 ∷ 0x00 ∷ 0x01 ∷ 0x00 ∷ 0x01 ∷ 0x00 ∷ 0x00 ∷ 0x00 ∷ [])
    -- W. Two messages of one sender. A probe of any tag tells the earlier, one of the later's tag the later; when that was
    -- received, a probe of any tag tells the earlier again
    ∷ bench_finds
    (draft 1 0x6e22 (11 ∷ 12 ∷ 13 ∷ [])
    (script 67 0 (send buffered 1 0 1 0 1 ∷ send buffered 1 0 2 1 2 ∷ [])
    ∷ script 0 3 (probe 0 0 any ∷ probe 0 0 2 ∷ receive 0 0 2 0 2 ∷ probe 0 0 any ∷ receive 0 0 any 2 1 ∷ []) ∷ []))
    (runs (0 ∷ 0 ∷ 0 ∷ 0 ∷ 1 ∷ 1 ∷ 1 ∷ 1 ∷ 1 ∷ 1 ∷ 1 ∷ []))
    (told finished 11 (1 meets 4 ∷ 0 meets 6 ∷ []) (pending 0 0) (cut 0) (row 2 0 67 2 ∷ row 5 0 0 2 ∷ []))
    (found 2 0 1 1 ∷ found 3 0 2 2 ∷ found 5 0 1 1 ∷ [])
    ((90 ∷ 91 ∷ 92 ∷ []) becomes (12 ∷ 13 ∷ 11 ∷ []))
    -- X. A message of the same sender and tag arrives between the probe and the receive, which takes the one that was told
    ∷ bench_finds
    (draft 1 0x3d34 (11 ∷ 12 ∷ 13 ∷ [])
    (script 67 0 (send buffered 1 0 1 0 1 ∷ send buffered 1 0 1 1 2 ∷ [])
    ∷ script 0 2 (probe any 0 any ∷ receive 0 0 1 0 2 ∷ []) ∷ []))
    (follows (0 ∷ 0 ∷ 1 ∷ 0 ∷ 0 ∷ 1 ∷ 1 ∷ []))
    (told finished 7 (0 meets 3 ∷ []) (pending 1 0) (cut 0) (row 2 34 67 2 ∷ row 2 0 0 2 ∷ []))
    (found 2 0 1 1 ∷ [])
    ((90 ∷ 91 ∷ []) becomes (11 ∷ 91 ∷ []))
    -- Y. Two communicators: the probe, of any source and any tag, passes the earlier message by, which is on communicator 0
    ∷ bench_finds
    (draft 2 0x9b8c (11 ∷ 12 ∷ [])
    (script 33 0 (send buffered 1 0 1 0 1 ∷ send standard 1 1 2 1 1 ∷ [])
    ∷ script 0 1 (probe any 1 any ∷ receive 0 1 2 0 1 ∷ []) ∷ []))
    (runs (0 ∷ 0 ∷ 0 ∷ 1 ∷ 1 ∷ 0 ∷ 1 ∷ []))
    (told finished 7 (1 meets 3 ∷ []) (pending 1 0) (cut 0) (row 2 33 33 2 ∷ row 2 0 0 2 ∷ []))
    (found 2 0 2 1 ∷ [])
    ((90 ∷ []) becomes (12 ∷ []))
    -- Z. A message of 3 bytes, and capacity 2 of the receive after the probe: the probe tells 3 and is not cut, the receive is
    ∷ bench_finds_whole
    (draft 1 0x3325 (11 ∷ 12 ∷ 13 ∷ [])
    (script 0 0 (send standard 1 0 7 0 3 ∷ [])
    ∷ script 0 2 (probe 0 0 7 ∷ receive 0 0 7 0 2 ∷ []) ∷ []))
    (runs (0 ∷ 1 ∷ 1 ∷ 0 ∷ 1 ∷ []))
    (told finished 5 (0 meets 2 ∷ []) (pending 0 0) (cut 1) (row 1 0 0 2 ∷ row 2 0 0 2 ∷ []))
    (found 1 0 7 3 ∷ [])
    ((90 ∷ 91 ∷ []) becomes (11 ∷ 12 ∷ []))
    (0x01 ∷ 0xff ∷ 0xff ∷ 0xff ∷ 0x05 ∷ 0x00 ∷ 0x02 ∷ 0x00 ∷ 0x03 ∷ 0x00 ∷ 0x00 ∷ 0x00 ∷ 0x00 ∷ 0x00 ∷ 0x01 ∷ 0x00
    ∷ 0x01 ∷ 0x00 ∷ 0x00 ∷ 0x00 ∷ 0x00 ∷ 0x00 ∷ 0x02 ∷ 0x00
    ∷ 0x02 ∷ 0x00 ∷ 0x00 ∷ 0x00 ∷ 0x00 ∷ 0x00 ∷ 0x02 ∷ 0x00
    ∷ 0x03 ∷ 0x00 ∷ 0x02 ∷ 0x00 ∷ 0xff ∷ 0xff ∷ 0xff ∷ 0xff ∷ 0x00 ∷ 0x00 ∷ 0x00 ∷ 0x00
    ∷ 0x05 ∷ 0x00 ∷ 0xff ∷ 0xff ∷ 0x00 ∷ 0x00 ∷ 0x07 ∷ 0x00 ∷ 0x03 ∷ 0x00 ∷ 0x00 ∷ 0x00
    ∷ 0x03 ∷ 0x01 ∷ 0x00 ∷ 0x00 ∷ 0x00 ∷ 0x00 ∷ 0x07 ∷ 0x00 ∷ 0x03 ∷ 0x00 ∷ 0x00 ∷ 0x00 ∷ [])
    -- AA. A probe for a message to its own board
    ∷ bench_finds
    (draft 1 0x3f05 (11 ∷ 12 ∷ [])
    (script 0 2 (isend standard 0 0 3 0 2 0 ∷ probe 0 0 3 ∷ receive 0 0 3 0 2 ∷ wait 0 ∷ []) ∷ []))
    (runs (0 ∷ 0 ∷ 0 ∷ 0 ∷ 0 ∷ []))
    (told finished 5 (0 meets 2 ∷ []) (pending 0 0) (cut 0) (row 4 0 0 2 ∷ []))
    (found 1 0 3 2 ∷ [])
    ((90 ∷ 91 ∷ []) becomes (11 ∷ 12 ∷ []))
    -- BB. A probe that nothing fits: a message on another communicator, one of another tag, one to another board, one of
    -- another source. All are pending, and rank 1 hangs: deadlock
    ∷ bench_finds
    (draft 2 0x741a []
    (script 96 0 (send buffered 1 1 7 0 0 ∷ send buffered 1 0 8 0 0 ∷ send buffered 2 0 7 0 0 ∷ [])
    ∷ script 0 0 (probe 0 0 7 ∷ [])
    ∷ script 32 0 (send buffered 1 0 7 0 0 ∷ []) ∷ []))
    (runs (0 ∷ 0 ∷ 0 ∷ 0 ∷ 0 ∷ 0 ∷ 2 ∷ 2 ∷ []))
    (told deadlock 8 [] (pending 4 0) (cut 0) (row 3 96 96 2 ∷ row 0 0 0 0 ∷ row 1 32 32 2 ∷ []))
    []
    ([] becomes [])
    -- BB, no message at all: deadlock before the first step
    ∷ bench_finds_whole
    (draft 1 0x79fb [] (script 0 0 (probe any 0 any ∷ []) ∷ []))
    (runs [])
    (told deadlock 0 [] (pending 0 0) (cut 0) (row 0 0 0 0 ∷ []))
    []
    ([] becomes [])
    (0x02 ∷ 0xff ∷ 0xff ∷ 0xff ∷ 0x00 ∷ 0x00 ∷ 0x01 ∷ 0x00 ∷ 0x01 ∷ 0x00 ∷ 0x00 ∷ 0x00 ∷ 0x00 ∷ 0x00 ∷ 0x00 ∷ 0x00
    ∷ 0x00 ∷ 0x00 ∷ 0x00 ∷ 0x00 ∷ 0x00 ∷ 0x00 ∷ 0x00 ∷ 0x00
    ∷ 0x00 ∷ 0x00 ∷ 0xff ∷ 0xff ∷ 0xff ∷ 0xff ∷ 0xff ∷ 0xff ∷ 0x00 ∷ 0x00 ∷ 0x00 ∷ 0x00 ∷ [])
    -- CC. A matched message is pending no longer, and no probe tells it: the receive that was posted before has it
    ∷ bench_finds
    (draft 1 0x5a98 (11 ∷ [])
    (script 0 0 (send standard 1 0 7 0 1 ∷ [])
    ∷ script 0 1 (ireceive 0 0 7 0 1 0 ∷ probe 0 0 7 ∷ wait 0 ∷ []) ∷ []))
    (runs (0 ∷ 1 ∷ 0 ∷ []))
    (told deadlock 3 (0 meets 1 ∷ []) (pending 0 0) (cut 0) (row 1 0 0 2 ∷ row 1 0 0 0 ∷ []))
    []
    ((90 ∷ []) becomes (11 ∷ []))
    -- DD. Queries on a send: before it is matched 0, after that 1; then its wait
    ∷ bench_finds_whole query_sheet
    (follows (0 ∷ 0 ∷ 1 ∷ 0 ∷ 0 ∷ 1 ∷ []))
    (told finished 6 (0 meets 4 ∷ []) (pending 0 0) (cut 0) (row 4 0 0 2 ∷ row 1 0 0 2 ∷ []))
    (said 1 0 ∷ said 2 1 ∷ [])
    ((90 ∷ []) becomes (11 ∷ []))
    (0x01 ∷ 0xff ∷ 0xff ∷ 0xff ∷ 0x06 ∷ 0x00 ∷ 0x02 ∷ 0x00 ∷ 0x05 ∷ 0x00 ∷ 0x00 ∷ 0x00 ∷ 0x00 ∷ 0x00 ∷ 0x00 ∷ 0x00
    ∷ 0x04 ∷ 0x00 ∷ 0x00 ∷ 0x00 ∷ 0x00 ∷ 0x00 ∷ 0x02 ∷ 0x00
    ∷ 0x01 ∷ 0x00 ∷ 0x00 ∷ 0x00 ∷ 0x00 ∷ 0x00 ∷ 0x02 ∷ 0x00
    ∷ 0x03 ∷ 0x00 ∷ 0x04 ∷ 0x00 ∷ 0xff ∷ 0xff ∷ 0xff ∷ 0xff ∷ 0x00 ∷ 0x00 ∷ 0x00 ∷ 0x00
    ∷ 0x05 ∷ 0x00 ∷ 0xff ∷ 0xff ∷ 0xff ∷ 0xff ∷ 0xff ∷ 0xff ∷ 0x00 ∷ 0x00 ∷ 0x00 ∷ 0x00
    ∷ 0x05 ∷ 0x00 ∷ 0xff ∷ 0xff ∷ 0xff ∷ 0xff ∷ 0xff ∷ 0xff ∷ 0x01 ∷ 0x00 ∷ 0x00 ∷ 0x00
    ∷ 0x05 ∷ 0x00 ∷ 0xff ∷ 0xff ∷ 0xff ∷ 0xff ∷ 0xff ∷ 0xff ∷ 0x00 ∷ 0x00 ∷ 0x00 ∷ 0x00
    ∷ 0x03 ∷ 0x00 ∷ 0x00 ∷ 0x00 ∷ 0x00 ∷ 0x00 ∷ 0x01 ∷ 0x00 ∷ 0x01 ∷ 0x00 ∷ 0x00 ∷ 0x00 ∷ [])
    -- DD, both before: a query is able though its operation is not complete, and its wait is not
    ∷ bench_finds query_sheet
    (runs (0 ∷ 0 ∷ 0 ∷ 1 ∷ 0 ∷ 1 ∷ []))
    (told finished 6 (0 meets 4 ∷ []) (pending 0 0) (cut 0) (row 4 0 0 2 ∷ row 1 0 0 2 ∷ []))
    (said 1 0 ∷ said 2 0 ∷ [])
    ((90 ∷ []) becomes (11 ∷ []))
    -- DD, the wait after both is not able: rank 1 alone is
    ∷ bench_finds query_sheet
    (follows (0 ∷ 0 ∷ 0 ∷ []))
    (told still_able 3 [] (pending 1 0) (cut 0) (row 3 0 0 0 ∷ row 0 0 0 1 ∷ []))
    (said 1 0 ∷ said 2 0 ∷ [])
    ((90 ∷ []) becomes (90 ∷ []))
    -- DD, both after
    ∷ bench_finds query_sheet
    (follows (0 ∷ 1 ∷ 0 ∷ 0 ∷ 0 ∷ 1 ∷ []))
    (told finished 6 (0 meets 4 ∷ []) (pending 0 0) (cut 0) (row 4 0 0 2 ∷ row 1 0 0 2 ∷ []))
    (said 1 1 ∷ said 2 1 ∷ [])
    ((90 ∷ []) becomes (11 ∷ []))
    -- EE. Queries on a receive: posted 0, and it is pending as before; the next query is able
    ∷ bench_finds query_receive_sheet
    (follows (1 ∷ 1 ∷ []))
    (told still_able 2 [] (pending 0 1) (cut 0) (row 0 0 0 1 ∷ row 2 0 0 1 ∷ []))
    (said 2 0 ∷ [])
    ((90 ∷ []) becomes (90 ∷ []))
    -- EE, matched 1
    ∷ bench_finds query_receive_sheet
    (follows (1 ∷ 1 ∷ 0 ∷ 1 ∷ 1 ∷ 0 ∷ []))
    (told finished 6 (0 meets 1 ∷ []) (pending 0 0) (cut 0) (row 1 0 0 2 ∷ row 4 0 0 2 ∷ []))
    (said 2 0 ∷ said 3 1 ∷ [])
    ((90 ∷ []) becomes (11 ∷ []))
    -- FF. A buffered send is complete at once, though nobody receives its message: 1
    ∷ bench_finds
    (draft 1 0xf2ae (11 ∷ [])
    (script 33 0 (isend buffered 1 0 1 0 1 0 ∷ query 0 ∷ wait 0 ∷ [])
    ∷ script 0 0 [] ∷ []))
    (runs (0 ∷ 0 ∷ 0 ∷ []))
    (told finished 3 [] (pending 1 0) (cut 0) (row 3 33 33 2 ∷ row 0 0 0 2 ∷ []))
    (said 1 1 ∷ [])
    ([] becomes [])
    -- GG. Slot 3 is taken again after its wait: a query there speaks of the later send, which is not matched. The query on slot 4
    -- speaks of that slot's
    ∷ bench_finds
    (draft 1 0x512b (11 ∷ [])
    (script 64 0
    (isend buffered 1 0 1 0 0 3 ∷ wait 3 ∷ isend synchronous 1 0 2 0 1 3 ∷ isend buffered 1 0 1 0 0 4 ∷ query 3 ∷ query 4
    ∷ wait 4 ∷ wait 3 ∷ [])
    ∷ script 0 1 (receive 0 0 2 0 1 ∷ []) ∷ []))
    (runs (0 ∷ 0 ∷ 0 ∷ 0 ∷ 0 ∷ 0 ∷ 0 ∷ 1 ∷ 0 ∷ 1 ∷ []))
    (told finished 10 (2 meets 8 ∷ []) (pending 2 0) (cut 0) (row 8 64 64 2 ∷ row 1 0 0 2 ∷ []))
    (said 4 0 ∷ said 5 1 ∷ [])
    ((90 ∷ []) becomes (11 ∷ []))
    -- HH. After a stop neither a probe nor a query is able: ranks 1 and 2 are in state 0
    ∷ bench_finds stopped_sheet
    (follows (0 ∷ 2 ∷ 0 ∷ 0 ∷ []))
    (told (not_ready 0 1) 4 [] (pending 1 1) (cut 0) (row 1 32 32 0 ∷ row 0 0 0 0 ∷ row 1 0 0 0 ∷ []))
    []
    ([] becomes [])
    -- HH, before it both are
    ∷ bench_finds stopped_sheet
    (follows (0 ∷ 2 ∷ []))
    (told still_able 2 [] (pending 1 1) (cut 0) (row 0 32 32 1 ∷ row 0 0 0 1 ∷ row 1 0 0 1 ∷ []))
    []
    ([] becomes [])
    -- II. A message and a receive are pending, and nothing else is counted: no probe and no query, entered or not
    ∷ bench_finds hanging_sheet
    (follows (0 ∷ 1 ∷ []))
    (told still_able 2 [] (pending 1 1) (cut 0) (row 1 0 0 1 ∷ row 1 0 0 1 ∷ []))
    []
    ((90 ∷ []) becomes (90 ∷ []))
    -- II, to the end, where both waits hang
    ∷ bench_finds_whole hanging_sheet
    (runs (0 ∷ 0 ∷ 1 ∷ 1 ∷ 1 ∷ []))
    (told deadlock 5 [] (pending 1 1) (cut 0) (row 2 0 0 0 ∷ row 3 0 0 0 ∷ []))
    (said 1 0 ∷ found 4 0 1 1 ∷ said 5 0 ∷ [])
    ((90 ∷ []) becomes (90 ∷ []))
    (0x02 ∷ 0xff ∷ 0xff ∷ 0xff ∷ 0x05 ∷ 0x00 ∷ 0x02 ∷ 0x00 ∷ 0x07 ∷ 0x00 ∷ 0x01 ∷ 0x00 ∷ 0x01 ∷ 0x00 ∷ 0x00 ∷ 0x00
    ∷ 0x02 ∷ 0x00 ∷ 0x00 ∷ 0x00 ∷ 0x00 ∷ 0x00 ∷ 0x00 ∷ 0x00
    ∷ 0x03 ∷ 0x00 ∷ 0x00 ∷ 0x00 ∷ 0x00 ∷ 0x00 ∷ 0x00 ∷ 0x00
    ∷ 0x01 ∷ 0x00 ∷ 0xff ∷ 0xff ∷ 0xff ∷ 0xff ∷ 0xff ∷ 0xff ∷ 0x00 ∷ 0x00 ∷ 0x00 ∷ 0x00
    ∷ 0x05 ∷ 0x00 ∷ 0xff ∷ 0xff ∷ 0xff ∷ 0xff ∷ 0xff ∷ 0xff ∷ 0x00 ∷ 0x00 ∷ 0x00 ∷ 0x00
    ∷ 0x00 ∷ 0x00 ∷ 0xff ∷ 0xff ∷ 0xff ∷ 0xff ∷ 0xff ∷ 0xff ∷ 0x00 ∷ 0x00 ∷ 0x00 ∷ 0x00
    ∷ 0x01 ∷ 0x00 ∷ 0xff ∷ 0xff ∷ 0xff ∷ 0xff ∷ 0xff ∷ 0xff ∷ 0x00 ∷ 0x00 ∷ 0x00 ∷ 0x00
    ∷ 0x05 ∷ 0x00 ∷ 0xff ∷ 0xff ∷ 0x00 ∷ 0x00 ∷ 0x01 ∷ 0x00 ∷ 0x01 ∷ 0x00 ∷ 0x00 ∷ 0x00
    ∷ 0x05 ∷ 0x00 ∷ 0xff ∷ 0xff ∷ 0xff ∷ 0xff ∷ 0xff ∷ 0xff ∷ 0x00 ∷ 0x00 ∷ 0x00 ∷ 0x00
    ∷ 0x00 ∷ 0x00 ∷ 0xff ∷ 0xff ∷ 0xff ∷ 0xff ∷ 0xff ∷ 0xff ∷ 0x00 ∷ 0x00 ∷ 0x00 ∷ 0x00 ∷ [])
    ∷ []
