-- Further bench jobs, for the slips that document 01 lists and for rules that jobs 1 to 12 leave untested: fits, posted
-- receives, charges, waits, orders that stop early, cut messages. Worked out by hand; BenchNumbered says how to read them.
-- Assumes nothing.
use Rattle.std.specs.Prelude.{List, [], ◌∷◌, ℕ}
use Rattle.rules.specs.BenchJob.{standard, buffered, synchronous, any, send, isend, receive, ireceive, wait, script, Draft, draft}
use Rattle.rules.specs.BenchJob.{runs, follows, still_able, finished, deadlock, overflow, ◌meets◌, row}
use Rattle.rules.specs.BenchJob.{◌becomes◌, pending, cut, Told, told, BenchJob, bench, bench_whole}
use Rattle.rules.specs.BenchNumbered.{case_1_sheet, nonblocking_sheet}

-- an empty buffered send and no receive, with `attached` bytes
abbrev pub empty_buffered : (attached crc : ℕ) → Draft
empty_buffered attached crc =
    draft 1 crc []
    (script attached 0 (send buffered 1 0 0 0 0 ∷ [])
    ∷ script 0 0 [] ∷ [])

-- the bytes from 12 on, `long` of them, to an area of `capacity` bytes that starts at offset 1 of rank 1's inbox; the inboxes of
-- ranks 0 and 2 lie on both sides
abbrev pub message_into : (long capacity crc : ℕ) → Draft
message_into long capacity crc =
    draft 1 crc (11 ∷ 12 ∷ 13 ∷ 14 ∷ 15 ∷ [])
    (script 0 1 (send standard 1 0 7 1 long ∷ [])
    ∷ script 0 6 (receive 0 0 7 1 capacity ∷ [])
    ∷ script 0 1 [] ∷ [])

-- its job: run finishes it in four steps, `cuts` messages are cut
abbrev pub told_into : (cuts : ℕ) → Told
told_into cuts = told finished 4 (0 meets 1 ∷ []) (pending 0 0) (cut cuts) (row 1 0 0 2 ∷ row 1 0 0 2 ∷ row 0 0 0 2 ∷ [])

abbrev pub bench_into : (long capacity crc cuts : ℕ) → (after : List ℕ) → BenchJob
bench_into long capacity crc cuts after =
    bench (message_into long capacity crc) (runs (0 ∷ 1 ∷ 0 ∷ 1 ∷ [])) (told_into cuts)
    ((90 ∷ 91 ∷ 92 ∷ 93 ∷ 94 ∷ 95 ∷ 96 ∷ 97 ∷ []) becomes after)

unfoldable pub further_jobs : List BenchJob
further_jobs =
    -- A. Fits: two communicators: the receive, of any tag, is on communicator 1. It leaves the earlier message, on
    -- communicator 0, which is buffered and stays pending though all boards are finished and its request was waited for
    bench
    (draft 2 0x410f (11 ∷ 12 ∷ [])
    (script 33 0 (isend buffered 1 0 1 0 1 0 ∷ send standard 1 1 2 1 1 ∷ wait 0 ∷ [])
    ∷ script 0 1 (receive 0 1 any 0 1 ∷ []) ∷ []))
    (runs (0 ∷ 0 ∷ 1 ∷ 0 ∷ 0 ∷ 1 ∷ []))
    (told finished 6 (1 meets 3 ∷ []) (pending 1 0) (cut 0) (row 3 33 33 2 ∷ row 1 0 0 2 ∷ []))
    ((90 ∷ []) becomes (12 ∷ []))
    -- B. The same with the receive posted first, of any source and any tag: no message on its communicator, deadlock
    ∷ bench
    (draft 2 0x87e7 (11 ∷ [])
    (script 0 0 (send standard 1 0 1 0 1 ∷ [])
    ∷ script 0 1 (receive any 1 any 0 1 ∷ []) ∷ []))
    (follows (1 ∷ 0 ∷ []))
    (told deadlock 2 [] (pending 1 1) (cut 0) (row 0 0 0 0 ∷ row 0 0 0 0 ∷ []))
    ((90 ∷ []) becomes (90 ∷ []))
    -- C. A receive from any source, of any tag, leaves the earlier message, which is addressed to another board; its wait hangs
    ∷ bench
    (draft 1 0x2a26 (11 ∷ 12 ∷ [])
    (script 0 0 (isend standard 1 0 1 0 1 0 ∷ send standard 2 0 1 1 1 ∷ wait 0 ∷ [])
    ∷ script 0 2 []
    ∷ script 0 1 (receive any 0 any 0 1 ∷ []) ∷ []))
    (runs (0 ∷ 0 ∷ 2 ∷ 0 ∷ 2 ∷ []))
    (told deadlock 5 (1 meets 3 ∷ []) (pending 1 0) (cut 0) (row 2 0 0 0 ∷ row 0 0 0 2 ∷ row 1 0 0 2 ∷ []))
    ((90 ∷ 91 ∷ 92 ∷ []) becomes (90 ∷ 91 ∷ 12 ∷ []))
    -- D. A receive from rank 1 leaves rank 0's message, which arrived first; its wait hangs
    ∷ bench
    (draft 1 0xcb88 (11 ∷ 12 ∷ [])
    (script 0 0 (isend standard 2 0 1 0 1 0 ∷ wait 0 ∷ [])
    ∷ script 0 0 (send standard 2 0 1 1 1 ∷ [])
    ∷ script 0 1 (receive 1 0 any 0 1 ∷ []) ∷ []))
    (runs (0 ∷ 1 ∷ 2 ∷ 1 ∷ 2 ∷ []))
    (told deadlock 5 (2 meets 3 ∷ []) (pending 1 0) (cut 0) (row 1 0 0 0 ∷ row 1 0 0 2 ∷ row 1 0 0 2 ∷ []))
    ((90 ∷ []) becomes (12 ∷ []))
    -- E. Posted receives: the first send goes past the earliest posted receive, whose tag differs, to the next that fits;
    -- the third, which fits too, was posted later and stays pending: its wait hangs
    ∷ bench
    (draft 1 0x4be0 (11 ∷ 12 ∷ [])
    (script 0 0 (send standard 1 0 1 0 1 ∷ send synchronous 1 0 2 1 1 ∷ [])
    ∷ script 0 3
    (ireceive 0 0 2 0 1 0 ∷ ireceive 0 0 1 1 1 1 ∷ ireceive any 0 any 2 1 2 ∷ wait 1 ∷ wait 0 ∷ wait 2 ∷ []) ∷ []))
    (follows (1 ∷ 1 ∷ 1 ∷ 0 ∷ 0 ∷ 0 ∷ 0 ∷ 1 ∷ 1 ∷ []))
    (told deadlock 9 (0 meets 3 ∷ 1 meets 2 ∷ []) (pending 0 1) (cut 0) (row 2 0 0 2 ∷ row 5 0 0 0 ∷ []))
    ((90 ∷ 91 ∷ 92 ∷ []) becomes (12 ∷ 11 ∷ 92 ∷ []))
    -- F. Job 7's sheet with both receives posted before the sends, which both fit both: a matched receive is posted no
    -- longer
    ∷ bench nonblocking_sheet
    (follows (1 ∷ 1 ∷ 0 ∷ 0 ∷ 0 ∷ 0 ∷ 1 ∷ 1 ∷ []))
    (told finished 8 (0 meets 4 ∷ 1 meets 5 ∷ []) (pending 0 0) (cut 0) (row 4 0 0 2 ∷ row 4 0 0 2 ∷ []))
    ((90 ∷ 91 ∷ 92 ∷ 93 ∷ []) becomes (11 ∷ 12 ∷ 13 ∷ 14 ∷ []))
    -- G. Buffered sends: one that meets a posted receive is charged nothing, not even in the peak: its attached size is 0
    ∷ bench
    (draft 1 0xee55 (11 ∷ 12 ∷ [])
    (script 0 0 (send buffered 1 0 1 0 2 ∷ [])
    ∷ script 0 2 (receive 0 0 1 0 2 ∷ []) ∷ []))
    (follows (1 ∷ 0 ∷ 0 ∷ 1 ∷ []))
    (told finished 4 (0 meets 1 ∷ []) (pending 0 0) (cut 0) (row 1 0 0 2 ∷ row 1 0 0 2 ∷ []))
    ((90 ∷ 91 ∷ []) becomes (11 ∷ 12 ∷ []))
    -- H. Charges go at the match, and the peak stays: 4 + 32, then 2 + 32 beside it, then 2 + 32 alone, then 3 + 32 beside it,
    -- of 70 bytes. The order stops early, rank 1 being able: verdict 0. Two sends share payload bytes
    ∷ bench_whole
    (draft 1 0xd272 (11 ∷ 12 ∷ 13 ∷ 14 ∷ 15 ∷ 16 ∷ [])
    (script 70 0 (send buffered 1 0 1 0 4 ∷ send buffered 1 0 2 4 2 ∷ send buffered 1 0 3 1 3 ∷ [])
    ∷ script 0 4 (receive 0 0 1 0 4 ∷ []) ∷ []))
    (follows (0 ∷ 0 ∷ 0 ∷ 0 ∷ 1 ∷ 0 ∷ 0 ∷ []))
    (told still_able 7 (0 meets 3 ∷ []) (pending 2 0) (cut 0) (row 3 69 70 2 ∷ row 0 0 0 1 ∷ []))
    ((90 ∷ 91 ∷ 92 ∷ 93 ∷ []) becomes (11 ∷ 12 ∷ 13 ∷ 14 ∷ []))
    (0x00 ∷ 0xff ∷ 0xff ∷ 0xff ∷ 0x07 ∷ 0x00 ∷ 0x02 ∷ 0x00 ∷ 0x04 ∷ 0x00 ∷ 0x02 ∷ 0x00 ∷ 0x00 ∷ 0x00 ∷ 0x00 ∷ 0x00
    ∷ 0x03 ∷ 0x00 ∷ 0x45 ∷ 0x00 ∷ 0x46 ∷ 0x00 ∷ 0x02 ∷ 0x00
    ∷ 0x00 ∷ 0x00 ∷ 0x00 ∷ 0x00 ∷ 0x00 ∷ 0x00 ∷ 0x01 ∷ 0x00
    ∷ 0x03 ∷ 0x00 ∷ 0x03 ∷ 0x00 ∷ 0xff ∷ 0xff ∷ 0xff ∷ 0xff ∷ 0x00 ∷ 0x00 ∷ 0x00 ∷ 0x00
    ∷ 0x02 ∷ 0x00 ∷ 0xff ∷ 0xff ∷ 0xff ∷ 0xff ∷ 0xff ∷ 0xff ∷ 0x00 ∷ 0x00 ∷ 0x00 ∷ 0x00
    ∷ 0x02 ∷ 0x00 ∷ 0xff ∷ 0xff ∷ 0xff ∷ 0xff ∷ 0xff ∷ 0xff ∷ 0x00 ∷ 0x00 ∷ 0x00 ∷ 0x00
    ∷ 0x03 ∷ 0x00 ∷ 0x00 ∷ 0x00 ∷ 0x00 ∷ 0x00 ∷ 0x01 ∷ 0x00 ∷ 0x04 ∷ 0x00 ∷ 0x00 ∷ 0x00 ∷ [])
    -- I. The second send, 3 + 32, does not fit by one byte with the first, 2 + 32, still charged: overflow at rank 1, operation 2
    ∷ bench_whole
    (draft 1 0x6baf (11 ∷ 12 ∷ 13 ∷ 14 ∷ 15 ∷ [])
    (script 0 1 (receive 1 0 9 0 1 ∷ [])
    ∷ script 68 0 (send buffered 0 0 1 0 2 ∷ send buffered 0 0 1 2 3 ∷ []) ∷ []))
    (runs (0 ∷ 1 ∷ 1 ∷ 1 ∷ []))
    (told (overflow 1 2) 4 [] (pending 1 1) (cut 0) (row 0 0 0 0 ∷ row 1 34 34 0 ∷ []))
    ((90 ∷ []) becomes (90 ∷ []))
    (0x03 ∷ 0x01 ∷ 0x02 ∷ 0x00 ∷ 0x04 ∷ 0x00 ∷ 0x02 ∷ 0x00 ∷ 0x03 ∷ 0x00 ∷ 0x01 ∷ 0x00 ∷ 0x01 ∷ 0x00 ∷ 0x00 ∷ 0x00
    ∷ 0x00 ∷ 0x00 ∷ 0x00 ∷ 0x00 ∷ 0x00 ∷ 0x00 ∷ 0x00 ∷ 0x00
    ∷ 0x01 ∷ 0x00 ∷ 0x22 ∷ 0x00 ∷ 0x22 ∷ 0x00 ∷ 0x00 ∷ 0x00
    ∷ 0x01 ∷ 0x00 ∷ 0xff ∷ 0xff ∷ 0xff ∷ 0xff ∷ 0xff ∷ 0xff ∷ 0x00 ∷ 0x00 ∷ 0x00 ∷ 0x00
    ∷ 0x02 ∷ 0x00 ∷ 0xff ∷ 0xff ∷ 0xff ∷ 0xff ∷ 0xff ∷ 0xff ∷ 0x00 ∷ 0x00 ∷ 0x00 ∷ 0x00
    ∷ 0x00 ∷ 0x00 ∷ 0xff ∷ 0xff ∷ 0xff ∷ 0xff ∷ 0xff ∷ 0xff ∷ 0x00 ∷ 0x00 ∷ 0x00 ∷ 0x00 ∷ [])
    -- J. Two cut messages to one place: the later puts its one byte over the earlier one's first. The buffered one's charge
    -- goes at the match
    ∷ bench
    (draft 1 0x05c3 (11 ∷ 12 ∷ 13 ∷ 14 ∷ 15 ∷ [])
    (script 35 0 (send buffered 1 0 1 0 3 ∷ send standard 1 0 2 3 2 ∷ [])
    ∷ script 0 2 (receive 0 0 1 0 2 ∷ receive 0 0 2 0 1 ∷ []) ∷ []))
    (runs (0 ∷ 0 ∷ 0 ∷ 1 ∷ 1 ∷ 1 ∷ 0 ∷ 1 ∷ []))
    (told finished 8 (0 meets 2 ∷ 1 meets 3 ∷ []) (pending 0 0) (cut 2) (row 2 0 35 2 ∷ row 2 0 0 2 ∷ []))
    ((90 ∷ 91 ∷ []) becomes (14 ∷ 12 ∷ []))
    -- K. Waits: an unmatched synchronous send is not complete, and its wait is not able: deadlock. The blocking send between
    -- them holds no slot, and is not what the wait looks at
    ∷ bench
    (draft 1 0x5443 (11 ∷ 12 ∷ [])
    (script 0 0 (isend synchronous 1 0 1 0 1 0 ∷ send standard 1 0 2 1 1 ∷ wait 0 ∷ [])
    ∷ script 0 1 (receive 0 0 2 0 1 ∷ []) ∷ []))
    (runs (0 ∷ 0 ∷ 1 ∷ 0 ∷ 1 ∷ []))
    (told deadlock 5 (1 meets 3 ∷ []) (pending 1 0) (cut 0) (row 2 0 0 0 ∷ row 1 0 0 2 ∷ []))
    ((90 ∷ []) becomes (12 ∷ []))
    -- L. An unmatched buffered send is complete: its wait ends, and the message stays pending and charged under verdict 1
    ∷ bench_whole
    (draft 1 0xfb10 (11 ∷ 12 ∷ [])
    (script 35 0 (isend buffered 1 0 1 0 2 0 ∷ wait 0 ∷ [])
    ∷ script 0 0 [] ∷ []))
    (runs (0 ∷ 0 ∷ []))
    (told finished 2 [] (pending 1 0) (cut 0) (row 2 34 34 2 ∷ row 0 0 0 2 ∷ []))
    ([] becomes [])
    (0x01 ∷ 0xff ∷ 0xff ∷ 0xff ∷ 0x02 ∷ 0x00 ∷ 0x02 ∷ 0x00 ∷ 0x02 ∷ 0x00 ∷ 0x01 ∷ 0x00 ∷ 0x00 ∷ 0x00 ∷ 0x00 ∷ 0x00
    ∷ 0x02 ∷ 0x00 ∷ 0x22 ∷ 0x00 ∷ 0x22 ∷ 0x00 ∷ 0x02 ∷ 0x00
    ∷ 0x00 ∷ 0x00 ∷ 0x00 ∷ 0x00 ∷ 0x00 ∷ 0x00 ∷ 0x02 ∷ 0x00
    ∷ 0x02 ∷ 0x00 ∷ 0xff ∷ 0xff ∷ 0xff ∷ 0xff ∷ 0xff ∷ 0xff ∷ 0x00 ∷ 0x00 ∷ 0x00 ∷ 0x00
    ∷ 0x05 ∷ 0x00 ∷ 0xff ∷ 0xff ∷ 0xff ∷ 0xff ∷ 0xff ∷ 0xff ∷ 0x00 ∷ 0x00 ∷ 0x00 ∷ 0x00 ∷ [])
    -- M. A wait frees its slot, which is taken again, with the same area; the second wait looks at the later receive, which
    -- is pending: deadlock
    ∷ bench
    (draft 1 0xf568 (11 ∷ [])
    (script 0 0 (send standard 1 0 1 0 1 ∷ [])
    ∷ script 0 1 (ireceive 0 0 1 0 1 5 ∷ wait 5 ∷ ireceive 0 0 2 0 1 5 ∷ wait 5 ∷ []) ∷ []))
    (runs (0 ∷ 1 ∷ 0 ∷ 1 ∷ 1 ∷ []))
    (told deadlock 5 (0 meets 1 ∷ []) (pending 0 1) (cut 0) (row 1 0 0 2 ∷ row 3 0 0 0 ∷ []))
    ((90 ∷ []) becomes (11 ∷ []))
    -- N. Orders: no step: nothing is entered, and both boards are able
    ∷ bench case_1_sheet
    (follows [])
    (told still_able 0 [] (pending 0 0) (cut 0) (row 0 0 0 1 ∷ row 0 0 0 1 ∷ []))
    ((90 ∷ 91 ∷ 92 ∷ 93 ∷ []) becomes (90 ∷ 91 ∷ 92 ∷ 93 ∷ []))
    -- O. One step: the synchronous send is pending, and rank 0 is not able
    ∷ bench case_1_sheet
    (follows (0 ∷ []))
    (told still_able 1 [] (pending 1 0) (cut 0) (row 0 0 0 0 ∷ row 0 0 0 1 ∷ []))
    ((90 ∷ 91 ∷ 92 ∷ 93 ∷ []) becomes (90 ∷ 91 ∷ 92 ∷ 93 ∷ []))
    -- P. Two steps: both operations are complete, neither is finished. The inbox room is longer than the inboxes, and keeps
    -- its excess
    ∷ bench case_1_sheet
    (follows (0 ∷ 1 ∷ []))
    (told still_able 2 (0 meets 1 ∷ []) (pending 0 0) (cut 0) (row 0 0 0 1 ∷ row 0 0 0 1 ∷ []))
    ((90 ∷ 91 ∷ 92 ∷ 93 ∷ 94 ∷ 95 ∷ []) becomes (11 ∷ 12 ∷ 13 ∷ 93 ∷ 94 ∷ 95 ∷ []))
    -- Q. Job 13's empty buffered send costs 32: with nothing attached it overflows
    ∷ bench (empty_buffered 0 0x4ac3)
    (runs (0 ∷ []))
    (told (overflow 0 0) 1 [] (pending 0 0) (cut 0) (row 0 0 0 0 ∷ row 0 0 0 2 ∷ []))
    ([] becomes [])
    -- Q, with 31 attached too
    ∷ bench (empty_buffered 31 0xe8ac)
    (runs (0 ∷ []))
    (told (overflow 0 0) 1 [] (pending 0 0) (cut 0) (row 0 0 0 0 ∷ row 0 0 0 2 ∷ []))
    ([] becomes [])
    -- Q, with 32 attached: accepted, and all 32 are in use
    ∷ bench (empty_buffered 32 0x98c7)
    (runs (0 ∷ 0 ∷ []))
    (told finished 2 [] (pending 1 0) (cut 0) (row 1 32 32 2 ∷ row 0 0 0 2 ∷ []))
    ([] becomes [])
    -- R. A message of 3 bytes into capacity 0: cut, and nothing is copied; the status tells the full length
    ∷ bench_whole (message_into 3 0 0x4236)
    (runs (0 ∷ 1 ∷ 0 ∷ 1 ∷ []))
    (told_into 1)
    ((90 ∷ 91 ∷ 92 ∷ 93 ∷ 94 ∷ 95 ∷ 96 ∷ 97 ∷ []) becomes (90 ∷ 91 ∷ 92 ∷ 93 ∷ 94 ∷ 95 ∷ 96 ∷ 97 ∷ []))
    (0x01 ∷ 0xff ∷ 0xff ∷ 0xff ∷ 0x04 ∷ 0x00 ∷ 0x03 ∷ 0x00 ∷ 0x02 ∷ 0x00 ∷ 0x00 ∷ 0x00 ∷ 0x00 ∷ 0x00 ∷ 0x01 ∷ 0x00
    ∷ 0x01 ∷ 0x00 ∷ 0x00 ∷ 0x00 ∷ 0x00 ∷ 0x00 ∷ 0x02 ∷ 0x00
    ∷ 0x01 ∷ 0x00 ∷ 0x00 ∷ 0x00 ∷ 0x00 ∷ 0x00 ∷ 0x02 ∷ 0x00
    ∷ 0x00 ∷ 0x00 ∷ 0x00 ∷ 0x00 ∷ 0x00 ∷ 0x00 ∷ 0x02 ∷ 0x00
    ∷ 0x03 ∷ 0x00 ∷ 0x01 ∷ 0x00 ∷ 0xff ∷ 0xff ∷ 0xff ∷ 0xff ∷ 0x00 ∷ 0x00 ∷ 0x00 ∷ 0x00
    ∷ 0x03 ∷ 0x01 ∷ 0x00 ∷ 0x00 ∷ 0x00 ∷ 0x00 ∷ 0x07 ∷ 0x00 ∷ 0x03 ∷ 0x00 ∷ 0x00 ∷ 0x00 ∷ [])
    -- R, an empty message: not cut
    ∷ bench_into 0 0 0x8cea 0 (90 ∷ 91 ∷ 92 ∷ 93 ∷ 94 ∷ 95 ∷ 96 ∷ 97 ∷ [])
    -- R, capacity one below the length: cut, and its first bytes are copied
    ∷ bench_into 3 2 0x8451 1 (90 ∷ 91 ∷ 12 ∷ 13 ∷ 94 ∷ 95 ∷ 96 ∷ 97 ∷ [])
    -- R, capacity and length equal: whole
    ∷ bench_into 3 3 0x6f72 0 (90 ∷ 91 ∷ 12 ∷ 13 ∷ 14 ∷ 95 ∷ 96 ∷ 97 ∷ [])
    -- R, capacity one above the length: whole, and the area's last byte keeps its value
    ∷ bench_into 3 4 0xded9 0 (90 ∷ 91 ∷ 12 ∷ 13 ∷ 14 ∷ 95 ∷ 96 ∷ 97 ∷ [])
    -- S. A cut message in the middle of an inbox, the last of three: the areas on both sides keep what was delivered there
    ∷ bench
    (draft 1 0xa836 (11 ∷ 12 ∷ 13 ∷ 14 ∷ 15 ∷ 16 ∷ 17 ∷ 18 ∷ [])
    (script 0 0 (send standard 1 0 1 0 2 ∷ send standard 1 0 2 2 2 ∷ send standard 1 0 3 4 4 ∷ [])
    ∷ script 0 7 (receive 0 0 1 0 2 ∷ receive 0 0 2 4 2 ∷ receive 0 0 3 2 2 ∷ []) ∷ []))
    (runs (0 ∷ 1 ∷ 0 ∷ 0 ∷ 1 ∷ 1 ∷ 0 ∷ 0 ∷ 1 ∷ 1 ∷ 0 ∷ 1 ∷ []))
    (told finished 12 (0 meets 3 ∷ 1 meets 4 ∷ 2 meets 5 ∷ []) (pending 0 0) (cut 1) (row 3 0 0 2 ∷ row 3 0 0 2 ∷ []))
    ((90 ∷ 91 ∷ 92 ∷ 93 ∷ 94 ∷ 95 ∷ 96 ∷ []) becomes (11 ∷ 12 ∷ 15 ∷ 16 ∷ 13 ∷ 14 ∷ 96 ∷ []))
    ∷ []
