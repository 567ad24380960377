-- Bench calls: numbers 1 to 9, each at several places, and calls next to them that are accepted. Worked out by hand from
-- document 01, "When the desk says no" and "The sheet, byte by byte", and document 02, K7 and K11. BenchProbesRefused has those for K9.
-- To read a call:
--   asks_check sheet (number at place)
--   asks_follow sheet order inbox_room report-room scratch-room (number at place)
--   asks_run sheet inbox_room report-room order_room scratch-room (number at place)
-- To read a sheet: BenchRefusal has the short forms, BenchNumbered the others. Operation i of `of_rank_1` and of `of_each` stands
-- from byte 32+16i on: kind, flag at 1, peer at 2, communicator at 4, zero at 6, tag at 8, offset at 10, length at 12, slot at 14.
-- Assumes nothing.
use Rattle.std.specs.Prelude.{List, [], ◌∷◌, ◌++◌, take}
use Rattle.rules.specs.BenchJob.{standard, buffered, synchronous, any, send, isend, receive, ireceive, wait}
use Rattle.rules.specs.BenchJob.{script, draft, draft_bytes}
use Rattle.rules.specs.BenchNumbered.{case_1_sheet, ready_sheet}
use Rattle.rules.specs.BenchRefusal.{altered, header_only, plain, of_rank_1, of_each, ◌at◌, BenchCall}
use Rattle.rules.specs.BenchRefusal.{scratch_asked, asks_check, asks_follow, asks_run}

unfoldable pub bench_calls : List BenchCall
bench_calls =
    -- 1. No byte; 15 bytes, though P is 0 too. 16 bytes are enough for 1
    asks_check [] (1 at 0)
    ∷ asks_check (take 15 (header_only 0 1 0 0)) (1 at 0)
    -- 2. P 0 and 17, C 0 and 9, N 2,049, L 16,385; the largest of each is refused for the length that is not there
    ∷ asks_check (header_only 0 1 0 0) (2 at 0)
    ∷ asks_check (header_only 17 1 0 0) (2 at 0)
    ∷ asks_check (header_only 16 1 0 0) (3 at 0)
    ∷ asks_check (header_only 1 0 0 0) (2 at 0)
    ∷ asks_check (header_only 1 9 0 0) (2 at 0)
    ∷ asks_check (header_only 1 8 0 0) (3 at 0)
    ∷ asks_check (header_only 1 1 2049 0) (2 at 0)
    ∷ asks_check (header_only 1 1 2048 0) (3 at 0)
    ∷ asks_check (header_only 1 1 0 16385) (2 at 0)
    ∷ asks_check (header_only 1 1 0 16384) (3 at 0)
    -- 3. Each offset one too large, one of them in its high byte too; one byte less, one more
    ∷ asks_check (draft_bytes (plain 0x75a9)) (0 at 0)
    ∷ asks_check (altered 6 17 (plain 0x654b)) (3 at 0)
    ∷ asks_check (altered 8 25 (plain 0xdb55)) (3 at 0)
    ∷ asks_check (altered 10 25 (plain 0x30ca)) (3 at 0)
    ∷ asks_check (altered 11 1 (plain 0x76dc)) (3 at 0)
    ∷ asks_check (take 24 (draft_bytes (plain 0x8af4))) (3 at 0)
    ∷ asks_check (draft_bytes (plain 0x8732) ++ (0 ∷ [])) (3 at 0)
    -- 4. One bit of the CRC, in either byte; a payload byte after the CRC was taken. A wrong offset goes before it
    ∷ asks_check (draft_bytes (plain 0x75a8)) (4 at 0)
    ∷ asks_check (draft_bytes (plain 0xf5a9)) (4 at 0)
    ∷ asks_check (altered 24 12 (plain 0x75a9)) (4 at 0)
    ∷ asks_check (altered 6 17 (plain 0x75a9)) (3 at 0)
    -- 5. First operation: rank 0 from 1 on; rank 1 from 0 on, where rank 0 has one operation
    ∷ asks_check (draft_bytes (of_each 0x7b35 (send standard 1 0 0 0 0 ∷ []) (send standard 0 0 0 0 0 ∷ []))) (0 at 0)
    ∷ asks_check (altered 16 1 (of_each 0xc651 (send standard 1 0 0 0 0 ∷ []) (send standard 0 0 0 0 0 ∷ []))) (5 at 0)
    ∷ asks_check (altered 24 0 (of_each 0xc3d5 (send standard 1 0 0 0 0 ∷ []) (send standard 0 0 0 0 0 ∷ []))) (5 at 1)
    -- Attached sizes 16,384 and 16,385; of two that are too large the first is told
    ∷ asks_check (draft_bytes (draft 1 0xfd1a [] (script 0 0 [] ∷ script 16384 0 [] ∷ []))) (0 at 0)
    ∷ asks_check (draft_bytes (draft 1 0x8bae [] (script 0 0 [] ∷ script 16385 0 [] ∷ []))) (5 at 1)
    ∷ asks_check (draft_bytes (draft 1 0xcc0e [] (script 16385 0 [] ∷ script 16385 0 [] ∷ []))) (5 at 0)
    -- Inboxes of 16,384 bytes together; one more, at the rank that brings the total above
    ∷ asks_check (draft_bytes (draft 1 0xd2d4 [] (script 0 16383 [] ∷ script 0 1 [] ∷ []))) (0 at 0)
    ∷ asks_check (draft_bytes (draft 1 0x10c6 [] (script 0 16383 [] ∷ script 0 2 [] ∷ script 0 0 [] ∷ []))) (5 at 1)
    ∷ asks_check (draft_bytes (draft 1 0x9e44 [] (script 0 16385 [] ∷ []))) (5 at 0)
    -- Counts that total one less and one more than N: the place is P. A wrong entry goes before the total
    ∷ asks_check (altered 26 0 (of_each 0x5d9f (send standard 1 0 0 0 0 ∷ []) (send standard 0 0 0 0 0 ∷ []))) (5 at 2)
    ∷ asks_check (altered 26 2 (of_each 0x10cb (send standard 1 0 0 0 0 ∷ []) (send standard 0 0 0 0 0 ∷ []))) (5 at 2)
    ∷ asks_check (altered 18 0 (of_each 0xb6d7 (send standard 1 0 0 0 0 ∷ []) (send standard 0 0 0 0 0 ∷ []))) (5 at 1)
    -- 6. Kinds 0 and 9 (7 and 8 are document 02's K9), flag 2, zero field 1, also in its high byte; a blocking operation's slot 1
    ∷ asks_check (draft_bytes (of_rank_1 0x44fd (send standard 0 0 0 0 1 ∷ []))) (0 at 0)
    ∷ asks_check (draft_bytes (of_rank_1 0xb4cc (send 0 0 0 0 0 1 ∷ []))) (6 at 0)
    ∷ asks_check (draft_bytes (of_rank_1 0xb592 (send 9 0 0 0 0 1 ∷ []))) (6 at 0)
    ∷ asks_check (draft_bytes (of_rank_1 0xf032 (send 9 0 0 0 0 0 ∷ []))) (6 at 0)
    ∷ asks_check (altered 33 2 (of_rank_1 0x6539 (send standard 0 0 0 0 1 ∷ []))) (6 at 0)
    ∷ asks_check (altered 38 1 (of_rank_1 0x4788 (send standard 0 0 0 0 1 ∷ []))) (6 at 0)
    ∷ asks_check (altered 39 1 (of_rank_1 0x9cb4 (send standard 0 0 0 0 1 ∷ []))) (6 at 0)
    ∷ asks_check (altered 46 1 (of_rank_1 0x3249 (send standard 0 0 0 0 1 ∷ []))) (6 at 0)
    ∷ asks_check (altered 46 1 (of_rank_1 0xc2ee (receive 0 0 0 0 1 ∷ []))) (6 at 0)
    -- Peer P-1, P, and any; communicator C-1 and C; of a send and of a receive
    ∷ asks_check (draft_bytes (of_rank_1 0x173e (send standard 1 1 0 0 1 ∷ receive 1 1 0 0 1 ∷ []))) (0 at 0)
    ∷ asks_check (draft_bytes (of_rank_1 0x0494 (send standard 2 0 0 0 1 ∷ []))) (6 at 0)
    ∷ asks_check (draft_bytes (of_rank_1 0xf433 (receive 2 0 0 0 1 ∷ []))) (6 at 0)
    ∷ asks_check (draft_bytes (of_rank_1 0x2ef7 (send standard any 0 0 0 1 ∷ []))) (6 at 0)
    ∷ asks_check (draft_bytes (of_rank_1 0xde50 (receive any 0 0 0 1 ∷ []))) (0 at 0)
    ∷ asks_check (draft_bytes (of_rank_1 0x7674 (receive 65534 0 0 0 1 ∷ []))) (6 at 0)
    ∷ asks_check (draft_bytes (of_rank_1 0xb23f (send standard 0 2 0 0 1 ∷ []))) (6 at 0)
    ∷ asks_check (draft_bytes (of_rank_1 0x4298 (receive 0 2 0 0 1 ∷ []))) (6 at 0)
    -- Tags 32,767 and 32,768, and any; of a send and of a receive
    ∷ asks_check (draft_bytes (of_rank_1 0x24c7 (send standard 0 0 32767 0 1 ∷ receive 0 0 32767 0 1 ∷ []))) (0 at 0)
    ∷ asks_check (draft_bytes (of_rank_1 0xfb4f (send standard 0 0 32768 0 1 ∷ []))) (6 at 0)
    ∷ asks_check (draft_bytes (of_rank_1 0x0be8 (receive 0 0 32768 0 1 ∷ []))) (6 at 0)
    ∷ asks_check (draft_bytes (of_rank_1 0xa5c4 (send standard 0 0 any 0 1 ∷ []))) (6 at 0)
    ∷ asks_check (draft_bytes (of_rank_1 0x5563 (receive 0 0 any 0 1 ∷ []))) (0 at 0)
    -- Capacities 4,096 and 4,097
    ∷ asks_check (draft_bytes (draft 1 0xdbf2 [] (script 0 5000 (receive 0 0 0 0 4096 ∷ []) ∷ []))) (0 at 0)
    ∷ asks_check (draft_bytes (draft 1 0xad46 [] (script 0 5000 (receive 0 0 0 0 4097 ∷ []) ∷ []))) (6 at 0)
    -- Offset plus length: to the end and one byte over it, of the payload and of the board's own inbox; an empty one too
    ∷ asks_check (draft_bytes (of_rank_1 0x9980 (send standard 0 0 0 1 1 ∷ send standard 0 0 0 2 0 ∷ []))) (0 at 0)
    ∷ asks_check (draft_bytes (of_rank_1 0x5657 (receive 0 0 0 2 2 ∷ receive 0 0 0 4 0 ∷ []))) (0 at 0)
    ∷ asks_check (draft_bytes (of_rank_1 0xcdce (send standard 0 0 0 1 2 ∷ []))) (6 at 0)
    ∷ asks_check (draft_bytes (of_rank_1 0xc928 (send standard 0 0 0 3 0 ∷ []))) (6 at 0)
    ∷ asks_check (draft_bytes (of_rank_1 0xb0bc (receive 0 0 0 2 3 ∷ []))) (6 at 0)
    ∷ asks_check (draft_bytes (of_rank_1 0xb944 (receive 0 0 0 5 0 ∷ []))) (6 at 0)
    -- Slots 31 and 32, of a send, a receive and a wait
    ∷ asks_check (draft_bytes (of_rank_1 0x2f9d (isend standard 0 0 0 0 1 31 ∷ wait 31 ∷ ireceive 0 0 0 0 1 31 ∷ wait 31 ∷ [])))
    (0 at 0)
    ∷ asks_check (draft_bytes (of_rank_1 0x6351 (isend standard 0 0 0 0 1 32 ∷ []))) (6 at 0)
    ∷ asks_check (draft_bytes (of_rank_1 0x93f6 (ireceive 0 0 0 0 1 32 ∷ []))) (6 at 0)
    ∷ asks_check (draft_bytes (of_rank_1 0xc6c6 (wait 32 ∷ []))) (6 at 0)
    -- A wait's other fields: flag, peer, communicator, zero, tag, offset, length
    ∷ asks_check (altered 49 1 (of_rank_1 0x4cce (isend standard 0 0 0 0 1 0 ∷ wait 0 ∷ []))) (6 at 1)
    ∷ asks_check (altered 50 1 (of_rank_1 0xf408 (isend standard 0 0 0 0 1 0 ∷ wait 0 ∷ []))) (6 at 1)
    ∷ asks_check (altered 52 1 (of_rank_1 0x274d (isend standard 0 0 0 0 1 0 ∷ wait 0 ∷ []))) (6 at 1)
    ∷ asks_check (altered 54 1 (of_rank_1 0x5f59 (isend standard 0 0 0 0 1 0 ∷ wait 0 ∷ []))) (6 at 1)
    ∷ asks_check (altered 56 1 (of_rank_1 0x3369 (isend standard 0 0 0 0 1 0 ∷ wait 0 ∷ []))) (6 at 1)
    ∷ asks_check (altered 58 1 (of_rank_1 0x1bff (isend standard 0 0 0 0 1 0 ∷ wait 0 ∷ []))) (6 at 1)
    ∷ asks_check (altered 60 1 (of_rank_1 0x198c (isend standard 0 0 0 0 1 0 ∷ wait 0 ∷ []))) (6 at 1)
    -- Of two the first is told
    ∷ asks_check (draft_bytes (of_rank_1 0x6d71 (send standard 0 0 0 0 1 ∷ send 9 0 0 0 0 1 ∷ send 0 0 0 0 0 1 ∷ []))) (6 at 1)
    -- 7. Slots: taken twice, by a send and by a receive; never taken; another taken; freed twice; taken again after its wait
    ∷ asks_check (draft_bytes (of_rank_1 0x3cb2 (isend standard 0 0 0 0 1 3 ∷ isend standard 0 0 0 0 1 3 ∷ []))) (7 at 1)
    ∷ asks_check (draft_bytes (of_rank_1 0xcc15 (isend standard 0 0 0 0 1 3 ∷ ireceive 0 0 0 0 1 3 ∷ []))) (7 at 1)
    ∷ asks_check (draft_bytes (of_rank_1 0xf188 (wait 0 ∷ []))) (7 at 0)
    ∷ asks_check (draft_bytes (of_rank_1 0xc808 (isend standard 0 0 0 0 1 3 ∷ wait 4 ∷ []))) (7 at 1)
    ∷ asks_check (draft_bytes (of_rank_1 0x0377 (isend standard 0 0 0 0 1 3 ∷ wait 3 ∷ wait 3 ∷ []))) (7 at 2)
    ∷ asks_check (draft_bytes (of_rank_1 0xb322 (isend standard 0 0 0 0 1 3 ∷ wait 3 ∷ isend standard 0 0 0 0 1 3 ∷ wait 3 ∷ [])))
    (0 at 0)
    -- Each board has its own slots: both take slot 0; rank 1 waits on rank 0's
    ∷ asks_check (draft_bytes (of_each 0x1c42 (isend standard 1 0 0 0 0 0 ∷ wait 0 ∷ []) (isend standard 0 0 0 0 0 0 ∷ wait 0 ∷ [])))
    (0 at 0)
    ∷ asks_check (draft_bytes (of_each 0x50dd (isend standard 1 0 0 0 0 0 ∷ []) (wait 0 ∷ []))) (7 at 1)
    -- Areas: one byte shared, from either side; areas that touch; of two the first is told
    ∷ asks_check (draft_bytes (of_rank_1 0x1025 (ireceive 0 0 0 0 2 0 ∷ ireceive 0 0 0 1 2 1 ∷ []))) (7 at 1)
    ∷ asks_check (draft_bytes (of_rank_1 0x7c50 (ireceive 0 0 0 2 2 0 ∷ ireceive 0 0 0 0 3 1 ∷ []))) (7 at 1)
    ∷ asks_check (draft_bytes (of_rank_1 0x9c25 (ireceive 0 0 0 1 2 0 ∷ ireceive 0 0 0 3 1 1 ∷ ireceive 0 0 0 0 1 2 ∷ wait 0 ∷ wait 1 ∷ wait 2 ∷ [])))
    (0 at 0)
    ∷ asks_check (draft_bytes (of_rank_1 0x1199 (ireceive 0 0 0 0 2 0 ∷ send standard 0 0 0 0 1 ∷ receive 0 0 0 1 1 ∷ wait 1 ∷ [])))
    (7 at 2)
    -- An empty area inside a held one, and a held empty one inside another
    ∷ asks_check (draft_bytes (of_rank_1 0x51ff (ireceive 0 0 0 0 4 0 ∷ ireceive 0 0 0 1 0 1 ∷ wait 0 ∷ wait 1 ∷ []))) (0 at 0)
    ∷ asks_check (draft_bytes (of_rank_1 0x0d4d (ireceive 0 0 0 1 0 0 ∷ ireceive 0 0 0 0 4 1 ∷ wait 0 ∷ wait 1 ∷ []))) (0 at 0)
    -- A blocking receive holds no area; a wait frees its slot's area and no other; a send's slot holds none
    ∷ asks_check (draft_bytes (of_rank_1 0x96af (receive 0 0 0 0 2 ∷ ireceive 0 0 0 0 2 0 ∷ wait 0 ∷ []))) (0 at 0)
    ∷ asks_check (draft_bytes (of_rank_1 0x42db (ireceive 0 0 0 0 2 0 ∷ wait 0 ∷ receive 0 0 0 0 2 ∷ []))) (0 at 0)
    ∷ asks_check (draft_bytes (of_rank_1 0xd4c1 (ireceive 0 0 0 0 2 0 ∷ ireceive 0 0 0 2 2 1 ∷ wait 1 ∷ receive 0 0 0 0 1 ∷ [])))
    (7 at 3)
    ∷ asks_check (draft_bytes (of_rank_1 0xefcf (isend standard 0 0 0 0 2 0 ∷ receive 0 0 0 0 2 ∷ wait 0 ∷ []))) (0 at 0)
    -- Areas of two boards share nothing
    ∷ asks_check (draft_bytes (of_each 0x4d89 (ireceive 1 0 0 0 2 0 ∷ wait 0 ∷ []) (ireceive 0 0 0 0 2 0 ∷ wait 0 ∷ []))) (0 at 0)
    -- Forgotten requests (document 02, K7): a send and a receive, on the first board and on the last
    ∷ asks_check (draft_bytes (of_each 0x61fb (isend standard 1 0 0 0 0 0 ∷ []) (receive 0 0 0 0 0 ∷ []))) (7 at 0)
    ∷ asks_check (draft_bytes (of_each 0x3541 (ireceive 1 0 0 0 0 0 ∷ []) (send standard 0 0 0 0 0 ∷ []))) (7 at 0)
    ∷ asks_check (draft_bytes (of_each 0xc423 (receive 1 0 0 0 0 ∷ []) (isend standard 0 0 0 0 0 0 ∷ []))) (7 at 1)
    ∷ asks_check (draft_bytes (of_each 0x9099 (send standard 1 0 0 0 0 ∷ []) (ireceive 0 0 0 0 0 0 ∷ []))) (7 at 1)
    -- Of two on one board, and of one on each, the first is told, though its slot is the higher
    ∷ asks_check (draft_bytes (of_rank_1 0x0f86 (send standard 0 0 0 0 1 ∷ isend standard 0 0 0 0 1 31 ∷ ireceive 0 0 0 0 1 0 ∷ [])))
    (7 at 1)
    ∷ asks_check (draft_bytes (of_each 0x56a7 (send standard 1 0 0 0 0 ∷ isend standard 1 0 0 0 0 1 ∷ []) (isend standard 0 0 0 0 0 0 ∷ [])))
    (7 at 1)
    -- A slot taken again after its wait and then forgotten: the operation that kept it is told. One that is freed behind it is not
    ∷ asks_check (draft_bytes (of_rank_1 0xa6e0 (isend standard 0 0 0 0 1 3 ∷ wait 3 ∷ isend standard 0 0 0 0 1 3 ∷ []))) (7 at 2)
    ∷ asks_check (draft_bytes (of_rank_1 0x8ff2 (isend standard 0 0 0 0 1 3 ∷ isend standard 0 0 0 0 1 4 ∷ wait 3 ∷ []))) (7 at 1)
    -- A wait on another board frees nothing here
    ∷ asks_check (draft_bytes (of_each 0xddaf (isend standard 1 0 0 0 0 0 ∷ []) (isend standard 0 0 0 0 0 0 ∷ wait 0 ∷ []))) (7 at 0)
    -- The other rules of 7 go before it over the whole sheet: a later area overlap, on its board and on another; a later wait
    ∷ asks_check (draft_bytes (of_rank_1 0x673d (isend standard 0 0 0 0 1 0 ∷ ireceive 0 0 0 0 2 1 ∷ receive 0 0 0 1 1 ∷ wait 1 ∷ [])))
    (7 at 2)
    ∷ asks_check (draft_bytes (of_each 0x2816 (isend standard 1 0 0 0 0 0 ∷ []) (ireceive 0 0 0 0 2 0 ∷ receive 0 0 0 0 1 ∷ wait 0 ∷ [])))
    (7 at 2)
    ∷ asks_check (draft_bytes (of_each 0x513b (ireceive 1 0 0 0 0 0 ∷ []) (send standard 0 0 0 0 0 ∷ wait 0 ∷ []))) (7 at 2)
    -- Lowest number first: a board entry behind a wrong kind; a wrong kind behind a slot that is not held, and behind a forgotten
    -- request
    ∷ asks_check (draft_bytes (draft 1 0x47cc [] (script 0 0 (send 9 1 0 0 0 0 ∷ []) ∷ script 16385 0 [] ∷ []))) (5 at 1)
    ∷ asks_check (draft_bytes (of_rank_1 0x1caa (wait 0 ∷ send 9 0 0 0 0 1 ∷ []))) (6 at 1)
    ∷ asks_check (draft_bytes (of_rank_1 0x1836 (isend standard 0 0 0 0 1 0 ∷ send 9 0 0 0 0 1 ∷ []))) (6 at 1)
    -- 8. Job 1's sheet: inbox 4, report 56, order out 4, scratch 65,536; exactly enough, and more
    ∷ asks_run (draft_bytes case_1_sheet) 4 56 4 65536 (0 at 0)
    ∷ asks_run (draft_bytes case_1_sheet) 5 57 5 65537 (0 at 0)
    -- Each one short; of several the first is told
    ∷ asks_run (draft_bytes case_1_sheet) 3 56 4 scratch_asked (8 at 1)
    ∷ asks_run (draft_bytes case_1_sheet) 4 55 4 scratch_asked (8 at 2)
    ∷ asks_run (draft_bytes case_1_sheet) 4 56 3 scratch_asked (8 at 3)
    ∷ asks_run (draft_bytes case_1_sheet) 4 56 4 65535 (8 at 4)
    ∷ asks_run (draft_bytes case_1_sheet) 0 0 0 0 (8 at 1)
    ∷ asks_run (draft_bytes case_1_sheet) 4 0 0 0 (8 at 2)
    ∷ asks_run (draft_bytes case_1_sheet) 4 56 0 0 (8 at 3)
    -- Follow asks for no order out
    ∷ asks_follow (draft_bytes case_1_sheet) [] 4 56 scratch_asked (0 at 0)
    ∷ asks_follow (draft_bytes case_1_sheet) [] 3 56 scratch_asked (8 at 1)
    ∷ asks_follow (draft_bytes case_1_sheet) [] 4 55 scratch_asked (8 at 2)
    ∷ asks_follow (draft_bytes case_1_sheet) [] 4 56 65535 (8 at 4)
    ∷ asks_follow (draft_bytes case_1_sheet) [] 3 55 0 (8 at 1)
    -- Document 01's 32,768 bytes of scratch are short (document 02, K11)
    ∷ asks_run (draft_bytes case_1_sheet) 4 56 4 32768 (8 at 4)
    ∷ asks_follow (draft_bytes case_1_sheet) [] 4 56 32768 (8 at 4)
    -- 7 goes before 8, a forgotten request too, and 8 before 9
    ∷ asks_run (draft_bytes (of_rank_1 0xf188 (wait 0 ∷ []))) 0 0 0 0 (7 at 0)
    ∷ asks_run (draft_bytes (of_rank_1 0xa4b8 (ireceive 0 0 0 0 1 0 ∷ []))) 0 0 0 0 (7 at 0)
    ∷ asks_follow (draft_bytes (of_rank_1 0xf188 (wait 0 ∷ []))) (0 ∷ []) 0 0 0 (7 at 0)
    ∷ asks_follow (draft_bytes (of_rank_1 0xa4b8 (ireceive 0 0 0 0 1 0 ∷ []))) (0 ∷ []) 0 0 0 (7 at 0)
    ∷ asks_follow (draft_bytes case_1_sheet) (2 ∷ []) 4 56 65535 (8 at 4)
    -- 9. Job 1's sheet: rank P and rank 255; a send that is not matched; a board that is finished, before and after the job's end
    ∷ asks_follow (draft_bytes case_1_sheet) (2 ∷ []) 4 56 scratch_asked (9 at 0)
    ∷ asks_follow (draft_bytes case_1_sheet) (0 ∷ 255 ∷ 1 ∷ []) 4 56 scratch_asked (9 at 1)
    ∷ asks_follow (draft_bytes case_1_sheet) (0 ∷ 0 ∷ []) 4 56 scratch_asked (9 at 1)
    ∷ asks_follow (draft_bytes case_1_sheet) (0 ∷ 1 ∷ 0 ∷ 0 ∷ []) 4 56 scratch_asked (9 at 3)
    ∷ asks_follow (draft_bytes case_1_sheet) (0 ∷ 1 ∷ 0 ∷ 1 ∷ []) 4 56 scratch_asked (0 at 0)
    ∷ asks_follow (draft_bytes case_1_sheet) (0 ∷ 1 ∷ 0 ∷ 1 ∷ 1 ∷ []) 4 56 scratch_asked (9 at 4)
    -- A wait on a send that is not matched; then of two the first is told
    ∷ asks_follow (draft_bytes (of_each 0xa504 (isend synchronous 1 0 0 0 0 0 ∷ wait 0 ∷ []) (receive 0 0 0 0 0 ∷ [])))
    (0 ∷ 0 ∷ 9 ∷ []) 4 68 scratch_asked (9 at 1)
    ∷ asks_follow (draft_bytes (of_each 0xa504 (isend synchronous 1 0 0 0 0 0 ∷ wait 0 ∷ []) (receive 0 0 0 0 0 ∷ [])))
    (0 ∷ 1 ∷ 0 ∷ []) 4 68 scratch_asked (0 at 0)
    -- After a stop no board is able: not ready, overflow. The stopping step itself is taken
    ∷ asks_follow (draft_bytes ready_sheet) (0 ∷ []) 2 56 scratch_asked (0 at 0)
    ∷ asks_follow (draft_bytes ready_sheet) (0 ∷ 1 ∷ []) 2 56 scratch_asked (9 at 1)
    ∷ asks_follow (draft_bytes (of_each 0xc15f (send buffered 1 0 0 0 1 ∷ []) (receive 0 0 0 0 1 ∷ [])))
    (0 ∷ 1 ∷ 1 ∷ []) 4 56 scratch_asked (9 at 1)
    ∷ asks_follow (draft_bytes (of_each 0xc15f (send buffered 1 0 0 0 1 ∷ []) (receive 0 0 0 0 1 ∷ [])))
    (1 ∷ 0 ∷ 0 ∷ 1 ∷ []) 4 56 scratch_asked (0 at 0)
    ∷ []
