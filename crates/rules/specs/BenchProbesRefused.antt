-- Bench calls with probes and queries (document 02, K9): numbers 6, 7 and 9, and calls next to them that are accepted. Worked out by
-- hand. BenchRefused says how to read a call and a sheet; some sheets are BenchProbes'. Assumes nothing.
use Rattle.std.specs.Prelude.{List, [], ◌∷◌}
use Rattle.rules.specs.BenchJob.{standard, any, send, isend, receive, ireceive, wait, probe, query, draft_bytes}
use Rattle.rules.specs.BenchProbes.{probe_sheet, query_sheet, stopped_sheet}
use Rattle.rules.specs.BenchRefusal.{altered, of_rank_1, of_each, ◌at◌, BenchCall, scratch_asked, asks_check, asks_follow}

unfoldable pub probe_calls : List BenchCall
probe_calls =
    -- A probe (document 02, K9) at its limits: peer P-1, communicator C-1, tag 32,767; any source and any tag
    asks_check (draft_bytes (of_rank_1 0xd066 (probe 0 0 0 ∷ probe 1 1 32767 ∷ probe any 0 any ∷ []))) (0 at 0)
    -- Its fields: flag, peer P and one below any, communicator, zero, tag and one below any, offset, length, slot
    ∷ asks_check (altered 33 1 (of_rank_1 0x115b (probe 0 0 0 ∷ []))) (6 at 0)
    ∷ asks_check (draft_bytes (of_rank_1 0x41d0 (probe 2 0 0 ∷ []))) (6 at 0)
    ∷ asks_check (draft_bytes (of_rank_1 0xc397 (probe 65534 0 0 ∷ []))) (6 at 0)
    ∷ asks_check (draft_bytes (of_rank_1 0xf77b (probe 0 2 0 ∷ []))) (6 at 0)
    ∷ asks_check (altered 38 1 (of_rank_1 0x02cc (probe 0 0 0 ∷ []))) (6 at 0)
    ∷ asks_check (draft_bytes (of_rank_1 0xbe0b (probe 0 0 32768 ∷ []))) (6 at 0)
    ∷ asks_check (draft_bytes (of_rank_1 0x8fc5 (probe 0 0 65534 ∷ []))) (6 at 0)
    ∷ asks_check (altered 42 1 (of_rank_1 0x466a (probe 0 0 0 ∷ []))) (6 at 0)
    ∷ asks_check (altered 44 1 (of_rank_1 0x4419 (probe 0 0 0 ∷ []))) (6 at 0)
    ∷ asks_check (altered 46 1 (of_rank_1 0x770d (probe 0 0 0 ∷ []))) (6 at 0)
    -- A query (K9): slots 31 and 32; its other fields: flag, peer, communicator, zero, tag, offset, length
    ∷ asks_check (draft_bytes (of_rank_1 0xc5aa (isend standard 0 0 0 0 1 31 ∷ query 31 ∷ wait 31 ∷ []))) (0 at 0)
    ∷ asks_check (draft_bytes (of_rank_1 0x374d (query 32 ∷ []))) (6 at 0)
    ∷ asks_check (altered 49 1 (of_rank_1 0xe970 (isend standard 0 0 0 0 1 0 ∷ query 0 ∷ wait 0 ∷ []))) (6 at 1)
    ∷ asks_check (altered 50 1 (of_rank_1 0x3dea (isend standard 0 0 0 0 1 0 ∷ query 0 ∷ wait 0 ∷ []))) (6 at 1)
    ∷ asks_check (altered 52 1 (of_rank_1 0x6db3 (isend standard 0 0 0 0 1 0 ∷ query 0 ∷ wait 0 ∷ []))) (6 at 1)
    ∷ asks_check (altered 54 1 (of_rank_1 0x4038 (isend standard 0 0 0 0 1 0 ∷ query 0 ∷ wait 0 ∷ []))) (6 at 1)
    ∷ asks_check (altered 56 1 (of_rank_1 0xc8cd (isend standard 0 0 0 0 1 0 ∷ query 0 ∷ wait 0 ∷ []))) (6 at 1)
    ∷ asks_check (altered 58 1 (of_rank_1 0x53af (isend standard 0 0 0 0 1 0 ∷ query 0 ∷ wait 0 ∷ []))) (6 at 1)
    ∷ asks_check (altered 60 1 (of_rank_1 0x0974 (isend standard 0 0 0 0 1 0 ∷ query 0 ∷ wait 0 ∷ []))) (6 at 1)
    -- A query (K9) names a slot as a wait does: never taken; another taken; freed; another board's; two queries before the wait
    ∷ asks_check (draft_bytes (of_rank_1 0x0003 (query 0 ∷ []))) (7 at 0)
    ∷ asks_check (draft_bytes (of_rank_1 0x527f (isend standard 0 0 0 0 1 3 ∷ query 4 ∷ wait 3 ∷ []))) (7 at 1)
    ∷ asks_check (draft_bytes (of_rank_1 0xf2fc (isend standard 0 0 0 0 1 3 ∷ wait 3 ∷ query 3 ∷ []))) (7 at 2)
    ∷ asks_check (draft_bytes (of_each 0x1b97 (isend standard 1 0 0 0 0 0 ∷ wait 0 ∷ []) (query 0 ∷ []))) (7 at 2)
    ∷ asks_check (draft_bytes (of_rank_1 0x902b (isend standard 0 0 0 0 1 3 ∷ query 3 ∷ query 3 ∷ wait 3 ∷ []))) (0 at 0)
    -- It frees nothing: the slot may not be taken again, nor its area used; and the request that it alone names is forgotten
    ∷ asks_check (draft_bytes (of_rank_1 0x4da6 (isend standard 0 0 0 0 1 3 ∷ query 3 ∷ isend standard 0 0 0 0 1 3 ∷ wait 3 ∷ [])))
    (7 at 2)
    ∷ asks_check (draft_bytes (of_rank_1 0x3573 (ireceive 0 0 0 0 2 0 ∷ query 0 ∷ receive 0 0 0 0 1 ∷ wait 0 ∷ []))) (7 at 2)
    ∷ asks_check (draft_bytes (of_rank_1 0x68ae (isend standard 0 0 0 0 1 3 ∷ query 3 ∷ []))) (7 at 0)
    -- A probe (K9) takes no slot and frees none, and has no area, though its slot is 0 and its offset too
    ∷ asks_check (draft_bytes (of_rank_1 0x55cc (ireceive 0 0 0 0 2 0 ∷ probe 0 0 0 ∷ wait 0 ∷ []))) (0 at 0)
    ∷ asks_check (draft_bytes (of_rank_1 0xac1d (isend standard 0 0 0 0 1 0 ∷ probe 0 0 0 ∷ []))) (7 at 0)
    -- A probe (document 02, K9) before its message: with none there, and with one of another tag. With it there, one step
    ∷ asks_follow (draft_bytes probe_sheet) (1 ∷ []) 4 68 scratch_asked (9 at 0)
    ∷ asks_follow (draft_bytes (of_each 0x9aaa (send standard 1 0 1 0 0 ∷ []) (probe 0 0 2 ∷ []))) (0 ∷ 1 ∷ []) 4 56 scratch_asked (9 at 1)
    ∷ asks_follow (draft_bytes probe_sheet) (0 ∷ 1 ∷ 1 ∷ 1 ∷ 0 ∷ []) 4 68 scratch_asked (0 at 0)
    ∷ asks_follow (draft_bytes probe_sheet) (0 ∷ 1 ∷ 1 ∷ 1 ∷ 1 ∷ []) 4 68 scratch_asked (9 at 4)
    -- A query (K9) is able before its operation is complete, and the wait behind it is not
    ∷ asks_follow (draft_bytes query_sheet) (0 ∷ 0 ∷ 0 ∷ []) 1 92 scratch_asked (0 at 0)
    ∷ asks_follow (draft_bytes query_sheet) (0 ∷ 0 ∷ 0 ∷ 0 ∷ []) 1 92 scratch_asked (9 at 3)
    -- After a stop neither is able, though both could step before it
    ∷ asks_follow (draft_bytes stopped_sheet) (0 ∷ 2 ∷ 0 ∷ 1 ∷ 2 ∷ []) 0 112 scratch_asked (0 at 0)
    ∷ asks_follow (draft_bytes stopped_sheet) (0 ∷ 2 ∷ 0 ∷ 0 ∷ 1 ∷ []) 0 112 scratch_asked (9 at 4)
    ∷ asks_follow (draft_bytes stopped_sheet) (0 ∷ 2 ∷ 0 ∷ 0 ∷ 2 ∷ []) 0 112 scratch_asked (9 at 4)
    ∷ []
