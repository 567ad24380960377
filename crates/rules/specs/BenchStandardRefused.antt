-- Bench calls with sheets of the second edition (document 02, K6): numbers 3, 4, 5, 8 and 9, and calls next to them that are
-- accepted. Worked out by hand. BenchRefused says how to read a call and a sheet, BenchStandard a sheet of the second edition. With P
-- boards its board entries have 10 bytes each, and stand from byte 16 on. Assumes nothing.
use Rattle.std.specs.Prelude.{List, [], ◌∷◌, ◌++◌, ℕ, take}
use Rattle.rules.specs.BenchJob.{roomed, Draft, draft_2, draft_bytes}
use Rattle.rules.specs.BenchStandard.{both_rooms_sheet, some_covered_sheet}
use Rattle.rules.specs.BenchRefusal.{altered, plain, ◌at◌, BenchCall, scratch_asked, asks_check, asks_follow, asks_run}

-- one board, no operation, one payload byte
unfoldable pub plain_2 : (crc : ℕ) → Draft
plain_2 k = draft_2 1 k (11 ∷ []) (roomed 0 0 0 [] ∷ [])

unfoldable pub room_calls : List BenchCall
room_calls =
    -- 3. The sheet itself; offset 16 + 9P, that of the first edition, and one in its high byte; the payload's offset of the first
    -- edition; a byte less, a byte more
    asks_check (draft_bytes (plain_2 0xfee8)) (0 at 0)
    ∷ asks_check (altered 8 25 (plain_2 0xcfce)) (3 at 0)
    ∷ asks_check (altered 8 24 (plain_2 0xdf2c)) (3 at 0)
    ∷ asks_check (altered 9 1 (plain_2 0x56cc)) (3 at 0)
    ∷ asks_check (altered 10 24 (plain_2 0xb331)) (3 at 0)
    ∷ asks_check (take 26 (draft_bytes (plain_2 0xfee8))) (3 at 0)
    ∷ asks_check (draft_bytes (plain_2 0xfee8) ++ (0 ∷ [])) (3 at 0)
    -- A sheet of the first edition that tells the second's offset
    ∷ asks_check (altered 8 26 (plain 0x3870)) (3 at 0)
    -- 4. One bit of the CRC
    ∷ asks_check (draft_bytes (plain_2 0xfee9)) (4 at 0)
    -- 5. Rooms of 16,384 and of 16,385 bytes; of two that are too large the first is told
    ∷ asks_check (draft_bytes (draft_2 1 0xbe5e [] (roomed 0 0 16384 [] ∷ roomed 0 0 16384 [] ∷ []))) (0 at 0)
    ∷ asks_check (draft_bytes (draft_2 1 0xc9ba [] (roomed 0 0 0 [] ∷ roomed 0 0 16385 [] ∷ []))) (5 at 1)
    ∷ asks_check (draft_bytes (draft_2 1 0x8e1a [] (roomed 0 0 16385 [] ∷ roomed 0 0 16385 [] ∷ []))) (5 at 0)
    -- Rank before field: an attached size or an inbox of a later board gives way; rank 1's first operation too
    ∷ asks_check (draft_bytes (draft_2 1 0xa127 [] (roomed 0 0 16385 [] ∷ roomed 16385 0 0 [] ∷ []))) (5 at 0)
    ∷ asks_check (draft_bytes (draft_2 1 0x4b97 [] (roomed 16385 0 0 [] ∷ roomed 0 0 16385 [] ∷ []))) (5 at 0)
    ∷ asks_check (draft_bytes (draft_2 1 0xe80b [] (roomed 0 16385 0 [] ∷ roomed 0 0 16385 [] ∷ []))) (5 at 0)
    ∷ asks_check (altered 26 1 (draft_2 1 0x9aaa [] (roomed 0 0 16385 [] ∷ roomed 0 0 0 [] ∷ []))) (5 at 0)
    ∷ asks_check (altered 26 1 (draft_2 1 0xa6ff [] (roomed 0 0 0 [] ∷ roomed 0 0 16385 [] ∷ []))) (5 at 1)
    -- 8. A report of two boards and four operations has 88 bytes, where one of the first edition has 80
    ∷ asks_follow (draft_bytes both_rooms_sheet) (0 ∷ []) 4 88 scratch_asked (0 at 0)
    ∷ asks_follow (draft_bytes both_rooms_sheet) (0 ∷ []) 4 87 scratch_asked (8 at 2)
    ∷ asks_follow (draft_bytes both_rooms_sheet) (0 ∷ []) 4 80 scratch_asked (8 at 2)
    ∷ asks_run (draft_bytes both_rooms_sheet) 4 88 8 scratch_asked (0 at 0)
    ∷ asks_run (draft_bytes both_rooms_sheet) 4 87 8 scratch_asked (8 at 2)
    -- 9. A board that waits for a message that does not fit its room is not able; one whose message is buffered is
    ∷ asks_follow (draft_bytes some_covered_sheet) (0 ∷ 0 ∷ 0 ∷ 0 ∷ []) 6 112 scratch_asked (9 at 3)
    ∷ asks_follow (draft_bytes some_covered_sheet) (0 ∷ 0 ∷ 1 ∷ 0 ∷ 0 ∷ []) 6 112 scratch_asked (0 at 0)
    ∷ []
