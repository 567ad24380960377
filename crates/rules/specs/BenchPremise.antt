-- The premise service on sheets written by hand, in one list, of which proofs/BenchPremise has one claim that the checker computes.
-- What each must answer is worked out from document 01, "What is pinned down", and document 02, K6 and K9. BenchNumbered, BenchProbes
-- and BenchStandard say how to read a sheet. Assumes nothing.
use Rattle.std.specs.Prelude.{Bool, ◌&&◌, List, [], ◌∷◌, ℕ, eqb}
use Rattle.rules.specs.Premise.{premise_refusal}
use Rattle.rules.specs.BenchJob.{standard, buffered, synchronous, ready, any, send, isend, receive, ireceive, wait, probe, query}
use Rattle.rules.specs.BenchJob.{script, roomed, Draft, draft, draft_2, draft_bytes}
use Rattle.rules.specs.BenchNumbered.{case_1_sheet, ready_sheet, any_source_sheet}

-- a sheet, and the number and place that premise must answer
pub data Question : Type 0 where
  asked : Draft → (number place : ℕ) → Question

unfoldable pub answered : Question → Bool
answered (asked d n p) =
    let f = premise_refusal (draft_bytes d) in
    eqb f.number n && eqb f.place p

-- rank 0 sends 2 and 3 bytes, and rank 1 a byte, in standard mode; a room for each (document 02, K6)
unfoldable pub standard_sheet : (crc room_0 room_1 : ℕ) → Draft
standard_sheet k a b =
    draft_2 1 k (11 ∷ 12 ∷ 13 ∷ 14 ∷ 15 ∷ [])
    (roomed 0 1 a (send standard 1 0 4 0 2 ∷ isend standard 1 0 4 2 3 0 ∷ wait 0 ∷ receive 1 0 4 0 1 ∷ [])
    ∷ roomed 0 5 b (receive 0 0 any 0 3 ∷ receive 0 0 4 3 2 ∷ send standard 0 0 4 0 1 ∷ []) ∷ [])

unfoldable pub questions : List Question
questions =
    -- 20 at the first operation, and at a later one: the first of two any-source receives
    asked (draft 1 0x465c [] (script 0 1 (receive any 0 3 0 1 ∷ []) ∷ [])) 20 0
    ∷ asked any_source_sheet 20 2
    -- 21 at the first operation, and at a later one, which is nonblocking
    ∷ asked ready_sheet 21 0
    ∷ asked
    (draft 1 0x9997 (11 ∷ 12 ∷ [])
    (script 0 2 (receive 1 0 1 0 1 ∷ receive 1 0 2 1 1 ∷ [])
    ∷ script 0 0 (send standard 0 0 1 0 1 ∷ isend ready 0 0 2 1 1 0 ∷ wait 0 ∷ []) ∷ []))
    21 3
    -- two buffered sends, charged 2 + 32 and 3 + 32: 69 bytes cover them; with 68, which cover either alone, 22 at rank 0
    ∷ asked
    (draft 1 0x6d26 (11 ∷ 12 ∷ 13 ∷ 14 ∷ 15 ∷ [])
    (script 69 0 (send buffered 1 0 4 0 2 ∷ isend buffered 1 0 4 2 3 0 ∷ wait 0 ∷ [])
    ∷ script 0 6 (receive 0 0 any 0 3 ∷ receive 0 0 4 3 3 ∷ []) ∷ []))
    0 0
    ∷ asked
    (draft 1 0xf31c (11 ∷ 12 ∷ 13 ∷ 14 ∷ 15 ∷ [])
    (script 68 0 (send buffered 1 0 4 0 2 ∷ isend buffered 1 0 4 2 3 0 ∷ wait 0 ∷ [])
    ∷ script 0 6 (receive 0 0 any 0 3 ∷ receive 0 0 4 3 3 ∷ []) ∷ []))
    22 0
    -- each board covers its own sends, though not both boards'; with a byte less at rank 1, 22 there
    ∷ asked
    (draft 1 0x3f11 (11 ∷ 12 ∷ [])
    (script 34 2 (send buffered 1 0 1 0 2 ∷ receive 1 0 1 0 2 ∷ [])
    ∷ script 34 2 (send buffered 0 0 1 0 2 ∷ receive 0 0 1 0 2 ∷ []) ∷ []))
    0 0
    ∷ asked
    (draft 1 0xa1fb (11 ∷ 12 ∷ [])
    (script 34 2 (send buffered 1 0 1 0 2 ∷ receive 1 0 1 0 2 ∷ [])
    ∷ script 33 2 (send buffered 0 0 1 0 2 ∷ receive 0 0 1 0 2 ∷ []) ∷ []))
    22 1
    -- 20 wins over 21 and 22, behind them or before them; 21 wins over 22
    ∷ asked
    (draft 1 0x9382 (11 ∷ 12 ∷ [])
    (script 0 0 (send ready 1 0 1 0 1 ∷ send buffered 1 0 1 0 1 ∷ [])
    ∷ script 0 2 (receive 0 0 1 0 1 ∷ ireceive any 0 1 1 1 0 ∷ wait 0 ∷ []) ∷ []))
    20 3
    ∷ asked
    (draft 1 0x823c (11 ∷ []) (script 0 1 (ireceive any 0 1 0 1 0 ∷ send ready 0 0 1 0 1 ∷ wait 0 ∷ []) ∷ []))
    20 0
    ∷ asked
    (draft 1 0x8c23 (11 ∷ [])
    (script 0 1 (send buffered 1 0 1 0 1 ∷ receive 1 0 1 0 1 ∷ [])
    ∷ script 0 1 (receive 0 0 1 0 1 ∷ send ready 0 0 1 0 1 ∷ []) ∷ []))
    21 3
    -- a probe from any source (document 02, K9) is 20 too, behind a receive that names its source, and before an any-source
    -- receive; one that names its source is not, though it is of any tag
    ∷ asked (draft 1 0x8270 [] (script 0 1 (receive 0 0 3 0 1 ∷ probe any 0 3 ∷ []) ∷ [])) 20 1
    ∷ asked (draft 1 0xaf58 [] (script 0 1 (probe any 0 any ∷ receive any 0 3 0 1 ∷ []) ∷ [])) 20 0
    ∷ asked (draft 1 0xd53c [] (script 0 1 (probe 0 0 any ∷ receive 0 0 any 0 1 ∷ []) ∷ [])) 0 0
    -- 23 at the first of two queries (K9), on a board that is covered and has a probe
    ∷ asked
    (draft 1 0x973b []
    (script 32 0 (send buffered 1 0 1 0 0 ∷ isend standard 1 0 2 0 0 0 ∷ query 0 ∷ query 0 ∷ wait 0 ∷ [])
    ∷ script 0 0 (probe 0 0 any ∷ receive 0 0 1 0 0 ∷ receive 0 0 2 0 0 ∷ []) ∷ []))
    23 2
    -- with a byte less 22 wins over 23; 20 and 21 do so too, behind the query
    ∷ asked
    (draft 1 0xb0d5 []
    (script 31 0 (send buffered 1 0 1 0 0 ∷ isend standard 1 0 2 0 0 0 ∷ query 0 ∷ query 0 ∷ wait 0 ∷ [])
    ∷ script 0 0 (probe 0 0 any ∷ receive 0 0 1 0 0 ∷ receive 0 0 2 0 0 ∷ []) ∷ []))
    22 0
    ∷ asked (draft 1 0x69c1 [] (script 0 0 (ireceive 0 0 1 0 0 0 ∷ query 0 ∷ wait 0 ∷ probe any 0 1 ∷ []) ∷ [])) 20 3
    ∷ asked (draft 1 0xaad3 [] (script 0 0 (ireceive 0 0 1 0 0 0 ∷ query 0 ∷ send ready 0 0 1 0 0 ∷ wait 0 ∷ []) ∷ [])) 21 2
    -- two standard sends of 2 and 3 bytes (document 02, K6): a room of 5 covers them, as one of 0 does nothing and need not; with 4, which
    -- holds either alone, 24 at rank 0
    ∷ asked (standard_sheet 0xed81 5 0) 0 0
    ∷ asked (standard_sheet 0x0096 0 0) 0 0
    ∷ asked (standard_sheet 0xdb7a 4 0) 24 0
    -- each board covers its own sends; with a room a byte short at rank 1, 24 there: its synchronous send does not count
    ∷ asked (standard_sheet 0x3fcd 5 1) 0 0
    ∷ asked
    (draft_2 1 0xf3fd (11 ∷ 12 ∷ 13 ∷ 14 ∷ 15 ∷ [])
    (roomed 0 0 5 (send standard 1 0 4 0 2 ∷ isend standard 1 0 4 2 3 0 ∷ wait 0 ∷ [])
    ∷ roomed 0 5 1 (receive 0 0 any 0 3 ∷ receive 0 0 4 3 2 ∷ isend synchronous 0 0 4 0 1 0 ∷ isend standard 1 0 9 0 2 1 ∷ wait 0 ∷ wait 1 ∷ []) ∷ []))
    24 1
    -- other modes need no room, and one without standard sends covers; a buffered send's buffer is asked first, and a query, though it
    -- stands behind
    ∷ asked
    (draft_2 1 0x0900 (11 ∷ 12 ∷ 13 ∷ [])
    (roomed 34 0 1 (send buffered 1 0 4 0 2 ∷ send synchronous 1 0 4 0 3 ∷ [])
    ∷ roomed 0 5 0 (receive 0 0 any 0 2 ∷ receive 0 0 4 2 3 ∷ []) ∷ []))
    0 0
    ∷ asked
    (draft_2 1 0xa2c0 (11 ∷ 12 ∷ 13 ∷ [])
    (roomed 33 0 1 (send buffered 1 0 4 0 2 ∷ send standard 1 0 4 0 3 ∷ [])
    ∷ roomed 0 5 0 (receive 0 0 any 0 2 ∷ receive 0 0 4 2 3 ∷ []) ∷ []))
    22 0
    ∷ asked
    (draft_2 1 0xcbe0 (11 ∷ 12 ∷ 13 ∷ [])
    (roomed 0 0 1 (send standard 1 0 4 0 3 ∷ [])
    ∷ roomed 0 5 0 (ireceive 0 0 4 0 3 0 ∷ query 0 ∷ wait 0 ∷ []) ∷ []))
    23 2
    -- a refusal of check wins over all: another CRC, a peer that is no rank, a wait on a slot that nobody holds, a forgotten request,
    -- also where a query names it
    ∷ asked (draft 1 0x465d [] (script 0 1 (receive any 0 3 0 1 ∷ []) ∷ [])) 4 0
    ∷ asked (draft 1 0x519d [] (script 0 0 (send ready 9 0 3 0 0 ∷ []) ∷ [])) 6 0
    ∷ asked (draft 1 0x610e [] (script 0 1 (receive any 0 3 0 1 ∷ wait 0 ∷ []) ∷ [])) 7 1
    ∷ asked (draft 1 0xe8a0 [] (script 0 1 (ireceive any 0 3 0 1 0 ∷ []) ∷ [])) 7 0
    ∷ asked (draft 1 0x145c [] (script 0 1 (ireceive 0 0 3 0 1 0 ∷ query 0 ∷ []) ∷ [])) 7 0
    -- a receive of any tag names its source, and a synchronous send is charged nothing; no operations at all
    ∷ asked case_1_sheet 0 0
    ∷ asked (draft 1 0xe5b1 [] (script 0 0 [] ∷ [])) 0 0 ∷ []
