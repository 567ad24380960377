-- A bench call (document 01, "When the desk says no"): a sheet as a person writes it or as bytes, the rooms that are lent, the
-- number and place that must come out, and the test of that. Assumes nothing.
use Rattle.std.specs.Prelude.{Bool, ◌&&◌, List, [], ◌∷◌, ℕ, ◌+◌, ◌*◌, eqb, set, replicate}
use Rattle.rules.specs.Refusal.{Refusal, sheet_refusal}
use Rattle.rules.specs.Service.{follow_refusal, run_refusal}
use Rattle.rules.specs.BenchJob.{Line, script, Draft, draft, as_words, draft_bytes}

-- SHEETS: a draft with one byte changed. The CRC that the draft gives is the changed sheet's
unfoldable pub altered : (at byte : ℕ) → Draft → List ℕ
altered at b d = set (draft_bytes d) at b

-- a sheet that ends after its header; P, C, N, L are the header's, its offsets are right, its CRC is 0
unfoldable pub header_only : (p c n l : ℕ) → List ℕ
header_only p c n l =
    let o = 16 + 8 * p in
    as_words (p ∷ c ∷ n ∷ 16 ∷ o ∷ (o + 16 * n) ∷ l ∷ 0 ∷ [])

-- one board, no operation, one payload byte
unfoldable pub plain : (crc : ℕ) → Draft
plain k = draft 1 k (11 ∷ []) (script 0 0 [] ∷ [])

-- two boards, two communicators, two payload bytes. All operations are rank 1's, whose inbox has 4 bytes; rank 0's has 9
unfoldable pub of_rank_1 : (crc : ℕ) → List Line → Draft
of_rank_1 k ls = draft 2 k (11 ∷ 12 ∷ []) (script 0 9 [] ∷ script 0 4 ls ∷ [])

-- two boards with operations and two bytes of inbox each, one communicator, one payload byte
unfoldable pub of_each : (crc : ℕ) → List Line → List Line → Draft
of_each k ls ms = draft 1 k (11 ∷ []) (script 0 2 ls ∷ script 0 2 ms ∷ [])

-- CALLS: number and place that a call must answer; 0 at 0 is success
infix 70 ◌at◌
pub data Answer : Type 0 where
  ◌at◌ : (number place : ℕ) → Answer

-- the scratch that follow and run ask for, written out: what is expected does not read Limits (document 02, K11)
abbrev pub scratch_asked : ℕ
scratch_asked = 65536

-- rooms are given by their sizes
pub data BenchCall : Type 0 where
  asks_check : (sheet : List ℕ) → Answer → BenchCall
  asks_follow : (sheet order : List ℕ) → (inbox report scratch : ℕ) → Answer → BenchCall
  asks_run : (sheet : List ℕ) → (inbox report order scratch : ℕ) → Answer → BenchCall

-- THE TEST
unfoldable pub is_answer : Refusal → Answer → Bool
is_answer f (n at p) = eqb f.number n && eqb f.place p

unfoldable pub as_answered : BenchCall → Bool
as_answered (asks_check bs a) = is_answer (sheet_refusal bs) a
as_answered (asks_follow bs o i r c a) = is_answer (follow_refusal bs o (replicate i 90) r c) a
as_answered (asks_run bs i r o c a) = is_answer (run_refusal bs i r o c) a
