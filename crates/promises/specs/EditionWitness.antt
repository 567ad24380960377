-- Two sheets that EditionStatements speaks of: bench job 1, in both editions. That they are such ones is computed in proofs/EditionWitness.
-- Assumes nothing.
use Rattle.std.specs.Prelude.{[], ◌∷◌}
use Rattle.rules.specs.BenchJob.{synchronous, any, send, receive, roomed, Draft, draft_2}

-- bench job 1 in the second edition
unfoldable pub case_1_second : Draft
case_1_second =
    draft_2 1 0x89ee (11 ∷ 12 ∷ 13 ∷ [])
    (roomed 0 0 0 (send synchronous 1 0 7 0 3 ∷ [])
    ∷ roomed 0 4 0 (receive 0 0 any 0 4 ∷ []) ∷ [])
