-- Whether the order of steps can matter for a sheet (document 01, "What is pinned down", the first point of demand 3), as a
-- service answers it: the lowest number first, each at its first place. The numbers 20 to 24 are this service's own and stand
-- beside 1 to 9 of document 01's table. Assumes nothing: these are definitions.
use Rattle.std.specs.Prelude.{Bool, not, List, ℕ}
use Rattle.rules.specs.Sheet.{Sheet, op, board, P_of, N_of, is_ready, tells_completion, sheet_in}
use Rattle.rules.specs.Refusal.{Refusal, or_else, first_broken, sheet_refusal}
use Rattle.rules.specs.Service.{Answers}
use Rattle.rules.specs.Job.{in_attached}
use Rattle.rules.specs.Claims.{is_any_source, covers, none_or_covers}

-- 20: a receive or a probe from any source; the place is its operation
unfoldable pub source_good : Sheet → (i : ℕ) → Bool
source_good s i = not (is_any_source (op s i))

unfoldable pub any_source_refusal : Sheet → Refusal
any_source_refusal s = first_broken 20 (source_good s) (N_of s) 0

-- 21: a ready send; the place is its operation
unfoldable pub mode_good : Sheet → (i : ℕ) → Bool
mode_good s i = not (is_ready (op s i))

unfoldable pub ready_refusal : Sheet → Refusal
ready_refusal s = first_broken 21 (mode_good s) (N_of s) 0

-- 22: a board whose attached buffer does not cover the charges of all its buffered sends, were none matched; the place is its
-- rank
unfoldable pub cover_good : Sheet → (r : ℕ) → Bool
cover_good s r = covers in_attached s.ops (board s r)

unfoldable pub cover_refusal : Sheet → Refusal
cover_refusal s = first_broken 22 (cover_good s) (P_of s) 0

-- 23: a query (document 02, K9); the place is its operation
unfoldable pub query_good : Sheet → (i : ℕ) → Bool
query_good s i = not (tells_completion (op s i))

unfoldable pub query_refusal : Sheet → Refusal
query_refusal s = first_broken 23 (query_good s) (N_of s) 0

-- 24: a board with a standard room that does not cover the lengths of all its standard sends (document 02, K6); the place is its
-- rank
unfoldable pub room_good : Sheet → (r : ℕ) → Bool
room_good s r = none_or_covers s.ops (board s r)

unfoldable pub rooms_refusal : Sheet → Refusal
rooms_refusal s = first_broken 24 (room_good s) (P_of s) 0

-- why a sheet that passes check is not calm: what may make the order matter
unfoldable pub calm_refusal : Sheet → Refusal
calm_refusal s =
    or_else (any_source_refusal s)
    (or_else (ready_refusal s) (or_else (cover_refusal s) (or_else (query_refusal s) (rooms_refusal s))))

-- PREMISE: refusals 1 to 7 as check gives them, then 20 to 24, or number 0 and place 0
unfoldable pub premise_refusal : List ℕ → Refusal
premise_refusal bs = or_else (sheet_refusal bs) (calm_refusal (sheet_in bs))

unfoldable pub PremiseSays : (sheet : List ℕ) → (number place : ℕ) → Type 0
PremiseSays bs n p = Answers (premise_refusal bs) n p
