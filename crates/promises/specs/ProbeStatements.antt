-- What is promised of probes and queries (document 02, K9), a part of demand 2: what their rows tell, that it stays, and that the
-- receive after a probe takes the message that was told. In the words of Statements. Assumes nothing: these are statements.
use Rattle.std.specs.Prelude.{◌≡◌, Bool, true, cond, List, ◌∷◌, ◌++◌, ℕ, suc, ◌≤◌, ◌<◌}
use Rattle.std.proofs.Math.Option.{some}
use Rattle.rules.specs.Limits.{absent}
use Rattle.rules.specs.Sheet.{Sheet, op, sheet_in, rank_of, is_send, is_receive, tells_message, tells_completion, tells}
use Rattle.rules.specs.Job.{entry, entry_at}
use Rattle.rules.specs.Step.{able, next_op, waited, fits_with, first_message, half_row}
use Rattle.rules.specs.Claims.{accepts, left_by}
use Rattle.promises.specs.Statements.{Lent, Told, told_by, OfJobs, Status}

-- A probe that is finished told message m: one that fits it, with source, tag and full length, neither cut nor with a
-- partner. No receive before the probe takes m, and an earlier message of m's sender that fits the probe was taken by a
-- receive before the probe.
pub record ProbeStatus (s : Sheet) (t : Told) (p m : ℕ) : Type 0 where
  pub sends : is_send (op s m) ≡ true
  pub fit : fits_with s m p ≡ true
  pub entered : 1 ≤ (t.row m).state
  pub row : t.row p ≡ entry 5 0 absent (rank_of s m) (op s m).tag (op s m).long
  pub not_taken : (t.row m).state ≡ 3 → p < (t.row m).partner
  pub first_sent : (k : ℕ) → is_send (op s k) ≡ true → k < m → rank_of s k ≡ rank_of s m → fits_with s k p ≡ true →
      ((t.row k).state ≡ 3) × ((t.row k).partner < p)

unfoldable pub ProbesTold : Sheet → Told → Type 0
ProbesTold s t = (p : ℕ) → tells_message (op s p) ≡ true → (t.row p).state ≡ 5 → (m : ℕ) × ProbeStatus s t p m

unfoldable pub Probes : Type 0
Probes = OfJobs ProbesTold

-- A query that is finished told 1 or 0 as its length, and nothing else; 1 only where the operation that holds its slot is complete.
pub record QueryStatus (s : Sheet) (t : Told) (p : ℕ) : Type 0 where
  pub answer : Bool
  pub row : t.row p ≡ entry 5 0 absent absent absent (cond answer 1 0)
  pub complete : answer ≡ true → (j : ℕ) × (waited s p ≡ some j) × (2 ≤ (t.row j).state)

unfoldable pub QueriesTold : Sheet → Told → Type 0
QueriesTold s t = (p : ℕ) → tells_completion (op s p) ≡ true → (t.row p).state ≡ 5 → QueryStatus s t p

unfoldable pub Queries : Type 0
Queries = OfJobs QueriesTold

-- What is told is what the rule gives at that step, of the job before it, and it stays: for every order with a step that tells in
-- it, the row that the whole order leaves.
unfoldable pub ToldAtItsStep : Type 0
ToldAtItsStep =
    (bs i before after : List ℕ) (r : ℕ) → Lent bs i →
    let s = sheet_in bs in
    let x = left_by s before i in
    accepts s before i ≡ true → able s x r ≡ true → tells (op s (next_op s x r)) ≡ true →
    entry_at (left_by s (before ++ (r ∷ after)) i) (next_op s x r) ≡ half_row s x (next_op s x r)

-- PROBE, THEN RECEIVE (MPI promises it of MPI_PROBE): a receive that follows probe p in its script, with the communicator of the
-- probe and the source and tag that the probe told.
pub record AsksTold (s : Sheet) (t : Told) (p : ℕ) : Type 0 where
  pub receives : is_receive (op s (suc p)) ≡ true
  pub same_board : rank_of s (suc p) ≡ rank_of s p
  pub same_comm : (op s (suc p)).comm ≡ (op s p).comm
  pub same_source : (op s (suc p)).peer ≡ (t.row p).source
  pub same_tag : (op s (suc p)).tag ≡ (t.row p).tag

-- Once it is entered it is matched with the message that the probe told, whatever other boards did between; the probe may name
-- any source and any tag. The message told is the one that the probe's step found.
unfoldable pub ProbeThenReceive : Type 0
ProbeThenReceive =
    (bs i before after : List ℕ) (r m : ℕ) → Lent bs i →
    let s = sheet_in bs in
    let x = left_by s before i in
    let p = next_op s x r in
    let t = told_by s (left_by s (before ++ (r ∷ after)) i) in
    accepts s before i ≡ true → able s x r ≡ true → tells_message (op s p) ≡ true → first_message s p x.messages ≡ some m →
    AsksTold s t p → 1 ≤ (t.row (suc p)).state → Status s t m (suc p)

-- The same of what is told alone: the receive's status is that of a message that the probe told, so that both rows tell the
-- same source, tag and length.
unfoldable pub ReceivesTold : Sheet → Told → Type 0
ReceivesTold s t =
    (p : ℕ) → tells_message (op s p) ≡ true → (t.row p).state ≡ 5 → AsksTold s t p → 1 ≤ (t.row (suc p)).state →
    (m : ℕ) × ProbeStatus s t p m × Status s t m (suc p)

unfoldable pub ToldThenReceived : Type 0
ToldThenReceived = OfJobs ReceivesTold
