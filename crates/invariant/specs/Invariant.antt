-- The invariant of reachable jobs. A job is determined by where its boards stand: the matching that it holds is stable (no
-- fitting pair is pending, and each match took the earliest on both sides), a stable matching over given entered operations
-- is unique, and rows, memory and buffer use follow from it. `Reached` collects what every job that an order leads to keeps;
-- each field says who needs it.
--   MatchedPair    a message and a receive that are matched with each other
--   Stable          the matching is stable
--   Arrived         in which order the entered sends came
--   Placed          which operations are entered and complete, by where the boards stand
--   Shaped          a row is determined by its state and partner, but for operations that tell
--   Told            what the rows of operations that tell say
--   Reached         all of it, and the waiting lists, charges, memory and steps
--   Telling         what a step does to what is told
--   Extended        the invariant after a step, and what the step did to the order of arrival
-- Assumes nothing: these are definitions.
use Rattle.std.specs.Prelude.{◌≡◌, ◌⊎◌, ◌≢◌, Bool, true, false, ◌&&◌, ◌||◌, cond, List, ℕ, zero, suc, ◌+◌, ◌≤◌, ◌<◌, eqb, ltb, length}
use Rattle.std.proofs.Math.Option.{some}
use Rattle.rules.specs.Limits.{absent}
use Rattle.rules.specs.Sheet.{Sheet, Op, op, board, P_of, N_of, rank_of, is_send, is_receive, only_half, is_standard, is_buffered, no_half}
use Rattle.rules.specs.Sheet.{tells_message, tells_completion, tells}
use Rattle.rules.specs.Job.{Job, Entry, Stop, Store, in_use_at, peak_at, entry, bare_entry, entry_at, place_at}
use Rattle.rules.specs.Step.{next_op, half_complete, complete_if, waited, fits_with, first_message, is_cut, kept_in, size_of, charge_of, delivered, is_none}
use Rattle.rules.specs.Step.{fits_room, probe_row, query_row, half_row}
use Rattle.rules.specs.Claims.{rooms_cover}
use Rattle.laws.specs.Sums.{sum_below}
use Rattle.laws.specs.WaitingLists.{Holds}

abbrev pub state_at : Job → (j : ℕ) → ℕ
state_at x j = (entry_at x j).state

abbrev pub partner_at : Job → (j : ℕ) → ℕ
partner_at x j = (entry_at x j).partner

-- an operation is entered by its initiating step, and one that is only a waiting half by that
abbrev pub Entered : Job → (j : ℕ) → Type 0
Entered x j = 1 ≤ state_at x j

-- a send or receive that is entered and not matched
pub record PendingMessage (s : Sheet) (x : Job) (m : ℕ) : Type 0 where
  pub sends : is_send (op s m) ≡ true
  pub entered : Entered x m
  pub unmatched : state_at x m ≢ 3

pub record PendingReceive (s : Sheet) (x : Job) (q : ℕ) : Type 0 where
  pub receives : is_receive (op s q) ≡ true
  pub entered : Entered x q
  pub unmatched : state_at x q ≢ 3

-- message m and receive q are matched with each other
pub record MatchedPair (s : Sheet) (x : Job) (m q : ℕ) : Type 0 where
  pub sends : is_send (op s m) ≡ true
  pub receives : is_receive (op s q) ≡ true
  pub fit : fits_with s m q ≡ true
  pub message_matched : state_at x m ≡ 3
  pub receive_matched : state_at x q ≡ 3
  pub to_receive : partner_at x m ≡ q
  pub to_message : partner_at x q ≡ m

-- messages that came before m and fit q were taken by receives before q
abbrev pub FirstSent : Sheet → (arrival : ℕ → ℕ) → Job → (m q : ℕ) → Type 0
FirstSent s arrival x m q =
    (k : ℕ) → is_send (op s k) ≡ true → Entered x k → arrival k < arrival m → fits_with s k q ≡ true →
    (state_at x k ≡ 3) × (partner_at x k < q)

-- STABLE, where `arrival` gives the order in which the sends were entered
pub record Stable (s : Sheet) (arrival : ℕ → ℕ) (x : Job) : Type 0 where
  -- matched operations come in pairs (everyone)
  pub message_pair : (m : ℕ) → is_send (op s m) ≡ true → state_at x m ≡ 3 → MatchedPair s x m (partner_at x m)
  pub receive_pair : (q : ℕ) → is_receive (op s q) ≡ true → state_at x q ≡ 3 → MatchedPair s x (partner_at x q) q
  -- no pending message fits a pending receive (NoneFit)
  pub none_fit : (m q : ℕ) → PendingMessage s x m → PendingReceive s x q → fits_with s m q ≡ true → ⊥
  -- a receive took the earliest message: one that came before and fits was taken by an earlier receive (NoOvertaking)
  pub first_sent : (m q k : ℕ) → MatchedPair s x m q → is_send (op s k) ≡ true → Entered x k → arrival k < arrival m →
      fits_with s k q ≡ true → (state_at x k ≡ 3) × (partner_at x k < q)
  -- a message went to the earliest receive: an earlier one of that board that it fits is matched (its other half)
  pub first_posted : (m q p : ℕ) → MatchedPair s x m q → is_receive (op s p) ≡ true → p < q → fits_with s m p ≡ true → state_at x p ≡ 3

-- ARRIVED: `arrival` numbers the entered sends by the step that entered them, so that each sender's are in script order
pub record Arrived (s : Sheet) (arrival : ℕ → ℕ) (x : Job) : Type 0 where
  pub past : (m : ℕ) → Entered x m → arrival m < x.steps
  pub apart : (k m : ℕ) → is_send (op s k) ≡ true → is_send (op s m) ≡ true → Entered x k → Entered x m → arrival k ≡ arrival m → k ≡ m
  pub in_script : (k m : ℕ) → is_send (op s k) ≡ true → is_send (op s m) ≡ true → Entered x k → Entered x m →
      rank_of s k ≡ rank_of s m →
      k < m → arrival k < arrival m

-- PLACED: a board has entered its operations up to here
unfoldable pub reach : Sheet → Job → (r : ℕ) → ℕ
reach s x r = next_op s x r + cond (place_at x r).waiting 1 0

-- where the boards stand decides what is entered, and what has been waited for
pub record Placed (s : Sheet) (x : Job) : Type 0 where
  -- lengths (the report; the engine's tables)
  pub entries_long : length x.entries ≡ N_of s
  pub places_long : length x.places ≡ P_of s
  -- finished is at most the count (the engine: it fits two bytes)
  pub finished_most : (r : ℕ) → r < P_of s → (place_at x r).finished ≤ (board s r).count
  -- only a blocking operation has a waiting half after its initiating step (step_behind)
  pub waiting_unfinished : (r : ℕ) → r < P_of s → (place_at x r).waiting ≡ true → (place_at x r).finished < (board s r).count
  pub waiting_not_no_half : (r : ℕ) → r < P_of s → (place_at x r).waiting ≡ true → no_half (op s (next_op s x r)) ≡ false
  pub waiting_not_only_half : (r : ℕ) → r < P_of s → (place_at x r).waiting ≡ true → only_half (op s (next_op s x r)) ≡ false
  -- an operation is entered exactly when it lies before its board's reach (determinacy)
  pub entered_if : (j : ℕ) → j < N_of s → j < reach s x (rank_of s j) → Entered x j
  pub entered_only : (j : ℕ) → Entered x j → (j < N_of s) × (j < reach s x (rank_of s j))
  -- a finished operation with a waiting half had what it waited for complete (disjoint areas). One that tells waits for nothing
  -- that would stay so
  pub passed_complete : (j : ℕ) → j < N_of s → j < next_op s x (rank_of s j) → no_half (op s j) ≡ false →
      tells (op s j) ≡ false → half_complete s x j ≡ true

-- SHAPED: a row by its state and partner
unfoldable pub row_of : Sheet → (j state partner : ℕ) → Entry
row_of s j v p =
    cond (eqb v 3)
    (cond (is_receive (op s j)) (entry 3 (cond (is_cut s p j) 1 0) p (rank_of s p) (op s p).tag (op s p).long)
    (entry 3 0 p absent absent 0))
    (bare_entry v)

-- the state of an entered operation that is not matched, by whether it is a send whose message is kept in a store
unfoldable pub unmatched_state : (kept : Bool) → Op → ℕ
unmatched_state k o = cond (only_half o) 5 (cond k 2 1)

-- a buffered send is kept; a standard one may be, where its board has a room (document 02, K6): whether it is depends on what was
-- in use when it was initiated, but where rooms are 0 or cover all. Nothing else is
pub record Keeps (s : Sheet) (j : ℕ) (kept : Bool) : Type 0 where
  pub buffered : is_buffered (op s j) ≡ true → kept ≡ true
  pub covered : rooms_cover s ≡ true → is_standard (op s j) ≡ true → 0 < (board s (rank_of s j)).room → kept ≡ true
  pub only : kept ≡ true → (is_buffered (op s j) ≡ true) ⊎ ((is_standard (op s j) ≡ true) × (0 < (board s (rank_of s j)).room))

pub record Unmatched (s : Sheet) (j state : ℕ) : Type 0 where
  pub kept : Bool
  pub keeps : Keeps s j kept
  pub is : state ≡ unmatched_state kept (op s j)

-- what the rows of a job can be
pub record Shaped (s : Sheet) (x : Job) : Type 0 where
  -- (the report's rows; whole or cut)
  pub row : (j : ℕ) → tells (op s j) ≡ false → entry_at x j ≡ row_of s j (state_at x j) (partner_at x j)
  pub row_new : (j : ℕ) → state_at x j ≡ 0 → entry_at x j ≡ bare_entry 0
  -- (determinacy, still_able)
  pub unmatched : (j : ℕ) → Entered x j → state_at x j ≢ 3 → Unmatched s j (state_at x j)
  pub only_half_unmatched : (j : ℕ) → only_half (op s j) ≡ true → state_at x j ≢ 3

-- TOLD (document 02, K9): message m is the one that probe p told. It had not been taken when p looked, so no receive before p ever
-- takes it; and those that came before m and fit p had been taken
pub record ProbeTold (s : Sheet) (arrival : ℕ → ℕ) (x : Job) (p m : ℕ) : Type 0 where
  pub row : entry_at x p ≡ probe_row s (some m)
  pub sends : is_send (op s m) ≡ true
  pub fit : fits_with s m p ≡ true
  pub entered : Entered x m
  pub not_taken : state_at x m ≡ 3 → p < partner_at x m
  pub first_sent : FirstSent s arrival x m p

-- query p told whether the operation that holds its slot was complete: what is complete stays so
pub record QueryTold (s : Sheet) (x : Job) (p : ℕ) (answer : Bool) : Type 0 where
  pub row : entry_at x p ≡ query_row answer
  pub complete : answer ≡ true → complete_if x (waited s p) ≡ true

-- what the rows of operations that tell say (what is told does not depend on the order; ProbeThenReceive; the report's rows)
pub record Told (s : Sheet) (arrival : ℕ → ℕ) (x : Job) : Type 0 where
  pub probes : (p : ℕ) → tells_message (op s p) ≡ true → Entered x p → (m : ℕ) × ProbeTold s arrival x p m
  pub queries : (p : ℕ) → tells_completion (op s p) ≡ true → Entered x p → (answer : Bool) × QueryTold s x p answer

-- CHARGED: what operation j has in a store of board r
unfoldable pub charge_in : Store → Sheet → Job → (r j : ℕ) → ℕ
charge_in w s x r j = cond (eqb (rank_of s j) r && (kept_in w (op s j) && eqb (state_at x j) 2)) (charge_of w (op s j)) 0

-- REPLAYED: inboxes with every matched receive among the first n operations delivered, in script order
unfoldable pub replay : Sheet → Job → (j : ℕ) → List ℕ → List ℕ
replay s x j bs = cond (is_receive (op s j) && eqb (state_at x j) 3) (delivered s (partner_at x j) j bs) bs

unfoldable pub replayed : Sheet → Job → (n : ℕ) → List ℕ → List ℕ
replayed s x zero bs = bs
replayed s x (suc j) bs = replay s x j (replayed s x j bs)

-- STEPS that operation j has taken: one that has both an initiating step and a waiting half has two
unfoldable pub steps_of : Op → ℕ
steps_of o = cond (no_half o || only_half o) 1 2

unfoldable pub steps_done : Sheet → Job → (j : ℕ) → ℕ
steps_done s x j =
    cond (ltb j (next_op s x (rank_of s j))) (steps_of (op s j)) (cond (ltb j (reach s x (rank_of s j))) 1 0)

-- a job stops for one of two reasons, at an operation that isn't entered
pub record Stopped (s : Sheet) (x : Job) (t : Stop) : Type 0 where
  pub reason : (t.verdict ≡ 3) ⊎ (t.verdict ≡ 4)
  pub rank_small : t.rank < P_of s
  pub op_small : t.at_op < N_of s
  pub not_entered : state_at x t.at_op ≡ 0

-- order of the posted receives of one board
abbrev pub PostedBefore : Sheet → (a b : ℕ) → Type 0
PostedBefore s a b = rank_of s a ≡ rank_of s b → a < b

-- order of the entered sends
abbrev pub ArrivedBefore : (arrival : ℕ → ℕ) → (a b : ℕ) → Type 0
ArrivedBefore arrival a b = arrival a < arrival b

-- `i` is the lent inboxes
pub record Reached (s : Sheet) (i : List ℕ) (x : Job) : Type 0 where
  -- the step at which each send was entered: known to the proofs only
  pub arrival : ℕ → ℕ
  pub stable : Stable s arrival x
  pub arrived : Arrived s arrival x
  pub placed : Placed s x
  pub shaped : Shaped s x
  pub told : Told s arrival x
  -- the waiting lists hold exactly what is pending: messages by arrival, each board's receives in script order (steps)
  pub messages_held : Holds (ArrivedBefore arrival) (PendingMessage s x) x.messages
  pub receives_held : Holds (PostedBefore s) (PendingReceive s x) x.receives
  -- of either store, in use is the sum of the pending charges, and at most the peak (InUse, Peaks, calm sheets never stop)
  pub in_use_sum : (w : Store) (r : ℕ) → r < P_of s → in_use_at w x r ≡ sum_below (N_of s) (charge_in w s x r)
  pub in_use_peak : (w : Store) (r : ℕ) → in_use_at w x r ≤ peak_at w x r
  -- no board has ever more in use than its store holds (the engine: they fit two bytes)
  pub peak_size : (w : Store) (r : ℕ) → r < P_of s → peak_at w x r ≤ size_of w (board s r)
  -- memory holds the deliveries in script order: time is gone from it (alike, whole or cut)
  pub memory_replayed : x.memory ≡ replayed s x (N_of s) i
  pub memory_long : length x.memory ≡ length i
  -- steps taken, a stopping one included (EndsAlike; RunEnds: it is at most 2N)
  pub steps_sum : x.steps ≡ sum_below (N_of s) (steps_done s x) + cond (is_none x.stop) 0 1
  -- (Verdicts; the engine: rank and operation fit their bytes)
  pub stop_at : (t : Stop) → x.stop ≡ some t → Stopped s x t

-- A STEP
-- whether a send of board r that fits no posted receive and does not stop the job is kept in a store
unfoldable pub is_kept : Sheet → (r i : ℕ) → Job → Bool
is_kept s r i x = is_buffered (op s i) || fits_room s r i x

-- rows of operations that tell stay, and one that a step enters is what the rule gives; what probes told stays told, and the
-- probe that a step enters tells the message that it finds
pub record Telling (s : Sheet) (arrival : ℕ → ℕ) (x : Job) (now : ℕ → ℕ) (y : Job) (i : ℕ) : Type 0 where
  pub kept : (j : ℕ) → tells (op s j) ≡ true → Entered x j → entry_at y j ≡ entry_at x j
  pub row : tells (op s i) ≡ true → Entered y i → (Entered x i → ⊥) → entry_at y i ≡ half_row s x i
  pub on : (p m : ℕ) → tells_message (op s p) ≡ true → Entered x p → ProbeTold s arrival x p m → ProbeTold s now y p m
  pub new : (m : ℕ) → tells_message (op s i) ≡ true → Entered y i → (Entered x i → ⊥) → first_message s i x.messages ≡ some m →
      ProbeTold s now y i m

-- the invariant of a job after a step of operation i, and what the step did to the order of arrival: what was entered came when
-- it came, and i came last where it entered
pub record Extended {s : Sheet} {lent : List ℕ} {x : Job} (R : Reached s lent x) (y : Job) (i : ℕ) : Type 0 where
  pub reached : Reached s lent y
  pub on : (j : ℕ) → Entered x j → Entered y j
  pub back : (j : ℕ) → j ≢ i → Entered y j → Entered x j
  -- what was complete is, and what was entered and is not matched is in the state that it was in; i's goes by what was in use
  pub complete_on : (j : ℕ) → 2 ≤ state_at x j → 2 ≤ state_at y j
  pub same_state : (j : ℕ) → Entered x j → state_at y j ≢ 3 → state_at y j ≡ state_at x j
  pub new_state : Entered y i → (Entered x i → ⊥) → state_at y i ≢ 3 →
      state_at y i ≡ unmatched_state (is_kept s (rank_of s i) i x) (op s i)
  pub old : (j : ℕ) → Entered x j → reached.arrival j ≡ R.arrival j
  pub new : Entered y i → (Entered x i → ⊥) → (j : ℕ) → Entered x j → reached.arrival j < reached.arrival i
  pub telling : Telling s R.arrival x reached.arrival y i
