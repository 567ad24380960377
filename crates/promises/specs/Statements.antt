-- What is promised of job sheets, in the order of document 01: demand 2 (how boards step), run, demand 3 (orders). Each claim
-- stands in plain words and then in antt, over `rules` only. ProbeStatements has what is promised of probes and queries,
-- ExchangeStatements which two steps may trade places where receives are from any source, ServiceStatements the same of the
-- services. Theorems proves each under its name in small letters. Assumes nothing: these are statements.
use Rattle.std.specs.Prelude.{◌≡◌, ◌⊎◌, ◌≢◌, ◌↔◌, Bool, true, false, ◌&&◌, ◌||◌, cond, List, [], ◌∷◌, ◌++◌, ℕ, zero, suc, ◌+◌, ◌-◌, ◌≤◌, ◌<◌, max, ltb, leb, eqb, length, get_or, drop}
use Rattle.std.proofs.Math.Option.{Option, none, some}
use Rattle.rules.specs.Limits.{absent, order_room}
use Rattle.rules.specs.Sheet.{Sheet, op, board, sheet_in, P_of, N_of, rank_of, inbox_total, is_send, is_receive, is_standard, is_buffered, is_ready}
use Rattle.rules.specs.Sheet.{takes_slot, frees_slot}
use Rattle.rules.specs.Job.{Job, Entry, Stop, Store, in_attached, in_use_at, peak_at, entry, entry_at, place_at, started, with_stop, with_steps}
use Rattle.rules.specs.Step.{able, step, waited, is_finished, fits_with, is_cut, copied, area_start}
use Rattle.rules.specs.Step.{kept_in, size_of, charge_of}
use Rattle.rules.specs.Order.{follow, run, none_able}
use Rattle.rules.specs.Report.{verdict_of, count_from, pending_messages, pending_receives, cut_messages}
use Rattle.rules.specs.Claims.{passes, accepts, left_by, Alike, Given}

-- What every claim is given: a sheet that passes check, and inbox room enough. Nothing is asked of the order: the claims hold of
-- what the steps before a refusal left, too.
pub record Lent (bs i : List ℕ) : Type 0 where
  pub passing : passes bs ≡ true
  pub room : inbox_total (sheet_in bs) ≤ length i

-- What is told of a job: by the job itself (told_by), or by the bytes of its report (ServiceStatements: told_in). A claim that
-- speaks of what is told is stated once, and holds of both.
pub record Told : Type 0 where
  pub verdict : ℕ
  pub stop : Option Stop
  -- steps taken; pending messages, pending receives and cut messages
  pub steps : ℕ
  pub messages : ℕ
  pub receives : ℕ
  pub cuts : ℕ
  -- the row of an operation
  pub row : ℕ → Entry
  -- of a board: operations finished, bytes in use of each store and their peak, whether it is finished, whether it is able
  pub finished : ℕ → ℕ
  pub in_use : Store → ℕ → ℕ
  pub peak : Store → ℕ → ℕ
  pub is_done : ℕ → Bool
  pub is_able : ℕ → Bool

unfoldable pub told_by : Sheet → Job → Told
told_by s x =
    record {
      verdict = verdict_of x.stop s x;
      stop = x.stop;
      steps = x.steps;
      messages = pending_messages s x;
      receives = pending_receives s x;
      cuts = cut_messages s x;
      row = λ i. entry_at x i;
      finished = λ r. (place_at x r).finished;
      in_use = λ w r. in_use_at w x r;
      peak = λ w r. peak_at w x r;
      is_done = λ r. is_finished s x r;
      is_able = λ r. able s x r;
    }

-- a claim about what is told of every job that an order leaves
abbrev pub OfJobs : (Sheet → Told → Type 0) → Type 0
OfJobs C = (bs i rs : List ℕ) → Lent bs i → C (sheet_in bs) (told_by (sheet_in bs) (left_by (sheet_in bs) rs i))

-- DEMAND 2

-- No fitting pair stays pending: a pending message (state 1 or 2) fits no posted receive that is pending (state 1).
unfoldable pub NoPairLeft : Sheet → Told → Type 0
NoPairLeft s t =
    (m q : ℕ) → is_send (op s m) ≡ true → is_receive (op s q) ≡ true → 1 ≤ (t.row m).state → (t.row m).state ≤ 2 →
    (t.row q).state ≡ 1 → fits_with s m q ≡ false

unfoldable pub NoneFit : Type 0
NoneFit = OfJobs NoPairLeft

-- No receive takes a message past an earlier one of the same sender that fits it: where message m is matched with receive q,
-- an earlier send k of m's board that fits q is matched too, with an earlier receive.
unfoldable pub SendsInOrder : Sheet → Told → Type 0
SendsInOrder s t =
    (m k q : ℕ) → is_send (op s m) ≡ true → is_send (op s k) ≡ true → k < m → rank_of s k ≡ rank_of s m →
    (t.row m).state ≡ 3 → (t.row m).partner ≡ q → fits_with s k q ≡ true →
    ((t.row k).state ≡ 3) × ((t.row k).partner < q)

unfoldable pub NoOvertaking : Type 0
NoOvertaking = OfJobs SendsInOrder

-- No message is taken by a later receive past an earlier one that it fits: where message m is matched with receive q, an earlier
-- receive p that m fits is matched too, and with an earlier message where that has the same sender.
unfoldable pub ReceivesInOrder : Sheet → Told → Type 0
ReceivesInOrder s t =
    (m p q : ℕ) → is_receive (op s q) ≡ true → is_receive (op s p) ≡ true → p < q → (t.row q).state ≡ 3 →
    (t.row q).partner ≡ m → fits_with s m p ≡ true →
    ((t.row p).state ≡ 3) × (rank_of s (t.row p).partner ≡ rank_of s m → (t.row p).partner < m)

unfoldable pub NoOvertakingReceives : Type 0
NoOvertakingReceives = OfJobs ReceivesInOrder

-- Arrival decides, and not rank: of two messages that fit a receive, from whatever senders, the one that arrived first is taken
-- first. Where a beginning of the order enters k and not m, m ends matched with receive q and k fits q, then k is matched with
-- an earlier receive.
unfoldable pub EarlierFirst : Sheet → (early late : Told) → Type 0
EarlierFirst s early late =
    (k m q : ℕ) → is_send (op s k) ≡ true → is_send (op s m) ≡ true → 1 ≤ (early.row k).state → (early.row m).state ≡ 0 →
    (late.row m).state ≡ 3 → (late.row m).partner ≡ q → fits_with s k q ≡ true →
    ((late.row k).state ≡ 3) × ((late.row k).partner < q)

unfoldable pub ByArrival : Type 0
ByArrival =
    (bs i before after : List ℕ) → Lent bs i →
    let s = sheet_in bs in
    EarlierFirst s (told_by s (left_by s before i)) (told_by s (left_by s (before ++ after) i))

-- A message arrives whole, or its front does and it is reported cut. The rows: a matched receive's partner is a send that fits
-- it and names it in turn, and so is a matched send's partner a receive; the receive's row tells the message's source, tag and
-- full length, and says cut exactly when the message is longer than the capacity.
pub record Status (s : Sheet) (t : Told) (m q : ℕ) : Type 0 where
  pub sends : is_send (op s m) ≡ true
  pub receives : is_receive (op s q) ≡ true
  pub fit : fits_with s m q ≡ true
  pub message_row : t.row m ≡ entry 3 0 q absent absent 0
  pub receive_row : t.row q ≡ entry 3 (cond (is_cut s m q) 1 0) m (rank_of s m) (op s m).tag (op s m).long

unfoldable pub MatchedReceives : Sheet → Told → Type 0
MatchedReceives s t = (q : ℕ) → is_receive (op s q) ≡ true → (t.row q).state ≡ 3 → Status s t (t.row q).partner q

unfoldable pub MatchedSends : Sheet → Told → Type 0
MatchedSends s t = (m : ℕ) → is_send (op s m) ≡ true → (t.row m).state ≡ 3 → Status s t m (t.row m).partner

unfoldable pub Statuses : Type 0
Statuses = OfJobs MatchedReceives

unfoldable pub SendStatuses : Type 0
SendStatuses = OfJobs MatchedSends

-- The bytes: the delivery of a matched receive covers the first `copied` bytes of its area (the message's length, or the
-- capacity where it is cut). A byte of the inboxes is the message's byte of the last receive, in script order, whose delivery
-- covers it; a byte that no delivery covers is as it was lent. The inboxes keep their length, and what is lent beyond the
-- sheet's own total its values.
unfoldable pub covers : Sheet → Told → (q at : ℕ) → Bool
covers s t q at =
    (is_receive (op s q) && eqb (t.row q).state 3)
    && (leb (area_start s q) at && ltb at (area_start s q + copied s (t.row q).partner q))

unfoldable pub expected_byte : (n : ℕ) → Sheet → Told → (lent : List ℕ) → (at : ℕ) → ℕ
expected_byte zero s t i at = get_or i at 0
expected_byte (suc q) s t i at =
    cond (covers s t q at) (get_or s.payload ((op s (t.row q).partner).offset + (at - area_start s q)) 0)
    (expected_byte q s t i at)

pub record Delivered (s : Sheet) (t : Told) (lent memory : List ℕ) : Type 0 where
  pub long : length memory ≡ length lent
  pub bytes : (at : ℕ) → get_or memory at 0 ≡ expected_byte (N_of s) s t lent at
  pub beyond : drop (inbox_total s) memory ≡ drop (inbox_total s) lent

unfoldable pub Deliveries : Type 0
Deliveries =
    (bs i rs : List ℕ) → Lent bs i →
    let s = sheet_in bs in
    let x = left_by s rs i in
    Delivered s (told_by s x) i x.memory

-- Verdicts: exactly one of 0 to 4 is given, each exactly when it should be. Deadlock: nothing stopped the job, some board is
-- unfinished, and none is able.
pub record VerdictExact (s : Sheet) (t : Told) (v : ℕ) : Type 0 where
  pub known : v ≤ 4
  pub still_able : (v ≡ 0) ↔ ((r : ℕ) × (t.is_able r ≡ true))
  pub finished : (v ≡ 1) ↔ ((t.stop ≡ none) × ((r : ℕ) → r < P_of s → t.is_done r ≡ true))
  pub deadlock :
      (v ≡ 2) ↔ ((t.stop ≡ none) × ((r : ℕ) × (r < P_of s) × (t.is_done r ≡ false)) × ((r : ℕ) → t.is_able r ≡ false))
  pub overflow : (v ≡ 3) ↔ ((p : Stop) × (t.stop ≡ some p) × (p.verdict ≡ 3))
  pub not_ready : (v ≡ 4) ↔ ((p : Stop) × (t.stop ≡ some p) × (p.verdict ≡ 4))

unfoldable pub Exact : Sheet → Told → Type 0
Exact s t = VerdictExact s t t.verdict

unfoldable pub Verdicts : Type 0
Verdicts = OfJobs Exact

-- Verdict 1 leaves no request (document 02, K7; MPI: no request leaks). Each operation that takes a slot was waited for: one that
-- frees its slot waits for it, and is finished (state 5).
pub record WaitedFor (s : Sheet) (t : Told) (i : ℕ) : Type 0 where
  pub by : ℕ
  pub frees : frees_slot (op s by) ≡ true
  pub waits : waited s by ≡ some i
  pub finished : (t.row by).state ≡ 5

-- board r holds the slot k: an operation of it that takes the slot is entered, and was not waited for
unfoldable pub SlotHeld : Sheet → Told → (r k : ℕ) → Type 0
SlotHeld s t r k =
    (i : ℕ) × (rank_of s i ≡ r) × (takes_slot (op s i) ≡ true) × ((op s i).slot ≡ k) × (1 ≤ (t.row i).state) × (WaitedFor s t i → ⊥)

-- A message is buffered by its mode: its send is a buffered one, or a standard one of a board that has a room (document 02, K6).
unfoldable pub KeptByMode : Sheet → (m : ℕ) → Type 0
KeptByMode s m = (is_buffered (op s m) ≡ true) ⊎ ((is_standard (op s m) ≡ true) × (0 < (board s (rank_of s m)).room))

-- So every request is complete (state 2 or more) and every slot is free; every receive is matched, and none is pending; a send
-- is matched, or its message is buffered, and nobody received it.
pub record NoneLeft (s : Sheet) (t : Told) : Type 0 where
  pub waited_for : (i : ℕ) → takes_slot (op s i) ≡ true → WaitedFor s t i
  pub requests_complete : (i : ℕ) → takes_slot (op s i) ≡ true → 2 ≤ (t.row i).state
  pub slots_free : (r k : ℕ) → SlotHeld s t r k → ⊥
  pub receives_matched : (q : ℕ) → is_receive (op s q) ≡ true → (t.row q).state ≡ 3
  pub none_pending : t.receives ≡ 0
  pub sends_matched : (m : ℕ) → is_send (op s m) ≡ true →
      ((t.row m).state ≡ 3) ⊎ (((t.row m).state ≡ 2) × KeptByMode s m)

unfoldable pub FinishedLeavesNone : Sheet → Told → Type 0
FinishedLeavesNone s t = t.verdict ≡ 1 → NoneLeft s t

unfoldable pub NoRequestLeft : Type 0
NoRequestLeft = OfJobs FinishedLeavesNone

-- Why a job stopped: its stop operation is the next one of its stop rank, a send that is not entered and that fits no posted
-- receive; overflow exactly if it is a buffered send whose charge does not fit beside what is in use, not ready exactly if it is
-- a ready send.
pub record StopReason (s : Sheet) (t : Told) (p : Stop) : Type 0 where
  pub rank_small : p.rank < P_of s
  pub unfinished : t.finished p.rank < (board s p.rank).count
  pub next : p.at_op ≡ (board s p.rank).first + t.finished p.rank
  pub sends : is_send (op s p.at_op) ≡ true
  pub not_entered : (t.row p.at_op).state ≡ 0
  pub none_posted : (q : ℕ) → is_receive (op s q) ≡ true → (t.row q).state ≡ 1 → fits_with s p.at_op q ≡ false
  pub overflow :
      (p.verdict ≡ 3) ↔ ((is_buffered (op s p.at_op) ≡ true)
      × ((board s p.rank).attached < t.in_use in_attached p.rank + charge_of in_attached (op s p.at_op)))
  pub not_ready : (p.verdict ≡ 4) ↔ (is_ready (op s p.at_op) ≡ true)

unfoldable pub WhyStopped : Sheet → Told → Type 0
WhyStopped s t = (p : Stop) → t.stop ≡ some p → StopReason s t p

unfoldable pub StopReasons : Type 0
StopReasons = OfJobs WhyStopped

-- The stopping step changed nothing but stop and steps: a beginning of the order, accepted, led to a job that was not stopped,
-- the next rank of the order is the stop rank, and the job is that one with the stop and one step more.
pub record StoppingStep (s : Sheet) (i rs : List ℕ) (p : Stop) : Type 0 where
  pub before : List ℕ
  pub after : List ℕ
  pub order : rs ≡ before ++ (p.rank ∷ after)
  pub accepted : accepts s before i ≡ true
  pub going : (left_by s before i).stop ≡ none
  pub changed : left_by s rs i ≡ with_steps (suc (left_by s before i).steps) (with_stop p (left_by s before i))

unfoldable pub StoppingSteps : Type 0
StoppingSteps =
    (bs i rs : List ℕ) (p : Stop) → Lent bs i → (left_by (sheet_in bs) rs i).stop ≡ some p → StoppingStep (sheet_in bs) i rs p

-- Steps: an order that is accepted took as many steps as it has ranks.
unfoldable pub Steps : Type 0
Steps =
    (bs i rs : List ℕ) → Lent bs i → accepts (sheet_in bs) rs i ≡ true →
    (told_by (sheet_in bs) (left_by (sheet_in bs) rs i)).steps ≡ length rs

-- Counts: pending messages are the sends in state 1 or 2, pending receives the receives in state 1, cut messages the rows that
-- say so.
pub record Counted (s : Sheet) (t : Told) : Type 0 where
  pub messages :
      t.messages ≡ count_from (N_of s) 0 (λ i. is_send (op s i) && (eqb (t.row i).state 1 || eqb (t.row i).state 2))
  pub receives : t.receives ≡ count_from (N_of s) 0 (λ i. is_receive (op s i) && eqb (t.row i).state 1)
  pub cuts : t.cuts ≡ count_from (N_of s) 0 (λ i. eqb (t.row i).cut 1)

unfoldable pub Counts : Type 0
Counts = OfJobs Counted

-- Of either store, in use is the sum of the charges of the board's sends that are kept there and pending (state 2): of the
-- attached buffer its buffered sends, of the room the lengths of its standard ones.
unfoldable pub pending_charges : Store → (n : ℕ) → Sheet → Told → (r : ℕ) → ℕ
pending_charges w zero s t r = 0
pending_charges w (suc j) s t r =
    pending_charges w j s t r
    + cond (eqb (rank_of s j) r && (kept_in w (op s j) && eqb (t.row j).state 2)) (charge_of w (op s j)) 0

unfoldable pub Charged : Sheet → Told → Type 0
Charged s t = (w : Store) (r : ℕ) → r < P_of s → t.in_use w r ≡ pending_charges w (N_of s) s t r

unfoldable pub InUse : Type 0
InUse = OfJobs Charged

-- A message that is buffered (state 2) is charged to the one account or to the other: its send is a buffered one, or a standard
-- one of a board that has a room.
unfoldable pub BufferedByMode : Sheet → Told → Type 0
BufferedByMode s t = (m : ℕ) → (t.row m).state ≡ 2 → KeptByMode s m

unfoldable pub KeptInOne : Type 0
KeptInOne = OfJobs BufferedByMode

-- The peak is the most in use after any step so far, 0 before the first.
unfoldable pub most_in_use : Store → Sheet → (order : List ℕ) → Job → (r : ℕ) → ℕ
most_in_use w s [] x r = 0
most_in_use w s (q ∷ qs) x r =
    cond (able s x q) (max (in_use_at w (step s q x) r) (most_in_use w s qs (step s q x) r)) 0

unfoldable pub Peaks : Type 0
Peaks =
    (bs i rs : List ℕ) (w : Store) (r : ℕ) → Lent bs i →
    let s = sheet_in bs in
    peak_at w (left_by s rs i) r ≡ most_in_use w s rs (started s i) r

-- In use never exceeds the peak, nor the peak the store's size: the attached size, or the room.
unfoldable pub WithinSize : Sheet → Told → Type 0
WithinSize s t = (w : Store) (r : ℕ) → r < P_of s → (t.in_use w r ≤ t.peak w r) × (t.peak w r ≤ size_of w (board s r))

unfoldable pub BuffersHold : Type 0
BuffersHold = OfJobs WithinSize

-- RUN

-- A run ends where no board is able, within two steps an operation; follow accepts its order, which leads to the same job.
pub record Ends (s : Sheet) (i : List ℕ) : Type 0 where
  pub none_left : none_able s (run s i).end ≡ true
  pub short : length (run s i).order ≤ order_room (N_of s)
  pub accepted : accepts s (run s i).order i ≡ true
  pub same_job : left_by s (run s i).order i ≡ (run s i).end

unfoldable pub RunEnds : Type 0
RunEnds = (bs i : List ℕ) → Lent bs i → Ends (sheet_in bs) i

-- DEMAND 3

-- On a calm sheet any two orders that follow accepts and after which no board is able end alike, and run ends alike with
-- both.
unfoldable pub EndsAlike : Type 0
EndsAlike =
    (bs i a b : List ℕ) → Given bs i →
    let s = sheet_in bs in
    accepts s a i ≡ true → accepts s b i ≡ true → none_able s (left_by s a i) ≡ true → none_able s (left_by s b i) ≡ true →
    Alike s (left_by s a i) (left_by s b i) × Alike s (left_by s a i) (run s i).end

-- On a calm sheet two neighbouring steps of different boards that are both able there may be exchanged, whatever stands
-- after them: the order is refused at the same index or accepted alike, and what the steps taken left is alike.
unfoldable pub SwapSame : Type 0
SwapSame =
    (bs i before after : List ℕ) (p q : ℕ) → Given bs i →
    let s = sheet_in bs in
    accepts s before i ≡ true → p ≢ q → able s (left_by s before i) p ≡ true → able s (left_by s before i) q ≡ true →
    ((follow s (before ++ (p ∷ q ∷ after)) i).refused_at ≡ (follow s (before ++ (q ∷ p ∷ after)) i).refused_at)
    × Alike s (left_by s (before ++ (p ∷ q ∷ after)) i) (left_by s (before ++ (q ∷ p ∷ after)) i)
