-- How a board steps (document 01, "How a board steps"): able, fits, matches, deliveries, charges, stops.
-- Assumes nothing: these are definitions.
use Rattle.std.specs.Prelude.{Bool, true, false, ◌&&◌, ◌||◌, not, cond, List, [], ◌∷◌, ◌++◌, ℕ, zero, suc, ◌+◌, ◌-◌, min, max, ltb, leb, eqb, length, set, take, drop}
use Rattle.std.proofs.Math.Option.{Option, none, some}
use Rattle.rules.specs.Limits.{any, absent, bsend_overhead}
use Rattle.rules.specs.Sheet.{Sheet, Op, Board, op, board, P_of, rank_of, inbox_start, is_standard, is_buffered, is_ready, is_receive, only_half, no_half}
use Rattle.rules.specs.Sheet.{takes_slot, frees_slot, tells_message, tells_completion}
use Rattle.rules.specs.Job.{Job, Entry, Figures, Place, Store, in_attached, in_room, figures, place, account, with_account, in_use_at, entry, bare_entry, entry_at}
use Rattle.rules.specs.Job.{place_at, with_entries, with_places, with_messages, with_receives, with_memory, with_stop, with_steps}

-- the operation that is next on a board
unfoldable pub next_op : Sheet → Job → (r : ℕ) → ℕ
next_op s x r = (board s r).first + (place_at x r).finished

-- a board is finished when all its operations are
unfoldable pub is_finished : Sheet → Job → (r : ℕ) → Bool
is_finished s x r = leb (board s r).count (place_at x r).finished

-- FIT (004): message m is addressed to the receiver; communicators equal; source equal or any; tag equal or any
unfoldable pub fits_with : Sheet → (m q : ℕ) → Bool
fits_with s m q =
    let a = op s m in
    let b = op s q in
    (eqb a.peer (rank_of s q) && eqb a.comm b.comm)
    && ((eqb b.peer any || eqb b.peer (rank_of s m)) && (eqb b.tag any || eqb b.tag a.tag))

-- the first of a list, in its order, that passes a test
unfoldable pub first_by : (ℕ → Bool) → List ℕ → Option ℕ
first_by f [] = none
first_by f (x ∷ xs) = cond (f x) (some x) (first_by f xs)

-- the earliest-arrived pending message that fits operation q, a receive or a probe; the earliest-posted pending receive that
-- fits message m
unfoldable pub first_message : Sheet → (q : ℕ) → List ℕ → Option ℕ
first_message s q ms = first_by (λ m. fits_with s m q) ms

unfoldable pub first_receive : Sheet → (m : ℕ) → List ℕ → Option ℕ
first_receive s m rs = first_by (λ q. fits_with s m q) rs

-- complete: a send buffered or matched, a receive matched
unfoldable pub complete : Job → (i : ℕ) → Bool
complete x i = leb 2 (entry_at x i).state

-- the operation that holds the slot which operation i names, a wait or a query: the latest one of its board below j that took
-- that slot. On a sheet that passes check there is one; none is the answer elsewhere, and is never complete
unfoldable pub waited_below : (j : ℕ) → Sheet → (i : ℕ) → Option ℕ
waited_below zero s i = none
waited_below (suc j) s i =
    cond (eqb (rank_of s j) (rank_of s i) && (takes_slot (op s j) && eqb (op s j).slot (op s i).slot))
    (some j) (waited_below j s i)

unfoldable pub waited : Sheet → (i : ℕ) → Option ℕ
waited s i = waited_below i s i

unfoldable pub complete_if : Job → Option ℕ → Bool
complete_if x none = false
complete_if x (some j) = complete x j

-- what must be complete for operation i's waiting half: the operation whose slot it frees, else the operation itself
unfoldable pub half_complete : Sheet → Job → (i : ℕ) → Bool
half_complete s x i = cond (frees_slot (op s i)) (complete_if x (waited s i)) (complete x i)

unfoldable pub is_none : {A : Type 0} → Option A → Bool
is_none none = true
is_none (some a) = false

-- whether operation i's waiting half can end: a probe's where a pending message fits it, a query's always (document 02, K9), any
-- other's where what it waits for is complete
unfoldable pub half_ends : Sheet → Job → (i : ℕ) → Bool
half_ends s x i =
    cond (tells_message (op s i)) (not (is_none (first_message s i x.messages)))
    (tells_completion (op s i) || half_complete s x i)

-- each operation that is not only a waiting half has an initiating step; a blocking one then has a waiting half
unfoldable pub in_waiting_half : Sheet → Job → (r : ℕ) → Bool
in_waiting_half s x r = (place_at x r).waiting || only_half (op s (next_op s x r))

-- able (MPI: the process can make progress): not stopped, unfinished, and an initiating step or a waiting half that can end next
unfoldable pub able : Sheet → Job → (r : ℕ) → Bool
able s x r =
    (is_none x.stop && (ltb r (P_of s) && not (is_finished s x r)))
    && (not (in_waiting_half s x r) || half_ends s x (next_op s x r))

-- a list without the first v in it
unfoldable pub without : ℕ → List ℕ → List ℕ
without v [] = []
without v (x ∷ xs) = cond (eqb x v) xs (x ∷ without v xs)

-- DELIVERY: bytes put into a list at a place; the other bytes keep their values
unfoldable pub splice : List ℕ → (at : ℕ) → List ℕ → List ℕ
splice bs at vs = take at bs ++ (vs ++ drop (at + length vs) bs)

-- where receive q's area starts in the inbox memory
unfoldable pub area_start : Sheet → (q : ℕ) → ℕ
area_start s q = inbox_start s (rank_of s q) + (op s q).offset

-- a message longer than the capacity is cut (MPI: truncated)
unfoldable pub is_cut : Sheet → (m q : ℕ) → Bool
is_cut s m q = ltb (op s q).long (op s m).long

-- how many bytes a match copies, from the message's front: all of them, or as many as the capacity where it is cut
-- (document 02, K5)
unfoldable pub copied : Sheet → (m q : ℕ) → ℕ
copied s m q = min (op s m).long (op s q).long

unfoldable pub delivered : Sheet → (m q : ℕ) → List ℕ → List ℕ
delivered s m q bs = splice bs (area_start s q) (take (copied s m q) (drop (op s m).offset s.payload))

-- CHARGES: a buffered send is kept in its board's attached buffer, a standard one in its room
unfoldable pub store_of : Op → Store
store_of o = cond (is_buffered o) in_attached in_room

unfoldable pub kept_in : Store → Op → Bool
kept_in in_attached o = is_buffered o
kept_in in_room o = is_standard o

unfoldable pub size_of : Store → Board → ℕ
size_of in_attached b = b.attached
size_of in_room b = b.room

-- what a message is charged there: in the attached buffer its length and the overhead (document 02, K2), in the room its length
unfoldable pub charge_of : Store → Op → ℕ
charge_of in_attached o = o.long + bsend_overhead
charge_of in_room o = o.long

unfoldable pub charged : (n : ℕ) → Figures → Figures
charged n a = figures (a.in_use + n) (max a.peak (a.in_use + n))

unfoldable pub released : (n : ℕ) → Figures → Figures
released n a = figures (a.in_use - n) a.peak

unfoldable pub with_place : (r : ℕ) → Place → Job → Job
with_place r p x = with_places (set x.places r p) x

unfoldable pub charge : Store → Sheet → (r i : ℕ) → Job → Job
charge w s r i x =
    let p = place_at x r in
    with_place r (with_account w (charged (charge_of w (op s i)) (account w p)) p) x

-- a buffered message's charge goes when it is matched
unfoldable pub release : Sheet → (m : ℕ) → Job → Job
release s m x =
    let w = store_of (op s m) in
    let p = place_at x (rank_of s m) in
    cond (eqb (entry_at x m).state 2)
    (with_place (rank_of s m) (with_account w (released (charge_of w (op s m)) (account w p)) p) x) x

-- A MATCH of message m and receive q: both complete, neither is pending any more, the message is delivered
unfoldable pub matched_rows : Sheet → (m q : ℕ) → Job → Job
matched_rows s m q x =
    with_entries
    (set (set x.entries m (entry 3 0 q absent absent 0)) q
    (entry 3 (cond (is_cut s m q) 1 0) m (rank_of s m) (op s m).tag (op s m).long))
    x

unfoldable pub matched : Sheet → (m q : ℕ) → Job → Job
matched s m q x =
    with_memory (delivered s m q x.memory)
    (with_receives (without q x.receives)
    (with_messages (without m x.messages) (matched_rows s m q (release s m x))))

-- INITIATING STEPS
abbrev pub with_row : (i : ℕ) → Entry → Job → Job
with_row i e x = with_entries (set x.entries i e) x

unfoldable pub with_state : (i state : ℕ) → Job → Job
with_state i v x = with_row i (bare_entry v) x

-- pending: MPI's unexpected message, and posted receive
unfoldable pub pend_message : (i state : ℕ) → Job → Job
pend_message i v x = with_messages (x.messages ++ (i ∷ [])) (with_state i v x)

unfoldable pub pend_receive : (i : ℕ) → Job → Job
pend_receive i x = with_receives (x.receives ++ (i ∷ [])) (with_state i 1 x)

-- a stopping step's operation isn't entered
unfoldable pub stopped : (verdict r i : ℕ) → Job → Job
stopped v r i x =
    with_stop
    (record {
      verdict = v;
      rank = r;
      at_op = i;
    })
    x

-- an operation is finished after its last step
unfoldable pub one_finished : Place → Place
one_finished p = place (suc p.finished) false p.attached p.room

unfoldable pub now_waiting : Place → Place
now_waiting p = place p.finished true p.attached p.room

-- after an initiating step a nonblocking operation is finished, a blocking one is in its waiting half
unfoldable pub initiated : Sheet → (r i : ℕ) → Job → Job
initiated s r i x =
    with_place r (cond (no_half (op s i)) (one_finished (place_at x r)) (now_waiting (place_at x r))) x

-- operation i's charge fits beside what is in use of board r's store
unfoldable pub fits_beside : Store → Sheet → (r i : ℕ) → Job → Bool
fits_beside w s r i x = leb (in_use_at w x r + charge_of w (op s i)) (size_of w (board s r))

unfoldable pub fits_buffer : Sheet → (r i : ℕ) → Job → Bool
fits_buffer s r i x = fits_beside in_attached s r i x

-- a standard send is buffered where its board has a room and its length fits there. Room 0 buffers nothing, empty messages
-- included (document 02, K6)
unfoldable pub fits_room : Sheet → (r i : ℕ) → Job → Bool
fits_room s r i x = is_standard (op s i) && (ltb 0 (board s r).room && fits_beside in_room s r i x)

-- pending and complete, charged to a store; pending and not complete
unfoldable pub kept : Store → Sheet → (r i : ℕ) → Job → Job
kept w s r i x = initiated s r i (charge w s r i (pend_message i 2 x))

unfoldable pub not_kept : Sheet → (r i : ℕ) → Job → Job
not_kept s r i x = initiated s r i (pend_message i 1 x)

-- a send that no posted receive fits. Ready: the job stops, not ready. Buffered: kept where its board's attached buffer has room,
-- else the job stops, overflow. Standard: kept where it fits its board's room. Else, and synchronous: pending, not complete
unfoldable pub unmatched : Sheet → (r i : ℕ) → Job → Job
unmatched s r i x =
    cond (is_ready (op s i)) (stopped 4 r i x)
    (cond (is_buffered (op s i))
    (cond (fits_buffer s r i x) (kept in_attached s r i x) (stopped 3 r i x))
    (cond (fits_room s r i x) (kept in_room s r i x) (not_kept s r i x)))

unfoldable pub sent : Sheet → (r i : ℕ) → Option ℕ → Job → Job
sent s r i none x = unmatched s r i x
sent s r i (some q) x = initiated s r i (matched s i q x)

unfoldable pub received : Sheet → (r i : ℕ) → Option ℕ → Job → Job
received s r i none x = initiated s r i (pend_receive i x)
received s r i (some m) x = initiated s r i (matched s m i x)

unfoldable pub initiating : Sheet → (r i : ℕ) → Job → Job
initiating s r i x =
    cond (is_receive (op s i)) (received s r i (first_message s i x.messages) x)
    (sent s r i (first_receive s i x.receives) x)

-- WHAT IS TOLD (document 02, K9). A probe tells source, tag and full length of the message that it found
unfoldable pub probe_row : Sheet → Option ℕ → Entry
probe_row s none = bare_entry 5
probe_row s (some m) = entry 5 0 absent (rank_of s m) (op s m).tag (op s m).long

-- a query tells by its length whether the operation was complete
unfoldable pub query_row : Bool → Entry
query_row b = entry 5 0 absent absent absent (cond b 1 0)

-- the row of operation i, which is only a waiting half, after its step in job x
unfoldable pub half_row : Sheet → Job → (i : ℕ) → Entry
half_row s x i =
    cond (tells_message (op s i)) (probe_row s (first_message s i x.messages))
    (cond (tells_completion (op s i)) (query_row (complete_if x (waited s i))) (bare_entry 5))

-- A WAITING HALF ends its operation; the row of one that is only a waiting half then says so
unfoldable pub ended : Sheet → (r i : ℕ) → Job → Job
ended s r i x =
    with_place r (one_finished (place_at x r)) (cond (only_half (op s i)) (with_row i (half_row s x i) x) x)

-- a step of board r, counted, stopping or not
unfoldable pub step : Sheet → (r : ℕ) → Job → Job
step s r x =
    let i = next_op s x r in
    with_steps (suc x.steps) (cond (in_waiting_half s x r) (ended s r i x) (initiating s r i x))
