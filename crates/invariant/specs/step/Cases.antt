-- What a step of an able board does, in the six ways that it can go, each a record: a waiting half ends, the only half of an
-- operation ends, a receive is posted, a send is pending, a message and a receive are matched, the job stops. CasesHold reads
-- `step` once to find one of them; all other proofs go by `Outcome`.
--   EndsHalf, EndsOnlyHalf, Posts, Pends, MatchStep, Stops    the six
--   Cause                                                         why a send stops the job
--   Outcome                                                       one of them
-- Assumes nothing: these are definitions.
use Rattle.std.specs.Prelude.{◌≡◌, ◌⊎◌, true, false, [], ◌∷◌, ◌++◌, ℕ, suc}
use Rattle.std.proofs.Math.Option.{none, some}
use Rattle.rules.specs.Sheet.{Sheet, op, is_send, is_receive, only_half, is_buffered, is_ready, no_half}
use Rattle.rules.specs.Job.{Job, Store, bare_entry, entry_at, place_at, with_steps}
use Rattle.rules.specs.Step.{first_message, first_receive, without, delivered, stopped, kept_in, fits_beside, fits_buffer, half_row}
use Rattle.invariant.specs.Invariant.{unmatched_state, is_kept}
use Rattle.invariant.specs.matching.RowChanges.{Enters, Matches}
use Rattle.invariant.specs.step.Places.{Moved}
use Rattle.invariant.specs.step.BufferUse.{Use, use_kept, use_charged, use_released}

-- In each, board r, whose next operation is i, takes job x to job y.

-- a waiting half ends: no row changes
pub record EndsHalf (s : Sheet) (x y : Job) (r i : ℕ) : Type 0 where
  pub waiting : (place_at x r).waiting ≡ true
  pub moved : Moved x y r true
  pub uses : Use x y use_kept
  pub entries : y.entries ≡ x.entries
  pub messages : y.messages ≡ x.messages
  pub receives : y.receives ≡ x.receives
  pub memory : y.memory ≡ x.memory

-- the only half of an operation ends: its row says so, and what the operation tells
pub record EndsOnlyHalf (s : Sheet) (x y : Job) (r i : ℕ) : Type 0 where
  pub not_waiting : (place_at x r).waiting ≡ false
  pub waits : only_half (op s i) ≡ true
  pub moved : Moved x y r true
  pub uses : Use x y use_kept
  pub enters : Enters x y i 5
  pub row : entry_at y i ≡ half_row s x i
  pub messages : y.messages ≡ x.messages
  pub receives : y.receives ≡ x.receives
  pub memory : y.memory ≡ x.memory

-- a receive that no pending message fits is posted
pub record Posts (s : Sheet) (x y : Job) (r i : ℕ) : Type 0 where
  pub not_waiting : (place_at x r).waiting ≡ false
  pub is_one : is_receive (op s i) ≡ true
  pub none_fits : first_message s i x.messages ≡ none
  pub moved : Moved x y r (no_half (op s i))
  pub uses : Use x y use_kept
  pub enters : Enters x y i 1
  pub row : entry_at y i ≡ bare_entry 1
  pub messages : y.messages ≡ x.messages
  pub receives : y.receives ≡ x.receives ++ (i ∷ [])
  pub memory : y.memory ≡ x.memory

-- a send that fits no posted receive is pending, and buffered or not; where it is, its charge fits beside what is in use
pub record Pends (s : Sheet) (x y : Job) (r i : ℕ) : Type 0 where
  pub not_waiting : (place_at x r).waiting ≡ false
  pub is_one : is_send (op s i) ≡ true
  pub none_fits : first_receive s i x.receives ≡ none
  pub fits : (w : Store) → kept_in w (op s i) ≡ true → is_kept s r i x ≡ true → fits_beside w s r i x ≡ true
  pub moved : Moved x y r (no_half (op s i))
  pub uses : Use x y (use_charged s r i (is_kept s r i x))
  pub enters : Enters x y i (unmatched_state (is_kept s r i x) (op s i))
  pub row : entry_at y i ≡ bare_entry (unmatched_state (is_kept s r i x) (op s i))
  pub messages : y.messages ≡ x.messages ++ (i ∷ [])
  pub receives : y.receives ≡ x.receives
  pub memory : y.memory ≡ x.memory

-- which of message m and receive q enters, and that the search found the other
abbrev pub Finds : Sheet → Job → (i m q : ℕ) → Type 0
Finds s x i m q =
    ((q ≡ i) × (first_message s i x.messages ≡ some m)) ⊎ ((m ≡ i) × (first_receive s i x.receives ≡ some q))

-- message m and receive q are matched
pub record MatchStep (s : Sheet) (x y : Job) (r i : ℕ) (m q : ℕ) : Type 0 where
  pub not_waiting : (place_at x r).waiting ≡ false
  pub finds : Finds s x i m q
  pub moved : Moved x y r (no_half (op s i))
  pub uses : Use x y (use_released s x m)
  pub rows : Matches s x y m q i
  pub messages : y.messages ≡ without m x.messages
  pub receives : y.receives ≡ without q x.receives
  pub memory : y.memory ≡ delivered s m q x.memory

-- a send that fits no posted receive stops the job, with verdict v: overflow, or not ready
abbrev pub Cause : Sheet → Job → (r i v : ℕ) → Type 0
Cause s x r i v =
    ((v ≡ 3) × (is_buffered (op s i) ≡ true) × (fits_buffer s r i x ≡ false)) ⊎ ((v ≡ 4) × (is_ready (op s i) ≡ true))

pub record Stops (s : Sheet) (x y : Job) (r i : ℕ) (v : ℕ) : Type 0 where
  pub cause : Cause s x r i v
  pub is_one : is_send (op s i) ≡ true
  pub none_fits : first_receive s i x.receives ≡ none
  pub not_waiting : (place_at x r).waiting ≡ false
  pub job_is : y ≡ with_steps (suc x.steps) (stopped v r i x)

-- what a step does: one of the six
pub data Outcome (s : Sheet) (x y : Job) (r i : ℕ) : Type 0 where
  ends_half : EndsHalf s x y r i → Outcome s x y r i
  ends_only_half : EndsOnlyHalf s x y r i → Outcome s x y r i
  posts : Posts s x y r i → Outcome s x y r i
  pends : Pends s x y r i → Outcome s x y r i
  matches : (m q : ℕ) → MatchStep s x y r i m q → Outcome s x y r i
  stops : (v : ℕ) → Stops s x y r i v → Outcome s x y r i
