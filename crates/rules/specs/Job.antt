-- The state of a job between two steps (document 01, "How a board steps" and "The report"). Assumes nothing: these are
-- definitions.
use Rattle.std.specs.Prelude.{Bool, false, List, [], ℕ, get_or, replicate}
use Rattle.std.proofs.Math.Option.{Option, none, some}
use Rattle.rules.specs.Limits.{absent}
use Rattle.rules.specs.Sheet.{Sheet, P_of, N_of}

-- the row of an operation: its state (0 not entered, 1 pending, 2 buffered, 3 matched, 5 wait, probe or query finished), its
-- partner, and of a matched receive its status: source, tag and length of the message; cut says that the message was truncated.
-- A probe's row tells of a message the same, a query's tells completion by the length (document 02, K9)
pub record Entry : Type 0 where
  pub state : ℕ
  pub cut : ℕ
  pub partner : ℕ
  pub source : ℕ
  pub tag : ℕ
  pub long : ℕ

-- the figures of an account: bytes in use, and the most in use after any step
pub record Figures : Type 0 where
  pub in_use : ℕ
  pub peak : ℕ

-- where a board stands: operations finished, whether the next one is in its waiting half (an MPI blocking call that has
-- started and not returned), and the figures of its two accounts: of its attached buffer and of its standard room
pub record Place : Type 0 where
  pub finished : ℕ
  pub waiting : Bool
  pub attached : Figures
  pub room : Figures

-- why, where and at which operation a job stopped: verdict 3 overflow, 4 not ready
pub record Stop : Type 0 where
  pub verdict : ℕ
  pub rank : ℕ
  pub at_op : ℕ

-- messages: pending messages, by operation, in order of arrival; receives: posted receives in order of posting;
-- memory: the inboxes
pub record Job : Type 0 where
  pub entries : List Entry
  pub places : List Place
  pub messages : List ℕ
  pub receives : List ℕ
  pub memory : List ℕ
  pub stop : Option Stop
  pub steps : ℕ

unfoldable pub entry : (state cut partner source tag long : ℕ) → Entry
entry a b c d e f =
    record {
      state = a;
      cut = b;
      partner = c;
      source = d;
      tag = e;
      long = f;
    }

-- a row with neither partner nor status
unfoldable pub bare_entry : (state : ℕ) → Entry
bare_entry v = entry v 0 absent absent absent 0

unfoldable pub figures : (in_use peak : ℕ) → Figures
figures a b =
    record {
      in_use = a;
      peak = b;
    }

unfoldable pub place : (finished : ℕ) → (waiting : Bool) → (attached room : Figures) → Place
place a b c d =
    record {
      finished = a;
      waiting = b;
      attached = c;
      room = d;
    }

-- nothing finished, nothing in use
unfoldable pub first_place : Place
first_place = place 0 false (figures 0 0) (figures 0 0)

unfoldable pub job : List Entry → List Place → (messages receives memory : List ℕ) → Option Stop → (steps : ℕ) → Job
job e p m r i s k =
    record {
      entries = e;
      places = p;
      messages = m;
      receives = r;
      memory = i;
      stop = s;
      steps = k;
    }

-- the start: nothing entered, no buffer in use, the lent inboxes
unfoldable pub started : Sheet → (inboxes : List ℕ) → Job
started s i = job (replicate (N_of s) (bare_entry 0)) (replicate (P_of s) first_place) [] [] i none 0

unfoldable pub entry_at : Job → (i : ℕ) → Entry
entry_at x i = get_or x.entries i (bare_entry 0)

unfoldable pub place_at : Job → (r : ℕ) → Place
place_at x r = get_or x.places r first_place

-- STORES: where a board's unmatched message is kept once its send is complete: in the attached buffer (MPI: buffered mode), or in
-- the standard room (document 02, K6; MPI: standard mode, where the library buffers the message). Each has its own account
pub data Store : Type 0 where
  in_attached : Store
  in_room : Store

-- the figures of a store's account, and a place with others in their stead
unfoldable pub account : Store → Place → Figures
account in_attached p = p.attached
account in_room p = p.room

-- bytes in use of a store of board r, and the most in use after any step
abbrev pub in_use_at : Store → Job → (r : ℕ) → ℕ
in_use_at w x r = (account w (place_at x r)).in_use

abbrev pub peak_at : Store → Job → (r : ℕ) → ℕ
peak_at w x r = (account w (place_at x r)).peak

unfoldable pub with_account : Store → Figures → Place → Place
with_account in_attached a p = place p.finished p.waiting a p.room
with_account in_room a p = place p.finished p.waiting p.attached a

-- A JOB WITH ONE PART CHANGED
unfoldable pub with_entries : List Entry → Job → Job
with_entries e x = job e x.places x.messages x.receives x.memory x.stop x.steps

unfoldable pub with_places : List Place → Job → Job
with_places p x = job x.entries p x.messages x.receives x.memory x.stop x.steps

unfoldable pub with_messages : List ℕ → Job → Job
with_messages m x = job x.entries x.places m x.receives x.memory x.stop x.steps

unfoldable pub with_receives : List ℕ → Job → Job
with_receives r x = job x.entries x.places x.messages r x.memory x.stop x.steps

unfoldable pub with_memory : List ℕ → Job → Job
with_memory i x = job x.entries x.places x.messages x.receives i x.stop x.steps

unfoldable pub with_stop : Stop → Job → Job
with_stop t x = job x.entries x.places x.messages x.receives x.memory (some t) x.steps

unfoldable pub with_steps : ℕ → Job → Job
with_steps k x = job x.entries x.places x.messages x.receives x.memory x.stop k
