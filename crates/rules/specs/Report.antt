-- The report, byte by byte (document 01, "The report"). Assumes nothing: these are definitions.
use Rattle.std.specs.Prelude.{Bool, true, ◌&&◌, ◌||◌, cond, List, [], ◌∷◌, ◌++◌, ℕ, zero, suc, ◌+◌, ◌/◌, ◌%◌, eqb, get_or}
use Rattle.std.proofs.Math.Option.{Option, none, some}
use Rattle.rules.specs.Sheet.{Sheet, op, P_of, N_of, is_send, is_receive, two}
use Rattle.rules.specs.Job.{Job, Entry, Place, Stop, entry_at, place_at}
use Rattle.rules.specs.Step.{able, is_finished}
use Rattle.rules.specs.Order.{none_able}

-- a number as two bytes, the low one first
unfoldable pub low_two : ℕ → List ℕ
low_two v = (v % 256) ∷ (v / 256 % 256) ∷ []

-- how many of `left` numbers from i on pass a test
unfoldable pub count_from : (left i : ℕ) → (ℕ → Bool) → ℕ
count_from zero i f = 0
count_from (suc k) i f = cond (f i) 1 0 + count_from k (suc i) f

-- state 2, buffered, counts as a pending message
unfoldable pub is_pending_message : Sheet → Job → (i : ℕ) → Bool
is_pending_message s x i = is_send (op s i) && (eqb (entry_at x i).state 1 || eqb (entry_at x i).state 2)

unfoldable pub is_pending_receive : Sheet → Job → (i : ℕ) → Bool
is_pending_receive s x i = is_receive (op s i) && eqb (entry_at x i).state 1

unfoldable pub pending_messages : Sheet → Job → ℕ
pending_messages s x = count_from (N_of s) 0 (is_pending_message s x)

unfoldable pub pending_receives : Sheet → Job → ℕ
pending_receives s x = count_from (N_of s) 0 (is_pending_receive s x)

unfoldable pub cut_messages : Sheet → Job → ℕ
cut_messages s x = count_from (N_of s) 0 (λ i. eqb (entry_at x i).cut 1)

unfoldable pub all_finished : (left r : ℕ) → Sheet → Job → Bool
all_finished zero r s x = true
all_finished (suc k) r s x = is_finished s x r && all_finished k (suc r) s x

-- VERDICTS: 3 overflow and 4 not ready stop a job; else 1 all boards finished; else 2 deadlock, none able; else 0 still able
unfoldable pub verdict_of : Option Stop → Sheet → Job → ℕ
verdict_of (some t) s x = t.verdict
verdict_of none s x = cond (all_finished (P_of s) 0 s x) 1 (cond (none_able s x) 2 0)

-- stop rank (255 none) and stop operation (65,535 none)
unfoldable pub stop_bytes : Option Stop → List ℕ
stop_bytes none = 255 ∷ 255 ∷ 255 ∷ []
stop_bytes (some t) = t.rank ∷ low_two t.at_op

unfoldable pub header_bytes : Sheet → Job → List ℕ
header_bytes s x =
    verdict_of x.stop s x ∷ (stop_bytes x.stop
    ++ (low_two x.steps
    ++ (low_two (P_of s)
    ++ (low_two (N_of s)
    ++ (low_two (pending_messages s x) ++ (low_two (pending_receives s x) ++ low_two (cut_messages s x)))))))

-- a board's state: 2 finished, 1 able, 0 neither
unfoldable pub board_state : Sheet → Job → (r : ℕ) → ℕ
board_state s x r = cond (is_finished s x r) 2 (cond (able s x r) 1 0)

-- what the second edition has of a board besides: use and peak of its standard room (document 02, K6)
unfoldable pub room_bytes : (second : Bool) → Place → List ℕ
room_bytes e p = cond e (low_two p.room.in_use ++ low_two p.room.peak) []

unfoldable pub board_row : (second : Bool) → Sheet → Job → (r : ℕ) → List ℕ
board_row e s x r =
    low_two (place_at x r).finished
    ++ (low_two (place_at x r).attached.in_use
    ++ (low_two (place_at x r).attached.peak ++ (board_state s x r ∷ 0 ∷ room_bytes e (place_at x r))))

unfoldable pub board_rows : (second : Bool) → (left r : ℕ) → Sheet → Job → List ℕ
board_rows e zero r s x = []
board_rows e (suc k) r s x = board_row e s x r ++ board_rows e k (suc r) s x

unfoldable pub op_row : Entry → List ℕ
op_row e =
    e.state ∷ e.cut ∷ (low_two e.partner
    ++ (low_two e.source ++ (low_two e.tag ++ (low_two e.long ++ (0 ∷ 0 ∷ [])))))

-- the row that stands at a place of some bytes, read back
abbrev pub entry_in : List ℕ → (at : ℕ) → Entry
entry_in bs at =
    record {
      state = get_or bs at 0;
      cut = get_or bs (at + 1) 0;
      partner = two bs (at + 2);
      source = two bs (at + 4);
      tag = two bs (at + 6);
      long = two bs (at + 8);
    }

unfoldable pub op_rows : List Entry → List ℕ
op_rows [] = []
op_rows (e ∷ es) = op_row e ++ op_rows es

unfoldable pub report : (second : Bool) → Sheet → Job → List ℕ
report e s x = header_bytes s x ++ (board_rows e (P_of s) 0 s x ++ op_rows x.entries)
