-- Two jobs that differ in peaks, in the order of their waiting lists and in memory at most: the same boards are able, and the
-- reports without peaks are equal.
--   EqualButPeaks    the same rows, stop, steps and places, peaks aside, and the same that can be found
--   equal_able         the same boards are able; equal_none_able: and none is in both
--   equal_report       the reports without peaks are equal
--   equal_alike        with equal memory the jobs are alike
--   whole_report       with equal peaks the whole reports are equal
-- Assumes nothing.
use Rattle.std.proofs.Math.Path.{◌≡◌, refl, sym, ap}
use Rattle.std.proofs.Common.{◌∙◌, arith, le-ltb}
use Rattle.std.specs.Prelude.{Bool, ◌&&◌, ◌||◌, not, ltb}
use Rattle.std.proofs.Math.Bool.{true, false, cond}
use mathlib.Core.List.{List}
use Rattle.std.proofs.Math.Option.{Option, none, some}
use Prim.Native.Nat.{ℕ, zero, suc, ◌+◌, ◌≤◌, ◌<◌}
use Rattle.std.proofs.Math.Decide.{dec_lt}
use Rattle.std.proofs.Math.Dec.{leb, eqb}
use Rattle.std.proofs.Math.ListN.{get_or}
use Rattle.rules.specs.Sheet.{Sheet, op, board, P_of, N_of, frees_slot, is_send, is_receive}
use Rattle.rules.specs.Job.{Job, Entry, Stop, Store, in_attached, in_room, account, in_use_at, peak_at, bare_entry, entry_at, place_at}
use Rattle.rules.specs.Step.{able, is_finished, next_op, in_waiting_half, half_complete, half_ends, complete, complete_if, waited, is_none, first_message}
use Rattle.rules.specs.Order.{lowest_able, next_rank, none_able}
use Rattle.rules.specs.Report.{count_from, is_pending_message, is_pending_receive, pending_messages, pending_receives, cut_messages, all_finished}
use Rattle.rules.specs.Report.{verdict_of, header_bytes, board_state, room_bytes, board_row, board_rows, report}
use Rattle.rules.specs.Claims.{without_peaks, Alike}
use Rattle.promises.proofs.compare.ReportBytes.{bare_room, bare_row, bare_rows, bare_report, report_bare}

-- the same rows, stop, steps and places, peaks aside
pub record EqualButPeaks (s : Sheet) (x y : Job) : Type 0 where
  pub entries : x.entries ≡ y.entries
  pub stop : x.stop ≡ y.stop
  pub steps : x.steps ≡ y.steps
  pub finished : (r : ℕ) → r < P_of s → (place_at x r).finished ≡ (place_at y r).finished
  pub waiting : (r : ℕ) → r < P_of s → (place_at x r).waiting ≡ (place_at y r).waiting
  pub in_use : (w : Store) (r : ℕ) → r < P_of s → in_use_at w x r ≡ in_use_at w y r
  -- a pending message fits an operation in both or in neither (probes)
  pub found : (i : ℕ) → is_none (first_message s i x.messages) ≡ is_none (first_message s i y.messages)

-- equal counts
count_same : (k i : ℕ) (f g : ℕ → Bool) → ((j : ℕ) → f j ≡ g j) → count_from k i f ≡ count_from k i g
unfolding count_from
count_same zero i f g h = refl
count_same (suc k) i f g h = cc (h i, count_same k (suc i) f g h)

module _ (s : Sheet) (x y : Job) (e : EqualButPeaks s x y) where
  equal_entry : (i : ℕ) → entry_at x i ≡ entry_at y i
  unfolding entry_at
  equal_entry i = ap (λ (es : List Entry). get_or es i (bare_entry 0)) e.entries

  -- ABLE
  equal_complete : (i : ℕ) → complete x i ≡ complete y i
  unfolding complete
  equal_complete i = ap (λ (z : Entry). leb 2 z.state) (equal_entry i)

  equal_half : (i : ℕ) → half_complete s x i ≡ half_complete s y i
  unfolding half_complete complete_if
  equal_half i = go (waited s i)
    where
      go : (o : Option ℕ) → cond (frees_slot (op s i)) (complete_if x o) (complete x i) ≡ cond (frees_slot (op s i)) (complete_if y o)
          (complete y i)
      go none = ap (λ (b : Bool). cond (frees_slot (op s i)) false b) (equal_complete i)
      go (some j) = cc (equal_complete i, equal_complete j)

  equal_ends : (i : ℕ) → half_ends s x i ≡ half_ends s y i
  unfolding half_ends
  equal_ends i = cc (e.found i, equal_half i)

  pub equal_finished : (r : ℕ) → r < P_of s → is_finished s x r ≡ is_finished s y r
  unfolding is_finished
  equal_finished r l = ap (λ (n : ℕ). leb (board s r).count n) (e.finished r l)

  equal_next : (r : ℕ) → r < P_of s → next_op s x r ≡ next_op s y r
  unfolding next_op
  equal_next r l = ap (λ (n : ℕ). (board s r).first + n) (e.finished r l)

  equal_able_small : (r : ℕ) → r < P_of s → able s x r ≡ able s y r
  unfolding able in_waiting_half
  equal_able_small r l = cc (e.stop, equal_finished r l, e.waiting r l, equal_next r l, equal_ends (next_op s x r))

  able_big : (z : Job) (r : ℕ) → P_of s ≤ r → able s z r ≡ false
  unfolding able
  able_big z r l =
      go (is_none z.stop) (ltb r (P_of s)) (le-ltb r (P_of s) l) (not (is_finished s z r))
      (not (in_waiting_half s z r) || half_ends s z (next_op s z r))
    where
      go : (a b : Bool) → b ≡ false → (c d : Bool) → (a && (b && c)) && d ≡ false
      go true true h c d = absurd (let z : ◌≡◌ {A = ℕ} 0 1 = cc in omega arith)
      go true false h c d = refl
      go false b h c d = refl

  pub equal_able : (r : ℕ) → able s x r ≡ able s y r
  equal_able r = go (dec_lt r (P_of s))
    where
      go : Dec (r < P_of s) → able s x r ≡ able s y r
      go (yes l) = equal_able_small r l
      go (no d) = able_big x r (omega arith) ∙ sym (able_big y r (omega arith))

  lowest_same : (k r : ℕ) → lowest_able k r s x ≡ lowest_able k r s y
  unfolding lowest_able
  lowest_same zero r = refl
  lowest_same (suc k) r = cc (equal_able r, lowest_same k (suc r))

  pub equal_next_rank : next_rank s x ≡ next_rank s y
  unfolding next_rank
  equal_next_rank = lowest_same (P_of s) 0

  pub equal_none_able : none_able s x ≡ none_able s y
  unfolding none_able
  equal_none_able = ap (λ (o : Option ℕ). is_none o) equal_next_rank

  -- THE HEADER
  all_finished_same : (k r : ℕ) → r + k ≤ P_of s → all_finished k r s x ≡ all_finished k r s y
  unfolding all_finished
  all_finished_same zero r l = refl
  all_finished_same (suc k) r l = cc (equal_finished r (omega arith), all_finished_same k (suc r) (omega arith))

  equal_verdict : (o : Option Stop) → verdict_of o s x ≡ verdict_of o s y
  unfolding verdict_of
  equal_verdict none = cc (all_finished_same (P_of s) 0 (omega arith), equal_none_able)
  equal_verdict (some t) = refl

  equal_messages : pending_messages s x ≡ pending_messages s y
  unfolding pending_messages is_pending_message
  equal_messages =
      count_same (N_of s) 0 (is_pending_message s x) (is_pending_message s y)
      (λ i. ap (λ (z : Entry). is_send (op s i) && (eqb z.state 1 || eqb z.state 2)) (equal_entry i))

  equal_receives : pending_receives s x ≡ pending_receives s y
  unfolding pending_receives is_pending_receive
  equal_receives =
      count_same (N_of s) 0 (is_pending_receive s x) (is_pending_receive s y)
      (λ i. ap (λ (z : Entry). is_receive (op s i) && eqb z.state 1) (equal_entry i))

  equal_cut : cut_messages s x ≡ cut_messages s y
  unfolding cut_messages
  equal_cut =
      count_same (N_of s) 0 (λ i. eqb (entry_at x i).cut 1) (λ i. eqb (entry_at y i).cut 1)
      (λ i. ap (λ (z : Entry). eqb z.cut 1) (equal_entry i))

  equal_header : header_bytes s x ≡ header_bytes s y
  unfolding header_bytes
  equal_header = cc (e.stop, equal_verdict x.stop, e.steps, equal_messages, equal_receives, equal_cut)

  -- THE ROWS, of either edition
  equal_row : (b : Bool) (r : ℕ) → r < P_of s → bare_row b s x r ≡ bare_row b s y r
  unfolding bare_row bare_room board_state account
  equal_row b r l = cc (e.finished r l, e.in_use in_attached r l, e.in_use in_room r l, equal_finished r l, equal_able r)

  equal_rows : (b : Bool) (k r : ℕ) → r + k ≤ P_of s → bare_rows b k r s x ≡ bare_rows b k r s y
  unfolding bare_rows
  equal_rows b zero r l = refl
  equal_rows b (suc k) r l = cc (equal_row b r (omega arith), equal_rows b k (suc r) (omega arith))

  pub equal_report : (b : Bool) → without_peaks b (P_of s) (report b s x) ≡ without_peaks b (P_of s) (report b s y)
  unfolding bare_report
  equal_report b =
      let bare : bare_report b s x ≡ bare_report b s y = cc (equal_header, equal_rows b (P_of s) 0 (omega arith), e.entries) in
      report_bare b s x ∙ bare ∙ sym (report_bare b s y)

  pub equal_alike : x.memory ≡ y.memory → Alike s x y
  unfolding Alike
  equal_alike m = (m, equal_report)

  -- WITH PEAKS
  module _ (peaks : (w : Store) (r : ℕ) → r < P_of s → peak_at w x r ≡ peak_at w y r) (b : Bool) where
    whole_row : (r : ℕ) → r < P_of s → board_row b s x r ≡ board_row b s y r
    unfolding board_row room_bytes board_state account
    whole_row r l =
        cc (
          e.finished r l,
          e.in_use in_attached r l,
          e.in_use in_room r l,
          peaks in_attached r l,
          peaks in_room r l,
          equal_finished r l,
          equal_able r,
        )

    whole_rows : (k r : ℕ) → r + k ≤ P_of s → board_rows b k r s x ≡ board_rows b k r s y
    unfolding board_rows
    whole_rows zero r l = refl
    whole_rows (suc k) r l = cc (whole_row r (omega arith), whole_rows k (suc r) (omega arith))

    pub whole_report : report b s x ≡ report b s y
    unfolding report
    whole_report = cc (equal_header, whole_rows (P_of s) 0 (omega arith), e.entries)
