-- The report of the job that stands in scratch: board states, the verdict, and the stretches side by side. Assumes nothing.
--   state_finished, state_other   a board's state; row_is: the front of its row, with the figures as they were read
--   row_first, row_second         its row, by the edition
--   all_finished_is               all boards are finished where each one's place tells it
--   stop_rank, stop_op            the stop, as the control block has it
--   verdict_stopped, ..           the verdict, by what was found
--   front_bytes, back_bytes       the header's two halves; header_is: side by side they are the header
--   report_whole                  header, board rows and operation rows side by side are the report, in front of what stays
use Rattle.std.specs.Prelude.{◌≡◌, Bool, false, ◌&&◌, leb, drop, Option, None, Some}
use Rattle.std.specs.List.{list_all, range_with_len}
use Rattle.std.proofs.Math.Path.{refl, sym, ap, ap₂}
use Rattle.std.proofs.Common.{◌∙◌, zero-add, add-one}
use Rattle.std.proofs.Math.Bool.{true, cond}
use mathlib.Core.List.{List, [], ◌∷◌, ◌++◌, append_assoc}
use Rattle.std.proofs.Math.Option.{Option as Maybe}
use Prim.Native.Nat.{ℕ, zero, suc, ◌+◌, ◌*◌, ◌/◌, ◌%◌, ◌≤◌, ◌<◌}
use native.Mathlib.Omega.{arith}
use Rattle.std.proofs.Math.ListN.{length, length-append}
use borrow.Author.Tests.{le-leb, lt-leb}
use Rattle.rules.specs.Limits.{absent, report_header_size, board_row_size, op_row_size, report_size}
use Rattle.rules.specs.Sheet.{Sheet, board, P_of, N_of, sheet_in}
use Rattle.rules.specs.Job.{Job, Entry, Place, Stop as JobStop, place_at}
use Rattle.rules.specs.Step.{splice, able, is_finished}
use Rattle.rules.specs.Order.{none_able}
use Rattle.rules.specs.Report.{low_two, count_from, pending_messages, pending_receives, cut_messages, all_finished, verdict_of, stop_bytes, header_bytes, board_state, room_bytes, board_row, op_rows, report}
use Rattle.rules.specs.Service.{in_front}
use Rattle.state.specs.declared.Control.{Control}
use Rattle.state.specs.declared.Stop.{Stop}
use Rattle.state.specs.declared.StopVerdict.TheVariants.{Overflow, NotReady}
use Rattle.state.specs.Layout.{seat_at}
use Rattle.state.specs.Decoded.{place_in}
use Rattle.state.proofs.Decodes.{place_is, job_stopped, job_goes_on}
use Rattle.state.specs.Controls.{stop_of, job_stop}
use Rattle.state.specs.Numbers.{verdict_number as stop_number}
use Rattle.laws.specs.Splice.{splice_then}
use Rattle.simulation.specs.Represents.{Represents}
use Rattle.steps.specs.Able.{finished_is}
use Rattle.report.specs.declared.Verdict.{Verdict}
use Rattle.report.specs.declared.Verdict.TheVariants.{Going, Finished, Deadlock, Stopped}
use Rattle.report.specs.Numbers.{verdict_number}
use Rattle.report.specs.ReportCounts.{message_row, receive_row, cut_row, messages_are, receives_are, cut_are}
use Rattle.report.specs.ReportRows.{low_of, four, board_row_at, joined, joined_length, board_rows_long, row_in, row_in_length, board_rows_joined, op_rows_joined}

-- what both editions have of a board's row
unfoldable pub row_front : Sheet → Job → (r : ℕ) → List ℕ
row_front s x r =
    low_two (place_at x r).finished
    ++ (low_two (place_at x r).attached.in_use ++ (low_two (place_at x r).attached.peak ++ (board_state s x r ∷ 0 ∷ [])))

-- bytes at the very front
front_splice : (met vs : List ℕ) → splice met 0 vs ≡ in_front vs met
unfolding splice in_front
front_splice met vs = ap (λ (n : ℕ). vs ++ drop n met) (zero-add (length vs))

-- A BOARD'S STATE: 2 finished, 1 able, 0 neither
state_small : (s : Sheet) (x : Job) (r : ℕ) → board_state s x r ≤ 2
unfolding board_state
state_small s x r = go (is_finished s x r) (able s x r)
  where
    go : (f a : Bool) → cond f 2 (cond a 1 0) ≤ 2
    go true a = omega arith
    go false true = omega arith
    go false false = omega arith

module _ {bs lent c : List ℕ} {t : Control} {x : Job} (d : Represents bs lent c t x) {r done count : ℕ} (l : r < P_of (sheet_in bs))
    (e : done ≡ (place_in c (seat_at r)).finished) (h : count ≡ (board (sheet_in bs) r).count) where
  abbrev s : Sheet
  s = sheet_in bs

  done_is : done ≡ (place_at x r).finished
  done_is = e ∙ finished_is bs lent c t x d r l

  pub finished_yes : count ≤ done → is_finished s x r ≡ true
  unfolding is_finished
  finished_yes q = le-leb (board s r).count (place_at x r).finished (omega (arith, done_is))

  pub finished_no : done < count → is_finished s x r ≡ false
  unfolding is_finished
  finished_no q = lt-leb (board s r).count (place_at x r).finished (omega (arith, done_is))

  pub state_finished : count ≤ done → 2 ≡ board_state s x r
  unfolding board_state
  state_finished q = ap (λ (b : Bool). cond b 2 (cond (able s x r) 1 0)) (sym (finished_yes q))

  -- b is whether the board is able
  pub state_other : done < count → {a : Bool} (b : Bool) → a ≡ able s x r → a ≡ b → cond b 1 0 ≡ board_state s x r
  unfolding board_state
  state_other q {a} b p w =
      ap (λ (f : Bool). cond f 1 0) (sym w ∙ p)
      ∙ ap (λ (f : Bool). cond f 2 (cond (able s x r) 1 0)) (sym (finished_no q))

  -- the front of a board row, with its figures as they were read
  pub row_is : {charged peak state : ℕ} → charged ≡ (place_in c (seat_at r)).attached.in_use →
      peak ≡ (place_in c (seat_at r)).attached.peak → state ≡ board_state s x r → four done charged peak state ≡ row_front s x r
  unfolding row_front low_two
  row_is {charged} {peak} {state} u p v =
      let small = state_small s x r in
      let place : place_in c (seat_at r) ≡ place_at x r = place_is s c t x d.decodes r l in
      let one : charged ≡ (place_at x r).attached.in_use = u ∙ ap (λ (q : Place). q.attached.in_use) place in
      let two : peak ≡ (place_at x r).attached.peak = p ∙ ap (λ (q : Place). q.attached.peak) place in
      let low : state % 256 ≡ board_state s x r = (let m : state % 256 ≡ state = omega arith in m) ∙ v in
      let high : state / 256 % 256 ≡ 0 = omega arith in
      cc (done_is, one, two, low, high)

-- A BOARD'S ROW: in the first edition its front, in the second the room's figures behind it
module _ (s : Sheet) (x : Job) (r : ℕ) where
  pub row_first : (e : Bool) → e ≡ false → row_front s x r ≡ board_row e s x r
  unfolding row_front board_row room_bytes low_two
  row_first e h = rw h

  row_whole : row_front s x r ++ room_bytes true (place_at x r) ≡ board_row true s x r
  unfolding row_front board_row room_bytes low_two
  row_whole = refl

  pub row_second : (e : Bool) → e ≡ true → (met front out : List ℕ) (at : ℕ) → at + board_row_size e ≤ length met →
      front ≡ splice met at (row_front s x r) → out ≡ splice front (at + 8) (room_bytes true (place_at x r)) →
      out ≡ splice met at (board_row e s x r)
  unfolding row_front room_bytes low_two
  row_second e h met front out at l a b =
      splice_then met front out at 8 (row_front s x r) (room_bytes true (place_at x r)) a refl b
      (omega (arith, ap (λ (z : Bool). board_row_size z) h))
      ∙ (ap (λ (vs : List ℕ). splice met at vs) row_whole ∙ ap (λ (z : Bool). splice met at (board_row z s x r)) (sym h))

-- ALL FINISHED: every rank passes the test that places in scratch tell
module _ {bs lent c : List ℕ} {t : Control} {x : Job} (d : Represents bs lent c t x) where
  abbrev sheet : Sheet
  sheet = sheet_in bs

  abbrev finished_row : ℕ → Bool
  finished_row r = leb (board sheet r).count (place_in c (seat_at r)).finished

  finished_from : (n r : ℕ) → r + n ≤ P_of sheet → list_all finished_row (range_with_len r n) ≡ all_finished n r sheet x
  unfolding all_finished is_finished
  finished_from zero r h = refl
  finished_from (suc n) r h =
      ap₂ (λ (f : ℕ) (b : Bool). leb (board sheet r).count f && b) (finished_is bs lent c t x d r (omega arith))
      (ap (λ (k : ℕ). list_all finished_row (range_with_len k n)) (add-one r) ∙ finished_from n (suc r) (omega arith))

  pub all_finished_is : list_all finished_row (range_with_len 0 (P_of sheet)) ≡ all_finished (P_of sheet) 0 sheet x
  all_finished_is = finished_from (P_of sheet) 0 (omega arith)

-- THE HEADER: stop rank (255 none) and stop operation, as the control block has them
abbrev pub no_rank : ℕ
no_rank = 255

abbrev pub stop_rank : Control → ℕ
stop_rank t = elim t.stop [ None ↦ no_rank | Some p ↦ p.rank ]

abbrev pub stop_op : Control → ℕ
stop_op t = elim t.stop [ None ↦ absent | Some p ↦ p.op ]

pub verdict_small : (v : Verdict) → verdict_number v ≤ 4
verdict_small Going = omega arith
verdict_small Finished = omega arith
verdict_small Deadlock = omega arith
verdict_small (Stopped Overflow) = omega arith
verdict_small (Stopped NotReady) = omega arith

-- the first eight bytes, verdict and rank as one number; the last eight
unfoldable pub front_bytes : (verdict : ℕ) → Control → (p : ℕ) → List ℕ
front_bytes v t p = four (v + 256 * stop_rank t) (stop_op t) t.steps p

unfoldable pub back_bytes : Sheet → (c : List ℕ) → List ℕ
back_bytes s c =
    four (N_of s) (count_from (N_of s) 0 (message_row s c)) (count_from (N_of s) 0 (receive_row s c)) (count_from (N_of s) 0 (cut_row c))

module _ {bs lent c : List ℕ} {t : Control} {x : Job} (d : Represents bs lent c t x) where
  abbrev here : Sheet
  here = sheet_in bs

  -- VERDICTS
  pub verdict_stopped : (p : Stop) → t.stop ≡ Some p → stop_number p.verdict ≡ verdict_of x.stop here x
  unfolding verdict_of
  verdict_stopped p e = sym (ap (λ (o : Maybe JobStop). verdict_of o here x) (job_stopped here c t x d.decodes p e))

  going : t.stop ≡ None → verdict_of x.stop here x ≡ cond (all_finished (P_of here) 0 here x) 1 (cond (none_able here x) 2 0)
  unfolding verdict_of
  going h = ap (λ (o : Maybe JobStop). verdict_of o here x) (job_goes_on here c t x d.decodes h)

  pub verdict_finished : t.stop ≡ None → all_finished (P_of here) 0 here x ≡ true → 1 ≡ verdict_of x.stop here x
  verdict_finished h e = sym (going h ∙ ap (λ (b : Bool). cond b 1 (cond (none_able here x) 2 0)) e)

  pub verdict_deadlock : t.stop ≡ None → all_finished (P_of here) 0 here x ≡ false → none_able here x ≡ true →
      2 ≡ verdict_of x.stop here x
  verdict_deadlock h e f = sym (going h ∙ cc (e, f))

  pub verdict_going : t.stop ≡ None → all_finished (P_of here) 0 here x ≡ false → none_able here x ≡ false →
      0 ≡ verdict_of x.stop here x
  verdict_going h e f = sym (going h ∙ cc (e, f))

  -- THE STOP
  pub rank_small : stop_rank t < 256
  rank_small = go t.stop refl
    where
      go : (o : Option Stop) → t.stop ≡ o → elim o [ None ↦ no_rank | Some p ↦ p.rank ] < 256
      go None e = omega arith
      go (Some p) e = omega (arith, (d.reached.stop_at (job_stop p) (job_stopped here c t x d.decodes p e)).rank_small, d.good.boards_few)

  stop_bytes_are : stop_bytes x.stop ≡ stop_rank t ∷ low_two (stop_op t)
  unfolding stop_bytes low_two
  stop_bytes_are = ap stop_bytes d.decodes.stop_is ∙ go t.stop
    where
      go : (o : Option Stop) →
          stop_bytes (stop_of o) ≡ elim o [ None ↦ no_rank | Some p ↦ p.rank ] ∷ low_two (elim o [ None ↦ absent | Some p ↦ p.op ])
      go None = refl
      go (Some p) = refl

  -- the header behind its verdict and stop
  abbrev rest : (steps messages receives cut : ℕ) → List ℕ
  rest k m r q = low_two k ++ (low_two (P_of here) ++ (low_two (N_of here) ++ (low_two m ++ (low_two r ++ low_two q))))

  pub header_is : (v : ℕ) → v ≡ verdict_of x.stop here x → v ≤ 4 → front_bytes v t (P_of here) ++ back_bytes here c ≡ header_bytes here x
  unfolding front_bytes back_bytes header_bytes low_two
  header_is v e small =
      let m = count_from (N_of here) 0 (message_row here c) in
      let r = count_from (N_of here) 0 (receive_row here c) in
      let q = count_from (N_of here) 0 (cut_row c) in
      ap (λ (u : List ℕ). ((u ++ low_two (stop_op t)) ++ (low_two t.steps ++ low_two (P_of here))) ++ back_bytes here c) (low_of v (stop_rank t) (omega arith) rank_small)
      ∙ ap (λ (k : ℕ). v ∷ (stop_rank t ∷ low_two (stop_op t)) ++ rest k m r q) (sym d.decodes.steps_are)
      ∙ ap (λ (k : ℕ). v ∷ (stop_rank t ∷ low_two (stop_op t)) ++ rest x.steps k r q) (messages_are d)
      ∙ ap (λ (k : ℕ). v ∷ (stop_rank t ∷ low_two (stop_op t)) ++ rest x.steps (pending_messages here x) k q) (receives_are d)
      ∙ ap (λ (k : ℕ). v ∷ (stop_rank t ∷ low_two (stop_op t)) ++ rest x.steps (pending_messages here x) (pending_receives here x) k) (cut_are d)
      ∙ ap₂ (λ (a : ℕ) (b : List ℕ). a ∷ (b ++ rest x.steps (pending_messages here x) (pending_receives here x) (cut_messages here x))) e (sym stop_bytes_are)

  header_long : length (header_bytes here x) ≡ report_header_size
  unfolding header_bytes low_two
  header_long = ap (λ (b : List ℕ). length (verdict_of x.stop here x ∷ (b ++ rest x.steps (pending_messages here x) (pending_receives here x) (cut_messages here x)))) stop_bytes_are

  -- THE WHOLE: three stretches side by side
  pub report_whole : (e : Bool) (met : List ℕ) {one two all : List ℕ} → report_size e (P_of here) (N_of here) ≤ length met →
      one ≡ splice met 0 (header_bytes here x) → two ≡ splice one report_header_size (joined (board_row e here x) 0 (P_of here)) →
      all ≡ splice two (board_row_at e (P_of here)) (joined (row_in c) 0 (N_of here)) → all ≡ in_front (report e here x) met
  unfolding report in_front
  report_whole e met {one} {two} {all} room a b z =
      let head = header_bytes here x in
      let rows = joined (board_row e here x) 0 (P_of here) in
      let ops = joined (row_in c) 0 (N_of here) in
      let place = board_row_at e (P_of here) in
      let rows_long = board_rows_long e here x (P_of here) in
      let ops_long = joined_length op_row_size (row_in c) (row_in_length c) 0 (N_of here) in
      let long : length (head ++ rows) ≡ place = omega (arith, length-append head rows, header_long) in
      let both : two ≡ splice met 0 (head ++ rows) =
      splice_then met one two 0 report_header_size head rows a header_long b (omega (arith, header_long)) in
      let at : place ≡ 0 + place = omega arith in
      let last : all ≡ splice two (0 + place) ops = z ∙ ap (λ (n : ℕ). splice two n ops) at in
      splice_then met two all 0 place (head ++ rows) ops both long last (omega arith)
      ∙ ap (λ (vs : List ℕ). splice met 0 vs) (append_assoc head rows ops)
      ∙ ap₂ (λ (u v : List ℕ). splice met 0 (head ++ (u ++ v))) (sym (board_rows_joined e here x 0 (P_of here)))
      (sym (ap (λ (es : List Entry). op_rows es) d.decodes.entries_are ∙ op_rows_joined c (N_of here)))
      ∙ front_splice met (report e here x)
