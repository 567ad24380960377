-- A report tells what its job does: what is read from the bytes of a reached job's report (told_in), with whatever lent bytes
-- behind it, is what the job itself tells (told_by). So each claim about what is told holds of the report's own bytes.
--   row_there, figure_there      a row's bytes, found where the report has them
--   report_tells                 the law
-- Assumes nothing.
use Rattle.std.specs.Prelude.{◌≡◌, ◌&&◌, ◌||◌, not, length, take, drop}
use Rattle.std.proofs.Math.Path.{refl, sym, ap, subst}
use Rattle.std.proofs.Common.{◌∙◌, arith, length-take-le, ltb-true, ltb-false, le-leb, ne_eqb}
use Rattle.std.proofs.Math.Bool.{Bool, true, false, cond}
use mathlib.Core.List.{List, [], ◌∷◌, ◌++◌, append_assoc}
use Rattle.std.proofs.Math.Option.{Option, none, some}
use Prim.Native.Nat.{ℕ, zero, suc, ◌+◌, ◌*◌, ◌-◌, ◌/◌, ◌%◌, ◌≤◌, ◌<◌}
use Rattle.std.proofs.Math.Decide.{dec_lt}
use Rattle.std.proofs.Math.Dec.{ltb, leb, eqb}
use Rattle.std.proofs.Math.ListN.{get_or, length-append, get_or-eq_default}
use Rattle.std.proofs.Math.Seq.{get_or-append-add}
use Rattle.rules.specs.Limits.{report_size}
use Rattle.rules.specs.Sheet.{Sheet, Board, board, no_board, P_of, N_of, two}
use Rattle.rules.specs.Job.{Job, Entry, Place, Stop, Store, in_attached, in_room, account, in_use_at, peak_at, figures, place, first_place}
use Rattle.rules.specs.Job.{bare_entry, entry_at, place_at}
use Rattle.rules.specs.Step.{able, is_finished, size_of}
use Rattle.rules.specs.Report.{low_two, verdict_of, stop_bytes, header_bytes, board_state, room_bytes, board_row, board_rows, op_row, op_rows, entry_in, report}
use Rattle.rules.specs.Report.{count_from, is_pending_message, is_pending_receive, pending_messages, pending_receives, cut_messages}
use Rattle.laws.specs.Tests.{true_not_false, not_so, cond_false}
use Rattle.laws.specs.ReportRows.{two_behind, two_bytes, row_read}
use Rattle.invariant.specs.sheet.Valid.{Valid}
use Rattle.invariant.specs.Invariant.{Reached}
use Rattle.invariant.specs.Facts.{able_parts}
use Rattle.invariant.specs.Bounds.{finished_few, steps_few, peak_few, in_use_few, row_fits}
use Rattle.promises.specs.Statements.{told_by}
use Rattle.promises.specs.ServiceStatements.{board_row_at, board_figure, store_figure, board_state_is, stop_in, told_in}
use Rattle.promises.proofs.compare.ReportBytes.{header_length, board_rows_length, op_rows_length}

-- ROWS IN TWO PARTS: those before one, and that one with what follows
rows_split : (second : Bool) (s : Sheet) (x : Job) (k r j : ℕ) → j < k →
    board_rows second k r s x ≡ board_rows second j r s x ++ (board_row second s x (r + j) ++ board_rows second (k - suc j) (suc (r + j)) s x)
unfolding board_rows
rows_split second s x zero r j l = absurd (omega arith)
rows_split second s x (suc k) r zero l =
    let here : r ≡ r + 0 = omega arith in
    let left : k ≡ suc k - 1 = omega arith in
    ap (λ (q : ℕ). board_row second s x q ++ board_rows second k (suc q) s x) here
    ∙ ap (λ (n : ℕ). board_row second s x (r + 0) ++ board_rows second n (suc (r + 0)) s x) left
rows_split second s x (suc k) r (suc j) l =
    let there : suc r + j ≡ r + suc j = omega arith in
    let left : k - suc j ≡ suc k - suc (suc j) = omega arith in
    ap (λ (z : List ℕ). board_row second s x r ++ z) (rows_split second s x k (suc r) j (omega arith))
    ∙ sym (append_assoc (board_row second s x r) (board_rows second j (suc r) s x) _)
    ∙ ap (λ (q : ℕ). (board_row second s x r ++ board_rows second j (suc r) s x) ++ (board_row second s x q ++ board_rows second (k - suc j) (suc q) s x)) there
    ∙ ap (λ (n : ℕ). (board_row second s x r ++ board_rows second j (suc r) s x) ++ (board_row second s x (r + suc j) ++ board_rows second n (suc (r + suc j)) s x)) left

ops_split : (es : List Entry) (i : ℕ) (d : Entry) → i < length es →
    op_rows es ≡ op_rows (take i es) ++ (op_row (get_or es i d) ++ op_rows (drop (suc i) es))
unfolding op_rows
ops_split [] i d l = absurd (omega arith)
ops_split (e ∷ es) zero d l = refl
ops_split (e ∷ es) (suc i) d l =
    ap (λ (z : List ℕ). op_row e ++ z) (ops_split es i d (omega arith)) ∙ sym (append_assoc (op_row e) (op_rows (take i es)) _)

-- as many as are asked, at the most
count_most : (k i : ℕ) (f : ℕ → Bool) → count_from k i f ≤ k
unfolding count_from
count_most zero i f = omega arith
count_most (suc k) i f = go (f i) (count_most k (suc i) f)
  where
    go : (b : Bool) → count_from k (suc i) f ≤ k → cond b 1 0 + count_from k (suc i) f ≤ suc k
    go true l = omega arith
    go false l = omega arith

-- the report of an edition; in the first, boards have no room
module _ (second : Bool) {s : Sheet} (no_room : second ≡ false → (r : ℕ) → r < P_of s → (board s r).room ≡ 0) (g : Valid s) {lent : List ℕ}
    {x : Job} (R : Reached s lent x) (rest : List ℕ) where
  abbrev told : List ℕ
  told = report second s x ++ rest

  -- OPERATIONS
  row_there : (i : ℕ) → i < N_of s → entry_in told (report_size second (P_of s) i) ≡ entry_at x i
  unfolding report entry_at
  row_there i l =
      subst (λ (z : List ℕ). entry_in z (report_size second (P_of s) i) ≡ e) (sym whole)
      (row_read front (op_rows (drop (suc i) es) ++ rest) (report_size second (P_of s) i) e size (row_fits g R i))
    where
      es : List Entry
      es = x.entries

      e : Entry
      e = get_or es i (bare_entry 0)

      head : List ℕ
      head = header_bytes s x

      rows : List ℕ
      rows = board_rows second (P_of s) 0 s x

      front : List ℕ
      front = head ++ (rows ++ op_rows (take i es))

      size : length front ≡ report_size second (P_of s) i
      size =
          omega (
            arith,
            length-append head (rows ++ op_rows (take i es)),
            length-append rows (op_rows (take i es)),
            header_length s x,
            board_rows_length second (P_of s) 0 s x,
            op_rows_length (take i es),
            length-take-le i es (omega (arith, R.placed.entries_long)),
          )

      -- the report, cut at row i
      whole : (head ++ (rows ++ op_rows es)) ++ rest ≡ front ++ (op_row e ++ (op_rows (drop (suc i) es) ++ rest))
      whole =
          let tail = op_row e ++ op_rows (drop (suc i) es) in
          ap (λ (z : List ℕ). (head ++ (rows ++ z)) ++ rest) (ops_split es i (bare_entry 0) (omega (arith, R.placed.entries_long)))
          ∙ ap (λ (z : List ℕ). (head ++ z) ++ rest) (sym (append_assoc rows (op_rows (take i es)) tail))
          ∙ ap (λ (z : List ℕ). z ++ rest) (sym (append_assoc head (rows ++ op_rows (take i es)) tail))
          ∙ append_assoc front tail rest
          ∙ ap (λ (z : List ℕ). front ++ z) (append_assoc (op_row e) (op_rows (drop (suc i) es)) rest)

  row_told : (i : ℕ) → cond (ltb i (N_of s)) (entry_in told (report_size second (P_of s) i)) (bare_entry 0) ≡ entry_at x i
  unfolding entry_at
  row_told i = go (ltb i (N_of s)) refl
    where
      past : N_of s ≤ i → bare_entry 0 ≡ entry_at x i
      past l = sym (get_or-eq_default x.entries (bare_entry 0) (omega (arith, R.placed.entries_long)))

      go : (b : Bool) → ltb i (N_of s) ≡ b → cond b (entry_in told (report_size second (P_of s) i)) (bare_entry 0) ≡ entry_at x i
      go true e = row_there i (ltb-true i (N_of s) e)
      go false e = past (ltb-false i (N_of s) e)

  -- BOARDS
  module _ (r : ℕ) (l : r < P_of s) where
    abbrev behind : List ℕ
    behind = board_rows second (P_of s - suc r) (suc (0 + r)) s x ++ (op_rows x.entries ++ rest)

    abbrev before : List ℕ
    before = header_bytes s x ++ board_rows second r 0 s x

    board_cut : told ≡ before ++ (board_row second s x (0 + r) ++ behind)
    unfolding report
    board_cut =
        let head = header_bytes s x in
        let ops = op_rows x.entries in
        let own = board_row second s x (0 + r) in
        let others = board_rows second (P_of s - suc r) (suc (0 + r)) s x in
        ap (λ (z : List ℕ). (head ++ (z ++ ops)) ++ rest) (rows_split second s x (P_of s) 0 r l)
        ∙ ap (λ (z : List ℕ). (head ++ z) ++ rest) (append_assoc (board_rows second r 0 s x) (own ++ others) ops)
        ∙ ap (λ (z : List ℕ). z ++ rest) (sym (append_assoc head (board_rows second r 0 s x) ((own ++ others) ++ ops)))
        ∙ append_assoc before ((own ++ others) ++ ops) rest
        ∙ ap (λ (z : List ℕ). before ++ z) (append_assoc (own ++ others) ops rest ∙ append_assoc own others (ops ++ rest))

    board_front : length before ≡ board_row_at second r
    unfolding board_row_at
    board_front =
        omega (arith, length-append (header_bytes s x) (board_rows second r 0 s x), header_length s x, board_rows_length second r 0 s x)

    same_rank : 0 + r ≡ r
    same_rank = omega arith

    figure_there : (at : ℕ) → two told (board_row_at second r + at) ≡ two (board_row second s x r ++ behind) at
    figure_there at =
        ap (λ (z : List ℕ). two z (board_row_at second r + at)) board_cut
        ∙ ap (λ (k : ℕ). two (before ++ (board_row second s x (0 + r) ++ behind)) (k + at)) (sym board_front)
        ∙ two_behind before (board_row second s x (0 + r) ++ behind) at
        ∙ ap (λ (k : ℕ). two (board_row second s x k ++ behind) at) same_rank

    finished_there : two told (board_row_at second r + 0) ≡ (place_at x r).finished
    unfolding board_row low_two two
    finished_there = figure_there 0 ∙ two_bytes (place_at x r).finished (omega (arith, finished_few g R r l))

    in_use_there : two told (board_row_at second r + 2) ≡ in_use_at in_attached x r
    unfolding board_row low_two two account
    in_use_there = figure_there 2 ∙ two_bytes (in_use_at in_attached x r) (in_use_few g R in_attached r l)

    peak_there : two told (board_row_at second r + 4) ≡ peak_at in_attached x r
    unfolding board_row low_two two account
    peak_there = figure_there 4 ∙ two_bytes (peak_at in_attached x r) (peak_few g R in_attached r l)

    -- the row of the second edition has the room's figures behind
    abbrev wide_row : (b : Bool) → List ℕ
    wide_row b = board_row b s x r ++ behind

    room_use_there : second ≡ true → two told (board_row_at second r + 8) ≡ in_use_at in_room x r
    unfolding board_row room_bytes low_two two account
    room_use_there e =
        figure_there 8 ∙ ap (λ (b : Bool). two (wide_row b) 8) e ∙ two_bytes (in_use_at in_room x r) (in_use_few g R in_room r l)

    room_peak_there : second ≡ true → two told (board_row_at second r + 10) ≡ peak_at in_room x r
    unfolding board_row room_bytes low_two two account
    room_peak_there e =
        figure_there 10 ∙ ap (λ (b : Bool). two (wide_row b) 10) e ∙ two_bytes (peak_at in_room x r) (peak_few g R in_room r l)

    state_there : get_or told (board_row_at second r + 6) 0 ≡ board_state s x r
    unfolding board_row low_two
    state_there =
        ap (λ (z : List ℕ). get_or z (board_row_at second r + 6) 0) board_cut
        ∙ ap (λ (k : ℕ). get_or (before ++ (board_row second s x (0 + r) ++ behind)) (k + 6) 0) (sym board_front)
        ∙ get_or-append-add before (board_row second s x (0 + r) ++ behind) 6 0
        ∙ ap (λ (k : ℕ). board_state s x k) same_rank

  -- a rank that the sheet does not have
  module _ (r : ℕ) (l : P_of s ≤ r) where
    no_place : place_at x r ≡ first_place
    unfolding place_at
    no_place = get_or-eq_default x.places first_place (omega (arith, R.placed.places_long))

    no_count : (board s r).count ≡ 0
    unfolding board P_of no_board
    no_count = ap (λ (b : Board). b.count) (get_or-eq_default s.boards no_board l)

  -- a figure of a board row is its place's
  figure_told : (f : Place → ℕ) (at r : ℕ) → f first_place ≡ 0 →
      (r < P_of s → two told (board_row_at second r + at) ≡ f (place_at x r)) → board_figure second s told at r ≡ f (place_at x r)
  unfolding board_figure
  figure_told f at r zero_first there = go (ltb r (P_of s)) refl
    where
      go : (b : Bool) → ltb r (P_of s) ≡ b → cond b (two told (board_row_at second r + at)) 0 ≡ f (place_at x r)
      go true e = there (ltb-true r (P_of s) e)
      go false e = sym (ap f (no_place r (ltb-false r (P_of s) e)) ∙ zero_first)

  -- in the first edition a room's figures are 0
  room_none : second ≡ false → (r : ℕ) → (0 ≡ in_use_at in_room x r) × (0 ≡ peak_at in_room x r)
  unfolding account size_of first_place place figures
  room_none e r = go (dec_lt r (P_of s))
    where
      go : Dec (r < P_of s) → (0 ≡ in_use_at in_room x r) × (0 ≡ peak_at in_room x r)
      go (yes l) =
          let peak : 0 ≡ peak_at in_room x r = omega (arith, R.peak_size in_room r l, no_room e r l) in
          (omega (arith, R.in_use_peak in_room r, peak), peak)
      go (no d) =
          let none_there = no_place r (omega arith) in
          (sym (ap (λ (p : Place). p.room.in_use) none_there), sym (ap (λ (p : Place). p.room.peak) none_there))

  use_told : (w : Store) (r : ℕ) → store_figure second s told 0 w r ≡ in_use_at w x r
  unfolding store_figure account figures first_place place
  use_told in_attached r = figure_told (λ q. q.attached.in_use) 2 r refl (in_use_there r)
  use_told in_room r = go second refl
    where
      go : (b : Bool) → second ≡ b → cond b (board_figure second s told 8 r) 0 ≡ in_use_at in_room x r
      go true e = figure_told (λ q. q.room.in_use) 8 r refl (λ l. room_use_there r l e)
      go false e = (room_none e r).0

  peak_told : (w : Store) (r : ℕ) → store_figure second s told 2 w r ≡ peak_at w x r
  unfolding store_figure account figures first_place place
  peak_told in_attached r = figure_told (λ q. q.attached.peak) 4 r refl (peak_there r)
  peak_told in_room r = go second refl
    where
      go : (b : Bool) → second ≡ b → cond b (board_figure second s told 10 r) 0 ≡ peak_at in_room x r
      go true e = figure_told (λ q. q.room.peak) 10 r refl (λ l. room_peak_there r l e)
      go false e = (room_none e r).1

  done_told : (r : ℕ) → (not (ltb r (P_of s)) || board_state_is second told 2 r) ≡ is_finished s x r
  unfolding board_state_is board_state is_finished
  done_told r = go (ltb r (P_of s)) refl
    where
      finished : Bool
      finished = leb (board s r).count (place_at x r).finished

      by_state : (a b : Bool) → eqb (cond a 2 (cond b 1 0)) 2 ≡ a
      by_state true b = refl
      by_state false true = refl
      by_state false false = refl

      go : (b : Bool) → ltb r (P_of s) ≡ b → (not b || eqb (get_or told (board_row_at second r + 6) 0) 2) ≡ finished
      go true e =
          ap (λ (v : ℕ). eqb v 2) (state_there r (ltb-true r (P_of s) e))
          ∙ by_state (is_finished s x r) (able s x r)
      go false e = sym (le-leb (board s r).count (place_at x r).finished (omega (arith, no_count r (ltb-false r (P_of s) e))))

  able_told : (r : ℕ) → (ltb r (P_of s) && board_state_is second told 1 r) ≡ able s x r
  unfolding board_state_is board_state
  able_told r = go (ltb r (P_of s)) refl
    where
      -- able says unfinished
      by_state : (a b : Bool) → is_finished s x r ≡ a → able s x r ≡ b → eqb (cond a 2 (cond b 1 0)) 1 ≡ b
      by_state true true f e = true_not_false f (able_parts g R r e).2
      by_state true false f e = refl
      by_state false true f e = refl
      by_state false false f e = refl

      go : (b : Bool) → ltb r (P_of s) ≡ b → (b && eqb (get_or told (board_row_at second r + 6) 0) 1) ≡ able s x r
      go true e =
          ap (λ (v : ℕ). eqb v 1) (state_there r (ltb-true r (P_of s) e))
          ∙ by_state (is_finished s x r) (able s x r) refl refl
      go false e = sym (not_so (able s x r) (λ a. omega (arith, (able_parts g R r a).1, ltb-false r (P_of s) e)))

  -- THE HEADER: verdict and stop
  verdict_told : get_or told 0 0 ≡ verdict_of x.stop s x
  unfolding report header_bytes
  verdict_told = refl

  -- the header's figures, behind the stop
  abbrev header_figures : List ℕ
  header_figures =
      low_two x.steps
      ++ (low_two (P_of s)
      ++ (low_two (N_of s)
      ++ (low_two (pending_messages s x) ++ (low_two (pending_receives s x) ++ low_two (cut_messages s x)))))

  -- and the whole report, where the job's stop is o
  abbrev told_with : Option Stop → List ℕ
  told_with o =
      ((verdict_of o s x ∷ (stop_bytes o ++ header_figures)) ++ (board_rows second (P_of s) 0 s x ++ op_rows x.entries)) ++ rest

  stop_told : stop_in told ≡ x.stop
  unfolding report header_bytes stop_in stop_bytes low_two verdict_of two
  stop_told = go x.stop refl
    where
      with_op : Stop → ℕ → Option Stop
      with_op t k =
          some
          (record {
            verdict = t.verdict;
            rank = t.rank;
            at_op = k;
          })

      go : (o : Option Stop) → x.stop ≡ o → stop_in (told_with o) ≡ o
      go none e = refl
      go (some t) e =
          let known = R.stop_at t e in
          cond_false (eqb t.rank 255) none (with_op t (t.at_op % 256 + 256 * (t.at_op / 256 % 256)))
          (ne_eqb t.rank 255 (λ z. omega (arith, known.rank_small, g.boards_few)))
          ∙ ap (with_op t) (two_bytes t.at_op (omega (arith, known.op_small, g.ops_few)))

  -- figures stand behind verdict and stop, four bytes
  header_there : (k : ℕ) → two told (4 + k) ≡ two ((header_figures ++ (board_rows second (P_of s) 0 s x ++ op_rows x.entries)) ++ rest) k
  unfolding report header_bytes stop_bytes low_two verdict_of
  header_there k = go x.stop
    where
      behind : List ℕ
      behind = (header_figures ++ (board_rows second (P_of s) 0 s x ++ op_rows x.entries)) ++ rest

      go : (o : Option Stop) → two (told_with o) (4 + k) ≡ two behind k
      go none = two_behind (verdict_of none s x ∷ stop_bytes none) behind k
      go (some t) = two_behind (verdict_of (some t) s x ∷ stop_bytes (some t)) behind k

  steps_told : two told 4 ≡ x.steps
  unfolding low_two two
  steps_told = header_there 0 ∙ two_bytes x.steps (omega (arith, steps_few g R))

  -- counts of operations are at most N
  count_small : (f : ℕ → Bool) → count_from (N_of s) 0 f < 65536
  count_small f = omega (arith, count_most (N_of s) 0 f, g.ops_few)

  messages_told : two told 10 ≡ pending_messages s x
  unfolding low_two two pending_messages
  messages_told = header_there 6 ∙ two_bytes (pending_messages s x) (count_small (is_pending_message s x))

  receives_told : two told 12 ≡ pending_receives s x
  unfolding low_two two pending_receives
  receives_told = header_there 8 ∙ two_bytes (pending_receives s x) (count_small (is_pending_receive s x))

  cuts_told : two told 14 ≡ cut_messages s x
  unfolding low_two two cut_messages
  cuts_told = header_there 10 ∙ two_bytes (cut_messages s x) (count_small (λ i. eqb (entry_at x i).cut 1))

  -- THE LAW
  pub report_tells : told_in second s told ≡ told_by s x
  unfolding told_in told_by first_place place
  report_tells =
      λ i.
      record {
        verdict = verdict_told i;
        stop = stop_told i;
        steps = steps_told i;
        messages = messages_told i;
        receives = receives_told i;
        cuts = cuts_told i;
        row = λ j. row_told j i;
        finished = λ r. figure_told (λ q. q.finished) 0 r refl (finished_there r) i;
        in_use = λ w r. use_told w r i;
        peak = λ w r. peak_told w r i;
        is_done = λ r. done_told r i;
        is_able = λ r. able_told r i;
      }
