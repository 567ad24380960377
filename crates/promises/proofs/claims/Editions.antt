-- The two editions: where rooms are 0 their use and peaks are, so that the wider rows have four zero bytes more; and sheets that are
-- the same but for the edition decode to one sheet, so that all that is said of its jobs is said of both.
--   wider_rows          the reports of one job
--   same_sheet          two sheets decode to one
--   follow_editions, run_editions
-- Assumes nothing.
use Rattle.std.specs.Prelude.{◌≡◌, Bool}
use Rattle.std.proofs.Math.Path.{refl, sym, ap, ap₂}
use Rattle.std.proofs.Common.{subst, ◌∙◌, arith, ext_get_or, take_at, drop_at}
use Rattle.std.proofs.Math.Bool.{true, false}
use mathlib.Core.List.{List, ◌∷◌, ◌++◌, append_assoc}
use Rattle.std.proofs.Math.Option.{Option}
use Prim.Native.Nat.{ℕ, zero, suc, ◌+◌, ◌≤◌, ◌<◌}
use Rattle.std.proofs.Math.ListN.{take}
use Rattle.rules.specs.Limits.{report_header_size}
use Rattle.rules.specs.Sheet.{Sheet, board, no_board, second_in, sheet_in, P_of}
use Rattle.rules.specs.Job.{Job, in_room, account, in_use_at, peak_at, place_at}
use Rattle.rules.specs.Step.{size_of}
use Rattle.rules.specs.Order.{follow, run}
use Rattle.rules.specs.Report.{low_two, board_state, room_bytes, board_row, board_rows, header_bytes, op_rows, report}
use Rattle.rules.specs.Service.{order_refusal}
use Rattle.rules.specs.Claims.{left_by}
use Rattle.laws.specs.Decoded.{first_room}
use Rattle.invariant.specs.Invariant.{Reached}
use Rattle.promises.specs.Statements.{Ends, RunEnds}
use Rattle.promises.specs.ServiceStatements.{told_in}
use Rattle.promises.specs.EditionStatements.{NoRooms, wide_rows, widened, WiderRows, SameInBoth, WidenedLeft, FollowEditions, RunEditions}
use Rattle.promises.proofs.compare.ReportBytes.{header_length}
use Rattle.promises.proofs.claims.OneJob.{lent_reached}
use Rattle.promises.proofs.claims.EndsAlike.{run_ends}
use Rattle.promises.proofs.claims.Calls.{follow_answer, follow_lent, run_answer, run_lent}
use Rattle.promises.proofs.claims.Services.{Shows, follow_shows, run_shows}
use Rattle.promises.proofs.claims.Reported.{run_order_taken}

-- REPORTS of one job, of a sheet without rooms
module _ {s : Sheet} {lent : List ℕ} {x : Job} (R : Reached s lent x) (no_rooms : NoRooms s) where
  unused : (r : ℕ) → r < P_of s → (in_use_at in_room x r ≡ 0) × (peak_at in_room x r ≡ 0)
  unfolding NoRooms size_of
  unused r l =
      let peak : peak_at in_room x r ≡ 0 = omega (arith, R.peak_size in_room r l, no_rooms r l) in
      (omega (arith, R.in_use_peak in_room r, peak), peak)

  -- one row, whatever stands behind it in the one report and in the other
  wide_row : (r : ℕ) → r < P_of s → (behind rest : List ℕ) →
      board_row true s x r ++ behind ≡ take 8 (board_row false s x r ++ rest) ++ (0 ∷ 0 ∷ 0 ∷ 0 ∷ behind)
  unfolding board_row room_bytes low_two account
  wide_row r l behind rest =
      let u = unused r l in
      ap₂
      (λ (in_use peak : ℕ). (low_two (place_at x r).finished
      ++ (low_two (place_at x r).attached.in_use
      ++ (low_two (place_at x r).attached.peak ++ (board_state s x r ∷ 0 ∷ (low_two in_use ++ low_two peak))))) ++ behind)
      u.0 u.1

  rows_wider : (k r : ℕ) → r + k ≤ P_of s → (rest : List ℕ) →
      board_rows true k r s x ++ rest ≡ wide_rows k (board_rows false k r s x ++ rest)
  unfolding board_rows wide_rows board_row room_bytes low_two
  rows_wider zero r l rest = refl
  rows_wider (suc k) r l rest =
      let others = board_rows false k (suc r) s x ++ rest in
      append_assoc (board_row true s x r) (board_rows true k (suc r) s x) rest
      ∙ ap (λ (z : List ℕ). board_row true s x r ++ z) (rows_wider k (suc r) (omega arith) rest)
      ∙ wide_row r (omega arith) (wide_rows k others) others
      ∙ ap (λ (z : List ℕ). wide_rows (suc k) z) (sym (append_assoc (board_row false s x r) (board_rows false k (suc r) s x) rest))

  report_wider : report true s x ≡ widened (P_of s) (report false s x)
  unfolding report widened
  report_wider =
      let head = header_bytes s x in
      let rows = board_rows false (P_of s) 0 s x ++ op_rows x.entries in
      ap (λ (z : List ℕ). head ++ z) (rows_wider (P_of s) 0 (omega arith) (op_rows x.entries))
      ∙ ap (λ (z : List ℕ). z ++ wide_rows (P_of s) rows) (sym (take_at head rows report_header_size (header_length s x)))
      ∙ ap (λ (z : List ℕ). take report_header_size (head ++ rows) ++ wide_rows (P_of s) z)
      (sym (drop_at head rows report_header_size (header_length s x)))

pub wider_rows : WiderRows
unfolding WiderRows
wider_rows bs i rs h none_there = report_wider (lent_reached h rs) none_there

-- ONE SHEET
boards_ext : (s t : Sheet) → P_of s ≡ P_of t → ((r : ℕ) → r < P_of t → board s r ≡ board t r) → s.boards ≡ t.boards
unfolding board P_of
boards_ext s t long at = ext_get_or no_board s.boards t.boards long (λ r l. at r (omega arith))

pub same_sheet : {a b : List ℕ} → SameInBoth a b → sheet_in a ≡ sheet_in b
unfolding NoRooms
same_sheet {a} {b} h =
    λ i.
    record {
      comms = h.comms i;
      boards = boards i;
      ops = h.ops i;
      payload = h.payload i;
    }
  where
    room : (r : ℕ) → r < P_of (sheet_in b) → (board (sheet_in a) r).room ≡ (board (sheet_in b) r).room
    room r l = first_room a h.first r (omega (arith, h.boards)) ∙ sym (h.no_rooms r l)

    at : (r : ℕ) → r < P_of (sheet_in b) → board (sheet_in a) r ≡ board (sheet_in b) r
    at r l =
        λ i.
        record {
          first = h.firsts r l i;
          count = h.counts r l i;
          attached = h.attached r l i;
          inbox = h.inboxes r l i;
          room = room r l i;
        }

    boards : (sheet_in a).boards ≡ (sheet_in b).boards
    boards = boards_ext (sheet_in a) (sheet_in b) h.boards at

-- CALLS
module _ {a b : List ℕ} (h : SameInBoth a b) where
  abbrev s : Sheet
  s = sheet_in a

  -- what a call on the second sheet shows is a job of the first
  shown : {x : Job} {i r : List ℕ} → Shows (second_in b) (sheet_in b) x i r → Shows true s x i r
  shown {x} {i} {r} S =
      subst (λ (e : Bool). Shows e s x i r) h.second (subst (λ (z : Sheet). Shows (second_in b) z x i r) (sym (same_sheet h)) S)

  shown_first : {x : Job} {i r : List ℕ} → Shows (second_in a) (sheet_in a) x i r → Shows false s x i r
  shown_first {x} {i} {r} S = subst (λ (e : Bool). Shows e s x i r) h.first S

  no_rooms_either : NoRooms s
  no_rooms_either = subst NoRooms (sym (same_sheet h)) h.no_rooms

  -- calls that left one job
  widened_left : {lent i r j q : List ℕ} {x : Job} → Reached s lent x → Shows (second_in a) (sheet_in a) x i r →
      Shows (second_in b) (sheet_in b) x j q → WidenedLeft a i r j q
  unfolding WidenedLeft
  widened_left {x = x} R F G =
      let one = shown_first F in
      let two = shown G in (
        one.memory ∙ sym two.memory,
        two.reported ∙ report_wider R no_rooms_either ∙ ap (λ (z : List ℕ). widened (P_of s) z) (sym one.reported),
      )

pub follow_editions : FollowEditions
unfolding FollowEditions
follow_editions a b o f g h pa pb same = (
  (follow_answer pa f).number_is ∙ ap (λ (r : Option ℕ). (order_refusal r).number) one_order ∙ sym (follow_answer pb g).number_is,
  (follow_answer pa f).place_is ∙ ap (λ (r : Option ℕ). (order_refusal r).place) one_order ∙ sym (follow_answer pb g).place_is,
  λ e. widened_left h (lent_reached (follow_lent pa f) o) (follow_shows pa f e)
      (subst (λ (x : Job). Shows (second_in b) (sheet_in b) x g.inbox_now g.report_now) (sym one_job)
      (follow_shows pb g
      ((follow_answer pb g).number_is ∙ sym (ap (λ (r : Option ℕ). (order_refusal r).number) one_order) ∙ sym (follow_answer pa f).number_is ∙ e))),
)
  where
    one_order : (follow (sheet_in a) o f.inbox).refused_at ≡ (follow (sheet_in b) o g.inbox).refused_at
    one_order = ap₂ (λ (s : Sheet) (i : List ℕ). (follow s o i).refused_at) (same_sheet h) same

    one_job : left_by (sheet_in a) o f.inbox ≡ left_by (sheet_in b) o g.inbox
    one_job = ap₂ (λ (s : Sheet) (i : List ℕ). left_by s o i) (same_sheet h) same

pub run_editions : RunEditions
unfolding RunEditions RunEnds
run_editions a b f g h pa pb same = (
  (run_answer pa f).number_zero,
  (run_answer pb g).number_zero,
  widened_left h
      (subst (λ (x : Job). Reached (sheet_in a) f.inbox x) E.same_job (lent_reached (run_lent pa f) (run (sheet_in a) f.inbox).order))
      (run_shows pa f E)
      (subst (λ (x : Job). Shows (second_in b) (sheet_in b) x g.inbox_now g.report_now) (sym one_end)
      (run_shows pb g (run_ends b g.inbox (run_lent pb g)))),
  ap (λ (e : Bool). take (told_in e (sheet_in a) f.report_now).steps f.order_now) (sym h.first)
      ∙ run_order_taken f (run_answer pa f).number_zero ∙ one_order ∙ sym (run_order_taken g (run_answer pb g).number_zero)
      ∙ ap (λ (e : Bool). take (told_in e (sheet_in b) g.report_now).steps g.order_now) h.second,
)
  where
    E : Ends (sheet_in a) f.inbox
    E = run_ends a f.inbox (run_lent pa f)

    one_end : (run (sheet_in a) f.inbox).end ≡ (run (sheet_in b) g.inbox).end
    one_end = ap₂ (λ (s : Sheet) (i : List ℕ). (run s i).end) (same_sheet h) same

    one_order : (run (sheet_in a) f.inbox).order ≡ (run (sheet_in b) g.inbox).order
    one_order = ap₂ (λ (s : Sheet) (i : List ℕ). (run s i).order) (same_sheet h) same
