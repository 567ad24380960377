-- Whether a board is able, test by test (document 01, "How a board steps"), of every job that stands in scratch.
-- Assumes nothing.
use Rattle.std.specs.Prelude.{◌≡◌, refl, Option, None, Some, Bool, true, ◌||◌, not, List}
use Rattle.std.specs.Option.{is_some}
use Rattle.std.proofs.Common.{◌∙◌}
use Rattle.std.proofs.Math.Path.{ap}
use Rattle.std.proofs.Math.Bool.{false}
use Rattle.std.proofs.Math.Option.{some}
use Prim.Native.Nat.{ℕ, ◌+◌, ◌<◌, ◌≤◌}
use native.Mathlib.Omega.{arith}
use Rattle.std.proofs.Math.Dec.{leb}
use borrow.Author.Tests.{lt-ltb, le-ltb, le-leb, lt-leb, leb-false}
use Rattle.rules.specs.Sheet.{Sheet, sheet_in, op, board, P_of, N_of, two, only_half, names_slot, frees_slot}
use Rattle.rules.specs.Sheet.{tells_message, tells_completion, tells}
use Rattle.rules.specs.Job.{Job, Entry, Place, entry_at, place_at}
use Rattle.rules.specs.Step.{able, next_op, is_finished, complete, complete_if, waited, half_complete, half_ends, in_waiting_half, is_none}
use Rattle.rules.specs.Report.{entry_in}
use Rattle.laws.specs.Tests.{or_false_left, or_false_right}
use Rattle.invariant.specs.sheet.Waits.{waited_before}
use Rattle.laws.specs.Fields.{frees_names}
use Rattle.state.specs.declared.Control.{Control}
use Rattle.state.specs.declared.Stop.{Stop}
use Rattle.state.specs.Layout.{row_at, seat_at, word_at, waits_at}
use Rattle.state.specs.Decoded.{place_in}
use Rattle.state.specs.Controls.{stop_of}
use Rattle.state.proofs.Decodes.{entry_is, place_is}
use Rattle.simulation.specs.Represents.{Represents}

-- what comes next is an initiating step, or a waiting half that can end
unfoldable pub can_go_on : Sheet → Job → (r i : ℕ) → Bool
can_go_on s x r i = not (in_waiting_half s x r) || half_ends s x i

-- of an operation that tells nothing: where what it waits for is complete
plain_ends : (s : Sheet) (x : Job) (i : ℕ) → tells (op s i) ≡ false → half_ends s x i ≡ half_complete s x i
unfolding half_ends tells
plain_ends s x i t =
    rw (or_false_left (tells_message (op s i)) (tells_completion (op s i)) t, or_false_right (tells_message (op s i)) (tells_completion (op s i)) t)

-- board r is there and unfinished, and operation i is its next
pub record Next (s : Sheet) (x : Job) (r i : ℕ) : Type 0 where
  pub there : r < P_of s
  pub unfinished : is_finished s x r ≡ false
  pub is_next : i ≡ next_op s x r

pub record RepresentedNext (bs c : List ℕ) (t : Control) (r i : ℕ) : Type 0 where
  pub lent : List ℕ
  pub job : Job
  pub represents : Represents bs lent c t job
  pub next : Next (sheet_in bs) job r i

pub next_of : (s : Sheet) (x : Job) (r i : ℕ) → r < P_of s → (place_at x r).finished < (board s r).count → i ≡ (board s r).first + (place_at x r).finished → Next s x r i
unfolding is_finished next_op
next_of s x r i l h e =
    record {
      there = l;
      unfinished = lt-leb (board s r).count (place_at x r).finished h;
      is_next = e;
    }

module _ (bs lent c : List ℕ) (t : Control) (x : Job) (d : Represents bs lent c t x) where
  abbrev s : Sheet
  s = sheet_in bs

  -- fields as they are read from scratch are the job's
  pub finished_is : (r : ℕ) → r < P_of s → (place_in c (seat_at r)).finished ≡ (place_at x r).finished
  finished_is r l = ap (λ (q : Place). q.finished) (place_is s c t x d.decodes r l)

  pub waiting_is : (r : ℕ) → r < P_of s → (place_in c (seat_at r)).waiting ≡ (place_at x r).waiting
  waiting_is r l = ap (λ (q : Place). q.waiting) (place_is s c t x d.decodes r l)

  pub state_is : (i : ℕ) → i < N_of s → (entry_in c (row_at i)).state ≡ (entry_at x i).state
  state_is i l = ap (λ (e : Entry). e.state) (entry_is s c t x d.decodes i l)

  -- the next operation of an unfinished board is one of the sheet
  pub next_below : (r i : ℕ) → Next s x r i → i < N_of s
  unfolding is_finished next_op
  next_below r i n =
      let f = leb-false (board s r).count (place_at x r).finished n.unfinished in
      let e = n.is_next in
      omega (arith, d.good.script_inside r n.there)

  -- who holds the slot that an operation names is one of the sheet
  pub wait_target : (i : ℕ) → names_slot (op s i) ≡ true → i < N_of s → two c (word_at waits_at i) < N_of s
  unfolding waited
  wait_target i w l = let b = waited_before s i i (two c (word_at waits_at i)) (d.decodes.indexed.wait_is i l w) in omega arith

  -- NOT ABLE: stopped, no such board, finished
  stops_so : is_none x.stop ≡ not (is_some t.stop)
  unfolding is_none
  stops_so = ap is_none d.decodes.stop_is ∙ go t.stop
    where
      go : (o : Option Stop) → is_none (stop_of o) ≡ not (is_some o)
      go None = refl
      go (Some p) = refl

  pub able_stopped : (r : ℕ) → is_some t.stop ≡ true → false ≡ able s x r
  unfolding able
  able_stopped r h = rw (stops_so, h)

  going_on : is_some t.stop ≡ false → is_none x.stop ≡ true
  going_on h = stops_so ∙ ap not h

  pub able_outside : (r : ℕ) → is_some t.stop ≡ false → P_of s ≤ r → false ≡ able s x r
  unfolding able
  able_outside r v h = rw (going_on v, le-ltb r (P_of s) h)

  pub able_finished : (r : ℕ) → is_some t.stop ≡ false → r < P_of s → (board s r).count ≤ (place_at x r).finished → false ≡ able s x r
  unfolding able is_finished
  able_finished r v l h = rw (going_on v, lt-ltb r (P_of s) l, le-leb (board s r).count (place_at x r).finished h)

  -- else what comes next decides
  pub able_next : (r : ℕ) → is_some t.stop ≡ false → r < P_of s → (place_at x r).finished < (board s r).count → can_go_on s x r (next_op s x r) ≡ able s x r
  unfolding able is_finished can_go_on
  able_next r v l h = rw (going_on v, lt-ltb r (P_of s) l, lt-leb (board s r).count (place_at x r).finished h)

  -- WHAT COMES NEXT
  module _ (r i : ℕ) (n : Next s x r i) where
    -- the half, from what was read
    pub half_read : (w h : Bool) → w ≡ (place_at x r).waiting → h ≡ only_half (op s i) → (w || h) ≡ in_waiting_half s x r
    unfolding in_waiting_half
    half_read w h e f =
        let o : only_half (op s i) ≡ only_half (op s (next_op s x r)) = ap (λ (k : ℕ). only_half (op s k)) n.is_next in
        cc

    pub next_initiating : in_waiting_half s x r ≡ false → true ≡ can_go_on s x r i
    unfolding can_go_on
    next_initiating h = rw h

    -- it tells
    pub next_telling : in_waiting_half s x r ≡ true → half_ends s x i ≡ can_go_on s x r i
    unfolding can_go_on
    next_telling h = rw h

    -- the operation whose slot it frees is complete
    pub next_freeing : in_waiting_half s x r ≡ true → tells (op s i) ≡ false → frees_slot (op s i) ≡ true →
        leb 2 (entry_in c (row_at (two c (word_at waits_at i)))).state ≡ can_go_on s x r i
    unfolding can_go_on half_complete complete_if complete
    next_freeing h t w =
        let j : ℕ = two c (word_at waits_at i) in
        let names = frees_names (op s i) w in
        let target : waited s i ≡ some j = d.decodes.indexed.wait_is i (next_below r i n) names in
        ap (λ (v : ℕ). leb 2 v) (state_is j (wait_target i names (next_below r i n))) ∙ rw (h, plain_ends s x i t, w, target)

    -- it is complete itself
    pub next_half : in_waiting_half s x r ≡ true → tells (op s i) ≡ false → frees_slot (op s i) ≡ false →
        leb 2 (entry_in c (row_at i)).state ≡ can_go_on s x r i
    unfolding can_go_on half_complete complete
    next_half h t w = ap (λ (v : ℕ). leb 2 v) (state_is i (next_below r i n)) ∙ rw (h, plain_ends s x i t, w)
