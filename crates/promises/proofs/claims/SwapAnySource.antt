-- Two neighbouring able steps exchanged, on a sheet without queries and any-source probes whose rooms are 0 or cover (document 02,
-- K14): where neither step stops the job in either order and they are not two sends to one board and communicator whose script
-- has an any-source receive there, the exchange is harmless.
--   exchangeable_harmless, swap_any_source
-- Assumes nothing: the exchange itself is SwapGeneral's.
use Rattle.std.specs.Prelude.{◌≡◌, ◌⊎◌, ◌≢◌, Bool, true, false, ◌&&◌, not, List, ℕ, ◌≤◌, eqb, length}
use Rattle.std.proofs.Math.Path.{refl, ap}
use Rattle.std.proofs.Common.{sym, subst, ◌∙◌, inl, inr, arith, eq-eqb}
use Rattle.std.proofs.Math.Option.{none}
use Rattle.std.proofs.Math.Decide.{dec_le}
use Rattle.rules.specs.Sheet.{Sheet, Op, op, no_op, board, second_in, sheet_in, rank_of, inbox_total, is_send, is_receive, is_probe, is_query, tells_message, tells_completion}
use Rattle.rules.specs.Sheet.{selects, only_half}
use Rattle.rules.specs.Job.{Job, place_at}
use Rattle.rules.specs.Step.{able, step, next_op, in_waiting_half, fits_with}
use Rattle.rules.specs.Claims.{is_any_source, script, rooms_cover, left_by}
use Rattle.laws.specs.Calm.{rooms_all}
use Rattle.laws.specs.Decoded.{first_room}
use Rattle.laws.specs.Tests.{and_left, and_both, or_cases, or_false_left, true_not_false, decided, not_so}
use Rattle.promises.specs.Statements.{Lent}
use Rattle.promises.specs.ExchangeStatements.{TellsSame, KeepsSame, Harmless, none_of, is_any_receive, is_any_probe, no_query, no_any_probe, ExchangeSheet}
use Rattle.promises.specs.ExchangeStatements.{initiates_send, send_to_one, has_any_receive, may_race, GoesOn, Exchangeable, SameOutcome, SwapGeneral, SwapAnySource}
use Rattle.invariant.specs.sheet.Valid.{Valid}
use Rattle.invariant.specs.sheet.Extents.{receive_inside}
use Rattle.invariant.specs.sheet.Kinds.{fit_board, fit_comm}
use Rattle.invariant.specs.deliveries.Laws.{DeliveryLaws}
use Rattle.invariant.specs.deliveries.Commute.{delivery_laws}
use Rattle.invariant.specs.Invariant.{state_at, Reached}
use Rattle.invariant.specs.step.Places.{able_next, next_fresh}
use Rattle.invariant.specs.preserve.Step.{step_sound}
use Rattle.promises.proofs.compare.AfterStep.{position_next, moved_position_other}
use Rattle.promises.proofs.compare.CalmSheets.{covered_fits}
use Rattle.promises.proofs.compare.Exchange.{went_on, step_moved, swap_able}
use Rattle.promises.proofs.compare.ScriptTests.{none_at, script_none}
use Rattle.promises.proofs.claims.OneJob.{lent_valid, lent_reached}
use Rattle.promises.proofs.claims.SwapGeneral.{swap_general}

-- QUERIES: there are none
never_queried : (s : Sheet) → no_query s ≡ true → (k : ℕ) → tells_completion (op s k) ≡ false
unfolding no_query op tells_completion is_query no_op
never_queried s h k = none_at tells_completion s.ops k h refl

-- RACES: an operation from any source is a receive, in the script of the board and on the communicator of whatever fits it
any_source_receive : (s : Sheet) → no_any_probe s ≡ true → (k : ℕ) → is_any_source (op s k) ≡ true → is_any_receive (op s k) ≡ true
unfolding no_any_probe is_any_probe is_any_receive is_any_source selects op tells_message is_probe no_op
any_source_receive s h k wild = go (or_cases (is_receive (op s k)) (tells_message (op s k)) (and_left (selects (op s k)) _ wild))
  where
    go : (is_receive (op s k) ≡ true) ⊎ (tells_message (op s k) ≡ true) → is_receive (op s k) && is_any_source (op s k) ≡ true
    go (inl e) = and_both e wild
    go (inr e) = true_not_false (and_both e wild) (none_at is_any_probe s.ops k h refl)

fitting_any_receive : (s : Sheet) → Valid s → (m r : ℕ) → is_any_receive (op s r) ≡ true → fits_with s m r ≡ true →
    has_any_receive s (op s m).peer (op s m).comm ≡ true
unfolding has_any_receive is_any_receive is_receive no_op
fitting_any_receive s g m r wild fit =
    subst (λ (z : ℕ). not (none_of there (script (board s z) s.ops)) ≡ true) (sym (fit_board s m r fit))
    (ap not (not_so (none_of there (script (board s (rank_of s r)) s.ops)) (λ h. true_not_false
    (and_both wild (eq-eqb (op s r).comm (op s m).comm (sym (fit_comm s m r fit))))
    (script_none there s g r (receive_inside s r (and_left (is_receive (op s r)) (is_any_source (op s r)) wild)) h refl))))
  where
    there : Op → Bool
    there o = is_any_receive o && eqb o.comm (op s m).comm

sends_race : (s : Sheet) → Valid s → no_any_probe s ≡ true → (x : Job) (p q r : ℕ) → in_waiting_half s x p ≡ false →
    in_waiting_half s x q ≡ false → is_send (op s (next_op s x p)) ≡ true → is_send (op s (next_op s x q)) ≡ true →
    is_any_source (op s r) ≡ true → fits_with s (next_op s x p) r ≡ true → fits_with s (next_op s x q) r ≡ true →
    may_race s x p q ≡ true
unfolding may_race send_to_one initiates_send
sends_race s g h x p q r half_p half_q send_p send_q wild fit_p fit_q =
    and_both
    (and_both (and_both (and_both (ap not half_p) send_p) (and_both (ap not half_q) send_q))
    (and_both (eq-eqb (op s m).peer (op s n).peer (fit_board s m r fit_p ∙ sym (fit_board s n r fit_q)))
    (eq-eqb (op s m).comm (op s n).comm (fit_comm s m r fit_p ∙ sym (fit_comm s n r fit_q)))))
    (fitting_any_receive s g m r (any_source_receive s h r wild) fit_p)
  where
    m : ℕ
    m = next_op s x p

    n : ℕ
    n = next_op s x q

-- ROOMS: whether board j's next standard send fits its room is the same after board k's step
module _ {s : Sheet} (g : Valid s) (A : DeliveryLaws s) {i : List ℕ} (room : inbox_total s ≤ length i) {x : Job} (X : Reached s i x)
    (rooms : rooms_cover s ≡ true) where
  not_entered : {v u : ℕ} → Dec (1 ≤ v) → (1 ≤ v → 1 ≤ u) → u ≡ 0 → v ≡ 0
  not_entered (yes l) f z = absurd (omega (arith, f l, z))
  not_entered (no d) f z = omega arith

  covered_keeps : (j k : ℕ) → j ≢ k → able s x j ≡ true → able s x k ≡ true → (step s k x).stop ≡ none → KeepsSame s x j k
  unfolding KeepsSame in_waiting_half
  covered_keeps j k e a b going half t =
      let F = step_sound g A room X k b in
      let n = able_next s g x j a in
      let next : next_op s x j ≡ next_op s (step s k x) j =
      position_next s x (step s k x) j (sym (moved_position_other (step_moved g A room X k b going) j e)) in
      let fresh = next_fresh s x j X.placed n (or_false_left (place_at x j).waiting (only_half (op s (next_op s x j))) half) in
      let m = able_next s g (step s k x) j (swap_able g A room X k b going j e a) in
      covered_fits g rooms F.reached X j (next_op s x j) m n next refl
      (not_entered (dec_le 1 (state_at (step s k x) (next_op s x j))) (λ there. F.back (next_op s x j)
      (λ f. e (sym n.ranked ∙ ap (λ (z : ℕ). rank_of s z) f ∙ (able_next s g x k b).ranked)) there) fresh)
      fresh t

-- THE SHEET's rooms, in either edition: in the first all are 0
sheet_rooms : (bs : List ℕ) → ExchangeSheet bs → rooms_cover (sheet_in bs) ≡ true
sheet_rooms bs S = go (decided (second_in bs))
  where
    go : (second_in bs ≡ true) ⊎ (second_in bs ≡ false) → rooms_cover (sheet_in bs) ≡ true
    go (inl e) = S.rooms e
    go (inr e) = rooms_all (sheet_in bs) (λ r l. inl (first_room bs e r l))

-- THE LAWS
exchangeable_harmless : {bs i : List ℕ} (h : Lent bs i) (before : List ℕ) (p q : ℕ) → ExchangeSheet bs →
    Exchangeable (sheet_in bs) (left_by (sheet_in bs) before i) p q → Harmless (sheet_in bs) (left_by (sheet_in bs) before i) p q
unfolding TellsSame GoesOn
exchangeable_harmless {bs} {i} h before p q S E =
    record {
      goes_on = E.goes_on.0;
      goes_on_swapped = E.goes_on.1;
      no_race = λ r half_p half_q send_p send_q wild fit_p fit_q. true_not_false
          (sends_race s g S.no_any_probes x p q r half_p half_q send_p send_q wild fit_p fit_q) E.no_race;
      tells_same = λ t. true_not_false t (never_queried s S.no_queries (next_op s x p));
      tells_same_swapped = λ t. true_not_false t (never_queried s S.no_queries (next_op s x q));
      keeps_same = keeps p q E.differ E.able_one E.able_other (went_on g X q p E.able_other E.goes_on.1);
      keeps_same_swapped =
          keeps q p (λ e. E.differ (sym e)) E.able_other E.able_one (went_on g X p q E.able_one E.goes_on.0);
    }
  where
    s : Sheet
    s = sheet_in bs

    x : Job
    x = left_by s before i

    g : Valid s
    g = lent_valid h

    X : Reached s i x
    X = lent_reached h before

    keeps : (j k : ℕ) → j ≢ k → able s x j ≡ true → able s x k ≡ true → (step s k x).stop ≡ none → KeepsSame s x j k
    keeps = covered_keeps g (delivery_laws s g) h.room X (sheet_rooms bs S)

pub swap_any_source : SwapAnySource
unfolding SwapAnySource SwapGeneral SameOutcome
swap_any_source bs i before after p q h S accepted E =
    swap_general bs i before after p q h accepted E.differ E.able_one E.able_other (exchangeable_harmless h before p q S E)
