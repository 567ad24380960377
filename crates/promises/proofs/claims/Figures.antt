-- Figures along an order: what is in use is the sum of the charges pending, the peak is the most in use after any step so far,
-- and steps are counted.
--   in_use_reached     the statement InUse, of one job that keeps the invariant
--   kept_reached       the statement KeptInOne
--   step_peak          a step raises the peak to what is then in use
--   follow_peak        so the peak that an order leaves is the most of them
--   follow_steps       an accepted order has as many steps as ranks
-- Assumes nothing.
use Rattle.std.specs.Prelude.{◌≡◌, refl, ◌⊎◌, Bool, true, false, cond, List, [], ◌∷◌, ℕ, zero, suc, ◌+◌, ◌≤◌, ◌<◌, max, length, get_or}
use Rattle.std.proofs.Common.{sym, ap, subst, ◌∙◌, arith}
use Rattle.std.proofs.Math.Option.{some}
use Rattle.rules.specs.Sheet.{Sheet, op, board, P_of, N_of, rank_of, inbox_total, is_standard, is_buffered, only_half}
use Rattle.rules.specs.Job.{Job, Figures, Place, Store, first_place, account, in_use_at, peak_at, place_at}
use Rattle.rules.specs.Step.{able, step, is_none}
use Rattle.rules.specs.Order.{follow_from, followed}
use Rattle.laws.specs.Tests.{true_not_false}
use Rattle.promises.specs.Statements.{told_by, pending_charges, KeptByMode, most_in_use}
use Rattle.invariant.specs.sheet.Valid.{Valid}
use Rattle.invariant.specs.deliveries.Laws.{DeliveryLaws}
use Rattle.laws.specs.Sums.{sum_below}
use Rattle.invariant.specs.Invariant.{state_at, unmatched_state, Unmatched, charge_in, Reached}
use Rattle.invariant.specs.step.Places.{moved_peak}
use Rattle.promises.proofs.compare.AfterStep.{After, continues, stops_job, step_after, step_counted}
use Rattle.invariant.specs.preserve.Step.{step_sound}

-- IN USE
charges_summed : (w : Store) (s : Sheet) (x : Job) (r n : ℕ) → sum_below n (charge_in w s x r) ≡ pending_charges w n s (told_by s x) r
unfolding sum_below charge_in pending_charges told_by
charges_summed w s x r zero = refl
charges_summed w s x r (suc n) = ap (λ (k : ℕ). k + charge_in w s x r n) (charges_summed w s x r n)

pub in_use_reached : {s : Sheet} {i : List ℕ} {x : Job} → Reached s i x → (w : Store) (r : ℕ) → r < P_of s →
    in_use_at w x r ≡ pending_charges w (N_of s) s (told_by s x) r
in_use_reached {s} {i} {x} R w r l = R.in_use_sum w r l ∙ charges_summed w s x r (N_of s)

-- what is in state 2 is kept in one store
pub kept_reached : {s : Sheet} {i : List ℕ} {x : Job} → Reached s i x → (m : ℕ) → state_at x m ≡ 2 → KeptByMode s m
unfolding KeptByMode unmatched_state
kept_reached {s} {i} {x} R m two = go (only_half (op s m)) U.kept refl (sym U.is ∙ two)
  where
    U : Unmatched s m (state_at x m)
    U = R.shaped.unmatched m (omega (arith, two)) (λ e. omega (arith, two))

    go : (a k : Bool) → U.kept ≡ k → ◌≡◌ {A = ℕ} (cond a 5 (cond k 2 1)) 2 →
        (is_buffered (op s m) ≡ true) ⊎ ((is_standard (op s m) ≡ true) × (0 < (board s (rank_of s m)).room))
    go true k e h = absurd (omega arith)
    go false true e h = U.keeps.only e
    go false false e h = absurd (omega arith)

-- PEAKS
pub step_peak : {s : Sheet} (g : Valid s) {i : List ℕ} {x : Job} → Reached s i x → (q : ℕ) → able s x q ≡ true → (w : Store) (r : ℕ) →
    peak_at w (step s q x) r ≡ max (peak_at w x r) (in_use_at w (step s q x) r)
unfolding place_at
step_peak {s} g {i} {x} R q a w r = go (step_after g R q a)
  where
    go : After s x (step s q x) q → peak_at w (step s q x) r ≡ max (peak_at w x r) (in_use_at w (step s q x) r)
    go (continues e m) = moved_peak m w r
    go (stops_job t e same k) =
        subst (λ (ps : List Place). (account_in ps).peak ≡ max (peak_at w x r) (account_in ps).in_use) (sym same)
        (omega (arith, R.in_use_peak w r))
      where
        account_in : List Place → Figures
        account_in ps = account w (get_or ps r first_place)

pub follow_peak : {s : Sheet} (g : Valid s) → DeliveryLaws s → {i : List ℕ} → inbox_total s ≤ length i →
    (w : Store) (r k : ℕ) (rs : List ℕ) {x : Job} → Reached s i x →
    peak_at w (follow_from k s rs x).left r ≡ max (peak_at w x r) (most_in_use w s rs x r)
unfolding follow_from followed most_in_use
follow_peak g A room w r k [] R = omega arith
follow_peak {s} g A room w r k (q ∷ rs) {x} R =
    go (able s x q) refl (λ a. follow_peak g A room w r (suc k) rs (step_sound g A room R q a).reached)
  where
    y : Job
    y = step s q x

    go : (b : Bool) → able s x q ≡ b →
        (able s x q ≡ true → peak_at w (follow_from (suc k) s rs y).left r ≡ max (peak_at w y r) (most_in_use w s rs y r)) →
        peak_at w (cond b (follow_from (suc k) s rs y) (followed (some k) x)).left r ≡
        max (peak_at w x r) (cond b (max (in_use_at w y r) (most_in_use w s rs y r)) 0)
    go true e on = omega (arith, on e, step_peak g R q e w r)
    go false e on = omega arith

-- STEPS: every rank of an accepted order is a step
pub follow_steps : {s : Sheet} (g : Valid s) → DeliveryLaws s → {i : List ℕ} → inbox_total s ≤ length i →
    (k : ℕ) (rs : List ℕ) {x : Job} → Reached s i x → is_none (follow_from k s rs x).refused_at ≡ true →
    (follow_from k s rs x).left.steps ≡ x.steps + length rs
unfolding follow_from followed is_none
follow_steps g A room k [] R e = omega arith
follow_steps {s} g A room k (q ∷ rs) {x} R e =
    go (able s x q) refl e (λ a. follow_steps g A room (suc k) rs (step_sound g A room R q a).reached)
  where
    go : (b : Bool) → able s x q ≡ b →
        is_none (cond b (follow_from (suc k) s rs (step s q x)) (followed (some k) x)).refused_at ≡ true →
        (able s x q ≡ true → is_none (follow_from (suc k) s rs (step s q x)).refused_at ≡ true →
        (follow_from (suc k) s rs (step s q x)).left.steps ≡ (step s q x).steps + length rs) →
        (cond b (follow_from (suc k) s rs (step s q x)) (followed (some k) x)).left.steps ≡ x.steps + suc (length rs)
    go true a h on = omega (arith, on a h, step_counted g R q a)
    go false a h on = true_not_false h refl
