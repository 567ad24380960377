-- A store that covers the charges of all the messages that could be kept in it, were none matched, has room for the next one. The
-- charges in use on a board are of messages of its script that are entered, so together with the one that enters they come to at
-- most the charges of all of them.
--   covered_sum     these charges as a sum over operations
--   fits_covered    the next message fits
-- Assumes nothing.
use Rattle.std.specs.Prelude.{◌≡◌, ◌≢◌, Bool, true, false, ◌&&◌, cond, List, ℕ, zero, suc, ◌+◌, ◌-◌, ◌≤◌, ◌<◌, eqb}
use Rattle.std.proofs.Common.{sym, ◌∙◌, arith, le-leb, eq-eqb, ne_eqb}
use Rattle.std.proofs.Math.Path.{ap}
use Rattle.rules.specs.Sheet.{Sheet, op, board, P_of, N_of, rank_of}
use Rattle.rules.specs.Job.{Job, Store, in_use_at}
use Rattle.rules.specs.Step.{next_op, kept_in, size_of, charge_of, fits_beside}
use Rattle.rules.specs.Claims.{all_charges, script}
use Rattle.laws.specs.Calm.{Covered, charges_from, charges_none, charges_more}
use Rattle.laws.specs.Sums.{sum_below, sum_gap, sum_rest, sum_more, sum_zero}
use Rattle.invariant.specs.sheet.Valid.{Valid}
use Rattle.invariant.specs.Invariant.{state_at, charge_in, Reached}
use Rattle.invariant.specs.preserve.Charges.{charge_none}
use Rattle.invariant.specs.step.Places.{Next}

-- CHARGES of a script, as a sum over operations
-- what operation j would be charged in a store of board r, were it not matched
unfoldable covered : Store → Sheet → (r j : ℕ) → ℕ
covered w s r j = cond (eqb (rank_of s j) r && kept_in w (op s j)) (charge_of w (op s j)) 0

covered_other : (w : Store) (s : Sheet) (r j : ℕ) → rank_of s j ≢ r → covered w s r j ≡ 0
unfolding covered
covered_other w s r j d = ap (λ (b : Bool). cond (b && kept_in w (op s j)) (charge_of w (op s j)) 0) (ne_eqb (rank_of s j) r d)

covered_mine : (w : Store) (s : Sheet) (r j : ℕ) → rank_of s j ≡ r → covered w s r j ≡ cond (kept_in w (op s j)) (charge_of w (op s j)) 0
unfolding covered
covered_mine w s r j e = ap (λ (b : Bool). cond (b && kept_in w (op s j)) (charge_of w (op s j)) 0) (eq-eqb (rank_of s j) r e)

module _ (w : Store) (s : Sheet) (g : Valid s) (r : ℕ) (l : r < P_of s) where
  abbrev from : ℕ
  from = (board s r).first

  abbrev count : ℕ
  count = (board s r).count

  before_none : (j : ℕ) → j < from → covered w s r j ≡ 0
  before_none j h =
      covered_other w s r j (λ e. omega
      (arith, g.rank_low j (omega (arith, g.script_inside r l)), ap (λ (q : ℕ). (board s q).first) e))

  after_none : (j : ℕ) → from + count ≤ j → j < N_of s → covered w s r j ≡ 0
  after_none j h k =
      covered_other w s r j (λ e. omega (
        arith,
        g.rank_high j k,
        ap (λ (q : ℕ). (board s q).first) e,
        ap
            (λ (q : ℕ). (board s q).count) e,
      ))

  sum_from : (k : ℕ) → k ≤ count → sum_below (from + k) (covered w s r) ≡ charges_from w s from k
  sum_from zero h =
      ap (λ (z : ℕ). sum_below z (covered w s r)) (omega arith)
      ∙ (sum_zero from (covered w s r) before_none ∙ sym (charges_none w s from))
  sum_from (suc k) h =
      ap (λ (z : ℕ). sum_below z (covered w s r)) next ∙ sum_more (from + k) (covered w s r)
      ∙ omega (
        arith,
        sum_from k (omega arith),
        covered_mine w s r (from + k) mine,
        charges_more w s from k (omega (arith, g.script_inside r l)),
      )
    where
      next : from + suc k ≡ suc (from + k)
      next = omega arith

      mine : rank_of s (from + k) ≡ r
      mine = g.script_ranked r (from + k) l (omega arith) (omega arith)

  -- all charges of board r come to those of its script
  covered_sum : sum_below (N_of s) (covered w s r) ≡ all_charges w (script (board s r) s.ops)
  unfolding script
  covered_sum =
      ap (λ (z : ℕ). sum_below z (covered w s r)) split
      ∙ sum_rest (from + count) (N_of s - (from + count)) (covered w s r) (λ j a b. after_none j a (omega (arith, split)))
      ∙ sum_from count (omega arith)
    where
      split : N_of s ≡ from + count + (N_of s - (from + count))
      split = omega (arith, g.script_inside r l)

-- a pending charge is one of those
charge_most : (w : Store) (s : Sheet) (x : Job) (r j : ℕ) → charge_in w s x r j ≤ covered w s r j
unfolding charge_in covered
charge_most w s x r j = go (eqb (rank_of s j) r) (kept_in w (op s j)) (eqb (state_at x j) 2)
  where
    go : (a b c : Bool) → cond (a && (b && c)) (charge_of w (op s j)) 0 ≤ cond (a && b) (charge_of w (op s j)) 0
    go false b c = omega arith
    go true false c = omega arith
    go true true true = omega arith
    go true true false = omega arith

-- the next message of board r fits where its store covers all of them
pub fits_covered : (w : Store) {s : Sheet} (g : Valid s) {lent : List ℕ} {x : Job} (R : Reached s lent x) (r : ℕ) → Next s x r →
    state_at x (next_op s x r) ≡ 0 → kept_in w (op s (next_op s x r)) ≡ true → Covered w (board s r) s.ops →
    fits_beside w s r (next_op s x r) x ≡ true
unfolding fits_beside
fits_covered w {s} g {lent} {x} R r n fresh kept covers =
    le-leb (in_use_at w x r + charge_of w (op s i)) (size_of w (board s r))
    (omega (
      arith,
      sum_gap (N_of s) i (charge_of w (op s i)) (charge_in w s x r) (covered w s r) n.inside (λ j l. charge_most w s x r j)
          (omega (
            arith,
            charge_none w s x r i (λ e. omega (arith, fresh)),
            covered_mine w s r i n.ranked,
            ap
                (λ (z : Bool). cond z (charge_of w (op s i)) 0) kept,
          )),
      R.in_use_sum w r n.rank_small,
      covered_sum w s g r n.rank_small,
      covers,
    ))
  where
    i : ℕ
    i = next_op s x r
