-- The charges of a script to a store, added up operation by operation: what holds before operation i, one operation more, and what the whole
-- script comes to. Assumes nothing.
use Rattle.std.specs.Prelude.{◌≡◌, cond, ℕ, suc, ◌+◌, ◌-◌, ◌*◌, ◌<◌, ◌≤◌}
use Rattle.std.proofs.Common.{sym, ◌∙◌, arith}
use Rattle.std.proofs.Math.Path.{ap}
use Rattle.rules.specs.Sheet.{Sheet, op, board, P_of, N_of}
use Rattle.rules.specs.Job.{Store}
use Rattle.rules.specs.Step.{kept_in, charge_of}
use Rattle.rules.specs.Claims.{all_charges, script}
use Rattle.laws.specs.Calm.{charges_from, charges_none, charges_more}
use Rattle.laws.specs.Scripts.{script_inside}
use Rattle.laws.specs.Tabled.{Tabled}

-- before operation i of board r, whose script ends before `end`
pub record Summed (w : Store) (s : Sheet) (r i end sum : ℕ) : Type 0 where
  pub lower : (board s r).first ≤ i
  pub upper : i ≤ end
  pub end_is : end ≡ (board s r).first + (board s r).count
  pub inside : end ≤ N_of s
  pub sum_is : sum ≡ charges_from w s (board s r).first (i - (board s r).first)
  pub small : sum ≤ 131072 * (i - (board s r).first)

pub summed_none : {w : Store} {s : Sheet} {r i end : ℕ} → Tabled s → r < P_of s → i ≡ (board s r).first → end ≡ i + (board s r).count → Summed w s r i end 0
summed_none {w} {s} {r} {i} {end} t l a b =
    let none : i - (board s r).first ≡ 0 = omega arith in
    record {
      lower = omega arith;
      upper = omega arith;
      end_is = omega arith;
      inside = omega (arith, script_inside s t r l);
      sum_is = sym (ap (λ (k : ℕ). charges_from w s (board s r).first k) none ∙ charges_none w s (board s r).first);
      small = omega arith;
    }

module _ {w : Store} {s : Sheet} {r i end sum : ℕ} (q : Summed w s r i end sum) where
  -- one operation more, with what it would be charged
  pub summed_more : i < end → (v : ℕ) → v ≡ cond (kept_in w (op s i)) (charge_of w (op s i)) 0 → v < 131072
      → Summed w s r (i + 1) end (sum + v)
  summed_more l v e small =
      let from = (board s r).first in
      let here : from + (i - from) ≡ i = omega (arith, q.lower) in
      let next : i + 1 - from ≡ suc (i - from) = omega (arith, q.lower) in
      let more = charges_more w s from (i - from) (omega (arith, q.inside)) in
      let same = ap (λ (k : ℕ). cond (kept_in w (op s k)) (charge_of w (op s k)) 0) here in
      record {
        lower = omega (arith, q.lower);
        upper = omega arith;
        end_is = q.end_is;
        inside = q.inside;
        sum_is = omega (arith, q.sum_is, ap (λ (k : ℕ). charges_from w s from k) next);
        small = omega (arith, q.small, next);
      }

  -- behind the last operation of the script: all its charges
  pub summed_all : end ≤ i → sum ≡ all_charges w (script (board s r) s.ops)
  unfolding script
  summed_all l =
      let whole : i - (board s r).first ≡ (board s r).count = omega (arith, q.upper, q.end_is) in
      q.sum_is ∙ ap (λ (k : ℕ). charges_from w s (board s r).first k) whole
