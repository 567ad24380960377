-- Of either store, in use is the sum of the pending charges, after a step as before.
--   charge_none       an operation that is not in state 2 has no charge
--   charging_other    no operation's charge changed
--   charging_enters   a send entered; charging_matches: a message was matched
-- Assumes nothing.
use Rattle.std.specs.Prelude.{◌≡◌, refl, ◌≢◌, Bool, true, false, ◌&&◌, cond, ℕ, ◌+◌, ◌-◌, ◌<◌, eqb}
use Rattle.std.proofs.Common.{sym, ap, ap₂, ◌∙◌, arith, eq-eqb, ne_eqb, eqb-true}
use Rattle.std.proofs.Math.Decide.{ℕ_discrete}
use Rattle.rules.specs.Sheet.{Sheet, op, N_of, rank_of, is_send}
use Rattle.rules.specs.Job.{Job, Store}
use Rattle.rules.specs.Step.{kept_in, charge_of}
use Rattle.laws.specs.Tests.{true_not_false}
use Rattle.laws.specs.Sums.{sum_below, sum_same, sum_change}
use Rattle.invariant.specs.Invariant.{state_at, unmatched_state, charge_in, Shaped}
use Rattle.invariant.specs.matching.UnmatchedState.{unmatched_send, unmatched_receive}
use Rattle.invariant.specs.matching.RowChanges.{Enters, Matches, state_same, state_name, matches_message_state, matches_receive_state}
use Rattle.invariant.specs.step.BufferUse.{use_charged, use_released}

-- the charge of an operation in a store of board r, by the three tests
charge_by : (w : Store) (s : Sheet) (x : Job) (r j : ℕ) (a b c : Bool) → eqb (rank_of s j) r ≡ a → kept_in w (op s j) ≡ b →
    eqb (state_at x j) 2 ≡ c → charge_in w s x r j ≡ cond (a && (b && c)) (charge_of w (op s j)) 0
unfolding charge_in
charge_by w s x r j a b c ea eb ec =
    ap (λ (z : Bool). cond (z && (kept_in w (op s j) && eqb (state_at x j) 2)) (charge_of w (op s j)) 0) ea
    ∙ ap₂ (λ (y z : Bool). cond (a && (y && z)) (charge_of w (op s j)) 0) eb ec

pub charge_none : (w : Store) (s : Sheet) (x : Job) (r j : ℕ) → state_at x j ≢ 2 → charge_in w s x r j ≡ 0
charge_none w s x r j d =
    charge_by w s x r j (eqb (rank_of s j) r) (kept_in w (op s j)) false refl refl (ne_eqb (state_at x j) 2 d)
    ∙ go (eqb (rank_of s j) r) (kept_in w (op s j))
  where
    go : (a b : Bool) → cond (a && (b && false)) (charge_of w (op s j)) 0 ≡ 0
    go true true = refl
    go true false = refl
    go false b = refl

-- a charge goes by the state
pub charge_same : (w : Store) (s : Sheet) (x y : Job) (r j : ℕ) → state_at y j ≡ state_at x j → charge_in w s x r j ≡ charge_in w s y r j
unfolding charge_in
charge_same w s x y r j e =
    ap (λ (v : ℕ). cond (eqb (rank_of s j) r && (kept_in w (op s j) && eqb v 2)) (charge_of w (op s j)) 0) (sym e)

-- an operation that is not kept in a store entered, or none did
pub charging_other : (w : Store) (s : Sheet) {x y : Job} {i v : ℕ} → Enters x y i v → v ≢ 2 → (r : ℕ) →
    sum_below (N_of s) (charge_in w s x r) ≡ sum_below (N_of s) (charge_in w s y r)
charging_other w s {x} {y} {i} {v} E d r =
    sum_same (N_of s) (charge_in w s x r) (charge_in w s y r) (λ j l. at j (ℕ_discrete j i))
  where
    at : (j : ℕ) → Dec (j ≡ i) → charge_in w s x r j ≡ charge_in w s y r j
    at j (yes e) =
        charge_none w s x r j (λ c. omega (arith, E.fresh, state_name x e))
        ∙ sym (charge_none w s y r j (λ c. d (sym E.state ∙ state_name y (sym e) ∙ c)))
    at j (no c) = charge_same w s x y r j (state_same (E.other j c))

-- two ranks compared the other way round
rank_turned : (a q r : ℕ) → a ≡ r → (b : Bool) → eqb q r ≡ b → eqb a q ≡ b
rank_turned a q r mine true c = eq-eqb a q (mine ∙ sym (eqb-true q r c))
rank_turned a q r mine false c = ne_eqb a q (λ k. true_not_false (eq-eqb q r (sym k ∙ mine)) c)

-- a send of board r entered, kept in a store or not: n is in use of store w before, q any board
pub charging_enters : (w : Store) (s : Sheet) {x y : Job} {i : ℕ} (k : Bool) (r q n : ℕ) → Enters x y i (unmatched_state k (op s i)) →
    i < N_of s → rank_of s i ≡ r → is_send (op s i) ≡ true →
    n ≡ sum_below (N_of s) (charge_in w s x q) → use_charged s r i k w q n ≡ sum_below (N_of s) (charge_in w s y q)
unfolding use_charged
charging_enters w s {x} {y} {i} k r q n E l mine e answers =
    go (eqb q r && (kept_in w (op s i) && k))
    (sum_change (N_of s) i (charge_in w s x q) (charge_in w s y q) l (λ j h d. charge_same w s x y q j (state_same (E.other j d))))
    (charge_none w s x q i (λ c. omega (arith, E.fresh)))
    (charge_by w s y q i (eqb q r) (kept_in w (op s i)) k (rank_turned (rank_of s i) q r mine (eqb q r) refl) refl
    (ap (λ (v : ℕ). eqb v 2) (E.state ∙ unmatched_send s i k e) ∙ two k))
  where
    two : (b : Bool) → eqb (cond b 2 1) 2 ≡ b
    two true = refl
    two false = refl

    go : (b : Bool) →
        sum_below (N_of s) (charge_in w s x q) + charge_in w s y q i ≡ sum_below (N_of s) (charge_in w s y q) + charge_in w s x q i →
        charge_in w s x q i ≡ 0 → charge_in w s y q i ≡ cond b (charge_of w (op s i)) 0 →
        cond b (n + charge_of w (op s i)) n ≡ sum_below (N_of s) (charge_in w s y q)
    go true sums none_before now = omega (arith, sums, none_before, now, answers)
    go false sums none_before now = omega (arith, sums, none_before, now, answers)

-- message m was matched with receive r, which has no charge
pub charging_matches : (w : Store) {s : Sheet} {x y : Job} {m r i : ℕ} (q n : ℕ) → Matches s x y m r i → Shaped s x → m < N_of s →
    n ≡ sum_below (N_of s) (charge_in w s x q) → use_released s x m w q n ≡ sum_below (N_of s) (charge_in w s y q)
unfolding use_released
charging_matches w {s} {x} {y} {m} {r} {i} q n M h l answers =
    go (eqb q (rank_of s m) && (kept_in w (op s m) && eqb (state_at x m) 2))
    (sum_change (N_of s) m (charge_in w s x q) (charge_in w s y q) l (λ j k d. at j d (ℕ_discrete j r)))
    (charge_none w s y q m (λ c. omega (arith, matches_message_state M)))
    (charge_by w s x q m (eqb q (rank_of s m)) (kept_in w (op s m)) (eqb (state_at x m) 2)
    (rank_turned (rank_of s m) q (rank_of s m) refl (eqb q (rank_of s m)) refl) refl refl)
  where
    -- a receive is in state 0 or 1 before its match
    receive_uncharged : state_at x r ≢ 2
    receive_uncharged c = omega (arith, c, unmatched_receive s r M.receives (h.unmatched r (omega arith) M.receive_free))

    at : (j : ℕ) → j ≢ m → Dec (j ≡ r) → charge_in w s x q j ≡ charge_in w s y q j
    at j d (yes e) =
        charge_none w s x q j (λ c. receive_uncharged (state_name x (sym e) ∙ c))
        ∙ sym (charge_none w s y q j (λ c. omega (arith, state_name y e, matches_receive_state M)))
    at j d (no c) = charge_same w s x y q j (state_same (M.other j d c))

    go : (b : Bool) →
        sum_below (N_of s) (charge_in w s x q) + charge_in w s y q m ≡ sum_below (N_of s) (charge_in w s y q) + charge_in w s x q m →
        charge_in w s y q m ≡ 0 → charge_in w s x q m ≡ cond b (charge_of w (op s m)) 0 →
        cond b (n - charge_of w (op s m)) n ≡ sum_below (N_of s) (charge_in w s y q)
    go true sums none_now was = omega (arith, sums, none_now, was, answers)
    go false sums none_now was = omega (arith, sums, none_now, was, answers)
