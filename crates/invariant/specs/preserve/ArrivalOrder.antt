-- The order of arrival after a step: the operation that enters is last.
--   arrival_with      the order of arrival with one operation more; arrival_same, arrival_other
--   arrives_later     the operation that enters came after all that were entered
--   arrived_step      a step keeps `Arrived`
-- Assumes nothing.
use Rattle.std.specs.Prelude.{◌≡◌, refl, ◌≢◌, Bool, true, cond, ℕ, suc, ◌<◌, eqb}
use Rattle.std.proofs.Common.{sym, ap, ◌∙◌, arith, eq-eqb, ne_eqb}
use Rattle.std.proofs.Math.Decide.{ℕ_discrete}
use Rattle.rules.specs.Sheet.{Sheet, op, rank_of, is_send}
use Rattle.rules.specs.Job.{Job}
use Rattle.invariant.specs.Invariant.{Entered, Arrived, Placed}
use Rattle.invariant.specs.matching.RowChanges.{Grows, state_name}
use Rattle.invariant.specs.matching.Stable.{Later}
use Rattle.invariant.specs.preserve.Places.{prefix}

-- `arrival`, with i at the step that now is
unfoldable pub arrival_with : (ℕ → ℕ) → (i now j : ℕ) → ℕ
arrival_with arrival i now j = cond (eqb j i) now (arrival j)

pub arrival_same : (arrival : ℕ → ℕ) (i now : ℕ) → arrival_with arrival i now i ≡ now
unfolding arrival_with
arrival_same arrival i now = ap (λ (b : Bool). cond b now (arrival i)) (eq-eqb i i refl)

pub arrival_other : (arrival : ℕ → ℕ) (i now j : ℕ) → j ≢ i → arrival_with arrival i now j ≡ arrival j
unfolding arrival_with
arrival_other arrival i now j d = ap (λ (b : Bool). cond b now (arrival j)) (ne_eqb j i d)

module _ {s : Sheet} {x y : Job} {i : ℕ} {arrival : ℕ → ℕ} (A : Arrived s arrival x) (G : Grows x y i) where
  abbrev now : ℕ → ℕ
  now = arrival_with arrival i x.steps

  differ : (j : ℕ) → Entered x j → j ≢ i
  differ j h e = omega (arith, G.fresh, state_name x e)

  pub arrives_later : Later arrival now x i
  arrives_later =
      record {
        old = arrival_other arrival i x.steps;
        new = λ j h. omega (arith, A.past j h, arrival_same arrival i x.steps, arrival_other arrival i x.steps j (differ j h));
      }

  -- a step keeps the order of arrival right
  pub arrived_step : Placed s x → y.steps ≡ suc x.steps → Arrived s now y
  arrived_step p more =
      record {
        past = λ m h. past m h (ℕ_discrete m i);
        apart = λ k m a b hk hm e. apart k m a b hk hm e (ℕ_discrete k i) (ℕ_discrete m i);
        in_script = λ k m a b hk hm same l. script k m a b hk hm same l (ℕ_discrete k i) (ℕ_discrete m i);
      }
    where
      old : (j : ℕ) → j ≢ i → now j ≡ arrival j
      old = arrival_other arrival i x.steps

      past : (m : ℕ) → Entered y m → Dec (m ≡ i) → now m < y.steps
      past m h (yes e) = omega (arith, more, ap now e, arrival_same arrival i x.steps)
      past m h (no d) = omega (arith, more, old m d, A.past m (G.back m d h))

      apart : (k m : ℕ) → is_send (op s k) ≡ true → is_send (op s m) ≡ true → Entered y k → Entered y m → now k ≡ now m →
          Dec (k ≡ i) → Dec (m ≡ i) → k ≡ m
      apart k m a b hk hm e (yes c) (yes d) = c ∙ sym d
      apart k m a b hk hm e (yes c) (no d) = absurd (omega (arith, arrives_later.new m (G.back m d hm), ap now c))
      apart k m a b hk hm e (no c) (yes d) = absurd (omega (arith, arrives_later.new k (G.back k c hk), ap now d))
      apart k m a b hk hm e (no c) (no d) = A.apart k m a b (G.back k c hk) (G.back m d hm) (sym (old k c) ∙ e ∙ old m d)

      script : (k m : ℕ) → is_send (op s k) ≡ true → is_send (op s m) ≡ true → Entered y k → Entered y m →
          rank_of s k ≡ rank_of s m → k < m →
          Dec (k ≡ i) → Dec (m ≡ i) → now k < now m
      script k m a b hk hm same l (yes c) (yes d) = absurd (omega arith)
      script k m a b hk hm same l (yes c) (no d) = absurd (differ k (prefix s x p k m (G.back m d hm) l same) c)
      script k m a b hk hm same l (no c) (yes d) = omega (arith, arrives_later.new k (G.back k c hk), ap now d)
      script k m a b hk hm same l (no c) (no d) =
          omega (arith, old k c, old m d, A.in_script k m a b (G.back k c hk) (G.back m d hm) same l)
