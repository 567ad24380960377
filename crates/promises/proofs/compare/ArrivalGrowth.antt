-- The order of arrival along several steps: what was entered keeps its place, and what enters comes after it. So two jobs
-- that grew from jobs with one order of arrival have one order, unless they differ among what entered since.
--   ArrivalsGrew          x grew to y
--   arrivals_none          by no step; arrivals_step: by one step; arrivals_trans: and by one after another
--   arrivals_same_order    the order of arrival in x is that in y
--   arrivals_order         the law
-- Assumes nothing.
use Rattle.std.specs.Prelude.{◌≡◌, refl, ◌≢◌, true, List, ℕ, ◌<◌}
use Rattle.std.proofs.Common.{ap, ◌∙◌, arith}
use Rattle.std.proofs.Math.Decide.{ℕ_discrete, dec_le}
use Rattle.rules.specs.Sheet.{Sheet, op, is_send, selects}
use Rattle.rules.specs.Job.{Job}
use Rattle.rules.specs.Step.{fits_with}
use Rattle.invariant.specs.Invariant.{Entered, state_at, Reached, Extended}
use Rattle.invariant.specs.matching.Monotone.{SameOrder}
use Rattle.invariant.specs.matching.RowChanges.{state_name}

-- y is x some steps later: what was entered in x arrived in y when it did, and before all else
pub record ArrivalsGrew {s : Sheet} {i : List ℕ} {x y : Job} (X : Reached s i x) (Y : Reached s i y) : Type 0 where
  pub on : (j : ℕ) → Entered x j → Entered y j
  pub old : (j : ℕ) → Entered x j → Y.arrival j ≡ X.arrival j
  pub new : (k m : ℕ) → Entered x k → Entered y m → (Entered x m → ⊥) → Y.arrival k < Y.arrival m

pub arrivals_none : {s : Sheet} {i : List ℕ} {x : Job} (X : Reached s i x) → ArrivalsGrew X X
arrivals_none X =
    record {
      on = λ j h. h;
      old = λ j h. refl;
      new = λ k m h there out. absurd (out there);
    }

pub arrivals_step : {s : Sheet} {i : List ℕ} {x y : Job} {X : Reached s i x} {n : ℕ} (E : Extended X y n) → ArrivalsGrew X E.reached
arrivals_step {s} {i} {x} {y} {X} {n} E =
    record {
      on = E.on;
      old = E.old;
      new = λ k m h there out. new k m h there out (ℕ_discrete m n);
    }
  where
    new : (k m : ℕ) → Entered x k → Entered y m → (Entered x m → ⊥) → Dec (m ≡ n) → E.reached.arrival k < E.reached.arrival m
    new k m h there out (no d) = absurd (out (E.back m d there))
    new k m h there out (yes e) =
        let late = E.new (omega (arith, state_name y e)) (λ a. out (omega (arith, state_name x e))) k h in
        omega (arith, late, ap (λ (z : ℕ). E.reached.arrival z) e)

pub arrivals_trans : {s : Sheet} {i : List ℕ} {x y z : Job} {X : Reached s i x} {Y : Reached s i y} {Z : Reached s i z} → ArrivalsGrew X Y →
    ArrivalsGrew Y Z → ArrivalsGrew X Z
arrivals_trans {s} {i} {x} {y} {z} {X} {Y} {Z} a b =
    record {
      on = λ j h. b.on j (a.on j h);
      old = λ j h. b.old j (a.on j h) ∙ a.old j h;
      new = λ k m h there out. new k m h there out (dec_le 1 (state_at y m));
    }
  where
    new : (k m : ℕ) → Entered x k → Entered z m → (Entered x m → ⊥) → Dec (Entered y m) → Z.arrival k < Z.arrival m
    new k m h there out (yes e) = omega (arith, a.new k m h e out, b.old k (a.on k h), b.old m e)
    new k m h there out (no d) = b.new k m (a.on k h) there d

-- so the order of arrival in x is that in y
pub arrivals_same_order : {s : Sheet} {i : List ℕ} {x y : Job} {X : Reached s i x} {Y : Reached s i y} → ArrivalsGrew X Y →
    SameOrder s X.arrival x Y.arrival y
arrivals_same_order {s} {i} {x} {y} {X} {Y} a k m r sk sm rr fk fm hm hk l = go (dec_le 1 (state_at x k))
  where
    go : Dec (Entered x k) → Entered x k × (X.arrival k < X.arrival m)
    go (yes h) = (h, omega (arith, l, a.old k h, a.old m hm))
    go (no out) = absurd (omega (arith, l, a.new m k hm hk out))

-- x grew to x_now and y to y_now, and x and y have the same entered, in the same order
module _ {s : Sheet} {i j : List ℕ} {x y x_now y_now : Job} {X : Reached s i x} {Y : Reached s j y} {X_now : Reached s i x_now}
    {Y_now : Reached s j y_now}
    (a : ArrivalsGrew X X_now) (b : ArrivalsGrew Y Y_now) where
  pub arrivals_order : ((k : ℕ) → Entered x k → Entered y k) → ((k : ℕ) → Entered y k → Entered x k) →
      ((k : ℕ) → Entered y_now k → Entered x_now k) →
      SameOrder s X.arrival x Y.arrival y →
      ((k m r : ℕ) → is_send (op s k) ≡ true → is_send (op s m) ≡ true → selects (op s r) ≡ true → fits_with s k r ≡ true →
      fits_with s m r ≡ true →
      Entered y_now k → Entered x_now m → (Entered x k → ⊥) → (Entered x m → ⊥) → k ≢ m → ⊥) →
      SameOrder s X_now.arrival x_now Y_now.arrival y_now
  arrivals_order on back back_now order no_race k m r sk sm rr fk fm there_m there_k l =
      (back_now k there_k, go (dec_le 1 (state_at x k)) (dec_le 1 (state_at x m)))
    where
      go : Dec (Entered x k) → Dec (Entered x m) → X_now.arrival k < X_now.arrival m
      go (yes hk) (yes hm) =
          let was = order k m r sk sm rr fk fm hm (on k hk) (omega (arith, l, b.old k (on k hk), b.old m (on m hm))) in
          omega (arith, was.1, a.old k hk, a.old m hm)
      go (yes hk) (no out) = a.new k m hk there_m out
      go (no out) (yes hm) = absurd (omega (arith, l, b.new m k (on m hm) there_k (λ h. out (back k h))))
      go (no out) (no gone) =
          absurd (no_race k m r sk sm rr fk fm there_k there_m out gone
          (λ e. omega (arith, l, ap (λ (z : ℕ). Y_now.arrival z) e)))
