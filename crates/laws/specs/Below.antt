-- Laws of `some_below`: a test holds of one of the numbers below a bound exactly when there is such a number.
-- Assumes nothing.
use Rattle.std.specs.Prelude.{◌≡◌, refl, Bool, true, false, ◌||◌, ℕ, zero, suc, ◌+◌, ◌<◌}
use Rattle.std.proofs.Common.{ap₂, subst, ⊎_elim, add-one, arith}
use Rattle.std.proofs.Math.Decide.{ℕ_discrete}
use Rattle.rules.specs.Refusal.{some_below}
use Rattle.laws.specs.Tests.{or_left, or_right, or_cases, same_test, not_so, true_not_false}

-- one number below the bound that passes
pub below_some : (i : ℕ) (f : ℕ → Bool) (j : ℕ) → j < i → f j ≡ true → some_below i f ≡ true
unfolding some_below
below_some zero f j h t = absurd (omega arith)
below_some (suc i) f j h t = go (λ l. below_some i f j l t) (ℕ_discrete j i)
  where
    go : (j < i → some_below i f ≡ true) → Dec (j ≡ i) → (f i || some_below i f) ≡ true
    go ih (yes e) = or_left (f i) (some_below i f) (subst (λ (n : ℕ). f n ≡ true) e t)
    go ih (no d) = or_right (f i) (some_below i f) (ih (omega arith))

-- and back: where the test holds below the bound, the number that passes
pub record Found (i : ℕ) (f : ℕ → Bool) : Type 0 where
  pub at : ℕ
  pub below : at < i
  pub passed : f at ≡ true

pub below_found : (i : ℕ) (f : ℕ → Bool) → some_below i f ≡ true → Found i f
unfolding some_below
below_found zero f h = true_not_false h refl
below_found (suc i) f h = ⊎_elim here (λ t. later (below_found i f t)) (or_cases (f i) (some_below i f) h)
  where
    here : f i ≡ true → Found (suc i) f
    here t =
        record {
          at = i;
          below = omega arith;
          passed = t;
        }

    later : Found i f → Found (suc i) f
    later r =
        record {
          at = r.at;
          below = omega arith;
          passed = r.passed;
        }

-- tests over two ranges agree where each number that passes in one has one that passes in the other
pub below_same : (i k : ℕ) (f g : ℕ → Bool) → ((j : ℕ) → j < i → f j ≡ true → Found k g) → ((j : ℕ) → j < k → g j ≡ true → Found i f) → some_below i f ≡ some_below k g
below_same i k f g to back =
    same_test (some_below i f) (some_below k g)
    (λ h. let r : Found i f = below_found i f h in let q : Found k g = to r.at r.below r.passed in below_some k g q.at q.below q.passed)
    (λ h. let r : Found k g = below_found k g h in let q : Found i f = back r.at r.below r.passed in below_some i f q.at q.below q.passed)

-- tests that agree below a bound
pub below_equal : (i : ℕ) (f g : ℕ → Bool) → ((j : ℕ) → j < i → f j ≡ g j) → some_below i f ≡ some_below i g
unfolding some_below
below_equal zero f g e = refl
below_equal (suc i) f g e = ap₂ (λ (a b : Bool). a || b) (e i (omega arith)) (below_equal i f g (λ j l. e j (omega arith)))

-- a test that fails at every number below a bound
pub below_none : (i : ℕ) (f : ℕ → Bool) → ((j : ℕ) → j < i → f j ≡ true → ⊥) → some_below i f ≡ false
below_none i f e = not_so (some_below i f) (λ h. let r : Found i f = below_found i f h in e r.at r.below r.passed)

-- one number more
pub below_more : (i : ℕ) (f : ℕ → Bool) → some_below (i + 1) f ≡ (f i || some_below i f)
unfolding some_below
below_more i f = rw (add-one i)
