-- Laws of `or_else` and `first_broken`: what a search from the front may forget, and what it answers when it stops. A search's invariant is
-- that the answer over the whole range is the answer over what is left. Assumes nothing.
use Rattle.std.specs.Prelude.{◌≡◌, ◌≢◌, Bool, not, cond, eqb}
use Rattle.std.proofs.Math.Path.{refl, subst}
use Rattle.std.proofs.Common.{sym, ◌∙◌, ap, zero-add, suc-add, eq-eqb, ne_eqb}
use Rattle.std.proofs.Math.Bool.{true, false}
use Prim.Native.Nat.{ℕ, zero, suc, ◌+◌, ◌<◌, ◌≤◌, ◌-◌}
use native.Mathlib.Omega.{arith}
use Rattle.std.proofs.Math.Decide.{ℕ_discrete}
use Rattle.std.proofs.Math.Nat.{add-zero}
use Rattle.std.proofs.lemmas.Bool.{not-true, not-false}
use Rattle.rules.specs.Refusal.{Refusal, refusal, accepted, or_else, first_broken}
use Rattle.laws.specs.Tests.{cond_true, cond_false}

-- CHAINS: a refusal that accepts is passed over, another is the answer
pub or_else_passed : (a b : Refusal) → a.number ≡ 0 → or_else a b ≡ b
unfolding or_else
or_else_passed a b h = cond_true (eqb a.number 0) b a (eq-eqb a.number 0 h)

pub or_else_stopped : (a b : Refusal) → (a.number ≡ 0 → ⊥) → or_else a b ≡ a
unfolding or_else
or_else_stopped a b h = cond_false (eqb a.number 0) b a (ne_eqb a.number 0 h)

-- a chain gives no number that neither part gives
pub or_else_not : (m : ℕ) (a b : Refusal) → a.number ≢ m → b.number ≢ m → (or_else a b).number ≢ m
or_else_not m a b p q e = go (ℕ_discrete a.number 0)
  where
    go : Dec (a.number ≡ 0) → ⊥
    go (yes z) = q (sym (ap (λ (f : Refusal). f.number) (or_else_passed a b z)) ∙ e)
    go (no h) = p (sym (ap (λ (f : Refusal). f.number) (or_else_stopped a b h)) ∙ e)

-- TESTS that code makes by `if !good`, where `good` is a rule's answer
pub rule_kept : {good rule : Bool} → good ≡ rule → not good ≡ false → rule ≡ true
rule_kept {good} {rule} e h = sym e ∙ not-false good h

pub rule_broken : {good rule : Bool} → good ≡ rule → not good ≡ true → rule ≡ false
rule_broken {good} {rule} e h = sym e ∙ not-true good h

-- SEARCHES
module _ (n : ℕ) (f : ℕ → Bool) where
  -- the test passes: the search goes on behind it
  pub broken_more : (left i : ℕ) → 0 < left → f i ≡ true → first_broken n f left i ≡ first_broken n f (left - 1) (i + 1)
  unfolding first_broken
  broken_more zero i h t = absurd (omega arith)
  broken_more (suc k) i h t =
      let a : suc k - 1 ≡ k = omega arith in
      let b : i + 1 ≡ suc i = omega arith in
      rw (a, b) (cond_true (f i) (first_broken n f k (suc i)) (refusal n i) t)

  -- the test fails: this is the place
  pub broken_here : (left i : ℕ) → 0 < left → f i ≡ false → first_broken n f left i ≡ refusal n i
  unfolding first_broken
  broken_here zero i h t = absurd (omega arith)
  broken_here (suc k) i h t = cond_false (f i) (first_broken n f k (suc i)) (refusal n i) t

  -- nothing left
  pub broken_none : (left i : ℕ) → left ≡ 0 → first_broken n f left i ≡ accepted
  unfolding first_broken
  broken_none zero i h = refl
  broken_none (suc k) i h = absurd (omega arith)

  -- a search gives its own number, or 0
  pub broken_not : (m : ℕ) → n ≢ m → 0 ≢ m → (left i : ℕ) → (first_broken n f left i).number ≢ m
  unfolding first_broken refusal
  broken_not m h z zero i = z
  broken_not m h z (suc k) i = go (f i) (broken_not m h z k (suc i))
    where
      go : (t : Bool) → (first_broken n f k (suc i)).number ≢ m → (cond t (first_broken n f k (suc i)) (refusal n i)).number ≢ m
      go true q = q
      go false q = h

  -- a range in two parts: the first part's refusal, else the second's
  pub broken_parts : (a b i : ℕ) → (n ≡ 0 → ⊥) → first_broken n f (a + b) i ≡ or_else (first_broken n f a i) (first_broken n f b (i + a))
  unfolding first_broken or_else refusal
  broken_parts zero b i h = rw (zero-add b, add-zero i)
  broken_parts (suc a) b i h = rw (suc-add a b) (go (broken_parts a b (suc i) h) (f i) refl)
    where
      rest : (at : ℕ) → Refusal
      rest at = first_broken n f b at

      go : first_broken n f (a + b) (suc i) ≡ or_else (first_broken n f a (suc i)) (rest (suc i + a))
          → (t : Bool) → f i ≡ t
          → cond t (first_broken n f (a + b) (suc i)) (refusal n i)
          ≡ or_else (cond t (first_broken n f a (suc i)) (refusal n i)) (rest (i + suc a))
      go ih true e =
          let s : i + suc a ≡ suc i + a = omega arith in
          rw s ih
      go ih false e = sym (or_else_stopped (refusal n i) (rest (i + suc a)) h)

  -- what a search that accepts has seen: the test passes at each index of its range
  pub broken_passed : (left i : ℕ) → (n ≡ 0 → ⊥) → (first_broken n f left i).number ≡ 0 → (j : ℕ) → i ≤ j → j < i + left → f j ≡ true
  unfolding first_broken refusal
  broken_passed zero i h e j lo hi = absurd (omega arith)
  broken_passed (suc k) i h e j lo hi = go (λ q l. broken_passed k (suc i) h q j l (omega arith)) (f i) refl e (ℕ_discrete j i)
    where
      go : ((first_broken n f k (suc i)).number ≡ 0 → suc i ≤ j → f j ≡ true)
          → (t : Bool) → f i ≡ t → (cond t (first_broken n f k (suc i)) (refusal n i)).number ≡ 0 → Dec (j ≡ i) → f j ≡ true
      go ih true p q (yes d) = subst (λ (m : ℕ). f m ≡ true) (sym d) p
      go ih true p q (no d) = ih q (omega arith)
      go ih false p q d = absurd (h q)

  -- and back: where the test passes at each index of a range, the search accepts
  pub broken_clear : (left i : ℕ) → ((j : ℕ) → i ≤ j → j < i + left → f j ≡ true) → first_broken n f left i ≡ accepted
  unfolding first_broken
  broken_clear zero i h = refl
  broken_clear (suc k) i h =
      cond_true (f i) (first_broken n f k (suc i)) (refusal n i) (h i (omega arith) (omega arith))
      ∙ broken_clear k (suc i) (λ j lo hi. h j (omega arith) (omega arith))

  -- a search that has come to i: the part of k indices from there, else what is behind it
  pub broken_part : (total i k : ℕ) → (n ≡ 0 → ⊥) → i + k ≤ total
      → first_broken n f (total - i) i ≡ or_else (first_broken n f k i) (first_broken n f (total - (i + k)) (i + k))
  broken_part total i k h l =
      let split : total - i ≡ k + (total - (i + k)) = omega arith in
      ap (λ (m : ℕ). first_broken n f m i) split ∙ broken_parts k (total - (i + k)) i h
