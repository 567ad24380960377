-- The search for the lowest rank that is able: whom it finds is able, and where it finds nobody none is.
--   lowest_some, lowest_none    the search
--   next_some, next_able        the rank that a run would choose is able, and there is one unless none is able
--   next_none                   none is able
-- Assumes nothing.
use Rattle.std.specs.Prelude.{◌≡◌, refl, Bool, true, false, cond, ℕ, zero, suc, ◌+◌, ◌≤◌, ◌<◌}
use Rattle.std.proofs.Common.{subst, arith}
use Rattle.std.proofs.Math.Option.{Option, none, some}
use Rattle.std.proofs.Math.Decide.{ℕ_discrete}
use Rattle.rules.specs.Sheet.{Sheet, P_of}
use Rattle.rules.specs.Job.{Job}
use Rattle.rules.specs.Step.{able, is_none}
use Rattle.rules.specs.Order.{lowest_able, next_rank, none_able}
use Rattle.laws.specs.Tests.{not_so, true_not_false}
use Rattle.invariant.specs.sheet.Valid.{Valid}
use Rattle.invariant.specs.step.Places.{none_is, able_next}

pub lowest_some : (k r q : ℕ) (s : Sheet) (x : Job) → lowest_able k r s x ≡ some q → able s x q ≡ true
unfolding lowest_able
lowest_some zero r q s x h = absurd (let z : ◌≡◌ {A = ℕ} 0 1 = cc in omega arith)
lowest_some (suc k) r q s x h = go (able s x r) refl h (lowest_some k (suc r) q s x)
  where
    go : (b : Bool) → able s x r ≡ b → cond b (some r) (lowest_able k (suc r) s x) ≡ some q →
        (lowest_able k (suc r) s x ≡ some q → able s x q ≡ true) → able s x q ≡ true
    go true e h later = let same : r ≡ q = cc in subst (λ (z : ℕ). able s x z ≡ true) same e
    go false e h later = later h

pub lowest_none : (k r : ℕ) (s : Sheet) (x : Job) → lowest_able k r s x ≡ none → (q : ℕ) → r ≤ q → q < r + k → able s x q ≡ false
unfolding lowest_able
lowest_none zero r s x h q a b = absurd (omega arith)
lowest_none (suc k) r s x h q a b = go (able s x r) refl h (ℕ_discrete r q) (λ h c. lowest_none k (suc r) s x h q c (omega arith))
  where
    go : (t : Bool) → able s x r ≡ t → cond t (some r) (lowest_able k (suc r) s x) ≡ none → Dec (r ≡ q) →
        (lowest_able k (suc r) s x ≡ none → suc r ≤ q → able s x q ≡ false) → able s x q ≡ false
    go true e h d later = absurd (let z : ◌≡◌ {A = ℕ} 0 1 = cc in omega arith)
    go false e h (yes c) later = subst (λ (z : ℕ). able s x z ≡ false) c e
    go false e h (no c) later = later h (omega arith)

-- some board is able, or none is
pub next_able : (s : Sheet) (x : Job) → none_able s x ≡ false → (r : ℕ) × (able s x r ≡ true)
unfolding none_able next_rank is_none
next_able s x h = go (lowest_able (P_of s) 0 s x) refl h
  where
    go : (o : Option ℕ) → lowest_able (P_of s) 0 s x ≡ o → is_none o ≡ false → (r : ℕ) × (able s x r ≡ true)
    go none e h = true_not_false refl h
    go (some r) e h = (r, lowest_some (P_of s) 0 r s x e)

pub next_none : (s : Sheet) → Valid s → (x : Job) → none_able s x ≡ true → (r : ℕ) → able s x r ≡ false
unfolding none_able next_rank
next_none s g x h r =
    not_so (able s x r)
    (λ a. true_not_false a (lowest_none (P_of s) 0 s x (none_is (lowest_able (P_of s) 0 s x) h) r (omega arith)
    (omega (arith, (able_next s g x r a).rank_small))))

pub next_some : (s : Sheet) (x : Job) (q : ℕ) → next_rank s x ≡ some q → able s x q ≡ true
unfolding next_rank
next_some s x q e = lowest_some (P_of s) 0 q s x e
