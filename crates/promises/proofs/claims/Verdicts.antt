-- The verdict says what it should: 3 and 4 where the job stopped for that reason, else 1 where every board is finished, else
-- 2 where none is able, else 0 where one is.
--   all_finished_every, all_finished_not   what the test over all boards says
--   verdict_reached                        the statement Verdicts, of one job that keeps the invariant
-- Assumes nothing.
use Rattle.std.specs.Prelude.{◌≡◌, ◌⊎◌, ◌≢◌, ◌↔◌, Bool, true, ◌&&◌, cond, ℕ, zero, suc, ◌+◌, ◌≤◌, ◌<◌}
use Rattle.std.proofs.Math.Path.{refl, sym}
use Rattle.std.proofs.Common.{ap, subst, ◌∙◌, inl, inr}
use Rattle.std.proofs.Math.Bool.{false}
use Rattle.std.proofs.Math.Option.{Option, none, some}
use native.Mathlib.Omega.{arith}
use Rattle.std.proofs.Math.Decide.{ℕ_discrete}
use borrow.Author.Tests.{leb-true}
use Rattle.rules.specs.Sheet.{Sheet, board, P_of}
use Rattle.rules.specs.Job.{Job, Stop, place_at}
use Rattle.rules.specs.Step.{able, is_finished}
use Rattle.rules.specs.Order.{none_able}
use Rattle.rules.specs.Report.{all_finished, verdict_of}
use Rattle.laws.specs.Tests.{and_left, and_right, true_not_false}
use Rattle.promises.specs.Statements.{told_by, VerdictExact}
use Rattle.invariant.specs.sheet.Valid.{Valid}
use Rattle.invariant.specs.Invariant.{Stopped}
use Rattle.invariant.specs.step.Places.{able_next}
use Rattle.invariant.specs.step.LowestAble.{next_able, next_none}

-- ALL FINISHED
all_finished_every : (k r : ℕ) (s : Sheet) (x : Job) → all_finished k r s x ≡ true → (q : ℕ) → r ≤ q → q < r + k →
    is_finished s x q ≡ true
unfolding all_finished
all_finished_every zero r s x h q a b = absurd (omega arith)
all_finished_every (suc k) r s x h q a b =
    go (ℕ_discrete r q) (λ c. all_finished_every k (suc r) s x (and_right (is_finished s x r) (all_finished k (suc r) s x) h) q c
    (omega arith))
  where
    go : Dec (r ≡ q) → (suc r ≤ q → is_finished s x q ≡ true) → is_finished s x q ≡ true
    go (yes e) later = subst (λ (z : ℕ). is_finished s x z ≡ true) e (and_left (is_finished s x r) (all_finished k (suc r) s x) h)
    go (no d) later = later (omega arith)

-- a board from r on, among k, that is not finished
abbrev Unfinished : Sheet → Job → (k r : ℕ) → Type 0
Unfinished s x k r = (q : ℕ) × (r ≤ q) × (q < r + k) × (is_finished s x q ≡ false)

all_finished_not : (k r : ℕ) (s : Sheet) (x : Job) → all_finished k r s x ≡ false → Unfinished s x k r
unfolding all_finished
all_finished_not zero r s x h = true_not_false refl h
all_finished_not (suc k) r s x h = go (is_finished s x r) refl h (all_finished_not k (suc r) s x)
  where
    go : (b : Bool) → is_finished s x r ≡ b → b && all_finished k (suc r) s x ≡ false →
        (all_finished k (suc r) s x ≡ false → Unfinished s x k (suc r)) → Unfinished s x (suc k) r
    go true e h later = let u = later h in (u.0, omega (arith, u.1), omega (arith, u.2), u.3)
    go false e h later = (r, omega arith, omega arith, e)

-- EXACTLY ONE
-- the verdict v is w, and what w says holds; or neither
this : {v w : ℕ} {Q : Type 0} → v ≡ w → Q → (v ≡ w) ↔ Q
this e q = (λ h. q, λ h. e)

other : {v w : ℕ} {Q : Type 0} → v ≢ w → (Q → ⊥) → (v ≡ w) ↔ Q
other d n = (λ h. absurd (d h), λ h. absurd (n h))

module _ (s : Sheet) (g : Valid s) (x : Job) (stop_at : (t : Stop) → x.stop ≡ some t → Stopped s x t) where
  -- what each verdict says
  abbrev SomeAble : Type 0
  SomeAble = (r : ℕ) × (able s x r ≡ true)

  abbrev AllDone : Type 0
  AllDone = (x.stop ≡ none) × ((r : ℕ) → r < P_of s → is_finished s x r ≡ true)

  abbrev StoppedBy : ℕ → Type 0
  StoppedBy v = (t : Stop) × (x.stop ≡ some t) × (t.verdict ≡ v)

  -- a job that goes on did not stop, and an able board is not finished
  going_not : (v : ℕ) → x.stop ≡ none → StoppedBy v → ⊥
  going_not v e h = let stopped = h.1 in let z : ◌≡◌ {A = ℕ} 0 1 = cc in omega arith

  able_unfinished : SomeAble → ((r : ℕ) → r < P_of s → is_finished s x r ≡ true) → ⊥
  unfolding is_finished
  able_unfinished a h =
      let n = able_next s g x a.0 a.1 in
      omega (arith, n.unfinished, leb-true (board s a.0).count (place_at x a.0).finished (h a.0 n.rank_small))

  verdict_finished : x.stop ≡ none → ((r : ℕ) → r < P_of s → is_finished s x r ≡ true) → VerdictExact s (told_by s x) 1
  unfolding told_by
  verdict_finished e done =
      record {
        known = omega arith;
        still_able = other (λ h. omega arith) (λ a. able_unfinished a done);
        finished = this refl (e, done);
        deadlock = other (λ h. omega arith) (λ d. true_not_false (done d.1.0 d.1.1) d.1.2);
        overflow = other (λ h. omega arith) (going_not 3 e);
        not_ready = other (λ h. omega arith) (going_not 4 e);
      }

  module _ (e : x.stop ≡ none) (left : (r : ℕ) × (r < P_of s) × (is_finished s x r ≡ false)) where
    not_done : AllDone → ⊥
    not_done h = true_not_false (h.1 left.0 left.1) left.2

    verdict_deadlock : ((r : ℕ) → able s x r ≡ false) → VerdictExact s (told_by s x) 2
    unfolding told_by
    verdict_deadlock stuck =
        record {
          known = omega arith;
          still_able = other (λ h. omega arith) (λ a. true_not_false a.1 (stuck a.0));
          finished = other (λ h. omega arith) not_done;
          deadlock = this refl (e, left, stuck);
          overflow = other (λ h. omega arith) (going_not 3 e);
          not_ready = other (λ h. omega arith) (going_not 4 e);
        }

    verdict_able : SomeAble → VerdictExact s (told_by s x) 0
    unfolding told_by
    verdict_able a =
        record {
          known = omega arith;
          still_able = this refl a;
          finished = other (λ h. omega arith) not_done;
          deadlock = other (λ h. omega arith) (λ d. true_not_false a.1 (d.2 a.0));
          overflow = other (λ h. omega arith) (going_not 3 e);
          not_ready = other (λ h. omega arith) (going_not 4 e);
        }

  module _ (t : Stop) (e : x.stop ≡ some t) where
    not_going : x.stop ≡ none → ⊥
    not_going h = going_not t.verdict h (t, e, refl)

    same_stop : (v : ℕ) → StoppedBy v → t.verdict ≡ v
    same_stop v h =
        let stopped = h.1 in
        let same : h.0 ≡ t = cc in
        ap (λ (z : Stop). z.verdict) (sym same) ∙ h.2

    verdict_stopped : (v : ℕ) → t.verdict ≡ v → (v ≡ 3) ⊎ (v ≡ 4) → VerdictExact s (told_by s x) v
    unfolding told_by
    verdict_stopped v q reason =
        record {
          known = most reason;
          still_able = other (early reason 0 (omega arith)) (λ a. not_going (able_next s g x a.0 a.1).going);
          finished = other (early reason 1 (omega arith)) (λ h. not_going h.0);
          deadlock = other (early reason 2 (omega arith)) (λ h. not_going h.0);
          overflow = (λ h. (t, e, q ∙ h), λ h. sym q ∙ same_stop 3 h);
          not_ready = (λ h. (t, e, q ∙ h), λ h. sym q ∙ same_stop 4 h);
        }
      where
        most : (v ≡ 3) ⊎ (v ≡ 4) → v ≤ 4
        most (inl a) = omega arith
        most (inr a) = omega arith

        early : (v ≡ 3) ⊎ (v ≡ 4) → (w : ℕ) → w ≤ 2 → v ≢ w
        early (inl a) w l h = omega arith
        early (inr a) w l h = omega arith

  pub verdict_reached : VerdictExact s (told_by s x) (verdict_of x.stop s x)
  unfolding verdict_of
  verdict_reached = go x.stop refl
    where
      unfinished : all_finished (P_of s) 0 s x ≡ false → (r : ℕ) × (r < P_of s) × (is_finished s x r ≡ false)
      unfinished h = let u = all_finished_not (P_of s) 0 s x h in (u.0, omega (arith, u.2), u.3)

      going : x.stop ≡ none → (a : Bool) → all_finished (P_of s) 0 s x ≡ a → (b : Bool) → none_able s x ≡ b →
          VerdictExact s (told_by s x) (cond a 1 (cond b 2 0))
      going e true h b k = verdict_finished e (λ r l. all_finished_every (P_of s) 0 s x h r (omega arith) (omega arith))
      going e false h true k = verdict_deadlock e (unfinished h) (next_none s g x k)
      going e false h false k = verdict_able e (unfinished h) (next_able s x k)

      go : (o : Option Stop) → x.stop ≡ o → VerdictExact s (told_by s x) (verdict_of o s x)
      go none e = going e (all_finished (P_of s) 0 s x) refl (none_able s x) refl
      go (some t) e = verdict_stopped t e t.verdict refl (stop_at t e).reason
