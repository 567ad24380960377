-- Jobs whose boards stand at the same places are followed alike: refused at the same index, and at the same places where they
-- were left. And how follow goes over an order that is joined of two.
--   LeftSamePositions    what two calls of follow left
--   positions_follow       a whole order
--   follow_join            an accepted beginning, and then the rest
--   follow_two             two steps that are able
-- Assumes nothing.
use Rattle.std.specs.Prelude.{◌≡◌, refl, Bool, true, false, cond, List, [], ◌∷◌, ◌++◌, ℕ, suc, ◌+◌, ◌≤◌, length}
use Rattle.std.proofs.Common.{sym, ap, ◌∙◌, arith}
use Rattle.std.proofs.Math.Option.{some}
use Rattle.rules.specs.Sheet.{Sheet, inbox_total}
use Rattle.rules.specs.Job.{Job, started}
use Rattle.rules.specs.Step.{able, step, is_none}
use Rattle.rules.specs.Order.{Followed, followed, follow_from, follow}
use Rattle.rules.specs.Claims.{accepts, left_by}
use Rattle.laws.specs.Tests.{true_not_false}
use Rattle.invariant.specs.sheet.Valid.{Valid}
use Rattle.invariant.specs.deliveries.Laws.{DeliveryLaws}
use Rattle.invariant.specs.Invariant.{Reached}
use Rattle.promises.proofs.compare.SamePositions.{SamePositions, positions_able, positions_step}

-- two calls of follow were refused at the same index, and left their boards at the same places
pub record LeftSamePositions (s : Sheet) (i j : List ℕ) (a b : Followed) : Type 0 where
  pub refused : a.refused_at ≡ b.refused_at
  pub reached_x : Reached s i a.left
  pub reached_y : Reached s j b.left
  pub same_positions : SamePositions reached_x reached_y

-- from jobs at the same places a whole order leads to such jobs
pub positions_follow : {s : Sheet} → Valid s → DeliveryLaws s → {i j : List ℕ} → inbox_total s ≤ length i → inbox_total s ≤ length j →
    (k : ℕ) (rs : List ℕ) →
    {x y : Job} {X : Reached s i x} {Y : Reached s j y} → SamePositions X Y → LeftSamePositions s i j (follow_from k s rs x) (follow_from k s rs y)
unfolding follow_from followed
positions_follow g A room_x room_y k [] {x} {y} {X} {Y} K =
    record {
      refused = refl;
      reached_x = X;
      reached_y = Y;
      same_positions = K;
    }
positions_follow {s} g A {i} {j} room_x room_y k (r ∷ rs) {x} {y} {X} {Y} K =
    go (able s x r) refl (able s y r) refl (λ a b. positions_follow g A room_x room_y (suc k) rs (positions_step g K A room_x room_y r a b))
  where
    go : (a : Bool) → able s x r ≡ a → (b : Bool) → able s y r ≡ b →
        (able s x r ≡ true → able s y r ≡ true →
        LeftSamePositions s i j (follow_from (suc k) s rs (step s r x)) (follow_from (suc k) s rs (step s r y))) →
        LeftSamePositions s i j (cond a (follow_from (suc k) s rs (step s r x)) (followed (some k) x))
        (cond b (follow_from (suc k) s rs (step s r y)) (followed (some k) y))
    go true e true f rest = rest e f
    go true e false f rest = true_not_false (sym (positions_able g K r) ∙ e) f
    go false e true f rest = true_not_false (positions_able g K r ∙ f) e
    go false e false f rest =
        record {
          refused = refl;
          reached_x = X;
          reached_y = Y;
          same_positions = K;
        }

-- AN ORDER JOINED OF TWO
pub follow_from_join : (s : Sheet) (k : ℕ) (a b : List ℕ) (x : Job) → is_none (follow_from k s a x).refused_at ≡ true →
    follow_from k s (a ++ b) x ≡ follow_from (k + length a) s b (follow_from k s a x).left
unfolding follow_from followed is_none
follow_from_join s k [] b x e = ap (λ (n : ℕ). follow_from n s b x) (omega arith)
follow_from_join s k (r ∷ rs) b x e = go (able s x r) (λ h. follow_from_join s (suc k) rs b (step s r x) h) e
  where
    go : (c : Bool) →
        (is_none (follow_from (suc k) s rs (step s r x)).refused_at ≡ true →
        follow_from (suc k) s (rs ++ b) (step s r x) ≡ follow_from (suc k + length rs) s b
        (follow_from (suc k) s rs (step s r x)).left) →
        is_none (cond c (follow_from (suc k) s rs (step s r x)) (followed (some k) x)).refused_at ≡ true →
        cond c (follow_from (suc k) s (rs ++ b) (step s r x)) (followed (some k) x)
        ≡ follow_from (k + suc (length rs)) s b (cond c (follow_from (suc k) s rs (step s r x)) (followed (some k) x)).left
    go true rest h =
        rest h ∙ ap (λ (n : ℕ). follow_from n s b (follow_from (suc k) s rs (step s r x)).left) (omega arith)
    go false rest h = true_not_false h refl

pub follow_join : (s : Sheet) (a b lent : List ℕ) → accepts s a lent ≡ true →
    follow s (a ++ b) lent ≡ follow_from (length a) s b (left_by s a lent)
unfolding follow accepts left_by
follow_join s a b lent e =
    follow_from_join s 0 a b (started s lent) e
    ∙ ap (λ (n : ℕ). follow_from n s b (follow_from 0 s a (started s lent)).left) (omega arith)

pub follow_two : (s : Sheet) (k p q : ℕ) (rs : List ℕ) (x : Job) → able s x p ≡ true → able s (step s p x) q ≡ true →
    follow_from k s (p ∷ q ∷ rs) x ≡ follow_from (suc (suc k)) s rs (step s q (step s p x))
unfolding follow_from
follow_two s k p q rs x a b =
    ap
    (λ (c : Bool).
    cond c
    (cond (able s (step s p x) q) (follow_from (suc (suc k)) s rs (step s q (step s p x))) (followed (some (suc k)) (step s p x)))
    (followed (some k) x))
    a
    ∙ ap (λ (c : Bool). cond c (follow_from (suc (suc k)) s rs (step s q (step s p x))) (followed (some (suc k)) (step s p x))) b
