-- What a service answers, number and place: from an equation of refusals, along a chain of them, and by a search from the front.
--   told_is, told_same, answers_number   from an equation, from an answer to an equal refusal, and its number
--   or_else_told, or_else_next           a chain answers as its first refusal that does not accept
--   Sought                               a search has come to index i and refused nothing: sought_more, sought_bad, sought_all
-- Assumes nothing.
use Rattle.std.specs.Prelude.{◌≡◌, Bool, true, false, not, ℕ, ◌+◌, ◌-◌, ◌<◌, ◌≤◌}
use Rattle.std.proofs.Common.{sym, ◌∙◌, ap, subst, arith}
use Rattle.rules.specs.Refusal.{Refusal, refusal, or_else, first_broken}
use Rattle.rules.specs.Service.{Answers}
use Rattle.laws.specs.Broken.{or_else_passed, or_else_stopped, rule_kept, rule_broken, broken_none, broken_more, broken_here}

pub told_is : (f : Refusal) (n p : ℕ) → f ≡ refusal n p → Answers f n p
unfolding Answers refusal
told_is f n p e = (ap (λ (g : Refusal). g.number) (sym e), ap (λ (g : Refusal). g.place) (sym e))

pub told_same : (f g : Refusal) (n p : ℕ) → f ≡ g → Answers g n p → Answers f n p
told_same f g n p e t = subst (λ (h : Refusal). Answers h n p) (sym e) t

pub answers_number : (f : Refusal) (n p : ℕ) → Answers f n p → n ≡ f.number
unfolding Answers
answers_number f n p t = t.0

-- CHAINS: as the first refusal where that does not accept, else as the rest
module _ (a b : Refusal) (n p : ℕ) (told : Answers a n p) where
  pub or_else_told : (n ≡ 0 → ⊥) → Answers (or_else a b) n p
  or_else_told h = told_same (or_else a b) a n p (or_else_stopped a b (λ z. h (answers_number a n p told ∙ z))) told

  pub first_accepts : n ≡ 0 → a.number ≡ 0
  first_accepts h = sym (answers_number a n p told) ∙ h

  pub or_else_next : n ≡ 0 → (m q : ℕ) → Answers b m q → Answers (or_else a b) m q
  or_else_next h m q t = told_same (or_else a b) b m q (or_else_passed a b (first_accepts h)) t

-- SEARCHES: what the whole search answers is what is left of it, from index i up to `end`. The rule is any test f of an index,
-- n the number that it is refused with
pub record Sought (whole : Refusal) (n : ℕ) (f : ℕ → Bool) (i end : ℕ) : Type 0 where
  pub upper : i ≤ end
  pub left : whole ≡ first_broken n f (end - i) i

pub sought_none : {n : ℕ} {f : ℕ → Bool} {end : ℕ} (total : ℕ) → end ≡ total → Sought (first_broken n f total 0) n f 0 end
sought_none {n} {f} {end} total e =
    record {
      upper = omega arith;
      left = ap (λ (k : ℕ). first_broken n f k 0) (omega arith);
    }

module _ {whole : Refusal} {n : ℕ} {f : ℕ → Bool} {i end : ℕ} (q : Sought whole n f i end) where
  -- behind the last index nothing is refused
  pub sought_all : end ≤ i → Answers whole 0 0
  sought_all l = told_is whole 0 0 (q.left ∙ broken_none n f (end - i) i (omega arith))

  -- what the code found at index i: it keeps the rule and the search goes on, or it is the place
  module _ (l : i < end) {good : Bool} (told : good ≡ f i) where
    pub sought_more : not good ≡ false → Sought whole n f (i + 1) end
    sought_more h =
        let less : (end - i) - 1 ≡ end - (i + 1) = omega arith in
        record {
          upper = omega arith;
          left =
              q.left
              ∙ (broken_more n f (end - i) i (omega arith) (rule_kept told h) ∙ ap (λ (m : ℕ). first_broken n f m (i + 1)) less);
        }

    pub sought_bad : not good ≡ true → Answers whole n i
    sought_bad h = told_is whole n i (q.left ∙ broken_here n f (end - i) i (omega arith) (rule_broken told h))
