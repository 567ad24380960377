-- A send that enters unmatched is buffered or not by what was in use. Where two jobs agree in that, one that it entered buffered in
-- has it complete in the other.
--   is_kept_by     agreeing on standard sends is enough
--   kept_alike     the law; step_keeps: of one step in both jobs
--   exchange_kept  and of two steps in both orders
-- Assumes nothing.
use Rattle.std.specs.Prelude.{◌≡◌, refl, ◌≢◌, Bool, true, false, ◌&&◌, ◌||◌, List, ℕ, ◌≤◌, ltb}
use Rattle.std.proofs.Common.{sym, ap, subst, ◌∙◌, arith}
use Rattle.std.proofs.Math.Decide.{ℕ_discrete, dec_le}
use Rattle.rules.specs.Sheet.{Sheet, op, board, rank_of, is_standard, is_buffered}
use Rattle.rules.specs.Job.{Job, in_room}
use Rattle.rules.specs.Step.{fits_beside, fits_room}
use Rattle.invariant.specs.Invariant.{Entered, state_at, unmatched_state, is_kept, Reached, Extended}
use Rattle.invariant.specs.matching.RowChanges.{state_name}

-- only standard sends are kept by what is in use
pub is_kept_by : (s : Sheet) (r k : ℕ) (x y : Job) → (is_standard (op s k) ≡ true → fits_room s r k x ≡ fits_room s r k y) →
    is_kept s r k x ≡ is_kept s r k y
unfolding is_kept fits_room
is_kept_by s r k x y same = ap (λ (b : Bool). is_buffered (op s k) || b) (go (is_standard (op s k)) refl)
  where
    none_fits : (z : Job) → is_standard (op s k) ≡ false → fits_room s r k z ≡ false
    none_fits z e = ap (λ (b : Bool). b && (ltb 0 (board s r).room && fits_beside in_room s r k z)) e

    go : (b : Bool) → is_standard (op s k) ≡ b → fits_room s r k x ≡ fits_room s r k y
    go true e = same e
    go false e = none_fits x e ∙ sym (none_fits y e)

pub kept_alike : {s : Sheet} {k a b : ℕ} {l m : List ℕ} {x y x' y' : Job} {X : Reached s l x} {Y : Reached s m y} → Extended X x' a →
    Extended Y y' b → k ≡ a → k ≡ b → (Entered x k → ⊥) → (Entered y k → ⊥) → Entered y' k →
    is_kept s (rank_of s k) k x ≡ is_kept s (rank_of s k) k y → state_at x' k ≡ 2 → 2 ≤ state_at y' k
kept_alike {s} {k} {a} {b} {l} {m} {x} {y} {x'} {y'} F G e f out_x out_y there same two = go (ℕ_discrete (state_at y' k) 3)
  where
    -- the state of an operation that entered and is not matched
    state_of : {n : List ℕ} {z w : Job} {Z : Reached s n z} {c : ℕ} → Extended Z w c → k ≡ c → (Entered z k → ⊥) → Entered w k →
        (state_at w k ≡ 3 → ⊥) → state_at w k ≡ unmatched_state (is_kept s (rank_of s k) k z) (op s k)
    state_of {n} {z} {w} {Z} {c} E g out inn d =
        state_name w g
        ∙ E.new_state (omega (arith, inn, state_name w g)) (λ h. out (omega (arith, h, state_name z g))) (λ h. d (state_name w g ∙ h))
        ∙ ap (λ (j : ℕ). unmatched_state (is_kept s (rank_of s j) j z) (op s j)) (sym g)

    go : Dec (state_at y' k ≡ 3) → 2 ≤ state_at y' k
    go (yes d) = omega (arith, d)
    go (no d) =
        let was = state_of F e out_x (omega (arith, two)) (λ h. omega (arith, two, h)) in
        let is = state_of G f out_y there d in
        omega (arith, two, was, is, ap (λ (c : Bool). unmatched_state c (op s k)) same)

-- one step of operation a in both jobs: what is buffered in the one is buffered or matched in the other, after it as before
pub step_keeps : {s : Sheet} {a b : ℕ} {l m : List ℕ} {x y x' y' : Job} {X : Reached s l x} {Y : Reached s m y} → Extended X x' a →
    Extended Y y' b → a ≡ b → ((k : ℕ) → state_at x k ≡ 2 → 2 ≤ state_at y k) → ((k : ℕ) → Entered y k → Entered x k) →
    ((k : ℕ) → Entered x' k → Entered y' k) → is_kept s (rank_of s a) a x ≡ is_kept s (rank_of s a) a y →
    (k : ℕ) → state_at x' k ≡ 2 → 2 ≤ state_at y' k
step_keeps {s} {a} {b} {l} {m} {x} {y} {x'} {y'} F G e kept back on same k two = go (dec_le 1 (state_at x k)) (ℕ_discrete k a)
  where
    go : Dec (Entered x k) → Dec (k ≡ a) → 2 ≤ state_at y' k
    go (yes h) _ = G.complete_on k (kept k (sym (F.same_state k h (λ z. omega (arith, two, z))) ∙ two))
    go (no out) (no d) = absurd (out (F.back k d (omega (arith, two))))
    go (no out) (yes c) =
        kept_alike F G c (c ∙ e) out (λ h. out (back k h)) (on k (omega (arith, two)))
        (subst (λ (z : ℕ). is_kept s (rank_of s z) z x ≡ is_kept s (rank_of s z) z y) (sym c) same) two

-- two steps in both orders, of operations a and b, where each is kept before the other exactly if it is after it
pub exchange_kept : {s : Sheet} {l : List ℕ} {x xa xb xab xba : Job} {X : Reached s l x} {a a' b b' : ℕ} (A : Extended X xa a) (AB : Extended A.reached xab b')
    (B : Extended X xb b) (BA : Extended B.reached xba a') → a ≡ a' → b ≡ b' → a ≢ b → ((k : ℕ) → Entered xab k → Entered xba k) →
    ((Entered x a → ⊥) → is_kept s (rank_of s a) a x ≡ is_kept s (rank_of s a) a xb) →
    ((Entered x b → ⊥) → is_kept s (rank_of s b) b x ≡ is_kept s (rank_of s b) b xa) →
    (k : ℕ) → state_at xab k ≡ 2 → 2 ≤ state_at xba k
exchange_kept {s} {l} {x} {xa} {xb} {xab} {xba} {X} {a} {a'} {b} {b'} A AB B BA ea eb apart on same_a same_b k two = go (dec_le 1 (state_at x k))
  where
    inn : Entered xab k
    inn = omega (arith, two)

    -- after the first step, where it was entered by then
    two_first : Entered xa k → state_at xa k ≡ 2
    two_first h = sym (AB.same_state k h (λ e. omega (arith, two, e))) ∙ two

    new : (Entered x k → ⊥) → Dec (k ≡ a) → Dec (k ≡ b) → 2 ≤ state_at xba k
    new out (yes e) _ =
        let first_in : Entered xa k = AB.back k (λ f. apart (sym e ∙ f ∙ sym eb)) inn in
        kept_alike A BA e (e ∙ ea) out (λ h. out (B.back k (λ f. apart (sym e ∙ f)) h)) (on k inn)
        (subst (λ (z : ℕ). is_kept s (rank_of s z) z x ≡ is_kept s (rank_of s z) z xb) (sym e)
        (same_a (subst (λ (z : ℕ). Entered x z → ⊥) e out)))
        (two_first first_in)
    new out (no d) (yes e) =
        let first_in : Entered xb k = BA.back k (λ f. d (f ∙ sym ea)) (on k inn) in
        BA.complete_on k
        (kept_alike AB B (e ∙ eb) e (λ h. out (A.back k d h)) out first_in
        (sym (subst (λ (z : ℕ). is_kept s (rank_of s z) z x ≡ is_kept s (rank_of s z) z xa) (sym e)
        (same_b (subst (λ (z : ℕ). Entered x z → ⊥) e out))))
        two)
    new out (no d) (no c) = absurd (out (A.back k d (AB.back k (λ f. c (f ∙ sym eb)) inn)))

    go : Dec (Entered x k) → 2 ≤ state_at xba k
    go (yes h) =
        let first = two_first (A.on k h) in
        BA.complete_on k (B.complete_on k (omega (arith, A.same_state k h (λ e. omega (arith, first, e)), first)))
    go (no out) = new out (ℕ_discrete k a) (ℕ_discrete k b)
