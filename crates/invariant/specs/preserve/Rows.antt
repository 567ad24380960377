-- A row is determined by its state and partner, after a step as before.
--   row_bare, row_message, row_receive                the three rows
--   shaped_same, shaped_enters, shaped_matches        `Shaped` where no row changed, where one entered, after a match
-- Assumes nothing.
use Rattle.std.specs.Prelude.{◌≡◌, refl, ◌≢◌, Bool, true, false, cond, ℕ, get_or, List}
use Rattle.std.proofs.Common.{sym, ap, subst, ◌∙◌, arith, ne_eqb}
use Rattle.std.proofs.Math.Decide.{ℕ_discrete}
use Rattle.rules.specs.Limits.{absent}
use Rattle.rules.specs.Sheet.{Sheet, op, rank_of, is_receive, only_half, tells}
use Rattle.rules.specs.Job.{Job, Entry, entry, bare_entry, entry_at}
use Rattle.rules.specs.Step.{is_cut}
use Rattle.laws.specs.Tests.{true_not_false}
use Rattle.invariant.specs.sheet.Kinds.{send_not_receive, send_not_only_half, receive_not_only_half}
use Rattle.invariant.specs.Invariant.{Entered, state_at, partner_at, row_of, Unmatched, Shaped}
use Rattle.invariant.specs.matching.UnmatchedState.{unmatched_same}
use Rattle.invariant.specs.matching.RowChanges.{Enters, Matches, state_same, state_name, matches_message_state, matches_receive_state}

-- the three rows
pub row_bare : (s : Sheet) (j v p : ℕ) → v ≢ 3 → row_of s j v p ≡ bare_entry v
unfolding row_of
row_bare s j v p d =
    ap
    (λ (b : Bool).
    cond b
    (cond (is_receive (op s j)) (entry 3 (cond (is_cut s p j) 1 0) p (rank_of s p) (op s p).tag (op s p).long)
    (entry 3 0 p absent absent 0))
    (bare_entry v))
    (ne_eqb v 3 d)

pub row_message : (s : Sheet) (j p : ℕ) → is_receive (op s j) ≡ false → row_of s j 3 p ≡ entry 3 0 p absent absent 0
unfolding row_of
row_message s j p e =
    ap (λ (b : Bool). cond b (entry 3 (cond (is_cut s p j) 1 0) p (rank_of s p) (op s p).tag (op s p).long)
    (entry 3 0 p absent absent 0)) e

pub row_receive : (s : Sheet) (j p : ℕ) → is_receive (op s j) ≡ true →
    row_of s j 3 p ≡ entry 3 (cond (is_cut s p j) 1 0) p (rank_of s p) (op s p).tag (op s p).long
unfolding row_of
row_receive s j p e =
    ap (λ (b : Bool). cond b (entry 3 (cond (is_cut s p j) 1 0) p (rank_of s p) (op s p).tag (op s p).long)
    (entry 3 0 p absent absent 0)) e

-- a row that did not change
row_same : (s : Sheet) (x y : Job) (j : ℕ) → entry_at y j ≡ entry_at x j →
    entry_at x j ≡ row_of s j (state_at x j) (partner_at x j) →
    entry_at y j ≡ row_of s j (state_at y j) (partner_at y j)
row_same s x y j e h = e ∙ h ∙ ap (λ (z : Entry). row_of s j z.state z.partner) (sym e)

-- Shaped speaks of the rows only
pub shaped_same : {s : Sheet} {x : Job} (y : Job) → Shaped s x → y.entries ≡ x.entries → Shaped s y
unfolding entry_at
shaped_same {s} {x} y h e =
    record {
      row = λ j t. row_same s x y j (at j) (h.row j t);
      row_new = λ j e. at j ∙ h.row_new j (sym (state_same (at j)) ∙ e);
      unmatched =
          λ j l d. unmatched_same refl (state_same (at j))
          (h.unmatched j (omega (arith, state_same (at j))) (λ c. d (state_same (at j) ∙ c)));
      only_half_unmatched = λ j w c. h.only_half_unmatched j w (sym (state_same (at j)) ∙ c);
    }
  where
    at : (j : ℕ) → entry_at y j ≡ entry_at x j
    at j = ap (λ (z : List Entry). get_or z j (bare_entry 0)) e

pub shaped_enters : {s : Sheet} {x y : Job} {i v : ℕ} → Shaped s x → Enters x y i v → Unmatched s i v →
    (tells (op s i) ≡ false → entry_at y i ≡ bare_entry v) → Shaped s y
shaped_enters {s} {x} {y} {i} {v} h E answers bare =
    record {
      row = λ j t. row j t (ℕ_discrete j i);
      row_new = λ j e. fresh j e (ℕ_discrete j i);
      unmatched = λ j l d. unmatched j l d (ℕ_discrete j i);
      only_half_unmatched = λ j w c. waits j w c (ℕ_discrete j i);
    }
  where
    row : (j : ℕ) → tells (op s j) ≡ false → Dec (j ≡ i) → entry_at y j ≡ row_of s j (state_at y j) (partner_at y j)
    row j t (no d) = row_same s x y j (E.other j d) (h.row j t)
    row j t (yes e) =
        subst (λ (z : ℕ). entry_at y z ≡ row_of s z (state_at y z) (partner_at y z)) (sym e)
        (bare (ap (λ (z : ℕ). tells (op s z)) (sym e) ∙ t) ∙ sym (row_bare s i v (partner_at y i) E.no_match)
        ∙ ap (λ (k : ℕ). row_of s i k (partner_at y i)) (sym E.state))

    fresh : (j : ℕ) → state_at y j ≡ 0 → Dec (j ≡ i) → entry_at y j ≡ bare_entry 0
    fresh j e (no d) = E.other j d ∙ h.row_new j (sym (state_same (E.other j d)) ∙ e)
    fresh j e (yes c) = absurd (omega (arith, state_name y c, E.state, E.some_state))

    unmatched : (j : ℕ) → Entered y j → state_at y j ≢ 3 → Dec (j ≡ i) → Unmatched s j (state_at y j)
    unmatched j l d (no c) =
        let same = state_same (E.other j c) in
        unmatched_same refl same (h.unmatched j (omega (arith, same)) (λ k. d (same ∙ k)))
    unmatched j l d (yes e) = unmatched_same e (state_name y e ∙ E.state) answers

    waits : (j : ℕ) → only_half (op s j) ≡ true → state_at y j ≡ 3 → Dec (j ≡ i) → ⊥
    waits j w c (no d) = h.only_half_unmatched j w (sym (state_same (E.other j d)) ∙ c)
    waits j w c (yes e) = E.no_match (sym E.state ∙ state_name y (sym e) ∙ c)

pub shaped_matches : {s : Sheet} {x y : Job} {m r i : ℕ} → Shaped s x → Matches s x y m r i → Shaped s y
unfolding entry
shaped_matches {s} {x} {y} {m} {r} {i} h M =
    record {
      row = λ j t. row j t (ℕ_discrete j m) (ℕ_discrete j r);
      row_new = λ j e. fresh j e;
      unmatched = λ j l d. unmatched j l d;
      only_half_unmatched = λ j w c. waits j w c (ℕ_discrete j m) (ℕ_discrete j r);
    }
  where
    row : (j : ℕ) → tells (op s j) ≡ false → Dec (j ≡ m) → Dec (j ≡ r) → entry_at y j ≡ row_of s j (state_at y j) (partner_at y j)
    row j t (yes e) _ =
        subst (λ (z : ℕ). entry_at y z ≡ row_of s z (state_at y z) (partner_at y z)) (sym e)
        (M.message_row ∙ sym (row_message s m r (send_not_receive (op s m) M.sends))
        ∙ ap (λ (z : Entry). row_of s m z.state z.partner) (sym M.message_row))
    row j t (no d) (yes e) =
        subst (λ (z : ℕ). entry_at y z ≡ row_of s z (state_at y z) (partner_at y z)) (sym e)
        (M.receive_row ∙ sym (row_receive s r m M.receives)
        ∙ ap (λ (z : Entry). row_of s r z.state z.partner) (sym M.receive_row))
    row j t (no d) (no c) = row_same s x y j (M.other j d c) (h.row j t)

    -- a row that does not say matched is neither of the two
    other : (j : ℕ) → state_at y j ≢ 3 → entry_at y j ≡ entry_at x j
    other j d =
        M.other j (λ e. d (state_name y e ∙ matches_message_state M)) (λ e. d (state_name y e ∙ matches_receive_state M))

    fresh : (j : ℕ) → state_at y j ≡ 0 → entry_at y j ≡ bare_entry 0
    fresh j e =
        let same = other j (λ c. omega arith) in
        same ∙ h.row_new j (sym (state_same same) ∙ e)

    unmatched : (j : ℕ) → Entered y j → state_at y j ≢ 3 → Unmatched s j (state_at y j)
    unmatched j l d =
        let same = state_same (other j d) in
        unmatched_same refl same (h.unmatched j (omega (arith, same)) (λ k. d (same ∙ k)))

    waits : (j : ℕ) → only_half (op s j) ≡ true → state_at y j ≡ 3 → Dec (j ≡ m) → Dec (j ≡ r) → ⊥
    waits j w c (yes e) _ = true_not_false (ap (λ (z : ℕ). only_half (op s z)) (sym e) ∙ w) (send_not_only_half (op s m) M.sends)
    waits j w c (no d) (yes e) =
        true_not_false (ap (λ (z : ℕ). only_half (op s z)) (sym e) ∙ w)
        (receive_not_only_half (op s r) M.receives)
    waits j w c (no d) (no a) = h.only_half_unmatched j w (sym (state_same (M.other j d a)) ∙ c)
