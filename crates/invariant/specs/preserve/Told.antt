-- What operations that tell have told stays told, and the step of a probe tells the message that it finds (document 02, K9).
--   ends_found                          a probe whose step can be taken finds a message
--   telling_same, telling_enters, telling_matches   what a step does to what probes told: no row changed, one entered, a match
--   told_step                           so `Told` is kept
-- Assumes nothing.
use Rattle.std.specs.Prelude.{◌≡◌, refl, ◌⊎◌, ◌≢◌, Bool, true, false, ◌||◌, not, cond, ℕ, ◌≤◌, ◌<◌}
use Rattle.std.proofs.Common.{sym, ap, subst, ◌∙◌, inl, inr, arith}
use Rattle.std.proofs.Math.Option.{Option, none, some}
use Rattle.std.proofs.Math.Decide.{ℕ_discrete, dec_le}
use Rattle.rules.specs.Sheet.{Sheet, op, rank_of, tells_message, tells_completion, tells}
use Rattle.rules.specs.Job.{Job, entry_at, bare_entry}
use Rattle.rules.specs.Step.{fits_with, first_message, is_none, half_ends, half_complete, complete_if, waited, probe_row, query_row, half_row}
use Rattle.laws.specs.Tests.{true_not_false, not_so, or_false_left, or_false_right, cond_true, cond_false}
use Rattle.laws.specs.WaitingLists.{Holds, first_by_some}
use Rattle.invariant.specs.sheet.Kinds.{fit_one_board, send_receive_differ, send_not_tells, receive_not_tells, message_tells, message_not_completion}
use Rattle.invariant.specs.sheet.Kinds.{completion_tells}
use Rattle.invariant.specs.Invariant.{Entered, state_at, partner_at, PendingMessage, ArrivedBefore, Stable, Placed, ProbeTold, QueryTold, Told, Telling}
use Rattle.invariant.specs.matching.RowChanges.{Grows, Enters, Matches, state_same, partner_same, state_name, enters_grows, enters_differ, matches_grows}
use Rattle.invariant.specs.matching.RowChanges.{matches_pair}
use Rattle.invariant.specs.matching.Stable.{Later, grow_sent}
use Rattle.invariant.specs.matching.Earliest.{entered_earlier, found_first}
use Rattle.invariant.specs.preserve.Places.{complete_if_on}
use Rattle.invariant.specs.preserve.SameRows.{SameRows}

-- THE STEP of an operation that tells
-- a probe finds a message
pub ends_found : (s : Sheet) (x : Job) (i : ℕ) → tells_message (op s i) ≡ true → half_ends s x i ≡ true →
    (m : ℕ) × (first_message s i x.messages ≡ some m)
unfolding half_ends is_none
ends_found s x i t e =
    go (first_message s i x.messages) refl
    (sym (cond_true (tells_message (op s i)) (not (is_none (first_message s i x.messages)))
    (tells_completion (op s i) || half_complete s x i) t) ∙ e)
  where
    go : (o : Option ℕ) → first_message s i x.messages ≡ o → not (is_none o) ≡ true → (m : ℕ) × (first_message s i x.messages ≡ some m)
    go none f h = true_not_false h refl
    go (some m) f h = (m, f)

-- what it tells
probe_row_is : (s : Sheet) (x : Job) (i m : ℕ) → tells_message (op s i) ≡ true → first_message s i x.messages ≡ some m →
    half_row s x i ≡ probe_row s (some m)
unfolding half_row
probe_row_is s x i m t f =
    cond_true (tells_message (op s i)) (probe_row s (first_message s i x.messages))
    (cond (tells_completion (op s i)) (query_row (complete_if x (waited s i))) (bare_entry 5)) t
    ∙ ap (λ (o : Option ℕ). probe_row s o) f

pub query_row_is : (s : Sheet) (x : Job) (i : ℕ) → tells_completion (op s i) ≡ true →
    half_row s x i ≡ query_row (complete_if x (waited s i))
unfolding half_row
query_row_is s x i c =
    cond_false (tells_message (op s i)) (probe_row s (first_message s i x.messages))
    (cond (tells_completion (op s i)) (query_row (complete_if x (waited s i))) (bare_entry 5))
    (not_so (tells_message (op s i)) (λ e. true_not_false c (message_not_completion (op s i) e)))
    ∙ cond_true (tells_completion (op s i)) (query_row (complete_if x (waited s i))) (bare_entry 5) c

-- any other operation that is only a waiting half tells nothing
pub plain_row_is : (s : Sheet) (x : Job) (i : ℕ) → tells (op s i) ≡ false → half_row s x i ≡ bare_entry 5
unfolding half_row tells
plain_row_is s x i t =
    cond_false (tells_message (op s i)) (probe_row s (first_message s i x.messages))
    (cond (tells_completion (op s i)) (query_row (complete_if x (waited s i))) (bare_entry 5))
    (or_false_left (tells_message (op s i)) (tells_completion (op s i)) t)
    ∙ cond_false (tells_completion (op s i)) (query_row (complete_if x (waited s i))) (bare_entry 5)
    (or_false_right (tells_message (op s i)) (tells_completion (op s i)) t)

-- NO ROW CHANGED
pub telling_same : {s : Sheet} {x y : Job} {arrival : ℕ → ℕ} (i : ℕ) → SameRows x y → Telling s arrival x arrival y i
telling_same {s} {x} {y} {arrival} i e =
    record {
      kept = λ j t there. e j;
      row = λ t inn out. absurd (out (omega (arith, state_same (e i))));
      on = λ p m t there h. on p m h;
      new = λ m t inn out f. absurd (out (omega (arith, state_same (e i))));
    }
  where
    on : (p m : ℕ) → ProbeTold s arrival x p m → ProbeTold s arrival y p m
    on p m h =
        record {
          row = e p ∙ h.row;
          sends = h.sends;
          fit = h.fit;
          entered = omega (arith, state_same (e m), h.entered);
          not_taken = λ c. let l = h.not_taken (sym (state_same (e m)) ∙ c) in omega (arith, partner_same (e m));
          first_sent =
              λ k a there l f.
              let old = h.first_sent k a (omega (arith, state_same (e k))) l f in
              (state_same (e k) ∙ old.0, omega (arith, old.1, partner_same (e k)));
        }

-- AN OPERATION ENTERED
module _ {s : Sheet} {x y : Job} {i : ℕ} {arrival now : ℕ → ℕ} (L : Later arrival now x i) (G : Grows x y i) where
  -- what was told stays told, where the rows of what tells stay and a message that p told is taken after p
  grown_on : (p m : ℕ) → entry_at y p ≡ entry_at x p → (state_at x m ≢ 3 → state_at y m ≡ 3 → p < partner_at y m) →
      ProbeTold s arrival x p m → ProbeTold s now y p m
  grown_on p m same taken h =
      record {
        row = same ∙ h.row;
        sends = h.sends;
        fit = h.fit;
        entered = G.on m h.entered;
        not_taken = λ c. later c (ℕ_discrete (state_at x m) 3);
        first_sent = grow_sent s L G m p h.entered h.first_sent;
      }
    where
      later : state_at y m ≡ 3 → Dec (state_at x m ≡ 3) → p < partner_at y m
      later c (yes e) = let l = h.not_taken e in omega (arith, partner_same (G.kept m e))
      later c (no d) = taken d c

-- unmatched: what tells keeps its row, no message is taken, and a probe tells what it finds
module _ {s : Sheet} {x y : Job} {i v : ℕ} {arrival now : ℕ → ℕ} (X : Stable s arrival x) (p : Placed s x)
    (H : Holds (ArrivedBefore arrival) (PendingMessage s x) x.messages) (L : Later arrival now x i) (E : Enters x y i v) where
  probe_new : (m : ℕ) → tells_message (op s i) ≡ true → entry_at y i ≡ half_row s x i → first_message s i x.messages ≡ some m →
      ProbeTold s now y i m
  unfolding first_message
  probe_new m t row f =
      let F = first_by_some (λ k. fits_with s k i) x.messages H.sorted m f in
      let P = H.sound m F.member in
      record {
        row = row ∙ probe_row_is s x i m t f;
        sends = P.sends;
        fit = F.passes;
        entered = (enters_grows E).on m P.entered;
        not_taken = λ c. absurd (P.unmatched (sym (state_same (E.other m (enters_differ E m P.entered))) ∙ c));
        first_sent = grow_sent s L (enters_grows E) m i P.entered (found_first X p i E.fresh m H F);
      }

  pub telling_enters : (tells (op s i) ≡ true → entry_at y i ≡ half_row s x i) → Telling s arrival x now y i
  telling_enters row =
      record {
        kept = λ j t there. E.other j (enters_differ E j there);
        row = λ t inn out. row t;
        on =
            λ q m t there h.
            grown_on L (enters_grows E) q m (E.other q (enters_differ E q there))
            (λ d c. absurd (d (sym (state_same (E.other m (enters_differ E m h.entered))) ∙ c))) h;
        new = λ m t inn out f. probe_new m t (row (message_tells (op s i) t)) f;
      }

-- matched: neither of the two tells
module _ {s : Sheet} {x y : Job} {m r i : ℕ} (M : Matches s x y m r i) where
  message_told_none : (j : ℕ) → j ≡ m → tells (op s j) ≡ false
  message_told_none j e = ap (λ (z : ℕ). tells (op s z)) e ∙ send_not_tells (op s m) M.sends

  receive_told_none : (j : ℕ) → j ≡ r → tells (op s j) ≡ false
  receive_told_none j e = ap (λ (z : ℕ). tells (op s z)) e ∙ receive_not_tells (op s r) M.receives

  pub matches_tells_none : tells (op s i) ≡ false
  matches_tells_none = go M.one
    where
      go : (i ≡ m) ⊎ (i ≡ r) → tells (op s i) ≡ false
      go (inl e) = message_told_none i e
      go (inr e) = receive_told_none i e

  matches_told_kept : (j : ℕ) → tells (op s j) ≡ true → entry_at y j ≡ entry_at x j
  matches_told_kept j t =
      M.other j (λ e. true_not_false t (message_told_none j e)) (λ e. true_not_false t (receive_told_none j e))

-- and the receive that takes a message which a probe told comes after that probe
pub telling_matches : {s : Sheet} {x y : Job} {m r i : ℕ} {arrival now : ℕ → ℕ} → Stable s arrival x → Placed s x → Later arrival now x i →
    Matches s x y m r i → Telling s arrival x now y i
telling_matches {s} {x} {y} {m} {r} {i} {arrival} {now} X p L M =
    record {
      kept = λ j t there. matches_told_kept M j t;
      row = λ t inn out. true_not_false t (matches_tells_none M);
      on =
          λ q k t there h.
          grown_on L (matches_grows M) q k (matches_told_kept M q (message_tells (op s q) t)) (taken q k there h) h;
      new = λ k t inn out f. true_not_false (message_tells (op s i) t) (matches_tells_none M);
    }
  where
    taken : (q k : ℕ) → Entered x q → ProbeTold s arrival x q k → state_at x k ≢ 3 → state_at y k ≡ 3 → q < partner_at y k
    taken q k there h d c = go (ℕ_discrete k m)
      where
        -- k is a message that was there: the receive entered, and its board's probe q had entered before
        after : k ≡ m → (i ≡ m) ⊎ (i ≡ r) → q < r
        after e (inl n) = absurd (omega (arith, M.fresh, state_name x n, state_name x e, h.entered))
        after e (inr n) =
            let fit : fits_with s m q ≡ true = ap (λ (z : ℕ). fits_with s z q) (sym e) ∙ h.fit in
            let ranked : rank_of s q ≡ rank_of s i = fit_one_board s m q r fit M.fit ∙ ap (λ (z : ℕ). rank_of s z) (sym n) in
            omega (arith, entered_earlier X p i M.fresh q there ranked, n)

        go : Dec (k ≡ m) → q < partner_at y k
        go (yes e) = omega (arith, after e M.one, ap (λ (z : ℕ). partner_at y z) e, (matches_pair M).to_receive)
        go (no a) = absurd (d (sym (state_same (M.other k a (send_receive_differ s k r h.sends M.receives))) ∙ c))

-- TOLD, after a step of operation i that is told of
pub told_step : {s : Sheet} {x y : Job} {i : ℕ} {arrival now : ℕ → ℕ} → Told s arrival x → Telling s arrival x now y i →
    ((j : ℕ) → j ≢ i → Entered y j → Entered x j) → ((j : ℕ) → 2 ≤ state_at x j → 2 ≤ state_at y j) →
    (tells (op s i) ≡ true → Entered y i → (Entered x i → ⊥) → half_ends s x i ≡ true) → Told s now y
told_step {s} {x} {y} {i} {arrival} {now} T S back complete_on ends =
    record {
      probes = λ p t inn. probe p t inn (dec_le 1 (state_at x p));
      queries = λ p t inn. query p t inn (dec_le 1 (state_at x p));
    }
  where
    -- what entered is i
    is_new : (j : ℕ) → Entered y j → (Entered x j → ⊥) → Dec (j ≡ i) → j ≡ i
    is_new j inn out (yes e) = e
    is_new j inn out (no d) = absurd (out (back j d inn))

    probe_here : tells_message (op s i) ≡ true → Entered y i → (Entered x i → ⊥) → (m : ℕ) × ProbeTold s now y i m
    probe_here t inn out =
        let found = ends_found s x i t (ends (message_tells (op s i) t) inn out) in
        (found.0, S.new found.0 t inn out found.1)

    probe : (p : ℕ) → tells_message (op s p) ≡ true → Entered y p → Dec (Entered x p) → (m : ℕ) × ProbeTold s now y p m
    probe p t inn (yes there) = let h = T.probes p t there in (h.0, S.on p h.0 t there h.1)
    probe p t inn (no out) =
        let e = is_new p inn out (ℕ_discrete p i) in
        subst (λ (z : ℕ). (m : ℕ) × ProbeTold s now y z m) (sym e)
        (probe_here (ap (λ (z : ℕ). tells_message (op s z)) (sym e) ∙ t) (omega (arith, state_name y e))
        (λ h. out (omega (arith, state_name x e))))

    query_here : tells_completion (op s i) ≡ true → Entered y i → (Entered x i → ⊥) → (answer : Bool) × QueryTold s y i answer
    query_here t inn out = (
      complete_if x (waited s i),
      record {
        row = S.row (completion_tells (op s i) t) inn out ∙ query_row_is s x i t;
        complete = complete_if_on x y complete_on (waited s i);
      },
    )

    query : (p : ℕ) → tells_completion (op s p) ≡ true → Entered y p → Dec (Entered x p) → (answer : Bool) × QueryTold s y p answer
    query p t inn (yes there) =
        let h = T.queries p t there in (
          h.0,
          record {
            row = S.kept p (completion_tells (op s p) t) there ∙ h.1.row;
            complete = λ e. complete_if_on x y complete_on (waited s p) (h.1.complete e);
          },
        )
    query p t inn (no out) =
        let e = is_new p inn out (ℕ_discrete p i) in
        subst (λ (z : ℕ). (answer : Bool) × QueryTold s y z answer) (sym e)
        (query_here (ap (λ (z : ℕ). tells_completion (op s z)) (sym e) ∙ t) (omega (arith, state_name y e))
        (λ h. out (omega (arith, state_name x e))))
