-- Jobs that are behind each other have the same rows. What is matched is matched alike; of what a probe told, the message that
-- came first and was not taken is the same in both; what queries told is equal where it is known to be.
--   same_told           two probes' messages are one
--   both_behind_rows    the law
-- Assumes nothing.
use Rattle.std.specs.Prelude.{◌≡◌, refl, ◌⊎◌, ◌≢◌, Bool, true, false, cond, List, ℕ, ◌≤◌, ◌<◌}
use Rattle.std.proofs.Math.Path.{sym, ap}
use Rattle.std.proofs.Common.{◌∙◌, inl, inr}
use Rattle.std.proofs.Math.Option.{some}
use native.Mathlib.Omega.{arith}
use Rattle.std.proofs.Math.Decide.{ℕ_discrete, dec_le, dec_lt}
use Rattle.rules.specs.Sheet.{Sheet, op, only_half, tells_message, tells_completion, tells}
use Rattle.rules.specs.Job.{Job, bare_entry, entry_at}
use Rattle.rules.specs.Step.{probe_row}
use Rattle.laws.specs.Tests.{or_cases}
use Rattle.invariant.specs.sheet.Valid.{Valid}
use Rattle.invariant.specs.sheet.Kinds.{message_selects}
use Rattle.invariant.specs.Invariant.{Entered, state_at, partner_at, row_of, unmatched_state, ProbeTold, Reached}
use Rattle.invariant.specs.preserve.Rows.{row_bare}
use Rattle.promises.proofs.compare.Behind.{Behind, behind_entered, behind_matched, behind_complete}

module _ {s : Sheet} (g : Valid s) {i j : List ℕ} {x y : Job} (X : Reached s i x) (Y : Reached s j y) (B : Behind X Y)
    (C : Behind Y X) where
  both_behind_row : (k : ℕ) → (state_at y k ≡ state_at x k)
      × (row_of s k (state_at y k) (partner_at y k) ≡ row_of s k (state_at x k) (partner_at x k))
  unfolding unmatched_state
  both_behind_row k = go (ℕ_discrete (state_at x k) 3) (ℕ_discrete (state_at y k) 3) (ℕ_discrete (state_at x k) 0)
    where
      bare : state_at y k ≡ state_at x k → state_at x k ≢ 3 →
          (state_at y k ≡ state_at x k) × (row_of s k (state_at y k) (partner_at y k) ≡ row_of s k (state_at x k)
          (partner_at x k))
      bare e d = (
        e,
        row_bare s k (state_at y k) (partner_at y k) (λ c. d (sym e ∙ c)) ∙ ap bare_entry e
            ∙ sym (row_bare s k (state_at x k) (partner_at x k) d),
      )

      -- unmatched in both: complete in both or in neither
      same_kept : (a b c : Bool) → (2 ≤ state_at x k → 2 ≤ state_at y k) → (2 ≤ state_at y k → 2 ≤ state_at x k) →
          state_at y k ≡ cond a 5 (cond b 2 1) → state_at x k ≡ cond a 5 (cond c 2 1) → state_at y k ≡ state_at x k
      same_kept true b c on back e f = e ∙ sym f
      same_kept false true true on back e f = e ∙ sym f
      same_kept false false false on back e f = e ∙ sym f
      same_kept false true false on back e f = absurd (omega (arith, e, f, back (omega (arith, e))))
      same_kept false false true on back e f = absurd (omega (arith, e, f, on (omega (arith, f))))

      go : Dec (state_at x k ≡ 3) → Dec (state_at y k ≡ 3) → Dec (state_at x k ≡ 0) →
          (state_at y k ≡ state_at x k) × (row_of s k (state_at y k) (partner_at y k) ≡ row_of s k (state_at x k)
          (partner_at x k))
      go (yes e) _ _ =
          let m = behind_matched g X Y B k e in
          let same : state_at y k ≡ state_at x k = m.0 ∙ sym e in
          (same, ap (λ (v : ℕ). row_of s k v (partner_at y k)) same ∙ ap (λ (p : ℕ). row_of s k (state_at x k) p) m.1)
      go (no d) (yes e) _ = absurd (d (behind_matched g Y X C k e).0)
      go (no d) (no c) (yes z) = bare (none (ℕ_discrete (state_at y k) 0)) d
        where
          none : Dec (state_at y k ≡ 0) → state_at y k ≡ state_at x k
          none (yes w) = w ∙ sym z
          none (no w) = absurd (omega (arith, behind_entered g Y X C k (omega arith)))
      go (no d) (no c) (no z) =
          let there : Entered x k = omega arith in
          let W = Y.shaped.unmatched k (behind_entered g X Y B k there) c in
          let U = X.shaped.unmatched k there d in
          bare
          (same_kept (only_half (op s k)) W.kept U.kept (behind_complete g X Y B k) (behind_complete g Y X C k) W.is U.is)
          d

  -- the messages that a probe told are one: of two, the one that came first would have been taken before the probe looked
  same_told : (p m k : ℕ) → tells_message (op s p) ≡ true → ProbeTold s X.arrival x p m → ProbeTold s Y.arrival y p k → m ≡ k
  same_told p m k t a b = go (dec_lt (Y.arrival k) (Y.arrival m)) (dec_lt (Y.arrival m) (Y.arrival k))
    where
      m_there : Entered y m
      m_there = behind_entered g X Y B m a.entered

      go : Dec (Y.arrival k < Y.arrival m) → Dec (Y.arrival m < Y.arrival k) → m ≡ k
      go (yes l) _ =
          absurd
          (let before = B.order k m p b.sends a.sends (message_selects (op s p) t) b.fit a.fit a.entered b.entered l in
          let taken = a.first_sent k b.sends before.0 before.1 b.fit in
          let now = behind_matched g X Y B k taken.0 in
          omega (arith, taken.1, now.1, b.not_taken now.0))
      go (no c) (yes l) =
          absurd
          (let taken = b.first_sent m a.sends m_there l a.fit in
          let now = behind_matched g Y X C m taken.0 in
          omega (arith, taken.1, now.1, a.not_taken now.0))
      go (no c) (no d) = Y.arrived.apart m k a.sends b.sends m_there b.entered (omega arith)

  -- an operation that tells: not entered in either, or what it told is the same
  told_row : (k : ℕ) → tells (op s k) ≡ true → (tells_completion (op s k) ≡ true → entry_at y k ≡ entry_at x k) → entry_at y k ≡ entry_at x k
  unfolding tells
  told_row k t Q = go (or_cases (tells_message (op s k)) (tells_completion (op s k)) t) (dec_le 1 (state_at x k))
    where
      go : (tells_message (op s k) ≡ true) ⊎ (tells_completion (op s k) ≡ true) → Dec (1 ≤ state_at x k) → entry_at y k ≡ entry_at x k
      go (inr q) d = Q q
      go (inl e) (yes there) =
          let a = X.told.probes k e there in
          let b = Y.told.probes k e (behind_entered g X Y B k there) in
          b.1.row ∙ ap (λ (m : ℕ). probe_row s (some m)) (sym (same_told k a.0 b.0 e a.1 b.1)) ∙ sym a.1.row
      go (inl e) (no out) = Y.shaped.row_new k (none (dec_le 1 (state_at y k))) ∙ sym (X.shaped.row_new k (omega arith))
        where
          none : Dec (1 ≤ state_at y k) → state_at y k ≡ 0
          none (yes w) = absurd (out (behind_entered g Y X C k w))
          none (no w) = omega arith

  -- jobs that are behind each other have the same rows, where queries told the same
  pub both_behind_rows : ((k : ℕ) → tells_completion (op s k) ≡ true → entry_at y k ≡ entry_at x k) → (k : ℕ) → entry_at y k ≡ entry_at x k
  both_behind_rows Q k = go (tells (op s k)) refl
    where
      go : (b : Bool) → tells (op s k) ≡ b → entry_at y k ≡ entry_at x k
      go true t = told_row k t (Q k)
      go false t = Y.shaped.row k t ∙ (both_behind_row k).1 ∙ sym (X.shaped.row k t)
