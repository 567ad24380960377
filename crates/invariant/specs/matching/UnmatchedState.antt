-- The state of an entered operation that is not matched: what is only a waiting half is finished, a send whose message is kept in a
-- store is buffered, any other send and every receive is pending.
--   unmatched_send, unmatched_receive, unmatched_only_half    by the kind
--   unmatched_plain     an operation whose kind alone decides, as of all but standard sends
--   receive_state       a receive, which is not kept
--   unmatched_kept      one in state 2 is kept in the store of its kind
--   unmatched_same      the same of an operation with another name
-- Assumes nothing.
use Rattle.std.specs.Prelude.{◌≡◌, ◌⊎◌, Bool, false, ℕ, ◌<◌}
use Rattle.std.proofs.Math.Path.{refl, ap, subst}
use Rattle.std.proofs.Common.{sym, ◌∙◌, inl, inr, arith}
use Rattle.std.proofs.Math.Bool.{true, cond}
use Rattle.rules.specs.Sheet.{Sheet, op, board, rank_of, is_send, is_receive, only_half, is_standard, is_buffered}
use Rattle.rules.specs.Job.{in_attached, in_room}
use Rattle.rules.specs.Step.{kept_in, store_of}
use Rattle.laws.specs.Tests.{true_not_false, not_so}
use Rattle.invariant.specs.sheet.Kinds.{send_not_only_half, receive_not_only_half, receive_not_buffered, receive_not_standard, standard_not_buffered}
use Rattle.invariant.specs.Invariant.{unmatched_state, Keeps, Unmatched}

module _ (s : Sheet) (i : ℕ) where
  -- a standard send of a board that has a room
  abbrev InRoom : Type 0
  InRoom = (is_standard (op s i) ≡ true) × (0 < (board s (rank_of s i)).room)

  pub unmatched_send : (k : Bool) → is_send (op s i) ≡ true → unmatched_state k (op s i) ≡ cond k 2 1
  unfolding unmatched_state
  unmatched_send k e = ap (λ (c : Bool). cond c 5 (cond k 2 1)) (send_not_only_half (op s i) e)

  pub unmatched_only_half : (k : Bool) → only_half (op s i) ≡ true → unmatched_state k (op s i) ≡ 5
  unfolding unmatched_state
  unmatched_only_half k e = ap (λ (c : Bool). cond c 5 (cond k 2 1)) e

  pub receive_state : {k : Bool} → k ≡ false → is_receive (op s i) ≡ true → unmatched_state k (op s i) ≡ 1
  unfolding unmatched_state
  receive_state {k} h e =
      ap (λ (c : Bool). cond c 5 (cond k 2 1)) (receive_not_only_half (op s i) e) ∙ ap (λ (c : Bool). cond c 2 1) h

  -- a receive is never kept
  receive_never : {k : Bool} → is_receive (op s i) ≡ true → Keeps s i k → k ≡ false
  receive_never {k} e K = not_so k (λ t. go (K.only t))
    where
      go : (is_buffered (op s i) ≡ true) ⊎ InRoom → ⊥
      go (inl b) = true_not_false b (receive_not_buffered (op s i) e)
      go (inr b) = true_not_false b.0 (receive_not_standard (op s i) e)

  pub unmatched_receive : {v : ℕ} → is_receive (op s i) ≡ true → Unmatched s i v → v ≡ 1
  unmatched_receive e U = U.is ∙ receive_state (receive_never e U.keeps) e

  -- where the kind alone decides
  pub unmatched_plain : {v : ℕ} → is_standard (op s i) ≡ false → v ≡ unmatched_state (is_buffered (op s i)) (op s i) → Unmatched s i v
  unmatched_plain other h =
      record {
        kept = is_buffered (op s i);
        keeps =
            record {
              buffered = λ b. b;
              covered = λ c d l. true_not_false d other;
              only = λ b. inl b;
            };
        is = h;
      }

  -- what is in state 2 is kept in the store of its kind
  pub unmatched_kept : {v : ℕ} → Unmatched s i v → v ≡ 2 → kept_in (store_of (op s i)) (op s i) ≡ true
  unfolding unmatched_state kept_in store_of
  unmatched_kept {v} U two = go (only_half (op s i)) U.kept refl (sym U.is ∙ two)
    where
      by : (is_buffered (op s i) ≡ true) ⊎ InRoom → kept_in (cond (is_buffered (op s i)) in_attached in_room) (op s i) ≡ true
      by (inl b) = subst (λ (c : Bool). kept_in (cond c in_attached in_room) (op s i) ≡ true) (sym b) b
      by (inr b) =
          subst (λ (c : Bool). kept_in (cond c in_attached in_room) (op s i) ≡ true)
          (sym (standard_not_buffered (op s i) b.0)) b.0

      go : (a k : Bool) → U.kept ≡ k → ◌≡◌ {A = ℕ} (cond a 5 (cond k 2 1)) 2 →
          kept_in (cond (is_buffered (op s i)) in_attached in_room) (op s i) ≡ true
      go true k e h = absurd (omega arith)
      go false true e h = by (U.keeps.only e)
      go false false e h = absurd (omega arith)

pub unmatched_same : {s : Sheet} {i j v u : ℕ} → i ≡ j → v ≡ u → Unmatched s j u → Unmatched s i v
unmatched_same {s} {i} {j} {v} {u} e h U =
    subst (λ (z : ℕ). Unmatched s z v) (sym e) (subst (λ (z : ℕ). Unmatched s j z) (sym h) U)
