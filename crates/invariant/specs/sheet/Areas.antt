-- A receive that still holds its slot has its area to itself. Let r < q be receives of one board, where r takes a slot, and let
-- no operation between them that frees a slot wait for r. Then none between them frees r's slot at all: the first that did would
-- wait for r (Waits). So r holds its slot at q, and rule 7 keeps their areas apart.
--   rule_area     rule 7 of areas, read at an operation that names no slot
--   held_apart    the law
-- Assumes nothing.
use Rattle.std.specs.Prelude.{◌≡◌, true, false, ◌&&◌, not, ℕ, suc, ◌-◌, ◌<◌, eqb}
use Rattle.std.proofs.Common.{sym, arith}
use Rattle.std.proofs.Math.Option.{some}
use Rattle.std.proofs.lemmas.Bool.{not-true}
use Rattle.rules.specs.Sheet.{Sheet, op, N_of, rank_of, is_receive, takes_slot, names_slot, frees_slot}
use Rattle.rules.specs.Refusal.{freed, holds, slot_held, share, area_taken}
use Rattle.rules.specs.Step.{waited}
use Rattle.laws.specs.Tests.{and_left, and_right, and_both, not_so, true_not_false}
use Rattle.laws.specs.Below.{below_some}
use Rattle.invariant.specs.sheet.Valid.{Valid}
use Rattle.invariant.specs.sheet.Kinds.{receive_not_names}
use Rattle.invariant.specs.sheet.Waits.{frees, FirstFreed, freed_first, between_ranked, unfreed_holds, rule_read, first_waits}

-- RULE 7 of areas, read at an operation that names no slot
module _ (s : Sheet) (g : Valid s) (i : ℕ) (l : i < N_of s) (names_none : names_slot (op s i) ≡ false) where
  -- as a receive it shares no byte with a receive that holds its slot
  pub rule_area : (j : ℕ) → j < i → holds s j i ≡ true → is_receive (op s j) ≡ true → is_receive (op s i) ≡ true →
      share (op s j) (op s i) ≡ false
  unfolding area_taken
  rule_area j h held receives receives_here =
      not_so (share (op s j) (op s i))
      (λ shared.
      true_not_false
      (and_both receives_here (below_some i (λ k. holds s k i && (is_receive (op s k) && share (op s k) (op s i))) j h
      (and_both held (and_both receives shared))))
      (not-true (is_receive (op s i) && area_taken s i)
      (and_right (not (takes_slot (op s i) && slot_held s i (op s i).slot))
      (not (is_receive (op s i) && area_taken s i)) (rule_read s g i l names_none))))

-- RECEIVES r AND q of one board, where r takes a slot, and nothing between them that frees a slot waits for r
module _ (s : Sheet) (g : Valid s) (r q : ℕ) (l : r < q) (inside : q < N_of s) (same : rank_of s r ≡ rank_of s q)
    (taken : takes_slot (op s r) ≡ true)
    (never : (w : ℕ) → r < w → w < q → rank_of s w ≡ rank_of s r → frees_slot (op s w) ≡ true → waited s w ≡ some r → ⊥) where
  -- let w be the first that frees r's slot: it waits for r
  first_freed : (w : ℕ) → r < w → w < q → ((v : ℕ) → r < v → v < w → frees s (op s r).slot v ≡ false) →
      frees s (op s r).slot w ≡ true → ⊥
  first_freed w a b before h =
      let ranked = between_ranked s g r w q (omega arith) (omega arith) inside same in
      never w a b (sym ranked) (and_left (frees_slot (op s w)) (eqb (op s w).slot (op s r).slot) h)
      (first_waits s g r w a (omega arith) ranked taken before h)

  -- so there is none
  pub held_at : holds s r q ≡ true
  held_at =
      unfreed_holds s r q l same taken
      (not_so (freed s (q - suc r) (suc r) (op s r).slot)
      (λ h.
      let f : FirstFreed s (op s r).slot (q - suc r) (suc r) = freed_first s (op s r).slot (q - suc r) (suc r) h in
      first_freed f.at (omega (arith, f.low)) (omega (arith, f.high)) (λ v a b. f.before v (omega arith) b) f.frees_it))

  pub held_apart : is_receive (op s r) ≡ true → is_receive (op s q) ≡ true → share (op s r) (op s q) ≡ false
  held_apart receives receives_later =
      rule_area s g q inside
      (receive_not_names (op s q) receives_later) r l held_at receives receives_later
