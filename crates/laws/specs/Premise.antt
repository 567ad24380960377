-- The premise service (rules' Premise) accepts exactly the sheets that demand 3 speaks of.
--   premise_calm         number 0 exactly where the sheet passes check and is calm; premise_holds, calm_premise: its halves
--   calm_sheet_accepted  a calm sheet is accepted, with place 0
--   premise_most         24 at the most
--   premise_of_check     a refusal of check is the answer
--   behind_sources, behind_modes, behind_covers   the numbers behind 20, 21 and 22
-- Assumes nothing.
use Rattle.std.specs.Prelude.{◌≡◌, Bool, true, List, ◌↔◌, ℕ, ◌≤◌, ◌<◌}
use Rattle.std.proofs.Math.Path.{ap}
use Rattle.std.proofs.Common.{◌∙◌, arith}
use Rattle.std.proofs.Math.Bool.{not}
use borrow.Author.Tests.{eq-eqb, eqb-true, not-true}
use Rattle.rules.specs.Sheet.{Sheet, op, board, P_of, N_of, is_ready, tells_completion, sheet_in}
use Rattle.rules.specs.Refusal.{Refusal, refusal, accepted, or_else, first_broken, sheet_refusal}
use Rattle.rules.specs.Job.{in_attached}
use Rattle.rules.specs.Claims.{passes, calm, is_any_source}
use Rattle.rules.specs.Premise.{source_good, mode_good, cover_good, query_good, room_good, any_source_refusal, ready_refusal}
use Rattle.rules.specs.Premise.{cover_refusal, query_refusal, rooms_refusal, calm_refusal, premise_refusal}
use Rattle.laws.specs.Broken.{or_else_passed, or_else_stopped, broken_passed, broken_clear}
use Rattle.laws.specs.Calm.{calm_op, calm_covered, calm_rooms, calm_each, covers_covered, covered_covers, room_covered, covered_room, rooms_each}
use Rattle.laws.specs.Numbers.{or_else_most, broken_most, sheet_most}
use Rattle.laws.specs.Tabled.{or_else_first, or_else_second}

-- a search that refuses with a number above 0 and accepts has passed each index
passed_each : (n : ℕ) (f : ℕ → Bool) (total : ℕ) → 1 ≤ n → (first_broken n f total 0).number ≡ 0 → (j : ℕ) → j < total → f j ≡ true
passed_each n f total h e j l = broken_passed n f total 0 (λ z. absurd (omega arith)) e j (omega arith) (omega arith)

-- the numbers behind 20, 21 and 22
abbrev pub behind_covers : Sheet → Refusal
behind_covers s = or_else (query_refusal s) (rooms_refusal s)

abbrev pub behind_modes : Sheet → Refusal
behind_modes s = or_else (cover_refusal s) (behind_covers s)

abbrev pub behind_sources : Sheet → Refusal
behind_sources s = or_else (ready_refusal s) (behind_modes s)

module _ (s : Sheet) where
  -- 20 to 24 accept a sheet: it is calm
  pub unrefused_calm : (calm_refusal s).number ≡ 0 → calm s ≡ true
  unfolding
      calm_refusal any_source_refusal ready_refusal cover_refusal query_refusal rooms_refusal source_good mode_good cover_good
      query_good room_good
  unrefused_calm h =
      let sources = or_else_first (any_source_refusal s) (behind_sources s) h in
      let others = or_else_second (any_source_refusal s) (behind_sources s) h in
      let modes = or_else_first (ready_refusal s) (behind_modes s) others in
      let rest = or_else_second (ready_refusal s) (behind_modes s) others in
      let covered = or_else_first (cover_refusal s) (behind_covers s) rest in
      let both = or_else_second (cover_refusal s) (behind_covers s) rest in
      let queries = or_else_first (query_refusal s) (rooms_refusal s) both in
      let rooms = or_else_second (query_refusal s) (rooms_refusal s) both in
      calm_each s
      (λ k l. (
        not-true (is_any_source (op s k)) (passed_each 20 (source_good s) (N_of s) (omega arith) sources k (omega arith)),
        not-true (is_ready (op s k)) (passed_each 21 (mode_good s) (N_of s) (omega arith) modes k (omega arith)),
        not-true (tells_completion (op s k)) (passed_each 23 (query_good s) (N_of s) (omega arith) queries k (omega arith)),
      ))
      (λ r l. covers_covered in_attached s.ops (board s r)
      (passed_each 22 (cover_good s) (P_of s) (omega arith) covered r (omega arith)))
      (λ r l. room_covered s.ops (board s r) (passed_each 24 (room_good s) (P_of s) (omega arith) rooms r (omega arith)))

  -- and back
  pub calm_unrefused : calm s ≡ true → calm_refusal s ≡ accepted
  unfolding
      calm_refusal any_source_refusal ready_refusal cover_refusal query_refusal rooms_refusal source_good mode_good cover_good
      query_good room_good refusal
  calm_unrefused c =
      let sources : any_source_refusal s ≡ accepted =
      broken_clear 20 (source_good s) (N_of s) 0 (λ k a b. ap not (calm_op s c k (omega arith)).0) in
      let modes : ready_refusal s ≡ accepted =
      broken_clear 21 (mode_good s) (N_of s) 0 (λ k a b. ap not (calm_op s c k (omega arith)).1) in
      let covered : cover_refusal s ≡ accepted =
      broken_clear 22 (cover_good s) (P_of s) 0
      (λ r a b. covered_covers in_attached s.ops (board s r) (calm_covered s c r (omega arith))) in
      let queries : query_refusal s ≡ accepted =
      broken_clear 23 (query_good s) (N_of s) 0 (λ k a b. ap not (calm_op s c k (omega arith)).2) in
      let rooms : rooms_refusal s ≡ accepted =
      broken_clear 24 (room_good s) (P_of s) 0
      (λ r a b. covered_room s.ops (board s r) (rooms_each s (calm_rooms s c) r (omega arith))) in
      or_else_passed (any_source_refusal s) (behind_sources s) (ap (λ (f : Refusal). f.number) sources)
      ∙ (or_else_passed (ready_refusal s) (behind_modes s) (ap (λ (f : Refusal). f.number) modes)
      ∙ (or_else_passed (cover_refusal s) (behind_covers s) (ap (λ (f : Refusal). f.number) covered)
      ∙ (or_else_passed (query_refusal s) (rooms_refusal s) (ap (λ (f : Refusal). f.number) queries) ∙ rooms)))

  pub calm_most : (calm_refusal s).number ≤ 24
  unfolding calm_refusal any_source_refusal ready_refusal cover_refusal query_refusal rooms_refusal
  calm_most =
      or_else_most 24 (any_source_refusal s) (behind_sources s) (broken_most 20 24 (source_good s) (N_of s) 0 (omega arith))
      (or_else_most 24 (ready_refusal s) (behind_modes s) (broken_most 21 24 (mode_good s) (N_of s) 0 (omega arith))
      (or_else_most 24 (cover_refusal s) (behind_covers s) (broken_most 22 24 (cover_good s) (P_of s) 0 (omega arith))
      (or_else_most 24 (query_refusal s) (rooms_refusal s) (broken_most 23 24 (query_good s) (N_of s) 0 (omega arith))
      (broken_most 24 24 (room_good s) (P_of s) 0 (omega arith)))))

module _ (bs : List ℕ) where
  pub premise_holds : (premise_refusal bs).number ≡ 0 → (passes bs ≡ true) × (calm (sheet_in bs) ≡ true)
  unfolding premise_refusal passes
  premise_holds h = (
    eq-eqb (sheet_refusal bs).number 0 (or_else_first (sheet_refusal bs) (calm_refusal (sheet_in bs)) h),
    unrefused_calm (sheet_in bs) (or_else_second (sheet_refusal bs) (calm_refusal (sheet_in bs)) h),
  )

  -- place 0 too
  pub calm_sheet_accepted : passes bs ≡ true → calm (sheet_in bs) ≡ true → premise_refusal bs ≡ accepted
  unfolding premise_refusal passes
  calm_sheet_accepted p c =
      or_else_passed (sheet_refusal bs) (calm_refusal (sheet_in bs)) (eqb-true (sheet_refusal bs).number 0 p)
      ∙ calm_unrefused (sheet_in bs) c

  pub calm_premise : (passes bs ≡ true) × (calm (sheet_in bs) ≡ true) → (premise_refusal bs).number ≡ 0
  unfolding refusal
  calm_premise h = ap (λ (f : Refusal). f.number) (calm_sheet_accepted h.0 h.1)

  pub premise_calm : ((premise_refusal bs).number ≡ 0) ↔ ((passes bs ≡ true) × (calm (sheet_in bs) ≡ true))
  premise_calm = (premise_holds, calm_premise)

  pub premise_of_check : ((sheet_refusal bs).number ≡ 0 → ⊥) → premise_refusal bs ≡ sheet_refusal bs
  unfolding premise_refusal
  premise_of_check h = or_else_stopped (sheet_refusal bs) (calm_refusal (sheet_in bs)) h

  pub premise_most : (premise_refusal bs).number ≤ 24
  unfolding premise_refusal
  premise_most =
      let l = sheet_most bs in
      or_else_most 24 (sheet_refusal bs) (calm_refusal (sheet_in bs)) (omega arith) (calm_most (sheet_in bs))
