-- Refusal 5 as a walk over the board table: what holds before board r, one board more, and what the walk answers.
-- Assumes nothing.
use Rattle.std.specs.Prelude.{◌≡◌, refl, true, false, cond, ℕ, suc, ◌+◌, ◌-◌, ◌*◌, ◌<◌, ◌≤◌, eqb, Result}
use Rattle.std.proofs.Common.{sym, ◌∙◌, ap, arith, add-one, Result}
use Rattle.rules.specs.Limits.{most_inbox}
use Rattle.rules.specs.Sheet.{Sheet, board, P_of, N_of, counts_before, inbox_start}
use Rattle.rules.specs.Refusal.{Refusal, refusal, accepted, or_else, first_broken, board_good, boards_refusal}
use Rattle.rules.specs.Service.{Answers}
use Rattle.sheet.specs.declared.refusal.Refusal.{Refusal as Refused}
use Rattle.sheet.specs.declared.refusal.Rule.TheVariants.{Boards}
use Rattle.sheet.specs.Refused.{number_told, place_told, Refuses, KeptOr, kept_or}
use Rattle.laws.specs.Answers.{told_is, told_same}
use Rattle.laws.specs.Broken.{or_else_passed, or_else_stopped, broken_more, broken_here, broken_none}
use Rattle.laws.specs.Tabled.{board_entry}
use Rattle.laws.specs.Ranks.{counts_more, inbox_start_more, counts_none, inbox_start_none}

-- the search from board r on, and the test of the counts' total behind it
abbrev pub entries_broken : Sheet → (r : ℕ) → Refusal
entries_broken s r = first_broken 5 (board_good s) (P_of s - r) r

abbrev pub total_broken : Sheet → Refusal
total_broken s = cond (eqb (counts_before s (P_of s)) (N_of s)) accepted (refusal 5 (P_of s))

-- before board r: the sums over the boards passed, and nothing refused so far
pub record Walked (s : Sheet) (r sum total : ℕ) : Type 0 where
  pub within : r ≤ P_of s
  pub sum_is : sum ≡ counts_before s r
  pub total_is : total ≡ inbox_start s r
  pub small : sum ≤ 65536 * r
  pub fits : total ≤ most_inbox
  pub left : boards_refusal s ≡ or_else (entries_broken s r) (total_broken s)

pub walked_none : (s : Sheet) → Walked s 0 0 0
unfolding boards_refusal
walked_none s =
    record {
      within = omega arith;
      sum_is = sym (counts_none s);
      total_is = sym (inbox_start_none s);
      small = omega arith;
      fits = omega arith;
      left = ap (λ (n : ℕ). or_else (first_broken 5 (board_good s) n 0) (total_broken s)) (omega arith);
    }

module _ {s : Sheet} {r sum total : ℕ} (w : Walked s r sum total) where
  module _ (l : r < P_of s) where
    -- the inboxes up to board r
    pub walked_inboxes : (inbox : ℕ) → inbox ≡ (board s r).inbox → total + inbox ≡ inbox_start s (suc r)
    walked_inboxes inbox e = let starts = inbox_start_more s r l in omega (arith, w.total_is)

    -- a good entry: the walk goes on, with the board's count and inbox added
    pub walked_more : board_good s r ≡ true → (count inbox : ℕ) → count ≡ (board s r).count → count < 65536 → inbox ≡ (board s r).inbox
        → Walked s (r + 1) (sum + count) (total + inbox)
    walked_more good count inbox ec lc ei =
        let counts = counts_more s r l in
        let starts = walked_inboxes inbox ei in
        let next : r + 1 ≡ suc r = add-one r in
        let fits = (board_entry s r good).inbox in
        let on = broken_more 5 (board_good s) (P_of s - r) r (omega arith) good in
        let rest : entries_broken s r ≡ entries_broken s (r + 1) = on ∙ ap (λ (n : ℕ). first_broken 5 (board_good s) n (r + 1)) (omega arith) in
        record {
          within = omega arith;
          sum_is = rw next (omega (arith, w.sum_is));
          total_is = rw next starts;
          small = omega (arith, w.small);
          fits = omega arith;
          left = w.left ∙ ap (λ (f : Refusal). or_else f (total_broken s)) rest;
        }

    -- a bad entry is the answer
    pub walked_bad : board_good s r ≡ false → Answers (boards_refusal s) 5 r
    unfolding refusal
    walked_bad bad =
        let here : entries_broken s r ≡ refusal 5 r = broken_here 5 (board_good s) (P_of s - r) r (omega arith) bad in
        told_is (boards_refusal s) 5 r
        (w.left ∙ (ap (λ (f : Refusal). or_else f (total_broken s)) here ∙ or_else_stopped (refusal 5 r) (total_broken s) (λ z. absurd (omega arith))))

  -- behind the last board: the total of the counts decides
  pub walked_all : P_of s ≤ r → (n p : ℕ) (said : Result Unit Refused) → n ≡ N_of s → p ≡ P_of s → KeptOr (eqb sum n) Boards p said
      → Refuses (boards_refusal s) said
  unfolding refusal
  walked_all last n p said en ep k =
      let counted : sum ≡ counts_before s (P_of s) = w.sum_is ∙ ap (λ (m : ℕ). counts_before s m) (omega (arith, w.within)) in
      let total : total_broken s ≡ cond (eqb sum n) accepted (refusal 5 p) = rw (counted, en, ep) refl in
      let behind = w.left
      ∙ (ap (λ (f : Refusal). or_else f (total_broken s)) (broken_none 5 (board_good s) (P_of s - r) r (omega arith))
      ∙ (or_else_passed accepted (total_broken s) refl ∙ total)) in
      told_same (boards_refusal s) _ (number_told said) (place_told said) behind (kept_or (eqb sum n) Boards p said k)
