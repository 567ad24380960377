-- The earliest that fits: what a search over a waiting list in scratch has found is what rules' searches find (document 01,
-- "How a board steps"). Assumes nothing.
use Rattle.std.specs.Prelude.{◌≡◌, Option, None, Some, Bool, true, ◌&&◌, List, eqb, length}
use Rattle.std.specs.Option.{MatchOption}
use Rattle.std.proofs.Math.Path.{refl, ap, subst}
use Rattle.std.proofs.Common.{sym, ◌∙◌, zero-add}
use Rattle.std.proofs.Math.Bool.{false}
use Rattle.std.proofs.Math.Option.{none, some}
use Prim.Native.Nat.{ℕ, zero, suc, ◌+◌, ◌<◌, ◌≤◌}
use native.Mathlib.Omega.{arith}
use Rattle.std.proofs.Math.Nat.{add-zero}
use Rattle.rules.specs.Limits.{most_ops, most_boards, scratch_size}
use Rattle.rules.specs.Sheet.{Sheet, sheet_in, op, N_of, rank_of, two}
use Rattle.rules.specs.Step.{first_by, fits_with}
use Rattle.laws.specs.Laid.{Laid}
use Rattle.laws.specs.Tests.{cond_true, cond_false}
use Rattle.words.specs.Tab.{tab}
use Rattle.waiting.specs.Envelopes.{envelope_fits}
use Rattle.waiting.proofs.Messages.{fits_with_is}
use Rattle.state.specs.declared.Queue.{Queue}
use Rattle.state.specs.declared.Queue.TheVariants.{Messages, Receives}
use Rattle.state.specs.Layout.{word_at}
use Rattle.state.specs.Queues.{base_of}
use Rattle.state.specs.Decoded.{words_in}
use Rattle.state.specs.Indexed.{Indexed}

-- what a reader of ranks and fields asks
pub record Readable (bs c : List ℕ) : Type 0 where
  pub laid : Laid bs
  pub few : N_of (sheet_in bs) ≤ most_ops
  pub roomy : scratch_size ≤ length c
  pub tables : Indexed (sheet_in bs) c
  pub ranked : (i : ℕ) → i < N_of (sheet_in bs) → rank_of (sheet_in bs) i < most_boards

-- a fit, from its fields as they were read
pub fits_read : (s : Sheet) (m q pm rq rm cm tm pq cq tq : ℕ) → pm ≡ (op s m).peer → rq ≡ rank_of s q → rm ≡ rank_of s m →
    cm ≡ (op s m).comm → tm ≡ (op s m).tag → pq ≡ (op s q).peer → cq ≡ (op s q).comm → tq ≡ (op s q).tag →
    (eqb pm rq && envelope_fits rm cm tm pq cq tq) ≡ fits_with s m q
fits_read s m q pm rq rm cm tm pq cq tq e f g h i j k l = cc (fits_with_is s m q)

-- operation i, which searches a list, fits operation j of that list
unfoldable pub pair_fits : Queue → Sheet → (i j : ℕ) → Bool
pair_fits Messages s i j = fits_with s j i
pair_fits Receives s i j = fits_with s i j

-- a list of `count` operations of the sheet stands in scratch
pub record Listed (bs c : List ℕ) (list : Queue) (count : ℕ) : Type 0 where
  pub short : count ≤ most_ops
  pub members : (k : ℕ) → k < count → two c (word_at (base_of list) k) < N_of (sheet_in bs)

-- k is the first index below `count` at which a test passes
pub record FirstBelow (f : ℕ → Bool) (count k : ℕ) : Type 0 where
  pub inside : k < count
  pub before : (j : ℕ) → j < k → f j ≡ false
  pub found : f k ≡ true

-- the first index below `count` at which a test passes, or none where none does
abbrev pub First : (ℕ → Bool) → (count : ℕ) → Option ℕ → Type 0
First f count None = (j : ℕ) → j < count → f j ≡ false
First f count (Some k) = FirstBelow f count k

pub first_of : (f : ℕ → Bool) (count : ℕ) (o : Option ℕ) →
    MatchOption o ((j : ℕ) → 0 ≤ j → j < count → f j ≡ false)
    (λ k. (0 ≤ k) × (k < count) × (f k ≡ true) × ((j : ℕ) → 0 ≤ j → j < k → f j ≡ false)) → First f count o
first_of f count None h = λ j l. h j (omega arith) l
first_of f count (Some k) h =
    record {
      inside = h.1;
      before = λ j l. h.3 j (omega arith) l;
      found = h.2;
    }

module _ (f : ℕ → Bool) (g : ℕ → ℕ) where
  tab_first : (i n k : ℕ) → k < n → ((j : ℕ) → j < k → f (g (i + j)) ≡ false) → f (g (i + k)) ≡ true → first_by f (tab g i n) ≡ some (g (i + k))
  unfolding first_by tab
  tab_first i zero k l b t = absurd (omega arith)
  tab_first i (suc n) zero l b t =
      let e : i + 0 ≡ i = add-zero i in
      rw e (cond_true (f (g i)) (some (g i)) (first_by f (tab g (suc i) n)) (rw e at t))
  tab_first i (suc n) (suc k) l b t =
      let e : i + suc k ≡ suc i + k = omega arith in
      let z : f (g i) ≡ false = rw (add-zero i) at (b 0 (omega arith)) in
      rw e (cond_false (f (g i)) (some (g i)) (first_by f (tab g (suc i) n)) z
      ∙ tab_first (suc i) n k (omega arith) (λ j h. subst (λ (m : ℕ). f (g m) ≡ false) (omega arith) (b (suc j) (omega arith))) (subst (λ (m : ℕ). f (g m) ≡ true) e t))

  tab_first_none : (i n : ℕ) → ((j : ℕ) → j < n → f (g (i + j)) ≡ false) → first_by f (tab g i n) ≡ none
  unfolding first_by tab
  tab_first_none i zero b = refl
  tab_first_none i (suc n) b =
      let z : f (g i) ≡ false = rw (add-zero i) at (b 0 (omega arith)) in
      cond_false (f (g i)) (some (g i)) (first_by f (tab g (suc i) n)) z
      ∙ tab_first_none (suc i) n (λ j h. subst (λ (m : ℕ). f (g m) ≡ false) (omega arith) (b (suc j) (omega arith)))

-- the first that passes, of the list that stands at base
module _ (f : ℕ → Bool) (c : List ℕ) (base count : ℕ) where
  pub first_found : (k : ℕ) → FirstBelow (λ j. f (two c (word_at base j))) count k → first_by f (words_in c base count) ≡ some (two c (word_at base k))
  unfolding words_in
  first_found k h =
      let g : ℕ → ℕ = λ j. two c (word_at base j) in
      tab_first f g 0 count k h.inside (λ j q. subst (λ (m : ℕ). f (g m) ≡ false) (sym (zero-add j)) (h.before j q)) (subst (λ (m : ℕ). f (g m) ≡ true) (sym (zero-add k)) h.found)
      ∙ ap (λ (m : ℕ). some (g m)) (zero-add k)

  pub first_missing : First (λ j. f (two c (word_at base j))) count None → first_by f (words_in c base count) ≡ none
  unfolding words_in
  first_missing h =
      let g : ℕ → ℕ = λ j. two c (word_at base j) in
      tab_first_none f g 0 count (λ j q. subst (λ (m : ℕ). f (g m) ≡ false) (sym (zero-add j)) (h j q))
