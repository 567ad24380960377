-- The search for the first operation that breaks a rule, as refusals 6 and 7 make it: board by board, and in a board's script
-- operation by operation. Two records say how far a search has come; each has a law for its beginning, for one more, for a
-- refusal and for its end. The rule is any test f of an operation's index, n the number that it is refused with.
-- Assumes nothing.
use Rattle.std.specs.Prelude.{◌≡◌, Bool, true, false, not, ℕ, ◌+◌, ◌-◌, ◌<◌, ◌≤◌}
use Rattle.std.proofs.Common.{sym, ◌∙◌, ap, arith, add-one}
use Rattle.rules.specs.Sheet.{Sheet, board, P_of, N_of, counts_before, rank_of}
use Rattle.rules.specs.Refusal.{Refusal, or_else, first_broken}
use Rattle.rules.specs.Service.{Answers}
use Rattle.laws.specs.Answers.{told_is, told_same, answers_number, Sought, sought_all, sought_more, sought_bad}
use Rattle.laws.specs.Broken.{or_else_passed, or_else_stopped, broken_none, broken_part}
use Rattle.laws.specs.Ranks.{counts_none, script_next, script_before, rank_in_script}
use Rattle.laws.specs.Tabled.{Tabled}

-- the search over all operations, and over the script of board r alone
abbrev pub all_broken : (number : ℕ) → (ℕ → Bool) → Sheet → Refusal
all_broken n f s = first_broken n f (N_of s) 0

abbrev pub script_broken : (number : ℕ) → (ℕ → Bool) → Sheet → (r : ℕ) → Refusal
script_broken n f s r = first_broken n f (board s r).count (board s r).first

-- and from board r on
abbrev pub broken_from : (number : ℕ) → (ℕ → Bool) → Sheet → (r : ℕ) → Refusal
broken_from n f s r = first_broken n f (N_of s - counts_before s r) (counts_before s r)

-- a script lies inside the operations
pub script_inside : (s : Sheet) → Tabled s → (r : ℕ) → r < P_of s → (board s r).first + (board s r).count ≤ N_of s
script_inside s t r l = let e = script_before s t.consecutive r (P_of s) l (omega arith) in omega (arith, t.total)

-- BOARD BY BOARD: nothing is refused before the script of board r
pub record Passed (s : Sheet) (n : ℕ) (f : ℕ → Bool) (r : ℕ) : Type 0 where
  pub tabled : Tabled s
  pub refuses : n ≡ 0 → ⊥
  pub within : r ≤ P_of s
  pub left : all_broken n f s ≡ broken_from n f s r

pub passed_none : {s : Sheet} {n : ℕ} {f : ℕ → Bool} → Tabled s → (n ≡ 0 → ⊥) → Passed s n f 0
passed_none {s} {n} {f} t h =
    record {
      tabled = t;
      refuses = h;
      within = omega arith;
      left = rw (counts_none s) (ap (λ (k : ℕ). first_broken n f k 0) (omega arith));
    }

module _ {s : Sheet} {n : ℕ} {f : ℕ → Bool} {r : ℕ} (q : Passed s n f r) where
  -- the script of board r, else what is behind it
  split : r < P_of s → all_broken n f s ≡ or_else (script_broken n f s r) (broken_from n f s (r + 1))
  split l =
      let first = q.tabled.consecutive r l in
      let behind : (board s r).first + (board s r).count ≡ counts_before s (r + 1) = rw (add-one r) (script_next s q.tabled.consecutive r l) in
      q.left
      ∙ (ap (λ (k : ℕ). first_broken n f (N_of s - k) k) (sym first)
      ∙ (broken_part n f (N_of s) (board s r).first (board s r).count q.refuses (script_inside s q.tabled r l)
      ∙ ap (λ (k : ℕ). or_else (script_broken n f s r) (first_broken n f (N_of s - k) k)) behind))

  module _ (k p : ℕ) (l : r < P_of s) (told : Answers (script_broken n f s r) k p) where
    number : k ≡ (script_broken n f s r).number
    number = answers_number (script_broken n f s r) k p told

    -- the script is accepted: the search goes on
    pub passed_more : k ≡ 0 → Passed s n f (r + 1)
    passed_more e =
        record {
          tabled = q.tabled;
          refuses = q.refuses;
          within = omega arith;
          left = split l ∙ or_else_passed (script_broken n f s r) (broken_from n f s (r + 1)) (sym number ∙ e);
        }

    -- it is refused: so is the sheet
    pub passed_bad : (k ≡ 0 → ⊥) → Answers (all_broken n f s) k p
    passed_bad d =
        told_same (all_broken n f s) (script_broken n f s r) k p
        (split l ∙ or_else_stopped (script_broken n f s r) (broken_from n f s (r + 1)) (λ z. d (number ∙ z)))
        told

  -- behind the last script nothing is refused at all
  pub passed_all : P_of s ≤ r → Answers (all_broken n f s) 0 0
  passed_all l =
      let last : r ≡ P_of s = omega (arith, q.within) in
      let all : counts_before s r ≡ N_of s = ap (λ (k : ℕ). counts_before s k) last ∙ q.tabled.total in
      told_is (all_broken n f s) 0 0 (q.left ∙ broken_none n f (N_of s - counts_before s r) (counts_before s r) (omega arith))

-- OPERATION BY OPERATION: nothing is refused in the script of board r before operation i; the script ends before `end`
pub record Searched (s : Sheet) (n : ℕ) (f : ℕ → Bool) (r i end : ℕ) : Type 0 where
  pub tabled : Tabled s
  pub ranked : r < P_of s
  pub lower : (board s r).first ≤ i
  pub end_is : end ≡ (board s r).first + (board s r).count
  pub sought : Sought (script_broken n f s r) n f i end

pub searched_none : {s : Sheet} {n : ℕ} {f : ℕ → Bool} {r i end : ℕ} → Tabled s → r < P_of s
    → i ≡ (board s r).first → end ≡ i + (board s r).count → Searched s n f r i end
searched_none {s} {n} {f} {r} {i} {end} t l a b =
    let long : (board s r).count ≡ end - i = omega arith in
    record {
      tabled = t;
      ranked = l;
      lower = omega arith;
      end_is = omega arith;
      sought =
          record {
            upper = omega arith;
            left = ap (λ (k : ℕ). first_broken n f k (board s r).first) long ∙ ap (λ (k : ℕ). first_broken n f (end - i) k) (sym a);
          };
    }

module _ {s : Sheet} {n : ℕ} {f : ℕ → Bool} {r i end : ℕ} (q : Searched s n f r i end) where
  -- behind the last operation of the script nothing is refused in it
  pub searched_all : end ≤ i → Answers (script_broken n f s r) 0 0
  searched_all l = sought_all q.sought l

  module _ (l : i < end) where
    -- operation i is one of the sheet's, and of board r
    pub searched_inside : i < N_of s
    searched_inside = omega (arith, q.end_is, script_inside s q.tabled r q.ranked)

    pub searched_rank : rank_of s i ≡ r
    searched_rank = rank_in_script s q.tabled.consecutive r i q.ranked q.lower (omega (arith, q.end_is))

    -- what the code found of operation i: it keeps the rule and the search goes on, or it is the place
    module _ {good : Bool} (told : good ≡ f i) where
      pub searched_more : not good ≡ false → Searched s n f r (i + 1) end
      searched_more h =
          record {
            tabled = q.tabled;
            ranked = q.ranked;
            lower = omega (arith, q.lower);
            end_is = q.end_is;
            sought = sought_more q.sought l told h;
          }

      pub searched_bad : not good ≡ true → Answers (script_broken n f s r) n i
      searched_bad h = sought_bad q.sought l told h
