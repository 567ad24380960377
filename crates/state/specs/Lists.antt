-- The waiting lists: an operation appended, the k-th one removed, and the first one that passes a test. Assumes nothing.
use Rattle.std.specs.Prelude.{◌≡◌, refl, Bool, true, false, List, [], ◌∷◌, ◌++◌, ℕ, zero, suc, ◌+◌, ◌-◌, ◌*◌, ◌<◌, ◌≤◌, length, get_or, take, drop}
use Rattle.std.proofs.Common.{sym, ◌∙◌, ap, arith, add-one, eq-eqb, ne_eqb}
use Rattle.std.proofs.Math.Option.{none, some}
use Rattle.std.proofs.Math.Decide.{ℕ_discrete}
use Rattle.rules.specs.Sheet.{two}
use Rattle.rules.specs.Step.{splice, without, first_by}
use Rattle.rules.specs.Report.{low_two}
use Rattle.laws.specs.Tests.{true_not_false}
use Rattle.laws.specs.Splice.{Same, splice_apart}
use Rattle.words.specs.Two.{two_same, two_within, two_put}
use Rattle.words.specs.Putting.{part_length, part_at}
use Rattle.words.specs.Tab.{tab, drop_at, tab_same, tab_snoc, tab_out, tab_at, tab_length}
use Rattle.state.specs.Layout.{word_at}
use Rattle.state.specs.Decoded.{words_in}

pub words_same : (c d : List ℕ) (base n : ℕ) → Same base (word_at base n) c d → words_in c base n ≡ words_in d base n
unfolding words_in
words_same c d base n e = tab_same (λ k. two c (word_at base k)) (λ k. two d (word_at base k)) 0 n (λ k l u. two_same c d (word_at base k) (λ j a b. e j (omega arith) (omega arith)))

pub words_at : (c : List ℕ) (base n k : ℕ) → k < n → get_or (words_in c base n) k 0 ≡ two c (word_at base k)
unfolding words_in
words_at c base n k l = tab_at (λ j. two c (word_at base j)) n k 0 l

pub words_length : (c : List ℕ) (base n : ℕ) → length (words_in c base n) ≡ n
unfolding words_in
words_length c base n = tab_length (λ k. two c (word_at base k)) 0 n

-- one appended
pub words_append : (c : List ℕ) (base n v : ℕ) → v < 65536 → word_at base n + 2 ≤ length c → words_in (splice c (word_at base n) (low_two v)) base (n + 1) ≡ words_in c base n ++ (v ∷ [])
unfolding words_in low_two
words_append c base n v f h =
    let d = splice c (word_at base n) (low_two v) in
    let old : tab (λ k. two d (word_at base k)) 0 n ≡ tab (λ k. two c (word_at base k)) 0 n =
    words_same d c base n (splice_apart c (word_at base n) (low_two v) h base (word_at base n) (omega arith)) in
    ap (λ (k : ℕ). tab (λ j. two d (word_at base j)) 0 k) (add-one n)
    ∙ (tab_snoc (λ k. two d (word_at base k)) n
    ∙ (ap (λ (xs : List ℕ). xs ++ (two d (word_at base n) ∷ [])) old ∙ ap (λ (z : ℕ). tab (λ k. two c (word_at base k)) 0 n ++ (z ∷ [])) (two_put c (word_at base n) v f h)))

-- what removing the k-th of n + 1 puts at its place: the entries behind it
abbrev pub behind : List ℕ → (base n k : ℕ) → List ℕ
behind c base n k = take (2 * (n - k)) (drop (word_at base k + 2) c)

pub words_remove : (c : List ℕ) (base n k : ℕ) → k < n + 1 → word_at base (n + 1) ≤ length c → words_in (splice c (word_at base k) (behind c base n k)) base n ≡ drop_at k (words_in c base (n + 1))
unfolding words_in two
words_remove c base n k l h =
    let vs = behind c base n k in
    let d = splice c (word_at base k) vs in
    let long : length vs ≡ 2 * (n - k) = part_length c (word_at base k + 2) (2 * (n - k)) (omega arith) in
    let moved : (j : ℕ) → k ≤ j → j < n → two d (word_at base j) ≡ two c (word_at base (suc j)) =
    λ j a b.
    let m = 2 * (j - k) in
    let e : word_at base k + m ≡ word_at base j = omega arith in
    let p : (word_at base k + 2) + m ≡ word_at base (suc j) = omega arith in
    let q : (word_at base k + 2) + (m + 1) ≡ word_at base (suc j) + 1 = omega arith in
    ap (λ (i : ℕ). two d i) (sym e)
    ∙ (two_within c (word_at base k) vs (omega arith) m (omega arith)
    ∙ ((ap (λ (x : ℕ). x + 256 * get_or vs (m + 1) 0) (part_at c (word_at base k + 2) (2 * (n - k)) m (omega arith) ∙ ap (λ (i : ℕ). get_or c i 0) p))
    ∙ ap (λ (x : ℕ). get_or c (word_at base (suc j)) 0 + 256 * x) (part_at c (word_at base k + 2) (2 * (n - k)) (m + 1) (omega arith) ∙ ap (λ (i : ℕ). get_or c i 0) q))) in
    tab_out (λ j. two d (word_at base j)) (λ j. two c (word_at base j)) n k (omega arith)
    (λ j u. two_same d c (word_at base j) (splice_apart c (word_at base k) vs (omega arith) (word_at base j) (word_at base j + 2) (omega arith)))
    moved
    ∙ ap (λ (i : ℕ). drop_at k (tab (λ j. two c (word_at base j)) 0 i)) (sym (add-one n))

-- v is the k-th of a list, and no earlier one is v
pub record FirstAt (xs : List ℕ) (k v : ℕ) : Type 0 where
  pub inside : k < length xs
  pub here : get_or xs k 0 ≡ v
  pub before : (j : ℕ) → j < k → get_or xs j 0 ≡ v → ⊥

-- then the list without its k-th is the list without v
pub without_at : (xs : List ℕ) (k v : ℕ) → FirstAt xs k v → without v xs ≡ drop_at k xs
unfolding without drop_at
without_at xs k v f = go xs k f.inside f.here f.before
  where
    go : (xs : List ℕ) (k : ℕ) → k < length xs → get_or xs k 0 ≡ v → ((j : ℕ) → j < k → get_or xs j 0 ≡ v → ⊥) → without v xs ≡ drop_at k xs
    go [] k l e o = refl
    go (x ∷ xs) zero l e o = rw (eq-eqb x v e)
    go (x ∷ xs) (suc k) l e o =
        rw (ne_eqb x v (o 0 (omega arith))) (ap (λ (ys : List ℕ). x ∷ ys) (go xs k (omega arith) e (λ j u q. o (suc j) (omega arith) q)))

-- a list that has no v
pub without_none : (xs : List ℕ) (v : ℕ) → ((j : ℕ) → j < length xs → get_or xs j 0 ≡ v → ⊥) → without v xs ≡ xs
unfolding without
without_none [] v o = refl
without_none (x ∷ xs) v o = rw (ne_eqb x v (o 0 (omega arith))) (ap (λ (ys : List ℕ). x ∷ ys) (without_none xs v (λ j u q. o (suc j) (omega arith) q)))

-- SEARCH: the tests at the first k entries failed
abbrev pub Failed : (ℕ → Bool) → List ℕ → (k : ℕ) → Type 0
Failed f xs k = (j : ℕ) → j < k → f (get_or xs j 0) ≡ false

pub failed_none : (f : ℕ → Bool) (xs : List ℕ) → Failed f xs 0
failed_none f xs j l = absurd (omega arith)

pub failed_more : (f : ℕ → Bool) (xs : List ℕ) (k : ℕ) → Failed f xs k → f (get_or xs k 0) ≡ false → Failed f xs (k + 1)
failed_more f xs k o e j l = go (ℕ_discrete j k)
  where
    go : Dec (j ≡ k) → f (get_or xs j 0) ≡ false
    go (yes q) = ap (λ (i : ℕ). f (get_or xs i 0)) q ∙ e
    go (no q) = o j (omega arith)

-- the first entry that passes is the answer of `first_by`, and stands nowhere before
pub first_found : (f : ℕ → Bool) (xs : List ℕ) (k : ℕ) → k < length xs → Failed f xs k → f (get_or xs k 0) ≡ true → first_by f xs ≡ some (get_or xs k 0)
unfolding first_by
first_found f [] k l o e = absurd (omega arith)
first_found f (x ∷ xs) zero l o e = rw e
first_found f (x ∷ xs) (suc k) l o e = rw (o 0 (omega arith)) (first_found f xs k (omega arith) (λ j u. o (suc j) (omega arith)) e)

pub first_stands : (f : ℕ → Bool) (xs : List ℕ) (k : ℕ) → k < length xs → Failed f xs k → f (get_or xs k 0) ≡ true → FirstAt xs k (get_or xs k 0)
first_stands f xs k l o e =
    record {
      inside = l;
      here = refl;
      before = λ j u q. true_not_false (ap f q ∙ e) (o j u);
    }

-- where all failed there is none
pub first_none : (f : ℕ → Bool) (xs : List ℕ) → Failed f xs (length xs) → first_by f xs ≡ none
unfolding first_by
first_none f [] o = refl
first_none f (x ∷ xs) o = rw (o 0 (omega arith)) (first_none f xs (λ j u. o (suc j) (omega arith)))
