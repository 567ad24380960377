-- A table made of a function: entry k is f k. Every decoded component is such a table, so that a change of bytes is a change
-- of f, and these laws say what that does to the table. Assumes nothing.
use Rattle.std.specs.Prelude.{◌≡◌, length, get_or, set, replicate}
use Rattle.std.proofs.Math.Path.{refl, ap, ap₂}
use Rattle.std.proofs.Common.{◌∙◌, arith, zero-add}
use mathlib.Core.List.{List, [], ◌∷◌, ◌++◌}
use Prim.Native.Nat.{ℕ, zero, suc, ◌+◌, ◌<◌, ◌≤◌}

-- f i, f (i + 1) and so on, n of them
unfoldable pub tab : {A : Type 0} → (ℕ → A) → (i n : ℕ) → List A
tab f i zero = []
tab f i (suc n) = f i ∷ tab f (suc i) n

-- a list without its k-th entry
unfoldable pub drop_at : {A : Type 0} → (k : ℕ) → List A → List A
drop_at k [] = []
drop_at zero (x ∷ xs) = xs
drop_at (suc k) (x ∷ xs) = x ∷ drop_at k xs

module _ {A : Type 0} where
  pub tab_length : (f : ℕ → A) (i n : ℕ) → length (tab f i n) ≡ n
  unfolding tab
  tab_length f i zero = refl
  tab_length f i (suc n) = ap suc (tab_length f (suc i) n)

  tab_from : (f : ℕ → A) (i n k : ℕ) (d : A) → k < n → get_or (tab f i n) k d ≡ f (i + k)
  unfolding tab
  tab_from f i zero k d h = absurd (omega arith)
  tab_from f i (suc n) zero d h = ap f (omega arith)
  tab_from f i (suc n) (suc k) d h = tab_from f (suc i) n k d (omega arith) ∙ ap f (omega arith)

  pub tab_at : (f : ℕ → A) (n k : ℕ) (d : A) → k < n → get_or (tab f 0 n) k d ≡ f k
  tab_at f n k d h = tab_from f 0 n k d h ∙ ap f (zero-add k)

  -- functions that agree on the table's numbers
  pub tab_same : (f g : ℕ → A) (i n : ℕ) → ((k : ℕ) → i ≤ k → k < i + n → f k ≡ g k) → tab f i n ≡ tab g i n
  unfolding tab
  tab_same f g i zero e = refl
  tab_same f g i (suc n) e = ap₂ (λ (a : A) (xs : List A). a ∷ xs) (e i (omega arith) (omega arith)) (tab_same f g (suc i) n (λ k l u. e k (omega arith) (omega arith)))

  -- one entry changed
  tab_set_from : (f g : ℕ → A) (i n k : ℕ) (a : A) → k < n → f (i + k) ≡ a → ((j : ℕ) → i ≤ j → j < i + n → (j ≡ i + k → ⊥) → f j ≡ g j) → tab f i n ≡ set (tab g i n) k a
  unfolding tab
  tab_set_from f g i zero k a h e o = absurd (omega arith)
  tab_set_from f g i (suc n) zero a h e o =
      ap₂ (λ (x : A) (xs : List A). x ∷ xs) (ap f (omega arith) ∙ e) (tab_same f g (suc i) n (λ j l u. o j (omega arith) (omega arith) (omega arith)))
  tab_set_from f g i (suc n) (suc k) a h e o =
      ap₂ (λ (x : A) (xs : List A). x ∷ xs) (o i (omega arith) (omega arith) (omega arith))
      (tab_set_from f g (suc i) n k a (omega arith) (ap f (omega arith) ∙ e) (λ j l u d. o j (omega arith) (omega arith) (omega arith)))

  pub tab_set : (f g : ℕ → A) (n k : ℕ) (a : A) → k < n → f k ≡ a → ((j : ℕ) → j < n → (j ≡ k → ⊥) → f j ≡ g j) → tab f 0 n ≡ set (tab g 0 n) k a
  tab_set f g n k a h e o = tab_set_from f g 0 n k a h (ap f (zero-add k) ∙ e) (λ j l u d. o j (omega arith) (omega arith))

  -- one entry more
  tab_snoc_from : (f : ℕ → A) (i n : ℕ) → tab f i (suc n) ≡ tab f i n ++ (f (i + n) ∷ [])
  unfolding tab
  tab_snoc_from f i zero = ap (λ (a : A). a ∷ []) (ap f (omega arith))
  tab_snoc_from f i (suc n) =
      ap (λ (xs : List A). f i ∷ xs) (tab_snoc_from f (suc i) n ∙ ap (λ (a : A). tab f (suc i) n ++ (a ∷ [])) (ap f (omega arith)))

  pub tab_snoc : (f : ℕ → A) (n : ℕ) → tab f 0 (suc n) ≡ tab f 0 n ++ (f n ∷ [])
  tab_snoc f n = tab_snoc_from f 0 n ∙ ap (λ (a : A). tab f 0 n ++ (a ∷ [])) (ap f (zero-add n))

  -- one entry out: below k the entries stay, from k on each is the one that stood behind
  tab_out_from : (f g : ℕ → A) (i n k : ℕ) → k < suc n → ((j : ℕ) → i ≤ j → j < i + k → f j ≡ g j) → ((j : ℕ) → i + k ≤ j → j < i + n → f j ≡ g (suc j)) → tab f i n ≡ drop_at k (tab g i (suc n))
  unfolding tab drop_at
  tab_out_from f g i n zero h low high = tab_shift f g i n (λ j l u. high j (omega arith) u)
    where
      tab_shift : (f g : ℕ → A) (i n : ℕ) → ((j : ℕ) → i ≤ j → j < i + n → f j ≡ g (suc j)) → tab f i n ≡ tab g (suc i) n
      tab_shift f g i zero e = refl
      tab_shift f g i (suc n) e = ap₂ (λ (a : A) (xs : List A). a ∷ xs) (e i (omega arith) (omega arith)) (tab_shift f g (suc i) n (λ j l u. e j (omega arith) (omega arith)))
  tab_out_from f g i zero (suc k) h low high = absurd (omega arith)
  tab_out_from f g i (suc n) (suc k) h low high =
      ap₂ (λ (a : A) (xs : List A). a ∷ xs) (low i (omega arith) (omega arith))
      (tab_out_from f g (suc i) n k (omega arith) (λ j l u. low j (omega arith) (omega arith)) (λ j l u. high j (omega arith) (omega arith)))

  pub tab_out : (f g : ℕ → A) (n k : ℕ) → k < suc n → ((j : ℕ) → j < k → f j ≡ g j) → ((j : ℕ) → k ≤ j → j < n → f j ≡ g (suc j)) → tab f 0 n ≡ drop_at k (tab g 0 (suc n))
  tab_out f g n k h low high = tab_out_from f g 0 n k h (λ j l u. low j (omega arith)) (λ j l u. high j (omega arith) (omega arith))

  -- the same entry everywhere
  tab_all_from : (f : ℕ → A) (i n : ℕ) (a : A) → ((k : ℕ) → i ≤ k → k < i + n → f k ≡ a) → tab f i n ≡ replicate n a
  unfolding tab
  tab_all_from f i zero a e = refl
  tab_all_from f i (suc n) a e = ap₂ (λ (x : A) (xs : List A). x ∷ xs) (e i (omega arith) (omega arith)) (tab_all_from f (suc i) n a (λ k l u. e k (omega arith) (omega arith)))

  pub tab_all : (f : ℕ → A) (n : ℕ) (a : A) → ((k : ℕ) → k < n → f k ≡ a) → tab f 0 n ≡ replicate n a
  tab_all f n a e = tab_all_from f 0 n a (λ k l u. e k (omega arith))

  -- and one more of it
  pub replicate_more : (n : ℕ) (a : A) → replicate n a ++ (a ∷ []) ≡ replicate (suc n) a
  replicate_more zero a = refl
  replicate_more (suc n) a = ap (λ (xs : List A). a ∷ xs) (replicate_more n a)
