-- The tables of ranks and of who holds the slot that an operation names, which are filled once, before the start: what they
-- hold, one entry more, and that a splice below them leaves them. Assumes nothing.
use Rattle.std.specs.Prelude.{◌≡◌, false, List, [], ◌∷◌, ℕ, ◌+◌, ◌-◌, ◌<◌, ◌≤◌, length, get_or, replicate}
use Rattle.std.proofs.Common.{sym, ◌∙◌, arith}
use Rattle.std.proofs.Math.Path.{ap, subst}
use Rattle.std.proofs.Math.Option.{some}
use Rattle.std.proofs.Math.Decide.{ℕ_discrete, dec_lt}
use Rattle.std.proofs.lemmas.List.{length-replicate, get_or-replicate}
use Rattle.rules.specs.Limits.{most_ops, scratch_size}
use Rattle.rules.specs.Sheet.{Sheet, op, N_of, rank_of, names_slot, two}
use Rattle.rules.specs.Step.{splice, waited}
use Rattle.rules.specs.Report.{low_two}
use Rattle.laws.specs.Tests.{true_not_false}
use Rattle.laws.specs.Splice.{Apart, splice_apart, splice_below, splice_within}
use Rattle.words.specs.Two.{two_same, two_put}
use Rattle.state.specs.Layout.{rank_at, ranks_at, waits_at, word_at}
use Rattle.state.specs.Indexed.{Ranked, Awaited, Indexed}

module _ (s : Sheet) (c : List ℕ) (at : ℕ) (vs : List ℕ) (n : ℕ) (m : n ≤ most_ops) (h : scratch_size ≤ length c) where
  -- a splice apart from a table leaves it
  pub ranked_kept : at + length vs ≤ length c → Apart ranks_at waits_at at (length vs) → Ranked s c n → Ranked s (splice c at vs) n
  ranked_kept l a x i u = splice_apart c at vs l ranks_at waits_at a (rank_at i) (omega arith) (omega arith) ∙ x i u

  pub awaited_kept : at + length vs ≤ length c → Apart waits_at (word_at waits_at most_ops) at (length vs) → Awaited s c n → Awaited s (splice c at vs) n
  awaited_kept l a x i u w =
      x i u w ∙ ap some (sym (two_same (splice c at vs) c (word_at waits_at i) (λ j p q. splice_apart c at vs l waits_at (word_at waits_at most_ops) a j (omega arith) (omega arith))))

-- every change of the job is a splice below the tables
pub indexed_kept : (s : Sheet) (c : List ℕ) (at : ℕ) (vs : List ℕ) → N_of s ≤ most_ops → scratch_size ≤ length c → at + length vs ≤ ranks_at → Indexed s c → Indexed s (splice c at vs)
indexed_kept s c at vs m h l x =
    record {
      rank_is = ranked_kept s c at vs (N_of s) m h (omega arith) (omega arith) x.rank_is;
      wait_is = awaited_kept s c at vs (N_of s) m h (omega arith) (omega arith) x.wait_is;
    }

-- FILLING: the ranks of a script, of one operation, and who holds the slot that one names
pub ranked_script : (s : Sheet) (c : List ℕ) (i n r : ℕ) → i + n ≤ most_ops → scratch_size ≤ length c → ((j : ℕ) → i ≤ j → j < i + n → rank_of s j ≡ r) → Ranked s c i → Ranked s
    (splice c (rank_at i) (replicate n r)) (i + n)
ranked_script s c i n r m h e x j l = go (dec_lt j i)
  where
    long : length (replicate n r) ≡ n
    long = length-replicate n r

    go : Dec (j < i) → get_or (splice c (rank_at i) (replicate n r)) (rank_at j) 0 ≡ rank_of s j
    go (yes q) = splice_below c (rank_at i) (replicate n r) (omega (arith, long)) (rank_at j) (omega arith) ∙ x j q
    go (no q) =
        let k = j - i in
        let at : rank_at i + k ≡ rank_at j = omega arith in
        ap (λ (a : ℕ). get_or (splice c (rank_at i) (replicate n r)) a 0) (sym at)
        ∙ (splice_within c (rank_at i) (replicate n r) (omega (arith, long)) k (omega (arith, long)) ∙ (get_or-replicate n k r 0 (omega arith) ∙ sym (e j (omega arith) l)))

module _ (s : Sheet) (c : List ℕ) (i : ℕ) (m : i < most_ops) (h : scratch_size ≤ length c) where
  pub ranked_more : (r : ℕ) → r ≡ rank_of s i → Ranked s c i → Ranked s (splice c (rank_at i) (r ∷ [])) (i + 1)
  ranked_more r e x =
      ranked_script s c i 1 r (omega arith) h (λ j l u. let q : j ≡ i = omega arith in ap (λ (k : ℕ). rank_of s k) q ∙ sym e) x

  -- an operation that names no slot has no entry
  pub awaited_skip : names_slot (op s i) ≡ false → Awaited s c i → Awaited s c (i + 1)
  awaited_skip e x j l w = go (ℕ_discrete j i)
    where
      go : Dec (j ≡ i) → waited s j ≡ some (two c (word_at waits_at j))
      go (yes q) = true_not_false (ap (λ (k : ℕ). names_slot (op s k)) (sym q) ∙ w) e
      go (no q) = x j (omega arith) w

  pub awaited_more : (k : ℕ) → k < 65536 → waited s i ≡ some k → Awaited s c i → Awaited s (splice c (word_at waits_at i) (low_two k)) (i + 1)
  unfolding low_two
  awaited_more k f e x j l w = go (ℕ_discrete j i)
    where
      go : Dec (j ≡ i) → waited s j ≡ some (two (splice c (word_at waits_at i) (low_two k)) (word_at waits_at j))
      go (yes q) =
          subst (λ (n : ℕ). waited s n ≡ some (two (splice c (word_at waits_at i) (low_two k)) (word_at waits_at n))) (sym q)
          (e ∙ ap some (sym (two_put c (word_at waits_at i) k f (omega arith))))
      go (no q) =
          x j (omega arith) w
          ∙ ap some (sym (two_same (splice c (word_at waits_at i) (low_two k)) c (word_at waits_at j)
          (splice_apart c (word_at waits_at i) (low_two k) (omega arith) (word_at waits_at j) (word_at waits_at j + 2) (omega arith))))
