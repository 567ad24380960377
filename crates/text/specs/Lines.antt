-- Laws of a line that is written item by item, whatever the text of an item is.
--   spaced             the items with a blank behind each
--   Lined              the first items stand at the start of a room
--   lined_none, lined_more, lined_end   none, one more, the last
--   line_stands        a line that was put at the start of a room is what stands there
-- Assumes nothing.
use Rattle.std.specs.Prelude.{◌≡◌, length, get_or, take, drop}
use Rattle.std.proofs.Math.Path.{refl, sym, ap}
use Rattle.std.proofs.Common.{◌∙◌, arith, zero-add, add-one, length-append}
use mathlib.Core.List.{List, [], ◌∷◌, ◌++◌, append_assoc, append-nil}
use Prim.Native.Nat.{ℕ, zero, suc, ◌+◌, ◌<◌, ◌≤◌}
use Rattle.std.proofs.lemmas.List.{take-append-le}
use Rattle.std.proofs.Math.Seq.{take-length}
use Rattle.rules.specs.Step.{splice}
use Rattle.laws.specs.Splice.{splice_none, splice_then, splice_length}
use Rattle.text.specs.Text.{line}

module _ (text : ℕ → ℕ → List ℕ) where
  -- each item with a blank behind it
  unfoldable pub spaced : List ℕ → List ℕ
  spaced [] = []
  spaced (x ∷ xs) = text x 32 ++ spaced xs

  -- one item more
  pub spaced_next : (xs : List ℕ) (i : ℕ) → i < length xs → spaced (take (suc i) xs) ≡ spaced (take i xs) ++ text (get_or xs i 0) 32
  unfolding spaced
  spaced_next [] i l = absurd (omega arith)
  spaced_next (x ∷ xs) zero l = append-nil (text x 32)
  spaced_next (x ∷ xs) (suc i) l =
      ap (λ (z : List ℕ). text x 32 ++ z) (spaced_next xs i (omega arith))
      ∙ sym (append_assoc (text x 32) (spaced (take i xs)) (text (get_or xs i 0) 32))

  -- the last item
  pub line_ends : (xs : List ℕ) (i : ℕ) → suc i ≡ length xs → line text xs ≡ spaced (take i xs) ++ text (get_or xs i 0) 10
  unfolding spaced line
  line_ends [] i l = absurd (omega arith)
  line_ends (x ∷ []) zero l = refl
  line_ends (x ∷ []) (suc i) l = absurd (omega arith)
  line_ends (x ∷ y ∷ xs) zero l = absurd (omega arith)
  line_ends (x ∷ y ∷ xs) (suc i) l =
      ap (λ (z : List ℕ). text x 32 ++ z) (line_ends (y ∷ xs) i (omega arith))
      ∙ sym (append_assoc (text x 32) (spaced (take i (y ∷ xs))) (text (get_or (y ∷ xs) i 0) 10))

  -- WRITING: the first i items stand at the start of a room that was `old`, up to a place
  pub record Lined (xs old room : List ℕ) (i at : ℕ) : Type 0 where
    pub size : length room ≡ length old
    pub is : room ≡ splice old 0 (spaced (take i xs))
    pub place : length (spaced (take i xs)) ≡ at

  pub lined_none : (xs old : List ℕ) → Lined xs old old 0 0
  unfolding spaced
  lined_none xs old =
      record {
        size = refl;
        is = sym (splice_none old 0 (omega arith));
        place = refl;
      }

  -- item i is put behind them
  module _ {xs old room : List ℕ} {i at : ℕ} (q : Lined xs old room i at) (l : i < length xs) (after : List ℕ) (e : ℕ)
      (h : after ≡ splice room at (text (get_or xs i 0) e)) (space : at + length (text (get_or xs i 0) e) ≤ length old) where
    put : after ≡ splice old 0 (spaced (take i xs) ++ text (get_or xs i 0) e)
    put =
        splice_then old room after 0 at (spaced (take i xs)) (text (get_or xs i 0) e) q.is q.place
        (h ∙ ap (λ (k : ℕ). splice room k (text (get_or xs i 0) e)) (sym (zero-add at))) (omega (arith, q.place))

    pub lined_more : e ≡ 32 → (next : ℕ) → next ≡ at + length (text (get_or xs i 0) e) → Lined xs old after (i + 1) next
    lined_more blank next n =
        let more : spaced (take i xs) ++ text (get_or xs i 0) e ≡ spaced (take (i + 1) xs) =
        ap (λ (k : ℕ). spaced (take i xs) ++ text (get_or xs i 0) k) blank
        ∙ (sym (spaced_next xs i l) ∙ ap (λ (k : ℕ). spaced (take k xs)) (sym (add-one i))) in
        record {
          size = ap length h ∙ (splice_length room at (text (get_or xs i 0) e) (omega (arith, q.size)) ∙ q.size);
          is = put ∙ ap (λ (vs : List ℕ). splice old 0 vs) more;
          place = omega (arith, ap length more, length-append (spaced (take i xs)) (text (get_or xs i 0) e), q.place, n);
        }

    pub lined_end : e ≡ 10 → suc i ≡ length xs → (after ≡ splice old 0 (line text xs)) × (at + length (text (get_or xs i 0) e) ≡ length (line text xs))
    lined_end newline last =
        let all : spaced (take i xs) ++ text (get_or xs i 0) e ≡ line text xs =
        ap (λ (k : ℕ). spaced (take i xs) ++ text (get_or xs i 0) k) newline ∙ sym (line_ends xs i last) in (
          put ∙ ap (λ (vs : List ℕ). splice old 0 vs) all,
          omega (arith, ap length all, length-append (spaced (take i xs)) (text (get_or xs i 0) e), q.place),
        )

-- what was put at the start of a room is what stands there
pub line_stands : (old room put : List ℕ) (n : ℕ) → room ≡ splice old 0 put → n ≡ length put → take n room ≡ put
unfolding splice
line_stands old room put n h e =
    let rest = drop (0 + length put) old in
    ap (λ (l : List ℕ). take n l) h
    ∙ (ap (λ (j : ℕ). take j (put ++ rest)) e ∙ (take-append-le (length put) put rest (omega arith) ∙ take-length put))
