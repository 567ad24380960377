-- Bytes put over a part of a slice: what the library's `fill`, `copy_from_slice` and `copy_within` leave is a splice of rules; and how
-- long a part of a list is, and what stands in it. Assumes nothing.
use Rattle.std.specs.Prelude.{◌≡◌, List, ◌++◌, ℕ, ◌+◌, ◌-◌, ◌<◌, ◌≤◌, length, get_or, take, drop}
use Rattle.std.proofs.Common.{◌∙◌, ap, arith, length-drop, length-take-le, get_or-take, get_or-drop}
use Rattle.std.proofs.Math.Seq.{drop-drop}
use mathlib.Core.List.{append_assoc}
use borrow.Rule.Slice.PartMut.{put_mid}
use lib.Seq.{paste}
use Rattle.rules.specs.Step.{splice}

-- the n bytes of a list from a place on are replaced by as many others
pub part_put : (c : List ℕ) (at n : ℕ) (new vs : List ℕ) → new ≡ vs → length vs ≡ n → put_mid at ((at + n) - at) c new ≡ splice c at vs
unfolding splice
part_put c at n new vs e l =
    let k : (at + n) - at ≡ length vs = omega (arith, l) in
    ap (λ (us : List ℕ). put_mid at ((at + n) - at) c us) e
    ∙ (ap (λ (m : ℕ). take at c ++ (vs ++ drop m (drop at c))) k ∙ ap (λ (r : List ℕ). take at c ++ (vs ++ r)) (drop-drop (length vs) at c))

-- n bytes of a list from a place on
pub part_length : (c : List ℕ) (from n : ℕ) → from + n ≤ length c → length (take n (drop from c)) ≡ n
part_length c from n h = length-take-le n (drop from c) (omega (arith, length-drop from c))

pub part_named : (c : List ℕ) (from n : ℕ) → take ((from + n) - from) (drop from c) ≡ take n (drop from c)
part_named c from n =
    let k : (from + n) - from ≡ n = omega arith in
    ap (λ (m : ℕ). take m (drop from c)) k

pub part_at : (c : List ℕ) (from n j : ℕ) → j < n → get_or (take n (drop from c)) j 0 ≡ get_or c (from + j) 0
part_at c from n j h = get_or-take n (drop from c) j 0 h ∙ get_or-drop from c j 0

-- such a part, pasted at a place of the list itself
pub part_moved : (c : List ℕ) (at from n : ℕ) → from + n ≤ length c → paste c at (drop from c) ((from + n) - from) ≡ splice c at (take n (drop from c))
unfolding splice
part_moved c at from n h =
    let k : (from + n) - from ≡ n = omega arith in
    let l : n ≡ length (take n (drop from c)) = omega (arith, part_length c from n h) in
    ap (λ (m : ℕ). paste c at (drop from c) m) k ∙ append_assoc (take at c) (take n (drop from c)) (drop (at + n) c) ∙ ap (λ (m : ℕ). take at c ++ (take n (drop from c) ++ drop (at + m) c)) l
