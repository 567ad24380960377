-- Bytes put into a list at a place (`splice` of rules). Every store of the code is one splice, so these are the laws of all
-- stores: the length stays, the new bytes are read back, the bytes outside stay, and splices side by side are one.
--   sets_splice                                a splice is a run of stores
--   splice_longer, splice_before, splice_in, splice_after    of a splice that may run past the end
--   splice_length, splice_below, splice_within, splice_above    of one that stays inside
--   Same, Apart, splice_apart                  a splice changes nothing that is apart from it
--   splice_none, splice_join, splice_then, splice_more, splice_whole    no byte, splices side by side, one byte more, all bytes
--   splice_take, splice_take_before            the first bytes of a list, with the splice among them or behind them
--   splice_drop                                what stands behind the splice
--   splice_front, splice_behind                a list in two parts, with the splice over the first or in the second
-- Assumes nothing.
use Rattle.std.specs.Prelude.{◌≡◌, refl, ℕ, suc, ◌+◌, ◌-◌, ◌<◌, ◌≤◌, min, take, set}
use Rattle.std.proofs.Common.{sym, ◌∙◌, subst, zero-add, get_or-drop, take-take, ext_get_or}
use Rattle.std.proofs.Math.Path.{ap}
use mathlib.Core.List.{List, [], ◌∷◌, ◌++◌, append_assoc}
use native.Mathlib.Omega.{arith}
use Rattle.std.proofs.Math.Decide.{dec_lt}
use Rattle.std.proofs.Math.ListN.{length, get_or, drop, length-append, length-take, length-drop, get_or-append}
use Rattle.std.proofs.lemmas.List.Edits.{sets, sets-eq}
use Rattle.std.proofs.Math.Seq.{length-take-le, get_or-take, get_or-append-add, drop-length, take-set-lt, drop-append_seam}
use Rattle.std.proofs.lemmas.List.{take-append-le}
use Rattle.rules.specs.Step.{splice}

-- a splice is a run of stores
pub sets_splice : (c : List ℕ) (at : ℕ) (vs : List ℕ) → at + length vs ≤ length c → sets c at vs ≡ splice c at vs
unfolding splice
sets_splice c at vs h = sets-eq vs c at h ∙ append_assoc (take at c) vs (drop (at + length vs) c)

sets_join : (c : List ℕ) (at : ℕ) (u v : List ℕ) → sets c at (u ++ v) ≡ sets (sets c at u) (at + length u) v
sets_join c at [] v = let e : at + 0 ≡ at = omega arith in rw e
sets_join c at (a ∷ u) v =
    let e : at + suc (length u) ≡ suc at + length u = omega arith in
    rw e (sets_join (set c at a) (suc at) u v)

-- ANY SPLICE, also one that runs past the end of the list
module _ (c : List ℕ) (at : ℕ) (vs : List ℕ) where
  splice_lengths : length (splice c at vs) ≡ min at (length c) + (length vs + (length c - (at + length vs)))
  unfolding splice
  splice_lengths =
      let rest = drop (at + length vs) c in
      omega (
        arith,
        length-append (take at c) (vs ++ rest),
        length-append vs rest,
        length-take at c,
        length-drop (at + length vs) c,
      )

  -- no splice is shorter than what it goes into
  pub splice_longer : length c ≤ length (splice c at vs)
  splice_longer = omega (arith, splice_lengths)

  pub splice_before : (j : ℕ) → j < at → j < length c → get_or (splice c at vs) j 0 ≡ get_or c j 0
  unfolding splice
  splice_before j h l =
      get_or-append (take at c) (vs ++ drop (at + length vs) c) 0 j (omega (arith, length-take at c))
      ∙ get_or-take at c j 0 h

  module _ (start : at ≤ length c) where
    -- past the front
    splice_past : (j : ℕ) → at ≤ j → get_or (splice c at vs) j 0 ≡ get_or (vs ++ drop (at + length vs) c) (j - at) 0
    unfolding splice
    splice_past j h =
        let there : j ≡ length (take at c) + (j - at) = omega (arith, length-take-le at c start) in
        ap (λ (k : ℕ). get_or (splice c at vs) k 0) there ∙ get_or-append-add (take at c) (vs ++ drop (at + length vs) c) (j - at) 0

    pub splice_in : (j : ℕ) → at ≤ j → j < at + length vs → get_or (splice c at vs) j 0 ≡ get_or vs (j - at) 0
    splice_in j a b = splice_past j a ∙ get_or-append vs (drop (at + length vs) c) 0 (j - at) (omega arith)

    pub splice_after : (j : ℕ) → at + length vs ≤ j → get_or (splice c at vs) j 0 ≡ get_or c j 0
    splice_after j h =
        let there : j - at ≡ length vs + (j - (at + length vs)) = omega arith in
        let back : at + length vs + (j - (at + length vs)) ≡ j = omega arith in
        splice_past j (omega arith)
        ∙ ap (λ (k : ℕ). get_or (vs ++ drop (at + length vs) c) k 0) there
        ∙ get_or-append-add vs (drop (at + length vs) c) (j - (at + length vs)) 0
        ∙ get_or-drop (at + length vs) c (j - (at + length vs)) 0
        ∙ ap (λ (k : ℕ). get_or c k 0) back

-- A SPLICE THAT STAYS INSIDE
module _ (c : List ℕ) (at : ℕ) (vs : List ℕ) (h : at + length vs ≤ length c) where
  pub splice_length : length (splice c at vs) ≡ length c
  splice_length = omega (arith, splice_lengths c at vs)

  pub splice_below : (j : ℕ) → j < at → get_or (splice c at vs) j 0 ≡ get_or c j 0
  splice_below j l = splice_before c at vs j l (omega arith)

  -- byte j of the new ones
  pub splice_within : (j : ℕ) → j < length vs → get_or (splice c at vs) (at + j) 0 ≡ get_or vs j 0
  splice_within j l =
      let e : at + j - at ≡ j = omega arith in
      splice_in c at vs (omega arith) (at + j) (omega arith) (omega arith) ∙ ap (λ (k : ℕ). get_or vs k 0) e

  pub splice_above : (j : ℕ) → at + length vs ≤ j → get_or (splice c at vs) j 0 ≡ get_or c j 0
  splice_above j l = splice_after c at vs (omega arith) j l

-- two lists have the same bytes from lo up to hi
abbrev pub Same : (lo hi : ℕ) → (c d : List ℕ) → Type 0
Same lo hi c d = (j : ℕ) → lo ≤ j → j < hi → get_or c j 0 ≡ get_or d j 0

-- no byte from lo up to hi is among the n bytes at a place
abbrev pub Apart : (lo hi at n : ℕ) → Type 0
Apart lo hi at n = (j : ℕ) → lo ≤ j → j < hi → at ≤ j → j < at + n → ⊥

-- THE law of disjoint regions: a splice changes nothing that is apart from it
pub splice_apart : (c : List ℕ) (at : ℕ) (vs : List ℕ) → at + length vs ≤ length c → (lo hi : ℕ) → Apart lo hi at (length vs) → Same lo hi (splice c at vs) c
splice_apart c at vs h lo hi a j l u = go (dec_lt j at)
  where
    go : Dec (j < at) → get_or (splice c at vs) j 0 ≡ get_or c j 0
    go (yes q) = splice_below c at vs h j q
    go (no q) = after (dec_lt j (at + length vs))
      where
        after : Dec (j < at + length vs) → get_or (splice c at vs) j 0 ≡ get_or c j 0
        after (yes z) = absurd (a j l u (omega arith) z)
        after (no z) = splice_above c at vs h j (omega arith)

-- a splice of nothing, splices side by side, and one byte more
pub splice_none : (c : List ℕ) (at : ℕ) → at ≤ length c → splice c at [] ≡ c
splice_none c at h = sym (sets_splice c at [] (omega arith))

pub splice_join : (c : List ℕ) (at : ℕ) (u v : List ℕ) → at + (length u + length v) ≤ length c → splice (splice c at u) (at + length u) v ≡ splice c at (u ++ v)
splice_join c at u v h =
    let first : sets c at u ≡ splice c at u = sets_splice c at u (omega arith) in
    let size = splice_length c at u (omega arith) in
    sym (sets_splice (splice c at u) (at + length u) v (omega arith))
    ∙ (ap (λ (l : List ℕ). sets l (at + length u) v) (sym first)
    ∙ (sym (sets_join c at u v) ∙ sets_splice c at (u ++ v) (omega (arith, length-append u v))))

-- the same of a store after a store
pub splice_then : (c s t : List ℕ) (at n : ℕ) (u v : List ℕ) → s ≡ splice c at u → length u ≡ n → t ≡ splice s (at + n) v → at + (length u + length v) ≤ length c → t ≡ splice c at (u ++ v)
splice_then c s t at n u v a e b h =
    b ∙ (ap (λ (z : List ℕ). splice z (at + n) v) a ∙ (ap (λ (k : ℕ). splice (splice c at u) (at + k) v) (sym e) ∙ splice_join c at u v h))

pub splice_more : (c : List ℕ) (at : ℕ) (u : List ℕ) (n b : ℕ) → length u ≡ n → at + n < length c → set (splice c at u) (at + n) b ≡ splice c at (u ++ (b ∷ []))
splice_more c at u n b e h =
    let size = splice_length c at u (omega arith) in
    subst (λ (k : ℕ). set (splice c at u) (at + k) b ≡ splice c at (u ++ (b ∷ []))) e
    (sets_splice (splice c at u) (at + length u) (b ∷ []) (omega arith) ∙ splice_join c at u (b ∷ []) (omega arith))

-- a splice over the whole list leaves nothing of it
pub splice_whole : (c vs : List ℕ) → length vs ≡ length c → splice c 0 vs ≡ vs
unfolding splice
splice_whole c vs e = rw (zero-add (length vs), e, drop-length c) (mathlib.Core.List.append-nil vs)

-- SPLICES AND PARTS: the first n bytes, with the splice among them or behind them
sets_take : (c : List ℕ) (n at : ℕ) (vs : List ℕ) → at + length vs ≤ n → take n (sets c at vs) ≡ sets (take n c) at vs
sets_take c n at [] h = refl
sets_take c n at (a ∷ vs) h =
    sets_take (set c at a) n (suc at) vs (omega arith) ∙ ap (λ (l : List ℕ). sets l (suc at) vs) (take-set-lt n c at a (omega arith))

pub splice_take : (c : List ℕ) (n at : ℕ) (vs : List ℕ) → at + length vs ≤ n → n ≤ length c → take n (splice c at vs) ≡ splice (take n c) at vs
splice_take c n at vs h l =
    let size = length-take-le n c l in
    ap (λ (d : List ℕ). take n d) (sym (sets_splice c at vs (omega arith))) ∙ (sets_take c n at vs h ∙ sets_splice (take n c) at vs (omega arith))

pub splice_take_before : (c : List ℕ) (n at : ℕ) (vs : List ℕ) → n ≤ at → at ≤ length c → take n (splice c at vs) ≡ take n c
unfolding splice
splice_take_before c n at vs h l =
    let size = length-take-le at c l in
    take-append-le n (take at c) (vs ++ drop (at + length vs) c) (omega arith) ∙ take-take n at c h

-- what stands behind a splice
pub splice_drop : (c : List ℕ) (at : ℕ) (vs : List ℕ) (n : ℕ) → at + length vs ≤ n → n ≤ length c → drop n (splice c at vs) ≡ drop n c
splice_drop c at vs n h l =
    ext_get_or 0 (drop n (splice c at vs)) (drop n c)
    (length-drop n (splice c at vs) ∙ ap (λ (k : ℕ). k - n) (splice_length c at vs (omega arith)) ∙ sym (length-drop n c))
    (λ j k. get_or-drop n (splice c at vs) j 0 ∙ splice_above c at vs (omega arith) (n + j) (omega arith) ∙ sym (get_or-drop n c j 0))

-- a list in two parts, with the splice over the first or in the second
pub splice_front : (u w vs : List ℕ) → length vs ≡ length u → splice (u ++ w) 0 vs ≡ vs ++ w
unfolding splice
splice_front u w vs e =
    let z : 0 + length vs ≡ length u = omega arith in
    ap (λ (k : ℕ). vs ++ drop k (u ++ w)) z ∙ ap (λ (r : List ℕ). vs ++ r) (drop-append_seam u w)

sets_behind : (u w : List ℕ) (k : ℕ) (vs : List ℕ) → sets (u ++ w) (length u + k) vs ≡ u ++ sets w k vs
sets_behind [] w k vs = ap (λ (i : ℕ). sets w i vs) (zero-add k)
sets_behind (x ∷ u) w k vs =
    let e : suc (length u) + k ≡ suc (length u + k) = omega arith in
    ap (λ (i : ℕ). sets (x ∷ (u ++ w)) i vs) e ∙ (under (u ++ w) (length u + k) vs ∙ ap (λ (r : List ℕ). x ∷ r) (sets_behind u w k vs))
  where
    under : (l : List ℕ) (i : ℕ) (vs : List ℕ) → sets (x ∷ l) (suc i) vs ≡ x ∷ sets l i vs
    under l i [] = refl
    under l i (a ∷ vs) = under (set l i a) (suc i) vs

pub splice_behind : (u w : List ℕ) (k : ℕ) (vs : List ℕ) → k + length vs ≤ length w → splice (u ++ w) (length u + k) vs ≡ u ++ splice w k vs
splice_behind u w k vs h =
    sym (sets_splice (u ++ w) (length u + k) vs (omega (arith, length-append u w))) ∙ (sets_behind u w k vs ∙ ap (λ (r : List ℕ). u ++ r) (sets_splice w k vs h))
