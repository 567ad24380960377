-- Splices in any order: each byte of a splice by cases, and two splices over ranges that share no index commute; lists that
-- agree on their first bytes agree on them after the same splice.
--   within, within-..   index i lies among n indices from `at` on
--   splice_at           each byte of a splice
--   Disjoint            ranges that share no index
--   splice_swap         two splices commute
--   Near, splice_near   two lists, long enough, that agree on their first n bytes
-- Assumes nothing.
use Rattle.std.specs.Prelude.{◌≡◌, Bool, ◌&&◌, List, ℕ, ◌+◌, ◌-◌, ◌≤◌, ◌<◌, ltb, leb, length, take}
use Rattle.std.proofs.Math.Path.{refl, sym, ap}
use Rattle.std.proofs.Common.{subst, ◌∙◌, arith, leb-true, ltb-true, le-leb, lt-ltb, length-take-le, get_or-take}
use Rattle.std.proofs.Math.Bool.{true, false, cond}
use Rattle.std.proofs.Math.Decide.{dec_lt}
use Rattle.std.proofs.Math.ListN.{get_or}
use Rattle.std.proofs.Math.Seq.{ext_get_or}
use Rattle.rules.specs.Step.{splice}
use Rattle.laws.specs.Tests.{and_left, and_right, and_both, not_so}
use Rattle.laws.specs.Splice.{Apart, splice_length, splice_longer, splice_before, splice_in, splice_after}

abbrev pub within : (at n i : ℕ) → Bool
within at n i = leb at i && ltb i (at + n)

pub within_low : (at n i : ℕ) → within at n i ≡ true → at ≤ i
within_low at n i h = leb-true at i (and_left (leb at i) (ltb i (at + n)) h)

pub within_high : (at n i : ℕ) → within at n i ≡ true → i < at + n
within_high at n i h = ltb-true i (at + n) (and_right (leb at i) (ltb i (at + n)) h)

pub within_both : (at n i : ℕ) → at ≤ i → i < at + n → within at n i ≡ true
within_both at n i a b = and_both (le-leb at i a) (lt-ltb i (at + n) b)

within_not : (at n i : ℕ) → (at ≤ i → i < at + n → ⊥) → within at n i ≡ false
within_not at n i h = not_so (within at n i) (λ e. h (within_low at n i e) (within_high at n i e))

-- each byte of a splice that starts inside
module _ (bs : List ℕ) (at : ℕ) (vs : List ℕ) (start : at ≤ length bs) where
  pub splice_at : (i : ℕ) → get_or (splice bs at vs) i 0 ≡ cond (within at (length vs) i) (get_or vs (i - at) 0) (get_or bs i 0)
  splice_at i = go (dec_lt i at) (dec_lt i (at + length vs))
    where
      chosen : (b : Bool) → within at (length vs) i ≡ b → get_or (splice bs at vs) i 0 ≡ cond b (get_or vs (i - at) 0) (get_or bs i 0) →
          get_or (splice bs at vs) i 0 ≡ cond (within at (length vs) i) (get_or vs (i - at) 0) (get_or bs i 0)
      chosen b e h = subst (λ (c : Bool). get_or (splice bs at vs) i 0 ≡ cond c (get_or vs (i - at) 0) (get_or bs i 0)) (sym e) h

      go : Dec (i < at) → Dec (i < at + length vs) →
          get_or (splice bs at vs) i 0 ≡ cond (within at (length vs) i) (get_or vs (i - at) 0) (get_or bs i 0)
      go (yes a) _ = chosen false (within_not at (length vs) i (λ c d. omega arith)) (splice_before bs at vs i a (omega arith))
      go (no a) (yes b) = chosen true (within_both at (length vs) i (omega arith) b) (splice_in bs at vs start i (omega arith) b)
      go (no a) (no b) = chosen false (within_not at (length vs) i (λ c d. omega arith)) (splice_after bs at vs start i (omega arith))

-- ranges of n indices from a on and of k from b on that share none
abbrev pub Disjoint : (a n b k : ℕ) → Type 0
Disjoint a n b k = Apart a (a + n) b k

module _ (bs : List ℕ) (a : ℕ) (vs : List ℕ) (b : ℕ) (ws : List ℕ) (v_room : a + length vs ≤ length bs)
    (w_room : b + length ws ≤ length bs)
    (apart : Disjoint a (length vs) b (length ws)) where
  first_vs : List ℕ
  first_vs = splice bs a vs

  first_ws : List ℕ
  first_ws = splice bs b ws

  w_room_after : b + length ws ≤ length first_vs
  unfolding first_vs
  w_room_after = omega (arith, splice_length bs a vs v_room)

  v_room_after : a + length vs ≤ length first_ws
  unfolding first_ws
  v_room_after = omega (arith, splice_length bs b ws w_room)

  pub splice_swap : splice (splice bs a vs) b ws ≡ splice (splice bs b ws) a vs
  unfolding first_vs first_ws
  splice_swap =
      ext_get_or 0 (splice first_vs b ws) (splice first_ws a vs)
      (splice_length first_vs b ws w_room_after ∙ splice_length bs a vs v_room ∙ sym (splice_length bs b ws w_room)
      ∙ sym (splice_length first_ws a vs v_room_after))
      (λ i l. byte i)
    where
      byte : (i : ℕ) → get_or (splice first_vs b ws) i 0 ≡ get_or (splice first_ws a vs) i 0
      byte i =
          splice_at first_vs b ws (omega (arith, w_room_after)) i
          ∙ ap (λ (z : ℕ). cond (within b (length ws) i) (get_or ws (i - b) 0) z) (splice_at bs a vs (omega arith) i)
          ∙ go (within a (length vs) i) refl (within b (length ws) i) refl
          ∙ sym (splice_at first_ws a vs (omega (arith, v_room_after)) i
          ∙ ap (λ (z : ℕ). cond (within a (length vs) i) (get_or vs (i - a) 0) z) (splice_at bs b ws (omega arith) i))
        where
          go : (t : Bool) → within a (length vs) i ≡ t → (u : Bool) → within b (length ws) i ≡ u →
              cond u (get_or ws (i - b) 0) (cond t (get_or vs (i - a) 0) (get_or bs i 0)) ≡ cond t (get_or vs (i - a) 0)
              (cond u (get_or ws (i - b) 0) (get_or bs i 0))
          go true e true f =
              absurd (apart i (within_low a (length vs) i e) (within_high a (length vs) i e) (within_low b (length ws) i f)
              (within_high b (length ws) i f))
          go true e false f = refl
          go false e u f = refl

-- THE FIRST n BYTES
pub record Near (n : ℕ) (bs cs : List ℕ) : Type 0 where
  pub long : n ≤ length bs
  pub long_too : n ≤ length cs
  pub same : take n bs ≡ take n cs

near_byte : {n : ℕ} {bs cs : List ℕ} → Near n bs cs → (i : ℕ) → i < n → get_or bs i 0 ≡ get_or cs i 0
near_byte {n} {bs} {cs} h i l = sym (get_or-take n bs i 0 l) ∙ ap (λ (z : List ℕ). get_or z i 0) h.same ∙ get_or-take n cs i 0 l

pub splice_near : {n : ℕ} {bs cs : List ℕ} → Near n bs cs → (at : ℕ) (vs : List ℕ) → Near n (splice bs at vs) (splice cs at vs)
splice_near {n} {bs} {cs} h at vs =
    record {
      long = long;
      long_too = long_too;
      same =
          ext_get_or 0 (take n (splice bs at vs)) (take n (splice cs at vs))
          (length-take-le n (splice bs at vs) long ∙ sym (length-take-le n (splice cs at vs) long_too))
          (λ i l. taken i (omega (arith, length-take-le n (splice bs at vs) long)));
    }
  where
    long : n ≤ length (splice bs at vs)
    long = omega (arith, splice_longer bs at vs, h.long)

    long_too : n ≤ length (splice cs at vs)
    long_too = omega (arith, splice_longer cs at vs, h.long_too)

    byte : (i : ℕ) → i < n → Dec (i < at) → get_or (splice bs at vs) i 0 ≡ get_or (splice cs at vs) i 0
    byte i l (yes a) =
        splice_before bs at vs i a (omega (arith, h.long)) ∙ near_byte h i l
        ∙ sym (splice_before cs at vs i a (omega (arith, h.long_too)))
    byte i l (no a) =
        splice_at bs at vs (omega (arith, h.long)) i
        ∙ ap (λ (z : ℕ). cond (within at (length vs) i) (get_or vs (i - at) 0) z) (near_byte h i l)
        ∙ sym (splice_at cs at vs (omega (arith, h.long_too)) i)

    taken : (i : ℕ) → i < n → get_or (take n (splice bs at vs)) i 0 ≡ get_or (take n (splice cs at vs)) i 0
    taken i l = get_or-take n (splice bs at vs) i 0 l ∙ byte i l (dec_lt i at) ∙ sym (get_or-take n (splice cs at vs) i 0 l)
