-- Which operations of a board hold their slot before operation i, one operation after another: what frees a slot ends the hold
-- that it names, what takes a slot begins one, everything else stays. `held_by` asks whether a holder passes a test; slots and areas of
-- refusal 7 are two such tests. Assumes nothing.
use Rattle.std.specs.Prelude.{◌≡◌, Bool, ◌&&◌, ◌||◌}
use Rattle.std.proofs.Math.Path.{refl, ap, ap₂}
use Rattle.std.proofs.Common.{sym, ◌∙◌, add-zero}
use Rattle.std.proofs.Math.Bool.{true, false, not, or_assoc, and_assoc, or-false}
use Prim.Native.Nat.{ℕ, zero, suc, ◌+◌, ◌-◌, ◌<◌}
use native.Mathlib.Omega.{arith}
use Rattle.std.proofs.Math.Dec.{ltb, eqb}
use borrow.Author.Tests.{lt-ltb, eq-eqb, eqb-true, not-true}
use Rattle.rules.specs.Sheet.{Sheet, op, rank_of, frees_slot, takes_slot}
use Rattle.rules.specs.Refusal.{freed, some_below}
use Rattle.laws.specs.Tests.{and_left, and_right, and_both, true_not_false}
use Rattle.laws.specs.Below.{below_some, below_equal, below_none}

-- `holds` of rules, for the board of rank r
unfoldable pub holds_for : Sheet → (r j i : ℕ) → Bool
holds_for s r j i =
    (ltb j i && eqb (rank_of s j) r) && (takes_slot (op s j) && not (freed s (i - suc j) (suc j) (op s j).slot))

-- a holder of board r before operation i passes the test g
unfoldable pub held_by : Sheet → (r i : ℕ) → (ℕ → Bool) → Bool
held_by s r i g = some_below i (λ j. holds_for s r j i && g j)

-- what frees a slot one operation further on
freed_last : (s : Sheet) (l j k : ℕ) → freed s (suc l) j k ≡ (freed s l j k || (frees_slot (op s (j + l)) && eqb (op s (j + l)).slot k))
unfolding freed
freed_last s zero j k = rw (add-zero j) (or-false (frees_slot (op s j) && eqb (op s j).slot k))
freed_last s (suc l) j k =
    let e : suc j + l ≡ j + suc l = omega arith in
    ap (λ (b : Bool). (frees_slot (op s j) && eqb (op s j).slot k) || b)
    (freed_last s l (suc j) k ∙ ap (λ (m : ℕ). freed s l (suc j) k || (frees_slot (op s m) && eqb (op s m).slot k)) e)
    ∙ sym (or_assoc (frees_slot (op s j) && eqb (op s j).slot k) (freed s l (suc j) k) (frees_slot (op s (j + suc l)) && eqb (op s (j + suc l)).slot k))

module _ (s : Sheet) (r i : ℕ) where
  -- operation i ends j's hold: it frees j's slot
  abbrev pub ends : (j : ℕ) → Bool
  ends j = frees_slot (op s i) && eqb (op s i).slot (op s j).slot

  -- an earlier holder goes on unless operation i ends its hold
  holds_on : (j : ℕ) → j < i → holds_for s r j (suc i) ≡ (holds_for s r j i && not (ends j))
  unfolding holds_for
  holds_on j h =
      let now : ltb j (suc i) ≡ true = lt-ltb j (suc i) (omega arith) in
      let then : ltb j i ≡ true = lt-ltb j i h in
      let n : suc i - suc j ≡ suc (i - suc j) = omega arith in
      let at : suc j + (i - suc j) ≡ i = omega arith in
      let k : ℕ = (op s j).slot in
      let last : freed s (suc i - suc j) (suc j) k ≡ (freed s (i - suc j) (suc j) k || ends j) =
      ap (λ (m : ℕ). freed s m (suc j) k) n ∙ (freed_last s (i - suc j) (suc j) k
      ∙ ap (λ (m : ℕ). freed s (i - suc j) (suc j) k || (frees_slot (op s m) && eqb (op s m).slot k)) at) in
      rw (now, then, last) (both (eqb (rank_of s j) r) (takes_slot (op s j)) (freed s (i - suc j) (suc j) k) (ends j))
    where
      both : (a b c d : Bool) → (a && (b && not (c || d))) ≡ ((a && (b && not c)) && not d)
      both false b c d = refl
      both true false c d = refl
      both true true true d = refl
      both true true false d = refl

  -- operation i itself
  holds_new : rank_of s i ≡ r → holds_for s r i (suc i) ≡ takes_slot (op s i)
  unfolding holds_for freed
  holds_new e =
      let now : ltb i (suc i) ≡ true = lt-ltb i (suc i) (omega arith) in
      let rank : eqb (rank_of s i) r ≡ true = eq-eqb (rank_of s i) r e in
      let n : suc i - suc i ≡ 0 = omega arith in
      rw (now, rank, n) (whole (takes_slot (op s i)))
    where
      whole : (b : Bool) → (b && true) ≡ b
      whole true = refl
      whole false = refl

  pub held_more : rank_of s i ≡ r → (g : ℕ → Bool) → held_by s r (suc i) g ≡ ((takes_slot (op s i) && g i) || held_by s r i (λ j. not (ends j) && g j))
  unfolding held_by some_below
  held_more e g =
      ap₂ (λ (a b : Bool). a || b) (ap (λ (b : Bool). b && g i) (holds_new e))
      (below_equal i (λ j. holds_for s r j (suc i) && g j) (λ j. holds_for s r j i && (not (ends j) && g j))
      (λ j l. ap (λ (b : Bool). b && g j) (holds_on j l) ∙ and_assoc (holds_for s r j i) (not (ends j)) (g j)))

-- held_by of tests that agree, and of one that fails
pub held_equal : (s : Sheet) (r i : ℕ) (f g : ℕ → Bool) → ((j : ℕ) → f j ≡ g j) → held_by s r i f ≡ held_by s r i g
unfolding held_by
held_equal s r i f g e = below_equal i (λ j. holds_for s r j i && f j) (λ j. holds_for s r j i && g j) (λ j l. ap (λ (b : Bool). holds_for s r j i && b) (e j))

-- where no holder passes one test, none passes a stricter one
pub held_stricter : (s : Sheet) (r i : ℕ) (f g : ℕ → Bool) → ((j : ℕ) → g j ≡ true → f j ≡ true) → held_by s r i f ≡ false → held_by s r i g ≡ false
unfolding held_by
held_stricter s r i f g e none =
    below_none i (λ j. holds_for s r j i && g j)
    (λ j l h.
    let held = and_left (holds_for s r j i) (g j) h in
    let passes = e j (and_right (holds_for s r j i) (g j) h) in
    true_not_false (below_some i (λ j. holds_for s r j i && f j) j l (and_both held passes)) none)

-- a holder of the slot k passes the test `rest`
abbrev pub by_slot : Sheet → (r i k : ℕ) → (ℕ → Bool) → Bool
by_slot s r i k rest = held_by s r i (λ j. eqb (op s j).slot k && rest j)

module _ (s : Sheet) (r i : ℕ) (e : rank_of s i ≡ r) (rest : ℕ → Bool) where
  abbrev named : (k j : ℕ) → Bool
  named k j = eqb (op s j).slot k && rest j

  -- a slot that operation i does not name is held as before
  pub by_slot_other : (k : ℕ) → (k ≡ (op s i).slot → ⊥) → by_slot s r (suc i) k rest ≡ by_slot s r i k rest
  by_slot_other k d =
      held_more s r i e (named k)
      ∙ (ap₂ (λ (a b : Bool). a || b) (none_new (takes_slot (op s i)) (eqb (op s i).slot k) refl)
      (held_equal s r i (λ j. not (ends s r i j) && named k j) (named k) same))
    where
      none_new : (a b : Bool) → eqb (op s i).slot k ≡ b → (a && (b && rest i)) ≡ false
      none_new true true h = absurd (d (sym (eqb-true (op s i).slot k h)))
      none_new true false h = refl
      none_new false b h = refl

      same : (j : ℕ) → (not (ends s r i j) && named k j) ≡ named k j
      same j = go (eqb (op s j).slot k) refl (frees_slot (op s i)) (eqb (op s i).slot (op s j).slot) refl
        where
          go : (a : Bool) → eqb (op s j).slot k ≡ a → (w b : Bool) → eqb (op s i).slot (op s j).slot ≡ b → (not (w && b) && (a && rest j)) ≡ (a && rest j)
          go false p w b q = all_false (not (w && b))
            where
              all_false : (z : Bool) → (z && false) ≡ false
              all_false true = refl
              all_false false = refl
          go true p false b q = refl
          go true p true false q = refl
          go true p true true q = absurd (d (sym (eqb-true (op s i).slot (op s j).slot q ∙ eqb-true (op s j).slot k p)))

  -- an operation that frees its slot leaves nobody holding it
  pub by_slot_freed : frees_slot (op s i) ≡ true → takes_slot (op s i) ≡ false → by_slot s r (suc i) (op s i).slot rest ≡ false
  unfolding held_by
  by_slot_freed w n =
      held_more s r i e (named (op s i).slot)
      ∙ (ap₂ (λ (a b : Bool). a || b) (ap (λ (b : Bool). b && named (op s i).slot i) n)
      (below_none i (λ j. holds_for s r j i && (not (ends s r i j) && named (op s i).slot j))
      (λ j l h. ended j (and_right (holds_for s r j i) (not (ends s r i j) && named (op s i).slot j) h))))
    where
      ended : (j : ℕ) → (not (ends s r i j) && named (op s i).slot j) ≡ true → ⊥
      ended j h =
          let q = and_right (not (ends s r i j)) (named (op s i).slot j) h in
          let k : (op s j).slot ≡ (op s i).slot = eqb-true (op s j).slot (op s i).slot (and_left (eqb (op s j).slot (op s i).slot) (rest j) q) in
          let z : ends s r i j ≡ true = and_both w (eq-eqb (op s i).slot (op s j).slot (sym k)) in
          true_not_false z (not-true (ends s r i j) (and_left (not (ends s r i j)) (named (op s i).slot j) h))

  -- an operation that takes a free slot is its only holder
  pub by_slot_taken : takes_slot (op s i) ≡ true → by_slot s r i (op s i).slot (λ j. true) ≡ false → by_slot s r (suc i) (op s i).slot rest ≡ rest i
  by_slot_taken n free =
      held_more s r i e (named (op s i).slot)
      ∙ (ap₂ (λ (a b : Bool). a || b) (new (takes_slot (op s i)) n (eqb (op s i).slot (op s i).slot) (eq-eqb (op s i).slot (op s i).slot refl))
      (held_stricter s r i (λ j. eqb (op s j).slot (op s i).slot && true) (λ j. not (ends s r i j) && named (op s i).slot j) looser free)
      ∙ or-false (rest i))
    where
      new : (a : Bool) → a ≡ true → (b : Bool) → b ≡ true → (a && (b && rest i)) ≡ rest i
      new true p true q = refl
      new true p false q = true_not_false q refl
      new false p b q = true_not_false p refl

      looser : (j : ℕ) → (not (ends s r i j) && named (op s i).slot j) ≡ true → (eqb (op s j).slot (op s i).slot && true) ≡ true
      looser j h = and_both (and_left (eqb (op s j).slot (op s i).slot) (rest j) (and_right (not (ends s r i j)) (named (op s i).slot j) h)) refl

  -- an operation that neither frees nor takes a slot changes no hold
  pub by_slot_same : frees_slot (op s i) ≡ false → takes_slot (op s i) ≡ false → (k : ℕ) → by_slot s r (suc i) k rest ≡ by_slot s r i k rest
  by_slot_same w n k =
      held_more s r i e (named k)
      ∙ ap₂ (λ (a b : Bool). a || b) (ap (λ (b : Bool). b && named k i) n)
      (held_equal s r i (λ j. not (ends s r i j) && named k j) (named k) (λ j. ap (λ (b : Bool). not (b && eqb (op s i).slot (op s j).slot) && named k j) w))
