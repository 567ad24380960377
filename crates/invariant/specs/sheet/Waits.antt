-- Who waits for whom. The first operation of a script that frees the slot which r took waits for r, since rule 7 lets nobody retake
-- a slot that is held. In a valid sheet there is one for each operation that takes a slot: every request is waited for.
--   between_ranked          what lies between two operations of a board is of that board
--   waited_before           who holds the slot that an operation names stands before it
--   waited_some             what an operation that frees a slot waits for
--   freed_none, freed_first a slot that nothing frees is not freed; where it is freed, the first that does
--   unfreed_holds, none_frees_holds   a slot is held as long as it is not freed, as long as nothing frees it
--   rule_read, rule_slot    rule 7, read at an operation that names no slot
--   first_waits             the first that frees r's slot waits for r
--   request_waited          each operation that takes a slot is waited for (document 02, K7)
-- Assumes nothing.
use Rattle.std.specs.Prelude.{◌≡◌, refl, Bool, true, false, ◌&&◌, ◌||◌, cond, ℕ, zero, suc, ◌+◌, ◌-◌, ◌≤◌, ◌<◌}
use Rattle.std.proofs.Math.Path.{sym}
use Rattle.std.proofs.Common.{ap, subst, ◌∙◌, arith, lt-ltb, eq-eqb, eqb-true}
use Rattle.std.proofs.Math.Bool.{not}
use Rattle.std.proofs.Math.Option.{some}
use Rattle.std.proofs.Math.Decide.{ℕ_discrete}
use Rattle.std.proofs.Math.Dec.{eqb}
use Rattle.std.proofs.lemmas.Bool.{not-true}
use Rattle.rules.specs.Sheet.{Sheet, op, board, N_of, rank_of, is_receive, takes_slot, names_slot, frees_slot}
use Rattle.rules.specs.Refusal.{freed, holds, slot_held, area_taken, request_good, slot_freed}
use Rattle.rules.specs.Step.{waited_below, waited}
use Rattle.laws.specs.Tests.{and_left, and_right, and_both, not_so, true_not_false, cond_true, cond_false}
use Rattle.laws.specs.Below.{below_some}
use Rattle.invariant.specs.sheet.Valid.{Valid}
use Rattle.invariant.specs.sheet.Kinds.{takes_not_names}

pub between_ranked : (s : Sheet) → Valid s → (r j q : ℕ) → r ≤ j → j ≤ q → q < N_of s → rank_of s r ≡ rank_of s q →
    rank_of s r ≡ rank_of s j
between_ranked s g r j q a b inside same =
    same
    ∙ sym
    (g.script_ranked (rank_of s q) j (g.rank_small q inside)
    (omega (arith, g.rank_low r (omega arith), ap (λ (z : ℕ). (board s z).first) same))
    (omega (arith, g.rank_high q inside)))

-- operation j took the slot that operation i names
abbrev pub takes_slot_of : Sheet → (j i : ℕ) → Bool
takes_slot_of s j i = eqb (rank_of s j) (rank_of s i) && (takes_slot (op s j) && eqb (op s j).slot (op s i).slot)

-- who holds the slot that an operation names stands before it
pub waited_before : (s : Sheet) (n i k : ℕ) → waited_below n s i ≡ some k → k < n
unfolding waited_below
waited_before s zero i k e = absurd (let z : ◌≡◌ {A = ℕ} 0 1 = cc in omega arith)
waited_before s (suc n) i k e = go (eqb (rank_of s n) (rank_of s i) && (takes_slot (op s n) && eqb (op s n).slot (op s i).slot)) e (λ q. waited_before s n i k q)
  where
    go : (b : Bool) → cond b (some n) (waited_below n s i) ≡ some k → (waited_below n s i ≡ some k → k < n) → k < suc n
    go true q ih = let z : n ≡ k = cc in omega arith
    go false q ih = let z = ih q in omega arith

-- the operation waited for is the latest that took the slot
pub waited_some : (s : Sheet) (i j r : ℕ) → r < j → takes_slot_of s r i ≡ true →
    ((k : ℕ) → r < k → k < j → takes_slot_of s k i ≡ false) →
    waited_below j s i ≡ some r
unfolding waited_below
waited_some s i zero r l t later = absurd (omega arith)
waited_some s i (suc j) r l t later = go (ℕ_discrete r j) (λ h. waited_some s i j r h t (λ k a b. later k a (omega arith)))
  where
    go : Dec (r ≡ j) → (r < j → waited_below j s i ≡ some r) → cond (takes_slot_of s j i) (some j) (waited_below j s i) ≡ some r
    go (yes e) before =
        subst (λ (k : ℕ). cond (takes_slot_of s k i) (some k) (waited_below j s i) ≡ some r) e
        (cond_true (takes_slot_of s r i) (some r) (waited_below j s i) t)
    go (no d) before =
        cond_false (takes_slot_of s j i) (some j) (waited_below j s i) (later j (omega arith) (omega arith))
        ∙ before (omega arith)

-- operation j frees the slot k
abbrev pub frees : Sheet → (k j : ℕ) → Bool
frees s k j = frees_slot (op s j) && eqb (op s j).slot k

pub freed_none : (s : Sheet) (k l j : ℕ) → ((w : ℕ) → j ≤ w → w < j + l → frees s k w ≡ false) → freed s l j k ≡ false
unfolding freed
freed_none s k zero j h = refl
freed_none s k (suc l) j h =
    go (frees s k j) (h j (omega arith) (omega arith))
    (freed_none s k l (suc j) (λ w a b. h w (omega arith) (omega arith)))
  where
    go : (b : Bool) → b ≡ false → freed s l (suc j) k ≡ false → b || freed s l (suc j) k ≡ false
    go true e before = e
    go false e before = before

-- where a slot is freed, the first that frees it
pub record FirstFreed (s : Sheet) (k l j : ℕ) : Type 0 where
  pub at : ℕ
  pub low : j ≤ at
  pub high : at < j + l
  pub frees_it : frees s k at ≡ true
  pub before : (v : ℕ) → j ≤ v → v < at → frees s k v ≡ false

pub freed_first : (s : Sheet) (k l j : ℕ) → freed s l j k ≡ true → FirstFreed s k l j
unfolding freed
freed_first s k zero j h = true_not_false h refl
freed_first s k (suc l) j h = go (freed_first s k l (suc j)) (frees s k j) refl h
  where
    go : (freed s l (suc j) k ≡ true → FirstFreed s k l (suc j)) → (b : Bool) → frees s k j ≡ b →
        (b || freed s l (suc j) k) ≡ true → FirstFreed s k (suc l) j
    go rest true e q =
        record {
          at = j;
          low = omega arith;
          high = omega arith;
          frees_it = e;
          before = λ v a b. absurd (omega arith);
        }
    go rest false e q =
        let later : FirstFreed s k l (suc j) = rest q in
        record {
          at = later.at;
          low = omega (arith, later.low);
          high = omega (arith, later.high);
          frees_it = later.frees_it;
          before = λ v a b. earlier later v a b (ℕ_discrete v j);
        }
      where
        earlier : (f : FirstFreed s k l (suc j)) (v : ℕ) → j ≤ v → v < f.at → Dec (v ≡ j) → frees s k v ≡ false
        earlier f v a b (yes z) = subst (λ (n : ℕ). frees s k n ≡ false) (sym z) e
        earlier f v a b (no d) = f.before v (omega arith) b

-- a slot is held as long as it is not freed, and so as long as nothing between frees it
module _ (s : Sheet) (j i : ℕ) (l : j < i) (same : rank_of s j ≡ rank_of s i) (taken : takes_slot (op s j) ≡ true) where
  pub unfreed_holds : freed s (i - suc j) (suc j) (op s j).slot ≡ false → holds s j i ≡ true
  unfolding holds
  unfreed_holds unfreed =
      and_both (and_both (lt-ltb j i l) (eq-eqb (rank_of s j) (rank_of s i) same)) (and_both taken (ap not unfreed))

  pub none_frees_holds : ((w : ℕ) → j < w → w < i → frees s (op s j).slot w ≡ false) → holds s j i ≡ true
  none_frees_holds none =
      unfreed_holds (freed_none s (op s j).slot (i - suc j) (suc j) (λ w a b. none w a (omega arith)))

-- RULE 7, read at an operation that names no slot
module _ (s : Sheet) (g : Valid s) (i : ℕ) (l : i < N_of s) (names_none : names_slot (op s i) ≡ false) where
  pub rule_read : not (takes_slot (op s i) && slot_held s i (op s i).slot) && not (is_receive (op s i) && area_taken s i) ≡ true
  unfolding request_good
  rule_read =
      sym (cond_false (names_slot (op s i)) (slot_held s i (op s i).slot)
      (not (takes_slot (op s i) && slot_held s i (op s i).slot) && not (is_receive (op s i) && area_taken s i)) names_none)
      ∙ g.requests_good i l

  -- it takes no slot that its board holds
  pub rule_slot : (j : ℕ) → j < i → holds s j i ≡ true → takes_slot (op s i) ≡ true → (op s j).slot ≡ (op s i).slot → ⊥
  unfolding slot_held
  rule_slot j h held taken same =
      true_not_false
      (and_both taken (below_some i (λ k. holds s k i && eqb (op s k).slot (op s i).slot) j h
      (and_both held (eq-eqb (op s j).slot (op s i).slot same))))
      (not-true (takes_slot (op s i) && slot_held s i (op s i).slot)
      (and_left (not (takes_slot (op s i) && slot_held s i (op s i).slot))
      (not (is_receive (op s i) && area_taken s i)) rule_read))

-- OPERATION w is the first of r's script that frees the slot which r took
module _ (s : Sheet) (g : Valid s) (r w : ℕ) (l : r < w) (inside : w < N_of s) (same : rank_of s r ≡ rank_of s w)
    (taken : takes_slot (op s r) ≡ true) (before : (v : ℕ) → r < v → v < w → frees s (op s r).slot v ≡ false)
    (frees_it : frees s (op s r).slot w ≡ true) where
  slot_same : (op s w).slot ≡ (op s r).slot
  slot_same = eqb-true (op s w).slot (op s r).slot (and_right (frees_slot (op s w)) (eqb (op s w).slot (op s r).slot) frees_it)

  -- nobody between them retook the slot, which r holds there
  retaken : (j : ℕ) → r < j → j < w → takes_slot_of s j w ≡ true → ⊥
  retaken j c d t =
      let here : j < N_of s = omega arith in
      let rest = and_right (eqb (rank_of s j) (rank_of s w))
      (takes_slot (op s j) && eqb (op s j).slot (op s w).slot) t in
      let takes = and_left (takes_slot (op s j)) (eqb (op s j).slot (op s w).slot) rest in
      let slots = eqb-true (op s j).slot (op s w).slot
      (and_right (takes_slot (op s j)) (eqb (op s j).slot (op s w).slot) rest) in
      let held = none_frees_holds s r j c (between_ranked s g r j w (omega arith) (omega arith) inside same) taken
      (λ v e f. before v e (omega arith)) in
      rule_slot s g j here (takes_not_names s g j here takes) r c held takes (sym slot_same ∙ sym slots)

  pub first_waits : waited s w ≡ some r
  unfolding waited
  first_waits =
      waited_some s w w r l
      (and_both (eq-eqb (rank_of s r) (rank_of s w) same) (and_both taken (eq-eqb (op s r).slot (op s w).slot (sym slot_same))))
      (λ k c d. not_so (takes_slot_of s k w) (retaken k c d))

-- EVERY REQUEST is waited for, later in its script
pub record Waiter (s : Sheet) (i : ℕ) : Type 0 where
  pub by : ℕ
  pub inside : by < N_of s
  pub frees_it : frees_slot (op s by) ≡ true
  pub waits : waited s by ≡ some i

pub request_waited : (s : Sheet) → Valid s → (i : ℕ) → i < N_of s → takes_slot (op s i) ≡ true → Waiter s i
unfolding slot_freed
request_waited s g i l taken =
    record {
      by = w;
      inside = in_sheet;
      frees_it = and_left (frees_slot (op s w)) (eqb (op s w).slot (op s i).slot) first.frees_it;
      waits =
          first_waits s g i w (omega (arith, first.low)) in_sheet (sym ranked) taken
          (λ v a b. first.before v (omega arith) b) first.frees_it;
    }
  where
    end : ℕ
    end = (board s (rank_of s i)).first + (board s (rank_of s i)).count

    first : FirstFreed s (op s i).slot (end - suc i) (suc i)
    first =
        freed_first s (op s i).slot (end - suc i) (suc i)
        (sym (ap (λ (b : Bool). not b || freed s (end - suc i) (suc i) (op s i).slot) taken) ∙ g.slots_freed i l)

    w : ℕ
    w = first.at

    in_script : w < end
    in_script = omega (arith, first.high, g.rank_high i l)

    in_sheet : w < N_of s
    in_sheet = omega (arith, in_script, g.script_inside (rank_of s i) (g.rank_small i l))

    ranked : rank_of s w ≡ rank_of s i
    ranked =
        g.script_ranked (rank_of s i) w (g.rank_small i l) (omega (arith, first.low, g.rank_low i l))
        in_script
