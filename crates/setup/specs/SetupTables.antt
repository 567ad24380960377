-- The two tables that are written once: the rank of each operation, and for each that names a slot the one that holds it. They
-- are filled script by script, with a list of the latest operation that took each slot. The tables are right below operation
-- i (`Filled`), the list is right there (`Latest`); one operation more keeps both. Assumes nothing.
--   latest                   the latest operation of board r below i that took slot k; waited_latest: who holds the slot that one names
--   Latest                   latest_none: before a script; latest_more: one operation more
--   Filled                   filled_none, filled_more; filled_all: state's Indexed
use Rattle.std.specs.Prelude.{◌≡◌, Bool, ◌&&◌, not, cond, List, [], ◌∷◌, ℕ, zero, suc, ◌+◌, ◌-◌, ◌<◌, ◌≤◌, ltb, eqb, get_or, set, replicate}
use Rattle.std.proofs.Math.Path.{refl, ap}
use Rattle.std.proofs.Common.{sym, subst, ◌∙◌, arith, add-one, length-set, get_or-set_same, get_or-set_other, eq-eqb, eqb-true}
use Rattle.std.proofs.Math.Bool.{true, false}
use Rattle.std.proofs.Math.Option.{Option, none, some}
use Rattle.std.proofs.Math.Decide.{ℕ_discrete}
use Rattle.std.proofs.Math.ListN.{length}
use Rattle.std.proofs.lemmas.List.{length-replicate}
use Rattle.rules.specs.Limits.{most_ops, slot_limit, scratch_size}
use Rattle.rules.specs.Sheet.{Sheet, Op, op, board, P_of, N_of, rank_of, sheet_in, names_slot, takes_slot}
use Rattle.rules.specs.Refusal.{freed, holds, slot_held, request_good}
use Rattle.rules.specs.Step.{waited_below, waited, splice}
use Rattle.rules.specs.Report.{low_two}
use Rattle.laws.specs.Tests.{and_left, and_right, and_both, true_not_false, not_so, cond_true, cond_false}
use Rattle.laws.specs.Below.{below_found}
use Rattle.laws.specs.Laid.{Laid}
use Rattle.laws.specs.Splice.{splice_length}
use Rattle.state.specs.Layout.{rank_at, word_at, waits_at}
use Rattle.state.specs.Indexed.{Ranked, Awaited, Indexed}
use Rattle.state.proofs.Indexed.{ranked_kept, awaited_kept, ranked_more, awaited_skip, awaited_more}
use Rattle.invariant.specs.sheet.Valid.{Valid}

-- operation i is one of the sheet's, and its slot is below the limit
pub record Slotted (bs : List ℕ) (i : ℕ) : Type 0 where
  pub laid : Laid bs
  pub inside : i < N_of (sheet_in bs)
  pub slot_small : (op (sheet_in bs) i).slot < slot_limit

-- LATEST
-- operation j of board r takes slot k
abbrev pub takes : Sheet → (r k j : ℕ) → Bool
takes s r k j = eqb (rank_of s j) r && (takes_slot (op s j) && eqb (op s j).slot k)

unfoldable pub latest : (i : ℕ) → Sheet → (r k : ℕ) → Option ℕ
latest zero s r k = none
latest (suc j) s r k = cond (takes s r k j) (some j) (latest j s r k)

latest_same : (s : Sheet) (i j : ℕ) → waited_below j s i ≡ latest j s (rank_of s i) (op s i).slot
unfolding waited_below latest
latest_same s i zero = refl
latest_same s i (suc j) = ap (λ (o : Option ℕ). cond (takes s (rank_of s i) (op s i).slot j) (some j) o) (latest_same s i j)

pub waited_latest : (s : Sheet) (i r : ℕ) → rank_of s i ≡ r → waited s i ≡ latest i s r (op s i).slot
unfolding waited
waited_latest s i r e = latest_same s i i ∙ ap (λ (q : ℕ). latest i s q (op s i).slot) e

-- where one below i took the slot there is a latest one
pub record Taken (s : Sheet) (r i k : ℕ) : Type 0 where
  pub by : ℕ
  pub below : by < i
  pub is : latest i s r k ≡ some by

latest_some : (s : Sheet) (r k i j : ℕ) → j < i → takes s r k j ≡ true → Taken s r i k
unfolding latest
latest_some s r k zero j l t = absurd (omega arith)
latest_some s r k (suc i) j l t = go (takes s r k i) refl (λ d. latest_some s r k i j d t)
  where
    go : (b : Bool) → takes s r k i ≡ b → (j < i → Taken s r i k) → Taken s r (suc i) k
    go true e before =
        record {
          by = i;
          below = omega arith;
          is = cond_true (takes s r k i) (some i) (latest i s r k) e;
        }
    go false e before =
        let T = before (other (ℕ_discrete j i)) in
        record {
          by = T.by;
          below = omega (arith, T.below);
          is = cond_false (takes s r k i) (some i) (latest i s r k) e ∙ T.is;
        }
      where
        other : Dec (j ≡ i) → j < i
        other (yes q) = true_not_false (subst (λ (z : ℕ). takes s r k z ≡ true) q t) e
        other (no d) = omega arith

-- the slot that an operation names is held (rule 7), so one took it
pub wait_taken : (s : Sheet) → Valid s → (r i : ℕ) → i < N_of s → rank_of s i ≡ r → names_slot (op s i) ≡ true → Taken s r i (op s i).slot
unfolding request_good slot_held holds
wait_taken s g r i l e w =
    let k = (op s i).slot in
    let test : ℕ → Bool = λ j. holds s j i && eqb (op s j).slot k in
    let F = below_found i test (sym (cond_true (names_slot (op s i)) (slot_held s i k) _ w) ∙ g.requests_good i l) in
    let j = F.at in
    let held = and_left (holds s j i) (eqb (op s j).slot k) F.passed in
    let near = ltb j i && eqb (rank_of s j) (rank_of s i) in
    let kept = takes_slot (op s j) && not (freed s (i - suc j) (suc j) (op s j).slot) in
    let ranked = eqb-true (rank_of s j) (rank_of s i) (and_right (ltb j i) (eqb (rank_of s j) (rank_of s i)) (and_left near kept held)) in
    latest_some s r k i j F.below
    (and_both (eq-eqb (rank_of s j) r (ranked ∙ e))
    (and_both (and_left (takes_slot (op s j)) _ (and_right near kept held)) (and_right (holds s j i) (eqb (op s j).slot k) F.passed)))

-- THE LIST of the latest operation of board r below i that took each slot
pub record Latest (s : Sheet) (r i : ℕ) (last : List ℕ) : Type 0 where
  pub long : length last ≡ slot_limit
  pub is : (k j : ℕ) → k < slot_limit → latest i s r k ≡ some j → get_or last k 0 ≡ j

-- what an operation leaves in it
unfoldable pub last_after : Op → (i : ℕ) → List ℕ → List ℕ
last_after o i last = cond (takes_slot o) (set last o.slot i) last

-- before a script nobody has taken a slot
pub latest_none : (s : Sheet) → Valid s → (r : ℕ) → r < P_of s → Latest s r (board s r).first (replicate slot_limit 0)
unfolding latest
latest_none s g r l =
    record {
      long = length-replicate {A = ℕ} slot_limit 0;
      is = λ k j m e. absurd (let z : ◌≡◌ {A = Option ℕ} none (some j) = sym (nobody k (board s r).first (omega arith)) ∙ e in let y : ◌≡◌ {A = ℕ} 0 1 = cc in omega arith);
    }
  where
    nobody : (k i : ℕ) → i ≤ (board s r).first → latest i s r k ≡ none
    nobody k zero h = refl
    nobody k (suc i) h =
        cond_false (takes s r k i) (some i) (latest i s r k)
        (not_so (takes s r k i)
        (λ t.
        let q = eqb-true (rank_of s i) r (and_left (eqb (rank_of s i) r) (takes_slot (op s i) && eqb (op s i).slot k) t) in
        let inside : i < N_of s = omega (arith, g.script_inside r l) in
        omega (arith, g.rank_low i inside, ap (λ (z : ℕ). (board s z).first) q)))
        ∙ nobody k i (omega arith)

-- one operation more
pub latest_more : (s : Sheet) (r i : ℕ) (last : List ℕ) → Latest s r i last → rank_of s i ≡ r → (op s i).slot < slot_limit →
    Latest s r (i + 1) (last_after (op s i) i last)
unfolding latest last_after
latest_more s r i last L e m = subst (λ (n : ℕ). Latest s r n (last_after (op s i) i last)) (sym (add-one i)) (go (takes_slot (op s i)) refl)
  where
    slot : ℕ
    slot = (op s i).slot

    -- the operation takes no slot but its own, and its own where it is nonblocking
    not_taken : (k : ℕ) → takes s r k i ≡ false → latest (suc i) s r k ≡ latest i s r k
    not_taken k t = cond_false (takes s r k i) (some i) (latest i s r k) t

    its_slot : (k : ℕ) → takes s r k i ≡ true → (takes_slot (op s i) && eqb slot k) ≡ true
    its_slot k t = and_right (eqb (rank_of s i) r) (takes_slot (op s i) && eqb slot k) t

    other_slot : (k : ℕ) → (k ≡ slot → ⊥) → takes s r k i ≡ false
    other_slot k d = not_so (takes s r k i) (λ t. d (sym (eqb-true slot k (and_right (takes_slot (op s i)) (eqb slot k) (its_slot k t)))))

    blocking : takes_slot (op s i) ≡ false → (k : ℕ) → takes s r k i ≡ false
    blocking n k = not_so (takes s r k i) (λ t. true_not_false (and_left (takes_slot (op s i)) (eqb slot k) (its_slot k t)) n)

    go : (b : Bool) → takes_slot (op s i) ≡ b → Latest s r (suc i) (cond b (set last slot i) last)
    go false n =
        record {
          long = L.long;
          is = λ k j h q. L.is k j h (sym (not_taken k (blocking n k)) ∙ q);
        }
    go true n =
        record {
          long = length-set last slot i ∙ L.long;
          is = λ k j h q. at k j h q (ℕ_discrete k slot);
        }
      where
        at : (k j : ℕ) → k < slot_limit → latest (suc i) s r k ≡ some j → Dec (k ≡ slot) → get_or (set last slot i) k 0 ≡ j
        at k j h q (no d) = get_or-set_other last slot k i 0 d ∙ L.is k j h (sym (not_taken k (other_slot k d)) ∙ q)
        at k j h q (yes d) =
            let mine : takes s r k i ≡ true = and_both (eq-eqb (rank_of s i) r e) (and_both n (eq-eqb slot k (sym d))) in
            let both : some i ≡ some j = sym (cond_true (takes s r k i) (some i) (latest i s r k) mine) ∙ q in
            ap (λ (z : ℕ). get_or (set last slot i) z 0) d ∙ (get_or-set_same last slot i 0 (omega (arith, L.long)) ∙ cc)

-- THE TABLES are right below operation i
pub record Filled (s : Sheet) (c : List ℕ) (i : ℕ) : Type 0 where
  pub roomy : scratch_size ≤ length c
  pub ranks : Ranked s c i
  pub waits : Awaited s c i

pub filled_none : (s : Sheet) (c : List ℕ) → scratch_size ≤ length c → Filled s c 0
filled_none s c h =
    record {
      roomy = h;
      ranks = λ j l. absurd (omega arith);
      waits = λ j l. absurd (omega arith);
    }

pub filled_all : (s : Sheet) (c : List ℕ) → Filled s c (N_of s) → Indexed s c
filled_all s c F =
    record {
      rank_is = F.ranks;
      wait_is = F.waits;
    }

-- what operation i of board r writes: its rank, and where it names a slot the latest that took it
abbrev pub rank_put : (i r : ℕ) → List ℕ → List ℕ
rank_put i r c = splice c (rank_at i) (r ∷ [])

abbrev pub wait_put : (i v : ℕ) → List ℕ → List ℕ
wait_put i v c = splice c (word_at waits_at i) (low_two v)

unfoldable pub op_put : Op → (i r : ℕ) → (last c : List ℕ) → List ℕ
op_put o i r last c = cond (names_slot o) (wait_put i (get_or last o.slot 0) (rank_put i r c)) (rank_put i r c)

-- one operation more
module _ (s : Sheet) (g : Valid s) (r i : ℕ) (last c : List ℕ) (F : Filled s c i) (L : Latest s r i last) (l : i < N_of s) (e : rank_of s i ≡ r) where
  few : i < most_ops
  few = omega (arith, g.ops_few)

  rank_fits : rank_at i + 1 ≤ length c
  rank_fits = omega (arith, F.roomy, few)

  -- its rank is put, which leaves the other table
  rank_filled : (scratch_size ≤ length (rank_put i r c)) × Ranked s (rank_put i r c) (i + 1) × Awaited s (rank_put i r c) i
  rank_filled = (
    omega (arith, F.roomy, splice_length c (rank_at i) (r ∷ []) rank_fits),
    ranked_more s c i few F.roomy r (sym e) F.ranks,
    awaited_kept s c (rank_at i) (r ∷ []) i (omega (arith, few)) F.roomy rank_fits (λ j a b p q. omega (arith, few)) F.waits,
  )

  -- the word of one that names a slot is put, which leaves the ranks
  wait_filled : (v : ℕ) → v < 65536 → waited s i ≡ some v → Filled s (wait_put i v (rank_put i r c)) (i + 1)
  unfolding low_two
  wait_filled v small h =
      let d = rank_put i r c in
      let room : word_at waits_at i + length (low_two v) ≤ length d = omega (arith, rank_filled.0, few) in
      record {
        roomy = omega (arith, rank_filled.0, splice_length d (word_at waits_at i) (low_two v) room);
        ranks = ranked_kept s d (word_at waits_at i) (low_two v) (i + 1) (omega (arith, few)) rank_filled.0 room (λ j a b p q. omega arith) rank_filled.1;
        waits = awaited_more s d i few rank_filled.0 v small h rank_filled.2;
      }

  pub filled_more : (op s i).slot < slot_limit → Filled s (op_put (op s i) i r last c) (i + 1)
  unfolding op_put
  filled_more m = go (names_slot (op s i)) refl
    where
      go : (b : Bool) → names_slot (op s i) ≡ b → Filled s (cond b (wait_put i (get_or last (op s i).slot 0) (rank_put i r c)) (rank_put i r c)) (i + 1)
      go true w =
          let T = wait_taken s g r i l e w in
          let is = L.is (op s i).slot T.by m T.is in
          wait_filled (get_or last (op s i).slot 0) (omega (arith, is, T.below, few)) (waited_latest s i r e ∙ (T.is ∙ ap some (sym is)))
      go false w =
          record {
            roomy = rank_filled.0;
            ranks = rank_filled.1;
            waits = awaited_skip s (rank_put i r c) i few rank_filled.0 w rank_filled.2;
          }
