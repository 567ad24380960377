-- Forgotten requests as a walk over a script from its end to its front. At operation i it is known which slots are freed from
-- there on, and what the search from there on answers: both definitions recurse from the front, so that the walk takes one turn
-- of each. Assumes nothing.
use Rattle.std.specs.Prelude.{◌≡◌, Bool, ◌&&◌, ◌||◌, cond, List, eqb, length, get_or, set, replicate, Result, Ok, Err}
use Rattle.std.proofs.Math.Path.{refl, ap, subst}
use Rattle.std.proofs.Common.{sym, ◌∙◌, ap₂, arith, length-set, get_or-set_same, get_or-set_other, eq-eqb, ne_eqb}
use Rattle.std.proofs.Math.Bool.{true, false, not}
use Prim.Native.Nat.{ℕ, suc, ◌+◌, ◌-◌, ◌<◌, ◌≤◌}
use Rattle.std.proofs.Math.Decide.{ℕ_discrete}
use Rattle.std.proofs.lemmas.List.{length-replicate, get_or-replicate}
use Rattle.rules.specs.Limits.{slot_limit}
use Rattle.rules.specs.Sheet.{Sheet, op, board, P_of, N_of, rank_of, takes_slot, frees_slot}
use Rattle.rules.specs.Refusal.{refusal, first_broken, freed, slot_freed}
use Rattle.sheet.specs.declared.refusal.Refusal.{Refusal as Refused}
use Rattle.sheet.specs.declared.refusal.Rule.TheVariants.{Requests}
use Rattle.sheet.specs.Refused.{Refuses}
use Rattle.laws.specs.Answers.{told_is}
use Rattle.laws.specs.Broken.{broken_none}
use Rattle.laws.specs.Ranks.{rank_in_script}
use Rattle.laws.specs.Scripts.{script_inside}
use Rattle.laws.specs.Tabled.{Tabled}
use Rattle.requests.specs.Slots.{Slotted}

abbrev pub script_end : Sheet → (r : ℕ) → ℕ
script_end s r = (board s r).first + (board s r).count

-- what the search answers from operation i on
abbrev pub AnsweredFrom : Sheet → (r i : ℕ) → Result Unit Refused → Type 0
AnsweredFrom s r i said = Refuses (first_broken 7 (slot_freed s) (script_end s r - i) i) said

-- operation j is refused
abbrev pub refused_at : (j : ℕ) → Result Unit Refused
refused_at j = Err (record { rule = Requests; place = j })

-- the walk over the script of board r has come down to operation i
pub record Walked (s : Sheet) (r i : ℕ) (known : List Bool) (said : Result Unit Refused) : Type 0 where
  pub tabled : Tabled s
  pub ranked : r < P_of s
  pub lower : (board s r).first ≤ i
  pub upper : i ≤ script_end s r
  pub inside : script_end s r ≤ N_of s
  pub long : length known ≡ slot_limit
  pub freed_is : (k : ℕ) → k < slot_limit → get_or known k false ≡ freed s (script_end s r - i) i k
  pub told : AnsweredFrom s r i said

-- behind the script nothing is freed, and nothing is refused
pub walked_none : (s : Sheet) → Tabled s → (r i : ℕ) → r < P_of s → i ≡ script_end s r → Walked s r i (replicate slot_limit false) (Ok tt)
unfolding freed
walked_none s t r i l e =
    let none : script_end s r - i ≡ 0 = omega arith in
    record {
      tabled = t;
      ranked = l;
      lower = omega arith;
      upper = omega arith;
      inside = script_inside s t r l;
      long = length-replicate {A = Bool} slot_limit false;
      freed_is = λ k l. get_or-replicate {A = Bool} slot_limit k false false l ∙ ap (λ (n : ℕ). freed s n i k) (sym none);
      told =
          told_is (first_broken 7 (slot_freed s) (script_end s r - i) i) 0 0
          (broken_none 7 (slot_freed s) (script_end s r - i) i none);
    }

-- one operation more: the one before i is an operation of the sheet, and of board r
module _ {s : Sheet} {r i : ℕ} {known : List Bool} {said : Result Unit Refused} (w : Walked s r i known said) (more : (board s r).first < i) where
  abbrev j : ℕ
  j = i - 1

  pub walked_inside : i - 1 < N_of s
  walked_inside = omega (arith, w.upper, w.inside)

  walked_rank : rank_of s (i - 1) ≡ r
  walked_rank = rank_in_script s w.tabled.consecutive r j w.ranked (omega arith) (omega (arith, w.upper))

  next : i ≡ suc j
  next = omega arith

  abbrev slot : ℕ
  slot = (op s j).slot

  -- how many operations are left from j on, and behind it
  left : script_end s r - j ≡ suc (script_end s r - suc j)
  left = omega (arith, w.upper)

  known_is : (k : ℕ) → k < slot_limit → get_or known k false ≡ freed s (script_end s r - suc j) (suc j) k
  known_is k l = w.freed_is k l ∙ ap (λ (n : ℕ). freed s (script_end s r - n) n k) next

  freed_now : (k : ℕ) → freed s (script_end s r - j) j k
      ≡ ((frees_slot (op s j) && eqb slot k) || freed s (script_end s r - suc j) (suc j) k)
  unfolding freed
  freed_now k = ap (λ (n : ℕ). freed s n j k) left

  -- what is known of j's fields
  module _ (o : Slotted (op s j)) where
    -- what frees its slot notes it, and anything else leaves what is known
    noted_freed : frees_slot (op s j) ≡ true → (k : ℕ) → k < slot_limit → get_or (set known slot true) k false ≡ freed s (script_end s r - j) j k
    noted_freed f k l = go (ℕ_discrete k slot) ∙ sym (freed_now k)
      where
        behind : Bool
        behind = freed s (script_end s r - suc j) (suc j) k

        go : Dec (k ≡ slot) → get_or (set known slot true) k false ≡ ((frees_slot (op s j) && eqb slot k) || behind)
        go (yes e) =
            let same : eqb slot k ≡ true = eq-eqb slot k (sym e) in
            ap (λ (n : ℕ). get_or (set known slot true) n false) e
            ∙ (get_or-set_same known slot true false (omega (arith, w.long, o.slot_small))
            ∙ ap₂ (λ (x y : Bool). (x && y) || behind) (sym f) (sym same))
        go (no d) =
            let differ : eqb slot k ≡ false = ne_eqb slot k (λ e. d (sym e)) in
            get_or-set_other known slot k true false d
            ∙ (known_is k l ∙ ap₂ (λ (x y : Bool). (x && y) || behind) (sym f) (sym differ))

    noted_same : frees_slot (op s j) ≡ false → (k : ℕ) → k < slot_limit → get_or known k false ≡ freed s (script_end s r - j) j k
    noted_same f k l =
        known_is k l
        ∙ (ap (λ (x : Bool). (x && eqb slot k) || freed s (script_end s r - suc j) (suc j) k) (sym f) ∙ sym (freed_now k))

    -- j is forgotten: it takes its slot, and behind it nothing frees it
    abbrev forgotten : Bool
    forgotten = takes_slot (op s j) && not (get_or known slot false)

    rule_is : slot_freed s j ≡ not forgotten
    unfolding slot_freed
    rule_is =
        ap (λ (q : ℕ). not (takes_slot (op s j)) || freed s (script_end s q - suc j) (suc j) slot) walked_rank
        ∙ (ap (λ (b : Bool). not (takes_slot (op s j)) || b) (sym (known_is slot o.slot_small)) ∙ turned (takes_slot (op s j)) (get_or known slot false))
      where
        turned : (a b : Bool) → (not a || b) ≡ not (a && not b)
        turned true true = refl
        turned true false = refl
        turned false b = refl

    told_now : AnsweredFrom s r j (cond forgotten (refused_at j) said)
    unfolding first_broken
    told_now = subst (λ (n : ℕ). Refuses (first_broken 7 (slot_freed s) n j) (cond forgotten (refused_at j) said)) (sym left) here
      where
        behind : Refuses (first_broken 7 (slot_freed s) (script_end s r - suc j) (suc j)) said
        behind = subst (λ (n : ℕ). Refuses (first_broken 7 (slot_freed s) (script_end s r - n) n) said) next w.told

        go : (b : Bool)
            → Refuses (cond (not b) (first_broken 7 (slot_freed s) (script_end s r - suc j) (suc j)) (refusal 7 j))
            (cond b (refused_at j) said)
        go true = told_is (refusal 7 j) 7 j refl
        go false = behind

        here : Refuses (first_broken 7 (slot_freed s) (suc (script_end s r - suc j)) j) (cond forgotten (refused_at j) said)
        here =
            subst (λ (b : Bool). Refuses (cond b (first_broken 7 (slot_freed s) (script_end s r - suc j) (suc j)) (refusal 7 j))
            (cond forgotten (refused_at j) said)) (sym rule_is) (go forgotten)

    -- THREE WAYS: j frees its slot, and takes none; it is forgotten, and told; neither
    pub walked_freed : frees_slot (op s j) ≡ true → Walked s r j (set known slot true) said
    walked_freed f =
        let Takes_none = o.roles.named_takes_none (o.roles.frees_named f) in
        let kept : forgotten ≡ false = ap (λ (b : Bool). b && not (get_or known slot false)) Takes_none in
        record {
          tabled = w.tabled;
          ranked = w.ranked;
          lower = omega arith;
          upper = omega (arith, w.upper);
          inside = w.inside;
          long = length-set known slot true ∙ w.long;
          freed_is = noted_freed f;
          told = subst (λ (b : Bool). AnsweredFrom s r j (cond b (refused_at j) said)) kept told_now;
        }

    module _ (f : frees_slot (op s j) ≡ false) where
      walked_same : (b : Bool) → forgotten ≡ b → Walked s r j known (cond b (refused_at j) said)
      walked_same b e =
          record {
            tabled = w.tabled;
            ranked = w.ranked;
            lower = omega arith;
            upper = omega (arith, w.upper);
            inside = w.inside;
            long = w.long;
            freed_is = noted_same f;
            told = subst (λ (b : Bool). AnsweredFrom s r j (cond b (refused_at j) said)) e told_now;
          }

      pub walked_forgotten : forgotten ≡ true → Walked s r j known (refused_at j)
      walked_forgotten e = walked_same true e

      pub walked_on : forgotten ≡ false → Walked s r j known said
      walked_on e = walked_same false e

-- at the front of the script the walk answers for all of it
pub walked_all : {s : Sheet} {r i : ℕ} {known : List Bool} {said : Result Unit Refused} → Walked s r i known said →
    i ≤ (board s r).first → Refuses (first_broken 7 (slot_freed s) (board s r).count (board s r).first) said
walked_all {s} {r} {i} {known} {said} w l =
    let at : i ≡ (board s r).first = omega (arith, w.lower) in
    let all : script_end s r - (board s r).first ≡ (board s r).count = omega arith in
    subst (λ (n : ℕ). Refuses (first_broken 7 (slot_freed s) n (board s r).first) said) all
    (subst (λ (n : ℕ). Refuses (first_broken 7 (slot_freed s) (script_end s r - n) n) said) at w.told)
