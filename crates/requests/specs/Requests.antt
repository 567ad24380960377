-- The table of slots is right before operation i of board r: a slot is taken there exactly where an operation holds it, and an
-- area is hit exactly where a held receive's is. Then the table's answer is rule 7's. Assumes nothing.
use Rattle.std.specs.Prelude.{◌≡◌, Bool, ◌&&◌, List, length, get_or, set, replicate}
use Rattle.std.proofs.Math.Path.{refl, sym, ap, ap₂, subst}
use Rattle.std.proofs.Common.{◌∙◌, add-one, length-set, get_or-set_same, get_or-set_other}
use Rattle.std.proofs.Math.Bool.{true, false, not, cond, and-true, and_assoc}
use Prim.Native.Nat.{ℕ, suc, ◌+◌, ◌-◌, ◌<◌, ◌≤◌}
use native.Mathlib.Omega.{arith}
use Rattle.std.proofs.Math.Decide.{ℕ_discrete}
use Rattle.std.proofs.Math.Dec.{ltb, eqb}
use Rattle.std.proofs.lemmas.List.{length-replicate, get_or-replicate}
use borrow.Author.Tests.{eq-eqb, ne_eqb, eqb-true, le-ltb, not-true}
use Rattle.rules.specs.Limits.{absent, slot_limit}
use Rattle.rules.specs.Sheet.{Sheet, op, board, P_of, N_of, rank_of, sheet_in, is_receive, names_slot, frees_slot, takes_slot}
use Rattle.rules.specs.Refusal.{freed, holds, some_below, slot_held, share, area_taken, request_good, room_for}
use Rattle.laws.specs.Tests.{and_left, and_right, and_both, true_not_false, not_so, same_test}
use Rattle.laws.specs.Below.{Found, below_some, below_found, below_none, below_equal}
use Rattle.laws.specs.Ranks.{Consecutive, rank_before_script, rank_lies, inbox_start_more}
use Rattle.laws.specs.Laid.{Laid}
use Rattle.laws.specs.Tabled.{Tabled}
use Rattle.laws.specs.Fields.{Fielded, fielded_at, fields_slot, fields_end, roles}
use Rattle.laws.specs.Holding.{holds_for, held_by, by_slot, by_slot_other, by_slot_freed, by_slot_taken, by_slot_same}
use Rattle.requests.specs.Slots.{slot_taken, hit, has_area, some_hit, table_good, area_from, area_to, starts_after, ends_after, Slotted}

-- receive j has an area that shares a byte with the stretch from `from` to before `to`
unfoldable pub area_test : Sheet → (from to j : ℕ) → Bool
area_test s from to j =
    has_area (op s j) && (ltb from ((op s j).offset + (op s j).long) && ltb (op s j).offset to)

pub record Kept (s : Sheet) (r i : ℕ) (starts ends : List ℕ) : Type 0 where
  pub starts_long : length starts ≡ slot_limit
  pub ends_long : length ends ≡ slot_limit
  pub taken : (k : ℕ) → k < slot_limit → slot_taken starts k ≡ by_slot s r i k (λ j. true)
  pub hits : (from to k : ℕ) → k < slot_limit → hit starts ends from to k ≡ by_slot s r i k (area_test s from to)

-- before a script nobody holds a slot
pub kept_none : (s : Sheet) → Consecutive s → (r i : ℕ) → r < P_of s → i ≡ (board s r).first → Kept s r i (replicate slot_limit absent) (replicate slot_limit 0)
unfolding held_by holds_for slot_taken hit
kept_none s c r i h e =
    record {
      starts_long = length-replicate {A = ℕ} slot_limit absent;
      ends_long = length-replicate {A = ℕ} slot_limit 0;
      taken = λ k l. free k l ∙ sym (nobody (λ j. eqb (op s j).slot k && true));
      hits = λ from to k l. missed from to k l ∙ sym (nobody (λ j. eqb (op s j).slot k && area_test s from to j));
    }
  where
    nobody : (g : ℕ → Bool) → held_by s r i g ≡ false
    nobody g =
        below_none i (λ j. holds_for s r j i && g j)
        (λ j l t.
        let q = and_left (holds_for s r j i) (g j) t in
        let earlier = and_left (ltb j i && eqb (rank_of s j) r) (takes_slot (op s j) && not (freed s (i - suc j) (suc j) (op s j).slot)) q in
        let p = eqb-true (rank_of s j) r (and_right (ltb j i) (eqb (rank_of s j) r) earlier) in
        omega (arith, rank_before_script s c r j h (omega arith)))

    free : (k : ℕ) → k < slot_limit → slot_taken (replicate slot_limit absent) k ≡ false
    free k l = rw (get_or-replicate {A = ℕ} slot_limit k absent 0 l)

    missed : (from to k : ℕ) → k < slot_limit → hit (replicate slot_limit absent) (replicate slot_limit 0) from to k ≡ false
    missed from to k l =
        rw (get_or-replicate {A = ℕ} slot_limit k 0 0 l)
        (ap (λ (b : Bool). b && ltb (get_or (replicate slot_limit absent) k 0) to) (le-ltb from 0 (omega arith)))

-- one operation more
module _ {s : Sheet} {r i : ℕ} {starts ends : List ℕ} (kept : Kept s r i starts ends) (rank : rank_of s i ≡ r) (o : Slotted (op s i)) where
  abbrev slot : ℕ
  slot = (op s i).slot

  -- a row that the operation does not name stays, on both sides
  other_taken : (v k : ℕ) → k < slot_limit → (k ≡ slot → ⊥) → slot_taken (set starts slot v) k ≡ by_slot s r (suc i) k (λ j. true)
  unfolding slot_taken
  other_taken v k l d =
      ap (λ (n : ℕ). not (eqb n absent)) (get_or-set_other starts slot k v 0 d) ∙ (kept.taken k l ∙ sym (by_slot_other s r i rank (λ j. true) k d))

  other_hits : (v w from to k : ℕ) → k < slot_limit → (k ≡ slot → ⊥)
      → hit (set starts slot v) (set ends slot w) from to k ≡ by_slot s r (suc i) k (area_test s from to)
  unfolding hit
  other_hits v w from to k l d =
      ap₂ (λ (a b : ℕ). ltb from a && ltb b to) (get_or-set_other ends slot k w 0 d) (get_or-set_other starts slot k v 0 d)
      ∙ (kept.hits from to k l ∙ sym (by_slot_other s r i rank (area_test s from to) k d))

  -- the row that it names now holds v and w
  same_taken : (v : ℕ) → slot_taken (set starts slot v) slot ≡ not (eqb v absent)
  unfolding slot_taken
  same_taken v = ap (λ (n : ℕ). not (eqb n absent)) (get_or-set_same starts slot v 0 (omega (arith, kept.starts_long, o.slot_small)))

  same_hits : (v w from to : ℕ) → hit (set starts slot v) (set ends slot w) from to slot ≡ (ltb from w && ltb v to)
  unfolding hit
  same_hits v w from to =
      ap₂ (λ (a b : ℕ). ltb from a && ltb b to) (get_or-set_same ends slot w 0 (omega (arith, kept.ends_long, o.slot_small)))
      (get_or-set_same starts slot v 0 (omega (arith, kept.starts_long, o.slot_small)))

  -- a change of one row is right where that row is
  changed : (v w : ℕ) → not (eqb v absent) ≡ by_slot s r (suc i) slot (λ j. true)
      → ((from to : ℕ) → (ltb from w && ltb v to) ≡ by_slot s r (suc i) slot (area_test s from to))
      → Kept s r (suc i) (set starts slot v) (set ends slot w)
  changed v w a b =
      record {
        starts_long = length-set starts slot v ∙ kept.starts_long;
        ends_long = length-set ends slot w ∙ kept.ends_long;
        taken = λ k l. taken_at k l (ℕ_discrete k slot);
        hits = λ from to k l. hits_at from to k l (ℕ_discrete k slot);
      }
    where
      taken_at : (k : ℕ) → k < slot_limit → Dec (k ≡ slot) → slot_taken (set starts slot v) k ≡ by_slot s r (suc i) k (λ j. true)
      taken_at k l (yes e) = subst (λ (n : ℕ). slot_taken (set starts slot v) n ≡ by_slot s r (suc i) n (λ j. true)) (sym e) (same_taken v ∙ a)
      taken_at k l (no d) = other_taken v k l d

      hits_at : (from to k : ℕ) → k < slot_limit → Dec (k ≡ slot)
          → hit (set starts slot v) (set ends slot w) from to k ≡ by_slot s r (suc i) k (area_test s from to)
      hits_at from to k l (yes e) =
          subst (λ (n : ℕ). hit (set starts slot v) (set ends slot w) from to n ≡ by_slot s r (suc i) n (area_test s from to)) (sym e)
          (same_hits v w from to ∙ b from to)
      hits_at from to k l (no d) = other_hits v w from to k l d

  -- an operation frees its slot
  kept_freed : frees_slot (op s i) ≡ true → takes_slot (op s i) ≡ false → Kept s r (suc i) (set starts slot absent) (set ends slot 0)
  kept_freed w n =
      changed absent 0 (sym (by_slot_freed s r i rank (λ j. true) w n))
      (λ from to. ap (λ (b : Bool). b && ltb absent to) (le-ltb from 0 (omega arith)) ∙ sym (by_slot_freed s r i rank (area_test s from to) w n))

  -- it takes its slot, with its area
  area_kept : (from to : ℕ) → (ltb from (area_to (op s i)) && ltb (area_from (op s i)) to) ≡ area_test s from to i
  unfolding area_test area_to area_from
  area_kept from to = go (has_area (op s i))
    where
      go : (b : Bool)
          → (ltb from (cond b ((op s i).offset + (op s i).long) 0) && ltb (cond b (op s i).offset 0) to)
          ≡ (b && (ltb from ((op s i).offset + (op s i).long) && ltb (op s i).offset to))
      go true = refl
      go false = ap (λ (b : Bool). b && ltb 0 to) (le-ltb from 0 (omega arith))

  area_from_small : area_from (op s i) < absent
  unfolding area_from
  area_from_small = go (has_area (op s i))
    where
      go : (b : Bool) → cond b (op s i).offset 0 < absent
      go true = omega (arith, o.end_small)
      go false = omega arith

  kept_taken : takes_slot (op s i) ≡ true → slot_taken starts slot ≡ false
      → Kept s r (suc i) (set starts slot (area_from (op s i))) (set ends slot (area_to (op s i)))
  kept_taken n free =
      let nobody = sym (kept.taken slot o.slot_small) ∙ free in
      changed (area_from (op s i)) (area_to (op s i))
      (ap (λ (b : Bool). not b) (ne_eqb (area_from (op s i)) absent (λ e. absurd (omega (arith, area_from_small))))
      ∙ sym (by_slot_taken s r i rank (λ j. true) n nobody))
      (λ from to. area_kept from to ∙ sym (by_slot_taken s r i rank (area_test s from to) n nobody))

  kept_same : frees_slot (op s i) ≡ false → takes_slot (op s i) ≡ false → Kept s r (suc i) starts ends
  kept_same w n =
      record {
        starts_long = kept.starts_long;
        ends_long = kept.ends_long;
        taken = λ k l. kept.taken k l ∙ sym (by_slot_same s r i rank (λ j. true) w n k);
        hits = λ from to k l. kept.hits from to k l ∙ sym (by_slot_same s r i rank (area_test s from to) w n k);
      }

  -- an operation that takes its slot, and that the table accepts, has found it free
  found_free : table_good starts ends (op s i) ≡ true → takes_slot (op s i) ≡ true → slot_taken starts slot ≡ false
  unfolding table_good
  found_free good t =
      let n : names_slot (op s i) ≡ false = not_so (names_slot (op s i)) (λ h. true_not_false t (o.roles.named_takes_none h)) in
      not-true (slot_taken starts slot) (and_left (not (slot_taken starts slot)) (not (some_hit starts ends (op s i))) (rw (n, t) at good))

  -- the table after an operation that it accepts
  pub kept_more : table_good starts ends (op s i) ≡ true → Kept s r (i + 1) (starts_after (op s i) starts) (ends_after (op s i) ends)
  unfolding starts_after ends_after
  kept_more good =
      subst (λ (n : ℕ). Kept s r n (starts_after (op s i) starts) (ends_after (op s i) ends)) (sym (add-one i))
      (go (frees_slot (op s i)) refl (takes_slot (op s i)) refl)
    where
      go : (f : Bool) → frees_slot (op s i) ≡ f → (t : Bool) → takes_slot (op s i) ≡ t
          → Kept s r (suc i) (cond f (set starts slot absent) (cond t (set starts slot (area_from (op s i))) starts))
          (cond f (set ends slot 0) (cond t (set ends slot (area_to (op s i))) ends))
      go true f t e = kept_freed f (o.roles.named_takes_none (o.roles.frees_named f))
      go false f true e = kept_taken e (found_free good e)
      go false f false e = kept_same f e

-- THE ANSWER: what the table says of operation i is rule 7's
module _ {s : Sheet} {r i : ℕ} {starts ends : List ℕ} (kept : Kept s r i starts ends) (rank : rank_of s i ≡ r)
    (small : (j : ℕ) → j ≤ i → (op s j).slot < slot_limit) where
  holds_is : (j : ℕ) → holds s j i ≡ holds_for s r j i
  unfolding holds holds_for
  holds_is j = ap (λ (n : ℕ). (ltb j i && eqb (rank_of s j) n) && (takes_slot (op s j) && not (freed s (i - suc j) (suc j) (op s j).slot))) rank

  slot_answer : slot_taken starts (op s i).slot ≡ slot_held s i (op s i).slot
  unfolding slot_held held_by
  slot_answer =
      kept.taken (op s i).slot (small i (omega arith))
      ∙ below_equal i (λ j. holds_for s r j i && (eqb (op s j).slot (op s i).slot && true)) (λ j. holds s j i && eqb (op s j).slot (op s i).slot)
      (λ j l. ap₂ (λ (a b : Bool). a && b) (sym (holds_is j)) (and-true (eqb (op s j).slot (op s i).slot)))

  abbrev from : ℕ
  from = (op s i).offset

  abbrev to : ℕ
  to = (op s i).offset + (op s i).long

  abbrev sharing : ℕ → Bool
  sharing j = holds s j i && (is_receive (op s j) && share (op s j) (op s i))

  abbrev hitting : (k j : ℕ) → Bool
  hitting k j = holds_for s r j i && (eqb (op s j).slot k && area_test s from to j)

  -- with an area of its own, operation i shares a byte with receive j exactly where the area test says so
  share_is : ltb 0 (op s i).long ≡ true → (j : ℕ) → (is_receive (op s j) && share (op s j) (op s i)) ≡ area_test s from to j
  unfolding share area_test has_area
  share_is l j = rw l (regroup (is_receive (op s j)) (ltb 0 (op s j).long) (ltb (op s j).offset to) (ltb from ((op s j).offset + (op s j).long)))
    where
      regroup : (a b c d : Bool) → (a && ((b && true) && (c && d))) ≡ ((a && b) && (d && c))
      regroup false b c d = refl
      regroup true false c d = refl
      regroup true true true true = refl
      regroup true true true false = refl
      regroup true true false true = refl
      regroup true true false false = refl

  hit_answer : ltb 0 (op s i).long ≡ true → some_below slot_limit (hit starts ends from to) ≡ area_taken s i
  unfolding area_taken held_by
  hit_answer l = same_test (some_below slot_limit (hit starts ends from to)) (some_below i sharing) forth back
    where
      forth : some_below slot_limit (hit starts ends from to) ≡ true → some_below i sharing ≡ true
      forth h =
          let k : Found slot_limit (hit starts ends from to) = below_found slot_limit (hit starts ends from to) h in
          let j : Found i (hitting k.at) = below_found i (hitting k.at) (sym (kept.hits from to k.at k.below) ∙ k.passed) in
          let q = and_right (holds_for s r j.at i) (eqb (op s j.at).slot k.at && area_test s from to j.at) j.passed in
          below_some i sharing j.at j.below
          (and_both (holds_is j.at ∙ and_left (holds_for s r j.at i) (eqb (op s j.at).slot k.at && area_test s from to j.at) j.passed)
          (share_is l j.at ∙ and_right (eqb (op s j.at).slot k.at) (area_test s from to j.at) q))

      back : some_below i sharing ≡ true → some_below slot_limit (hit starts ends from to) ≡ true
      back h =
          let j : Found i sharing = below_found i sharing h in
          let k : ℕ = (op s j.at).slot in
          let under : k < slot_limit = small j.at (omega (arith, j.below)) in
          let shared = and_right (holds s j.at i) (is_receive (op s j.at) && share (op s j.at) (op s i)) j.passed in
          let held = and_left (holds s j.at i) (is_receive (op s j.at) && share (op s j.at) (op s i)) j.passed in
          below_some slot_limit (hit starts ends from to) k under
          (kept.hits from to k under
          ∙ below_some i (hitting k) j.at j.below
          (and_both (sym (holds_is j.at) ∙ held) (and_both (eq-eqb k k refl) (sym (share_is l j.at) ∙ shared))))

  -- an empty area shares nothing
  empty_answer : ltb 0 (op s i).long ≡ false → area_taken s i ≡ false
  unfolding area_taken share
  empty_answer l =
      below_none i sharing
      (λ j h t.
      let q = and_right (is_receive (op s j)) (share (op s j) (op s i)) (and_right (holds s j i) (is_receive (op s j) && share (op s j) (op s i)) t) in
      true_not_false (and_right (ltb 0 (op s j).long) (ltb 0 (op s i).long)
      (and_left (ltb 0 (op s j).long && ltb 0 (op s i).long)
      (ltb (op s j).offset ((op s i).offset + (op s i).long) && ltb (op s i).offset ((op s j).offset + (op s j).long)) q)) l)

  area_answer : some_hit starts ends (op s i) ≡ (is_receive (op s i) && area_taken s i)
  unfolding some_hit has_area
  area_answer =
      and_assoc (is_receive (op s i)) (ltb 0 (op s i).long) (some_below slot_limit (hit starts ends from to))
      ∙ ap (λ (b : Bool). is_receive (op s i) && b) (go (ltb 0 (op s i).long) refl)
    where
      go : (b : Bool) → ltb 0 (op s i).long ≡ b → (b && some_below slot_limit (hit starts ends from to)) ≡ area_taken s i
      go true l = hit_answer l
      go false l = sym (empty_answer l)

  pub table_answer : table_good starts ends (op s i) ≡ request_good s i
  unfolding table_good request_good
  table_answer =
      ap₂ (λ (a b : Bool). cond (names_slot (op s i)) a (not (takes_slot (op s i) && a) && not b)) slot_answer area_answer

-- what refusals 3, 5 and 6 have settled of each operation
pub slotted : (bs : List ℕ) → Laid bs → Tabled (sheet_in bs) → Fielded (sheet_in bs) → (i : ℕ) → i < N_of (sheet_in bs) → Slotted (op (sheet_in bs) i)
unfolding room_for
slotted bs l t f i h =
    let fields = fielded_at s f i h in
    record {
      slot_small = fields_slot (P_of s) s.comms (room_for s i) (op s i) fields;
      end_small = omega (arith, fields_end (P_of s) s.comms (room_for s i) (op s i) fields, room_small (is_receive (op s i)));
      roles = roles (P_of s) s.comms (room_for s i) (op s i) fields;
    }
  where
    s : Sheet
    s = sheet_in bs

    rank : ℕ
    rank = rank_of s i

    below : rank < P_of s
    below = (rank_lies s t.consecutive i (omega (arith, t.total))).0

    -- an inbox and the payload are far shorter than 65,535 bytes
    room_small : (b : Bool) → cond b (board s rank).inbox (length s.payload) < absent
    room_small true = omega (arith, inbox_start_more s rank below, t.inbox_most rank below)
    room_small false = omega (arith, l.payload_is, l.short_payload)
