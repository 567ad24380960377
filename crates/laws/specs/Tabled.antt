-- What refusal 5 has settled besides: the scripts lie one after another and total N, and every inbox lies inside the inbox
-- memory. Assumes nothing.
use Rattle.std.specs.Prelude.{◌≡◌, refl, Bool, true, false, ◌&&◌, cond, ℕ, suc, ◌<◌, ◌≤◌, leb, eqb}
use Rattle.std.proofs.Common.{arith}
use borrow.Author.Tests.{leb-true, eqb-true}
use Rattle.rules.specs.Limits.{most_attached, most_inbox, most_room}
use Rattle.rules.specs.Sheet.{Sheet, board, P_of, N_of, counts_before, inbox_start}
use Rattle.rules.specs.Refusal.{Refusal, refusal, accepted, or_else, first_broken, board_good, boards_refusal}
use Rattle.laws.specs.Tests.{and_left, and_right}
use Rattle.laws.specs.Broken.{broken_passed}
use Rattle.laws.specs.Ranks.{Consecutive}

-- what refusal 5 asks of one board, part by part
pub record BoardEntry (s : Sheet) (r : ℕ) : Type 0 where
  pub first : (board s r).first ≡ counts_before s r
  pub attached : (board s r).attached ≤ most_attached
  pub inbox : inbox_start s (suc r) ≤ most_inbox
  pub room : (board s r).room ≤ most_room

pub board_entry : (s : Sheet) (r : ℕ) → board_good s r ≡ true → BoardEntry s r
unfolding board_good
board_entry s r h =
    let begins = eqb (board s r).first (counts_before s r) in
    let attached = leb (board s r).attached most_attached in
    let inboxes = leb (inbox_start s (suc r)) most_inbox in
    let room = leb (board s r).room most_room in
    let sizes = and_right begins ((attached && inboxes) && room) h in
    let two = and_left (attached && inboxes) room sizes in
    record {
      first = eqb-true (board s r).first (counts_before s r) (and_left begins ((attached && inboxes) && room) h);
      attached = leb-true (board s r).attached most_attached (and_left attached inboxes two);
      inbox = leb-true (inbox_start s (suc r)) most_inbox (and_right attached inboxes two);
      room = leb-true (board s r).room most_room (and_right (attached && inboxes) room sizes);
    }

pub record Tabled (s : Sheet) : Type 0 where
  pub consecutive : Consecutive s
  pub total : counts_before s (P_of s) ≡ N_of s
  pub attached_most : (r : ℕ) → r < P_of s → (board s r).attached ≤ most_attached
  pub inbox_most : (r : ℕ) → r < P_of s → inbox_start s (suc r) ≤ most_inbox
  pub room_most : (r : ℕ) → r < P_of s → (board s r).room ≤ most_room

-- either refusal of a chain that accepts accepts
pub or_else_first : (a b : Refusal) → (or_else a b).number ≡ 0 → a.number ≡ 0
unfolding or_else
or_else_first a b h = go (eqb a.number 0) refl h
  where
    go : (t : Bool) → eqb a.number 0 ≡ t → (cond t b a).number ≡ 0 → a.number ≡ 0
    go true e q = eqb-true a.number 0 e
    go false e q = q

pub or_else_second : (a b : Refusal) → (or_else a b).number ≡ 0 → b.number ≡ 0
unfolding or_else
or_else_second a b h = go (eqb a.number 0) refl h
  where
    go : (t : Bool) → eqb a.number 0 ≡ t → (cond t b a).number ≡ 0 → b.number ≡ 0
    go true e q = q
    go false e q = absurd (borrow.Author.Tests.eqb-false a.number 0 e q)

pub tabled : (s : Sheet) → (boards_refusal s).number ≡ 0 → Tabled s
unfolding boards_refusal refusal
tabled s h =
    record {
      consecutive = λ r l. (entry r l).first;
      total = counted;
      attached_most = λ r l. (entry r l).attached;
      inbox_most = λ r l. (entry r l).inbox;
      room_most = λ r l. (entry r l).room;
    }
  where
    all : Refusal
    all = first_broken 5 (board_good s) (P_of s) 0

    sum : Refusal
    sum = cond (eqb (counts_before s (P_of s)) (N_of s)) accepted (refusal 5 (P_of s))

    entry : (r : ℕ) → r < P_of s → BoardEntry s r
    entry r l =
        board_entry s r
        (broken_passed 5 (board_good s) (P_of s) 0 (λ z. absurd (omega arith)) (or_else_first all sum h) r (omega arith) (omega arith))

    counted : counts_before s (P_of s) ≡ N_of s
    counted = go (eqb (counts_before s (P_of s)) (N_of s)) refl (or_else_second all sum h)
      where
        go : (t : Bool) → eqb (counts_before s (P_of s)) (N_of s) ≡ t → (cond t accepted (refusal 5 (P_of s))).number ≡ 0 → counts_before s (P_of s) ≡ N_of s
        go true e q = eqb-true (counts_before s (P_of s)) (N_of s) e
        go false e q = absurd (omega arith)
