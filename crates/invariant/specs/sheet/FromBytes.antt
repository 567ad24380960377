-- Bytes that pass check decode to a valid sheet: each number of the refusal table settles its part of `Valid`.
--   Accepted                         the tests that bytes with no refusal have passed
--   accepted_laid, accepted_tabled   what refusals 1 to 3, and 5, have settled of them
--   valid_from_bytes                 passes bs gives Valid (sheet_in bs)
-- Assumes nothing.
use Rattle.std.specs.Prelude.{◌≡◌, Bool, true, false, ◌&&◌, not, cond, List, ltb, leb, length}
use Rattle.std.proofs.Math.Path.{refl, subst}
use Rattle.std.proofs.Common.{sym, leb-true, eqb-true}
use Prim.Native.Nat.{ℕ, zero, suc, ◌+◌, ◌-◌, ◌≤◌, ◌<◌}
use native.Mathlib.Omega.{arith}
use Rattle.std.proofs.lemmas.Bool.{not-false}
use Rattle.rules.specs.Limits.{most_boards, most_comms, most_ops, most_payload, most_inbox, header_size}
use Rattle.rules.specs.Sheet.{Sheet, board, P_of, N_of, rank_of, inbox_start, inbox_total, P_in, C_in, N_in, L_in, sheet_in}
use Rattle.rules.specs.Refusal.{Refusal, refusal, or_else, first_broken, sizes_good, layout_good, crc_good, board_good, boards_refusal, op_good}
use Rattle.rules.specs.Refusal.{ops_refusal, request_good, slot_freed, requests_refusal, tables_refusal, sheet_refusal}
use Rattle.rules.specs.Claims.{passes}
use Rattle.laws.specs.Tests.{and_left, and_right}
use Rattle.laws.specs.Broken.{broken_passed}
use Rattle.laws.specs.Decoded.{P_decoded, N_decoded, payload_decoded}
use Rattle.laws.specs.Laid.{Laid, laid}
use Rattle.laws.specs.Ranks.{inbox_start_more, sum_before_grows, rank_in_script, rank_lies}
use Rattle.laws.specs.Scripts.{script_inside}
use Rattle.laws.specs.Tabled.{Tabled, tabled, or_else_first, or_else_second}
use Rattle.invariant.specs.sheet.Valid.{Valid}

-- ACCEPTED
pub record Accepted (bs : List ℕ) : Type 0 where
  pub sizes : sizes_good bs ≡ true
  pub layout : layout_good bs ≡ true
  pub tables : (tables_refusal (sheet_in bs)).number ≡ 0

-- a chain of refusals that accepts has passed its first test and goes on
chain_test : (b : Bool) (n : ℕ) (rest : Refusal) → (cond b (refusal (suc n) 0) rest).number ≡ 0 → b ≡ false
unfolding refusal
chain_test true n rest h = absurd (omega arith)
chain_test false n rest h = refl

chain_rest : (b : Bool) (n : ℕ) (rest : Refusal) → (cond b (refusal (suc n) 0) rest).number ≡ 0 → rest.number ≡ 0
unfolding refusal
chain_rest true n rest h = absurd (omega arith)
chain_rest false n rest h = h

pub unrefused_accepted : (bs : List ℕ) → (sheet_refusal bs).number ≡ 0 → Accepted bs
unfolding sheet_refusal
unrefused_accepted bs h =
    record {
      sizes = not-false (sizes_good bs) (chain_test (not (sizes_good bs)) 1 after_sizes from_sizes);
      layout = not-false (layout_good bs) (chain_test (not (layout_good bs)) 2 after_layout from_layout);
      tables =
          chain_rest (not (crc_good bs)) 3 (tables_refusal (sheet_in bs))
          (chain_rest (not (layout_good bs)) 2 after_layout from_layout);
    }
  where
    after_layout : Refusal
    after_layout = cond (not (crc_good bs)) (refusal 4 0) (tables_refusal (sheet_in bs))

    after_sizes : Refusal
    after_sizes = cond (not (layout_good bs)) (refusal 3 0) after_layout

    from_sizes : (cond (not (sizes_good bs)) (refusal 2 0) after_sizes).number ≡ 0
    from_sizes =
        chain_rest (ltb (length bs) header_size) 0 (cond (not (sizes_good bs)) (refusal 2 0) after_sizes)
        h

    from_layout : after_sizes.number ≡ 0
    from_layout = chain_rest (not (sizes_good bs)) 1 after_sizes from_sizes

pub passed_accepted : (bs : List ℕ) → passes bs ≡ true → Accepted bs
unfolding passes
passed_accepted bs h = unrefused_accepted bs (eqb-true (sheet_refusal bs).number 0 h)

-- at least one communicator, which `Laid` leaves out
sizes_comm : (bs : List ℕ) → sizes_good bs ≡ true → 1 ≤ C_in bs
unfolding sizes_good
sizes_comm bs h =
    let p = leb 1 (P_in bs) && leb (P_in bs) most_boards in
    let c = leb 1 (C_in bs) && leb (C_in bs) most_comms in
    let n = leb (N_in bs) most_ops && leb (L_in bs) most_payload in
    leb-true 1 (C_in bs) (and_left (leb 1 (C_in bs)) (leb (C_in bs) most_comms) (and_right p c (and_left (p && c) n h)))

-- GOOD, over the tables: what numbers 5 to 7 settle
module _ (s : Sheet) (h : (tables_refusal s).number ≡ 0) where
  table : Tabled s
  unfolding tables_refusal
  table = tabled s (or_else_first (boards_refusal s) (or_else (ops_refusal s) (requests_refusal s)) h)

  rest_accepted : (or_else (ops_refusal s) (requests_refusal s)).number ≡ 0
  unfolding tables_refusal
  rest_accepted = or_else_second (boards_refusal s) (or_else (ops_refusal s) (requests_refusal s)) h

  table_boards : (r : ℕ) → r < P_of s → board_good s r ≡ true
  unfolding tables_refusal boards_refusal
  table_boards r l =
      broken_passed 5 (board_good s) (P_of s) 0 (λ z. absurd (omega arith))
      (or_else_first (first_broken 5 (board_good s) (P_of s) 0) _
      (or_else_first (boards_refusal s) (or_else (ops_refusal s) (requests_refusal s)) h)) r (omega arith) (omega arith)

  table_ops : (i : ℕ) → i < N_of s → op_good s i ≡ true
  unfolding ops_refusal
  table_ops i l =
      broken_passed 6 (op_good s) (N_of s) 0 (λ z. absurd (omega arith))
      (or_else_first (ops_refusal s) (requests_refusal s) rest_accepted) i (omega arith) (omega arith)

  abbrev broken_requests : Refusal
  broken_requests = first_broken 7 (request_good s) (N_of s) 0

  abbrev forgotten_requests : Refusal
  forgotten_requests = first_broken 7 (slot_freed s) (N_of s) 0

  requests_accepted : (or_else broken_requests forgotten_requests).number ≡ 0
  unfolding requests_refusal
  requests_accepted = or_else_second (ops_refusal s) (requests_refusal s) rest_accepted

  table_requests : (i : ℕ) → i < N_of s → request_good s i ≡ true
  table_requests i l =
      broken_passed 7 (request_good s) (N_of s) 0 (λ z. absurd (omega arith))
      (or_else_first broken_requests forgotten_requests requests_accepted) i (omega arith) (omega arith)

  table_freed : (i : ℕ) → i < N_of s → slot_freed s i ≡ true
  table_freed i l =
      broken_passed 7 (slot_freed s) (N_of s) 0 (λ z. absurd (omega arith))
      (or_else_second broken_requests forgotten_requests requests_accepted) i (omega arith) (omega arith)

  table_lies : (i : ℕ) → i < N_of s →
      (rank_of s i < P_of s) × ((board s (rank_of s i)).first ≤ i)
      × (i < (board s (rank_of s i)).first + (board s (rank_of s i)).count)
  table_lies i l = rank_lies s table.consecutive i (omega (arith, table.total))

  -- inbox starts only grow
  table_inboxes : (r q : ℕ) → r < q → q ≤ P_of s → inbox_start s r + (board s r).inbox ≤ inbox_start s q
  unfolding inbox_start
  table_inboxes r q l m =
      let there : suc r + (q - suc r) ≡ q = omega arith in
      let grown = sum_before_grows (λ b. b.inbox) s.boards (suc r) (q - suc r) in
      omega (arith, inbox_start_more s r (omega arith), subst (λ (n : ℕ). inbox_start s (suc r) ≤ inbox_start s n) there grown)

  table_total : 1 ≤ P_of s → inbox_total s ≤ most_inbox
  unfolding inbox_total
  table_total l = go (P_of s) refl l
    where
      go : (p : ℕ) → P_of s ≡ p → 1 ≤ p → inbox_start s (P_of s) ≤ most_inbox
      go zero e k = absurd (omega arith)
      go (suc p) e k = subst (λ (n : ℕ). inbox_start s n ≤ most_inbox) (sym e) (table.inbox_most p (omega arith))

pub accepted_laid : (bs : List ℕ) → Accepted bs → Laid bs
accepted_laid bs A = laid bs A.sizes A.layout

pub accepted_tabled : (bs : List ℕ) → Accepted bs → Tabled (sheet_in bs)
accepted_tabled bs A = table (sheet_in bs) A.tables

pub valid_from_accepted : (bs : List ℕ) → Accepted bs → Valid (sheet_in bs)
unfolding sheet_in
valid_from_accepted bs A =
    record {
      some_board = omega (arith, P_decoded bs, L.some_board);
      boards_few = omega (arith, P_decoded bs, L.few_boards);
      some_comm = sizes_comm bs A.sizes;
      comms_few = L.few_comms;
      ops_few = omega (arith, N_decoded bs, L.few_ops);
      payload_small = omega (arith, payload_decoded bs L.whole, L.short_payload);
      boards_good = table_boards s A.tables;
      counts_total = (table s A.tables).total;
      ops_good = table_ops s A.tables;
      requests_good = table_requests s A.tables;
      slots_freed = table_freed s A.tables;
      rank_small = λ i l. (table_lies s A.tables i l).0;
      rank_low = λ i l. (table_lies s A.tables i l).1;
      rank_high = λ i l. (table_lies s A.tables i l).2;
      script_ranked = rank_in_script s (table s A.tables).consecutive;
      script_inside = script_inside s (table s A.tables);
      inbox_next = inbox_start_more s;
      inbox_order = table_inboxes s A.tables;
      inbox_small = table_total s A.tables (omega (arith, P_decoded bs, L.some_board));
    }
  where
    s : Sheet
    s = sheet_in bs

    L : Laid bs
    L = accepted_laid bs A

pub valid_from_bytes : (bs : List ℕ) → passes bs ≡ true → Valid (sheet_in bs)
valid_from_bytes bs h = valid_from_accepted bs (passed_accepted bs h)
