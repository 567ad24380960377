-- What refusals 1 to 3 have settled of a sheet's bytes: the sizes are in their ranges and the length is theirs, so that every
-- table lies inside. Readers of the tables ask for it. Assumes nothing.
use Rattle.std.specs.Prelude.{◌≡◌, true, ◌&&◌, List, ℕ, ◌*◌, ◌≤◌, leb, eqb, length}
use Rattle.std.proofs.Common.{leb-true, eqb-true}
use Rattle.rules.specs.Limits.{most_boards, most_comms, most_ops, most_payload, boards_at, boards_size, ops_at, payload_at, sheet_size}
use Rattle.rules.specs.Sheet.{two, second_in, sheet_in, P_of, N_of, P_in, C_in, N_in, L_in}
use Rattle.rules.specs.Refusal.{sizes_good, layout_good}
use Rattle.laws.specs.Tests.{and_left, and_right}
use Rattle.laws.specs.Editions.{boards_most}
use Rattle.laws.specs.Decoded.{P_decoded, N_decoded, payload_decoded}

pub record Laid (bs : List ℕ) : Type 0 where
  pub some_board : 1 ≤ P_in bs
  pub few_boards : P_in bs ≤ most_boards
  pub few_comms : C_in bs ≤ most_comms
  pub few_ops : N_in bs ≤ most_ops
  pub short_payload : L_in bs ≤ most_payload
  -- the decoded tables have the header's lengths
  pub P_is : P_of (sheet_in bs) ≡ P_in bs
  pub N_is : N_of (sheet_in bs) ≡ N_in bs
  pub payload_is : length (sheet_in bs).payload ≡ L_in bs
  -- and stand where the header says, in its edition, whose board entries are few bytes (laws' Editions: boards_most)
  pub ops_offset : two bs 8 ≡ ops_at (second_in bs) (P_in bs)
  pub payload_offset : two bs 10 ≡ payload_at (second_in bs) (P_in bs) (N_in bs)
  pub boards_least : 8 * P_in bs ≤ boards_size (second_in bs) (P_in bs)
  pub boards_short : boards_size (second_in bs) (P_in bs) ≤ 10 * P_in bs
  pub whole : length bs ≡ sheet_size (second_in bs) (P_in bs) (N_in bs) (L_in bs)

pub laid : (bs : List ℕ) → sizes_good bs ≡ true → layout_good bs ≡ true → Laid bs
unfolding sizes_good layout_good
laid bs z y =
    let p = leb 1 (P_in bs) && leb (P_in bs) most_boards in
    let c = leb 1 (C_in bs) && leb (C_in bs) most_comms in
    let n = leb (N_in bs) most_ops && leb (L_in bs) most_payload in
    let pc = and_left (p && c) n z in
    let first = eqb (two bs 6) boards_at in
    let second = eqb (two bs 8) (ops_at (second_in bs) (P_in bs)) in
    let third = eqb (two bs 10) (payload_at (second_in bs) (P_in bs) (N_in bs)) in
    let size = eqb (length bs) (sheet_size (second_in bs) (P_in bs) (N_in bs) (L_in bs)) in
    let offsets = and_left ((first && second) && third) size y in
    let sized = eqb-true (length bs) (sheet_size (second_in bs) (P_in bs) (N_in bs) (L_in bs)) (and_right ((first && second) && third) size y) in
    record {
      some_board = leb-true 1 (P_in bs) (and_left (leb 1 (P_in bs)) (leb (P_in bs) most_boards) (and_left p c pc));
      few_boards = leb-true (P_in bs) most_boards (and_right (leb 1 (P_in bs)) (leb (P_in bs) most_boards) (and_left p c pc));
      few_comms = leb-true (C_in bs) most_comms (and_right (leb 1 (C_in bs)) (leb (C_in bs) most_comms) (and_right p c pc));
      few_ops = leb-true (N_in bs) most_ops (and_left (leb (N_in bs) most_ops) (leb (L_in bs) most_payload) (and_right (p && c) n z));
      short_payload = leb-true (L_in bs) most_payload (and_right (leb (N_in bs) most_ops) (leb (L_in bs) most_payload) (and_right (p && c) n z));
      P_is = P_decoded bs;
      N_is = N_decoded bs;
      payload_is = payload_decoded bs sized;
      ops_offset = eqb-true (two bs 8) (ops_at (second_in bs) (P_in bs)) (and_right first second (and_left (first && second) third offsets));
      payload_offset =
          eqb-true (two bs 10) (payload_at (second_in bs) (P_in bs) (N_in bs)) (and_right (first && second) third offsets);
      boards_least = (boards_most (second_in bs) (P_in bs)).0;
      boards_short = (boards_most (second_in bs) (P_in bs)).1;
      whole = sized;
    }
