-- A sheet that carries its CRC is not refused with 4: the CRC leaves out the bytes that it stands in, and no other rule gives that
-- number.
--   good_not_four, short_not_four       4 is not given where the CRC is right, nor where the header is short
--   carries                             the CRC is right in a sheet with its CRC in its place
--   carried_short, carried_put          from the calls' contracts to what is demanded
-- Assumes nothing.
use Rattle.std.specs.Prelude.{◌≡◌, refl, ◌≢◌, Bool, false, not, ℕ, ◌<◌, ◌≤◌, eqb, ltb, length, take, drop}
use Rattle.std.proofs.Math.Path.{sym, ap, ap₂}
use Rattle.std.proofs.Common.{◌∙◌, arith}
use Rattle.std.proofs.Math.Bool.{true, cond}
use mathlib.Core.List.{List, ◌++◌}
use borrow.Author.Tests.{eq-eqb, lt-ltb}
use Rattle.rules.specs.Limits.{header_size}
use Rattle.rules.specs.Crc.{crc, crc_from}
use Rattle.rules.specs.Sheet.{Sheet, two, sheet_in, P_of, N_of, counts_before}
use Rattle.rules.specs.Refusal.{Refusal, refusal, accepted, or_else, first_broken, sizes_good, layout_good, crc_good, board_good, boards_refusal, op_good, ops_refusal, request_good, slot_freed, requests_refusal, tables_refusal, sheet_refusal}
use Rattle.rules.specs.Step.{splice}
use Rattle.rules.specs.Report.{low_two}
use Rattle.laws.specs.Broken.{or_else_not, broken_not}
use Rattle.laws.specs.CrcStep.{crc_from_bound}
use Rattle.laws.specs.Splice.{splice_take_before, splice_drop}
use Rattle.laws.specs.Answers.{answers_number}
use Rattle.words.specs.Two.{two_put}
use Rattle.sheet.specs.declared.Answer.{Answer}
use Rattle.rules.specs.Service.{CheckSays}
use Rattle.demands.specs.Demands.{CrcCarried}

-- NUMBERS
module _ (m : ℕ) where
  cond_not : (t : Bool) (a b : Refusal) → a.number ≢ m → b.number ≢ m → (cond t a b).number ≢ m
  cond_not true a b p q e = p e
  cond_not false a b p q e = q e

tables_not_four : (s : Sheet) → (tables_refusal s).number ≢ 4
unfolding tables_refusal boards_refusal ops_refusal requests_refusal refusal
tables_not_four s =
    let five = broken_not 5 (board_good s) 4 (λ e. omega (arith, e)) (λ e. omega (arith, e)) (P_of s) 0 in
    let six = broken_not 6 (op_good s) 4 (λ e. omega (arith, e)) (λ e. omega (arith, e)) (N_of s) 0 in
    let seven : (f : ℕ → Bool) → (first_broken 7 f (N_of s) 0).number ≢ 4 =
    λ f. broken_not 7 f 4 (λ e. omega (arith, e)) (λ e. omega (arith, e)) (N_of s) 0 in
    let requests =
    or_else_not 4 (first_broken 7 (request_good s) (N_of s) 0) (first_broken 7 (slot_freed s) (N_of s) 0)
    (seven (request_good s)) (seven (slot_freed s)) in
    let totals = eqb (counts_before s (P_of s)) (N_of s) in
    let total = cond_not 4 totals accepted (refusal 5 (P_of s)) (λ e. omega (arith, e)) (λ e. omega (arith, e)) in
    let boards = or_else_not 4 (first_broken 5 (board_good s) (P_of s) 0) (cond totals accepted (refusal 5 (P_of s))) five total in
    or_else_not 4 (boards_refusal s) (or_else (ops_refusal s) (requests_refusal s)) boards (or_else_not 4 (ops_refusal s) (requests_refusal s) six requests)

-- SHEETS
module _ (bs : List ℕ) where
  -- what stands behind 4, where the CRC is right
  crc_passed : crc_good bs ≡ true → (cond (not (crc_good bs)) (refusal 4 0) (tables_refusal (sheet_in bs))).number ≢ 4
  crc_passed g e =
      tables_not_four (sheet_in bs)
      (sym (ap (λ (t : Bool). (cond (not t) (refusal 4 0) (tables_refusal (sheet_in bs))).number) g) ∙ e)

  pub good_not_four : crc_good bs ≡ true → (sheet_refusal bs).number ≢ 4
  unfolding sheet_refusal refusal
  good_not_four g =
      let tables = cond (not (crc_good bs)) (refusal 4 0) (tables_refusal (sheet_in bs)) in
      let layout = cond (not (layout_good bs)) (refusal 3 0) tables in
      let sizes = cond (not (sizes_good bs)) (refusal 2 0) layout in
      let three = cond_not 4 (not (layout_good bs)) (refusal 3 0) tables (λ e. omega (arith, e)) (crc_passed g) in
      let two = cond_not 4 (not (sizes_good bs)) (refusal 2 0) layout (λ e. omega (arith, e)) three in
      cond_not 4 (ltb (length bs) header_size) (refusal 1 0) sizes (λ e. omega (arith, e)) two

  pub short_not_four : length bs < header_size → (sheet_refusal bs).number ≢ 4
  unfolding sheet_refusal refusal
  short_not_four h e =
      let rest = cond (not (sizes_good bs)) (refusal 2 0) (cond (not (layout_good bs)) (refusal 3 0) (cond (not (crc_good bs)) (refusal 4 0) (tables_refusal (sheet_in bs)))) in
      let one = ap (λ (t : Bool). (cond t (refusal 1 0) rest).number) (lt-ltb (length bs) header_size h) in
      omega (arith, sym one ∙ e)

-- THE CRC leaves out the two bytes that it stands in
crc_bound : (bs : List ℕ) → crc bs < 65536
unfolding crc
crc_bound bs = crc_from_bound 65535 (take 14 bs ++ drop header_size bs) (omega arith)

module _ (bs : List ℕ) (h : header_size ≤ length bs) where
  abbrev carried : List ℕ
  carried = splice bs 14 (low_two (crc bs))

  same_crc : crc carried ≡ crc bs
  unfolding crc low_two
  same_crc =
      ap₂ (λ (a b : List ℕ). crc_from 65535 (a ++ b)) (splice_take_before bs 14 14 (low_two (crc bs)) (omega arith) (omega arith))
      (splice_drop bs 14 (low_two (crc bs)) header_size (omega arith) (omega arith))

  pub carries : crc_good (splice bs 14 (low_two (crc bs))) ≡ true
  unfolding crc_good
  carries = eq-eqb (crc carried) (two carried 14) (same_crc ∙ sym (two_put bs 14 (crc bs) (crc_bound bs) (omega arith)))

-- THE CALLS: check's answer, of a sheet that was left alone, and of one that the CRC was put into
module _ (bs : List ℕ) (a : Answer) where
  pub carried_short : length bs < header_size → CheckSays bs a.number a.place → CrcCarried bs bs a
  unfolding CheckSays
  carried_short h said =
      record {
        put = λ l. absurd (omega (arith, h, l));
        short = λ _. refl;
        not_refused = λ e. short_not_four bs h (sym (answers_number (sheet_refusal bs) a.number a.place said) ∙ e);
      }

  pub carried_put : (bs_now : List ℕ) (c : ℕ) → header_size ≤ length bs → c ≡ crc bs → bs_now ≡ splice bs 14 (low_two c) → CheckSays bs_now a.number a.place →
      CrcCarried bs bs_now a
  unfolding CheckSays
  carried_put bs_now c h e f said =
      let put : bs_now ≡ splice bs 14 (low_two (crc bs)) = f ∙ ap (λ (v : ℕ). splice bs 14 (low_two v)) e in
      let good : crc_good bs_now ≡ true = ap crc_good put ∙ carries bs h in
      record {
        put = λ _. put;
        short = λ l. absurd (omega (arith, h, l));
        not_refused = λ q. good_not_four bs_now good (sym (answers_number (sheet_refusal bs_now) a.number a.place said) ∙ q);
      }
