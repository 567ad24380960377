-- Why the judge may stop reading one byte behind the longest sheet: of an input longer than that, its start of so many bytes is
-- refused as the whole input is (document 01, "When the desk says no"). 1 asks for 16 bytes, 2 reads only the header, and where
-- 2 is out the header asks for at most the longest sheet, so 3 is given for both. The same is then printed and told.
-- Assumes nothing.
use Rattle.std.specs.Prelude.{◌≡◌, Bool, true, false, not, List, ℕ, ◌+◌, ◌*◌, ◌<◌, length, get_or, take}
use Rattle.std.proofs.Math.Path.{refl, ap}
use Rattle.std.proofs.Common.{sym, ◌∙◌, arith, length-take-le, get_or-take, le-ltb}
use Rattle.std.proofs.Math.Bool.{cond}
use Rattle.rules.specs.Limits.{header_size, board_size, op_size, most_boards, most_ops, most_payload}
use Rattle.rules.specs.Sheet.{two, sheet_in}
use Rattle.rules.specs.Refusal.{Refusal, refusal, sizes_good, layout_good, crc_good, tables_refusal, sheet_refusal}
use Rattle.laws.specs.Laid.{laid}
use Rattle.judge.specs.Printed.{refusal_line, report_line, facts_line, unless_refused, printed, told}
use Rattle.judge.specs.Refused.{unless_stopped}

-- the longest sheet, of the second edition (document 02, K6)
abbrev pub longest : ℕ
longest = header_size + board_size true * most_boards + op_size * most_ops + most_payload

-- what is longer is refused by 2 or 3
module _ (bs : List ℕ) (h : longest < length bs) where
  rest : Refusal
  rest = cond (not (crc_good bs)) (refusal 4 0) (tables_refusal (sheet_in bs))

  by_layout : sizes_good bs ≡ true → (b : Bool) → layout_good bs ≡ b → cond (not (layout_good bs)) (refusal 3 0) rest ≡ refusal 3 0
  by_layout e false f = ap (λ (t : Bool). cond (not t) (refusal 3 0) rest) f
  by_layout e true f =
      let q = laid bs e f in
      absurd (omega (arith, q.few_boards, q.few_ops, q.short_payload, q.boards_short, q.whole))

  by_sizes : (b : Bool) → sizes_good bs ≡ b → cond (not (sizes_good bs)) (refusal 2 0) (cond (not (layout_good bs)) (refusal 3 0) rest) ≡ cond (not (sizes_good bs)) (refusal 2 0) (refusal 3 0)
  by_sizes false e =
      ap (λ (t : Bool). cond (not t) (refusal 2 0) (cond (not (layout_good bs)) (refusal 3 0) rest)) e
      ∙ sym (ap (λ (t : Bool). cond (not t) (refusal 2 0) (refusal 3 0)) e)
  by_sizes true e = ap (λ (f : Refusal). cond (not (sizes_good bs)) (refusal 2 0) f) (by_layout e (layout_good bs) refl)

  pub longer_refused : sheet_refusal bs ≡ cond (not (sizes_good bs)) (refusal 2 0) (refusal 3 0)
  unfolding sheet_refusal rest
  longer_refused =
      ap (λ (t : Bool). cond t (refusal 1 0) (cond (not (sizes_good bs)) (refusal 2 0) (cond (not (layout_good bs)) (refusal 3 0) rest))) (le-ltb (length bs) header_size (omega arith))
      ∙ by_sizes (sizes_good bs) refl

pub two_of_start : (bs : List ℕ) (n at : ℕ) → at + 1 < n → two (take n bs) at ≡ two bs at
unfolding two
two_of_start bs n at l =
    ap (λ (a : ℕ). a + 256 * get_or (take n bs) (at + 1) 0) (get_or-take n bs at 0 (omega arith))
    ∙ ap (λ (a : ℕ). get_or bs at 0 + 256 * a) (get_or-take n bs (at + 1) 0 l)

-- 2 reads only the header
sizes_of_start : (bs : List ℕ) (n : ℕ) → 13 < n → sizes_good (take n bs) ≡ sizes_good bs
unfolding sizes_good
sizes_of_start bs n l =
    rw (two_of_start bs n 0 (omega arith), two_of_start bs n 2 (omega arith), two_of_start bs n 4 (omega arith), two_of_start bs n 12 (omega arith))

-- THE LAW: the start of a longer input gets the answer of the whole
pub start_refused_alike : (bs : List ℕ) → longest < length bs → sheet_refusal (take (longest + 1) bs) ≡ sheet_refusal bs
start_refused_alike bs h =
    longer_refused (take (longest + 1) bs) (omega (arith, length-take-le (longest + 1) bs (omega arith)))
    ∙ (ap (λ (t : Bool). cond (not t) (refusal 2 0) (refusal 3 0)) (sizes_of_start bs (longest + 1) (omega arith))
    ∙ sym (longer_refused bs h))

longer_stopped : (bs : List ℕ) → longest < length bs → (sheet_refusal bs).number ≡ 0 → ⊥
unfolding refusal
longer_stopped bs h z = go (sizes_good bs) (sym (ap (λ (f : Refusal). f.number) (longer_refused bs h)) ∙ z)
  where
    go : (b : Bool) → (cond (not b) (refusal 2 0) (refusal 3 0)).number ≡ 0 → ⊥
    go true e = omega (arith, e)
    go false e = omega (arith, e)

-- so that the same is printed of both, and the same is told
module _ (bs : List ℕ) (h : longest < length bs) where
  start_alike : (a b : List ℕ) → unless_refused (take (longest + 1) bs) a ≡ unless_refused bs b
  start_alike a b =
      let start = take (longest + 1) bs in
      let stopped = longer_stopped start (omega (arith, length-take-le (longest + 1) bs (omega arith))) in
      unless_stopped start a stopped
      ∙ (ap (λ (f : Refusal). refusal_line f.number f.place) (start_refused_alike bs h) ∙ sym (unless_stopped bs b (longer_stopped bs h)))

  pub start_printed_alike : printed (take (longest + 1) bs) ≡ printed bs
  unfolding printed
  start_printed_alike = start_alike (report_line (take (longest + 1) bs)) (report_line bs)

  pub start_told_alike : told (take (longest + 1) bs) ≡ told bs
  unfolding told
  start_told_alike = start_alike (facts_line (take (longest + 1) bs)) (facts_line bs)
