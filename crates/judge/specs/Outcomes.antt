-- From what was called to what is printed and told: the lines that the parts of the program lay out are those of Printed.
--   facts_long, facts_told   a report's header and premise's answer are eleven numbers, and what is told
--   lines_of_report, lines_of_refusal   what is printed and told behind number 0, and behind any other
-- Assumes nothing.
use Rattle.std.specs.Prelude.{◌≡◌, refl, List, [], ◌∷◌, ◌++◌, ℕ, ◌<◌, length, take}
use Rattle.std.proofs.Math.Path.{sym, ap₂}
use Rattle.std.proofs.Common.{◌∙◌, ap, arith, get_or-take}
use Rattle.rules.specs.Limits.{report_size}
use Rattle.rules.specs.Sheet.{second_in, sheet_in, P_of, N_of}
use Rattle.rules.specs.Refusal.{sheet_refusal}
use Rattle.rules.specs.Service.{Answers}
use Rattle.rules.specs.Premise.{PremiseSays}
use Rattle.text.specs.Text.{numbers_line}
use Rattle.judge.specs.Printed.{report_for, report_line, refusal_line, printed, header_numbers, facts_line, told}
use Rattle.judge.specs.Longer.{two_of_start}
use Rattle.judge.specs.Refused.{unless_passed, unless_stopped}
use Rattle.judge.specs.Calls.{Reported, Lines}

-- a header stands in the first 16 bytes
header_of_start : (r : List ℕ) (n : ℕ) → 15 < n → header_numbers (take n r) ≡ header_numbers r
unfolding header_numbers
header_of_start r n l =
    rw (
      get_or-take n r 0 0 (omega arith),
      get_or-take n r 1 0 (omega arith),
      two_of_start r n 2 (omega arith),
      two_of_start r n 4 (omega arith),
      two_of_start r n 6 (omega arith),
      two_of_start r n 8 (omega arith),
      two_of_start r n 10 (omega arith),
      two_of_start r n 12 (omega arith),
      two_of_start r n 14 (omega arith),
    )

pub facts_long : (r : List ℕ) (n p : ℕ) → length (header_numbers r ++ (n ∷ p ∷ [])) ≡ 11
unfolding header_numbers
facts_long r n p = refl

pub facts_told : (bs room : List ℕ) (n p : ℕ) → Reported bs room → PremiseSays bs n p → numbers_line (header_numbers room ++ (n ∷ p ∷ [])) ≡ facts_line bs
unfolding facts_line PremiseSays Answers
facts_told bs room n p q said =
    let size = report_size (second_in bs) (P_of (sheet_in bs)) (N_of (sheet_in bs)) in
    let header : header_numbers room ≡ header_numbers (report_for bs) =
    sym (header_of_start room size (omega arith)) ∙ ap header_numbers q.own in
    ap (λ (h : List ℕ). numbers_line (h ++ (n ∷ p ∷ []))) header
    ∙ ap₂ (λ (a b : ℕ). numbers_line (header_numbers (report_for bs) ++ (a ∷ b ∷ []))) said.0 said.1

-- the lines that stand are others that are equal to them
lines_as : {a b a' b' : List ℕ} {n m : ℕ} {x y : List ℕ} → Lines a b n x m y → a ≡ a' → b ≡ b' → Lines a' b' n x m y
lines_as q e f =
    record {
      is = q.is ∙ e;
      told_is = q.told_is ∙ f;
      fits = q.fits;
      told_fits = q.told_fits;
    }

module _ (bs : List ℕ) {n m : ℕ} {x y : List ℕ} where
  pub lines_of_report : (sheet_refusal bs).number ≡ 0 → Lines (report_line bs) (facts_line bs) n x m y → Lines (printed bs) (told bs) n x m y
  unfolding printed told
  lines_of_report z q = lines_as q (sym (unless_passed bs (report_line bs) z)) (sym (unless_passed bs (facts_line bs) z))

  pub lines_of_refusal : (k p : ℕ) → (k ≡ 0 → ⊥) → k ≡ (sheet_refusal bs).number → p ≡ (sheet_refusal bs).place → Lines (refusal_line k p) (refusal_line k p) n x m y →
      Lines (printed bs) (told bs) n x m y
  unfolding printed told
  lines_of_refusal k p h e f q =
      let stopped : (sheet_refusal bs).number ≡ 0 → ⊥ = λ z. h (e ∙ z) in
      let same : refusal_line k p ≡ refusal_line (sheet_refusal bs).number (sheet_refusal bs).place = ap₂ refusal_line e f in
      lines_as q (same ∙ sym (unless_stopped bs (report_line bs) stopped)) (same ∙ sym (unless_stopped bs (facts_line bs) stopped))
