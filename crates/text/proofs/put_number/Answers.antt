-- The text that is printed is the number in decimal. Assumes nothing.
use Rattle.std.proofs.Common.{sym, ◌∙◌, ap, List, ℕ, [], ◌∷◌, ◌++◌, length, arith, length-append}
use Rattle.rules.specs.Step.{splice}
use Rattle.text.specs.Text.{number, decimal}
use Rattle.text.proofs.Decimals.{decimal_printed}
use Rattle.text.proofs.put_number.Goals as goal

pub returns : goal.returns
unfolding number
returns c =
    let a = c.args in
    let text = c.as_bytes.ensures.value ∙ (c.format.ensures.text ∙ sym (decimal_printed a.n (omega (arith, c.ranges.n)))) in (
      c.put_digits.ensures.0 ∙ ap (λ (vs : List ℕ). splice a.line.now a.at (vs ++ (a.behind ∷ []))) text,
      omega (arith, c.put_digits.ensures.1, ap length text, length-append (decimal a.n) (a.behind ∷ [])),
    )
