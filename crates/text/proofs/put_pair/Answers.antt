-- Three stores are a splice of three bytes. Assumes nothing.
use Rattle.std.proofs.Common.{◌≡◌, ◌∙◌, ap₂, ℕ, suc, ◌+◌, ◌/◌, ◌%◌, arith, add-one, slice_set}
use Rattle.text.specs.Text.{digit_of, pair}
use Rattle.laws.specs.Splice.{sets_splice}
use Rattle.text.proofs.put_pair.Goals as goal

pub returns : goal.returns
unfolding pair
returns c =
    let a = c.args in
    let l = a.line.now in
    let high = digit_of (a.b / 16) in
    let low = digit_of (a.b % 16) in
    let two : a.at + 2 ≡ suc (suc a.at) = omega arith in
    ap₂ (λ (x y : ℕ). slice_set (slice_set (slice_set l a.at x) (a.at + 1) y) (a.at + 2) a.behind) c.digit.ensures c.digit-2.ensures
    ∙ (ap₂ (λ (j k : ℕ). slice_set (slice_set (slice_set l a.at high) j low) k a.behind) (add-one a.at) two
    ∙ sets_splice l a.at (pair a.b a.behind) (omega arith))
