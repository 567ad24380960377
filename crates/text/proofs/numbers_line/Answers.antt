-- A number is put behind those that stand, and the last one ends the line. Assumes nothing.
use Rattle.std.proofs.Common.{◌≡◌, List, ℕ, ◌+◌, ◌-◌, ◌*◌, ◌<◌, ◌≤◌, refl, ap, ◌∙◌, length, take, arith, slice_index_or}
use Rattle.std.proofs.Math.Seq.{length-take-le, get_or-take}
use Rattle.rules.specs.Step.{splice}
use Rattle.text.specs.Text.{number}
use Rattle.text.specs.Lines.{Lined, lined_none, lined_more, lined_end}
use Rattle.text.specs.Lengths.{most_places}
use Rattle.text.proofs.Lengths.{number_most, spaced_most}
use Rattle.text.proofs.numbers_line.Goals as goal

-- what is written leaves room for the next number, and that number lies in it
module _ {ns old room : List ℕ} {i at : ℕ} (q : Lined number ns old room i at) (long : most_places * length ns ≤ length old) (l : i < length ns) where
  fits : at + most_places ≤ length room
  fits = omega (arith, q.place, q.size, spaced_most (take i ns), length-take-le i ns (omega arith), long)

  space : (e : ℕ) → at + length (number (slice_index_or ns i 0) e) ≤ length old
  space e = omega (arith, fits, q.size, number_most (slice_index_or ns i 0) e)

-- all numbers but the last
front : (ns : List ℕ) → length (take (length ns - 1) ns) ≡ length ns - 1
front ns = length-take-le (length ns - 1) ns (omega arith)

pub loop-n-init : goal.loop-n-init
loop-n-init c = lined_none number c.args.numbers.now c.args.line.now

pub put_number-at-requires : goal.put_number-at-requires
put_number-at-requires c = fits c.loop-n.invariant c.requires.1 (omega (arith, front c.args.numbers.now))

pub loop-n-preserved : goal.loop-n-preserved
loop-n-preserved c =
    let l = c.loop-n in
    let ns = c.args.numbers.now in
    let put = c.put_number-at in
    let same = get_or-take (length ns - 1) ns l.n-index 0 (omega (arith, front ns)) in
    lined_more number l.invariant (omega (arith, front ns)) put.new.line 32 (put.ensures.0 ∙ ap (λ (n : ℕ). splice l.line l.at (number n 32)) same)
    (space l.invariant c.requires.1 (omega (arith, front ns)) 32) refl put.result (put.ensures.1 ∙ ap (λ (n : ℕ). l.at + length (number n 32)) same)

pub put_number-requires : goal.put_number-requires
put_number-requires c = fits c.loop-n.invariant c.requires.1 (omega (arith, front c.args.numbers.now))

pub returns : goal.returns
returns c =
    let l = c.loop-n in
    let ns = c.args.numbers.now in
    let put = c.put_number in
    let last : length ns - 1 ≡ l.n-index = omega (arith, front ns) in
    let text = ap (λ (k : ℕ). number (slice_index_or ns k 0) 10) last in
    let end = lined_end number l.invariant (omega (arith, front ns)) put.new.line 10 (put.ensures.0 ∙ ap (λ (vs : List ℕ). splice l.line l.at vs) text)
    (space l.invariant c.requires.1 (omega (arith, front ns)) 10) refl (omega (arith, front ns)) in
    (end.0, put.ensures.1 ∙ (ap (λ (vs : List ℕ). l.at + length vs) text ∙ end.1))
