-- Scratch is all that a step reads, so what a function does it does to every job that stands there, whatever inboxes are lent.
-- Assumes nothing.
--   Every       what holds of every job that stands in scratch
--   Lent        what holds whatever inboxes are lent; some_lent: of some, then
--   represented, represented_able   a job that stands there, as a function asks for it at its entry
use Rattle.std.specs.Prelude.{◌≡◌, true, List, ℕ, ◌≤◌, length, replicate}
use Rattle.std.proofs.Common.{arith}
use Rattle.std.proofs.lemmas.List.{length-replicate}
use Rattle.rules.specs.Sheet.{sheet_in, inbox_total}
use Rattle.rules.specs.Job.{Job}
use Rattle.rules.specs.Step.{able}
use Rattle.state.specs.declared.Control.{Control}
use Rattle.simulation.specs.Represents.{Represents, Represented, RepresentedAble}

abbrev pub Every : (bs c : List ℕ) (t : Control) → (Job → Type 0) → Type 0
Every bs c t f = (lent : List ℕ) (x : Job) → Represents bs lent c t x → f x

abbrev pub Lent : (bs : List ℕ) → (List ℕ → Type 0) → Type 0
Lent bs f = (lent : List ℕ) → inbox_total (sheet_in bs) ≤ length lent → f lent

-- inboxes that could be lent
abbrev pub some_inboxes : (bs : List ℕ) → List ℕ
some_inboxes bs = replicate (inbox_total (sheet_in bs)) 0

pub some_lent : (bs : List ℕ) (f : List ℕ → Type 0) → Lent bs f → f (some_inboxes bs)
some_lent bs f h = h (some_inboxes bs) (omega (arith, length-replicate {A = ℕ} (inbox_total (sheet_in bs)) 0))

module _ {bs lent c : List ℕ} {t : Control} {x : Job} (d : Represents bs lent c t x) where
  pub represented : Represented bs c t
  represented =
      record {
        lent = lent;
        job = x;
        represents = d;
      }

  pub represented_able : {r : ℕ} → able (sheet_in bs) x r ≡ true → RepresentedAble bs c t r
  represented_able e =
      record {
        lent = lent;
        job = x;
        represents = d;
        is_able = e;
      }
