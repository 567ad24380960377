-- A job that is held can be searched: its lists and fields can be read, and what a search over scratch found is what rules' search
-- over the job's list finds.
--   holds_reads              what a reader asks
--   listed_op, listed_in     an operation in a list is one of the sheet
--   found_is, missing_is     what was found
-- Assumes nothing.
use Rattle.std.specs.Prelude.{◌≡◌, None, List, ℕ, ◌<◌, length, get_or}
use Rattle.std.proofs.Common.{sym, ◌∙◌, ap, subst, arith}
use Rattle.std.proofs.Math.Option.{none, some}
use Rattle.rules.specs.Sheet.{Sheet, sheet_in, N_of, two}
use Rattle.rules.specs.Job.{Job}
use Rattle.rules.specs.Step.{first_by}
use Rattle.invariant.specs.sheet.Valid.{Valid}
use Rattle.invariant.specs.Invariant.{Reached}
use Rattle.invariant.specs.Facts.{message_op, receive_op}
use Rattle.state.specs.declared.Control.{Control}
use Rattle.state.specs.declared.Queue.{Queue}
use Rattle.state.specs.declared.Queue.TheVariants.{Messages, Receives}
use Rattle.state.specs.Layout.{word_at}
use Rattle.state.specs.Queues.{base_of, count_of, list_of}
use Rattle.state.specs.Decodes.{Decodes}
use Rattle.state.proofs.Decodes.{list_are, few_listed, list_is, list_length}
use Rattle.simulation.specs.Simulates.{Holds}
use Rattle.search.specs.Search.{Readable, Listed, FirstBelow, First, pair_fits, first_found, first_missing}

-- what is held can be read
pub holds_reads : {bs c : List ℕ} {t : Control} {ok : Sheet → Job → Type 0} → Holds bs c t ok → Readable bs c
holds_reads h =
    record {
      laid = h.laid;
      few = h.decodes.few_ops;
      roomy = h.decodes.roomy;
      tables = h.decodes.indexed;
      ranked = λ i l. omega (arith, h.valid.rank_small i l, h.valid.boards_few);
    }

-- an operation in a waiting list is one of the sheet
pub listed_op : {s : Sheet} {lent : List ℕ} {x : Job} → Valid s → Reached s lent x → (list : Queue) (k : ℕ) → k < length (list_of list x) →
    get_or (list_of list x) k 0 < N_of s
unfolding list_of
listed_op g R Messages k l = (message_op g R k l).0
listed_op g R Receives k l = (receive_op g R k l).0

-- a waiting list in scratch, of a job that an order leads to
module _ (bs c : List ℕ) (t : Control) (x : Job) (d : Decodes (sheet_in bs) c t x) (list : Queue) where
  abbrev s : Sheet
  s = sheet_in bs

  pub listed_in : {lent : List ℕ} → Valid s → Reached s lent x → Listed bs c list (count_of list t)
  listed_in g R =
      record {
        short = few_listed s c t x d list;
        members =
            λ k l. subst (λ (n : ℕ). n < N_of s) (sym (list_is s c t x d list k l))
            (listed_op g R list k (omega (arith, list_length s c t x d list)));
      }

  -- what the search over scratch found is what rules' search over the list finds
  module _ (i : ℕ) where
    pub found_is : (k : ℕ) → FirstBelow (λ j. pair_fits list s i (two c (word_at (base_of list) j))) (count_of list t) k →
        first_by (λ j. pair_fits list s i j) (list_of list x) ≡ some (two c (word_at (base_of list) k))
    found_is k h =
        ap (λ (js : List ℕ). first_by (λ j. pair_fits list s i j) js) (list_are s c t x d list)
        ∙ first_found (λ j. pair_fits list s i j) c (base_of list) (count_of list t) k h

    pub missing_is : First (λ j. pair_fits list s i (two c (word_at (base_of list) j))) (count_of list t) None →
        first_by (λ j. pair_fits list s i j) (list_of list x) ≡ none
    missing_is h =
        ap (λ (js : List ℕ). first_by (λ j. pair_fits list s i j) js) (list_are s c t x d list)
        ∙ first_missing (λ j. pair_fits list s i j) c (base_of list) (count_of list t) h
