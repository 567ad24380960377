-- Operations that tell (document 02, K9): what a probe finds in scratch is what rules' search finds, and the row of an operation
-- that is only a waiting half by its roles.
--   Looks                          what an operation that looks at the job is given
--   Found, Finds, finds            the earliest pending message that fits, by its index
--   finds_some                     whether there is one
--   holder_is, held_state          who holds the slot of a query, and its state
--   query_ends, probe_ends         whether the step of an operation that tells can be taken
--   row-..                         the definition's row, by the roles and by what was found
-- Assumes nothing.
use Rattle.std.specs.Prelude.{◌≡◌, ◌⊎◌, Option, None, Some, true, false, not, cond, List, ℕ, ◌<◌, leb}
use Rattle.std.proofs.Common.{sym, ◌∙◌, ap, subst, inl, inr, arith}
use Rattle.std.specs.Option.{is_some}
use Rattle.std.proofs.Math.Option.{none, some}
use Rattle.rules.specs.Limits.{absent}
use Rattle.rules.specs.Sheet.{Sheet, Op, sheet_in, op, N_of, rank_of, two, is_wait, names_slot, tells_message, tells_completion, tells}
use Rattle.rules.specs.Job.{Job, Entry, entry, entry_at}
use Rattle.rules.specs.Step.{first_message, complete, complete_if, waited, is_none, with_row, with_state, probe_row, query_row, half_row, half_ends}
use Rattle.laws.specs.Tests.{or_right, or_cases, or_false_left, or_false_right, not_so, true_not_false}
use Rattle.invariant.specs.sheet.Kinds.{message_not_completion}
use Rattle.invariant.specs.sheet.Waits.{waited_before}
use Rattle.invariant.specs.Invariant.{Reached}
use Rattle.state.specs.declared.Control.{Control}
use Rattle.state.specs.declared.Queue.TheVariants.{Messages}
use Rattle.state.specs.Layout.{word_at, row_at, messages_at, waits_at}
use Rattle.state.specs.Queues.{base_of, count_of, list_of}
use Rattle.rules.specs.Report.{entry_in}
use Rattle.state.specs.Decodes.{Decodes}
use Rattle.state.proofs.Decodes.{entry_is}
use Rattle.search.specs.Search.{Listed, First, pair_fits}
use Rattle.simulation.specs.Simulates.{Holds}
use Rattle.search.specs.Held.{listed_in, found_is, missing_is}

-- operation i is one of the sheet, and the job is one that an order leads to from some inboxes
pub record Looks (i : ℕ) (s : Sheet) (x : Job) : Type 0 where
  pub inside : i < N_of s
  pub lent : List ℕ
  pub reached : Reached s lent x

-- the search of the pending messages for one that fits operation i found the k-th
pub record Found (bs c : List ℕ) (t : Control) (i k : ℕ) : Type 0 where
  pub inside : k < t.messages
  pub found : (x : Job) → Decodes (sheet_in bs) c t x →
      first_message (sheet_in bs) i x.messages ≡ some (two c (word_at messages_at k))
  pub member : two c (word_at messages_at k) < N_of (sheet_in bs)

-- that it found one, or none
abbrev pub Finds : (bs c : List ℕ) → Control → (i : ℕ) → Option ℕ → Type 0
Finds bs c t i None = (x : Job) → Decodes (sheet_in bs) c t x → first_message (sheet_in bs) i x.messages ≡ none
Finds bs c t i (Some k) = Found bs c t i k

module _ {bs c : List ℕ} {t : Control} {i : ℕ} (h : Holds bs c t (Looks i)) where
  pub looks_listed : Listed bs c Messages t.messages
  unfolding count_of
  looks_listed = listed_in bs c t h.job h.decodes Messages h.valid h.fine.reached

  pub finds : (o : Option ℕ) → First (λ j. pair_fits Messages (sheet_in bs) i (two c (word_at (base_of Messages) j))) t.messages o →
      Finds bs c t i o
  unfolding first_message pair_fits list_of count_of base_of
  finds None f = λ x d. missing_is bs c t x d Messages i f
  finds (Some k) f =
      record {
        inside = f.inside;
        found = λ x d. found_is bs c t x d Messages i k f;
        member = looks_listed.members k f.inside;
      }

-- whether one was found
found_some : (s : Sheet) (x : Job) (i m : ℕ) → first_message s i x.messages ≡ some m → true ≡ not (is_none (first_message s i x.messages))
unfolding is_none
found_some s x i m e = rw e

found_none : (s : Sheet) (x : Job) (i : ℕ) → first_message s i x.messages ≡ none → false ≡ not (is_none (first_message s i x.messages))
unfolding is_none
found_none s x i e = rw e

pub finds_some : (bs c : List ℕ) (t : Control) (i : ℕ) (o : Option ℕ) → Finds bs c t i o → (x : Job) → Decodes (sheet_in bs) c t x →
    is_some o ≡ not (is_none (first_message (sheet_in bs) i x.messages))
finds_some bs c t i None f x d = found_none (sheet_in bs) x i (f x d)
finds_some bs c t i (Some k) f x d = found_some (sheet_in bs) x i (two c (word_at messages_at k)) (f.found x d)

-- WHO HOLDS THE SLOT of query i stands in the table of waits
module _ (s : Sheet) (c : List ℕ) (t : Control) (x : Job) (d : Decodes s c t x) (i : ℕ) (l : i < N_of s)
    (q : tells_completion (op s i) ≡ true) where
  pub holder_is : waited s i ≡ some (two c (word_at waits_at i))
  unfolding names_slot
  holder_is = d.indexed.wait_is i l (or_right (is_wait (op s i)) (tells_completion (op s i)) q)

  pub holder_inside : two c (word_at waits_at i) < N_of s
  unfolding waited
  holder_inside = omega (arith, waited_before s i i (two c (word_at waits_at i)) holder_is)

  -- its state, as it was read
  pub held_state : (j v : ℕ) → j ≡ two c (word_at waits_at i) → v ≡ (entry_in c (row_at j)).state → v ≡ (entry_at x j).state
  held_state j v e f =
      f ∙ ap (λ (z : Entry). z.state) (entry_is s c t x d j (subst (λ (n : ℕ). n < N_of s) (sym e) holder_inside))

-- what tells and is no query is a probe
one_of_two : (o : Op) → tells o ≡ true → tells_completion o ≡ false → tells_message o ≡ true
unfolding tells
one_of_two o t c = go (or_cases (tells_message o) (tells_completion o) t)
  where
    go : (tells_message o ≡ true) ⊎ (tells_completion o ≡ true) → tells_message o ≡ true
    go (inl e) = e
    go (inr e) = true_not_false e c

-- CAN END: a query always, a probe where a message was found
module _ (s : Sheet) (x : Job) (i : ℕ) where
  pub query_ends : tells_completion (op s i) ≡ true → true ≡ half_ends s x i
  unfolding half_ends
  query_ends c =
      let p = not_so (tells_message (op s i)) (λ e. true_not_false c (message_not_completion (op s i) e)) in
      rw (p, c)

  pub probe_ends : tells (op s i) ≡ true → tells_completion (op s i) ≡ false → not (is_none (first_message s i x.messages)) ≡ half_ends s x i
  unfolding half_ends
  probe_ends t c = let p = one_of_two (op s i) t c in rw p

  -- THE ROW, by the roles
  pub row_plain : tells (op s i) ≡ false → with_state i 5 x ≡ with_row i (half_row s x i) x
  unfolding with_state half_row tells
  row_plain t =
      rw (or_false_left (tells_message (op s i)) (tells_completion (op s i)) t, or_false_right (tells_message (op s i)) (tells_completion (op s i)) t)

  pub row_query : tells_completion (op s i) ≡ true →
      with_row i (query_row (complete_if x (waited s i))) x ≡ with_row i (half_row s x i) x
  unfolding half_row
  row_query c =
      let p = not_so (tells_message (op s i)) (λ e. true_not_false c (message_not_completion (op s i) e)) in
      rw (p, c)

  pub row_probe : tells (op s i) ≡ true → tells_completion (op s i) ≡ false →
      with_row i (probe_row s (first_message s i x.messages)) x ≡ with_row i (half_row s x i) x
  unfolding half_row
  row_probe t c = let p = one_of_two (op s i) t c in rw p

  -- what a probe found, and what it did not
  pub row_found : (m : ℕ) → first_message s i x.messages ≡ some m →
      with_row i (entry 5 0 absent (rank_of s m) (op s m).tag (op s m).long) x ≡ with_row i (probe_row s (first_message s i x.messages)) x
  unfolding probe_row
  row_found m e = rw e

  pub row_missing : first_message s i x.messages ≡ none → with_state i 5 x ≡ with_row i (probe_row s (first_message s i x.messages)) x
  unfolding with_state probe_row
  row_missing e = rw e

  -- what a query was answered
  pub row_answered : (j : ℕ) → waited s i ≡ some j →
      with_row i (entry 5 0 absent absent absent (cond (leb 2 (entry_at x j).state) 1 0)) x ≡ with_row i (query_row (complete_if x (waited s i))) x
  unfolding query_row complete_if complete
  row_answered j e = rw e
