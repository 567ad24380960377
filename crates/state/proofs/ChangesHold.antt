-- The changes that steps are made of, in the words of rules' Step: what a function of src/changes leaves holds the job that the
-- definition of its name makes. Assumes nothing.
use Rattle.std.specs.Prelude.{◌≡◌, Bool, cond, ℕ, ◌+◌, ◌<◌, ◌≤◌, set}
use Rattle.std.proofs.Math.Path.{refl, ap, subst}
use Rattle.std.proofs.Common.{◌∙◌, arith}
use mathlib.Core.List.{List, [], ◌∷◌, ◌++◌}
use Rattle.std.proofs.Math.Dec.{leb}
use Rattle.rules.specs.Limits.{most_ops, absent}
use Rattle.rules.specs.Sheet.{Sheet, op, N_of, P_of, rank_of}
use Rattle.rules.specs.Job.{Job, Entry, Figures, Place, Store, figures, job, entry, bare_entry, place_at, account}
use Rattle.rules.specs.Job.{with_entries}
use Rattle.rules.specs.Step.{splice, without, is_cut, with_place, with_row, with_state, matched_rows}
use Rattle.rules.specs.Report.{low_two, op_row}
use Rattle.state.specs.declared.BoardPlace.{BoardPlace}
use Rattle.state.specs.declared.Control.{Control}
use Rattle.state.specs.declared.StoreFigures.{StoreFigures}
use Rattle.state.specs.Layout.{row_at, seat_at, word_at}
use Rattle.state.specs.Decoded.{place_in, place_row, figures_of, place_of, PlaceRead, FitsPlace}
use Rattle.state.specs.declared.Queue.{Queue}
use Rattle.state.specs.declared.Queue.TheVariants.{Messages, Receives}
use Rattle.state.specs.Queues.{base_of, count_of, recounted, list_of, with_list, pended}
use Rattle.state.specs.Lists.{behind, FirstAt}
use Rattle.state.specs.Decodes.{Decodes}
use Rattle.state.proofs.Decodes.{decodes_as, place_is, entry_put, state_put, place_put, list_append, list_remove}
use Rattle.state.specs.Changes.{Tellable, Status}

-- a row that is put leaves the lists
list_stays : (q : Queue) (i v : ℕ) (x : Job) → list_of q (with_state i v x) ≡ list_of q x
unfolding list_of with_state with_entries job
list_stays Messages i v x = refl
list_stays Receives i v x = refl

module _ (s : Sheet) (c : List ℕ) (t : Control) (x : Job) (d : Decodes s c t x) where
  -- an operation that nothing fits becomes pending: its row, then its entry in its waiting list
  pub pend_by : (q : Queue) (i v : ℕ) (a b : List ℕ) (u : Control) → i < N_of s → count_of q t < most_ops →
      a ≡ splice c (row_at i) (op_row (bare_entry v)) → b ≡ splice a (word_at (base_of q) (count_of q t)) (low_two i) →
      u ≡ recounted q (count_of q t + 1) t → Decodes s b u (pended q i v x)
  unfolding pended
  pend_by q i v a b u l m e f g =
      let few : N_of s ≤ most_ops = d.few_ops in
      let y : Job = with_state i v x in
      let one : Decodes s a t y = decodes_as s a (splice c (row_at i) (op_row (bare_entry v))) t t y e refl (state_put s c t x d i v l) in
      let put = splice a (word_at (base_of q) (count_of q t)) (low_two i) in
      let more = list_append s a t y one q i (omega arith) m in
      decodes_as s b put u (recounted q (count_of q t + 1) t) (with_list q (list_of q x ++ (i ∷ [])) y) f g
      (subst (λ (l : List ℕ). Decodes s put (recounted q (count_of q t + 1) t) (with_list q (l ++ (i ∷ [])) y)) (list_stays q i v x) more)

  -- the k-th of a waiting list, which is v, leaves it
  pub take_by : (q : Queue) (left k v : ℕ) (b : List ℕ) (u : Control) → left + 1 ≡ count_of q t → FirstAt (list_of q x) k v →
      b ≡ splice c (word_at (base_of q) k) (behind c (base_of q) left k) → u ≡ recounted q left t →
      Decodes s b u (with_list q (without v (list_of q x)) x)
  take_by q left k v b u n f e g =
      decodes_as s b (splice c (word_at (base_of q) k) (behind c (base_of q) left k)) u (recounted q left t)
      (with_list q (without v (list_of q x)) x) e g (list_remove s c t x d q left k v n f)

  -- the row of an operation that tells
  pub row_told : (i source tag long : ℕ) (b : List ℕ) → Tellable s i source tag long →
      b ≡ splice c (row_at i) (op_row (entry 5 0 absent source tag long)) → Decodes s b t (with_row i (entry 5 0 absent source tag long) x)
  unfolding entry
  row_told i source tag long b q e =
      decodes_as s b (splice c (row_at i) (op_row (entry 5 0 absent source tag long))) t t (with_row i (entry 5 0 absent source tag long) x) e
      refl
      (entry_put s c t x d i (entry 5 0 absent source tag long)
      (record {
        partner_fits = omega arith;
        source_fits = q.source_fits;
        tag_fits = q.tag_fits;
        long_fits = q.long_fits;
      })
      q.inside)

  -- both rows of a match
  pub rows_match : (m r : ℕ) (cut : Bool) (source tag long : ℕ) (a b : List ℕ) → Status s m r cut source tag long →
      a ≡ splice c (row_at m) (op_row (entry 3 0 r absent absent 0)) → b ≡ splice a (row_at r) (op_row (entry 3 (cond cut 1 0) m source tag long)) →
      Decodes s b t (matched_rows s m r x)
  unfolding matched_rows with_entries job entry
  rows_match m r cut source tag long a b q e f =
      let few : N_of s ≤ most_ops = d.few_ops in
      let lm : m < N_of s = q.sent_inside in
      let lr : r < N_of s = q.received_inside in
      let sent : Entry = entry 3 0 r absent absent 0 in
      let got : Entry = entry 3 (cond cut 1 0) m source tag long in
      let y : Job = with_entries (set x.entries m sent) x in
      let one : Decodes s a t y =
      decodes_as s a (splice c (row_at m) (op_row sent)) t t y e refl
      (entry_put s c t x d m sent
      (record {
        partner_fits = omega arith;
        source_fits = omega arith;
        tag_fits = omega arith;
        long_fits = omega arith;
      })
      lm) in
      let two : Decodes s b t (with_entries (set y.entries r got) y) =
      decodes_as s b (splice a (row_at r) (op_row got)) t t (with_entries (set y.entries r got) y) f refl
      (entry_put s a t y one r got
      (record {
        partner_fits = omega arith;
        source_fits = q.source_fits;
        tag_fits = q.tag_fits;
        long_fits = q.long_fits;
      })
      lr) in
      let same : got ≡ entry 3 (cond (is_cut s m r) 1 0) m (rank_of s m) (op s m).tag (op s m).long = cc (q.cut_is, q.source_is, q.tag_is, q.long_is) in
      subst (λ (g : Entry). Decodes s b t (with_entries (set y.entries r g) y)) same two

  -- the place that was read is the job's
  pub place_read : (r : ℕ) (old : BoardPlace) → r < P_of s → PlaceRead (place_in c (seat_at r)) old → place_of old ≡ place_at x r
  place_read r old l q = q.is ∙ place_is s c t x d r l

  -- a place changed by a function: what was put is what the function makes of the place that was read
  pub place_change : (f : Place → Place) (r : ℕ) (old : BoardPlace) (b : List ℕ) → r < P_of s →
      PlaceRead (place_in c (seat_at r)) old → FitsPlace (f (place_of old)) →
      b ≡ splice c (seat_at r) (place_row (f (place_of old))) → Decodes s b t (with_place r (f (place_at x r)) x)
  place_change f r old b l q h w =
      let put = splice c (seat_at r) (place_row (f (place_of old))) in
      decodes_as s b put t t (with_place r (f (place_at x r)) x) w refl
      (subst (λ (z : Place). Decodes s put t (with_place r z x)) (ap f (place_read r old l q))
      (place_put s c t x d r (f (place_of old)) h l))

  -- whether there is room in a store is asked of the figures that were read
  pub room_asked : (w : Store) (r size n : ℕ) (old : BoardPlace) (f : StoreFigures) → r < P_of s →
      PlaceRead (place_in c (seat_at r)) old → figures_of f ≡ account w (place_of old) →
      leb (f.in_use + n) size ≡ leb ((account w (place_at x r)).in_use + n) size
  unfolding figures
  room_asked w r size n old f l q e =
      ap (λ (a : Figures). leb (a.in_use + n) size) e
      ∙ ap (λ (z : Place). leb ((account w z).in_use + n) size) (place_read r old l q)
