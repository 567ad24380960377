-- Scratch and its control block hold a job. Each change of scratch is the change of the job that rules names, so that an engine above
-- never speaks of bytes. Nothing is held of the inbox memory: deliveries are made at the end, from the rows. Assumes nothing.
use Rattle.std.specs.Prelude.{◌≡◌, ℕ, ◌+◌, ◌-◌, ◌*◌, ◌<◌, ◌≤◌, take}
use Rattle.std.proofs.Math.Path.{refl, sym, ap}
use Rattle.std.proofs.Common.{◌∙◌, subst}
use mathlib.Core.List.{List, [], ◌∷◌, ◌++◌}
use Rattle.std.specs.Prelude.{Option, None, Some}
use Rattle.std.proofs.Math.Option.{Option as Maybe, none, some}
use native.Mathlib.Omega.{arith}
use Rattle.std.proofs.Math.ListN.{length, get_or, set}
use Rattle.rules.specs.Limits.{most_ops, most_boards, scratch_size}
use Rattle.rules.specs.Sheet.{Sheet, N_of, P_of, two}
use Rattle.rules.specs.Job.{Job, Entry, Place, Stop as JobStop, job, entry, bare_entry, first_place, entry_at, place_at, with_entries, with_places, with_messages, with_receives, with_memory, with_stop, with_steps}
use Rattle.rules.specs.Step.{splice, without, with_place, with_state, stopped}
use Rattle.rules.specs.Report.{low_two, op_row, op_rows, entry_in}
use Rattle.laws.specs.ReportRows.{FitsRow}
use Rattle.laws.specs.Splice.{Apart, splice_length, splice_apart, splice_take, splice_take_before}
use Rattle.words.specs.Putting.{part_length}
use Rattle.words.specs.Tab.{drop_at}
use Rattle.state.specs.declared.Control.{Control}
use Rattle.state.specs.declared.Queue.{Queue}
use Rattle.state.specs.declared.Stop.{Stop}
use Rattle.state.specs.declared.StopVerdict.{StopVerdict}
use Rattle.state.specs.declared.Queue.TheVariants.{Messages, Receives}
use Rattle.state.specs.Numbers.{verdict_number}
use Rattle.state.specs.Layout.{row_at, seat_at, word_at, places_at, messages_at, receives_at, ranks_at}
use Rattle.state.specs.Decoded.{entries_in, place_in, places_in, place_row, words_in, FitsPlace}
use Rattle.state.specs.Rows.{row_length, entries_same, entries_put, entries_at, entries_length}
use Rattle.state.specs.Written.{rows_put}
use Rattle.state.specs.Places.{seat_length, places_same, places_put, places_at_rank}
use Rattle.state.specs.Lists.{behind, words_same, words_at, words_length, words_append, words_remove, FirstAt, without_at}
use Rattle.state.proofs.Indexed.{indexed_kept}
use Rattle.state.specs.Queues.{list_based, base_of, count_of, recounted, list_of, with_list}
use Rattle.state.specs.Controls.{job_stop, stop_of, stop, control, counted, stepped, halted}
use Rattle.state.specs.Decodes.{Decodes}

-- the same bytes and numbers under other names
pub decodes_as : (s : Sheet) (b c : List ℕ) (u t : Control) (x : Job) → b ≡ c → u ≡ t → Decodes s c t x → Decodes s b u x
decodes_as s b c u t x e f d =
    subst (λ (l : List ℕ). Decodes s l u x) (sym e) (subst (λ (q : Control). Decodes s c q x) (sym f) d)

-- GETTERS: what a reader reads is the job's
module _ (s : Sheet) (c : List ℕ) (t : Control) (x : Job) (d : Decodes s c t x) where
  pub entry_is : (i : ℕ) → i < N_of s → entry_in c (row_at i) ≡ entry_at x i
  unfolding entry_at
  entry_is i l = sym (ap (λ (es : List Entry). get_or es i (bare_entry 0)) d.entries_are ∙ entries_at c (N_of s) i l)

  pub place_is : (r : ℕ) → r < P_of s → place_in c (seat_at r) ≡ place_at x r
  unfolding place_at
  place_is r l = sym (ap (λ (ps : List Place). get_or ps r first_place) d.places_are ∙ places_at_rank c (P_of s) r l)

  -- a waiting list
  pub list_are : (q : Queue) → list_of q x ≡ words_in c (base_of q) (count_of q t)
  unfolding list_of base_of count_of
  list_are Messages = d.messages_are
  list_are Receives = d.receives_are

  pub few_listed : (q : Queue) → count_of q t ≤ most_ops
  unfolding count_of
  few_listed Messages = d.few_messages
  few_listed Receives = d.few_receives

  pub list_is : (q : Queue) (k : ℕ) → k < count_of q t → two c (word_at (base_of q) k) ≡ get_or (list_of q x) k 0
  list_is q k l = sym (ap (λ (ms : List ℕ). get_or ms k 0) (list_are q) ∙ words_at c (base_of q) (count_of q t) k l)

  pub list_length : (q : Queue) → length (list_of q x) ≡ count_of q t
  list_length q = ap length (list_are q) ∙ words_length c (base_of q) (count_of q t)

  -- what stopped it, and that nothing did
  pub job_stopped : (p : Stop) → t.stop ≡ Some p → x.stop ≡ some (job_stop p)
  job_stopped p e = d.stop_is ∙ ap stop_of e

  pub job_goes_on : t.stop ≡ None → x.stop ≡ none
  job_goes_on e = d.stop_is ∙ ap stop_of e

-- REGIONS: a splice outside a region leaves what the region decodes to
module _ (c : List ℕ) (at : ℕ) (vs : List ℕ) (h : at + length vs ≤ length c) where
  entries_kept : (n : ℕ) → n ≤ most_ops → Apart 0 places_at at (length vs) → entries_in (splice c at vs) n ≡ entries_in c n
  entries_kept n m a = entries_same (splice c at vs) c n (λ j l u. splice_apart c at vs h 0 places_at a j l (omega arith))

  places_kept : (p : ℕ) → p ≤ most_boards → Apart places_at messages_at at (length vs) → places_in (splice c at vs) p ≡ places_in c p
  places_kept p m a = places_same (splice c at vs) c p (λ j l u. splice_apart c at vs h places_at messages_at a j l (omega arith))

  words_kept : (base n : ℕ) → n ≤ most_ops → Apart base (base + 2 * most_ops) at (length vs) → words_in (splice c at vs) base n ≡ words_in c base n
  words_kept base n m a = words_same (splice c at vs) c base n (λ j l u. splice_apart c at vs h base (base + 2 * most_ops) a j l (omega arith))

module _ (s : Sheet) (c : List ℕ) (t : Control) (x : Job) (d : Decodes s c t x) where
  -- a splice, with what each part then decodes to
  spliced : (at : ℕ) (vs : List ℕ) (m r : ℕ) (es : List Entry) (ps : List Place) (ms rs : List ℕ) → at + length vs ≤ ranks_at → m ≤ most_ops →
      r ≤ most_ops → entries_in (splice c at vs) (N_of s) ≡ es → take (row_at (N_of s)) (splice c at vs) ≡ op_rows es →
      places_in (splice c at vs) (P_of s) ≡ ps → words_in (splice c at vs) messages_at m ≡ ms → words_in (splice c at vs) receives_at r ≡ rs →
      Decodes s (splice c at vs) (counted m r t) (job es ps ms rs x.memory x.stop x.steps)
  unfolding job
  spliced at vs m r es ps ms rs h lm lr e k p q w =
      let roomy : scratch_size ≤ length c = d.roomy in
      let size = splice_length c at vs (omega arith) in
      record {
        few_ops = d.few_ops;
        few_boards = d.few_boards;
        few_messages = lm;
        few_receives = lr;
        roomy = omega arith;
        entries_are = sym e;
        rows_are = k;
        places_are = sym p;
        messages_are = sym q;
        receives_are = sym w;
        stop_is = d.stop_is;
        steps_are = d.steps_are;
        indexed = indexed_kept s c at vs d.few_ops d.roomy h d.indexed;
      }

  -- a splice inside one region changes that part of the job alone
  rows_spliced : (at : ℕ) (vs : List ℕ) (es : List Entry) → at + length vs ≤ places_at → entries_in (splice c at vs) (N_of s) ≡ es → take (row_at (N_of s)) (splice c at vs) ≡ op_rows es →
      Decodes s (splice c at vs) t (with_entries es x)
  unfolding with_entries
  rows_spliced at vs es h e k =
      let roomy : scratch_size ≤ length c = d.roomy in
      let fits : at + length vs ≤ length c = omega arith in
      spliced at vs t.messages t.receives es x.places x.messages x.receives (omega arith) d.few_messages d.few_receives e k
      (places_kept c at vs fits (P_of s) d.few_boards (omega arith) ∙ sym d.places_are)
      (words_kept c at vs fits messages_at t.messages d.few_messages (omega arith) ∙ sym d.messages_are)
      (words_kept c at vs fits receives_at t.receives d.few_receives (omega arith) ∙ sym d.receives_are)

  places_spliced : (at : ℕ) (vs : List ℕ) (ps : List Place) → places_at ≤ at → at + length vs ≤ messages_at → places_in (splice c at vs) (P_of s) ≡ ps → Decodes s (splice c at vs) t
      (with_places ps x)
  unfolding with_places
  places_spliced at vs ps l h e =
      let roomy : scratch_size ≤ length c = d.roomy in
      let fits : at + length vs ≤ length c = omega arith in
      spliced at vs t.messages t.receives x.entries ps x.messages x.receives (omega arith) d.few_messages d.few_receives
      (entries_kept c at vs fits (N_of s) d.few_ops (omega arith) ∙ sym d.entries_are)
      (splice_take_before c (row_at (N_of s)) at vs (omega (arith, d.few_ops)) (omega arith) ∙ d.rows_are)
      e
      (words_kept c at vs fits messages_at t.messages d.few_messages (omega arith) ∙ sym d.messages_are)
      (words_kept c at vs fits receives_at t.receives d.few_receives (omega arith) ∙ sym d.receives_are)

  messages_spliced : (at : ℕ) (vs : List ℕ) (m : ℕ) (ms : List ℕ) → messages_at ≤ at → at + length vs ≤ receives_at → m ≤ most_ops →
      words_in (splice c at vs) messages_at m ≡ ms → Decodes s (splice c at vs) (counted m t.receives t) (with_messages ms x)
  unfolding with_messages
  messages_spliced at vs m ms l h lm e =
      let roomy : scratch_size ≤ length c = d.roomy in
      let fits : at + length vs ≤ length c = omega arith in
      spliced at vs m t.receives x.entries x.places ms x.receives (omega arith) lm d.few_receives
      (entries_kept c at vs fits (N_of s) d.few_ops (omega arith) ∙ sym d.entries_are)
      (splice_take_before c (row_at (N_of s)) at vs (omega (arith, d.few_ops)) (omega arith) ∙ d.rows_are)
      (places_kept c at vs fits (P_of s) d.few_boards (omega arith) ∙ sym d.places_are)
      e
      (words_kept c at vs fits receives_at t.receives d.few_receives (omega arith) ∙ sym d.receives_are)

  receives_spliced : (at : ℕ) (vs : List ℕ) (r : ℕ) (rs : List ℕ) → receives_at ≤ at → at + length vs ≤ ranks_at → r ≤ most_ops →
      words_in (splice c at vs) receives_at r ≡ rs → Decodes s (splice c at vs) (counted t.messages r t) (with_receives rs x)
  unfolding with_receives
  receives_spliced at vs r rs l h lr e =
      let roomy : scratch_size ≤ length c = d.roomy in
      let fits : at + length vs ≤ length c = omega arith in
      spliced at vs t.messages r x.entries x.places x.messages rs (omega arith) d.few_messages lr
      (entries_kept c at vs fits (N_of s) d.few_ops (omega arith) ∙ sym d.entries_are)
      (splice_take_before c (row_at (N_of s)) at vs (omega (arith, d.few_ops)) (omega arith) ∙ d.rows_are)
      (places_kept c at vs fits (P_of s) d.few_boards (omega arith) ∙ sym d.places_are)
      (words_kept c at vs fits messages_at t.messages d.few_messages (omega arith) ∙ sym d.messages_are)
      e

  -- SETTERS: a row, a place
  pub entry_put : (i : ℕ) (e : Entry) → FitsRow e → i < N_of s → Decodes s (splice c (row_at i) (op_row e)) t (with_entries (set x.entries i e) x)
  entry_put i e f l =
      let few : N_of s ≤ most_ops = d.few_ops in
      let long = row_length e in
      rows_spliced (row_at i) (op_row e) (set x.entries i e) (omega arith)
      (entries_put c i (N_of s) e f l few d.roomy ∙ ap (λ (es : List Entry). set es i e) (sym d.entries_are))
      (splice_take c (row_at (N_of s)) (row_at i) (op_row e) (omega arith) (omega (arith, d.roomy))
      ∙ (ap (λ (b : List ℕ). splice b (row_at i) (op_row e)) d.rows_are ∙ rows_put x.entries i e (omega (arith, ap length d.entries_are, entries_length c (N_of s)))))

  pub state_put : (i v : ℕ) → i < N_of s → Decodes s (splice c (row_at i) (op_row (bare_entry v))) t (with_state i v x)
  unfolding with_state bare_entry entry
  state_put i v l =
      entry_put i (bare_entry v)
      (record {
        partner_fits = omega arith;
        source_fits = omega arith;
        tag_fits = omega arith;
        long_fits = omega arith;
      })
      l

  pub place_put : (r : ℕ) (q : Place) → FitsPlace q → r < P_of s → Decodes s (splice c (seat_at r) (place_row q)) t (with_place r q x)
  unfolding with_place
  place_put r q f l =
      let few : P_of s ≤ most_boards = d.few_boards in
      let long = seat_length q in
      places_spliced (seat_at r) (place_row q) (set x.places r q) (omega arith) (omega arith)
      (places_put c r (P_of s) q f l few d.roomy ∙ ap (λ (ps : List Place). set ps r q) (sym d.places_are))

  list_spliced : (q : Queue) (at : ℕ) (vs : List ℕ) (n : ℕ) (ms : List ℕ) → base_of q ≤ at →
      at + length vs ≤ base_of q + 2 * most_ops → n ≤ most_ops → words_in (splice c at vs) (base_of q) n ≡ ms →
      Decodes s (splice c at vs) (recounted q n t) (with_list q ms x)
  unfolding base_of recounted with_list
  list_spliced Messages at vs n ms l h m e = messages_spliced at vs n ms l h m e
  list_spliced Receives at vs n ms l h m e = receives_spliced at vs n ms l h m e

  -- a waiting list: one appended, one removed
  pub list_append : (q : Queue) (i : ℕ) → i < 65536 → count_of q t < most_ops →
      Decodes s (splice c (word_at (base_of q) (count_of q t)) (low_two i)) (recounted q (count_of q t + 1) t)
      (with_list q (list_of q x ++ (i ∷ [])) x)
  unfolding low_two
  list_append q i f l =
      let roomy : scratch_size ≤ length c = d.roomy in
      let b = list_based q in
      list_spliced q (word_at (base_of q) (count_of q t)) (low_two i) (count_of q t + 1) (list_of q x ++ (i ∷ [])) (omega arith)
      (omega arith) (omega arith)
      (words_append c (base_of q) (count_of q t) i f (omega arith)
      ∙ ap (λ (ms : List ℕ). ms ++ (i ∷ [])) (sym (list_are s c t x d q)))

  pub list_remove : (q : Queue) (left k v : ℕ) → left + 1 ≡ count_of q t → FirstAt (list_of q x) k v →
      Decodes s (splice c (word_at (base_of q) k) (behind c (base_of q) left k)) (recounted q left t)
      (with_list q (without v (list_of q x)) x)
  list_remove q left k v n f =
      let inside : k < length (list_of q x) = f.inside in
      let size = list_length s c t x d q in
      let roomy : scratch_size ≤ length c = d.roomy in
      let few = few_listed s c t x d q in
      let b = list_based q in
      let long = part_length c (word_at (base_of q) k + 2) (2 * (left - k)) (omega arith) in
      list_spliced q (word_at (base_of q) k) (behind c (base_of q) left k) left (without v (list_of q x)) (omega arith) (omega arith)
      (omega arith)
      (words_remove c (base_of q) left k (omega arith) (omega arith)
      ∙ (ap (λ (i : ℕ). drop_at k (words_in c (base_of q) i)) n
      ∙ (ap (λ (ms : List ℕ). drop_at k ms) (sym (list_are s c t x d q)) ∙ sym (without_at (list_of q x) k v f))))

  -- what is kept beside scratch, and the memory, which is kept nowhere
  beside : (m : List ℕ) (o : Maybe JobStop) (j k : ℕ) (p : Option Stop) → o ≡ stop_of p → j ≡ k → Decodes s c (control t.messages t.receives k p)
      (job x.entries x.places x.messages x.receives m o j)
  unfolding job
  beside m o j k p e f =
      record {
        few_ops = d.few_ops;
        few_boards = d.few_boards;
        few_messages = d.few_messages;
        few_receives = d.few_receives;
        roomy = d.roomy;
        entries_are = d.entries_are;
        rows_are = d.rows_are;
        places_are = d.places_are;
        messages_are = d.messages_are;
        receives_are = d.receives_are;
        stop_is = e;
        steps_are = f;
        indexed = d.indexed;
      }

  pub steps_put : (k : ℕ) → Decodes s c (stepped k t) (with_steps k x)
  unfolding with_steps
  steps_put k = beside x.memory x.stop k k t.stop d.stop_is refl

  pub stop_put : (v : StopVerdict) (r i : ℕ) → Decodes s c (halted v r i t) (stopped (verdict_number v) r i x)
  unfolding stopped with_stop
  stop_put v r i =
      let p = Some (stop v r i) in
      beside x.memory (stop_of p) x.steps t.steps p refl d.steps_are

  pub memory_put : (m : List ℕ) → Decodes s c t (with_memory m x)
  unfolding with_memory
  memory_put m = beside m x.stop x.steps t.steps t.stop d.stop_is d.steps_are
