-- The start of a job: bare rows and zero places, whatever scratch held before. Assumes nothing.
use Rattle.std.specs.Prelude.{◌≡◌, refl, List, [], ◌∷◌, ◌++◌, ℕ, zero, suc, ◌+◌, ◌-◌, ◌*◌, ◌<◌, ◌≤◌, drop, length, get_or, replicate}
use Rattle.std.proofs.Common.{sym, ◌∙◌, ap, ap₂, subst, append_assoc, append-nil, arith, zero-add, add-one, take_at}
use Rattle.std.proofs.lemmas.List.{length-replicate, get_or-replicate}
use Rattle.rules.specs.Limits.{most_ops, most_boards, scratch_size}
use Rattle.rules.specs.Sheet.{Sheet, N_of, P_of, two}
use Rattle.rules.specs.Job.{Entry, job, entry, bare_entry, figures, place, first_place, started}
use Rattle.rules.specs.Step.{splice}
use Rattle.rules.specs.Report.{op_row, op_rows, entry_in}
use Rattle.laws.specs.ReportRows.{FitsRow}
use Rattle.laws.specs.Splice.{splice_length, splice_none, splice_within, splice_apart, splice_then, splice_take_before}
use Rattle.words.specs.Tab.{tab_snoc, tab_all, replicate_more}
use Rattle.state.specs.Layout.{row_at, seat_size, seat_at, places_at}
use Rattle.state.specs.Decoded.{entries_in, figures_in, place_in, places_in, words_in}
use Rattle.state.specs.Rows.{row_length, row_put, entries_same}
use Rattle.state.specs.Indexed.{Indexed}
use Rattle.state.proofs.Indexed.{indexed_kept}
use Rattle.state.specs.Written.{rows_length}
use Rattle.state.specs.Controls.{no_control}
use Rattle.state.specs.Decodes.{Decodes}
use Rattle.state.specs.Start.{bare_rows, Bare, started_bytes}

filled_length : (n : ℕ) (e : Entry) → length (op_rows (replicate n e)) ≡ 12 * n
filled_length n e = rows_length (replicate n e) ∙ ap (λ (k : ℕ). 12 * k) (length-replicate n e)

rows_more : (n : ℕ) (e : Entry) → op_rows (replicate n e) ++ op_row e ≡ op_rows (replicate (suc n) e)
unfolding op_rows
rows_more zero e = sym (append-nil (op_row e))
rows_more (suc n) e = append_assoc (op_row e) (op_rows (replicate n e)) (op_row e) ∙ ap (λ (vs : List ℕ). op_row e ++ vs) (rows_more n e)

pub bare_none : (c : List ℕ) (n : ℕ) → n ≤ most_ops → scratch_size ≤ length c → Bare c c n 0
unfolding op_rows
bare_none c n m h =
    record {
      few = m;
      upper = omega arith;
      roomy = h;
      size = refl;
      is = sym (splice_none c 0 (omega arith));
    }

pub bare_more : (c s d : List ℕ) (n i : ℕ) → Bare c s n i → i < n → d ≡ splice s (row_at i) (op_row (bare_entry 0)) → Bare c d n (i + 1)
bare_more c s d n i b l e =
    let few : n ≤ most_ops = b.few in
    let roomy : scratch_size ≤ length c = b.roomy in
    let size : length s ≡ length c = b.size in
    let row = row_length (bare_entry 0) in
    let rows = filled_length i (bare_entry 0) in
    let z : 0 + 12 * i ≡ 12 * i = zero-add (12 * i) in
    record {
      few = few;
      upper = omega arith;
      roomy = roomy;
      size = ap length e ∙ (splice_length s (row_at i) (op_row (bare_entry 0)) (omega arith) ∙ size);
      is =
          splice_then c s d 0 (12 * i) (bare_rows i) (op_row (bare_entry 0)) b.is rows (e ∙ ap (λ (k : ℕ). splice s k (op_row (bare_entry 0))) (sym z)) (omega arith)
          ∙ ap (λ (vs : List ℕ). splice c 0 vs) (rows_more i (bare_entry 0) ∙ ap bare_rows (sym (add-one i)));
    }

-- n rows put one after another are the table
entries_filled : (c : List ℕ) (n : ℕ) (e : Entry) → FitsRow e → n ≤ most_ops → scratch_size ≤ length c → entries_in (splice c 0 (op_rows (replicate n e))) n ≡ replicate n e
unfolding entries_in Rattle.words.specs.Tab.tab
entries_filled c zero e f m h = refl
entries_filled c (suc n) e f m h =
    let d = splice c 0 (op_rows (replicate n e)) in
    let row = row_length e in
    let rows = filled_length n e in
    let size = splice_length c 0 (op_rows (replicate n e)) (omega arith) in
    let z : 0 + 12 * n ≡ 12 * n = zero-add (12 * n) in
    let both : splice d (row_at n) (op_row e) ≡ splice c 0 (op_rows (replicate (suc n) e)) =
    splice_then c d (splice d (row_at n) (op_row e)) 0 (12 * n) (op_rows (replicate n e)) (op_row e) refl rows (ap (λ (k : ℕ). splice d k (op_row e)) (sym z)) (omega arith)
    ∙ ap (λ (vs : List ℕ). splice c 0 vs) (rows_more n e) in
    subst (λ (b : List ℕ). entries_in b (suc n) ≡ replicate (suc n) e) both
    (tab_snoc (λ i. entry_in (splice d (row_at n) (op_row e)) (row_at i)) n
    ∙ (ap₂ (λ (xs : List Entry) (y : Entry). xs ++ (y ∷ []))
    (entries_same (splice d (row_at n) (op_row e)) d n (splice_apart d (row_at n) (op_row e) (omega arith) 0 (row_at n) (omega arith)) ∙ entries_filled c n e f (omega arith) h)
    (row_put d (row_at n) e f (omega arith))
    ∙ replicate_more n e))

-- zero bytes are places at the start
two_zero : (c : List ℕ) (at : ℕ) → ((j : ℕ) → at ≤ j → j < at + 2 → get_or c j 0 ≡ 0) → two c at ≡ 0
unfolding two
two_zero c at z = omega (arith, z at (omega arith) (omega arith), z (at + 1) (omega arith) (omega arith))

figures_zero : (c : List ℕ) (at : ℕ) → ((j : ℕ) → at ≤ j → j < at + 4 → get_or c j 0 ≡ 0) → figures_in c at ≡ figures 0 0
unfolding figures
figures_zero c at z =
    let i = two_zero c at (λ j l u. z j (omega arith) (omega arith)) in
    let p = two_zero c (at + 2) (λ j l u. z j (omega arith) (omega arith)) in
    cc

seat_zero : (c : List ℕ) (at : ℕ) → ((j : ℕ) → at ≤ j → j < at + seat_size → get_or c j 0 ≡ 0) → place_in c at ≡ first_place
unfolding first_place place
seat_zero c at z =
    let f = two_zero c at (λ j l u. z j (omega arith) (omega arith)) in
    let a = figures_zero c (at + 2) (λ j l u. z j (omega arith) (omega arith)) in
    let w = z (at + 6) (omega arith) (omega arith) in
    let b = figures_zero c (at + 8) (λ j l u. z j (omega arith) (omega arith)) in
    cc

places_zero : (c : List ℕ) (p : ℕ) → p ≤ most_boards → scratch_size ≤ length c → places_in (splice c places_at (replicate (seat_size * p) 0)) p ≡ replicate p first_place
unfolding places_in
places_zero c p m h =
    let zs : List ℕ = replicate (seat_size * p) 0 in
    let long : length zs ≡ seat_size * p = length-replicate {A = ℕ} (seat_size * p) 0 in
    let byte : (j : ℕ) → places_at ≤ j → j < places_at + seat_size * p → get_or (splice c places_at zs) j 0 ≡ 0 =
    λ j l u.
    let k = j - places_at in
    let e : places_at + k ≡ j = omega arith in
    subst (λ (i : ℕ). get_or (splice c places_at zs) i 0 ≡ 0) e (splice_within c places_at zs (omega arith) k (omega arith) ∙ get_or-replicate (seat_size * p) k 0 0 (omega arith)) in
    tab_all (λ r. place_in (splice c places_at zs) (seat_at r)) p first_place (λ r l. seat_zero (splice c places_at zs) (seat_at r) (λ j a b. byte j (omega arith) (omega arith)))

pub started_decodes : (s : Sheet) (c inboxes : List ℕ) → N_of s ≤ most_ops → P_of s ≤ most_boards → scratch_size ≤ length c → Indexed s c → Decodes s (started_bytes c (P_of s) (N_of s))
    no_control (started s inboxes)
unfolding splice started job words_in Rattle.words.specs.Tab.tab bare_entry entry
started_decodes s c inboxes n p h x =
    let rows = filled_length (N_of s) (bare_entry 0) in
    let b = splice c 0 (bare_rows (N_of s)) in
    let one : length b ≡ length c = splice_length c 0 (bare_rows (N_of s)) (omega arith) in
    let zs : List ℕ = replicate (seat_size * P_of s) 0 in
    let long : length zs ≡ seat_size * P_of s = length-replicate {A = ℕ} (seat_size * P_of s) 0 in
    let two : length (splice b places_at zs) ≡ length b = splice_length b places_at zs (omega arith) in
    record {
      few_ops = n;
      few_boards = p;
      few_messages = omega arith;
      few_receives = omega arith;
      roomy = omega arith;
      entries_are =
          sym
          (entries_same (splice b places_at zs) b (N_of s) (splice_apart b places_at zs (omega arith) 0 (row_at (N_of s)) (omega arith))
          ∙ entries_filled c (N_of s) (bare_entry 0)
          (record {
            partner_fits = omega arith;
            source_fits = omega arith;
            tag_fits = omega arith;
            long_fits = omega arith;
          })
          n h);
      rows_are = splice_take_before b (row_at (N_of s)) places_at zs (omega arith) (omega arith) ∙ take_at (bare_rows (N_of s)) (drop (0 + length (bare_rows (N_of s))) c) (12 * N_of s) rows;
      places_are = sym (places_zero b (P_of s) p (omega arith));
      messages_are = refl;
      receives_are = refl;
      stop_is = refl;
      steps_are = refl;
      indexed = indexed_kept s b places_at zs n (omega arith) (omega arith) (indexed_kept s c 0 (bare_rows (N_of s)) n h (omega arith) x);
    }
