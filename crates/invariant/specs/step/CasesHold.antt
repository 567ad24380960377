-- A step of an able board goes one of the ways of Cases: each rule of `step`, read once.
--   outcome_half, outcome_only_half, outcome_posts, outcome_pends, outcome_matches    the ways, and what the job is after each
--   outcome                                                                           the law
-- Assumes nothing.
use Rattle.std.specs.Prelude.{◌≡◌, ◌⊎◌, ◌≢◌, ◌&&◌, ◌||◌, cond, List, [], ◌∷◌, ◌++◌, ℕ, suc, ◌≤◌, ◌<◌, ltb, length, set}
use Rattle.std.proofs.Math.Path.{refl, subst}
use Rattle.std.proofs.Common.{sym, ap, ap₂, ◌∙◌, inl, inr, arith, length-set, get_or-set_same, get_or-set_other, ltb-true}
use Rattle.std.proofs.Math.Bool.{Bool, true, false}
use Rattle.std.proofs.Math.Option.{Option, none, some}
use Rattle.rules.specs.Limits.{absent}
use Rattle.rules.specs.Sheet.{Sheet, op, board, N_of, rank_of, is_send, is_receive, only_half, is_ready, is_standard, is_buffered, no_half, tells_message, tells_completion}
use Rattle.rules.specs.Job.{Job, Entry, Store, in_attached, in_room, job, entry, bare_entry, entry_at, place_at, with_entries, with_places, with_messages, with_receives, with_steps}
use Rattle.rules.specs.Step.{step, next_op, in_waiting_half, one_finished, first_message, first_receive, fits_with, is_cut, without, delivered}
use Rattle.rules.specs.Step.{with_place, kept_in, charge, matched, with_state, pend_message, pend_receive, stopped, initiated, fits_beside, fits_buffer}
use Rattle.rules.specs.Step.{fits_room, kept, not_kept, unmatched, sent}
use Rattle.rules.specs.Step.{received, initiating, ended, with_row, probe_row, query_row, half_row, complete_if, waited}
use Rattle.laws.specs.Tests.{and_left, and_right, or_left, or_right, true_not_false}
use Rattle.invariant.specs.sheet.Valid.{Valid}
use Rattle.invariant.specs.sheet.Kinds.{kind_send, send_receive_differ}
use Rattle.laws.specs.WaitingLists.{Found, first_by_some}
use Rattle.invariant.specs.Invariant.{Entered, state_at, unmatched_state, is_kept, PostedBefore, ArrivedBefore, Reached}
use Rattle.invariant.specs.matching.UnmatchedState.{unmatched_send, unmatched_kept}
use Rattle.invariant.specs.matching.RowChanges.{Enters, Matches}
use Rattle.invariant.specs.step.Places.{Next, next_fresh, Moved}
use Rattle.invariant.specs.step.BufferUse.{Use, use_kept, use_charged, use_released, used_kept, used_released, used_charged, used_uncharged, Other, this_or_other}
use Rattle.invariant.specs.step.BufferUse.{released_places, matched_is, stepped_places, stepped_moved, set_enters}
use Rattle.invariant.specs.step.Cases.{Finds, Cause, Outcome, ends_half, ends_only_half, posts, pends, matches, stops}

-- the row of an operation that is only a waiting half says that it is finished
half_row_state : (s : Sheet) (x : Job) (i : ℕ) → (half_row s x i).state ≡ 5
unfolding half_row probe_row query_row bare_entry entry
half_row_state s x i = go (tells_message (op s i)) (tells_completion (op s i)) (first_message s i x.messages)
  where
    probed : (o : Option ℕ) → (probe_row s o).state ≡ 5
    probed none = refl
    probed (some m) = refl

    go : (a b : Bool) (o : Option ℕ) → (cond a (probe_row s o) (cond b (query_row (complete_if x (waited s i))) (bare_entry 5))).state ≡ 5
    go true b o = probed o
    go false true o = refl
    go false false o = refl

-- what fits a room is a standard send, and fits beside what is in use there
pub fits_room_standard : (s : Sheet) (r i : ℕ) (x : Job) → fits_room s r i x ≡ true → kept_in in_room (op s i) ≡ true
unfolding fits_room kept_in
fits_room_standard s r i x h = and_left (is_standard (op s i)) (ltb 0 (board s r).room && fits_beside in_room s r i x) h

fits_room_beside : (s : Sheet) (r i : ℕ) (x : Job) → fits_room s r i x ≡ true → fits_beside in_room s r i x ≡ true
unfolding fits_room
fits_room_beside s r i x h =
    and_right (ltb 0 (board s r).room) (fits_beside in_room s r i x)
    (and_right (is_standard (op s i)) (ltb 0 (board s r).room && fits_beside in_room s r i x) h)

pub fits_room_some : (s : Sheet) (r i : ℕ) (x : Job) → fits_room s r i x ≡ true → 0 < (board s r).room
unfolding fits_room
fits_room_some s r i x h =
    ltb-true 0 (board s r).room (and_left (ltb 0 (board s r).room) (fits_beside in_room s r i x)
    (and_right (is_standard (op s i)) (ltb 0 (board s r).room && fits_beside in_room s r i x) h))

or_neither : {a b : Bool} → a ≡ false → b ≡ false → (a || b) ≡ false
or_neither e f = ap₂ (λ (c d : Bool). c || d) e f

-- OUTCOMES of a step of board r, which is able, of a job that keeps the invariant
module _ (s : Sheet) (g : Valid s) (lent : List ℕ) (x : Job) (R : Reached s lent x) (r : ℕ) (n : Next s x r) where
  abbrev here : ℕ
  here = next_op s x r

  entries_inside : here < length x.entries
  entries_inside = omega (arith, n.inside, R.placed.entries_long)

  places_inside : r < length x.places
  places_inside = omega (arith, n.rank_small, R.placed.places_long)

  -- the job after a step's other changes are made
  abbrev counted : Job → Job
  counted y = with_steps (suc x.steps) y

  -- the next operation enters unmatched in y, with a row that has neither partner nor status
  abbrev EnteredBare : (y : Job) → (v : ℕ) → Type 0
  EnteredBare y v = Enters x y here v × (entry_at y here ≡ bare_entry v)

  entered_bare : (y : Job) → (place_at x r).waiting ≡ false → (v : ℕ) → 1 ≤ v → v ≢ 3 → y.entries ≡ set x.entries here (bare_entry v) →
      EnteredBare y v
  unfolding bare_entry entry
  entered_bare y w v some_v no_match are =
      set_enters x y here v (bare_entry v) refl (next_fresh s x r R.placed n w) entries_inside some_v no_match are

  -- a waiting half ends
  outcome_half : (place_at x r).waiting ≡ true → Outcome s x (counted (ended s r here x)) r here
  unfolding ended with_place with_places with_steps job place_at
  outcome_half w = go (only_half (op s here)) (R.placed.waiting_not_only_half r n.rank_small w)
    where
      y : Job
      y = counted (with_place r (one_finished (place_at x r)) x)

      m : Moved x y r true × Use x y use_kept
      m = stepped_moved y (used_kept s x R.in_use_peak) r true places_inside refl refl refl refl

      go : (b : Bool) → b ≡ false →
          Outcome s x (counted (with_place r (one_finished (place_at x r)) (cond b (with_row here (half_row s x here) x) x))) r here
      go true e = true_not_false refl e
      go false e =
          ends_half
          (record {
            waiting = w;
            moved = m.0;
            uses = m.1;
            entries = refl;
            messages = refl;
            receives = refl;
            memory = refl;
          })

  -- the only half of an operation ends
  outcome_only_half : (place_at x r).waiting ≡ false → only_half (op s here) ≡ true → Outcome s x (counted (ended s r here x)) r here
  unfolding ended with_place with_places with_steps with_entries job place_at
  outcome_only_half w e = go (only_half (op s here)) e
    where
      y : Job
      y = counted (with_place r (one_finished (place_at x r)) (with_row here (half_row s x here) x))

      entered : Enters x y here 5 × (entry_at y here ≡ half_row s x here)
      entered =
          set_enters x y here 5 (half_row s x here) (half_row_state s x here) (next_fresh s x r R.placed n w) entries_inside
          (omega arith) (omega arith) refl

      m : Moved x y r true × Use x y use_kept
      m =
          stepped_moved y (used_kept s x R.in_use_peak) r true places_inside refl
          (length-set x.entries here (half_row s x here)) refl refl

      go : (b : Bool) → b ≡ true →
          Outcome s x (counted (with_place r (one_finished (place_at x r)) (cond b (with_row here (half_row s x here) x) x))) r here
      go false c = true_not_false c refl
      go true c =
          ends_only_half
          (record {
            not_waiting = w;
            waits = e;
            moved = m.0;
            uses = m.1;
            enters = entered.0;
            row = entered.1;
            messages = refl;
            receives = refl;
            memory = refl;
          })

  -- a receive is posted
  outcome_posts : (place_at x r).waiting ≡ false → is_receive (op s here) ≡ true → first_message s here x.messages ≡ none →
      Outcome s x (counted (initiated s r here (pend_receive here x))) r here
  unfolding initiated pend_receive with_receives with_place with_places with_steps with_state with_entries job place_at
  outcome_posts w e none_fits =
      posts
      (record {
        not_waiting = w;
        is_one = e;
        none_fits = none_fits;
        moved = m.0;
        uses = m.1;
        enters = entered.0;
        row = entered.1;
        messages = refl;
        receives = refl;
        memory = refl;
      })
    where
      y : Job
      y = counted (initiated s r here (pend_receive here x))

      entered : Enters x y here 1 × (entry_at y here ≡ bare_entry 1)
      entered = entered_bare y w 1 (omega arith) (omega arith) refl

      m : Moved x y r (no_half (op s here)) × Use x y use_kept
      m =
          stepped_moved y (used_kept s x R.in_use_peak) r (no_half (op s here)) places_inside refl
          (length-set x.entries here (bare_entry 1)) refl refl

  -- a send is pending, in its state, after its charge if it is kept
  outcome_pends : (y : Job) (k : Bool) → is_kept s r here x ≡ k → (place_at x r).waiting ≡ false → is_send (op s here) ≡ true →
      first_receive s here x.receives ≡ none →
      ((w : Store) → kept_in w (op s here) ≡ true → k ≡ true → fits_beside w s r here x ≡ true) →
      Moved x y r (no_half (op s here)) × Use x y (use_charged s r here k) → EnteredBare y (cond k 2 1) →
      y.messages ≡ x.messages ++ (here ∷ []) → y.receives ≡ x.receives → y.memory ≡ x.memory → Outcome s x y r here
  outcome_pends y k is w e none_fits fits m entered messages receives memory =
      pends
      (record {
        not_waiting = w;
        is_one = e;
        none_fits = none_fits;
        fits = λ v a b. fits v a (sym is ∙ b);
        moved = m.0;
        uses = subst (λ (b : Bool). Use x y (use_charged s r here b)) (sym is) m.1;
        enters = now.0;
        row = now.1;
        messages = messages;
        receives = receives;
        memory = memory;
      })
    where
      now : EnteredBare y (unmatched_state (is_kept s r here x) (op s here))
      now =
          subst (λ (v : ℕ). EnteredBare y v)
          (sym (ap (λ (b : Bool). unmatched_state b (op s here)) is ∙ unmatched_send s here k e)) entered

  outcome_not_kept : (place_at x r).waiting ≡ false → is_send (op s here) ≡ true → is_kept s r here x ≡ false →
      first_receive s here x.receives ≡ none → Outcome s x (counted (not_kept s r here x)) r here
  unfolding not_kept initiated pend_message with_messages with_place with_places with_steps with_state with_entries job place_at
  outcome_not_kept w e is none_fits =
      outcome_pends y false is w e none_fits (λ v a b. true_not_false b refl)
      (stepped_moved y (used_uncharged s x R.in_use_peak r here) r (no_half (op s here)) places_inside refl
      (length-set x.entries here (bare_entry 1)) refl refl)
      (entered_bare y w 1 (omega arith) (omega arith) refl) refl refl refl
    where
      y : Job
      y = counted (not_kept s r here x)

  outcome_kept : (v : Store) → (place_at x r).waiting ≡ false → is_send (op s here) ≡ true → is_kept s r here x ≡ true →
      kept_in v (op s here) ≡ true → first_receive s here x.receives ≡ none → fits_beside v s r here x ≡ true →
      Outcome s x (counted (kept v s r here x)) r here
  unfolding kept initiated charge pend_message with_messages with_place with_places with_steps with_state with_entries job place_at
  outcome_kept v w e is in_v none_fits fits =
      outcome_pends y true is w e none_fits (λ u a b. fits_there u a (this_or_other v u))
      (stepped_moved y (used_charged s x R.in_use_peak r here v places_inside in_v) r (no_half (op s here)) places_inside
      refl (length-set x.entries here (bare_entry 2)) refl refl)
      (entered_bare y w 2 (omega arith) (omega arith) refl) refl refl refl
    where
      y : Job
      y = counted (kept v s r here x)

      fits_there : (u : Store) → kept_in u (op s here) ≡ true → (u ≡ v) ⊎ Other v u → fits_beside u s r here x ≡ true
      fits_there u a (inl c) = subst (λ (z : Store). fits_beside z s r here x ≡ true) (sym c) fits
      fits_there u a (inr o) = true_not_false a (o.not_kept (op s here) in_v)

  -- a message and a receive are matched
  outcome_matches : (m q : ℕ) → (place_at x r).waiting ≡ false → is_send (op s m) ≡ true → is_receive (op s q) ≡ true →
      fits_with s m q ≡ true → m < N_of s → q < N_of s → state_at x m ≢ 3 → state_at x q ≢ 3 →
      (m ≢ here → Entered x m) → (q ≢ here → Entered x q) → Finds s x here m q →
      Outcome s x (counted (initiated s r here (matched s m q x))) r here
  unfolding initiated with_place with_places with_steps job place_at entry_at
  outcome_matches m q w sm rq fit lm lq free_m free_q there_m there_q found =
      subst (λ (z : Job). Outcome s x (counted (initiated s r here z)) r here) (sym (matched_is s m q x))
      (matches m q
      (record {
        not_waiting = w;
        finds = found;
        moved = p.0;
        uses = p.1;
        rows = rows;
        messages = refl;
        receives = refl;
        memory = refl;
      }))
    where
      nb : Bool
      nb = no_half (op s here)

      A : Entry
      A = entry 3 0 q absent absent 0

      B : Entry
      B = entry 3 (cond (is_cut s m q) 1 0) m (rank_of s m) (op s m).tag (op s m).long

      z : Entry
      z = bare_entry 0

      y : Job
      y =
          job (set (set x.entries m A) q B) (stepped_places (released_places s x m) r nb) (without m x.messages)
          (without q x.receives)
          (delivered s m q x.memory) x.stop (suc x.steps)

      long : length x.entries ≡ N_of s
      long = R.placed.entries_long

      one : Finds s x here m q → (here ≡ m) ⊎ (here ≡ q)
      one (inl e) = inr (sym e.0)
      one (inr e) = inl (sym e.0)

      p : Moved x y r nb × Use x y (use_released s x m)
      p =
          stepped_moved y
          (used_released s x R.in_use_peak m (omega (arith, g.rank_small m lm, R.placed.places_long))
          (λ two. unmatched_kept s m (R.shaped.unmatched m (omega (arith, two)) free_m) two))
          r nb places_inside
          refl
          (length-set (set x.entries m A) q B ∙ length-set x.entries m A) refl refl

      rows : Matches s x y m q here
      rows =
          record {
            sends = sm;
            receives = rq;
            fit = fit;
            message_row =
                get_or-set_other (set x.entries m A) q m B z (send_receive_differ s m q sm rq)
                ∙ get_or-set_same x.entries m A z (omega (arith, long));
            receive_row = get_or-set_same (set x.entries m A) q B z (omega (arith, long, length-set x.entries m A));
            other = λ j a b. get_or-set_other (set x.entries m A) q j B z b ∙ get_or-set_other x.entries m j A z a;
            message_free = free_m;
            receive_free = free_q;
            one = one found;
            fresh = next_fresh s x r R.placed n w;
            message_there = there_m;
            receive_there = there_q;
          }

  -- what the searches find is pending, and fits
  found_message : (m : ℕ) → first_message s here x.messages ≡ some m →
      Found (ArrivedBefore R.arrival) (λ k. fits_with s k here) x.messages m
  unfolding first_message
  found_message m e = first_by_some (λ k. fits_with s k here) x.messages R.messages_held.sorted m e

  found_receive : (q : ℕ) → first_receive s here x.receives ≡ some q →
      Found (PostedBefore s) (λ k. fits_with s here k) x.receives q
  unfolding first_receive
  found_receive q e = first_by_some (λ k. fits_with s here k) x.receives R.receives_held.sorted q e

  -- INITIATING
  outcome_received : (o : Option ℕ) → first_message s here x.messages ≡ o → (place_at x r).waiting ≡ false →
      is_receive (op s here) ≡ true →
      Outcome s x (counted (received s r here o x)) r here
  unfolding received
  outcome_received none e w k = outcome_posts w k e
  outcome_received (some m) e w k =
      let f = found_message m e in
      let p = R.messages_held.sound m f.member in
      outcome_matches m here w p.sends k f.passes (R.placed.entered_only m p.entered).0 n.inside p.unmatched
      (λ c. omega (arith, next_fresh s x r R.placed n w)) (λ d. p.entered) (λ d. absurd (d refl)) (inl (refl, e))

  outcome_unmatched : (place_at x r).waiting ≡ false → is_send (op s here) ≡ true → first_receive s here x.receives ≡ none →
      Outcome s x (counted (unmatched s r here x)) r here
  unfolding unmatched is_kept fits_buffer kept_in
  outcome_unmatched w k e =
      go (is_ready (op s here)) refl (is_buffered (op s here)) refl (fits_buffer s r here x) refl (fits_room s r here x) refl
    where
      stopping : (v : ℕ) → Cause s x r here v → Outcome s x (counted (stopped v r here x)) r here
      stopping v cause =
          stops v
          (record {
            cause = cause;
            is_one = k;
            none_fits = e;
            not_waiting = w;
            job_is = refl;
          })

      go : (a : Bool) → is_ready (op s here) ≡ a → (b : Bool) → is_buffered (op s here) ≡ b → (c : Bool) → fits_buffer s r here x ≡ c →
          (d : Bool) → fits_room s r here x ≡ d →
          Outcome s x
          (counted
          (cond a (stopped 4 r here x)
          (cond b (cond c (kept in_attached s r here x) (stopped 3 r here x))
          (cond d (kept in_room s r here x) (not_kept s r here x)))))
          r here
      go true i b h c f d q = stopping 4 (inr (refl, i))
      go false i true h true f d q =
          outcome_kept in_attached w k (or_left (is_buffered (op s here)) (fits_room s r here x) h) h e f
      go false i true h false f d q = stopping 3 (inl (refl, h, f))
      go false i false h c f true q =
          outcome_kept in_room w k (or_right (is_buffered (op s here)) (fits_room s r here x) q) (fits_room_standard s r here x q) e
          (fits_room_beside s r here x q)
      go false i false h c f false q = outcome_not_kept w k (or_neither h q) e

  outcome_sent : (o : Option ℕ) → first_receive s here x.receives ≡ o → (place_at x r).waiting ≡ false →
      is_send (op s here) ≡ true →
      Outcome s x (counted (sent s r here o x)) r here
  unfolding sent
  outcome_sent none e w k = outcome_unmatched w k e
  outcome_sent (some q) e w k =
      let f = found_receive q e in
      let p = R.receives_held.sound q f.member in
      outcome_matches here q w k p.receives f.passes n.inside (R.placed.entered_only q p.entered).0
      (λ c. omega (arith, next_fresh s x r R.placed n w)) p.unmatched (λ d. absurd (d refl)) (λ d. p.entered)
      (inr (refl, e))

  -- a step of an able board goes one of the six ways
  pub outcome : Outcome s x (step s r x) r here
  unfolding step in_waiting_half initiating
  outcome = go (place_at x r).waiting refl (only_half (op s here)) refl (is_receive (op s here)) refl
    where
      go : (w : Bool) → (place_at x r).waiting ≡ w → (a : Bool) → only_half (op s here) ≡ a → (b : Bool) →
          is_receive (op s here) ≡ b →
          Outcome s x
          (counted
          (cond (w || a) (ended s r here x)
          (cond b (received s r here (first_message s here x.messages) x)
          (sent s r here (first_receive s here x.receives) x))))
          r here
      go true e a f b h = outcome_half e
      go false e true f b h = outcome_only_half e f
      go false e false f true h = outcome_received (first_message s here x.messages) refl e h
      go false e false f false h = outcome_sent (first_receive s here x.receives) refl e (kind_send s g here n.inside f h)
