-- One law of a board's two accounts (specs/Boards), `step_moves`: a step of any board moves the account of every board and store as
-- `taken` and `given_back` move an account, or leaves it as it was. Assumes nothing.
use Rattle.std.specs.Prelude.{◌≡◌, Bool, ◌&&◌, ℕ, suc, ◌-◌, ◌<◌, ◌≤◌, ltb}
use Rattle.std.proofs.Math.Path.{refl, sym, ap}
use Rattle.std.proofs.Common.{◌∙◌, arith, get_or-set_same, get_or-set_other}
use Rattle.std.proofs.Math.Bool.{true, false, cond}
use Rattle.std.proofs.Math.Option.{Option, none, some}
use Rattle.std.proofs.Math.Logic.{⊎_elim}
use Rattle.std.proofs.Math.Decide.{dec_lt}
use Rattle.std.proofs.Math.Dec.{eqb}
use Rattle.std.proofs.Math.ListN.{length, get_or-eq_default}
use Rattle.std.proofs.Math.Seq.{set_out}
use borrow.Author.Tests.{eqb-true, eqb-false, ne_eqb}
use Rattle.rules.specs.Sheet.{Sheet, Op, board, op, rank_of, is_receive, is_ready, is_buffered, is_standard, only_half, no_half}
use Rattle.rules.specs.Job.{Job, Entry, Figures, Place, Store, in_attached, in_room, figures, place, first_place, account, with_account, job}
use Rattle.rules.specs.Job.{place_at, entry_at, with_entries, with_places, with_messages, with_receives, with_memory, with_stop, with_steps}
use Rattle.rules.specs.Step.{next_op, in_waiting_half, first_message, first_receive, store_of, size_of, charge_of, charged, released}
use Rattle.rules.specs.Step.{with_place, charge, release, matched_rows, matched, with_row, with_state, pend_message, pend_receive, stopped}
use Rattle.rules.specs.Step.{one_finished, now_waiting, initiated, fits_beside, fits_buffer, fits_room, kept, not_kept, unmatched, sent}
use Rattle.rules.specs.Step.{received, initiating, half_row, ended, step}
use Rattle.laws.specs.Tests.{decided, true_not_false}
use Rattle.laws.specs.Fields.{ready_not_buffered}
use Rattle.account.specs.declared.Account.{Account}
use Rattle.laws.specs.Stores.{same_store, own_figures, other_figures}
use Rattle.account.specs.Accounts.{account_of, figures_of, has_room, taken, given_back, taken_not}
use Rattle.account.specs.Boards.{board_account, by_receive, by_standard, by_send, initiates, movement, moved, none_moves, charges, matches}

-- A PLACE THAT IS PUT: at its own board, where the job has that place; elsewhere
place_put : (r : ℕ) (q : Place) (x : Job) → r < length x.places → place_at (with_place r q x) r ≡ q
unfolding place_at with_place with_places job
place_put r q x l = get_or-set_same x.places r q first_place l

place_past : (r : ℕ) (q : Place) (x : Job) → length x.places ≤ r → (with_place r q x).places ≡ x.places
unfolding with_place with_places job
place_past r q x l = set_out x.places r q l

module _ (w : Store) (s : Sheet) (x : Job) where
  place_others : (r b : ℕ) (q : Place) → (b ≡ r → ⊥) → board_account w s (with_place r q x) b ≡ board_account w s x b
  unfolding board_account place_at with_place with_places job
  place_others r b q other =
      ap (λ (p : Place). account_of (size_of w (board s b)) (account w p)) (get_or-set_other x.places r b q first_place other)

  -- where the job has no such place, nothing is put
  past_stays : (r b : ℕ) (q : Place) → length x.places ≤ r → board_account w s (with_place r q x) b ≡ board_account w s x b
  unfolding board_account place_at
  past_stays r b q l = rw (place_past r q x l)

  own_account : (r : ℕ) (q : Place) → r < length x.places
      → board_account w s (with_place r q x) r ≡ account_of (size_of w (board s r)) (account w q)
  unfolding board_account
  own_account r q l = rw (place_put r q x l)

  -- a place with the same figures changes no account
  same_figures : (r b : ℕ) (q : Place) → account w q ≡ account w (place_at x r)
      → board_account w s (with_place r q x) b ≡ board_account w s x b
  unfolding board_account
  same_figures r b q e = ⊎_elim own (λ t. place_others r b q (eqb-false b r t)) (decided (eqb b r))
    where
      at_own : Dec (r < length x.places) → board_account w s (with_place r q x) r ≡ board_account w s x r
      at_own (yes l) = own_account r q l ∙ ap (account_of (size_of w (board s r))) e
      at_own (no l) = past_stays r r q (omega (arith, l))

      own : eqb b r ≡ true → board_account w s (with_place r q x) b ≡ board_account w s x b
      own t = rw (eqb-true b r t) (at_own (dec_lt r (length x.places)))

-- PARTS OF A STEP that change no account. Ending an operation or its initiating step changes no figure
settled : (w : Store) (q : Place) (finished : Bool) → account w (cond finished (one_finished q) (now_waiting q)) ≡ account w q
unfolding account one_finished now_waiting place
settled in_attached q true = refl
settled in_attached q false = refl
settled in_room q true = refl
settled in_room q false = refl

row_stays : (w : Store) (s : Sheet) (x : Job) (b i : ℕ) (e : Entry) → board_account w s (with_row i e x) b ≡ board_account w s x b
unfolding board_account with_entries job place_at
row_stays w s x b i e = refl

module _ (w : Store) (s : Sheet) (x : Job) (b : ℕ) where
  pended_stays : (i v : ℕ) → board_account w s (pend_message i v x) b ≡ board_account w s x b
  unfolding board_account pend_message with_messages with_state with_entries job place_at
  pended_stays i v = refl

  posted_stays : (i : ℕ) → board_account w s (pend_receive i x) b ≡ board_account w s x b
  unfolding board_account pend_receive with_receives with_state with_entries job place_at
  posted_stays i = refl

  stopped_stays : (v r i : ℕ) → board_account w s (stopped v r i x) b ≡ board_account w s x b
  unfolding board_account stopped with_stop job place_at
  stopped_stays v r i = refl

  counted_stays : (k : ℕ) → board_account w s (with_steps k x) b ≡ board_account w s x b
  unfolding board_account with_steps job place_at
  counted_stays k = refl

  -- a match changes no account but by its release
  matched_as_released : (m q : ℕ) → board_account w s (matched s m q x) b ≡ board_account w s (release s m x) b
  unfolding board_account matched matched_rows with_memory with_receives with_messages with_entries job place_at
  matched_as_released m q = refl

  initiated_stays : (r i : ℕ) → board_account w s (initiated s r i x) b ≡ board_account w s x b
  unfolding initiated
  initiated_stays r i =
      let q = cond (no_half (op s i)) (one_finished (place_at x r)) (now_waiting (place_at x r)) in
      same_figures w s x r b q (settled w (place_at x r) (no_half (op s i)))

  ended_stays : (r i : ℕ) → board_account w s (ended s r i x) b ≡ board_account w s x b
  unfolding ended with_entries job place_at
  ended_stays r i = go (only_half (op s i))
    where
      q : Place
      q = one_finished (place_at x r)

      e : Entry
      e = half_row s x i

      go : (only : Bool) → board_account w s (with_place r q (cond only (with_row i e x) x)) b ≡ board_account w s x b
      go true = same_figures w s (with_row i e x) r b q (settled w (place_at x r) true) ∙ row_stays w s x b i e
      go false = same_figures w s x r b q (settled w (place_at x r) true)

-- A CHARGE: the figures are all that it reads of a place, and all that it changes
charged_account : (size n : ℕ) (a : Figures) → account_of size (charged n a) ≡ account_of size (charged n (figures_of (account_of size a)))
unfolding account_of figures_of charged figures
charged_account size n a = refl

-- whether a send fits beside what is in use is the account's test
room-is-board's : (w : Store) (s : Sheet) (r i : ℕ) (x : Job) →
    fits_beside w s r i x ≡ has_room (board_account w s x r) (charge_of w (op s i))
unfolding fits_beside has_room board_account account_of
room-is-board's w s r i x = refl

module _ (s : Sheet) (x : Job) (r i : ℕ) where
  abbrev charge_taken : Store → (b : ℕ) → Account
  charge_taken w b = taken (board_account w s x b) (charge_of w (op s i))

  abbrev charged_place : Store → Place
  charged_place w = with_account w (charged (charge_of w (op s i)) (account w (place_at x r))) (place_at x r)

  charge_own : (w : Store) → r < length x.places → fits_beside w s r i x ≡ true → board_account w s (charge w s r i x) r ≡ charge_taken w r
  unfolding charge taken board_account account_of
  charge_own w l t =
      let n = charge_of w (op s i) in
      let room : has_room (board_account w s x r) n ≡ true = sym (room-is-board's w s r i x) ∙ t in
      own_account w s x r (charged_place w) l
      ∙ (ap (account_of (size_of w (board s r))) (own_figures w (charged n (account w (place_at x r))) (place_at x r))
      ∙ rw room (charged_account (size_of w (board s r)) n (account w (place_at x r))))

  charge_same : (w : Store) (b : ℕ) → r < length x.places → fits_beside w s r i x ≡ true
      → board_account w s (charge w s r i x) b ≡ cond (eqb b r) (charge_taken w b) (board_account w s x b)
  unfolding charge
  charge_same w b l t =
      ⊎_elim (λ (e : eqb b r ≡ true). rw (e, eqb-true b r e) (charge_own w l t))
      (λ (e : eqb b r ≡ false). rw e (place_others w s x r b (charged_place w) (eqb-false b r e))) (decided (eqb b r))

  -- a charge to one store leaves the account of the other
  charge_other : (v w : Store) (b : ℕ) → same_store w v ≡ false → board_account w s (charge v s r i x) b ≡ board_account w s x b
  unfolding charge
  charge_other v w b e =
      same_figures w s x r b (charged_place v)
      (other_figures w v (charged (charge_of v (op s i)) (account v (place_at x r))) (place_at x r) e)

  charge_moves : (v w : Store) (b : ℕ) → r < length x.places → fits_beside v s r i x ≡ true
      → board_account w s (charge v s r i x) b ≡ moved (charges v r i) w s x b
  unfolding moved same_store
  charge_moves in_attached in_attached b l t = charge_same in_attached b l t
  charge_moves in_attached in_room b l t = charge_other in_attached in_room b refl
  charge_moves in_room in_attached b l t = charge_other in_room in_attached b refl
  charge_moves in_room in_room b l t = charge_same in_room b l t

  -- without room nothing is charged, and `taken` leaves the account as it was
  full_own : (w : Store) → fits_beside w s r i x ≡ false → board_account w s x r ≡ charge_taken w r
  full_own w t = taken_not (board_account w s x r) (charge_of w (op s i)) (sym (room-is-board's w s r i x) ∙ t)

  full_same : (w : Store) (b : ℕ) → fits_beside w s r i x ≡ false
      → board_account w s x b ≡ cond (eqb b r) (charge_taken w b) (board_account w s x b)
  full_same w b t =
      ⊎_elim (λ (e : eqb b r ≡ true). rw (e, eqb-true b r e) (full_own w t)) (λ (e : eqb b r ≡ false). rw e) (decided (eqb b r))

  full_stays : (v w : Store) (b : ℕ) → fits_beside v s r i x ≡ false → board_account w s x b ≡ moved (charges v r i) w s x b
  unfolding moved same_store
  full_stays in_attached in_attached b t = full_same in_attached b t
  full_stays in_attached in_room b t = refl
  full_stays in_room in_attached b t = refl
  full_stays in_room in_room b t = full_same in_room b t

-- A RELEASE
released_account : (size n : ℕ) (a : Figures) → account_of size (released n a) ≡ given_back (account_of size a) n
unfolding given_back account_of figures_of released figures
released_account size n a = refl

-- an account with nothing in use has nothing to give back
nothing_back : (w : Store) (size n : ℕ) → given_back (account_of size (account w first_place)) n ≡ account_of size (account w first_place)
unfolding given_back account_of figures_of released figures account first_place place
nothing_back in_attached size n =
    let none_left : 0 - n ≡ 0 = omega arith in
    rw none_left
nothing_back in_room size n =
    let none_left : 0 - n ≡ 0 = omega arith in
    rw none_left

module _ (s : Sheet) (x : Job) (m : ℕ) where
  abbrev charge_back : Store → (b : ℕ) → Account
  charge_back w b = given_back (board_account w s x b) (charge_of w (op s m))

  abbrev released_place : Store → Place
  released_place w =
      let p = place_at x (rank_of s m) in
      with_account w (released (charge_of w (op s m)) (account w p)) p

  abbrev put_back : Store → Job
  put_back w = with_place (rank_of s m) (released_place w) x

  -- of the message's own board; where the job has no such place, nothing is in use there
  nothing_there : (w : Store) → length x.places ≤ rank_of s m → board_account w s x (rank_of s m) ≡ charge_back w (rank_of s m)
  unfolding board_account place_at
  nothing_there w l =
      rw (get_or-eq_default x.places first_place l)
      (sym (nothing_back w (size_of w (board s (rank_of s m))) (charge_of w (op s m))))

  back_own : (w : Store) → Dec (rank_of s m < length x.places) → board_account w s (put_back w) (rank_of s m) ≡ charge_back w (rank_of s m)
  unfolding board_account
  back_own w (yes l) =
      let p = place_at x (rank_of s m) in
      let n = charge_of w (op s m) in
      own_account w s x (rank_of s m) (released_place w) l
      ∙ (ap (account_of (size_of w (board s (rank_of s m)))) (own_figures w (released n (account w p)) p)
      ∙ released_account (size_of w (board s (rank_of s m))) n (account w p))
  back_own w (no l) =
      past_stays w s x (rank_of s m) (rank_of s m) (released_place w) (omega (arith, l)) ∙ nothing_there w (omega (arith, l))

  back_same : (w : Store) (b : ℕ) → board_account w s (put_back w) b ≡ cond (eqb b (rank_of s m)) (charge_back w b) (board_account w s x b)
  back_same w b =
      ⊎_elim (λ (e : eqb b (rank_of s m) ≡ true). rw (e, eqb-true b (rank_of s m) e) (back_own w (dec_lt (rank_of s m) (length x.places))))
      (λ (e : eqb b (rank_of s m) ≡ false). rw e (place_others w s x (rank_of s m) b (released_place w) (eqb-false b (rank_of s m) e)))
      (decided (eqb b (rank_of s m)))

  -- a release from one store leaves the account of the other
  back_other : (v w : Store) (b : ℕ) → same_store w v ≡ false → board_account w s (put_back v) b ≡ board_account w s x b
  back_other v w b e =
      let p = place_at x (rank_of s m) in
      same_figures w s x (rank_of s m) b (released_place v) (other_figures w v (released (charge_of v (op s m)) (account v p)) p e)

  put_back_moves : (v w : Store) (b : ℕ) →
      board_account w s (put_back v) b ≡ cond (same_store w v && eqb b (rank_of s m)) (charge_back w b) (board_account w s x b)
  unfolding same_store
  put_back_moves in_attached in_attached b = back_same in_attached b
  put_back_moves in_attached in_room b = back_other in_attached in_room b refl
  put_back_moves in_room in_attached b = back_other in_room in_attached b refl
  put_back_moves in_room in_room b = back_same in_room b

  release_moves : (w : Store) (b : ℕ) → board_account w s (release s m x) b ≡ moved (matches m) w s x b
  unfolding moved release
  release_moves w b = go (eqb (entry_at x m).state 2)
    where
      v : Store
      v = store_of (op s m)

      go : (buffered : Bool) → board_account w s (cond buffered (put_back v) x) b
          ≡ cond (buffered && (same_store w v && eqb b (rank_of s m))) (charge_back w b) (board_account w s x b)
      go true = put_back_moves v w b
      go false = refl

-- INITIATING STEPS. A message that is listed changes neither places nor their figures
module _ (s : Sheet) (x : Job) (r i : ℕ) where
  pended_in : r < length x.places → r < length (pend_message i 2 x).places
  unfolding pend_message with_messages with_state with_entries job
  pended_in l = l

  pended_fits : (v : Store) → fits_beside v s r i (pend_message i 2 x) ≡ fits_beside v s r i x
  unfolding fits_beside pend_message with_messages with_state with_entries job place_at
  pended_fits v = refl

  pended_charges : (v w : Store) (b : ℕ) → moved (charges v r i) w s (pend_message i 2 x) b ≡ moved (charges v r i) w s x b
  unfolding moved
  pended_charges v w b = rw (pended_stays w s x b i 2)

module _ (w : Store) (s : Sheet) (x : Job) (r b : ℕ) where
  matched_moves : (i m q : ℕ) → board_account w s (initiated s r i (matched s m q x)) b ≡ moved (matches m) w s x b
  matched_moves i m q = initiated_stays w s (matched s m q x) b r i ∙ (matched_as_released w s x b m q ∙ release_moves s x m w b)

  received_moves : (i : ℕ) (found : Option ℕ) → board_account w s (received s r i found x) b ≡ moved (by_receive found) w s x b
  unfolding received by_receive moved
  received_moves i none = initiated_stays w s (pend_receive i x) b r i ∙ posted_stays w s x b i
  received_moves i (some m) = matched_moves i m i

-- a ready send is neither buffered nor standard
ready_not_standard : (o : Op) → is_ready o ≡ true → is_standard o ≡ false
unfolding is_ready is_standard
ready_not_standard o e = ne_eqb o.kind 1 (λ f. omega (arith, eqb-true o.kind 4 e, f))

module _ (w : Store) (s : Sheet) (x : Job) (r i b : ℕ) (l : r < length x.places) where
  -- a send that is kept, and one that is not
  kept_moves : (v : Store) → fits_beside v s r i x ≡ true → board_account w s (kept v s r i x) b ≡ moved (charges v r i) w s x b
  unfolding kept
  kept_moves v t =
      initiated_stays w s (charge v s r i (pend_message i 2 x)) b r i
      ∙ (charge_moves s (pend_message i 2 x) r i v w b (pended_in s x r i l) (pended_fits s x r i v ∙ t) ∙ pended_charges s x r i v w b)

  not_kept_stays : board_account w s (not_kept s r i x) b ≡ board_account w s x b
  unfolding not_kept
  not_kept_stays = initiated_stays w s (pend_message i 1 x) b r i ∙ pended_stays w s x b i 1

  buffered_moves : (fits : Bool) → fits_beside in_attached s r i x ≡ fits
      → board_account w s (cond fits (kept in_attached s r i x) (stopped 3 r i x)) b ≡ moved (charges in_attached r i) w s x b
  buffered_moves true t = kept_moves in_attached t
  buffered_moves false t = stopped_stays w s x b 3 r i ∙ full_stays s x r i in_attached w b t

  -- of a send that is neither ready nor buffered: whether it is standard, whether its board has a room, whether it fits there
  standard_moves : (standard roomy fits : Bool) → fits_beside in_room s r i x ≡ fits
      → board_account w s (cond (standard && (roomy && fits)) (kept in_room s r i x) (not_kept s r i x)) b
      ≡ moved (cond (standard && roomy) (charges in_room r i) none_moves) w s x b
  unfolding moved
  standard_moves true true true t = kept_moves in_room t
  standard_moves true true false t = not_kept_stays ∙ full_stays s x r i in_room w b t
  standard_moves true false fits t = not_kept_stays
  standard_moves false roomy fits t = not_kept_stays

  unmatched_moves : (ready buffered : Bool) → is_ready (op s i) ≡ ready → is_buffered (op s i) ≡ buffered
      → board_account w s (unmatched s r i x) b ≡ moved (cond buffered (charges in_attached r i) (by_standard s r i)) w s x b
  unfolding unmatched moved by_standard fits_buffer fits_room
  unmatched_moves true true e f = true_not_false f (ready_not_buffered (op s i) e)
  unmatched_moves true false e f = rw (e, ready_not_standard (op s i) e) (stopped_stays w s x b 4 r i)
  unmatched_moves false true e f = rw (e, f) (buffered_moves (fits_beside in_attached s r i x) refl)
  unmatched_moves false false e f =
      rw (e, f) (standard_moves (is_standard (op s i)) (ltb 0 (board s r).room) (fits_beside in_room s r i x) refl)

  sent_moves : (found : Option ℕ) → board_account w s (sent s r i found x) b ≡ moved (by_send s r i found) w s x b
  unfolding sent by_send
  sent_moves none = unmatched_moves (is_ready (op s i)) (is_buffered (op s i)) refl refl
  sent_moves (some q) = matched_moves w s x r b i i q

  initiating_moves : board_account w s (initiating s r i x) b ≡ moved (initiates s x r i) w s x b
  unfolding initiating initiates
  initiating_moves =
      ⊎_elim (λ (e : is_receive (op s i) ≡ true). rw e (received_moves w s x r b i (first_message s i x.messages)))
      (λ (e : is_receive (op s i) ≡ false). rw e (sent_moves (first_receive s i x.receives))) (decided (is_receive (op s i)))

-- THE LAW: r steps; b is r itself or any other board, w either of its stores
pub step_moves : (w : Store) (s : Sheet) (x : Job) (r b : ℕ) → r < length x.places →
    board_account w s (step s r x) b ≡ moved (movement s x r) w s x b
unfolding step movement moved
step_moves w s x r b l = go (in_waiting_half s x r)
  where
    i : ℕ
    i = next_op s x r

    go : (half : Bool)
        → board_account w s (with_steps (suc x.steps) (cond half (ended s r i x) (initiating s r i x))) b
        ≡ moved (cond half none_moves (initiates s x r i)) w s x b
    go true = counted_stays w s (ended s r i x) b (suc x.steps) ∙ ended_stays w s x b r i
    go false = counted_stays w s (initiating s r i x) b (suc x.steps) ∙ initiating_moves w s x r i b l
