-- What an engine that steps needs to know of a reachable job, each as one short law: its next operation lies in the sheet and
-- in its board's script; the waiting lists hold sends and receives of the sheet, each once, so that one more finds room; an
-- operation that isn't entered stands in neither list; a matched receive has its message.
--   few_held                      distinct numbers below n are at most n; few_room: fewer where one below n is missing
--   able_parts                    what able says
--   next_inside, next_rank        the next operation of an unfinished board; next_new, next_kind, next_send: before its
--                                 initiating step
--   message_op, message_once      a pending message; receive-..: a posted receive
--   messages_short, messages_room the list's length; receives-..
--   new_message, new_receive      what isn't entered is in no list
--   matched_receive               a matched receive and its message
-- Assumes nothing.
use Rattle.std.specs.Prelude.{◌≡◌, refl, ◌⊎◌, ◌≢◌, Bool, true, false, cond, List, [], ◌∷◌, ◌++◌, ℕ, zero, suc, ◌+◌, ◌≤◌, ◌<◌, eqb, length, get_or}
use Rattle.std.proofs.Common.{ap, subst, inl, inr, arith, length-append}
use Rattle.std.proofs.Math.Option.{none}
use borrow.Author.Tests.{leb-false, lt-leb}
use Rattle.rules.specs.Sheet.{Sheet, op, board, P_of, N_of, rank_of, is_send, is_receive, only_half}
use Rattle.rules.specs.Job.{Job, place_at}
use Rattle.rules.specs.Step.{able, next_op, is_finished, in_waiting_half, fits_with, without}
use Rattle.laws.specs.Tests.{or_false_left, or_false_right}
use Rattle.invariant.specs.sheet.Valid.{Valid}
use Rattle.invariant.specs.sheet.Kinds.{kind_send}
use Rattle.laws.specs.WaitingLists.{In, Sorted, Holds, holds_less, holds_more, holds_same, without_none}
use Rattle.invariant.specs.Invariant.{state_at, partner_at, PendingMessage, PendingReceive, Reached}
use Rattle.invariant.specs.step.Places.{able_next, next_fresh}
use Rattle.invariant.specs.sheet.Extents.{send_inside, receive_inside}

-- LISTS: a member by its index, and the order of two of them
pub in_at : (l : List ℕ) (k : ℕ) → k < length l → In (get_or l k 0) l
in_at [] k h = absurd (omega arith)
in_at (v ∷ l) zero h = inl refl
in_at (v ∷ l) (suc k) h = inr (in_at l k (omega arith))

pub sorted_at : (R : ℕ → ℕ → Type 0) (l : List ℕ) → Sorted R l → (j k : ℕ) → j < k → k < length l → R (get_or l j 0) (get_or l k 0)
sorted_at R [] o j k h m = absurd (omega arith)
sorted_at R (v ∷ l) o j zero h m = absurd (omega arith)
sorted_at R (v ∷ l) o zero (suc k) h m = o.0 (get_or l k 0) (in_at l k (omega arith))
sorted_at R (v ∷ l) o (suc j) (suc k) h m = sorted_at R l o.1 j k (omega arith) (omega arith)

-- taking one number out makes a list shorter by one at most
without_long : (v : ℕ) (l : List ℕ) → length l ≤ suc (length (without v l))
unfolding without
without_long v [] = omega arith
without_long v (u ∷ l) = go (eqb u v) (without_long v l)
  where
    go : (b : Bool) → length l ≤ suc (length (without v l)) → suc (length l) ≤ suc (length (cond b l (u ∷ without v l)))
    go true before = omega arith
    go false before = omega arith

-- PIGEONHOLE: distinct numbers below n, taken out from the largest down
abbrev pub Differ : (a b : ℕ) → Type 0
Differ a b = a ≢ b

pub few_held : (n : ℕ) (P : ℕ → Type 0) (l : List ℕ) → Holds Differ P l → ((v : ℕ) → P v → v < n) → length l ≤ n
few_held zero P [] h small = omega arith
few_held zero P (v ∷ l) h small = absurd (omega (arith, small v (h.sound v (inl refl))))
few_held (suc n) P l h small =
    omega (
      arith,
      without_long n l,
      few_held n (λ v. P v × (v ≢ n)) (without n l) rest
          (λ v q. omega (arith, small v q.0, q.1)),
    )
  where
    rest : Holds Differ (λ v. P v × (v ≢ n)) (without n l)
    rest = holds_less n h (λ v d. d refl) (λ v p d. (p, d)) (λ v q. q.0) (λ q. q.1 refl)

pub few_room : (n i : ℕ) (P : ℕ → Type 0) (l : List ℕ) → Holds Differ P l → ((v : ℕ) → P v → v < n) → i < n → (P i → ⊥) →
    length l < n
few_room n i P l h small m out =
    omega (arith, length-append l (i ∷ []), few_held n (λ v. P v ⊎ (v ≡ i)) (l ++ (i ∷ [])) more below)
  where
    more : Holds Differ (λ v. P v ⊎ (v ≡ i)) (l ++ (i ∷ []))
    more = holds_more i h (λ v p e. out (subst P e p)) (λ v p. inl p) (inr refl) (λ v q. q)

    below : (v : ℕ) → P v ⊎ (v ≡ i) → v < n
    below v (inl p) = small v p
    below v (inr e) = omega arith

module _ {s : Sheet} (g : Valid s) {lent : List ℕ} {x : Job} (R : Reached s lent x) where
  -- THE NEXT OPERATION of a board
  pub able_parts : (r : ℕ) → able s x r ≡ true →
      (x.stop ≡ none) × (r < P_of s) × (is_finished s x r ≡ false) × ((place_at x r).finished < (board s r).count)
  unfolding is_finished
  able_parts r a =
      let n = able_next s g x r a in
      (n.going, n.rank_small, lt-leb (board s r).count (place_at x r).finished n.unfinished, n.unfinished)

  unfinished_left : (r : ℕ) → is_finished s x r ≡ false → (place_at x r).finished < (board s r).count
  unfolding is_finished
  unfinished_left r f = leb-false (board s r).count (place_at x r).finished f

  pub next_inside : (r : ℕ) → r < P_of s → is_finished s x r ≡ false → next_op s x r < N_of s
  unfolding next_op
  next_inside r l f = omega (arith, unfinished_left r f, g.script_inside r l)

  pub next_rank : (r : ℕ) → r < P_of s → is_finished s x r ≡ false → rank_of s (next_op s x r) ≡ r
  unfolding next_op
  next_rank r l f =
      g.script_ranked r ((board s r).first + (place_at x r).finished) l (omega arith) (omega (arith, unfinished_left r f))

  -- before its initiating step an operation is not entered, and is no wait
  pub next_new : (r : ℕ) → able s x r ≡ true → in_waiting_half s x r ≡ false → state_at x (next_op s x r) ≡ 0
  unfolding in_waiting_half
  next_new r a w =
      next_fresh s x r R.placed (able_next s g x r a)
      (or_false_left (place_at x r).waiting (only_half (op s (next_op s x r))) w)

  pub next_kind : (r : ℕ) → able s x r ≡ true → in_waiting_half s x r ≡ false → only_half (op s (next_op s x r)) ≡ false
  unfolding in_waiting_half
  next_kind r a w = or_false_right (place_at x r).waiting (only_half (op s (next_op s x r))) w

  pub next_send : (r : ℕ) → able s x r ≡ true → in_waiting_half s x r ≡ false → is_receive (op s (next_op s x r)) ≡ false →
      is_send (op s (next_op s x r)) ≡ true
  next_send r a w k = kind_send s g (next_op s x r) (able_next s g x r a).inside (next_kind r a w) k

  -- WAITING LISTS: what stands at an index is pending
  message_there : (k : ℕ) → k < length x.messages → PendingMessage s x (get_or x.messages k 0)
  message_there k l = R.messages_held.sound (get_or x.messages k 0) (in_at x.messages k l)

  receive_there : (k : ℕ) → k < length x.receives → PendingReceive s x (get_or x.receives k 0)
  receive_there k l = R.receives_held.sound (get_or x.receives k 0) (in_at x.receives k l)

  pub message_op : (k : ℕ) → k < length x.messages →
      (get_or x.messages k 0 < N_of s) × (is_send (op s (get_or x.messages k 0)) ≡ true)
  message_op k l =
      let p = message_there k l in
      (send_inside s (get_or x.messages k 0) p.sends, p.sends)

  pub receive_op : (k : ℕ) → k < length x.receives →
      (get_or x.receives k 0 < N_of s) × (is_receive (op s (get_or x.receives k 0)) ≡ true)
  receive_op k l =
      let p = receive_there k l in
      (receive_inside s (get_or x.receives k 0) p.receives, p.receives)

  -- each stands there once
  messages_apart : Holds Differ (PendingMessage s x) x.messages
  messages_apart = holds_same R.messages_held (λ v u p q c e. omega (arith, c, ap R.arrival e)) (λ v p. p) (λ v p. p)

  receives_apart : Holds Differ (PendingReceive s x) x.receives
  receives_apart =
      holds_same R.receives_held (λ v u p q c e. omega (arith, c (ap (λ (z : ℕ). rank_of s z) e), e)) (λ v p. p) (λ v p. p)

  pub message_once : (j k : ℕ) → j < k → k < length x.messages → get_or x.messages j 0 ≡ get_or x.messages k 0 → ⊥
  message_once j k l m e = sorted_at Differ x.messages messages_apart.sorted j k l m e

  pub receive_once : (j k : ℕ) → j < k → k < length x.receives → get_or x.receives j 0 ≡ get_or x.receives k 0 → ⊥
  receive_once j k l m e = sorted_at Differ x.receives receives_apart.sorted j k l m e

  -- so there are at most N, and fewer where an operation of the sheet is not entered
  pub messages_short : length x.messages ≤ N_of s
  messages_short = few_held (N_of s) (PendingMessage s x) x.messages messages_apart (λ v p. send_inside s v p.sends)

  pub receives_short : length x.receives ≤ N_of s
  receives_short = few_held (N_of s) (PendingReceive s x) x.receives receives_apart (λ v p. receive_inside s v p.receives)

  pub messages_room : (i : ℕ) → i < N_of s → state_at x i ≡ 0 → length x.messages < N_of s
  messages_room i l e =
      few_room (N_of s) i (PendingMessage s x) x.messages messages_apart (λ v p. send_inside s v p.sends) l
      (λ p. omega (arith, p.entered))

  pub receives_room : (i : ℕ) → i < N_of s → state_at x i ≡ 0 → length x.receives < N_of s
  receives_room i l e =
      few_room (N_of s) i (PendingReceive s x) x.receives receives_apart (λ v p. receive_inside s v p.receives) l
      (λ p. omega (arith, p.entered))

  -- what is not entered stands in neither list
  pub new_message : (i : ℕ) → state_at x i ≡ 0 → without i x.messages ≡ x.messages
  new_message i e = without_none i x.messages (λ k. omega (arith, (R.messages_held.sound i k).entered))

  pub new_receive : (i : ℕ) → state_at x i ≡ 0 → without i x.receives ≡ x.receives
  new_receive i e = without_none i x.receives (λ k. omega (arith, (R.receives_held.sound i k).entered))

  -- MATCHES
  pub matched_receive : (q : ℕ) → q < N_of s → is_receive (op s q) ≡ true → state_at x q ≡ 3 →
      (partner_at x q < N_of s) × (is_send (op s (partner_at x q)) ≡ true) × (fits_with s (partner_at x q) q ≡ true)
  matched_receive q l h e =
      let m = R.stable.receive_pair q h e in
      (send_inside s (partner_at x q) m.sends, m.sends, m.fit)
