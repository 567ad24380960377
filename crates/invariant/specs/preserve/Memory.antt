-- Memory holds the deliveries in script order, after a step as before: a new match's delivery may be moved before those of
-- later receives, since a receive that is pending while later ones of its board are entered still holds its request, so that
-- their areas are others.
--   replayed_same      the same rows replay the same
--   replayed_length    replaying keeps the length
--   pending_apart     the areas are disjoint
--   replayed_matches   a match replays one delivery more
-- Assumes nothing.
use Rattle.std.specs.Prelude.{◌≡◌, ◌⊎◌, ◌≢◌, Bool, ◌&&◌, eqb}
use Rattle.std.proofs.Math.Path.{refl, sym, ap, subst}
use Rattle.std.proofs.Common.{◌∙◌, inl, inr, eq-eqb, eqb-true, leb-true}
use Rattle.std.proofs.Math.Bool.{true, false, cond}
use mathlib.Core.List.{List}
use Rattle.std.proofs.Math.Option.{Option, some}
use Prim.Native.Nat.{ℕ, zero, suc, ◌+◌, ◌≤◌, ◌<◌}
use native.Mathlib.Omega.{arith}
use Rattle.std.proofs.Math.Decide.{ℕ_discrete}
use Rattle.std.proofs.Math.ListN.{length}
use Rattle.rules.specs.Sheet.{Sheet, op, N_of, rank_of, inbox_total, is_receive, no_half, frees_slot}
use Rattle.rules.specs.Job.{Job, Entry, entry_at, place_at}
use Rattle.rules.specs.Step.{next_op, delivered, half_complete, complete, complete_if, waited}
use Rattle.laws.specs.Tests.{true_not_false}
use Rattle.invariant.specs.sheet.Valid.{Valid}
use Rattle.invariant.specs.deliveries.Laws.{DeliveryLaws, Pair, AreasApart}
use Rattle.invariant.specs.sheet.Kinds.{is_true, send_not_receive, receive_not_frees, receive_not_tells, receive_no_half_takes, frees_not_no_half, frees_not_tells}
use Rattle.invariant.specs.Invariant.{Entered, state_at, partner_at, replay, replayed, reach, Placed, Shaped, Stable}
use Rattle.invariant.specs.matching.RowChanges.{Enters, Matches, state_name, matches_pair, matches_receive_state}
use Rattle.invariant.specs.preserve.Places.{prefix}
use Rattle.invariant.specs.matching.UnmatchedState.{unmatched_receive}

-- ONE OPERATION
-- it replays nothing, or it is a matched receive and replays its message
replay_none : (s : Sheet) (x : Job) (j : ℕ) (bs : List ℕ) → (is_receive (op s j) ≡ true → state_at x j ≡ 3 → ⊥) →
    replay s x j bs ≡ bs
unfolding replay
replay_none s x j bs h = go (is_receive (op s j)) refl (eqb (state_at x j) 3) refl
  where
    go : (a : Bool) → is_receive (op s j) ≡ a → (b : Bool) → eqb (state_at x j) 3 ≡ b →
        cond (a && b) (delivered s (partner_at x j) j bs) bs ≡ bs
    go true e true f = absurd (h e (eqb-true (state_at x j) 3 f))
    go true e false f = refl
    go false e b f = refl

replay_matched : (s : Sheet) (x : Job) (j : ℕ) (bs : List ℕ) → is_receive (op s j) ≡ true → state_at x j ≡ 3 →
    replay s x j bs ≡ delivered s (partner_at x j) j bs
unfolding replay
replay_matched s x j bs e f =
    ap (λ (b : Bool). cond (b && eqb (state_at x j) 3) (delivered s (partner_at x j) j bs) bs) e
    ∙ ap (λ (b : Bool). cond b (delivered s (partner_at x j) j bs) bs) (eq-eqb (state_at x j) 3 f)

replay_same : (s : Sheet) (x y : Job) (j : ℕ) (bs : List ℕ) → entry_at y j ≡ entry_at x j → replay s y j bs ≡ replay s x j bs
unfolding replay
replay_same s x y j bs e = ap (λ (z : Entry). cond (is_receive (op s j) && eqb z.state 3) (delivered s z.partner j bs) bs) e

-- by cases: does operation j replay?
abbrev Delivers : Sheet → Job → ℕ → Type 0
Delivers s x j = (is_receive (op s j) ≡ true) × (state_at x j ≡ 3)

replays : (s : Sheet) (x : Job) (j : ℕ) → Delivers s x j ⊎ (is_receive (op s j) ≡ true → state_at x j ≡ 3 → ⊥)
replays s x j = go (is_receive (op s j)) refl (ℕ_discrete (state_at x j) 3)
  where
    go : (b : Bool) → is_receive (op s j) ≡ b → Dec (state_at x j ≡ 3) →
        Delivers s x j ⊎ (is_receive (op s j) ≡ true → state_at x j ≡ 3 → ⊥)
    go true e (yes f) = inl (e, f)
    go true e (no d) = inr (λ a b. d b)
    go false e t = inr (λ a b. true_not_false a e)

-- ALL
pub replayed_same : (s : Sheet) (x y : Job) (n : ℕ) (bs : List ℕ) →
    ((j : ℕ) (cs : List ℕ) → j < n → replay s y j cs ≡ replay s x j cs) →
    replayed s y n bs ≡ replayed s x n bs
unfolding replayed
replayed_same s x y zero bs h = refl
replayed_same s x y (suc n) bs h =
    ap (λ (z : List ℕ). replay s y n z) (replayed_same s x y n bs (λ j cs l. h j cs (omega arith)))
    ∙ h n (replayed s x n bs) (omega arith)

pub replayed_rows : (s : Sheet) (x y : Job) (n : ℕ) (bs : List ℕ) → ((j : ℕ) → entry_at y j ≡ entry_at x j) →
    replayed s y n bs ≡ replayed s x n bs
replayed_rows s x y n bs h = replayed_same s x y n bs (λ j cs l. replay_same s x y j cs (h j))

-- where nothing is matched, nothing is replayed
pub replayed_none : (s : Sheet) (x : Job) (n : ℕ) (bs : List ℕ) → ((j : ℕ) → state_at x j ≡ 3 → ⊥) → replayed s x n bs ≡ bs
unfolding replayed
replayed_none s x zero bs h = refl
replayed_none s x (suc n) bs h = replay_none s x n (replayed s x n bs) (λ a b. h n b) ∙ replayed_none s x n bs h

-- what enters unmatched replays nothing
pub replayed_enters : (s : Sheet) {x y : Job} {i v : ℕ} (n : ℕ) (bs : List ℕ) → Enters x y i v →
    replayed s y n bs ≡ replayed s x n bs
replayed_enters s {x} {y} {i} {v} n bs E = replayed_same s x y n bs (λ j cs l. at j cs (ℕ_discrete j i))
  where
    at : (j : ℕ) (cs : List ℕ) → Dec (j ≡ i) → replay s y j cs ≡ replay s x j cs
    at j cs (no d) = replay_same s x y j cs (E.other j d)
    at j cs (yes e) =
        replay_none s y j cs (λ a b. E.no_match (sym E.state ∙ state_name y (sym e) ∙ b))
        ∙ sym (replay_none s x j cs (λ a b. omega (arith, E.fresh, state_name x e)))

-- A JOB whose matching is stable and whose boards are placed
module _ {s : Sheet} (g : Valid s) (A : DeliveryLaws s) {arrival : ℕ → ℕ} {x : Job} (X : Stable s arrival x) (p : Placed s x)
    (h : Shaped s x) where
  replays_pair : (j : ℕ) → Delivers s x j → Pair s (partner_at x j) j
  replays_pair j d =
      let met = X.receive_pair j d.0 d.1 in
      record {
        message_inside = (p.entered_only (partner_at x j) (omega (arith, met.message_matched))).0;
        receive_inside = (p.entered_only j (omega (arith, d.1))).0;
        sends = met.sends;
        receives = d.0;
      }

  pub replayed_length : (n : ℕ) (bs : List ℕ) → inbox_total s ≤ length bs → length (replayed s x n bs) ≡ length bs
  unfolding replayed
  replayed_length zero bs l = refl
  replayed_length (suc n) bs l = go (replays s x n) (replayed_length n bs l)
    where
      go : Delivers s x n ⊎ (is_receive (op s n) ≡ true → state_at x n ≡ 3 → ⊥) → length (replayed s x n bs) ≡ length bs →
          length (replay s x n (replayed s x n bs)) ≡ length bs
      go (inl d) e =
          ap (λ (z : List ℕ). length z) (replay_matched s x n (replayed s x n bs) d.0 d.1)
          ∙ A.delivered_length (partner_at x n) n (replayed s x n bs) (replays_pair n d) (omega (arith, e)) ∙ e
      go (inr c) e = ap (λ (z : List ℕ). length z) (replay_none s x n (replayed s x n bs) c) ∙ e

  -- a board has entered at most one operation past those that it finished
  reach_most : (q : ℕ) → reach s x q ≤ suc (next_op s x q)
  unfolding reach
  reach_most q = go (place_at x q).waiting
    where
      go : (b : Bool) → next_op s x q + cond b 1 0 ≤ suc (next_op s x q)
      go true = omega arith
      go false = omega arith

  -- a receive that is not matched has no complete half
  module _ (r : ℕ) (receives : is_receive (op s r) ≡ true) (free : state_at x r ≢ 3) (entered : Entered x r) where
    unmatched_incomplete : 2 ≤ state_at x r → ⊥
    unmatched_incomplete l = omega (arith, unmatched_receive s r receives (h.unmatched r entered free))

    unmatched_half : half_complete s x r ≡ true → ⊥
    unfolding half_complete complete
    unmatched_half e =
        unmatched_incomplete
        (leb-true 2 (state_at x r) (sym (ap (λ (b : Bool). cond b (complete_if x (waited s r)) (complete x r))
        (receive_not_frees (op s r) receives)) ∙ e))

    unmatched_waited : (w : ℕ) → frees_slot (op s w) ≡ true → waited s w ≡ some r → half_complete s x w ≡ true → ⊥
    unfolding half_complete complete complete_if
    unmatched_waited w e o c =
        unmatched_incomplete
        (leb-true 2 (state_at x r)
        (sym (ap (λ (z : Option ℕ). complete_if x z) o)
        ∙ sym (ap (λ (b : Bool). cond b (complete_if x (waited s w)) (complete x w)) e)
        ∙ c))

  -- the area of a receive that is not matched, and of a later one that is entered
  pending_apart : (r q : ℕ) → r < q → r < N_of s → is_receive (op s r) ≡ true → is_receive (op s q) ≡ true → state_at x r ≢ 3 →
      Entered x q → AreasApart s r q
  pending_apart r q l inside receives_r receives_q free entered = go (ℕ_discrete (rank_of s r) (rank_of s q))
    where
      go : Dec (rank_of s r ≡ rank_of s q) → AreasApart s r q
      go (no d) = inl d
      go (yes e) =
          let there : Entered x r = prefix s x p r q entered l e in
          let only = p.entered_only q entered in
          let passed : (j : ℕ) → rank_of s j ≡ rank_of s r → j < q → j < next_op s x (rank_of s j) =
          λ j c k. omega (arith, only.1, reach_most (rank_of s q), ap (λ (z : ℕ). next_op s x z) (c ∙ e)) in
          inr
          (A.held_apart r q l only.0 e receives_r receives_q
          (receive_no_half_takes (op s r) receives_r
          (is_true (no_half (op s r)) (λ b. unmatched_half r receives_r free there
          (p.passed_complete r inside (passed r refl l) b (receive_not_tells (op s r) receives_r)))))
          (λ w a b c f o. waits w a b c f o there (passed w c b) only.0))
        where
          waits : (w : ℕ) → r < w → w < q → rank_of s w ≡ rank_of s r → frees_slot (op s w) ≡ true → waited s w ≡ some r →
              Entered x r →
              w < next_op s x (rank_of s w) → q < N_of s → ⊥
          waits w a b c f o there passed k =
              let inside_w : w < N_of s = omega arith in
              unmatched_waited r receives_r free there w f o
              (p.passed_complete w inside_w passed (frees_not_no_half s g w inside_w f) (frees_not_tells (op s w) f))

  -- A MATCH replays one delivery more
  module _ {y : Job} {m r i : ℕ} (M : Matches s x y m r i) (inside_m : m < N_of s) (inside_r : r < N_of s) where
    -- every operation but r replays as it did
    matches_replay : (j : ℕ) (bs : List ℕ) → j ≢ r → replay s y j bs ≡ replay s x j bs
    matches_replay j bs d = go (ℕ_discrete j m)
      where
        no_receive : j ≡ m → is_receive (op s j) ≡ true → ⊥
        no_receive e a = true_not_false (ap (λ (z : ℕ). is_receive (op s z)) (sym e) ∙ a) (send_not_receive (op s m) M.sends)

        go : Dec (j ≡ m) → replay s y j bs ≡ replay s x j bs
        go (yes e) = replay_none s y j bs (λ a b. no_receive e a) ∙ sym (replay_none s x j bs (λ a b. no_receive e a))
        go (no c) = replay_same s x y j bs (M.other j c d)

    -- r replays the message's bytes, and replayed nothing
    matches_replay_here : (bs : List ℕ) → replay s y r bs ≡ delivered s m r (replay s x r bs)
    matches_replay_here bs =
        replay_matched s y r bs M.receives (matches_receive_state M)
        ∙ ap (λ (z : ℕ). delivered s z r bs) (matches_pair M).to_message
        ∙ ap (λ (z : List ℕ). delivered s m r z) (sym (replay_none s x r bs (λ a b. M.receive_free b)))

    -- a later delivery may come after that of r
    matches_swap : (j : ℕ) (bs : List ℕ) → r < j → inbox_total s ≤ length bs →
        replay s x j (delivered s m r bs) ≡ delivered s m r (replay s x j bs)
    matches_swap j bs l room = go (replays s x j)
      where
        mine : Pair s m r
        mine =
            record {
              message_inside = inside_m;
              receive_inside = inside_r;
              sends = M.sends;
              receives = M.receives;
            }

        go : Delivers s x j ⊎ (is_receive (op s j) ≡ true → state_at x j ≡ 3 → ⊥) →
            replay s x j (delivered s m r bs) ≡ delivered s m r (replay s x j bs)
        go (inr c) =
            replay_none s x j (delivered s m r bs) c
            ∙ ap (λ (z : List ℕ). delivered s m r z) (sym (replay_none s x j bs c))
        go (inl d) =
            replay_matched s x j (delivered s m r bs) d.0 d.1
            ∙ sym
            (A.delivered_swap m r (partner_at x j) j bs mine (replays_pair j d)
            (pending_apart r j l inside_r M.receives d.0 M.receive_free (omega (arith, d.1))) room)
            ∙ ap (λ (z : List ℕ). delivered s m r z) (sym (replay_matched s x j bs d.0 d.1))

    replayed_up_to : (n : ℕ) (bs : List ℕ) → n ≤ r → replayed s y n bs ≡ replayed s x n bs
    replayed_up_to n bs l = replayed_same s x y n bs (λ j cs k. matches_replay j cs (omega arith))

    pub replayed_matches : (n : ℕ) (bs : List ℕ) → r < n → inbox_total s ≤ length bs →
        replayed s y n bs ≡ delivered s m r (replayed s x n bs)
    unfolding replayed
    replayed_matches zero bs l room = absurd (omega arith)
    replayed_matches (suc n) bs l room = go (ℕ_discrete n r) (λ k. replayed_matches n bs k room)
      where
        go : Dec (n ≡ r) → (r < n → replayed s y n bs ≡ delivered s m r (replayed s x n bs)) →
            replay s y n (replayed s y n bs) ≡ delivered s m r (replay s x n (replayed s x n bs))
        go (yes e) before =
            ap (λ (z : List ℕ). replay s y n z) (replayed_up_to n bs (omega arith))
            ∙ subst (λ (z : ℕ). replay s y z (replayed s x n bs) ≡ delivered s m r (replay s x z (replayed s x n bs))) (sym e)
            (matches_replay_here (replayed s x n bs))
        go (no d) before =
            ap (λ (z : List ℕ). replay s y n z) (before (omega arith))
            ∙ matches_replay n (delivered s m r (replayed s x n bs)) d
            ∙ matches_swap n (replayed s x n bs) (omega arith) (omega (arith, replayed_length n bs room))
