-- Where the boards stand after a step. The board that steps finishes its operation or goes into its waiting half; the others
-- stand where they stood; bytes in use may change, and the peak is the most of them.
--   Next            what is known of an able board and its next operation
--   after           a place after a step
--   Moved           the places of a job after a step; its laws
-- Assumes nothing.
use Rattle.std.specs.Prelude.{◌≡◌, ◌⊎◌, ◌≢◌, Bool, ◌&&◌, ◌||◌, List, ltb, leb, eqb, length, get_or, set}
use Rattle.std.proofs.Math.Path.{refl, ap}
use Rattle.std.proofs.Common.{sym, subst, ◌∙◌, inl, inr, arith, get_or-set_same, get_or-set_other, ltb-true, leb-false, eq-eqb, ne_eqb}
use Rattle.std.proofs.Math.Bool.{true, false, not, cond}
use Rattle.std.proofs.Math.Option.{Option, none, some}
use Prim.Native.Nat.{ℕ, suc, ◌+◌, ◌<◌, max}
use Rattle.std.proofs.Math.Decide.{ℕ_discrete}
use Rattle.std.proofs.lemmas.Bool.{not-true}
use Rattle.rules.specs.Sheet.{Sheet, board, P_of, N_of, rank_of}
use Rattle.rules.specs.Job.{Job, Figures, Place, Store, in_attached, in_room, place, account, in_use_at, peak_at, place_at}
use Rattle.rules.specs.Step.{able, next_op, is_finished, in_waiting_half, half_ends, is_none, one_finished, now_waiting}
use Rattle.laws.specs.Tests.{and_left, and_right, or_cases, true_not_false}
use Rattle.invariant.specs.sheet.Valid.{Valid}
use Rattle.invariant.specs.Invariant.{state_at, Placed, reach}

-- NEXT: what able says
pub none_is : {A : Type 0} (o : Option A) → is_none o ≡ true → o ≡ none
unfolding is_none
none_is none e = refl
none_is (some a) e = true_not_false e refl

-- board r is able in x: what that says of it and of its next operation
pub record Next (s : Sheet) (x : Job) (r : ℕ) : Type 0 where
  pub going : x.stop ≡ none
  pub rank_small : r < P_of s
  pub unfinished : (place_at x r).finished < (board s r).count
  pub inside : next_op s x r < N_of s
  pub ranked : rank_of s (next_op s x r) ≡ r
  pub ends : in_waiting_half s x r ≡ true → half_ends s x (next_op s x r) ≡ true

pub able_next : (s : Sheet) → Valid s → (x : Job) (r : ℕ) → able s x r ≡ true → Next s x r
unfolding able is_finished next_op
able_next s g x r a =
    record {
      going = none_is x.stop (and_left going small_unfinished first_part);
      rank_small = small;
      unfinished = left;
      inside = omega (arith, left, g.script_inside r small);
      ranked = g.script_ranked r ((board s r).first + (place_at x r).finished) small (omega arith) (omega (arith, left));
      ends =
          λ w. half w (or_cases (not (in_waiting_half s x r))
          (half_ends s x ((board s r).first + (place_at x r).finished)) (and_right (going && small_unfinished) last_part a));
    }
  where
    going : Bool
    going = is_none x.stop

    small_unfinished : Bool
    small_unfinished = ltb r (P_of s) && not (leb (board s r).count (place_at x r).finished)

    last_part : Bool
    last_part = not (in_waiting_half s x r) || half_ends s x ((board s r).first + (place_at x r).finished)

    first_part : going && small_unfinished ≡ true
    first_part = and_left (going && small_unfinished) last_part a

    small : r < P_of s
    small =
        ltb-true r (P_of s) (and_left (ltb r (P_of s)) (not (leb (board s r).count (place_at x r).finished))
        (and_right going small_unfinished first_part))

    left : (place_at x r).finished < (board s r).count
    left =
        leb-false (board s r).count (place_at x r).finished
        (not-true (leb (board s r).count (place_at x r).finished)
        (and_right (ltb r (P_of s)) (not (leb (board s r).count (place_at x r).finished))
        (and_right going small_unfinished first_part)))

    half : in_waiting_half s x r ≡ true → (not (in_waiting_half s x r) ≡ true) ⊎ (half_ends s x
        ((board s r).first + (place_at x r).finished) ≡ true) →
        half_ends s x ((board s r).first + (place_at x r).finished) ≡ true
    half w (inl e) = true_not_false w (not-true (in_waiting_half s x r) e)
    half w (inr e) = e

-- an operation whose board has not reached it is not entered
pub next_fresh : (s : Sheet) (x : Job) (r : ℕ) → Placed s x → Next s x r → (place_at x r).waiting ≡ false →
    state_at x (next_op s x r) ≡ 0
unfolding reach
next_fresh s x r p n w = go (ℕ_discrete (state_at x (next_op s x r)) 0)
  where
    not_waiting : reach s x (rank_of s (next_op s x r)) ≡ next_op s x r
    not_waiting =
        ap (λ (z : ℕ). reach s x z) n.ranked
        ∙ subst (λ (b : Bool). next_op s x r + cond b 1 0 ≡ next_op s x r) (sym w) (omega arith)

    go : Dec (state_at x (next_op s x r) ≡ 0) → state_at x (next_op s x r) ≡ 0
    go (yes e) = e
    go (no d) = absurd (omega (arith, (p.entered_only (next_op s x r) (omega arith)).1, not_waiting))

-- MOVED
-- a change at one index of a list
pub getD_update : {A : Type 0} (l : List A) (r q : ℕ) (f : A → A) (d : A) → r < length l →
    get_or (set l r (f (get_or l r d))) q d ≡ cond (eqb q r) (f (get_or l q d)) (get_or l q d)
getD_update {A} l r q f d h = go (ℕ_discrete q r)
  where
    go : Dec (q ≡ r) → get_or (set l r (f (get_or l r d))) q d ≡ cond (eqb q r) (f (get_or l q d)) (get_or l q d)
    go (yes e) =
        subst (λ (b : Bool). get_or (set l r (f (get_or l r d))) q d ≡ cond b (f (get_or l q d)) (get_or l q d)) (sym (eq-eqb q r e))
        (subst (λ (z : ℕ). get_or (set l r (f (get_or l r d))) z d ≡ f (get_or l z d)) (sym e) (get_or-set_same l r (f (get_or l r d)) d h))
    go (no c) =
        subst (λ (b : Bool). get_or (set l r (f (get_or l r d))) q d ≡ cond b (f (get_or l q d)) (get_or l q d)) (sym (ne_eqb q r c))
        (get_or-set_other l r q (f (get_or l r d)) d c)

-- the place of the board that stepped (`here`), where its operation is finished (`last`) or goes into its waiting half
unfoldable pub after : (here last : Bool) → Place → Place
after here last p = cond here (cond last (one_finished p) (now_waiting p)) p

after_account : (w : Store) (h l : Bool) (p : Place) → account w (after h l p) ≡ account w p
unfolding after one_finished now_waiting place account
after_account in_attached true true p = refl
after_account in_attached true false p = refl
after_account in_room true true p = refl
after_account in_room true false p = refl
after_account w false l p = refl

-- the places in y are those in x after a step of board r, which finished its operation or not (`last`)
pub record Moved (x y : Job) (r : ℕ) (last : Bool) : Type 0 where
  -- the places after the charge or release of this step
  pub used : ℕ → Place
  pub place_is : (q : ℕ) → place_at y q ≡ after (eqb q r) last (used q)
  pub used_finished : (q : ℕ) → (used q).finished ≡ (place_at x q).finished
  pub used_waiting : (q : ℕ) → (used q).waiting ≡ (place_at x q).waiting
  pub used_peak : (w : Store) (q : ℕ) → (account w (used q)).peak ≡ max (peak_at w x q) (account w (used q)).in_use
  pub places_long : length y.places ≡ length x.places
  pub entries_long : length y.entries ≡ length x.entries
  pub stop_same : y.stop ≡ x.stop
  pub steps_more : y.steps ≡ suc x.steps

module _ {x y : Job} {r : ℕ} {last : Bool} (M : Moved x y r last) where
  -- the place of the board that stepped, and of another
  moved_here : place_at y r ≡ cond last (one_finished (M.used r)) (now_waiting (M.used r))
  unfolding after
  moved_here = M.place_is r ∙ ap (λ (b : Bool). after b last (M.used r)) (eq-eqb r r refl)

  moved_other : (q : ℕ) → q ≢ r → place_at y q ≡ M.used q
  unfolding after
  moved_other q d = M.place_is q ∙ ap (λ (b : Bool). after b last (M.used q)) (ne_eqb q r d)

  pub moved_finished : (place_at y r).finished ≡ cond last (suc (place_at x r).finished) (place_at x r).finished
  unfolding one_finished now_waiting place
  moved_finished = ap (λ (p : Place). p.finished) moved_here ∙ go last
    where
      go : (b : Bool) → (cond b (one_finished (M.used r)) (now_waiting (M.used r))).finished ≡ cond b
          (suc (place_at x r).finished) (place_at x r).finished
      go true = ap suc (M.used_finished r)
      go false = M.used_finished r

  pub moved_waiting : (place_at y r).waiting ≡ not last
  unfolding one_finished now_waiting place
  moved_waiting = ap (λ (p : Place). p.waiting) moved_here ∙ go last
    where
      go : (b : Bool) → (cond b (one_finished (M.used r)) (now_waiting (M.used r))).waiting ≡ not b
      go true = refl
      go false = refl

  pub moved_finished_other : (q : ℕ) → q ≢ r → (place_at y q).finished ≡ (place_at x q).finished
  moved_finished_other q d = ap (λ (p : Place). p.finished) (moved_other q d) ∙ M.used_finished q

  pub moved_waiting_other : (q : ℕ) → q ≢ r → (place_at y q).waiting ≡ (place_at x q).waiting
  moved_waiting_other q d = ap (λ (p : Place). p.waiting) (moved_other q d) ∙ M.used_waiting q

  moved_account : (w : Store) (q : ℕ) → account w (place_at y q) ≡ account w (M.used q)
  moved_account w q = ap (λ (p : Place). account w p) (M.place_is q) ∙ after_account w (eqb q r) last (M.used q)

  pub moved_in_use : (w : Store) (q : ℕ) → in_use_at w y q ≡ (account w (M.used q)).in_use
  moved_in_use w q = ap (λ (a : Figures). a.in_use) (moved_account w q)

  -- the peak is the most in use after any step
  pub moved_peak : (w : Store) (q : ℕ) → peak_at w y q ≡ max (peak_at w x q) (in_use_at w y q)
  moved_peak w q =
      ap (λ (a : Figures). a.peak) (moved_account w q)
      ∙ M.used_peak w q ∙ ap (λ (n : ℕ). max (peak_at w x q) n) (sym (moved_in_use w q))
