-- The start has the invariant, and every order keeps it: a job that follow leaves is reached.
--   start_reached     nothing entered, nothing in use, the lent inboxes
--   left_reached      along an order, up to where it is refused
-- Assumes nothing.
use Rattle.std.proofs.Math.Path.{◌≡◌, sym, ap}
use Rattle.std.specs.Prelude.{refl, Bool, true, false, List, [], ◌∷◌, ℕ, zero, suc, ◌+◌, ◌*◌, ◌≤◌, ◌<◌, ltb, length, get_or, replicate}
use Rattle.std.proofs.Common.{◌∙◌, arith, le-ltb}
use Rattle.std.proofs.Math.Bool.{cond}
use Rattle.std.proofs.Math.Option.{some}
use Rattle.std.proofs.Math.ListN.{length-replicate}
use Rattle.rules.specs.Sheet.{Sheet, op, board, P_of, N_of, rank_of, inbox_total}
use Rattle.rules.specs.Job.{Job, Entry, Figures, Place, Store, in_attached, in_room, job, started, entry, bare_entry, figures, place, first_place}
use Rattle.rules.specs.Job.{account, in_use_at, peak_at, entry_at, place_at}
use Rattle.rules.specs.Step.{able, step, next_op, is_none}
use Rattle.rules.specs.Order.{followed, follow_from, follow}
use Rattle.rules.specs.Claims.{left_by}
use Rattle.laws.specs.Tests.{true_not_false}
use Rattle.invariant.specs.sheet.Valid.{Valid}
use Rattle.invariant.specs.deliveries.Laws.{DeliveryLaws}
use Rattle.laws.specs.Sums.{sum_zero}
use Rattle.invariant.specs.Invariant.{Entered, state_at, partner_at, reach, steps_done, steps_of, charge_in, row_of, Reached}
use Rattle.invariant.specs.preserve.Charges.{charge_none}
use Rattle.invariant.specs.preserve.Rows.{row_bare}
use Rattle.invariant.specs.preserve.Memory.{replayed_none}
use Rattle.invariant.specs.step.Position.{position}
use Rattle.invariant.specs.preserve.Step.{step_sound}

-- a list of one value, read anywhere
getD_replicate_same : {A : Type 0} (n j : ℕ) (a : A) → get_or (replicate n a) j a ≡ a
getD_replicate_same zero j a = refl
getD_replicate_same (suc n) zero a = refl
getD_replicate_same (suc n) (suc j) a = getD_replicate_same n j a

module _ {s : Sheet} (g : Valid s) (lent : List ℕ) where
  abbrev pub x₀ : Job
  x₀ = started s lent

  pub start_entry : (j : ℕ) → entry_at x₀ j ≡ bare_entry 0
  unfolding entry_at started job
  start_entry j = getD_replicate_same (N_of s) j (bare_entry 0)

  start_state : (j : ℕ) → state_at x₀ j ≡ 0
  unfolding bare_entry entry
  start_state j = ap (λ (e : Entry). e.state) (start_entry j)

  start_place : (r : ℕ) → place_at x₀ r ≡ first_place
  unfolding place_at started job
  start_place r = getD_replicate_same (P_of s) r first_place

  pub start_finished : (r : ℕ) → (place_at x₀ r).finished ≡ 0
  unfolding first_place place
  start_finished r = ap (λ (p : Place). p.finished) (start_place r)

  pub start_waiting : (r : ℕ) → (place_at x₀ r).waiting ≡ false
  unfolding first_place place
  start_waiting r = ap (λ (p : Place). p.waiting) (start_place r)

  start_account : (w : Store) (r : ℕ) → account w (place_at x₀ r) ≡ figures 0 0
  unfolding first_place place account
  start_account in_attached r = ap (λ (p : Place). p.attached) (start_place r)
  start_account in_room r = ap (λ (p : Place). p.room) (start_place r)

  start_in_use : (w : Store) (r : ℕ) → in_use_at w x₀ r ≡ 0
  unfolding figures
  start_in_use w r = ap (λ (a : Figures). a.in_use) (start_account w r)

  pub start_peak : (w : Store) (r : ℕ) → peak_at w x₀ r ≡ 0
  unfolding figures
  start_peak w r = ap (λ (a : Figures). a.peak) (start_account w r)

  start_next : (r : ℕ) → next_op s x₀ r ≡ (board s r).first
  unfolding next_op
  start_next r = omega (arith, start_finished r)

  start_reach : (r : ℕ) → reach s x₀ r ≡ (board s r).first
  unfolding reach
  start_reach r = ap (λ (b : Bool). next_op s x₀ r + cond b 1 0) (start_waiting r) ∙ omega (arith, start_next r)

  pub none_entered : {A : Type 0} (j : ℕ) → Entered x₀ j → A
  none_entered j h = absurd (omega (arith, start_state j))

  start_steps : (j : ℕ) → j < N_of s → steps_done s x₀ j ≡ 0
  unfolding steps_done
  start_steps j l =
      ap (λ (b : Bool). cond b (steps_of (op s j)) (cond (ltb j (reach s x₀ (rank_of s j))) 1 0))
      (le-ltb j (next_op s x₀ (rank_of s j)) (omega (arith, start_next (rank_of s j), g.rank_low j l)))
      ∙ ap (λ (b : Bool). cond b 1 0) (le-ltb j (reach s x₀ (rank_of s j))
      (omega (arith, start_reach (rank_of s j), g.rank_low j l)))

  -- the start has the invariant
  pub start_reached : Reached s lent x₀
  unfolding started job is_none
  start_reached =
      record {
        arrival = λ j. 0;
        stable =
            record {
              message_pair = λ m p h. none_entered m (omega arith);
              receive_pair = λ r p h. none_entered r (omega arith);
              none_fit = λ m r p q f. none_entered m p.entered;
              first_sent = λ m r k h p there l f. none_entered k there;
              first_posted = λ m r q h p l f. none_entered m (omega (arith, h.message_matched));
            };
        arrived =
            record {
              past = λ m h. none_entered m h;
              apart = λ k m a b h. none_entered k h;
              in_script = λ k m a b h. none_entered k h;
            };
        placed =
            record {
              entries_long = length-replicate (N_of s) (bare_entry 0);
              places_long = length-replicate (P_of s) first_place;
              finished_most = λ r l. omega (arith, start_finished r);
              waiting_unfinished = λ r l w. true_not_false w (start_waiting r);
              waiting_not_no_half = λ r l w. true_not_false w (start_waiting r);
              waiting_not_only_half = λ r l w. true_not_false w (start_waiting r);
              entered_if = λ j l h. absurd (omega (arith, start_reach (rank_of s j), g.rank_low j l));
              entered_only = λ j h. none_entered j h;
              passed_complete = λ j l h. absurd (omega (arith, start_next (rank_of s j), g.rank_low j l));
            };
        shaped =
            record {
              row =
                  λ j t.
                  start_entry j ∙ sym (row_bare s j 0 (partner_at x₀ j) (omega arith))
                  ∙ ap (λ (v : ℕ). row_of s j v (partner_at x₀ j)) (sym (start_state j));
              row_new = λ j e. start_entry j;
              unmatched = λ j h. none_entered j h;
              only_half_unmatched = λ j w c. omega (arith, start_state j);
            };
        told =
            record {
              probes = λ p t h. none_entered p h;
              queries = λ p t h. none_entered p h;
            };
        messages_held =
            record {
              sound = λ v h. absurd h;
              whole = λ v p. none_entered v p.entered;
              sorted = tt;
            };
        receives_held =
            record {
              sound = λ v h. absurd h;
              whole = λ v p. none_entered v p.entered;
              sorted = tt;
            };
        in_use_sum =
            λ w r l. start_in_use w r ∙ sym
            (sum_zero (N_of s) (charge_in w s x₀ r) (λ j k. charge_none w s x₀ r j (λ c. omega (arith, start_state j))));
        in_use_peak = λ w r. omega (arith, start_in_use w r);
        peak_size = λ w r l. omega (arith, start_peak w r);
        memory_replayed = sym (replayed_none s x₀ (N_of s) lent (λ j c. omega (arith, start_state j)));
        memory_long = refl;
        steps_sum = omega (arith, sum_zero (N_of s) (steps_done s x₀) start_steps);
        stop_at = λ t e. absurd (let z : ◌≡◌ {A = ℕ} 0 1 = cc in omega arith);
      }

pub start_position : {s : Sheet} → Valid s → (lent : List ℕ) (r : ℕ) → position (started s lent) r ≡ 0
unfolding position
start_position {s} g lent r =
    ap (λ (b : Bool). 2 * (place_at (started s lent) r).finished + cond b 1 0) (start_waiting g lent r)
    ∙ omega (arith, start_finished g lent r)

-- ALONG AN ORDER
-- what every able step keeps, an order keeps
pub follow_from_keeps : (s : Sheet) (P : Job → Type 0) → ((x : Job) (r : ℕ) → P x → able s x r ≡ true → P (step s r x)) →
    (k : ℕ) (rs : List ℕ) (x : Job) → P x → P (follow_from k s rs x).left
unfolding follow_from followed
follow_from_keeps s P keeps k [] x h = h
follow_from_keeps s P keeps k (r ∷ rs) x h =
    go (able s x r) refl
    (λ a. follow_from_keeps s P keeps (suc k) rs (step s r x) (keeps x r h a))
  where
    go : (b : Bool) → able s x r ≡ b → (able s x r ≡ true → P (follow_from (suc k) s rs (step s r x)).left) →
        P (cond b (follow_from (suc k) s rs (step s r x)) (followed (some k) x)).left
    go true e rest = rest e
    go false e rest = h

-- what every able step keeps, an order keeps
pub left_keeps : (s : Sheet) (P : Job → Type 0) → ((x : Job) (r : ℕ) → P x → able s x r ≡ true → P (step s r x)) →
    (rs lent : List ℕ) → P (started s lent) → P (left_by s rs lent)
unfolding left_by follow
left_keeps s P keeps rs lent h = follow_from_keeps s P keeps 0 rs (started s lent) h

-- an order keeps the invariant, up to where it is refused
pub left_reached : {s : Sheet} → Valid s → DeliveryLaws s → {lent : List ℕ} → inbox_total s ≤ length lent → (rs : List ℕ) →
    Reached s lent (left_by s rs lent)
left_reached {s} g A {lent} room rs =
    left_keeps s (Reached s lent) (λ x r R a. (step_sound g A room R r a).reached) rs lent (start_reached g lent)
