-- A whole step: which part of it comes next, that it is counted, and that the job is still represented after it.
-- Assumes nothing.
use Rattle.std.specs.Prelude.{◌≡◌, Bool, true, false, ◌||◌, cond, List}
use Rattle.std.proofs.Math.Path.{sym, ap, subst}
use Rattle.std.proofs.Common.{◌∙◌, arith}
use Prim.Native.Nat.{ℕ, suc, ◌+◌, ◌<◌}
use Rattle.rules.specs.Sheet.{Sheet, sheet_in, op, only_half}
use Rattle.rules.specs.Job.{Job, place_at, with_steps}
use Rattle.rules.specs.Step.{able, next_op, in_waiting_half, ended, initiating, step}
use Rattle.invariant.specs.deliveries.Commute.{delivery_laws}
use Rattle.invariant.specs.preserve.Step.{step_sound}
use Rattle.invariant.specs.Bounds.{steps_few}
use Rattle.state.specs.declared.Control.{Control}
use Rattle.state.specs.Controls.{stepped}
use Rattle.state.specs.Decodes.{Decodes}
use Rattle.state.proofs.Decodes.{steps_put}
use Rattle.simulation.specs.Represents.{Represents}
use Rattle.steps.specs.Initiate.{AbleBoard, Begins}

-- a step but for its count
unfoldable pub moved : Sheet → (r : ℕ) → Job → Job
moved s r x = cond (in_waiting_half s x r) (ended s r (next_op s x r) x) (initiating s r (next_op s x r) x)

-- WHAT COMES NEXT, from what was read of board r and of its next operation i
module _ (s : Sheet) (r i : ℕ) (x : Job) (w h : Bool) (ei : i ≡ next_op s x r) (ew : w ≡ (place_at x r).waiting) (eh : h ≡ only_half (op s i)) where
  half : (w || h) ≡ in_waiting_half s x r
  unfolding in_waiting_half
  half =
      let o : only_half (op s i) ≡ only_half (op s (next_op s x r)) = ap (λ (k : ℕ). only_half (op s k)) ei in
      cc

  pub moved_half : (w || h) ≡ true → ended s r i x ≡ moved s r x
  unfolding moved
  moved_half t = let e = sym half ∙ t in ap (λ (n : ℕ). ended s r n x) ei ∙ rw e

  pub moved_begins : AbleBoard r s x → (w || h) ≡ false → Begins r i s x
  moved_begins b t =
      record {
        board = b;
        initiates = sym half ∙ t;
        is_next = ei;
      }

  pub moved_initiating : (w || h) ≡ false → initiating s r i x ≡ moved s r x
  unfolding moved
  moved_initiating t = let e = sym half ∙ t in ap (λ (n : ℕ). initiating s r n x) ei ∙ rw e

-- THE STEP, of a job that is represented and in which board r is able
module _ (bs lent c : List ℕ) (t : Control) (x : Job) (d : Represents bs lent c t x) (r : ℕ) (a : able (sheet_in bs) x r ≡ true) where
  abbrev s : Sheet
  s = sheet_in bs

  pub able_board : AbleBoard r s x
  able_board =
      record {
        lent = lent;
        reached = d.reached;
        is_able = a;
      }

  -- steps are few, so that one more can be counted
  pub steps_room : t.steps + 1 < 65536
  steps_room = omega (arith, d.decodes.steps_are, steps_few d.good d.reached)

  -- the job is still represented after a counted step
  pub stepped_represents : (b : List ℕ) (u v : Control) → Decodes s b u (moved s r x) → v ≡ stepped (t.steps + 1) u → Represents bs lent b v (step s r x)
  unfolding step moved
  stepped_represents b u v h e =
      let count : t.steps + 1 ≡ suc x.steps = omega (arith, d.decodes.steps_are) in
      record {
        laid = d.laid;
        good = d.good;
        room = d.room;
        reached = (step_sound d.good (delivery_laws s d.good) d.room d.reached r a).reached;
        decodes =
            subst (λ (z : Control). Decodes s b z (step s r x)) (sym e)
            (subst (λ (k : ℕ). Decodes s b (stepped (t.steps + 1) u) (with_steps k (moved s r x))) count
            (steps_put s b u (moved s r x) h (t.steps + 1)));
      }
