-- An operation that nothing fits becomes pending, and its board goes on: the two parts in turn, once for both waiting lists; a send
-- that is kept in a store, once for both stores; and a job that stops. Assumes nothing.
use Rattle.std.specs.Prelude.{◌≡◌, Bool, true, false, List, ℕ, ◌+◌, ◌<◌, leb, length}
use Rattle.std.proofs.Common.{sym, ◌∙◌, ap₂, subst, arith}
use Rattle.rules.specs.Limits.{most_ops}
use Rattle.rules.specs.Sheet.{Sheet, sheet_in, op, board, N_of}
use Rattle.rules.specs.Job.{Job, Place, Store, account, place_at}
use Rattle.rules.specs.Step.{without, size_of, charge_of, charge, with_place, pend_message, stopped, initiated, fits_beside, kept}
use Rattle.state.specs.declared.Control.{Control}
use Rattle.state.specs.declared.Queue.{Queue}
use Rattle.state.specs.declared.StopVerdict.{StopVerdict}
use Rattle.state.specs.Numbers.{verdict_number}
use Rattle.state.specs.Controls.{halted}
use Rattle.state.specs.Queues.{count_of, list_of, pended}
use Rattle.state.specs.Decodes.{Decodes}
use Rattle.state.proofs.Decodes.{decodes_as, list_length, stop_put}
use Rattle.state.specs.Changes.{Becomes, CanFinish, charged_in, Charges}
use Rattle.simulation.specs.Simulates.{Holds, Simulates, held_after, in_turn, simulates_as}
use Rattle.steps.specs.Parts.{place_put_list}
use Rattle.steps.specs.Pairing.{Unentered, pended_can_finish}
use Rattle.steps.specs.Unmatched.{kept_charged, charged_can_finish}

-- what entering a list asks
pub record Enters (list : Queue) (c : List ℕ) (t : Control) (i : ℕ) : Type 0 where
  pub few : i < most_ops
  pub room : count_of list t < most_ops

pub enters : {bs c : List ℕ} {t : Control} {r i : ℕ} (list : Queue) → Holds bs c t (Unentered r i) → Enters list c t i
enters {bs} {c} {t} {r} {i} list h =
    record {
      few = omega (arith, h.fine.inside, h.decodes.few_ops);
      room = omega (arith, h.fine.roomy list, list_length (sheet_in bs) c t h.job h.decodes list);
    }

module _ {bs c b : List ℕ} {t u : Control} (list : Queue) (r i v : ℕ) (m : Becomes c t b u (λ s x. i < N_of s) (λ s x. pended list i v x)) where
  pended_simulates : Simulates bs c t b u (Unentered r i) (λ s x. pended list i v x)
  pended_simulates = record { after = λ x d o. m (sheet_in bs) x d o.inside }

  pub pended_holds : Holds bs c t (Unentered r i) → Holds bs b u (CanFinish r)
  pended_holds h = held_after h pended_simulates (λ x o. pended_can_finish list (sheet_in bs) r i v x o.can_finish)

  pub pended_initiated : {d : List ℕ} → Simulates bs b u d u (CanFinish r) (λ s x. initiated s r i x) →
      Simulates bs c t d u (Unentered r i) (λ s x. initiated s r i (pended list i v x))
  pended_initiated n = in_turn pended_simulates (λ x o. pended_can_finish list (sheet_in bs) r i v x o.can_finish) n

-- KEPT IN A STORE: a send is charged where it fits beside what is in use of its board's store, which `ok` says
pub record Keeps (w : Store) (bs c : List ℕ) (t : Control) (b : List ℕ) (r i : ℕ) (ok : Bool) : Type 0 where
  pub says : (x : Job) → Decodes (sheet_in bs) c t x → Unentered r i (sheet_in bs) x → ok ≡ fits_beside w (sheet_in bs) r i x
  pub taken : ok ≡ true → Simulates bs c t b t (Unentered r i) (λ s x. charge w s r i x)
  pub refused : ok ≡ false → b ≡ c

-- a charge of what the sheet says, to a store of the size that it says
pub keeps_by : {w : Store} {bs c b : List ℕ} {t : Control} {r i size n : ℕ} {ok : Bool} → Charges w c b r size n ok →
    n ≡ charge_of w (op (sheet_in bs) i) → size ≡ size_of w (board (sheet_in bs) r) → Keeps w bs c t b r i ok
unfolding fits_beside charge
keeps_by {w} {bs} {c} {b} {t} {r} {i} q en es =
    let s = sheet_in bs in
    record {
      says =
          λ x d o. q.says s t x d o.can_finish.there
          ∙ ap₂ (λ (k : ℕ) (m : ℕ). leb ((account w (place_at x r)).in_use + k) m) en es;
      taken =
          λ e. record {
            after =
                λ x d o. subst (λ (k : ℕ). Decodes s b t (with_place r (charged_in w k (place_at x r)) x)) en
                (q.taken e t s x d o.can_finish.there);
          };
      refused = q.refused;
    }

-- an operation that is not entered is not entered by a charge
charged_unentered : (w : Store) (s : Sheet) (r i : ℕ) (x : Job) → Unentered r i s x → Unentered r i s (charge w s r i x)
unfolding charge
charged_unentered w s r i x h =
    let p : Place = charged_in w (charge_of w (op s i)) (place_at x r) in
    let same : (list : Queue) → list_of list (with_place r p x) ≡ list_of list x = λ list. place_put_list list x r p in
    record {
      inside = h.inside;
      can_finish = charged_can_finish w s r i x h.can_finish;
      roomy = λ list. subst (λ (l : List ℕ). length l < most_ops) (sym (same list)) (h.roomy list);
      not_listed = λ list. subst (λ (l : List ℕ). without i l ≡ l) (sym (same list)) (h.not_listed list);
    }

module _ {w : Store} {bs c b : List ℕ} {t : Control} {r i : ℕ} {ok : Bool} (k : Keeps w bs c t b r i ok) where
  -- what is held behind the charge, or behind one that was refused
  pub kept_holds : ok ≡ true → Holds bs c t (Unentered r i) → Holds bs b t (Unentered r i)
  kept_holds e h = held_after h (k.taken e) (λ x o. charged_unentered w (sheet_in bs) r i x o)

  pub refused_holds : ok ≡ false → Holds bs c t (Unentered r i) → Holds bs b t (Unentered r i)
  refused_holds e h = subst (λ (l : List ℕ). Holds bs l t (Unentered r i)) (sym (k.refused e)) h

  -- once charged it becomes pending and complete: it is kept
  pub kept_pends : {d : List ℕ} {u : Control} → ok ≡ true →
      Simulates bs b t d u (Unentered r i) (λ s x. initiated s r i (pend_message i 2 x)) →
      Simulates bs c t d u (Unentered r i) (λ s x. kept w s r i x)
  kept_pends e n =
      simulates_as (λ x o. kept_charged (sheet_in bs) r i x w)
      (in_turn (k.taken e) (λ x o. charged_unentered w (sheet_in bs) r i x o) n)

-- A STOP with a verdict changes the control block alone
pub stop_simulates : {bs c b : List ℕ} {t u : Control} {ok : Sheet → Job → Type 0} (v : StopVerdict) (r i : ℕ) → b ≡ c →
    u ≡ halted v r i t → Simulates bs c t b u ok (λ s x. stopped (verdict_number v) r i x)
stop_simulates {bs} {c} {b} {t} {u} v r i e f =
    record {
      after =
          λ x d o. decodes_as (sheet_in bs) b c u (halted v r i t) (stopped (verdict_number v) r i x) e f (stop_put (sheet_in bs) c t x d v r i);
    }
