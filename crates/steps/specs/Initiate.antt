-- Initiating steps: what the invariant gives of the operation that a step begins, and rules' step by what the search found.
--   AbleBoard, Begins       a board that is able; one whose next operation has its initiating step before it
--   begins_unentered         that operation is not entered
--   begins_pairs             and the one that its search found is one of the sheet
--   initiating-..            rules' initiating step, by what was found
-- Assumes nothing.
use Rattle.std.specs.Prelude.{◌≡◌, refl, Bool, List, ℕ, ◌<◌, length, get_or}
use Rattle.std.proofs.Common.{sym, subst, arith}
use Rattle.std.proofs.Math.Bool.{true, false}
use Rattle.std.proofs.Math.Option.{Option, none, some}
use Rattle.rules.specs.Limits.{most_ops}
use Rattle.rules.specs.Sheet.{Sheet, op, N_of, is_receive}
use Rattle.rules.specs.Job.{Job}
use Rattle.rules.specs.Step.{able, next_op, in_waiting_half, first_by, first_message, first_receive, matched, pend_receive, initiated, unmatched, sent, received, initiating}
use Rattle.invariant.specs.sheet.Valid.{Valid}
use Rattle.invariant.specs.Invariant.{Reached, state_at}
use Rattle.invariant.specs.Facts.{able_parts, next_inside, next_new, message_once, receive_once, messages_room, receives_room, new_message, new_receive}
use Rattle.state.specs.declared.Queue.{Queue}
use Rattle.state.specs.declared.Queue.TheVariants.{Messages, Receives}
use Rattle.state.specs.Queues.{list_of}
use Rattle.search.specs.Search.{pair_fits}
use Rattle.search.specs.Held.{listed_op}
use Rattle.steps.specs.Pairing.{Unentered, Pairs, searched, matched_with, message_of, receive_of}

-- the job is one that an order leads to from some inboxes, and board r is able in it
pub record AbleBoard (r : ℕ) (s : Sheet) (x : Job) : Type 0 where
  pub lent : List ℕ
  pub reached : Reached s lent x
  pub is_able : able s x r ≡ true

-- and what comes next is the initiating step of operation i
pub record Begins (r i : ℕ) (s : Sheet) (x : Job) : Type 0 where
  pub board : AbleBoard r s x
  pub initiates : in_waiting_half s x r ≡ false
  pub is_next : i ≡ next_op s x r

-- what the invariant says of a waiting list beside that: an operation in it stands there once; one that is not entered stands in
-- none, and there is room for it
module _ {s : Sheet} {lent : List ℕ} {x : Job} (g : Valid s) (R : Reached s lent x) where
  listed_once : (list : Queue) (j k : ℕ) → j < k → k < length (list_of list x) → get_or (list_of list x) j 0 ≡ get_or (list_of list x) k 0 → ⊥
  unfolding list_of
  listed_once Messages j k h l e = message_once g R j k h l e
  listed_once Receives j k h l e = receive_once g R j k h l e

  list_room : (list : Queue) (i : ℕ) → i < N_of s → state_at x i ≡ 0 → length (list_of list x) < most_ops
  unfolding list_of
  list_room Messages i l e = omega (arith, messages_room g R i l e, g.ops_few)
  list_room Receives i l e = omega (arith, receives_room g R i l e, g.ops_few)

  new_listed : (list : Queue) (i : ℕ) → state_at x i ≡ 0 → Rattle.rules.specs.Step.without i (list_of list x) ≡ list_of list x
  unfolding list_of
  new_listed Messages i e = new_message g R i e
  new_listed Receives i e = new_receive g R i e

-- board r can finish an operation
pub able_can_finish : {r : ℕ} {s : Sheet} {x : Job} → Valid s → AbleBoard r s x → Rattle.state.specs.Changes.CanFinish r s x
able_can_finish {r} {s} {x} g b =
    let a = able_parts g b.reached r b.is_able in
    record {
      there = a.1;
      room = omega (arith, a.3, g.script_inside r a.1, g.ops_few);
    }

pub able_inside : {r : ℕ} {s : Sheet} {x : Job} → Valid s → AbleBoard r s x → next_op s x r < N_of s
able_inside {r} {s} {x} g b =
    let a = able_parts g b.reached r b.is_able in
    next_inside g b.reached r a.1 a.2

module _ {r i : ℕ} {s : Sheet} {x : Job} (g : Valid s) (b : Begins r i s x) where
  pub begins_unentered : Unentered r i s x
  begins_unentered =
      let R = b.board.reached in
      let here : i < N_of s = subst (λ (n : ℕ). n < N_of s) (sym b.is_next) (able_inside g b.board) in
      let new : state_at x i ≡ 0 =
      subst (λ (n : ℕ). state_at x n ≡ 0) (sym b.is_next) (next_new g R r b.board.is_able b.initiates) in
      record {
        inside = here;
        can_finish = able_can_finish g b.board;
        roomy = λ list. list_room g R list i here new;
        not_listed = λ list. new_listed g R list i new;
      }

  pub begins_pairs : (list : Queue) (k : ℕ) → k < length (list_of list x) → Pairs list r i k s x
  begins_pairs list k l =
      let R = b.board.reached in
      record {
        unentered = begins_unentered;
        member = listed_op g R list k l;
        first =
            record {
              inside = l;
              here = refl;
              before = λ j h e. listed_once g R list j k h l e;
            };
      }

-- INITIATING, by what the operation is and what was found in the list that it searches
module _ (s : Sheet) (r i : ℕ) (x : Job) where
  abbrev first_pair : Queue → Option ℕ
  first_pair list = first_by (λ j. pair_fits list s i j) (list_of list x)

  pub initiating_found : (b : Bool) (j : ℕ) → is_receive (op s i) ≡ b → first_pair (searched b) ≡ some j →
      initiated s r i (matched_with (searched b) s i j x) ≡ initiating s r i x
  unfolding initiating received sent first_message first_receive searched matched_with message_of receive_of pair_fits list_of
  initiating_found true j k e = rw (k, e)
  initiating_found false j k e = rw (k, e)

  pub initiating_posted : is_receive (op s i) ≡ true → first_pair (searched true) ≡ none → initiated s r i (pend_receive i x) ≡ initiating s r i x
  unfolding initiating received first_message searched pair_fits list_of
  initiating_posted k e = rw (k, e)

  pub initiating_left : is_receive (op s i) ≡ false → first_pair (searched false) ≡ none → unmatched s r i x ≡ initiating s r i x
  unfolding initiating sent first_receive searched pair_fits list_of
  initiating_left k e = rw (k, e)
