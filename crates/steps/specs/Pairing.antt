-- Operation i, whose initiating step is made, and an operation j that it found in a waiting list: which of them is the message,
-- what their match makes of a job, and what the parts of a step ask. A receive searches the pending messages, a send the posted
-- receives; the laws are over the list.
--   searched, message_of, receive_of, matched_with    by the list
--   Both, Unentered, Pairs                             what the parts ask of a job
--   matched_paired                                     a match, once both rows say so and the one found has left its list
-- Assumes nothing.
use Rattle.std.specs.Prelude.{◌≡◌, refl, Bool, true, false, List, length, get_or}
use Rattle.std.proofs.Common.{sym, ap}
use Rattle.std.proofs.Math.Path.{subst}
use Prim.Native.Nat.{ℕ, suc, ◌<◌}
use Rattle.rules.specs.Limits.{most_ops}
use Rattle.rules.specs.Sheet.{Sheet, N_of}
use Rattle.rules.specs.Job.{Job, Place, job, place_at, with_entries, with_messages, with_receives, with_memory}
use Rattle.rules.specs.Step.{without, release, matched_rows, matched, delivered, with_state}
use Rattle.state.specs.declared.Control.{Control}
use Rattle.state.specs.declared.Queue.{Queue}
use Rattle.state.specs.declared.Queue.TheVariants.{Messages, Receives}
use Rattle.state.specs.Queues.{list_of, with_list, pended}
use Rattle.state.specs.Lists.{FirstAt}
use Rattle.state.specs.Decodes.{Decodes}
use Rattle.state.proofs.Decodes.{memory_put}
use Rattle.state.specs.Changes.{CanFinish}
use Rattle.steps.specs.Parts.{released_finished, released_list}

unfoldable pub searched : (receives : Bool) → Queue
searched true = Messages
searched false = Receives

unfoldable pub message_of : Queue → (i j : ℕ) → ℕ
message_of Messages i j = j
message_of Receives i j = i

unfoldable pub receive_of : Queue → (i j : ℕ) → ℕ
receive_of Messages i j = i
receive_of Receives i j = j

unfoldable pub matched_with : Queue → Sheet → (i j : ℕ) → Job → Job
matched_with list s i j x = matched s (message_of list i j) (receive_of list i j) x

-- two operations of the sheet
pub record Both (m q : ℕ) (s : Sheet) (x : Job) : Type 0 where
  pub first : m < N_of s
  pub second : q < N_of s

both_of : (list : Queue) (i j : ℕ) (s : Sheet) (x : Job) → i < N_of s → j < N_of s → Both (message_of list i j) (receive_of list i j) s x
unfolding message_of receive_of
both_of Messages i j s x a b = record { first = b; second = a }
both_of Receives i j s x a b = record { first = a; second = b }

pub both_read : (list : Queue) (i j m q : ℕ) (s : Sheet) (x : Job) → m ≡ message_of list i j → q ≡ receive_of list i j →
    i < N_of s → j < N_of s → Both m q s x
both_read list i j m q s x e f a b =
    let o = both_of list i j s x a b in
    record {
      first = subst (λ (n : ℕ). n < N_of s) (sym e) o.first;
      second = subst (λ (n : ℕ). n < N_of s) (sym f) o.second;
    }

-- operation i of board r is not entered: it stands in no list, and a list has room for it
pub record Unentered (r i : ℕ) (s : Sheet) (x : Job) : Type 0 where
  pub inside : i < N_of s
  pub can_finish : CanFinish r s x
  pub roomy : (list : Queue) → length (list_of list x) < most_ops
  pub not_listed : (list : Queue) → without i (list_of list x) ≡ list_of list x

-- and the k-th of a list is an operation of the sheet that stands there once
pub record Pairs (list : Queue) (r i k : ℕ) (s : Sheet) (x : Job) : Type 0 where
  pub unentered : Unentered r i s x
  pub member : get_or (list_of list x) k 0 < N_of s
  pub first : FirstAt (list_of list x) k (get_or (list_of list x) k 0)

-- the first of an equal list
pub first_at_as : (xs ys : List ℕ) (k v : ℕ) → ys ≡ xs → v ≡ get_or xs k 0 → FirstAt xs k (get_or xs k 0) → FirstAt ys k v
first_at_as xs ys k v e f h =
    subst (λ (l : List ℕ). FirstAt l k v) (sym e) (subst (λ (n : ℕ). FirstAt xs k n) (sym f) h)

-- a pending operation leaves the places
pub pended_place : (list : Queue) (i v : ℕ) (x : Job) (r : ℕ) → place_at (pended list i v x) r ≡ place_at x r
unfolding pended with_list with_messages with_receives with_state with_entries job place_at
pended_place Messages i v x r = refl
pended_place Receives i v x r = refl

-- A MATCH of message m and receive q
module _ (s : Sheet) (m q : ℕ) (x : Job) where
  -- both rows say so
  abbrev rowed : Job
  rowed = matched_rows s m q (release s m x)

  pub rows_list : (list : Queue) → list_of list rowed ≡ list_of list x
  unfolding list_of matched_rows with_entries job
  rows_list Messages = released_list Messages s m x
  rows_list Receives = released_list Receives s m x

  pub matched_can_finish : (r : ℕ) → CanFinish r s x → CanFinish r s (matched s m q x)
  unfolding matched with_memory with_receives with_messages matched_rows with_entries job place_at
  matched_can_finish r h =
      record {
        there = h.there;
        room = subst (λ (n : ℕ). suc n < 65536) (sym (released_finished s m x r)) h.room;
      }

  -- both have left their lists
  abbrev unlisted : Job
  unlisted = with_receives (without q x.receives) (with_messages (without m x.messages) rowed)

  -- then the memory is not held, so the job with the delivery is held too
  delivered_too : (c : List ℕ) (t : Control) → Decodes s c t unlisted → Decodes s c t (matched s m q x)
  unfolding matched
  delivered_too c t h = memory_put s c t unlisted h (delivered s m q x.memory)

  -- the receive is not entered, and the message has left its list
  unlisted_message : without q x.receives ≡ x.receives → with_messages (without m rowed.messages) rowed ≡ unlisted
  unfolding with_messages with_receives job list_of
  unlisted_message e = let a = rows_list Messages in let b = rows_list Receives in cc

  -- the message is not entered, and the receive has left its list
  unlisted_receive : without m x.messages ≡ x.messages → with_receives (without q rowed.receives) rowed ≡ unlisted
  unfolding with_messages with_receives job list_of
  unlisted_receive e = let a = rows_list Messages in let b = rows_list Receives in cc

-- the one that was found has left its list, and the other was in none: the match, whole
matched_paired : (list : Queue) (s : Sheet) (i j : ℕ) (x : Job) (c : List ℕ) (t : Control) →
    ((l : Queue) → without i (list_of l x) ≡ list_of l x) →
    Decodes s c t (with_list list (without j (list_of list (rowed s (message_of list i j) (receive_of list i j) x))) (rowed s (message_of list i j) (receive_of list i j) x)) →
    Decodes s c t (matched_with list s i j x)
unfolding matched_with message_of receive_of with_list list_of
matched_paired Messages s i j x c t out h =
    delivered_too s j i x c t (subst (λ (y : Job). Decodes s c t y) (unlisted_message s j i x (out Receives)) h)
matched_paired Receives s i j x c t out h =
    delivered_too s i j x c t (subst (λ (y : Job). Decodes s c t y) (unlisted_receive s i j x (out Messages)) h)

-- with the message and the receive as the code has them
pub matched_read : (list : Queue) (s : Sheet) (i j m q : ℕ) (x : Job) (c : List ℕ) (t : Control) → m ≡ message_of list i j →
    q ≡ receive_of list i j → ((l : Queue) → without i (list_of l x) ≡ list_of l x) →
    Decodes s c t (with_list list (without j (list_of list (rowed s m q x))) (rowed s m q x)) →
    Decodes s c t (matched_with list s i j x)
matched_read list s i j m q x c t e f out h =
    let held : (a b : ℕ) → Type 0 = λ a b. Decodes s c t (with_list list (without j (list_of list (rowed s a b x))) (rowed s a b x)) in
    matched_paired list s i j x c t out
    (subst (λ (a : ℕ). held a (receive_of list i j)) e (subst (λ (b : ℕ). held m b) f h))

pub paired_can_finish : (list : Queue) (s : Sheet) (i j : ℕ) (x : Job) (r : ℕ) → CanFinish r s x → CanFinish r s (matched_with list s i j x)
unfolding matched_with
paired_can_finish list s i j x r h = matched_can_finish s (message_of list i j) (receive_of list i j) x r h

-- PENDING: what it leaves
pub pended_can_finish : (list : Queue) (s : Sheet) (r i v : ℕ) (x : Job) → CanFinish r s x → CanFinish r s (pended list i v x)
pended_can_finish list s r i v x h =
    record {
      there = h.there;
      room = subst (λ (n : ℕ). suc n < 65536) (sym (stays list)) h.room;
    }
  where
    stays : (list : Queue) → (place_at (pended list i v x) r).finished ≡ (place_at x r).finished
    stays list = ap (λ (q : Place). q.finished) (pended_place list i v x r)
