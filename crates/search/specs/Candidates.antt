-- A candidate of a search, an operation of a waiting list, beside what the searching operation asks for.
--   Asks             the numbers that were read of an operation before its search
--   sides_fit        rules' fit of a message and a receive, over plain numbers
--   ..-order         its parts in the order in which the code tests them
--   read-..          a source or a tag that is asked for
--   and-..           a test that is made where the one before it holds
--   candidate_read   so a candidate fits what was read exactly where rules' fit says so
-- Assumes nothing.
use Rattle.std.specs.Prelude.{◌≡◌, Bool, ◌&&◌, List, ℕ, eqb}
use Rattle.std.proofs.Math.Path.{refl}
use Rattle.std.proofs.Common.{sym, ◌∙◌, ap, arith, eq-eqb}
use Rattle.std.proofs.Math.Bool.{true, false}
use Rattle.rules.specs.Limits.{any}
use Rattle.rules.specs.Sheet.{Sheet, op, rank_of, two}
use Rattle.waiting.specs.Envelopes.{is_asked, envelope_fits}
use Rattle.waiting.proofs.Envelopes.{any_is_asked, named_is_asked}
use Rattle.state.specs.declared.Queue.{Queue}
use Rattle.state.specs.declared.Queue.TheVariants.{Messages, Receives}
use Rattle.state.specs.Layout.{word_at}
use Rattle.state.specs.Queues.{base_of}
use Rattle.words.specs.Read.{Word}
use Rattle.search.specs.declared.candidates.Asked.{Asked}
use Rattle.search.specs.Search.{pair_fits, fits_read}

pub record Asks (s : Sheet) (i : ℕ) (a : Asked) : Type 0 where
  pub rank_is : a.rank ≡ rank_of s i
  pub peer_is : a.peer ≡ (op s i).peer
  pub communicator_is : a.communicator ≡ (op s i).comm
  pub tag_is : a.tag ≡ (op s i).tag

-- a message and a receive side by side: whom the message is addressed to and the receive's board; the message's sender,
-- communicator and tag; the source, communicator and tag that the receive asks for
pub record Sides : Type 0 where
  pub destination : ℕ
  pub board : ℕ
  pub sender : ℕ
  pub context : ℕ
  pub mark : ℕ
  pub source : ℕ
  pub communicator : ℕ
  pub tag : ℕ

unfoldable pub sides_fit : Sides → Bool
sides_fit x = eqb x.destination x.board && envelope_fits x.sender x.context x.mark x.source x.communicator x.tag

-- the parts of a fit in the order in which they are tested, of a message and of a posted receive
module _ (x : Sides) where
  abbrev board_fits : Bool
  board_fits = eqb x.destination x.board

  abbrev source_fits : Bool
  source_fits = is_asked x.source x.sender

  abbrev tag_fits : Bool
  tag_fits = is_asked x.tag x.mark

  abbrev communicator_fits : Bool
  communicator_fits = eqb x.context x.communicator

  pub message_order : (((source_fits && board_fits) && tag_fits) && communicator_fits) ≡ sides_fit x
  unfolding sides_fit envelope_fits
  message_order = go source_fits board_fits tag_fits communicator_fits
    where
      go : (s d t c : Bool) → (((s && d) && t) && c) ≡ (d && (c && (s && t)))
      go s d t c = grind arith

  pub receive_order : (((board_fits && tag_fits) && source_fits) && communicator_fits) ≡ sides_fit x
  unfolding sides_fit envelope_fits
  receive_order = go source_fits board_fits tag_fits communicator_fits
    where
      go : (s d t c : Bool) → (((d && t) && s) && c) ≡ (d && (c && (s && t)))
      go s d t c = grind arith

-- any source or tag is asked for, or one that is told by a number that was read
pub read_any : {v : Bool} {asked : ℕ} (told : ℕ) → asked ≡ any → v ≡ eqb asked any → v ≡ is_asked asked told
read_any {v} {asked} told e f = f ∙ eq-eqb asked any e ∙ any_is_asked asked told e

pub read_named : {v : Bool} {asked told n : ℕ} → (asked ≡ any → ⊥) → n ≡ told → v ≡ eqb asked n → v ≡ is_asked asked told
read_named {v} {asked} {told} {n} e f h = h ∙ ap (λ (k : ℕ). eqb asked k) f ∙ named_is_asked asked told e

-- a test that is made where the one before it holds, and one that is not made
pub and_then : {a b w : Bool} → a ≡ true → w ≡ b → w ≡ (a && b)
and_then e f = rw e f

pub and_stop : {a w : Bool} (b : Bool) → a ≡ false → w ≡ a → w ≡ (a && b)
and_stop b e f = rw e (f ∙ e)

-- message m beside a receive that asks for a
abbrev pub message_beside : Sheet → Asked → (m : ℕ) → Sides
message_beside s a m =
    record {
      destination = (op s m).peer;
      board = a.rank;
      sender = rank_of s m;
      context = (op s m).comm;
      mark = (op s m).tag;
      source = a.peer;
      communicator = a.communicator;
      tag = a.tag;
    }

-- posted receive q beside a send that asks for a
abbrev pub receive_beside : Sheet → Asked → (q : ℕ) → Sides
receive_beside s a q =
    record {
      destination = a.peer;
      board = rank_of s q;
      sender = a.rank;
      context = a.communicator;
      mark = a.tag;
      source = (op s q).peer;
      communicator = (op s q).comm;
      tag = (op s q).tag;
    }

unfoldable pub candidate_fits : Queue → Sheet → Asked → (j : ℕ) → Bool
candidate_fits Messages s a j = sides_fit (message_beside s a j)
candidate_fits Receives s a j = sides_fit (receive_beside s a j)

candidate_is : (list : Queue) (s : Sheet) (i : ℕ) (a : Asked) (j : ℕ) → Asks s i a → candidate_fits list s a j ≡ pair_fits list s i j
unfolding candidate_fits pair_fits sides_fit
candidate_is Messages s i a j h =
    fits_read s j i (op s j).peer a.rank (rank_of s j) (op s j).comm (op s j).tag a.peer a.communicator a.tag
    refl h.rank_is refl refl refl h.peer_is h.communicator_is h.tag_is
candidate_is Receives s i a j h =
    fits_read s i j a.peer (rank_of s j) a.rank a.communicator a.tag (op s j).peer (op s j).comm (op s j).tag
    h.peer_is refl h.rank_is h.communicator_is h.tag_is refl refl refl

-- the same of a candidate whose number n was read, and of which b was answered
pub candidate_read : (list : Queue) (s : Sheet) (i : ℕ) (a : Asked) (n j : ℕ) (b : Bool) → Asks s i a → n ≡ j → b ≡ candidate_fits list s a n → pair_fits list s i j ≡ b
candidate_read list s i a n j b h e f = sym (f ∙ ap (λ (k : ℕ). candidate_fits list s a k) e ∙ candidate_is list s i a j h)

-- and of the j-th of the list that stands at base
pub candidate_told : (list : Queue) (s : Sheet) (i : ℕ) (a : Asked) (c : List ℕ) (base n j : ℕ) (b : Bool) → Asks s i a → base ≡ base_of list →
    Word (two c (word_at base j)) n → b ≡ candidate_fits list s a n → pair_fits list s i (two c (word_at (base_of list) j)) ≡ b
candidate_told list s i a c base n j b h e w f =
    candidate_read list s i a n (two c (word_at (base_of list) j)) b h (w.is ∙ ap (λ (k : ℕ). two c (word_at k j)) e) f
