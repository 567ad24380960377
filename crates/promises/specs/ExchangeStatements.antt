-- What is promised of two neighbouring steps that trade places in an order, on sheets whose receives may be from any source
-- (document 02, K14), of orders and of calls of follow; and of all orders that such exchanges lead to. Assumes nothing: these are
-- statements.
--
-- What it means for firmware with any-source receives:
-- Two neighbouring steps of different boards, both able and neither stopping the job in either order, may trade places, any number of
-- times: the same answer, report and inboxes follow, peaks aside.
-- Two sends to one board on one communicator may not, where that board's script has a receive from any source on it: the message
-- that arrives first is taken first, so the two orders may end otherwise, and firmware must be right with both.
-- Nothing is promised of a sheet with queries or any-source probes, nor of one with a room that covers only some of its board's
-- standard sends.
use Rattle.std.specs.Prelude.{◌≡◌, ◌≢◌, Bool, true, false, ◌&&◌, not, List, [], ◌∷◌, ◌++◌, ℕ, zero, suc, eqb}
use Rattle.std.proofs.Math.Option.{none}
use Rattle.rules.specs.Sheet.{Sheet, Op, op, board, second_in, sheet_in, is_send, is_receive, is_standard, tells_message, tells_completion}
use Rattle.rules.specs.Job.{Job}
use Rattle.rules.specs.Step.{able, step, next_op, waited, complete_if, in_waiting_half, fits_with, fits_room}
use Rattle.rules.specs.Order.{follow}
use Rattle.rules.specs.Claims.{passes, is_any_source, script, rooms_cover, accepts, left_by, Alike}
use Rattle.promises.specs.Statements.{Lent}
use Rattle.promises.specs.ServiceStatements.{FollowCall, SameStart, LeftAlike}

-- ON ANY SHEET, two steps whose exchange is harmless

-- A query that is p's next step tells the same before q's step and after it.
unfoldable pub TellsSame : Sheet → Job → (p q : ℕ) → Type 0
TellsSame s x p q =
    tells_completion (op s (next_op s x p)) ≡ true →
    complete_if (step s q x) (waited s (next_op s x p)) ≡ complete_if x (waited s (next_op s x p))

-- A standard send that p's next step initiates is buffered before q's step exactly if it is after it (document 02, K6). On a sheet
-- whose rooms are 0 or cover all it always is so.
unfoldable pub KeepsSame : Sheet → Job → (p q : ℕ) → Type 0
KeepsSame s x p q =
    in_waiting_half s x p ≡ false → is_standard (op s (next_op s x p)) ≡ true →
    fits_room s p (next_op s x p) (step s q x) ≡ fits_room s p (next_op s x p) x

-- SwapSame's claim on any sheet, any-source receives and probes, queries, ready sends, small buffers and small rooms included,
-- where the exchange is harmless: the two steps stop the job in neither order, they do not enter two messages that one any-source
-- receive or probe fits (as two sends to one board and communicator whose script has such an operation may), a query among them
-- tells the same before the other step and after it, and a standard send among them is buffered before it exactly if it is after it.
pub record Harmless (s : Sheet) (x : Job) (p q : ℕ) : Type 0 where
  pub goes_on : (step s q (step s p x)).stop ≡ none
  pub goes_on_swapped : (step s p (step s q x)).stop ≡ none
  pub no_race :
      (r : ℕ) → in_waiting_half s x p ≡ false → in_waiting_half s x q ≡ false →
      is_send (op s (next_op s x p)) ≡ true → is_send (op s (next_op s x q)) ≡ true → is_any_source (op s r) ≡ true →
      fits_with s (next_op s x p) r ≡ true → fits_with s (next_op s x q) r ≡ true → ⊥
  pub tells_same : TellsSame s x p q
  pub tells_same_swapped : TellsSame s x q p
  pub keeps_same : KeepsSame s x p q
  pub keeps_same_swapped : KeepsSame s x q p

unfoldable pub SwapGeneral : Type 0
SwapGeneral =
    (bs i before after : List ℕ) (p q : ℕ) → Lent bs i →
    let s = sheet_in bs in
    accepts s before i ≡ true → p ≢ q → able s (left_by s before i) p ≡ true → able s (left_by s before i) q ≡ true →
    Harmless s (left_by s before i) p q →
    ((follow s (before ++ (p ∷ q ∷ after)) i).refused_at ≡ (follow s (before ++ (q ∷ p ∷ after)) i).refused_at)
    × Alike s (left_by s (before ++ (p ∷ q ∷ after)) i) (left_by s (before ++ (q ∷ p ∷ after)) i)

-- WITHOUT QUERIES AND ANY-SOURCE PROBES (document 02, K14)

-- no operation of a list passes a test
unfoldable pub none_of : (Op → Bool) → List Op → Bool
none_of f [] = true
none_of f (o ∷ os) = not (f o) && none_of f os

-- a receive from any source, and a probe
unfoldable pub is_any_receive : Op → Bool
is_any_receive o = is_receive o && is_any_source o

unfoldable pub is_any_probe : Op → Bool
is_any_probe o = tells_message o && is_any_source o

unfoldable pub no_query : Sheet → Bool
no_query s = none_of tells_completion s.ops

unfoldable pub no_any_probe : Sheet → Bool
no_any_probe s = none_of is_any_probe s.ops

-- "any sheet without queries or any-source probes"; "for edition 2, K6's condition on rooms stays"
pub record ExchangeSheet (bs : List ℕ) : Type 0 where
  pub no_queries : no_query (sheet_in bs) ≡ true
  pub no_any_probes : no_any_probe (sheet_in bs) ≡ true
  pub rooms : second_in bs ≡ true → rooms_cover (sheet_in bs) ≡ true

-- board r's next step initiates a send; a send's waiting half sends nothing
unfoldable pub initiates_send : Sheet → Job → (r : ℕ) → Bool
initiates_send s x r = not (in_waiting_half s x r) && is_send (op s (next_op s x r))

-- the next steps of p and q "are sends to one board on one communicator"
unfoldable pub send_to_one : Sheet → Job → (p q : ℕ) → Bool
send_to_one s x p q =
    let a = op s (next_op s x p) in
    let b = op s (next_op s x q) in
    (initiates_send s x p && initiates_send s x q) && (eqb a.peer b.peer && eqb a.comm b.comm)

-- "where that board's script has an any-source receive": board r's script, on communicator c
unfoldable pub has_any_receive : Sheet → (r c : ℕ) → Bool
has_any_receive s r c = not (none_of (λ o. is_any_receive o && eqb o.comm c) (script (board s r) s.ops))

unfoldable pub may_race : Sheet → Job → (p q : ℕ) → Bool
may_race s x p q =
    let a = op s (next_op s x p) in
    send_to_one s x p q && has_any_receive s a.peer a.comm

-- the steps stop the job in neither order
unfoldable pub GoesOn : Sheet → Job → (p q : ℕ) → Type 0
GoesOn s x p q = ((step s q (step s p x)).stop ≡ none) × ((step s p (step s q x)).stop ≡ none)

-- "two .. steps of different boards, both able, neither stopping the job in either order, .. unless they are sends to one board ..":
-- the steps of p and q that may trade places after job x
pub record Exchangeable (s : Sheet) (x : Job) (p q : ℕ) : Type 0 where
  pub differ : p ≢ q
  pub able_one : able s x p ≡ true
  pub able_other : able s x q ≡ true
  pub goes_on : GoesOn s x p q
  pub no_race : may_race s x p q ≡ false

-- Two orders have the same outcome: they are refused at the same index or accepted alike, and what the steps taken left is alike,
-- the verdict among it.
unfoldable pub SameOutcome : Sheet → (inboxes a b : List ℕ) → Type 0
SameOutcome s i a b = ((follow s a i).refused_at ≡ (follow s b i).refused_at) × Alike s (left_by s a i) (left_by s b i)

-- The claim: such steps, next to each other in an order, can be exchanged and the rest of the order followed, whatever it is.
unfoldable pub SwapAnySource : Type 0
SwapAnySource =
    (bs i before after : List ℕ) (p q : ℕ) → Lent bs i →
    let s = sheet_in bs in
    ExchangeSheet bs → accepts s before i ≡ true → Exchangeable s (left_by s before i) p q →
    SameOutcome s i (before ++ (p ∷ q ∷ after)) (before ++ (q ∷ p ∷ after))

-- WHOLE ORDERS

-- Order b is order a with two neighbouring ranks exchanged, where a rule allows it of the job that stands before them.
pub record OneExchange (May : Sheet → Job → (p q : ℕ) → Type 0) (s : Sheet) (i a b : List ℕ) : Type 0 where
  pub before : List ℕ
  pub one : ℕ
  pub other : ℕ
  pub after : List ℕ
  pub order : a ≡ before ++ (one ∷ other ∷ after)
  pub swapped : b ≡ before ++ (other ∷ one ∷ after)
  pub accepted : accepts s before i ≡ true
  pub allowed : May s (left_by s before i) one other

-- Order a leads to order b by n allowed exchanges, one after the other; and by any number of them.
unfoldable pub Exchanges : (May : Sheet → Job → (p q : ℕ) → Type 0) → (n : ℕ) → Sheet → (i a b : List ℕ) → Type 0
Exchanges May zero s i a b = a ≡ b
Exchanges May (suc n) s i a b = (c : List ℕ) × OneExchange May s i a c × Exchanges May n s i c b

unfoldable pub InClass : (May : Sheet → Job → (p q : ℕ) → Type 0) → Sheet → (i a b : List ℕ) → Type 0
InClass May s i a b = (n : ℕ) × Exchanges May n s i a b

-- The two orders of an exchange are of one class; and classes are an equivalence: every order is of one class and no other, so that
-- a search over all orders needs one order of each.
unfoldable pub ExchangeClass : Type 0
ExchangeClass =
    (s : Sheet) (i before after : List ℕ) (p q : ℕ) → accepts s before i ≡ true → Exchangeable s (left_by s before i) p q →
    InClass Exchangeable s i (before ++ (p ∷ q ∷ after)) (before ++ (q ∷ p ∷ after))

pub record Equivalence (R : (a b : List ℕ) → Type 0) : Type 0 where
  pub same : (a : List ℕ) → R a a
  pub back : (a b : List ℕ) → R a b → R b a
  pub on : (a b c : List ℕ) → R a b → R b c → R a c

unfoldable pub Classes : Type 0
Classes = (s : Sheet) (i : List ℕ) → Equivalence (InClass Exchangeable s i)

-- Every two orders of a class have the same outcome.
unfoldable pub SameClass : Type 0
SameClass =
    (bs i a b : List ℕ) → Lent bs i → ExchangeSheet bs → InClass Exchangeable (sheet_in bs) i a b → SameOutcome (sheet_in bs) i a b

-- And so, on any sheet, with the exchanges of SwapGeneral, whose classes are larger.
abbrev pub HarmlessSteps : Sheet → Job → (p q : ℕ) → Type 0
HarmlessSteps s x p q = (p ≢ q) × (able s x p ≡ true) × (able s x q ≡ true) × Harmless s x p q

unfoldable pub SameClassGeneral : Type 0
SameClassGeneral =
    (bs i a b : List ℕ) → Lent bs i → InClass HarmlessSteps (sheet_in bs) i a b → SameOutcome (sheet_in bs) i a b

-- OF THE SERVICES

-- Two calls of follow answer the same number and place. With number 0 what they left is alike, on the bytes of inboxes and reports;
-- with another they left both as they were lent.
pub record AnsweredAlike {bs a b : List ℕ} (f : FollowCall bs a) (g : FollowCall bs b) : Type 0 where
  pub number : f.number ≡ g.number
  pub place : f.place ≡ g.place
  pub left : f.number ≡ 0 → LeftAlike bs f.inbox_now f.report_now g.inbox_now g.report_now
  pub kept : f.number ≢ 0 → (f.inbox_now ≡ f.inbox) × (f.report_now ≡ f.report)
  pub kept_too : f.number ≢ 0 → (g.inbox_now ≡ g.inbox) × (g.report_now ≡ g.report)

-- SwapAnySource of two calls, of which the one has the other's order with two steps exchanged; and SameClass of two calls.
unfoldable pub FollowSwapsAnySource : Type 0
FollowSwapsAnySource =
    (bs before after : List ℕ) (p q : ℕ) (f : FollowCall bs (before ++ (p ∷ q ∷ after)))
    (g : FollowCall bs (before ++ (q ∷ p ∷ after))) →
    passes bs ≡ true → ExchangeSheet bs → SameStart bs f.inbox g.inbox →
    accepts (sheet_in bs) before f.inbox ≡ true → Exchangeable (sheet_in bs) (left_by (sheet_in bs) before f.inbox) p q →
    AnsweredAlike f g

unfoldable pub FollowSameClass : Type 0
FollowSameClass =
    (bs a b : List ℕ) (f : FollowCall bs a) (g : FollowCall bs b) →
    passes bs ≡ true → ExchangeSheet bs → SameStart bs f.inbox g.inbox →
    InClass Exchangeable (sheet_in bs) f.inbox a b → AnsweredAlike f g
