-- Orders that allowed exchanges lead to one another are classes, and every two orders of a class have the same outcome.
--   outcome_same, outcome_on          orders with one outcome, one after the other
--   exchange_outcome, chain_outcome   what a rule for exchanges promises holds along a chain of them
--   same_class_general, same_class    of the exchanges of SwapGeneral, and of SwapAnySource
--   one_exchange, exchange_class      one exchange; its two orders are of one class
--   classes                           K14's exchanges lead back: the classes are an equivalence
-- Assumes nothing.
use Rattle.std.specs.Prelude.{◌≡◌, refl, true, false, ◌&&◌, List, ◌∷◌, ◌++◌, eqb}
use Rattle.std.proofs.Common.{sym, subst, ◌∙◌, eqb-true, eq-eqb}
use Prim.Native.Nat.{ℕ, zero, suc}
use Rattle.rules.specs.Sheet.{Sheet, op, sheet_in}
use Rattle.rules.specs.Job.{Job}
use Rattle.rules.specs.Step.{next_op}
use Rattle.rules.specs.Claims.{accepts, left_by, Alike}
use Rattle.laws.specs.Tests.{and_left, and_right, and_both, true_not_false, not_so}
use Rattle.promises.specs.ExchangeStatements.{HarmlessSteps, SwapGeneral, SwapAnySource, initiates_send, send_to_one, has_any_receive, may_race, GoesOn, Exchangeable, SameOutcome}
use Rattle.promises.specs.ExchangeStatements.{OneExchange, Exchanges, InClass, ExchangeClass, Classes, SameClass, SameClassGeneral}
use Rattle.promises.proofs.claims.SwapGeneral.{swap_general}
use Rattle.promises.proofs.claims.SwapAnySource.{swap_any_source}

-- OUTCOMES
outcome_same : (s : Sheet) (i : List ℕ) {a b : List ℕ} → a ≡ b → SameOutcome s i a b
unfolding SameOutcome Alike
outcome_same s i {a} e = subst (λ (z : List ℕ). SameOutcome s i a z) e (refl, (refl, λ v. refl))

outcome_on : (s : Sheet) (i a b c : List ℕ) → SameOutcome s i a b → SameOutcome s i b c → SameOutcome s i a c
unfolding SameOutcome Alike
outcome_on s i a b c f g = (f.0 ∙ g.0, (f.1.0 ∙ g.1.0, λ e. f.1.1 e ∙ g.1.1 e))

module _ (May : Sheet → Job → (p q : ℕ) → Type 0) (s : Sheet) (i : List ℕ) where
  -- what a rule for exchanges promises
  abbrev Kept : Type 0
  Kept =
      (before after : List ℕ) (p q : ℕ) → accepts s before i ≡ true → May s (left_by s before i) p q →
      SameOutcome s i (before ++ (p ∷ q ∷ after)) (before ++ (q ∷ p ∷ after))

  exchange_outcome : Kept → (a b : List ℕ) → OneExchange May s i a b → SameOutcome s i a b
  exchange_outcome keep a b h =
      let one = h.before ++ (h.one ∷ h.other ∷ h.after) in
      let other = h.before ++ (h.other ∷ h.one ∷ h.after) in
      outcome_on s i a one b (outcome_same s i h.order)
      (outcome_on s i one other b (keep h.before h.after h.one h.other h.accepted h.allowed) (outcome_same s i (sym h.swapped)))

  -- a chain of exchanges keeps what each of them does
  chain_outcome : Kept → (n : ℕ) (a b : List ℕ) → Exchanges May n s i a b → SameOutcome s i a b
  unfolding Exchanges
  chain_outcome keep zero a b e = outcome_same s i e
  chain_outcome keep (suc n) a b h =
      outcome_on s i a h.0 b (exchange_outcome keep a h.0 h.1) (chain_outcome keep n h.0 b h.2)

-- SAME OUTCOMES
pub same_class_general : SameClassGeneral
unfolding SameClassGeneral InClass SwapGeneral SameOutcome
same_class_general bs i a b l h =
    chain_outcome HarmlessSteps (sheet_in bs) i (λ before after p q accepted E. swap_general bs i before after p q l accepted
    E.0 E.1 E.2 E.3) h.0 a b h.1

pub same_class : SameClass
unfolding SameClass InClass SwapAnySource
same_class bs i a b l S h =
    chain_outcome Exchangeable (sheet_in bs) i (λ before after p q accepted E. swap_any_source bs i before after p q l S accepted E)
    h.0 a b h.1

-- CLASSES: one exchange leads from the one order to the other
pub one_exchange : (May : Sheet → Job → (p q : ℕ) → Type 0) (s : Sheet) (i before after : List ℕ) (p q : ℕ) → accepts s before i ≡ true →
    May s (left_by s before i) p q → OneExchange May s i (before ++ (p ∷ q ∷ after)) (before ++ (q ∷ p ∷ after))
one_exchange May s i before after p q accepted allowed =
    record {
      before = before;
      one = p;
      other = q;
      after = after;
      order = refl;
      swapped = refl;
      accepted = accepted;
      allowed = allowed;
    }

pub exchange_class : ExchangeClass
unfolding ExchangeClass InClass Exchanges
exchange_class s i before after p q accepted allowed =
    (1, (before ++ (q ∷ p ∷ after), one_exchange Exchangeable s i before after p q accepted allowed, refl))

-- an exchange leads back
race_back : (s : Sheet) (x : Job) (p q : ℕ) → may_race s x p q ≡ false → may_race s x q p ≡ false
unfolding may_race send_to_one
race_back s x p q h = not_so (may_race s x q p) (λ r. true_not_false (turned r) h)
  where
    turned : may_race s x q p ≡ true → may_race s x p q ≡ true
    turned r =
        let a = op s (next_op s x q) in
        let b = op s (next_op s x p) in
        let both = initiates_send s x q && initiates_send s x p in
        let one = eqb a.peer b.peer && eqb a.comm b.comm in
        let to_one = and_left (both && one) (has_any_receive s a.peer a.comm) r in
        let send = and_left both one to_one in
        let peer = eqb-true a.peer b.peer (and_left (eqb a.peer b.peer) (eqb a.comm b.comm) (and_right both one to_one)) in
        let comm = eqb-true a.comm b.comm (and_right (eqb a.peer b.peer) (eqb a.comm b.comm) (and_right both one to_one)) in
        and_both
        (and_both (and_both (and_right (initiates_send s x q) (initiates_send s x p) send) (and_left (initiates_send s x q) (initiates_send s x p) send))
        (and_both (eq-eqb b.peer a.peer (sym peer)) (eq-eqb b.comm a.comm (sym comm))))
        (subst (λ (z : ℕ). has_any_receive s z b.comm ≡ true) peer
        (subst (λ (z : ℕ). has_any_receive s a.peer z ≡ true) comm (and_right (both && one) (has_any_receive s a.peer a.comm) r)))

exchangeable_back : (s : Sheet) (x : Job) (p q : ℕ) → Exchangeable s x p q → Exchangeable s x q p
unfolding GoesOn
exchangeable_back s x p q E =
    record {
      differ = λ e. E.differ (sym e);
      able_one = E.able_other;
      able_other = E.able_one;
      goes_on = (E.goes_on.1, E.goes_on.0);
      no_race = race_back s x p q E.no_race;
    }

exchanged_back : (s : Sheet) (i a b : List ℕ) → OneExchange Exchangeable s i a b → OneExchange Exchangeable s i b a
exchanged_back s i a b h =
    record {
      before = h.before;
      one = h.other;
      other = h.one;
      after = h.after;
      order = h.swapped;
      swapped = h.order;
      accepted = h.accepted;
      allowed = exchangeable_back s (left_by s h.before i) h.one h.other h.allowed;
    }

chain_on : (s : Sheet) (i : List ℕ) (n m : ℕ) (a b c : List ℕ) → Exchanges Exchangeable n s i a b → Exchanges Exchangeable m s i b c →
    InClass Exchangeable s i a c
unfolding Exchanges InClass
chain_on s i zero m a b c e h = (m, subst (λ (z : List ℕ). Exchanges Exchangeable m s i z c) (sym e) h)
chain_on s i (suc n) m a b c f h =
    let rest = chain_on s i n m f.0 b c f.2 h in
    (suc rest.0, (f.0, f.1, rest.1))

chain_back : (s : Sheet) (i : List ℕ) (n : ℕ) (a b : List ℕ) → Exchanges Exchangeable n s i a b → InClass Exchangeable s i b a
unfolding Exchanges InClass
chain_back s i zero a b e = (0, sym e)
chain_back s i (suc n) a b f =
    let rest = chain_back s i n f.0 b f.2 in
    chain_on s i rest.0 1 b f.0 a rest.1 (a, exchanged_back s i a f.0 f.1, refl)

pub classes : Classes
unfolding Classes InClass Exchanges
classes s i =
    record {
      same = λ a. (0, refl);
      back = λ a b h. chain_back s i h.0 a b h.1;
      on = λ a b c f g. chain_on s i f.0 g.0 a b c f.1 g.1;
    }
