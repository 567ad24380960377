-- Why the exchange of two steps where receives are from any source (document 02, K14) leaves out what it leaves out. For each case
-- that it leaves out, with all its other conditions kept: an exchange with both orders, what the reports of the two tell otherwise,
-- and so no claim without the condition. And exchanges that it allows, beside an any-source receive. The exchanges are those of
-- SwapCounterexamples, computed.
--   any_source_where           SwapAnySource, condition by condition
--   race_matters               two sends to one board and communicator with an any-source receive
--   query_exchange_matters, probe_exchange_matters       a query, an any-source probe
--   ready_stop_matters, overflow_stop_matters            a step that stops the job in one of the orders
--   room_exchange_matters      a room that covers some of its board's standard sends
--   two_classes                the two orders of the race are not of one class
--   one_class                  orders of one class, with an any-source receive in them
--   general_excludes_less      two such sends whose exchange is harmless
-- Assumes nothing.
use Rattle.std.specs.Prelude.{◌≡◌, refl, ◌⊎◌, ◌≢◌, true, false, ◌||◌, List, [], ◌∷◌, ◌++◌, ℕ, eqb}
use Rattle.std.proofs.Common.{inl, inr, arith, eq-eqb}
use Rattle.std.proofs.Math.Option.{none, some}
use Rattle.rules.specs.Sheet.{Sheet, op}
use Rattle.rules.specs.Step.{able, step, fits_with}
use Rattle.rules.specs.Claims.{passes, is_any_source, all_covered, rooms_cover, accepts, left_by}
use Rattle.rules.specs.BenchJob.{any}
use Rattle.rules.specs.Definitions.{definitions}
use Rattle.laws.specs.Tests.{and_both, or_left, or_right, true_not_false}
use Rattle.invariant.specs.sheet.Kinds.{fit_tag}
use Rattle.promises.specs.ServiceStatements.{told_in}
use Rattle.promises.specs.ExchangeStatements.{TellsSame, KeepsSame, Harmless, none_of, is_any_receive, is_any_probe, no_query, no_any_probe, initiates_send, send_to_one, has_any_receive}
use Rattle.promises.specs.ExchangeStatements.{may_race, GoesOn, Exchangeable, SameOutcome, SwapAnySource, OneExchange, Exchanges, InClass, SameClass}
use Rattle.promises.specs.Counterexamples.{no_ready, two_buffered}
use Rattle.promises.specs.SwapCounterexamples.{bytes_of, sheet_of, job_before, swaps_apart}
use Rattle.promises.proofs.SwapCounterexamples.{apart_of}
use Rattle.promises.specs.SwapCounterexamples.{any_source_exchange, any_probe_exchange, query_exchange, ready_exchange, uncovered_exchange, room_exchange}
use Rattle.promises.specs.HarmlessCounterexamples.{SwapWhere}
use Rattle.promises.proofs.HarmlessCounterexamples.{harm_refutes, query_apart, any_probe_apart, room_apart, query_goes_on, any_probe_goes_on, room_goes_on}
use Rattle.promises.proofs.compare.ScriptTests.{none_at}
use Rattle.promises.proofs.claims.Classes.{same_class, one_exchange}
use Rattle.promises.specs.AnySourceCounterexamples.{SheetPart, told_after, refused_after, job_12, two_bytes, one_tag_exchange, takes_two}

pub any_source_where : SwapAnySource → SwapWhere (λ s x p q. SheetPart s × GoesOn s x p q × (may_race s x p q ≡ false))
unfolding SwapAnySource SwapWhere SameOutcome
any_source_where claim bs i before after p q lent accepted differ able_one able_other h =
    (claim bs i before after p q lent
    (record {
      no_queries = h.0.0;
      no_any_probes = h.0.1;
      rooms = λ _. h.0.2;
    })
    accepted
    (record {
      differ = differ;
      able_one = able_one;
      able_other = able_other;
      goes_on = h.1;
      no_race = h.2;
    })
    ).1

race_apart : swaps_apart (λ s. true) any_source_exchange ≡ true
unfolding definitions swaps_apart any_source_exchange
race_apart = refl

race_sheet : SheetPart (sheet_of any_source_exchange)
unfolding definitions none_of is_any_probe no_query no_any_probe any_source_exchange
race_sheet = (refl, refl, refl)

race_goes_on : GoesOn (sheet_of any_source_exchange) (job_before any_source_exchange) 0 1
unfolding definitions GoesOn any_source_exchange
race_goes_on = (refl, refl)

pub race_matters : SwapWhere (λ s x p q. SheetPart s × GoesOn s x p q) → ⊥
unfolding any_source_exchange
race_matters = harm_refutes _ any_source_exchange race_apart (race_sheet, race_goes_on)

-- A QUERY: orders 0,0,1 and 0,1,0 of bench job DD. The query (operation 1) tells that its send is not complete, or that it is.
pub query_differs : (((told_after query_exchange 0 1).row 1).long ≡ 0) × (((told_after query_exchange 1 0).row 1).long ≡ 1)
unfolding definitions told_in query_exchange
query_differs = (refl, refl)

query_kept : (no_any_probe (sheet_of query_exchange) ≡ true) × (rooms_cover (sheet_of query_exchange) ≡ true)
    × GoesOn (sheet_of query_exchange) (job_before query_exchange) 0 1
    × (may_race (sheet_of query_exchange) (job_before query_exchange) 0 1 ≡ false)
unfolding definitions none_of is_any_probe no_any_probe initiates_send send_to_one may_race query_exchange
query_kept = (refl, refl, query_goes_on, refl)

pub query_exchange_matters :
    SwapWhere (λ s x p q. (no_any_probe s ≡ true) × (rooms_cover s ≡ true) × GoesOn s x p q × (may_race s x p q ≡ false)) → ⊥
unfolding query_exchange
query_exchange_matters =
    harm_refutes _ query_exchange query_apart query_kept

-- AN ANY-SOURCE PROBE: orders 0,1,2 and 1,0,2 of bench job V. The probe (operation 2) tells rank 0 as the source, or rank 1; no
-- receive is from any source.
pub probe_differs : (((told_after any_probe_exchange 0 1).row 2).source ≡ 0) × (((told_after any_probe_exchange 1 0).row 2).source ≡ 1)
unfolding definitions told_in any_probe_exchange
probe_differs = (refl, refl)

probe_kept : (no_query (sheet_of any_probe_exchange) ≡ true) × (rooms_cover (sheet_of any_probe_exchange) ≡ true)
    × GoesOn (sheet_of any_probe_exchange) (job_before any_probe_exchange) 0 1
    × (may_race (sheet_of any_probe_exchange) (job_before any_probe_exchange) 0 1 ≡ false)
unfolding definitions none_of is_any_receive no_query initiates_send send_to_one has_any_receive may_race any_probe_exchange
probe_kept = (refl, refl, any_probe_goes_on, refl)

pub probe_exchange_matters :
    SwapWhere (λ s x p q. (no_query s ≡ true) × (rooms_cover s ≡ true) × GoesOn s x p q × (may_race s x p q ≡ false)) → ⊥
unfolding any_probe_exchange
probe_exchange_matters =
    harm_refutes _ any_probe_exchange any_probe_apart probe_kept

-- A STEP THAT STOPS THE JOB in one of the orders. Orders 0,1 and 1,0 of bench job 9: the ready send comes before its receive, the
-- job stops with verdict 4 and rank 1's step is refused; or the receive comes before it, and both steps are taken.
pub ready_differs : ((told_after ready_exchange 0 1).verdict ≡ 4) × ((told_after ready_exchange 1 0).verdict ≡ 0)
    × (refused_after ready_exchange 0 1 ≡ some 1) × (refused_after ready_exchange 1 0 ≡ none)
unfolding definitions told_in ready_exchange
ready_differs = (refl, refl, refl, refl)

ready_apart : swaps_apart (λ s. true) ready_exchange ≡ true
unfolding definitions swaps_apart ready_exchange
ready_apart = refl

ready_kept : SheetPart (sheet_of ready_exchange) × (all_covered (sheet_of ready_exchange) ≡ true)
    × ((step (sheet_of ready_exchange) 0 (step (sheet_of ready_exchange) 1 (job_before ready_exchange))).stop ≡ none)
    × (may_race (sheet_of ready_exchange) (job_before ready_exchange) 0 1 ≡ false)
unfolding definitions none_of is_any_probe no_query no_any_probe initiates_send send_to_one may_race ready_exchange
ready_kept = ((refl, refl, refl), refl, refl, refl)

pub ready_stop_matters :
    SwapWhere (λ s x p q. SheetPart s × (all_covered s ≡ true) × ((step s p (step s q x)).stop ≡ none) × (may_race s x p q ≡ false)) → ⊥
unfolding ready_exchange
ready_stop_matters =
    harm_refutes _ ready_exchange ready_apart ready_kept

-- And without a ready send: orders 0,0,0,1 and 0,0,1,0 where the buffer is one byte short for two messages. The second send
-- overflows, with verdict 3, or finds the first one's charge gone.
pub overflow_differs : ((told_after uncovered_exchange 0 1).verdict ≡ 3) × ((told_after uncovered_exchange 1 0).verdict ≡ 0)
    × (refused_after uncovered_exchange 0 1 ≡ some 3) × (refused_after uncovered_exchange 1 0 ≡ none)
unfolding definitions told_in uncovered_exchange two_buffered
overflow_differs = (refl, refl, refl, refl)

overflow_apart : swaps_apart (λ s. true) uncovered_exchange ≡ true
unfolding definitions swaps_apart uncovered_exchange two_buffered
overflow_apart = refl

overflow_kept : SheetPart (sheet_of uncovered_exchange) × (no_ready (sheet_of uncovered_exchange) ≡ true)
    × ((step (sheet_of uncovered_exchange) 0 (step (sheet_of uncovered_exchange) 1 (job_before uncovered_exchange))).stop ≡ none)
    × (may_race (sheet_of uncovered_exchange) (job_before uncovered_exchange) 0 1 ≡ false)
unfolding definitions none_of is_any_probe no_query no_any_probe no_ready initiates_send send_to_one may_race uncovered_exchange two_buffered
overflow_kept = ((refl, refl, refl), refl, refl, refl)

pub overflow_stop_matters :
    SwapWhere (λ s x p q. SheetPart s × (no_ready s ≡ true) × ((step s p (step s q x)).stop ≡ none) × (may_race s x p q ≡ false)) → ⊥
unfolding uncovered_exchange
overflow_stop_matters =
    harm_refutes _ uncovered_exchange overflow_apart overflow_kept

-- A ROOM that holds one of two messages: orders 0,0,0,1 and 0,0,1,0 of the second edition. The second send (operation 1) is not
-- buffered (state 1), or it is (state 2).
pub room_differs : (((told_after room_exchange 0 1).row 1).state ≡ 1) × (((told_after room_exchange 1 0).row 1).state ≡ 2)
unfolding definitions told_in room_exchange
room_differs = (refl, refl)

room_kept : (no_query (sheet_of room_exchange) ≡ true) × (no_any_probe (sheet_of room_exchange) ≡ true)
    × GoesOn (sheet_of room_exchange) (job_before room_exchange) 0 1
    × (may_race (sheet_of room_exchange) (job_before room_exchange) 0 1 ≡ false)
unfolding definitions none_of is_any_probe no_query no_any_probe initiates_send send_to_one may_race room_exchange
room_kept = (refl, refl, room_goes_on, refl)

pub room_exchange_matters :
    SwapWhere (λ s x p q. (no_query s ≡ true) × (no_any_probe s ≡ true) × GoesOn s x p q × (may_race s x p q ≡ false)) → ⊥
unfolding room_exchange
room_exchange_matters =
    harm_refutes _ room_exchange room_apart room_kept

-- The two orders of the race are of two classes.
pub two_classes : InClass Exchangeable job_12 two_bytes (0 ∷ 1 ∷ 2 ∷ []) (1 ∷ 0 ∷ 2 ∷ []) → ⊥
unfolding any_source_exchange SameClass SameOutcome
two_classes h =
    let a = apart_of (λ s. true) any_source_exchange race_apart in
    a.not_alike (same_class (bytes_of any_source_exchange) two_bytes (0 ∷ 1 ∷ 2 ∷ []) (1 ∷ 0 ∷ 2 ∷ [])
    (record {
      passing = a.passing_check;
      room = a.room;
    })
    (record {
      no_queries = race_sheet.0;
      no_any_probes = race_sheet.1;
      rooms = λ _. race_sheet.2;
    })
    h).1

-- A send and the any-source receive that takes it may trade places, and so may the waiting halves of the two: three orders of one
-- class.
trade : (before after : List ℕ) (p q : ℕ) →
    let x = left_by job_12 before two_bytes in
    accepts job_12 before two_bytes ≡ true → p ≢ q → able job_12 x p ≡ true → able job_12 x q ≡ true → GoesOn job_12 x p q →
    may_race job_12 x p q ≡ false →
    OneExchange Exchangeable job_12 two_bytes (before ++ (p ∷ q ∷ after)) (before ++ (q ∷ p ∷ after))
trade before after p q accepted differ able_one able_other goes_on no_race =
    one_exchange Exchangeable job_12 two_bytes before after p q accepted
    (record {
      differ = differ;
      able_one = able_one;
      able_other = able_other;
      goes_on = goes_on;
      no_race = no_race;
    })

send_and_receive : OneExchange Exchangeable job_12 two_bytes (0 ∷ 2 ∷ 0 ∷ 2 ∷ []) (2 ∷ 0 ∷ 0 ∷ 2 ∷ [])
unfolding definitions none_of is_any_receive initiates_send send_to_one has_any_receive may_race GoesOn any_source_exchange
send_and_receive = trade [] (0 ∷ 2 ∷ []) 0 2 refl (λ e. omega (arith, e)) refl refl (refl, refl) refl

waiting_halves : OneExchange Exchangeable job_12 two_bytes (2 ∷ 0 ∷ 0 ∷ 2 ∷ []) (2 ∷ 0 ∷ 2 ∷ 0 ∷ [])
unfolding definitions none_of is_any_receive initiates_send send_to_one has_any_receive may_race GoesOn any_source_exchange
waiting_halves = trade (2 ∷ 0 ∷ []) [] 0 2 refl (λ e. omega (arith, e)) refl refl (refl, refl) refl

pub one_class : InClass Exchangeable job_12 two_bytes (0 ∷ 2 ∷ 0 ∷ 2 ∷ []) (2 ∷ 0 ∷ 2 ∷ 0 ∷ [])
unfolding InClass Exchanges
one_class = (2, (2 ∷ 0 ∷ 0 ∷ 2 ∷ [], send_and_receive, (2 ∷ 0 ∷ 2 ∷ 0 ∷ [], waiting_halves, refl)))

none_takes_two : (r : ℕ) → is_any_source (op (sheet_of one_tag_exchange) r) ≡ true → fits_with (sheet_of one_tag_exchange) 1 r ≡ true → ⊥
unfolding definitions none_of one_tag_exchange
none_takes_two r wild fit = true_not_false (and_both wild (go (fit_tag s 1 r fit))) (none_at takes_two s.ops r refl refl)
  where
    s : Sheet
    s = sheet_of one_tag_exchange

    go : ((op s r).tag ≡ any) ⊎ ((op s r).tag ≡ (op s 1).tag) → eqb (op s r).tag any || eqb (op s r).tag 2 ≡ true
    go (inl e) = or_left (eqb (op s r).tag any) (eqb (op s r).tag 2) (eq-eqb (op s r).tag any e)
    go (inr e) = or_right (eqb (op s r).tag any) (eqb (op s r).tag 2) (eq-eqb (op s r).tag 2 e)

pub general_excludes_less : (passes (bytes_of one_tag_exchange) ≡ true)
    × (may_race (sheet_of one_tag_exchange) (job_before one_tag_exchange) 0 1 ≡ true)
    × Harmless (sheet_of one_tag_exchange) (job_before one_tag_exchange) 0 1
unfolding definitions none_of is_any_receive initiates_send send_to_one has_any_receive may_race TellsSame KeepsSame one_tag_exchange
general_excludes_less = (
  refl,
  refl,
  record {
    goes_on = refl;
    goes_on_swapped = refl;
    no_race = λ r half_p half_q send_p send_q wild fit_p fit_q. none_takes_two r wild fit_q;
    tells_same = λ t. true_not_false t refl;
    tells_same_swapped = λ t. true_not_false t refl;
    keeps_same = λ half t. refl;
    keeps_same_swapped = λ half t. refl;
  },
)
