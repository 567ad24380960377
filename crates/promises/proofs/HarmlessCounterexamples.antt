-- Why an exchange of two able steps must be harmless where the sheet is not calm (Statements: Harmless), as to probes and queries
-- (document 02, K9) and to rooms (K6). Without the condition that a query tells the same before the other step and after it, or that
-- a standard send is buffered before it exactly if it is after it, and where races for probes are allowed and races for receives
-- are not, there is an exchange that leaves reports which differ in more than peaks.
-- The exchanges are those of SwapCounterexamples, computed.
--   NoRace, BothTellSame, BothKeepSame   with GoesOn the conditions of Harmless
--   parts_harmless               together they are Harmless
--   SwapWhere                   an exchange leaves jobs alike where a condition holds of it; with Harmless it is promised
--   harm_refutes                 an exchange that ends apart, and of which the condition holds, refutes SwapWhere
--   query_apart, any_probe_apart, room_apart             the exchanges end apart; .._goes_on: and stop the job in neither order
--   query_step_matters, probe_race_matters, room_step_matters
-- Assumes nothing.
use Rattle.std.specs.Prelude.{◌≡◌, refl, true, ℕ}
use Rattle.rules.specs.Sheet.{Sheet}
use Rattle.rules.specs.Job.{Job}
use Rattle.rules.specs.Claims.{is_any_source}
use Rattle.rules.specs.Definitions.{definitions}
use Rattle.laws.specs.Tests.{true_not_false}
use Rattle.promises.specs.ExchangeStatements.{none_of, is_any_receive, TellsSame, KeepsSame, Harmless, SwapGeneral, GoesOn}
use Rattle.promises.proofs.compare.ScriptTests.{none_at}
use Rattle.promises.specs.SwapCounterexamples.{Exchange, bytes_of, sheet_of, job_before, swaps_apart}
use Rattle.promises.proofs.SwapCounterexamples.{apart_of}
use Rattle.promises.specs.SwapCounterexamples.{any_probe_exchange, query_exchange, room_exchange}
use Rattle.promises.specs.HarmlessCounterexamples.{NoRace, BothTellSame, BothKeepSame, SwapWhere}

pub parts_harmless : (s : Sheet) (x : Job) (p q : ℕ) →
    GoesOn s x p q → NoRace is_any_source s x p q → BothTellSame s x p q → BothKeepSame s x p q → Harmless s x p q
unfolding GoesOn NoRace BothTellSame BothKeepSame
parts_harmless s x p q g r n k =
    record {
      goes_on = g.0;
      goes_on_swapped = g.1;
      no_race = r;
      tells_same = n.0;
      tells_same_swapped = n.1;
      keeps_same = k.0;
      keeps_same_swapped = k.1;
    }

pub general_where : SwapGeneral → SwapWhere Harmless
unfolding SwapGeneral SwapWhere
general_where g bs i before after p q l a n e f h = (g bs i before after p q l a n e f h).1

pub harm_refutes : (H : Sheet → Job → (p q : ℕ) → Type 0) (e : Exchange) → swaps_apart (λ s. true) e ≡ true →
    H (sheet_of e) (job_before e) e.one e.other → SwapWhere H → ⊥
unfolding SwapWhere
harm_refutes H e h harm claim =
    let a = apart_of (λ s. true) e h in
    a.not_alike (claim (bytes_of e) e.inbox e.before e.after e.one e.other
    (record {
      passing = a.passing_check;
      room = a.room;
    })
    a.accepted a.unlike a.able_one a.able_other harm)

-- THE EXCHANGES, as they end on any sheet
pub any_probe_apart : swaps_apart (λ s. true) any_probe_exchange ≡ true
unfolding definitions swaps_apart any_probe_exchange
any_probe_apart = refl

pub query_apart : swaps_apart (λ s. true) query_exchange ≡ true
unfolding definitions swaps_apart query_exchange
query_apart = refl

pub room_apart : swaps_apart (λ s. true) room_exchange ≡ true
unfolding definitions swaps_apart room_exchange
room_apart = refl

-- a query and the receive that completes its send: nothing stops, and the query sends nothing that could race
pub query_goes_on : GoesOn (sheet_of query_exchange) (job_before query_exchange) 0 1
unfolding GoesOn definitions query_exchange
query_goes_on = (refl, refl)

query_no_race : NoRace is_any_source (sheet_of query_exchange) (job_before query_exchange) 0 1
unfolding NoRace definitions query_exchange
query_no_race r u v m n c f g = true_not_false m refl

query_keeps_same : BothKeepSame (sheet_of query_exchange) (job_before query_exchange) 0 1
unfolding BothKeepSame KeepsSame definitions query_exchange
query_keeps_same = (λ h t. refl, λ h t. refl)

-- two sends to a board that probes for any source: nothing stops, no receive is from any source, and neither is a query
pub any_probe_goes_on : GoesOn (sheet_of any_probe_exchange) (job_before any_probe_exchange) 0 1
unfolding GoesOn definitions any_probe_exchange
any_probe_goes_on = (refl, refl)

any_probe_tells_same : BothTellSame (sheet_of any_probe_exchange) (job_before any_probe_exchange) 0 1
unfolding BothTellSame TellsSame definitions any_probe_exchange
any_probe_tells_same = (λ t. true_not_false t refl, λ t. true_not_false t refl)

any_probe_keeps_same : BothKeepSame (sheet_of any_probe_exchange) (job_before any_probe_exchange) 0 1
unfolding BothKeepSame KeepsSame definitions any_probe_exchange
any_probe_keeps_same = (λ h t. refl, λ h t. refl)

-- a standard send and the receive that frees its room: nothing stops, the receive sends nothing, and neither is a query
pub room_goes_on : GoesOn (sheet_of room_exchange) (job_before room_exchange) 0 1
unfolding GoesOn definitions room_exchange
room_goes_on = (refl, refl)

room_no_race : NoRace is_any_source (sheet_of room_exchange) (job_before room_exchange) 0 1
unfolding NoRace definitions room_exchange
room_no_race r u v m n c f g = true_not_false n refl

room_tells_same : BothTellSame (sheet_of room_exchange) (job_before room_exchange) 0 1
unfolding BothTellSame TellsSame definitions room_exchange
room_tells_same = (λ t. true_not_false t refl, λ t. true_not_false t refl)

any_probe_no_race : NoRace is_any_receive (sheet_of any_probe_exchange) (job_before any_probe_exchange) 0 1
unfolding NoRace definitions none_of is_any_receive any_probe_exchange
any_probe_no_race r u v m n c f g =
    true_not_false c (none_at is_any_receive (sheet_of any_probe_exchange).ops r refl refl)

-- THE LAWS: with the other conditions of Harmless alone a query's step may not be exchanged
pub query_step_matters : SwapWhere (λ s x p q. GoesOn s x p q × NoRace is_any_source s x p q × BothKeepSame s x p q) → ⊥
unfolding query_exchange
query_step_matters =
    harm_refutes _ query_exchange query_apart
    (query_goes_on, query_no_race, query_keeps_same)

-- nor two sends that race for an any-source probe, though they race for no receive
pub probe_race_matters :
    SwapWhere (λ s x p q. GoesOn s x p q × NoRace is_any_receive s x p q × BothTellSame s x p q × BothKeepSame s x p q) → ⊥
unfolding any_probe_exchange
probe_race_matters =
    harm_refutes _ any_probe_exchange any_probe_apart (any_probe_goes_on, any_probe_no_race, any_probe_tells_same, any_probe_keeps_same)

-- nor a standard send whose room the other step frees (document 02, K6)
pub room_step_matters : SwapWhere (λ s x p q. GoesOn s x p q × NoRace is_any_source s x p q × BothTellSame s x p q) → ⊥
unfolding room_exchange
room_step_matters =
    harm_refutes _ room_exchange room_apart
    (room_goes_on, room_no_race, room_tells_same)
