-- Why demand 3 asks for calm sheets where two neighbouring able steps are exchanged: with four of the five conditions of calm
-- alone there is a sheet, a beginning of an order and two able ranks whose exchange leaves reports that differ in more than
-- peaks; and so where probes are from any source and receives are not (document 02, K9), and where buffers cover lengths and not
-- charges. The sheets are those of Counterexamples, computed.
--   SwapSameOn      an exchange leaves jobs alike, on the sheets that pass a test
--   Exchange          a sheet, a beginning, two ranks and what follows them
--   Apart, apart_of   what an exchange that ends apart has: able ranks, and jobs that are not alike
--   swap_refutes      an exchange that ends apart refutes SwapSameOn
--   any_source_swap_matters, any_source_probe_swap_matters, ready_swap_matters, query_swap_matters, cover_swap_matters,
--   room_swap_matters, overhead_swap_matters
-- Assumes nothing.
use Rattle.std.specs.Prelude.{◌≡◌, refl, Bool, true, ◌&&◌, not, List, ℕ, leb, eqb, length}
use Rattle.std.proofs.Common.{subst, leb-true, eq-eqb}
use Rattle.std.proofs.lemmas.Bool.{not-true}
use Rattle.rules.specs.Sheet.{Sheet, inbox_total}
use Rattle.rules.specs.Claims.{passes, all_covered, rooms_cover, accepts, Alike}
use Rattle.rules.specs.BenchJob.{same}
use Rattle.rules.specs.Definitions.{definitions}
use Rattle.laws.specs.Tests.{and_left, and_right, true_not_false}
use Rattle.promises.specs.Counterexamples.{no_any_source, no_ready, covered, no_any_receive, lengths_calm, all_lengths}
use Rattle.promises.specs.ExchangeStatements.{none_of, is_any_receive, no_query}
use Rattle.promises.specs.Counterexamples.{two_buffered}
use Rattle.promises.proofs.Counterexamples.{same_refl}
use Rattle.promises.specs.SwapCounterexamples.{SwapSameOn, Exchange, bytes_of, sheet_of, second_of, report_after, passing, able_there, both_able, differ, swaps_apart, Apart, any_source_exchange, any_probe_exchange, query_exchange, ready_exchange, uncovered_exchange, room_exchange, lengths_exchange}

pub apart_of : (ok : Sheet → Bool) (e : Exchange) → swaps_apart ok e ≡ true → Apart ok e
unfolding swaps_apart Alike
apart_of ok e h =
    record {
      passing_check = and_left (passes (bytes_of e)) (ok (sheet_of e) && enough) given;
      passing_test = and_left (ok (sheet_of e)) enough sound;
      room = leb-true (inbox_total (sheet_of e)) (length e.inbox) (and_right (ok (sheet_of e)) enough sound);
      accepted = and_left (accepts (sheet_of e) e.before e.inbox) (others && ranks) there;
      unlike =
          λ z. true_not_false (eq-eqb e.one e.other z) (not-true (eqb e.one e.other) (and_left others ranks two));
      able_one = and_left (able_there e e.one) (able_there e e.other) (and_right others ranks two);
      able_other = and_right (able_there e e.one) (able_there e e.other) (and_right others ranks two);
      not_alike =
          λ a. true_not_false (subst (λ (z : List ℕ). same (report_after e e.one e.other) z ≡ true) (a.1 (second_of e)) (same_refl _))
          (not-true (same (report_after e e.one e.other) (report_after e e.other e.one))
          (and_right (both_able e) (differ e) later));
    }
  where
    enough : Bool
    enough = leb (inbox_total (sheet_of e)) (length e.inbox)

    others : Bool
    others = not (eqb e.one e.other)

    ranks : Bool
    ranks = able_there e e.one && able_there e e.other

    given : passing ok e ≡ true
    given = and_left (passing ok e) (both_able e && differ e) h

    later : both_able e && differ e ≡ true
    later = and_right (passing ok e) (both_able e && differ e) h

    there : both_able e ≡ true
    there = and_left (both_able e) (differ e) later

    sound : ok (sheet_of e) && enough ≡ true
    sound = and_right (passes (bytes_of e)) (ok (sheet_of e) && enough) given

    two : others && ranks ≡ true
    two = and_right (accepts (sheet_of e) e.before e.inbox) (others && ranks) there

pub swap_refutes : (ok : Sheet → Bool) (e : Exchange) → swaps_apart ok e ≡ true → SwapSameOn ok → ⊥
unfolding SwapSameOn
swap_refutes ok e h claim =
    let a = apart_of ok e h in
    a.not_alike (claim (bytes_of e) e.inbox e.before e.after e.one e.other a.passing_check a.passing_test
    a.room a.accepted a.unlike a.able_one a.able_other)

any_source_apart : swaps_apart (λ s. (no_ready s && no_query s) && covered s) any_source_exchange ≡ true
unfolding definitions none_of swaps_apart no_ready no_query covered any_source_exchange
any_source_apart = refl

any_probe_apart : swaps_apart (λ s. ((no_any_receive s && no_ready s) && no_query s) && covered s) any_probe_exchange ≡ true
unfolding definitions none_of is_any_receive swaps_apart no_any_receive no_ready no_query covered any_probe_exchange
any_probe_apart = refl

ready_apart : swaps_apart (λ s. (no_any_source s && no_query s) && covered s) ready_exchange ≡ true
unfolding definitions none_of swaps_apart no_any_source no_query covered ready_exchange
ready_apart = refl

query_apart : swaps_apart (λ s. (no_any_source s && no_ready s) && covered s) query_exchange ≡ true
unfolding definitions none_of swaps_apart no_any_source no_ready covered query_exchange
query_apart = refl

uncovered_apart : swaps_apart (λ s. ((no_any_source s && no_ready s) && no_query s) && rooms_cover s) uncovered_exchange ≡ true
unfolding definitions none_of swaps_apart no_any_source no_ready no_query uncovered_exchange two_buffered
uncovered_apart = refl

room_apart : swaps_apart (λ s. ((no_any_source s && no_ready s) && no_query s) && all_covered s) room_exchange ≡ true
unfolding definitions none_of swaps_apart no_any_source no_ready no_query room_exchange
room_apart = refl

lengths_apart : swaps_apart lengths_calm lengths_exchange ≡ true
unfolding definitions none_of swaps_apart lengths_calm no_any_source no_ready no_query all_lengths lengths_exchange two_buffered
lengths_apart = refl

-- THE LAWS: what calm still asks when one of its conditions is dropped
pub any_source_swap_matters : SwapSameOn (λ s. (no_ready s && no_query s) && covered s) → ⊥
any_source_swap_matters = swap_refutes (λ s. (no_ready s && no_query s) && covered s) any_source_exchange any_source_apart

pub any_source_probe_swap_matters : SwapSameOn (λ s. ((no_any_receive s && no_ready s) && no_query s) && covered s) → ⊥
any_source_probe_swap_matters =
    swap_refutes (λ s. ((no_any_receive s && no_ready s) && no_query s) && covered s) any_probe_exchange any_probe_apart

pub ready_swap_matters : SwapSameOn (λ s. (no_any_source s && no_query s) && covered s) → ⊥
ready_swap_matters = swap_refutes (λ s. (no_any_source s && no_query s) && covered s) ready_exchange ready_apart

pub query_swap_matters : SwapSameOn (λ s. (no_any_source s && no_ready s) && covered s) → ⊥
query_swap_matters = swap_refutes (λ s. (no_any_source s && no_ready s) && covered s) query_exchange query_apart

pub cover_swap_matters : SwapSameOn (λ s. ((no_any_source s && no_ready s) && no_query s) && rooms_cover s) → ⊥
cover_swap_matters =
    swap_refutes (λ s. ((no_any_source s && no_ready s) && no_query s) && rooms_cover s) uncovered_exchange uncovered_apart

pub room_swap_matters : SwapSameOn (λ s. ((no_any_source s && no_ready s) && no_query s) && all_covered s) → ⊥
room_swap_matters =
    swap_refutes (λ s. ((no_any_source s && no_ready s) && no_query s) && all_covered s) room_exchange room_apart

pub overhead_swap_matters : SwapSameOn lengths_calm → ⊥
overhead_swap_matters = swap_refutes lengths_calm lengths_exchange lengths_apart
