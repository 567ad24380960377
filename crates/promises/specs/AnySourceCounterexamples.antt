-- Why the exchange of two steps where receives are from any source (document 02, K14) leaves out what it leaves out. For each case
-- that it leaves out, with all its other conditions kept: an exchange with both orders, what the reports of the two tell otherwise,
-- and so no claim without the condition. And exchanges that it allows, beside an any-source receive. The exchanges are those of
-- SwapCounterexamples, computed.
--   any_source_where           SwapAnySource, condition by condition
--   race_matters               two sends to one board and communicator with an any-source receive
--   query_exchange_matters, probe_exchange_matters       a query, an any-source probe
--   ready_stop_matters, overflow_stop_matters            a step that stops the job in one of the orders
--   room_exchange_matters      a room that covers some of its board's standard sends
--   two_classes                the two orders of the race are not of one class
--   one_class                  orders of one class, with an any-source receive in them
--   general_excludes_less      two such sends whose exchange is harmless
-- Definitions, and race_differs: what else is proved of them stands in proofs/AnySourceCounterexamples. Assumes nothing.
use Rattle.std.specs.Prelude.{◌≡◌, refl, Bool, true, ◌&&◌, ◌||◌, List, [], ◌∷◌, ◌++◌, ℕ, eqb}
use Rattle.std.proofs.Math.Option.{Option}
use Rattle.rules.specs.Sheet.{Sheet, Op}
use Rattle.rules.specs.Order.{follow}
use Rattle.rules.specs.Claims.{is_any_source, rooms_cover}
use Rattle.rules.specs.BenchJob.{standard, any, send, receive, script, draft}
use Rattle.rules.specs.Definitions.{definitions}
use Rattle.promises.specs.Statements.{Told}
use Rattle.promises.specs.ServiceStatements.{told_in}
use Rattle.promises.specs.ExchangeStatements.{no_query, no_any_probe}
use Rattle.promises.specs.SwapCounterexamples.{Exchange, sheet_of, second_of, report_after}
use Rattle.promises.specs.SwapCounterexamples.{any_source_exchange}

-- THE CONDITIONS OF SWAP-ANY-SOURCE: of the sheet, in either edition, and of the two able steps of different boards
abbrev pub SheetPart : Sheet → Type 0
SheetPart s = (no_query s ≡ true) × (no_any_probe s ≡ true) × (rooms_cover s ≡ true)

-- what the report of the one order tells, or of the other
abbrev pub told_after : Exchange → (p q : ℕ) → Told
told_after e p q = told_in (second_of e) (sheet_of e) (report_after e p q)

-- where an order is refused: the beginning, the two ranks and the rest
abbrev pub refused_after : Exchange → (p q : ℕ) → Option ℕ
refused_after e p q = (follow (sheet_of e) (e.before ++ (p ∷ q ∷ e.after)) e.inbox).refused_at

-- TWO SENDS to an any-source receive: orders 0,1,2 and 1,0,2 of bench job 12. The receive (operation 2) is matched with rank 0's
-- message, or with rank 1's.
pub race_differs : (((told_after any_source_exchange 0 1).row 2).partner ≡ 0) × (((told_after any_source_exchange 1 0).row 2).partner ≡ 1)
unfolding definitions told_in any_source_exchange
race_differs = (refl, refl)

-- CLASSES of bench job 12, which has two any-source receives, on two lent bytes
abbrev pub job_12 : Sheet
job_12 = sheet_of any_source_exchange

abbrev pub two_bytes : List ℕ
two_bytes = 0 ∷ 0 ∷ []

-- SWAP-GENERAL EXCLUDES LESS: two sends, with tags 1 and 2, to one board and communicator, where the any-source receive takes tag 1
-- alone. By K14's words they may race; no receive fits both messages, and the exchange is harmless.
unfoldable pub one_tag_exchange : Exchange
one_tag_exchange =
    record {
      sheet =
          draft 1 0x4ad0 (11 ∷ 12 ∷ [])
          (script 0 0 (send standard 2 0 1 0 1 ∷ []) ∷ script 0 0 (send standard 2 0 2 1 1 ∷ []) ∷ script 0 1 (receive any 0 1 0 1 ∷ []) ∷ []);
      inbox = 0 ∷ [];
      before = [];
      one = 0;
      other = 1;
      after = [];
    }

-- an operation from any source that takes tag 2
abbrev pub takes_two : Op → Bool
takes_two o = is_any_source o && (eqb o.tag any || eqb o.tag 2)
