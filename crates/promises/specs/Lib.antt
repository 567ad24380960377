-- What document 01 promises of job sheets. Statements is what to read, and proofs/Theorems says that each is proved; nothing below
-- this crate cites it, so that a change of a theorem rechecks no code. Theorems stand in proofs/, so that an edit of a definition here
-- fails a theorem and no definition.
--   Statements           each claim in words and in antt, over `rules` only
--   ProbeStatements      those about probes and queries
--   ServiceStatements    the same of what a call of follow or run leaves
--   ExchangeStatements   which two steps may trade places on any sheet, and the orders that such exchanges lead to
--   EditionStatements    the two editions
--   EditionWitness       two sheets that it speaks of
--   Counterexamples      why demand 3 asks for calm sheets and sets the peaks aside: the sheets and what is said of them
--   SwapCounterexamples  the same where two steps are exchanged
--   HarmlessCounterexamples  the same of the conditions under which steps are exchanged on any sheet
--   AnySourceCounterexamples  the same where receives are from any source, and what differs
--   RequestCounterexample  why verdict 1 leaves no request only with document 02's K7
pub mod Statements
pub mod ProbeStatements
pub mod ServiceStatements
pub mod ExchangeStatements
pub mod EditionStatements
pub mod EditionWitness
pub mod Counterexamples
pub mod SwapCounterexamples
pub mod HarmlessCounterexamples
pub mod AnySourceCounterexamples
pub mod RequestCounterexample
