-- The theorems of promises.
--   Theorems             each claim of specs/, proved
--   EditionWitness       the two sheets that EditionStatements speaks of are such ones
--   Counterexamples      why demand 3 asks for calm sheets and sets the peaks aside, by computed sheets
--   SwapCounterexamples  the same where two steps are exchanged
--   HarmlessCounterexamples  the same of the conditions under which steps are exchanged on any sheet
--   AnySourceCounterexamples  the same where receives are from any source (what differs there in specs/: race_differs)
--   RequestCounterexample  why verdict 1 leaves no request only with document 02's K7
--   compare              two jobs of one sheet: behind one another, alike, exchanged steps, full orders
--   claims               the proofs of the claims, of a sheet's bytes
pub mod Theorems
pub mod EditionWitness
pub mod Counterexamples
pub mod SwapCounterexamples
pub mod HarmlessCounterexamples
pub mod AnySourceCounterexamples
pub mod RequestCounterexample
pub mod compare
pub mod claims
