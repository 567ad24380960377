-- Laws of the definitions in rules, stated once for the promises and for the code.
--   Tests     Boolean tests: the parts of a conjunction, two tests that agree
--   Below     a test over the numbers below a bound
--   Broken    the first index at which a test fails
--   Answers   what a service answers, along a chain of refusals and by a search
--   Numbers   which numbers a refusal can have
--   Editions  sizes that depend on the edition
--   Stores    the two accounts of a board
--   Decoded   the tables of a decoded sheet, entry by entry
--   Laid      what refusals 1 to 3 settle
--   Ranks     sums over boards; the rank of an operation
--   Tabled    what refusal 5 settles
--   Scripts   a search over all operations, script by script
--   Holding   which operations of a board hold their slot
--   Fields    what refusal 6 settles of an operation
--   Calm      what calm says of operations and boards; charges of a script, one operation more
--   Premise   the premise service accepts exactly calm sheets
--   Table     a rule of a constant table, tested once
--   Xor       exclusive or
--   Flip      one bit changed, by exclusive or
--   CrcByXor  the CRC is document 03's
--   CrcStep   a byte of the CRC by a table of remainders
--   Sums          sums over the numbers below n
--   WaitingLists  members, order, searches, removal
--   Splice        bytes put into a list at a place: what is read there, and what stays
--   SpliceOrder   splices in any order
--   Rooms         refusal 8: which lent room is short
--   ReportRows    lengths of a report's rows
pub mod Tests
pub mod Below
pub mod Broken
pub mod Answers
pub mod Numbers
pub mod Editions
pub mod Stores
pub mod Decoded
pub mod Laid
pub mod Ranks
pub mod Tabled
pub mod Scripts
pub mod Holding
pub mod Fields
pub mod Calm
pub mod Premise
pub mod Table
pub mod Xor
pub mod Flip
pub mod CrcByXor
pub mod CrcStep
pub mod Sums
pub mod WaitingLists
pub mod Splice
pub mod Rooms
pub mod ReportRows
pub mod SpliceOrder
