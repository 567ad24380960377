-- Two jobs of one sheet, compared.
--   Behind                a job behind another can only catch up
--   NewlyKept             a send that enters is buffered by what was in use
--   BothBehind            jobs behind each other have the same rows
--   AfterStep             the stop and the places after a step
--   ArrivalGrowth         the order of arrival along several steps
--   ReportBytes           the report's length, and the report without its peaks
--   PeaksAside            jobs that differ in peaks, waiting lists and memory at most
--   SamePositions         jobs whose boards stand at the same places, and a step of both
--   SamePositionsAlike    they are alike
--   WholeOrders           a whole order, followed on both
--   TwoRooms              one order on two inbox rooms
--   Exchange              two able steps exchanged
--   CalmSheets            calm sheets never stop
--   ScriptTests           tests of the operations of a list and of a script
--   EveryEnd              every order stays behind every full one
pub mod Behind
pub mod NewlyKept
pub mod BothBehind
pub mod AfterStep
pub mod ArrivalGrowth
pub mod ReportBytes
pub mod PeaksAside
pub mod SamePositions
pub mod SamePositionsAlike
pub mod WholeOrders
pub mod TwoRooms
pub mod Exchange
pub mod CalmSheets
pub mod ScriptTests
pub mod EveryEnd
