-- What a reader must believe, in the order of document 01, and nothing more: definitions, and the bench jobs that test them.
--   Limits    the numbers of document 01, each under one name
--   Sheet     the sheet byte by byte, and what its bytes decode to
--   Crc       CRC-16, bit by bit
--   Refusal   numbers 1 to 7: when the desk says no to a sheet
--   Job       the state of a job: rows of operations, places of boards, waiting lists, inbox memory
--   Step      how a board steps: fits, matches, deliveries, charges, stops
--   Order     following an order of ranks; the desk's own run
--   Report    the report, byte by byte
--   Service   what check, follow and run answer and leave in the lent rooms
--   Claims    the words in which the promises about orders are stated
--   Premise   whether the order can matter for a sheet, and why: numbers 20 to 24
--   BenchJob       a bench job as it is written down, and the test that it is put to
--   BenchNumbered  the starred bench jobs, 1 to 12
--   BenchFurther   jobs for the listed slips, and for rules that those leave untested
--   BenchProbes    jobs with probes and status queries (document 02, K9)
--   BenchStandard  jobs of the second edition, with room for standard sends (document 02, K6)
--   BenchRefusal   a call that is refused or accepted, as it is written down, and the test of its answer
--   BenchRefused   such calls, for numbers 1 to 9
--   BenchProbesRefused   calls with probes and status queries
--   BenchStandardRefused   calls with sheets of the second edition
--   BenchRooms     calls with every byte of the lent rooms before and after
--   Definitions    all definitions under one name, for claims that the checker computes
--   Bench          the bench jobs in one list; proofs/Bench has the jobs, the calls and the rooms, each under one claim
--   BenchPremise   sheets that premise is asked about; proofs/BenchPremise has them under one claim
pub mod Limits
pub mod Sheet
pub mod Crc
pub mod Refusal
pub mod Job
pub mod Step
pub mod Order
pub mod Report
pub mod Service
pub mod Claims
pub mod Premise
pub mod BenchJob
pub mod BenchNumbered
pub mod BenchFurther
pub mod BenchProbes
pub mod BenchStandard
pub mod BenchRefusal
pub mod BenchRefused
pub mod BenchProbesRefused
pub mod BenchStandardRefused
pub mod BenchRooms
pub mod Definitions
pub mod Bench
pub mod BenchPremise
