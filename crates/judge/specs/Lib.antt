-- What the judge reads and prints.
--   Printed   what is printed and what is told, for every input
--   Counts    how many bytes stand at the start of a room
--   Refused   which line that is, by the number of check's refusal
--   Longer    why it may stop reading one byte behind the longest sheet
--   Calls     what run's contract says of the judge's call
--   Outcomes  from what was called to what is printed and told
pub mod Printed
pub mod Counts
pub mod Refused
pub mod Longer
pub mod Calls
pub mod Outcomes
