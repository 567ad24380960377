-- Lines of text, and the laws by which they are written.
--   Text      what a line of hex pairs and a line of decimal numbers are
--   Vectors   a line that was written by hand
--   Lines     a line that is written item by item
--   Lengths   how long a text is
--   Digits    digits in a base
pub mod Text
pub mod Vectors
pub mod Lines
pub mod Lengths
pub mod Digits
