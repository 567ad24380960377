-- What the engine cites of sheets and jobs: a sheet that passes check is valid, and every job that an order leads to keeps the
-- invariant. One idea carries it: the matching that a job holds is stable, and a stable matching over given entered operations
-- is unique, so that a job is determined by where its boards stand.
--   Invariant     what every job that an order leads to keeps, part by part, with who needs it
--   Facts         what a stepping engine needs of it, as short laws
--   Bounds        which numbers of a job fit their bytes in the report
--   sheet         what passing check says of a sheet: kinds, extents, areas
--   matching      the matching that the rows hold: it is stable, and it only grows
--   step          what one step of an able board does, case by case
--   deliveries    the bytes that matches copy, and that their order is immaterial
--   preserve      an able step keeps each part of the invariant, and so does an order
pub mod Invariant
pub mod Facts
pub mod Bounds
pub mod sheet
pub mod matching
pub mod step
pub mod deliveries
pub mod preserve
