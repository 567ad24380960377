-- The laws that join demands to promises.
--   Calls      from what the services ensure to the conclusions of Demands
pub mod Calls
