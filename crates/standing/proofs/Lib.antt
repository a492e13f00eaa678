-- Laws of records as they stand in bytes, and of the walk over a row. No contract cites them.
pub mod Maps
pub mod Records
pub mod Children
pub mod Walk
pub mod Bytes
pub mod ColumnBytes
pub mod FormBytes
