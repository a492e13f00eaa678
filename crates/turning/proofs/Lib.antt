-- Laws of tables that are turned, and of the loops that turn them. No contract cites them.
pub mod Turning
pub mod Tables
