-- Laws of the list records and of the layout. No contract cites them.
pub mod Computed
pub mod Records
pub mod Merging
pub mod Unions
pub mod Distinct
pub mod Entries
pub mod Salvage
pub mod Groups
pub mod Widths
pub mod Spans
pub mod Columns
pub mod Numbers
pub mod BookKinds
pub mod Book
pub mod Small
pub mod Example
pub mod Outcomes
