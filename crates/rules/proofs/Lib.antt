-- The laws and theorems of the crate. The theorems that a reader looks for are in `Soundness`, `RoundTrip`, `Limited`,
-- `Running`, `Ids` and `Counting`; `ExampleFormulas` and `ExampleAnswers` are the document's examples, computed.
pub mod ExampleFormulas
pub mod ExampleAnswers
pub mod Options
pub mod Literals
pub mod Ids
pub mod Running
pub mod Soundness
pub mod Words
pub mod Counting
pub mod Decimal
pub mod Limited
pub mod RoundTrip
