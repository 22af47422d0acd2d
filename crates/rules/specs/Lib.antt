-- In reading order. The rules: what a market is and what each message does to it.
pub mod State
pub mod Reports
pub mod Offers
pub mod Calls
pub mod Checks
pub mod Step
pub mod Status
-- The law: what a history tells, and what every run keeps.
pub mod History
pub mod Law
pub mod Run
-- What speaks for both: the worked examples, and that the law bites.
pub mod Examples
pub mod Bite
-- What an engine over a book relies on.
pub mod Takes
pub mod Room
pub mod Sound
