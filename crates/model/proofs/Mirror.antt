-- The records that follow what is told.
pub mod RecordsOfEvents
pub mod RecordsFollow
pub mod KeptRecords
pub mod RecordsAreOne
pub mod RecordsGoOn
