pub mod Words
pub mod KeywordSets
pub mod FlagNames
pub mod FlagsTold
pub mod EntryRows
