pub mod Records
pub mod Starving
pub mod Left
mod ScriptLemmas
mod OpenSessionsLemmas
mod ScriptLinesLemmas
mod TranscriptLemmas
