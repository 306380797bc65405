mod LineLemmas
mod ReadLemmas
mod TextLemmas
mod CommandLemmas
mod Examples
