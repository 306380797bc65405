mod RunLemmas
mod SetLaws
mod TextLaws
