mod SpellingLemmas
mod Turns
mod OpeningLemmas
mod ListLaws
mod RuleLaws
mod ItemLaws
mod WrittenLaws
