-- What is found of one name. These serve the contracts of private functions alone.
use Rattle.std.specs.Prelude.{◌≡◌, ℕ, ◌&&◌, ◌||◌, Bool, List, [], ◌∷◌, if◌then◌else◌}
use Rattle.std.specs.List.{list_any}
use Rattle.std.specs.List.Sorted.{IsStrictlySortedBy}
use Rattle.std.specs.Ordering.{nat_cmp}
use Rattle.std.specs.Cmp.Lexicographic.{slice_cmp}
use Rattle.mailbox_names.specs.Names.{same_name, has_name, inbox, mailbox_name, levels_of}
use Rattle.mailbox_names.specs.Patterns.{is_wildcard}
use Rattle.mailbox_names.specs.Listing.{finds, wants_levels}

-- whether a text is a superior level of a name
abbrev pub is_level_of : List ℕ → List ℕ → Bool
is_level_of name text = list_any (λ level. same_name (mailbox_name level) text) (levels_of name)

-- whether a pattern finds a text where it looks at a name: the name itself, or a level of it
abbrev pub gives : List ℕ → List ℕ → List ℕ → Bool
gives pattern text name = finds pattern text && (same_name name text || (wants_levels pattern && is_level_of name text))

-- whether a text is found, where it is known whether the pattern matches it, and whether it finds INBOX
abbrev pub found_if : Bool → Bool → List ℕ → Bool
found_if matched finds_inbox text = if same_name text inbox then finds_inbox else matched

-- The texts are those that there were and these.
abbrev pub Adds : (List ℕ → Bool) → List (List ℕ) → List (List ℕ) → Type 0
Adds which before after = (text : List ℕ) → has_name text after ≡ (which text || has_name text before)

-- Texts in their order, none twice, which a pattern finds where it looks at names.
pub record AreFound (pattern : List ℕ) (names found : List (List ℕ)) : Type 0 where
  pub order : IsStrictlySortedBy (slice_cmp nat_cmp) found
  pub each : (text : List ℕ) → has_name text found ≡ list_any (gives pattern text) names

-- what a pattern has in front of its first wildcard
abbrev pub plain_front : List ℕ → List ℕ
plain_front [] = []
plain_front (p ∷ pattern) = if is_wildcard p then [] else p ∷ plain_front pattern

-- the front that names are to have: none where a level may be INBOX, which is written in any case
abbrev pub front_of : List ℕ → List ℕ
front_of pattern = if wants_levels pattern && finds pattern inbox then [] else plain_front pattern
