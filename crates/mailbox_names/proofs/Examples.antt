-- Worked examples: which names patterns match, and what is told of names.
use Rattle.std.specs.Prelude.{◌≡◌, ℕ, Bool, true, false, List, [], ◌∷◌, map, codes, refl}
use Rattle.mailbox_names.specs.declared.listed.Listed.{Listed}
use Rattle.mailbox_names.specs.Names.{levels_of}
use Rattle.mailbox_names.specs.Patterns.{matches}
use Rattle.mailbox_names.specs.Listing.{listed}

plain : (matches (codes "a/b") (codes "a/b") ≡ true) × (matches (codes "a/b") (codes "a/c") ≡ false) × (matches (codes "a") (codes "a/b") ≡ false) × (matches (codes "a/b") (codes "a") ≡ false) × (matches (codes "A") (codes "a") ≡ false) × (matches (codes "") (codes "") ≡ true)
unfolding matches
plain = (refl, refl, refl, refl, refl, refl)

-- `*` goes over separators, and `%` doesn't.
wild : (matches (codes "*") (codes "a/b") ≡ true) × (matches (codes "%") (codes "a/b") ≡ false) × (matches (codes "%") (codes "ab") ≡ true) × (matches (codes "%/%") (codes "a/b") ≡ true) × (matches (codes "%/%") (codes "a/b/c") ≡ false)
    × (matches (codes "a/%") (codes "a/b") ≡ true) × (matches (codes "a/%") (codes "a") ≡ false) × (matches (codes "a*c") (codes "a/b/c") ≡ true) × (matches (codes "a%c") (codes "a/b/c") ≡ false) × (matches (codes "*") (codes "") ≡ true)
unfolding matches
wild = (refl, refl, refl, refl, refl, refl, refl, refl, refl, refl)

levels : (levels_of (codes "a/bc/d") ≡ codes "a" ∷ codes "a/bc" ∷ []) × (levels_of (codes "abc") ≡ [])
levels = (refl, refl)

abbrev shown : List Listed → List (List ℕ × Bool)
shown all = map (λ its. (its.name, its.noselect)) all

abbrev two : List (List ℕ)
two = codes "a/b" ∷ codes "INBOX" ∷ []

-- A level that is no mailbox is told in its place.
of_two : (shown (listed (codes "%") two) ≡ (codes "INBOX", false) ∷ (codes "a", true) ∷ []) × (shown (listed (codes "*") two) ≡ (codes "INBOX", false) ∷ (codes "a/b", false) ∷ []) × (shown (listed (codes "a/%") two) ≡ (codes "a/b", false) ∷ [])
    × (shown (listed (codes "%/%") two) ≡ (codes "a/b", false) ∷ []) × (shown (listed (codes "inbox") two) ≡ (codes "INBOX", false) ∷ []) × (shown (listed (codes "iN%") two) ≡ (codes "INBOX", false) ∷ []) × (shown (listed (codes "A/b") two) ≡ [])
unfolding matches listed
of_two = (refl, refl, refl, refl, refl, refl, refl)

abbrev deep : List (List ℕ)
deep = codes "x/y/z" ∷ codes "x/y" ∷ codes "inbox/q" ∷ codes "x/w/v" ∷ codes "x/w/u" ∷ []

-- Each level once; one that is a mailbox isn't told again. INBOX may be a level that is no mailbox, or no subscription.
of_deep : (shown (listed (codes "%") deep) ≡ (codes "INBOX", true) ∷ (codes "x", true) ∷ []) × (shown (listed (codes "x/%") deep) ≡ (codes "x/w", true) ∷ (codes "x/y", false) ∷ [])
    × (shown (listed (codes "*%") deep) ≡ (codes "INBOX", true) ∷ (codes "inbox/q", false) ∷ (codes "x", true) ∷ (codes "x/w", true) ∷ (codes "x/w/u", false) ∷ (codes "x/w/v", false) ∷ (codes "x/y", false) ∷ (codes "x/y/z", false) ∷ [])
    × (shown (listed (codes "%/w*") deep) ≡ (codes "x/w/u", false) ∷ (codes "x/w/v", false) ∷ [])
unfolding matches listed
of_deep = (refl, refl, refl, refl)
