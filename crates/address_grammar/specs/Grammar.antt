-- The grammar of address lists (RFC 5322 §3.4), over the pieces of a value.
use Rattle.std.specs.Prelude.{◌≡◌, ℕ, zero, suc, true, false, List, [], ◌∷◌, ◌++◌, Option, Some, None, ◌⊎◌}
use Rattle.mime_tree.specs.declared.values.Item.{Item}
use Rattle.mime_tree.specs.declared.values.Item.TheVariants.{Address, Group, GroupEnd}
use Rattle.address_grammar.specs.declared.pieces.Special.TheVariants.{Comma, Colon, Semicolon, Open, Close, At}
use Rattle.address_grammar.specs.declared.pieces.Piece.{Piece}
use Rattle.address_grammar.specs.declared.pieces.Piece.TheVariants.{Mark}
use Rattle.address_grammar.specs.Spelling.{IsText}
use Rattle.address_grammar.specs.Words.{are_gaps, bare, is_phrase, name_of, local_of, domain_of, is_domain, ending_gaps, comments, comment_name}

-- White space and comments, or nothing.
abbrev pub AreGaps : List Piece → Type 0
AreGaps ps = are_gaps ps ≡ true

-- A local part, `@` and a domain, with nothing between (addr-spec).
pub record IsAddrSpec (ps : List Piece) (local domain : List ℕ) : Type 0 where
  pub l : Piece
  pub d : Piece
  pub is : ps ≡ l ∷ Mark At ∷ d ∷ []
  pub local_is : local_of l ≡ Some local
  pub domain_is : domain_of d ≡ Some domain

abbrev pub AreDomains : List Piece → Type 0
AreDomains [] = Unit {0}
AreDomains (d ∷ ds) = (is_domain d ≡ true) × AreDomains ds

-- A route (obs-route): domains, each behind an `@`, with commas between, and a colon. Of no domains there is none.
abbrev pub route : List Piece → List Piece
route [] = []
route (d ∷ []) = Mark At ∷ d ∷ Mark Colon ∷ []
route (d ∷ e ∷ ds) = Mark At ∷ d ∷ Mark Comma ∷ route (e ∷ ds)

-- An address that is an addr alone. White space and comments may stand anywhere between; its name is the single comment
-- right behind it.
pub record IsAlone (ps : List Piece) (item : Item) : Type 0 where
  pub local : List ℕ
  pub domain : List ℕ
  pub is_addr : IsAddrSpec (bare ps) local domain
  pub is : item ≡ Address (comment_name (comments (ending_gaps ps))) local domain

-- An address that is a phrase or none, `<`, a route or none, an addr, and `>` (name-addr).
pub record IsNamed (ps : List Piece) (item : Item) : Type 0 where
  pub phrase : List Piece
  pub rest : List Piece
  pub domains : List Piece
  pub addr : List Piece
  pub local : List ℕ
  pub domain : List ℕ
  pub parts : ps ≡ phrase ++ Mark Open ∷ rest
  pub named : is_phrase phrase ≡ true
  pub within : bare rest ≡ route domains ++ (addr ++ Mark Close ∷ [])
  pub are_domains : AreDomains domains
  pub is_addr : IsAddrSpec addr local domain
  pub is : item ≡ Address (name_of phrase) local domain

-- An address or an empty place (mailbox), with the items that it gives.
abbrev pub IsMember : List Piece → List Item → Type 0
IsMember ps items = (AreGaps ps × (items ≡ [])) ⊎ ((item : Item) × (IsAlone ps item ⊎ IsNamed ps item) × (items ≡ item ∷ []))

-- So many parts, with commas between them, and one more; and the items that they give one after another.
abbrev pub Separated : (List Piece → List Item → Type 0) → ℕ → List Piece → List Item → Type 0
Separated Part zero ps items = Part ps items
Separated Part (suc n) ps items =
    (part : List Piece) × (rest : List Piece) × (here : List Item) × (others : List Item) × Part part here × (ps ≡ part ++ Mark Comma ∷ rest) × (items ≡ here ++ others)
    × Separated Part n rest others

-- A group: a phrase that isn't empty, a colon, addresses or none, a semicolon.
pub record IsGroup (ps : List Piece) (items : List Item) : Type 0 where
  pub phrase : List Piece
  pub inside : List Piece
  pub after : List Piece
  pub found : List Item
  pub commas : ℕ
  pub parts : ps ≡ phrase ++ Mark Colon ∷ (inside ++ Mark Semicolon ∷ after)
  pub named : is_phrase phrase ≡ true
  pub some : are_gaps phrase ≡ false
  pub addresses : Separated IsMember commas inside found
  pub gaps : AreGaps after
  pub is : items ≡ Group (name_of phrase) ∷ (found ++ GroupEnd ∷ [])

-- What stands between the commas of a value.
abbrev pub IsPart : List Piece → List Item → Type 0
IsPart ps items = IsMember ps items ⊎ IsGroup ps items

-- Addresses and groups, with commas between. Empty places give nothing (obs-addr-list).
abbrev pub IsAddressList : List Piece → List Item → Type 0
IsAddressList ps items = (commas : ℕ) × Separated IsPart commas ps items

-- A value that reads as these items: it is spelled as pieces, which are a list of addresses and groups, one item at least.
pub record Reads (value : List ℕ) (items : List Item) : Type 0 where
  pub pieces : List Piece
  pub spelled : IsText pieces value
  pub is_list : IsAddressList pieces items
  pub some : items ≡ [] → ⊥

-- The items that a value reads as, and no others; or that it reads as none.
abbrev pub IsReadingOf : List ℕ → Option (List Item) → Type 0
IsReadingOf value None = (items : List Item) → Reads value items → ⊥
IsReadingOf value (Some items) = Reads value items × ((others : List Item) → Reads value others → others ≡ items)
