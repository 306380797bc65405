-- Items as text (RFC 5322 §3.4).
use Rattle.std.specs.Prelude.{ℕ, Bool, true, false, ◌&&◌, ◌||◌, ◌==◌, if◌then◌else◌, List, [], ◌∷◌, ◌++◌}
use Rattle.mail_text.specs.Lines.{put}
use Rattle.mime_tree.specs.declared.values.Item.{Item}
use Rattle.mime_tree.specs.declared.values.Item.TheVariants.{Address, Group, GroupEnd}
use Rattle.address_grammar.specs.declared.printing.Before.{Before}
use Rattle.address_grammar.specs.declared.printing.Before.TheVariants.{TheStart, AnItem, AGroupName}
use Rattle.address_grammar.specs.Pieces.{is_atom}

-- A text cut at each byte that is this one.
abbrev pub split : ℕ → List ℕ → List (List ℕ)
split at [] = [] ∷ []
split at (c ∷ cs) = if c == at then [] ∷ split at cs else put c (split at cs)

abbrev pub are_atom_bytes : List ℕ → Bool
are_atom_bytes [] = true
are_atom_bytes (c ∷ cs) = is_atom c && are_atom_bytes cs

-- An atom: one byte at least.
abbrev pub is_atom_text : List ℕ → Bool
is_atom_text [] = false
is_atom_text (c ∷ cs) = is_atom c && are_atom_bytes cs

abbrev pub are_atoms : List (List ℕ) → Bool
are_atoms [] = true
are_atoms (w ∷ ws) = is_atom_text w && are_atoms ws

-- Atoms with single bytes of this kind between.
abbrev pub is_bare : ℕ → List ℕ → Bool
is_bare between text = are_atoms (split between text)

-- A byte with `\` before it where it is `"` or `\`.
abbrev pub escaped_byte : ℕ → List ℕ
escaped_byte c = if c == 34 || c == 92 then 92 ∷ c ∷ [] else c ∷ []

-- A text with `\` before each `"` and each `\`.
abbrev pub escaped : List ℕ → List ℕ
escaped [] = []
escaped (c ∷ cs) = escaped_byte c ++ escaped cs

-- A text in quotes (RFC 5322 §3.2.4).
abbrev pub in_quotation : List ℕ → List ℕ
in_quotation text = 34 ∷ (escaped text ++ 34 ∷ [])

-- A text as it stands where it is bare, else in quotes.
abbrev pub bare_or_quoted : ℕ → List ℕ → List ℕ
bare_or_quoted between text = if is_bare between text then text else in_quotation text

-- A name as a phrase.
abbrev pub phrase_text : List ℕ → List ℕ
phrase_text name = bare_or_quoted 32 name

-- `local@domain`
abbrev pub addr_text : List ℕ → List ℕ → List ℕ
addr_text local domain = bare_or_quoted 46 local ++ 64 ∷ domain

-- `name <local@domain>`, or without a name `local@domain`
abbrev pub address_text : List ℕ → List ℕ → List ℕ → List ℕ
address_text [] local domain = addr_text local domain
address_text (c ∷ cs) local domain = phrase_text (c ∷ cs) ++ (32 ∷ 60 ∷ (addr_text local domain ++ 62 ∷ []))

-- What is written between an item and what stands before it.
abbrev pub between : Before → List ℕ
between TheStart = []
between AnItem = 44 ∷ 32 ∷ []
between AGroupName = 32 ∷ []

-- An item behind what stands before it. A group is its name and a colon, its addresses, and a semicolon.
abbrev pub item_text : Before → Item → List ℕ
item_text before (Address name local domain) = between before ++ address_text name local domain
item_text before (Group name) = between before ++ (phrase_text name ++ 58 ∷ [])
item_text before GroupEnd = 59 ∷ []

abbrev pub behind_of : Item → Before
behind_of (Address name local domain) = AnItem
behind_of (Group name) = AGroupName
behind_of GroupEnd = AnItem

-- Items as text, behind what stands before them.
abbrev pub printed_behind : Before → List Item → List ℕ
printed_behind before [] = []
printed_behind before (item ∷ items) = item_text before item ++ printed_behind (behind_of item) items

-- Items as text: `, ` between items, and a group as `name: a, b;` or `name:;`.
abbrev pub printed : List Item → List ℕ
printed items = printed_behind TheStart items
