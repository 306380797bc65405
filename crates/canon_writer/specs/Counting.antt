-- How long prints are, counted byte by byte from where their texts stand.
use Rattle.std.specs.Prelude.{ℕ, ◌+◌, ◌-◌, ◌^◌, min, Bool, true, not, ◌&&◌, ◌==◌, if◌then◌else◌, List, [], ◌∷◌, ◌++◌}
use Rattle.mail_text.specs.Texts.{is_blank}
use Rattle.mime_tree.specs.declared.values.Item.{Item}
use Rattle.mime_tree.specs.declared.values.Item.TheVariants.{Address, Group, GroupEnd}
use Rattle.address_grammar.specs.Printing.{address_text, phrase_text}
use Rattle.canon_writer.specs.declared.counting.FieldSize.{FieldSize}
use Rattle.canon_writer.specs.declared.counting.Word.{Word}
use Rattle.canon_writer.specs.declared.counting.Word.TheVariants.{NoneYet, First, Later}

-- A number where it is below 2 ^ 64, else the greatest that is.
abbrev pub capped : ℕ → ℕ
capped n = min n (2 ^ 64 - 1)

-- A field of which the name was counted.
abbrev pub named : ℕ → FieldSize
named length_of_name = record { size = length_of_name + 3; left = 76 - length_of_name; word = NoneYet; is_blank = true }

-- The word that a byte stands in: a blank behind another byte begins one.
abbrev pub word_with : FieldSize → ℕ → Word
word_with field c = if not field.is_blank && is_blank c then Later field.left else field.word

-- One byte more, in this word. The first byte has a space before it; a word that is longer than the room where it begins goes into
-- a line of its own.
abbrev pub in_word : ℕ → ℕ → Bool → Word → FieldSize
in_word size left blank NoneYet = record { size = capped (size + 2); left = left - 1; word = First; is_blank = blank }
in_word size left blank First = record { size = capped (size + 1); left = left - 1; word = First; is_blank = blank }
in_word size left blank (Later room) =
    if left == 0 then record { size = capped (size + 3); left = 77 - room; word = First; is_blank = blank }
    else record { size = capped (size + 1); left = left - 1; word = Later room; is_blank = blank }

abbrev pub with_byte : FieldSize → ℕ → FieldSize
with_byte field c = in_word field.size field.left (is_blank c) (word_with field c)

-- A field with more bytes of its value.
unfoldable pub with_bytes : FieldSize → List ℕ → FieldSize
with_bytes field [] = field
with_bytes field (c ∷ cs) = with_bytes (with_byte field c) cs

-- An item behind what is written between it and the one before it.
abbrev pub item_behind : List ℕ → Item → List ℕ
item_behind between (Address name local domain) = between ++ address_text name local domain
item_behind between (Group name) = between ++ (phrase_text name ++ 58 ∷ [])
item_behind between GroupEnd = 59 ∷ []

-- What is written between an item and the next.
abbrev pub between_behind : Item → List ℕ
between_behind (Address name local domain) = 44 ∷ 32 ∷ []
between_behind (Group name) = 32 ∷ []
between_behind GroupEnd = 44 ∷ 32 ∷ []

-- Items from one on, and ids.
abbrev pub items_behind : List ℕ → List Item → List ℕ
items_behind between [] = []
items_behind between (item ∷ items) = item_behind between item ++ items_behind (between_behind item) items

abbrev pub ids_behind : List ℕ → List (List ℕ) → List ℕ
ids_behind between [] = []
ids_behind between (id ∷ ids) = (between ++ id) ++ ids_behind (32 ∷ []) ids
