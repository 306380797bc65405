-- How clients write strings and commands (RFC 3501 §4.3, §9).
use Rattle.std.specs.Prelude.{◌≡◌, ◌⊎◌, ℕ, true, ◌||◌, ◌==◌, nat_le, if◌then◌else◌, List, [], ◌∷◌, ◌++◌, length, flat_map, codes, Some, Ok}
use Rattle.std.specs.List.{list_all}
use Rattle.std.specs.Str.{byte}
use Rattle.mail_text.specs.Case.{is_same}
use Rattle.mail_text.specs.Decimals.{decimal_value}
use Rattle.imap_grammar.specs.declared.commands.Command.{Command}
use Rattle.imap_grammar.specs.declared.classes.Class.{Class}
use Rattle.imap_grammar.specs.declared.classes.Class.TheVariants.{Tag, Word}
use Rattle.imap_grammar.specs.Classes.{is_in}
use Rattle.imap_grammar.specs.Strings.{is_text}
use Rattle.imap_grammar.specs.Commands.{meaning}

-- One or more bytes of the class.
abbrev pub IsRun : Class → List ℕ → Type 0
IsRun class bytes = (nat_le 1 (length bytes) ≡ true) × (list_all (is_in class) bytes ≡ true)

-- A byte within quotes.
abbrev pub escaped : ℕ → List ℕ
escaped c = if c == byte "\"" || c == byte "\\" then byte "\\" ∷ c ∷ [] else c ∷ []

abbrev pub in_quotes : List ℕ → List ℕ
in_quotes bytes = codes "\"" ++ flat_map escaped bytes ++ codes "\""

-- A literal, told by digits how long it is.
abbrev pub announced : List ℕ → List ℕ → List ℕ
announced digits bytes = codes "{" ++ (digits ++ (codes "}\r\n" ++ bytes))

-- The ways in which a string is written: as an atom of the class, in quotes, as a literal.
abbrev pub IsAtom : Class → List ℕ → List ℕ → Type 0
IsAtom class bytes text = IsRun class bytes × (text ≡ bytes)

abbrev pub IsQuoted : List ℕ → List ℕ → Type 0
IsQuoted bytes text = (list_all is_text bytes ≡ true) × (text ≡ in_quotes bytes)

abbrev pub IsLiteral : List ℕ → List ℕ → Type 0
IsLiteral bytes text = (digits : List ℕ) × (decimal_value digits ≡ Some (length bytes)) × (text ≡ announced digits bytes)

abbrev pub IsWritten : Class → List ℕ → List ℕ → Type 0
IsWritten class bytes text = IsAtom class bytes text ⊎ (IsQuoted bytes text ⊎ IsLiteral bytes text)

-- A name of a command in any case of its letters.
abbrev pub IsName : List ℕ → List ℕ → Type 0
IsName name word = (list_all (is_in Word) name ≡ true) × (is_same name word ≡ true)

-- Whatever its tag is and in whatever case its name, a command with these arguments is read as this.
abbrev pub IsReadAs : List ℕ → List ℕ → Command → Type 0
IsReadAs word arguments command = (tag name : List ℕ) → IsRun Tag tag → IsName name word
    → meaning (tag ++ (codes " " ++ (name ++ (arguments ++ codes "\r\n")))) ≡ Ok (record { tag = tag; command = command })
