-- Keywords, in any case (RFC 3501 §9).
use Rattle.std.specs.Prelude.{ℕ, if◌then◌else◌, List, [], ◌∷◌, Option, Some, None, map, option_map}
use denote.Ref.{Bor}
use Rattle.mail_text.specs.Case.{is_same}
use Rattle.mail_text.specs.Texts.{front, behind}
use Rattle.imap_grammar.specs.declared.classes.Class.TheVariants.{Word}
use Rattle.imap_grammar.specs.Classes.{is_in}
use Rattle.imap_grammar.specs.Readings.{Reading}

-- The entry of a table that has the name.
abbrev pub named : {A : Type 0} → List (List ℕ × A) → List ℕ → Option A
named [] word = None
named (e ∷ es) word = if is_same word e.0 then Some e.1 else named es word

-- a table of a program, whose names lie in memory
abbrev pub entries : {A : Type 0} → List (Bor (List ℕ) × A) → List (List ℕ × A)
entries table = map (λ e. (e.0.now, e.1)) table

-- A keyword of a table: the longest run of bytes that keywords have is its name.
unfoldable pub keyword : {A : Type 0} → List (List ℕ × A) → Reading A
keyword table = λ text. option_map (λ a. (a, behind (is_in Word) text)) (named table (front (is_in Word) text))

-- This keyword.
unfoldable pub word : List ℕ → Reading (Unit {0})
word name = λ text. if is_same (front (is_in Word) text) name then Some (tt, behind (is_in Word) text) else None

-- Two rules, of which the first is taken where this keyword comes next.
abbrev pub spelled : {A : Type 0} → List ℕ → Reading A → Reading A → Reading A
spelled name p q = λ text. if is_same (front (is_in Word) text) name then p text else q text
