-- What clients write is read as what they mean.
use Rattle.std.proofs.Common.{◌≡◌, inl, inr, ℕ, suc, ◌+◌, ◌<◌, ◌^◌, Bool, true, false, cond, eqb, ltb, leb, List, [], ◌∷◌, ◌++◌, length, take, drop, refl, sym, ap, ◌∙◌, arith, Option, Some, None}
use Rattle.std.specs.Prelude.{◌&&◌, ◌||◌, option_map, nat_le, map, flat_map, codes}
use Rattle.std.specs.List.{list_all}
use Rattle.std.specs.Char.{is_ascii_digit, to_ascii_lowercase, eq_ignore_ascii_case}
use Rattle.std.proofs.lemmas.Bool.{cond-true, cond-false, ne_eqb, le-leb, ltb-true}
use Rattle.std.proofs.lemmas.List.{append_assoc, length-append}
use Rattle.std.proofs.Math.Seq.{take-append_seam, drop-append_seam}
use lib.Pointwise.{pointwise, bytes_decides}
use Rattle.mail_text.specs.Case.{is_same}
use Rattle.mail_text.specs.Texts.{front, behind, begins}
use Rattle.mail_text.specs.Decimals.{are_digits, digits_value, decimal_value}
use Rattle.imap_grammar.specs.declared.commands.Command.{Command}
use Rattle.imap_grammar.specs.declared.commands.Command.TheVariants as command
use Rattle.imap_grammar.specs.declared.classes.Class.{Class}
use Rattle.imap_grammar.specs.declared.classes.Class.TheVariants.{Astring, Pattern, Tag, Word}
use Rattle.imap_grammar.specs.Classes.{is_in, is_atom_byte}
use Rattle.imap_grammar.specs.Spellings.{unescaped}
use Rattle.imap_grammar.specs.Readings.{Outcome, Reading, and_then, byte, sees, counted, end}
use Rattle.imap_grammar.specs.Strings.{some, number, is_text, closing, quoted, literal, string_or, astring, pattern}
use Rattle.imap_grammar.specs.Words.{keyword, named}
use Rattle.imap_grammar.specs.Verbs.{verbs}
use Rattle.imap_grammar.specs.Session.{alone, login}
use Rattle.imap_grammar.specs.Mailboxes.{one_name, named_mailbox, rename, listing}
use Rattle.imap_grammar.specs.Commands.{arguments, tag, tagged, meaning}
use Rattle.imap_grammar.specs.Commands as commands
use Rattle.imap_grammar.specs.Written.{IsRun, escaped, in_quotes, announced, IsWritten, IsName, IsReadAs}

both : (a b : Bool) → (a && b) ≡ true → (a ≡ true) × (b ≡ true)
both true b h = (refl, h)
both false b h = absurd (let no : false ≡ true = h in cc)

neither : (a b : Bool) → (a || b) ≡ false → (a ≡ false) × (b ≡ false)
neither true b h = absurd (let no : true ≡ false = h in cc)
neither false b h = (refl, h)

-- Runs of bytes that something else follows.
front_run : (test : ℕ → Bool) (xs rest : List ℕ) → list_all test xs ≡ true → begins test rest ≡ false → front test (xs ++ rest) ≡ xs
front_run test [] [] all ends = refl
front_run test [] (c ∷ cs) all ends = cond-false (test c) (c ∷ front test cs) [] ends
front_run test (x ∷ xs) rest all ends =
    let p = both (test x) (list_all test xs) all in
    cond-true (test x) (x ∷ front test (xs ++ rest)) [] p.0 ∙ ap (λ ys. x ∷ ys) (front_run test xs rest p.1 ends)

behind_run : (test : ℕ → Bool) (xs rest : List ℕ) → list_all test xs ≡ true → begins test rest ≡ false → behind test (xs ++ rest) ≡ rest
behind_run test [] [] all ends = refl
behind_run test [] (c ∷ cs) all ends = cond-false (test c) (behind test cs) (c ∷ cs) ends
behind_run test (x ∷ xs) rest all ends =
    let p = both (test x) (list_all test xs) all in
    cond-true (test x) (behind test (xs ++ rest)) (x ∷ (xs ++ rest)) p.0 ∙ behind_run test xs rest p.1 ends

-- What a run of bytes is read as, by the number of them.
taken_if : (test : ℕ → Bool) → List ℕ → Outcome (List ℕ)
taken_if test text = cond (nat_le 1 (length (front test text))) (Some (front test text, behind test text)) None

run_read : (class : Class) (xs rest : List ℕ) → IsRun class xs → begins (is_in class) rest ≡ false → taken_if (is_in class) (xs ++ rest) ≡ Some (xs, rest)
unfolding taken_if
run_read class xs rest run ends = rw (front_run (is_in class) xs rest run.1 ends, behind_run (is_in class) xs rest run.1 ends, run.0) refl

-- Atoms.
not_begun : (class : Class) (b : ℕ) (xs rest : List ℕ) → IsRun class xs → is_in class b ≡ false → sees b (xs ++ rest) ≡ false
not_begun class b [] rest run isnt = absurd (let no : false ≡ true = run.0 in cc)
not_begun class b (x ∷ xs) rest run isnt = ne_eqb x b (λ e. let no : true ≡ false = sym (both (is_in class x) (list_all (is_in class) xs) run.1).0 ∙ ap (is_in class) e ∙ isnt in cc)

-- a string, or what else is read
string_else : Reading (List ℕ) → Reading (List ℕ)
string_else p text = cond (sees 34 text) (quoted text) (cond (sees 123 text) (literal text) (p text))

atom_read : (class : Class) → is_in class 34 ≡ false → is_in class 123 ≡ false → (xs rest : List ℕ) → IsRun class xs → begins (is_in class) rest ≡ false
    → string_else (taken_if (is_in class)) (xs ++ rest) ≡ Some (xs, rest)
unfolding string_else
atom_read class quote brace xs rest run ends =
    cond-false (sees 34 (xs ++ rest)) (quoted (xs ++ rest)) (cond (sees 123 (xs ++ rest)) (literal (xs ++ rest)) (taken_if (is_in class) (xs ++ rest))) (not_begun class 34 xs rest run quote)
    ∙ cond-false (sees 123 (xs ++ rest)) (literal (xs ++ rest)) (taken_if (is_in class) (xs ++ rest)) (not_begun class 123 xs rest run brace)
    ∙ run_read class xs rest run ends

-- Strings in quotes.
closing_more : (special : Bool) (c : ℕ) (front rest : List ℕ) → (eqb c 34 || eqb c 92) ≡ special → is_text c ≡ true
    → closing false (front ++ 34 ∷ rest) ≡ Some (length front)
    → closing false ((cond special (92 ∷ c ∷ []) (c ∷ []) ++ front) ++ 34 ∷ rest) ≡ Some (length (cond special (92 ∷ c ∷ []) (c ∷ []) ++ front))
closing_more true c front rest is fits ends = rw (is, ends) refl
closing_more false c front rest is fits ends =
    let n = neither (eqb c 34) (eqb c 92) is in
    let quote : eqb c 34 ≡ false = n.0 in
    let slash : eqb c 92 ≡ false = n.1 in
    rw (quote, slash, fits, ends) refl

closing_escaped : (bytes rest : List ℕ) → list_all is_text bytes ≡ true → closing false (flat_map escaped bytes ++ 34 ∷ rest) ≡ Some (length (flat_map escaped bytes))
closing_escaped [] rest h = refl
closing_escaped (c ∷ cs) rest h =
    let p = both (is_text c) (list_all is_text cs) h in
    closing_more (eqb c 34 || eqb c 92) c (flat_map escaped cs) rest refl p.0 (closing_escaped cs rest p.1)

unescaped_more : (special : Bool) (c : ℕ) (front : List ℕ) → (eqb c 34 || eqb c 92) ≡ special → unescaped (cond special (92 ∷ c ∷ []) (c ∷ []) ++ front) ≡ c ∷ unescaped front
unescaped_more true c front is = refl
unescaped_more false c front is = let slash : eqb c 92 ≡ false = (neither (eqb c 34) (eqb c 92) is).1 in rw slash refl

unescaped_escaped : (bytes : List ℕ) → unescaped (flat_map escaped bytes) ≡ bytes
unescaped_escaped [] = refl
unescaped_escaped (c ∷ cs) = unescaped_more (eqb c 34 || eqb c 92) c (flat_map escaped cs) refl ∙ ap (λ xs. c ∷ xs) (unescaped_escaped cs)

drop_seam : (xs : List ℕ) (y : ℕ) (ys : List ℕ) → drop (length xs + 1) (xs ++ y ∷ ys) ≡ ys
drop_seam [] y ys = refl
drop_seam (x ∷ xs) y ys = let e : length (x ∷ xs) + 1 ≡ suc (length xs + 1) = omega arith in ap (λ n. drop n (x ∷ (xs ++ y ∷ ys))) e ∙ drop_seam xs y ys

behind_quote : (bytes rest : List ℕ) → list_all is_text bytes ≡ true
    → option_map {U = List ℕ × List ℕ} (λ n. (unescaped (take n (flat_map escaped bytes ++ 34 ∷ rest)), drop (n + 1) (flat_map escaped bytes ++ 34 ∷ rest))) (closing false (flat_map escaped bytes ++ 34 ∷ rest)) ≡ Some (bytes, rest)
behind_quote bytes rest h =
    rw (closing_escaped bytes rest h, take-append_seam (flat_map escaped bytes) (34 ∷ rest), unescaped_escaped bytes, drop_seam (flat_map escaped bytes) 34 rest) refl

quoted_read : (p : Reading (List ℕ)) (bytes rest : List ℕ) → list_all is_text bytes ≡ true → string_else p (in_quotes bytes ++ rest) ≡ Some (bytes, rest)
unfolding string_else quoted byte
quoted_read p bytes rest h = ap (λ xs. quoted (34 ∷ xs)) (append_assoc (flat_map escaped bytes) (34 ∷ []) rest) ∙ behind_quote bytes rest h

-- Literals.
all_digits : (digits : List ℕ) → are_digits digits ≡ list_all is_ascii_digit digits
all_digits [] = refl
all_digits (c ∷ cs) = ap (λ b. is_ascii_digit c && b) (all_digits cs)

number_in : Option ℕ → ℕ
number_in None = 0
number_in (Some n) = n

given : Option ℕ → Bool
given None = false
given (Some n) = true

valued : (digits small : Bool) (v n : ℕ) → cond (digits && small) (Some v) None ≡ Some n → (digits ≡ true) × (small ≡ true) × (v ≡ n)
unfolding given number_in
valued true true v n h = (refl, refl, ap number_in h)
valued true false v n h = absurd (let no : false ≡ true = ap given h in cc)
valued false small v n h = absurd (let no : false ≡ true = ap given h in cc)

digits_of : (digits : List ℕ) (n : ℕ) → decimal_value digits ≡ Some n → (list_all is_ascii_digit digits ≡ true) × (n < 2 ^ 64)
unfolding given
digits_of [] n h = absurd (let no : false ≡ true = ap given h in cc)
digits_of (c ∷ cs) n h =
    let v = valued (are_digits (c ∷ cs)) (ltb (digits_value (c ∷ cs)) (2 ^ 64)) (digits_value (c ∷ cs)) n h in
    (sym (all_digits (c ∷ cs)) ∙ v.0, let small = ltb-true (digits_value (c ∷ cs)) (2 ^ 64) v.1 in let is = v.2 in omega (arith, small, is))

number_read : (digits rest : List ℕ) (n : ℕ) → decimal_value digits ≡ Some n → begins is_ascii_digit rest ≡ false → number 0 18_446_744_073_709_551_615 (digits ++ rest) ≡ Some (n, rest)
unfolding number
number_read digits rest n value ends =
    let d = digits_of digits n value in
    let small = d.1 in
    let low : leb 0 n ≡ true = le-leb 0 n (omega arith) in
    let high : leb n 18_446_744_073_709_551_615 ≡ true = le-leb n 18_446_744_073_709_551_615 (omega (arith, small)) in
    rw (front_run is_ascii_digit digits rest d.0 ends, behind_run is_ascii_digit digits rest d.0 ends, value, low, high) refl

counted_read : (bytes rest : List ℕ) → counted (length bytes) (bytes ++ rest) ≡ Some (bytes, rest)
unfolding counted
counted_read bytes rest =
    let total = length-append bytes rest in
    let fits : leb (length bytes) (length (bytes ++ rest)) ≡ true = le-leb (length bytes) (length (bytes ++ rest)) (omega (arith, total)) in
    rw (fits, take-append_seam bytes rest, drop-append_seam bytes rest) refl

literal_read : (p : Reading (List ℕ)) (digits bytes rest : List ℕ) → decimal_value digits ≡ Some (length bytes) → string_else p (announced digits bytes ++ rest) ≡ Some (bytes, rest)
unfolding string_else literal byte
literal_read p digits bytes rest value =
    ap (λ xs. literal (123 ∷ xs)) (append_assoc digits (125 ∷ 13 ∷ 10 ∷ bytes) rest)
    ∙ rw (number_read digits (125 ∷ 13 ∷ 10 ∷ (bytes ++ rest)) (length bytes) value refl) (counted_read bytes rest)

-- A string, however it is written.
either_read : (class : Class) → is_in class 34 ≡ false → is_in class 123 ≡ false → (bytes text rest : List ℕ) → IsWritten class bytes text → begins (is_in class) rest ≡ false
    → string_else (taken_if (is_in class)) (text ++ rest) ≡ Some (bytes, rest)
either_read class quote brace bytes text rest (inl w) ends = ap (λ xs. string_else (taken_if (is_in class)) (xs ++ rest)) w.1 ∙ atom_read class quote brace bytes rest w.0 ends
either_read class quote brace bytes text rest (inr (inl w)) ends = ap (λ xs. string_else (taken_if (is_in class)) (xs ++ rest)) w.1 ∙ quoted_read (taken_if (is_in class)) bytes rest w.0
either_read class quote brace bytes text rest (inr (inr w)) ends = ap (λ xs. string_else (taken_if (is_in class)) (xs ++ rest)) w.2 ∙ literal_read (taken_if (is_in class)) w.0 bytes rest w.1

pub astring_read : (bytes text rest : List ℕ) → IsWritten Astring bytes text → begins (is_in Astring) rest ≡ false → astring (text ++ rest) ≡ Some (bytes, rest)
unfolding string_else taken_if string_or some is_atom_byte
astring_read bytes text rest w ends = either_read Astring refl refl bytes text rest w ends

pub pattern_read : (bytes text rest : List ℕ) → IsWritten Pattern bytes text → begins (is_in Pattern) rest ≡ false → pattern (text ++ rest) ≡ Some (bytes, rest)
unfolding string_else taken_if string_or some is_atom_byte
pattern_read bytes text rest w ends = either_read Pattern refl refl bytes text rest w ends

-- Commands.
tag_read : (name rest : List ℕ) → IsRun Tag name → tag (name ++ 32 ∷ rest) ≡ Some (name, rest)
unfolding tag byte some taken_if is_atom_byte
tag_read name rest run = ap (λ o. and_then o (λ name text. and_then (byte 32 text) (λ _ text. Some (name, text)))) (run_read Tag name (32 ∷ rest) run refl)

-- Names that are the same in small letters.
by_letters : (a b : List ℕ) → is_same a b ≡ pointwise eqb (map to_ascii_lowercase a) (map to_ascii_lowercase b)
by_letters [] [] = refl
by_letters [] (y ∷ ys) = refl
by_letters (x ∷ xs) [] = refl
by_letters (x ∷ xs) (y ∷ ys) = ap (λ t. eq_ignore_ascii_case x y && t) (by_letters xs ys)

same_letters : (a b : List ℕ) → is_same a b ≡ true → map to_ascii_lowercase a ≡ map to_ascii_lowercase b
same_letters a b is = (bytes_decides (map to_ascii_lowercase a) (map to_ascii_lowercase b)).0 (sym (by_letters a b) ∙ is)

named_alike : {A : Type 0} (table : List (List ℕ × A)) (a b : List ℕ) → map to_ascii_lowercase a ≡ map to_ascii_lowercase b → named table a ≡ named table b
named_alike [] a b e = refl
named_alike (x ∷ xs) a b e =
    let same : is_same a x.0 ≡ is_same b x.0 = by_letters a x.0 ∙ ap (λ letters. pointwise eqb letters (map to_ascii_lowercase x.0)) e ∙ sym (by_letters b x.0) in
    ap (λ found. cond found (Some x.1) (named xs a)) same ∙ ap (λ other. cond (is_same b x.0) (Some x.1) other) (named_alike xs a b e)

command_read : (name word rest : List ℕ) → IsName name word → begins (is_in Word) rest ≡ false → commands.command (name ++ rest) ≡ and_then (option_map (λ verb. (verb, rest)) (named verbs word)) arguments
unfolding commands.command keyword
command_read name word rest is ends = rw (front_run (is_in Word) name rest is.0 ends, behind_run (is_in Word) name rest is.0 ends, named_alike verbs name word (same_letters name word is.1)) refl

-- What is read by what stands behind the name.
read_as : (word text : List ℕ) (c : Command) → begins (is_in Word) (text ++ codes "\r\n") ≡ false
    → and_then (option_map (λ verb. (verb, text ++ codes "\r\n")) (named verbs word)) arguments ≡ Some (c, []) → IsReadAs word text c
unfolding meaning
read_as word text c ends reads t name run is =
    rw (tag_read t (name ++ (text ++ codes "\r\n")) run, command_read name word (text ++ codes "\r\n") is ends, reads) refl

pub alone_read : (word : List ℕ) (c : Command) → and_then (option_map (λ verb. (verb, codes "\r\n")) (named verbs word)) arguments ≡ alone c (codes "\r\n") → IsReadAs word [] c
unfolding alone end byte
alone_read word c is = read_as word [] c refl is

one_name_read : (bytes text : List ℕ) → IsWritten Astring bytes text → one_name (32 ∷ (text ++ codes "\r\n")) ≡ Some (bytes, [])
unfolding one_name end byte is_atom_byte
one_name_read bytes text w = rw (astring_read bytes text (codes "\r\n") w refl) refl

pub mailbox_read : (word : List ℕ) (command : List ℕ → Command)
    → ((text : List ℕ) → and_then (option_map (λ verb. (verb, text)) (named verbs word)) arguments ≡ named_mailbox command text)
    → (bytes text : List ℕ) → IsWritten Astring bytes text → IsReadAs word (codes " " ++ text) (command bytes)
mailbox_read word command is bytes text w =
    read_as word (codes " " ++ text) (command bytes) refl
    (is (32 ∷ (text ++ codes "\r\n")) ∙ ap (λ o. and_then o (λ name rest. Some (command name, rest))) (one_name_read bytes text w))

pub login_read : (name password a b : List ℕ) → IsWritten Astring name a → IsWritten Astring password b → IsReadAs (codes "LOGIN") (codes " " ++ (a ++ (codes " " ++ b))) (command.Login name password)
unfolding login end byte is_atom_byte
login_read name password a b wa wb =
    read_as (codes "LOGIN") (32 ∷ (a ++ 32 ∷ b)) (command.Login name password) refl
    (ap (λ xs. login (32 ∷ xs)) (append_assoc a (32 ∷ b) (codes "\r\n"))
    ∙ rw (astring_read name a (32 ∷ (b ++ codes "\r\n")) wa refl, astring_read password b (codes "\r\n") wb refl) refl)

pub rename_read : (from to a b : List ℕ) → IsWritten Astring from a → IsWritten Astring to b → IsReadAs (codes "RENAME") (codes " " ++ (a ++ (codes " " ++ b))) (command.Rename from to)
unfolding rename end byte is_atom_byte
rename_read from to a b wa wb =
    read_as (codes "RENAME") (32 ∷ (a ++ 32 ∷ b)) (command.Rename from to) refl
    (ap (λ xs. rename (32 ∷ xs)) (append_assoc a (32 ∷ b) (codes "\r\n"))
    ∙ rw (astring_read from a (32 ∷ (b ++ codes "\r\n")) wa refl, astring_read to b (codes "\r\n") wb refl) refl)

listing_read : (subscribed : Bool) (reference name a b : List ℕ) → IsWritten Astring reference a → IsWritten Pattern name b → listing subscribed (32 ∷ (a ++ 32 ∷ (b ++ codes "\r\n"))) ≡ Some (command.List reference name subscribed, [])
unfolding listing end byte is_atom_byte
listing_read subscribed reference name a b wa wb =
    rw (astring_read reference a (32 ∷ (b ++ codes "\r\n")) wa refl, pattern_read name b (codes "\r\n") wb refl) refl

pub list_read : (word : List ℕ) (subscribed : Bool) → ((text : List ℕ) → and_then (option_map (λ verb. (verb, text)) (named verbs word)) arguments ≡ listing subscribed text)
    → (reference name a b : List ℕ) → IsWritten Astring reference a → IsWritten Pattern name b
    → IsReadAs word (codes " " ++ (a ++ (codes " " ++ b))) (command.List reference name subscribed)
list_read word subscribed is reference name a b wa wb =
    read_as word (32 ∷ (a ++ 32 ∷ b)) (command.List reference name subscribed) refl
    (is (32 ∷ ((a ++ 32 ∷ b) ++ codes "\r\n")) ∙ ap (λ xs. listing subscribed (32 ∷ xs)) (append_assoc a (32 ∷ b) (codes "\r\n")) ∙ listing_read subscribed reference name a b wa wb)
