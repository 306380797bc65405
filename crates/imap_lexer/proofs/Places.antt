-- Where the lines and literals of a unit stand among its bytes.
use Rattle.std.proofs.Common.{ℕ, zero, suc, ◌≡◌, ◌<◌, ◌≤◌, ◌+◌, ◌-◌, nat_lt, nat_eq, cond, Bool, true, false, List, [], ◌∷◌, ◌++◌, Option, Some, None, length, drop, refl, ap, sym, ◌∙◌, subst, append-nil, append_assoc, length-append, length-drop, Result, Ok, Err, OnErr, is_ok, arith}
use Rattle.std.proofs.lemmas.List.{drop_all, drop-append-le}
use Rattle.std.proofs.lemmas.Bool.Decides.{nat_tests}
use Rattle.std.specs.List.{ends_with}
use Rattle.imap_lexer.specs.declared.units.Form.{Form}
use Rattle.imap_lexer.specs.declared.units.Fed.{Fed}
use Rattle.imap_lexer.specs.declared.units.Fed.TheVariants.{More, Continue, Unit as Whole, LineTooLong, LiteralTooLong}
use Rattle.imap_lexer.specs.declared.literals.LineRead.{LineRead}
use Rattle.imap_lexer.specs.Literals.{line_end, literal_behind}
use Rattle.imap_lexer.specs.Units.{Reading, behind_line, behind_line_byte, ending, first, line_limit, literal_limit, reading, reads, reads_byte, shown, unread}
use Rattle.imap_lexer.specs.Lexer.{GoesOn, IsPlaced, IsRead, line_so_far}
use Rattle.imap_lexer.proofs.Cuts.{fed-next, first-shows}

-- how a reading stands to its bytes
record IsGood (bytes : List ℕ) (r : Reading) : Type 0 where
  line : r.line ≡ drop (r.lines + r.literals) bytes
  left : r.left ≡ r.lines + r.literals - length bytes
  short : ending r.shows ≡ None → length bytes ≤ line_limit + r.literals
  lines : r.lines ≤ line_limit
  literals : r.literals ≤ literal_limit

pub not_below : (a b : ℕ) → nat_lt a b ≡ false → b ≤ a
not_below a b h = grind (arith, nat_tests, h)

good-continue : (bytes : List ℕ) (lines literals count : ℕ) → lines ≤ line_limit → literals ≤ literal_limit → lines + literals ≤ length bytes
    → lines + length (drop (lines + literals) bytes) ≤ line_limit → literals + count ≤ literal_limit
    → IsGood bytes (record { shows = Continue; line = []; lines = lines + length (drop (lines + literals) bytes); literals = literals + count; left = count })
good-continue bytes lines literals count a b begun fits within =
    let long : length (drop (lines + literals) bytes) + (lines + literals) ≡ length bytes = omega (arith, length-drop (lines + literals) bytes, begun) in
    record {
      line = sym (drop_all (lines + length (drop (lines + literals) bytes) + (literals + count)) bytes (omega (arith, long)));
      left = omega (arith, long);
      short = λ e. omega (arith, long, fits);
      lines = fits;
      literals = within;
    }

good-ended : (fed : Fed) (bytes : List ℕ) (lines literals : ℕ) → lines ≤ line_limit → literals ≤ literal_limit → lines + literals ≤ length bytes
    → (ending fed ≡ None → length bytes ≤ line_limit + literals)
    → IsGood bytes (record { shows = fed; line = drop (lines + literals) bytes; lines = lines; literals = literals; left = 0 })
good-ended fed bytes lines literals a b begun short = record { line = refl; left = omega (arith, begun); short = short; lines = a; literals = b }

good-line : (form : Form) (bytes : List ℕ) (lines literals : ℕ) → lines ≤ line_limit → literals ≤ literal_limit → lines + literals ≤ length bytes
    → IsGood bytes (behind_line_byte form (line_so_far (drop (lines + literals) bytes) lines literals))
good-line form bytes lines literals a b begun = by (nat_lt line_limit (lines + length line)) refl
  where
    line : List ℕ
    line = drop (lines + literals) bytes

    at_count : (more : Bool) (count : ℕ) → nat_lt literal_limit (literals + count) ≡ more → lines + length line ≤ line_limit
        → IsGood bytes (cond more (record { shows = LiteralTooLong; line = line; lines = lines; literals = literals; left = 0 })
        (record { shows = Continue; line = []; lines = lines + length line; literals = literals + count; left = count }))
    at_count true count h fits = good-ended LiteralTooLong bytes lines literals a b begun (λ e. cc)
    at_count false count h fits = good-continue bytes lines literals count a b begun fits (not_below literal_limit (literals + count) h)

    at_end : (found : Option ℕ) → lines + length line ≤ line_limit → IsGood bytes (behind_line (line_so_far line lines literals) found)
    at_end None fits = good-ended Whole bytes lines literals a b begun (λ e. cc)
    at_end (Some count) fits = at_count (nat_lt literal_limit (literals + count)) count refl fits

    at_byte : (ends : Bool) → lines + length line ≤ line_limit
        → IsGood bytes (cond ends (behind_line (line_so_far line lines literals) (literal_behind form line)) (line_so_far line lines literals))
    at_byte true fits = at_end (literal_behind form line) fits
    at_byte false fits = good-ended More bytes lines literals a b begun (λ e. omega (arith, length-drop (lines + literals) bytes, begun, fits))

    by : (long : Bool) → nat_lt line_limit (lines + length line) ≡ long
        → IsGood bytes (cond long (record { shows = LineTooLong; line = line; lines = lines; literals = literals; left = 0 })
        (cond (ends_with nat_eq line line_end) (behind_line (line_so_far line lines literals) (literal_behind form line)) (line_so_far line lines literals)))
    by true h = good-ended LineTooLong bytes lines literals a b begun (λ e. cc)
    by false h = at_byte (ends_with nat_eq line line_end) (not_below line_limit (lines + length line) h)

one_more : (bytes : List ℕ) (byte : ℕ) → length (bytes ++ byte ∷ []) ≡ length bytes + 1
one_more bytes byte = length-append bytes (byte ∷ [])

-- a byte of a literal, and a byte of a line
pub byte-literal : (form : Form) (r : Reading) (byte : ℕ) → 0 < r.left
    → reads_byte form r byte ≡ record { shows = More; line = r.line; lines = r.lines; literals = r.literals; left = r.left - 1 }
byte-literal form r byte h =
    let test : nat_lt 0 r.left ≡ true = grind (arith, nat_tests, h) in rw test refl

byte-line : (form : Form) (seen : List ℕ) (r : Reading) (byte : ℕ) → IsGood seen r → r.left ≡ 0
    → reads_byte form r byte ≡ behind_line_byte form (line_so_far (drop (r.lines + r.literals) (seen ++ byte ∷ [])) r.lines r.literals)
byte-line form seen r byte good h =
    let test : nat_lt 0 r.left ≡ false = grind (arith, nat_tests, h) in
    let line : r.line ++ byte ∷ [] ≡ drop (r.lines + r.literals) (seen ++ byte ∷ []) =
    ap (λ (l : List ℕ). l ++ byte ∷ []) good.line ∙ sym (drop-append-le (r.lines + r.literals) seen (byte ∷ []) (omega (arith, good.left, h))) in
    rw test (ap (λ (l : List ℕ). behind_line_byte form (line_so_far l r.lines r.literals)) line)

good-byte : (form : Form) (seen : List ℕ) (r : Reading) (byte : ℕ) → IsGood seen r → IsGood (seen ++ byte ∷ []) (reads_byte form r byte)
good-byte form seen r byte good = by r.left refl
  where
    long : length (seen ++ byte ∷ []) ≡ length seen + 1
    long = one_more seen byte

    by : (left : ℕ) → r.left ≡ left → IsGood (seen ++ byte ∷ []) (reads_byte form r byte)
    by zero h = rw (byte-line form seen r byte good h)
        (good-line form (seen ++ byte ∷ []) r.lines r.literals good.lines good.literals (omega (arith, long, good.left, h)))
    by (suc n) h = rw (byte-literal form r byte (omega (arith, h)))
        (record {
          line = good.line ∙ drop_all (r.lines + r.literals) seen (omega (arith, good.left, h)) ∙ sym (drop_all (r.lines + r.literals) (seen ++ byte ∷ []) (omega (arith, good.left, h, long)));
          left = omega (arith, good.left, h, long);
          short = λ e. omega (arith, good.left, good.lines, h, long);
          lines = good.lines;
          literals = good.literals;
        })

good-reads : (form : Form) (bytes seen : List ℕ) (r : Reading) → IsGood seen r → IsGood (seen ++ bytes) (reads form r bytes)
good-reads form [] seen r good = subst (λ (l : List ℕ). IsGood l r) (sym (append-nil seen)) good
good-reads form (c ∷ cs) seen r good =
    subst (λ (l : List ℕ). IsGood l (reads form r (c ∷ cs))) (append_assoc seen (c ∷ []) cs)
    (good-reads form cs (seen ++ c ∷ []) (reads_byte form r c) (good-byte form seen r c good))

good : (form : Form) (bytes : List ℕ) → IsGood bytes (reading form bytes)
unfolding reading
good form bytes = good-reads form bytes [] unread (record { line = refl; left = refl; short = λ e. omega arith; lines = omega arith; literals = omega arith })

reads-next : (form : Form) (bytes : List ℕ) (byte : ℕ) (r : Reading) → reads form r (bytes ++ byte ∷ []) ≡ reads_byte form (reads form r bytes) byte
reads-next form [] byte r = refl
reads-next form (c ∷ cs) byte r = reads-next form cs byte (reads_byte form r c)

next : (form : Form) (bytes : List ℕ) (byte : ℕ) → reading form (bytes ++ byte ∷ []) ≡ reads_byte form (reading form bytes) byte
unfolding reading
next form bytes byte = reads-next form bytes byte unread

-- The same as a lexer meets it, which knows these numbers.

pub on_err : {A E : Type 0} {P : Type 0} (result : Result A E) → P → OnErr result P
on_err (Ok x) h = tt
on_err (Err e) h = h

pub lines-small : (form : Form) (bytes : List ℕ) (lines : ℕ) → lines ≡ (reading form bytes).lines → lines ≤ line_limit
lines-small form bytes lines e = subst (λ (n : ℕ). n ≤ line_limit) (sym e) (good form bytes).lines

pub literals-small : (form : Form) (bytes : List ℕ) (literals : ℕ) → literals ≡ (reading form bytes).literals → literals ≤ literal_limit
literals-small form bytes literals e = subst (λ (n : ℕ). n ≤ literal_limit) (sym e) (good form bytes).literals

left_is : (form : Form) (bytes : List ℕ) (lines literals room : ℕ) → IsPlaced form bytes lines literals room → (reading form bytes).left ≡ lines + literals - length bytes
left_is form bytes lines literals room p = omega (arith, (good form bytes).left, p.lines_are, p.literals_are)

pub in_literal : (form : Form) (bytes : List ℕ) (lines literals room : ℕ) → IsPlaced form bytes lines literals room → length bytes < lines + literals
    → 0 < (reading form bytes).left
in_literal form bytes lines literals room p h = omega (arith, left_is form bytes lines literals room p, h)

-- a line has room for a byte more
pub line-room : (form : Form) (bytes : List ℕ) (lines literals room : ℕ) → IsPlaced form bytes lines literals room → lines + literals ≤ length bytes → first form bytes ≡ None
    → length bytes < room
line-room form bytes lines literals room p h e =
    omega (arith, left_is form bytes lines literals room p, p.roomy, p.literals_are, (good form bytes).short (first-shows form bytes e), h)

literal-next : (form : Form) (bytes new : List ℕ) (byte lines literals room : ℕ) → IsPlaced form bytes lines literals room → length bytes < lines + literals → new ≡ bytes ++ byte ∷ []
    → reading form new ≡ record { shows = More; line = (reading form bytes).line; lines = (reading form bytes).lines; literals = (reading form bytes).literals; left = (reading form bytes).left - 1 }
literal-next form bytes new byte lines literals room p h e =
    ap (reading form) e ∙ next form bytes byte ∙ byte-literal form (reading form bytes) byte (in_literal form bytes lines literals room p h)

pub literal-shown : (form : Form) (bytes new : List ℕ) (byte lines literals room : ℕ) → IsPlaced form bytes lines literals room → length bytes < lines + literals → new ≡ bytes ++ byte ∷ []
    → More ≡ shown form new
literal-shown form bytes new byte lines literals room p h e = sym (ap (λ (r : Reading). r.shows) (literal-next form bytes new byte lines literals room p h e))

pub literal-placed : (form : Form) (bytes new : List ℕ) (byte lines literals room room' : ℕ) → IsPlaced form bytes lines literals room → length bytes < lines + literals → new ≡ bytes ++ byte ∷ []
    → length bytes + (line_limit + 2) ≤ room' → IsPlaced form new lines literals room'
literal-placed form bytes new byte lines literals room room' p h e fits =
    let is = literal-next form bytes new byte lines literals room p h e in
    record {
      lines_are = p.lines_are ∙ sym (ap (λ (r : Reading). r.lines) is);
      literals_are = p.literals_are ∙ sym (ap (λ (r : Reading). r.literals) is);
      roomy = rw is (omega (arith, left_is form bytes lines literals room p, p.literals_are, fits, h));
    }

-- the byte of a literal was taken, or it was not
pub literal-pushed : {A E : Type 0} (result : Result A E) (form : Form) (bytes new : List ℕ) (byte lines literals room room' : ℕ)
    → new ≡ cond (is_ok result) (bytes ++ byte ∷ []) bytes → IsPlaced form bytes lines literals room → length bytes < lines + literals → room ≤ room'
    → length bytes + (line_limit + 2) ≤ room' → IsPlaced form new lines literals room'
literal-pushed (Ok x) form bytes new byte lines literals room room' e p h more fits = literal-placed form bytes new byte lines literals room room' p h e fits
literal-pushed (Err x) form bytes new byte lines literals room room' e p h more fits =
    rw e (record { lines_are = p.lines_are; literals_are = p.literals_are; roomy = omega (arith, p.roomy, more) })

-- The same where bytes of a literal come together.

pub literal-left : (form : Form) (bytes : List ℕ) (lines literals room : ℕ) → IsPlaced form bytes lines literals room → (reading form bytes).left ≡ lines + literals - length bytes
literal-left form bytes lines literals room p = left_is form bytes lines literals room p

literal-first : (form : Form) (bytes : List ℕ) (byte lines literals room : ℕ) → IsPlaced form bytes lines literals room → length bytes < lines + literals
    → IsPlaced form (bytes ++ byte ∷ []) lines literals (length bytes + (line_limit + 2))
literal-first form bytes byte lines literals room p h = literal-placed form bytes (bytes ++ byte ∷ []) byte lines literals room (length bytes + (line_limit + 2)) p h refl (omega arith)

pub literals-placed : (form : Form) (bytes more : List ℕ) (lines literals room room' : ℕ) → IsPlaced form bytes lines literals room → length bytes + length more ≤ lines + literals
    → length bytes + length more + (line_limit + 1) ≤ room' → IsPlaced form (bytes ++ more) lines literals room'
literals-placed form bytes [] lines literals room room' p h fits =
    subst (λ (l : List ℕ). IsPlaced form l lines literals room') (sym (append-nil bytes))
    (record { lines_are = p.lines_are; literals_are = p.literals_are; roomy = omega (arith, left_is form bytes lines literals room p, p.literals_are, fits) })
literals-placed form bytes (b ∷ bs) lines literals room room' p h fits =
    subst (λ (l : List ℕ). IsPlaced form l lines literals room') (append_assoc bytes (b ∷ []) bs)
    (literals-placed form (bytes ++ b ∷ []) bs lines literals (length bytes + (line_limit + 2)) room' (literal-first form bytes b lines literals room p (omega (arith, h)))
    (omega (arith, h, one_more bytes b)) (omega (arith, fits, one_more bytes b)))

-- they were taken, or they were not
pub literals-extended : {A E : Type 0} (result : Result A E) (form : Form) (bytes new more : List ℕ) (lines literals room room' : ℕ)
    → new ≡ cond (is_ok result) (bytes ++ more) bytes → IsPlaced form bytes lines literals room → length bytes + length more ≤ lines + literals → room ≤ room'
    → length bytes + length more + (line_limit + 1) ≤ room' → IsPlaced form new lines literals room'
literals-extended (Ok x) form bytes new more lines literals room room' e p h larger fits = rw e (literals-placed form bytes more lines literals room room' p h fits)
literals-extended (Err x) form bytes new more lines literals room room' e p h larger fits =
    rw e (record { lines_are = p.lines_are; literals_are = p.literals_are; roomy = omega (arith, p.roomy, larger) })

literal-none : (form : Form) (bytes : List ℕ) (byte lines literals room : ℕ) → IsPlaced form bytes lines literals room → length bytes < lines + literals → first form bytes ≡ None
    → first form (bytes ++ byte ∷ []) ≡ None
literal-none form bytes byte lines literals room p h none =
    fed-next form bytes (bytes ++ byte ∷ []) byte More none refl (literal-shown form bytes (bytes ++ byte ∷ []) byte lines literals room p h refl)

pub literals-none : (form : Form) (bytes more : List ℕ) (lines literals room : ℕ) → IsPlaced form bytes lines literals room → length bytes + length more ≤ lines + literals → first form bytes ≡ None
    → first form (bytes ++ more) ≡ None
literals-none form bytes [] lines literals room p h none = ap (first form) (append-nil bytes) ∙ none
literals-none form bytes (b ∷ bs) lines literals room p h none =
    ap (first form) (sym (append_assoc bytes (b ∷ []) bs))
    ∙ literals-none form (bytes ++ b ∷ []) bs lines literals (length bytes + (line_limit + 2)) (literal-first form bytes b lines literals room p (omega (arith, h)))
    (omega (arith, h, one_more bytes b)) (literal-none form bytes b lines literals room p (omega (arith, h)) none)

pub literals-go_on : (form : Form) (bytes more : List ℕ) (lines literals room : ℕ) → IsPlaced form bytes lines literals room → length bytes + length more ≤ lines + literals → first form bytes ≡ None
    → GoesOn form bytes more
literals-go_on form bytes [] lines literals room p h none = tt
literals-go_on form bytes (b ∷ bs) lines literals room p h none =
    let within : length bytes < lines + literals = omega (arith, h) in
    let is_none = literal-none form bytes b lines literals room p within none in (
      sym (literal-shown form bytes (bytes ++ b ∷ []) b lines literals room p within refl),
      is_none,
      literals-go_on form (bytes ++ b ∷ []) bs lines literals (length bytes + (line_limit + 2)) (literal-first form bytes b lines literals room p within) (omega (arith, h, one_more bytes b)) is_none,
    )

line-next : (form : Form) (bytes new : List ℕ) (byte lines literals room : ℕ) → IsPlaced form bytes lines literals room → lines + literals ≤ length bytes → new ≡ bytes ++ byte ∷ []
    → reading form new ≡ behind_line_byte form (line_so_far (drop (lines + literals) new) lines literals)
line-next form bytes new byte lines literals room p h e =
    ap (reading form) e ∙ next form bytes byte
    ∙ byte-line form bytes (reading form bytes) byte (good form bytes) (omega (arith, left_is form bytes lines literals room p, h))
    ∙ rw (← e, ← p.lines_are, ← p.literals_are) refl

pub line-shown : (form : Form) (bytes new : List ℕ) (byte lines literals room : ℕ) (read : LineRead) → IsPlaced form bytes lines literals room → lines + literals ≤ length bytes
    → new ≡ bytes ++ byte ∷ [] → IsRead read (behind_line_byte form (line_so_far (drop (lines + literals) new) lines literals)) → read.fed ≡ shown form new
line-shown form bytes new byte lines literals room read p h e is = is.shows ∙ sym (ap (λ (r : Reading). r.shows) (line-next form bytes new byte lines literals room p h e))

-- a line takes nothing of the room for literals
line-came : (form : Form) (line : List ℕ) (lines literals : ℕ)
    → (behind_line_byte form (line_so_far line lines literals)).literals - (behind_line_byte form (line_so_far line lines literals)).left ≡ literals
line-came form line lines literals = by (nat_lt line_limit (lines + length line))
  where
    came : Reading → ℕ
    came r = r.literals - r.left

    at_count : (more : Bool) (count : ℕ)
        → came (cond more (record { shows = LiteralTooLong; line = line; lines = lines; literals = literals; left = 0 })
        (record { shows = Continue; line = []; lines = lines + length line; literals = literals + count; left = count })) ≡ literals
    at_count true count = omega arith
    at_count false count = omega arith

    at_end : (found : Option ℕ) → came (behind_line (line_so_far line lines literals) found) ≡ literals
    at_end None = omega arith
    at_end (Some count) = at_count (nat_lt literal_limit (literals + count)) count

    at_byte : (ends : Bool) → came (cond ends (behind_line (line_so_far line lines literals) (literal_behind form line)) (line_so_far line lines literals)) ≡ literals
    at_byte true = at_end (literal_behind form line)
    at_byte false = omega arith

    by : (long : Bool) → came (cond long (record { shows = LineTooLong; line = line; lines = lines; literals = literals; left = 0 })
        (cond (ends_with nat_eq line line_end) (behind_line (line_so_far line lines literals) (literal_behind form line)) (line_so_far line lines literals))) ≡ literals
    by true = omega arith
    by false = at_byte (ends_with nat_eq line line_end)

pub line-placed : (form : Form) (bytes new : List ℕ) (byte lines literals room room' : ℕ) (read : LineRead) → IsPlaced form bytes lines literals room → lines + literals ≤ length bytes
    → new ≡ bytes ++ byte ∷ [] → IsRead read (behind_line_byte form (line_so_far (drop (lines + literals) new) lines literals)) → room ≤ room'
    → IsPlaced form new read.lines read.literals room'
line-placed form bytes new byte lines literals room room' read p h e is more =
    let same = line-next form bytes new byte lines literals room p h e in
    record {
      lines_are = is.lines ∙ sym (ap (λ (r : Reading). r.lines) same);
      literals_are = is.literals ∙ sym (ap (λ (r : Reading). r.literals) same);
      roomy = rw same (omega (arith, line-came form (drop (lines + literals) new) lines literals, left_is form bytes lines literals room p, p.literals_are, p.roomy, more, h));
    }
