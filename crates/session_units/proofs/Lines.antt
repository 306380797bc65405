-- Commands and lines as units.
use Rattle.std.proofs.Common.{◌≡◌, ℕ, zero, suc, ◌≤◌, Option, Some, None, List, [], ◌∷◌, ◌++◌, take, drop, refl, sym, ◌∙◌, ap, arith, append_assoc, append-nil}
use Rattle.std.specs.Option.{option_map}
use Rattle.std.proofs.lemmas.Option.{same_Some}
use Rattle.imap_lexer.specs.declared.units.Form.{Form}
use Rattle.imap_lexer.specs.declared.units.Fed.{Fed}
use Rattle.imap_lexer.specs.Units as commands
use Rattle.imap_lexer.specs.Lexer as lexer
use Rattle.lmtp_core.specs.declared.lines.LineShown.{LineShown}
use Rattle.lmtp_core.specs.declared.lines.LineShown.TheVariants.{More, Whole, TooLong}
use Rattle.lmtp_core.specs.Lines as lines
use Rattle.session_units.specs.Awaited.{Imap, Line}
use Rattle.session_units.specs.Units.{Cut, GoesOn, first, imap_cut, line_cut}

-- a unit with more bytes behind it
abbrev pub followed : List ℕ → Option Cut → Option Cut
followed later None = None
followed later (Some cut) = Some (record { unit = cut.unit; shows = cut.shows; rest = cut.rest ++ later })

no_cut : (found : Option commands.Cut) → option_map imap_cut found ≡ None → found ≡ None
no_cut None e = refl
no_cut (Some cut) e = cc

no_line : (found : Option lines.Line) → option_map line_cut found ≡ None → found ≡ None
no_line None e = refl
no_line (Some cut) e = cc

-- Commands

pub imap-open : (form : Form) (bytes : List ℕ) → first (Imap form bytes) [] ≡ None → commands.first form bytes ≡ None
unfolding first
imap-open form bytes e = ap (commands.first form) (sym (append-nil bytes)) ∙ no_cut (commands.first form (bytes ++ [])) e

pub imap-closed : (form : Form) (bytes : List ℕ) → commands.first form bytes ≡ None → first (Imap form bytes) [] ≡ None
unfolding first
imap-closed form bytes e = ap (λ (l : List ℕ). option_map imap_cut (commands.first form l)) (append-nil bytes) ∙ ap (option_map imap_cut) e

abbrev pub ImapStays : Type 0
ImapStays = (form : Form) (bytes later : List ℕ) (cut : commands.Cut) → commands.first form bytes ≡ Some cut
    → commands.first form (bytes ++ later) ≡ Some (record { unit = cut.unit; shows = cut.shows; rest = cut.rest ++ later })

pub imap-stays : ImapStays → (form : Form) (bytes more later : List ℕ) (cut : Cut) → first (Imap form bytes) more ≡ Some cut
    → first (Imap form bytes) (more ++ later) ≡ followed later (Some cut)
unfolding first
imap-stays stays form bytes more later cut h = by (commands.first form (bytes ++ more)) refl h
  where
    by : (found : Option commands.Cut) → commands.first form (bytes ++ more) ≡ found → option_map imap_cut found ≡ Some cut
        → option_map imap_cut (commands.first form (bytes ++ (more ++ later))) ≡ followed later (Some cut)
    by None e h = cc
    by (Some its) e h =
        ap (λ (l : List ℕ). option_map imap_cut (commands.first form l)) (sym (append_assoc bytes more later))
        ∙ ap (option_map imap_cut) (stays form (bytes ++ more) later its e) ∙ ap (followed later) h

pub imap-goes_on : (form : Form) (bytes more later : List ℕ) → first (Imap form bytes) (more ++ later) ≡ first (Imap form (bytes ++ more)) later
unfolding first
imap-goes_on form bytes more later = ap (λ (l : List ℕ). option_map imap_cut (commands.first form l)) (sym (append_assoc bytes more later))

abbrev pub ImapAtLast : Type 0
ImapAtLast = (form : Form) (bytes : List ℕ) (byte : ℕ) (cut : commands.Cut) → commands.first form bytes ≡ None
    → commands.first form (bytes ++ byte ∷ []) ≡ Some cut → (cut.unit ≡ bytes ++ byte ∷ []) × (cut.rest ≡ [])

pub imap-at_last : ImapAtLast → (form : Form) (bytes : List ℕ) (byte : ℕ) (cut : Cut) → first (Imap form bytes) [] ≡ None → first (Imap form bytes) (byte ∷ []) ≡ Some cut → cut.rest ≡ []
unfolding first
imap-at_last at_last form bytes byte cut going h = by (commands.first form (bytes ++ byte ∷ [])) refl h
  where
    by : (found : Option commands.Cut) → commands.first form (bytes ++ byte ∷ []) ≡ found → option_map imap_cut found ≡ Some cut → cut.rest ≡ []
    by None e h = cc
    by (Some its) e h = ap (λ (c : Cut). c.rest) (sym (same_Some (imap_cut its) cut h)) ∙ (at_last form bytes byte its (imap-open form bytes going) e).1

-- what a lexer tells of its last byte
pub imap-fed : (old new : lexer.Awaited) (byte : ℕ) (fed : Fed) → new ≡ record { form = old.form; bytes = old.bytes ++ byte ∷ [] }
    → commands.first new.form new.bytes ≡ commands.ended (commands.ending fed) new.bytes
    → first (Imap old.form old.bytes) (byte ∷ []) ≡ option_map imap_cut (commands.ended (commands.ending fed) new.bytes)
unfolding first
imap-fed old new byte fed is cut =
    ap (λ (a : lexer.Awaited). option_map imap_cut (commands.first a.form a.bytes)) (sym is) ∙ ap (option_map imap_cut) cut

pub imap-quiet : (form : Form) (bytes more : List ℕ) → lexer.GoesOn form bytes more → GoesOn (Imap form bytes) more
unfolding first
imap-quiet form bytes [] h = tt
imap-quiet form bytes (b ∷ more) h = (ap commands.is_prompted h.0, ap (option_map imap_cut) h.1, imap-quiet form (bytes ++ b ∷ []) more h.2)

-- Lines

goes_open : (line bytes : List ℕ) → lines.line_shown line ≡ More → lines.line_behind line bytes ≡ None → lines.line_shown (line ++ bytes) ≡ More
goes_open line [] h e = ap lines.line_shown (append-nil line) ∙ h
goes_open line (b ∷ bs) h e = by (lines.line_shown (line ++ b ∷ [])) refl e (goes_open (line ++ b ∷ []) bs)
  where
    by : (shown : LineShown) → lines.line_shown (line ++ b ∷ []) ≡ shown → lines.or_later shown (line ++ b ∷ []) bs (lines.line_behind (line ++ b ∷ []) bs) ≡ None
        → (lines.line_shown (line ++ b ∷ []) ≡ More → lines.line_behind (line ++ b ∷ []) bs ≡ None → lines.line_shown ((line ++ b ∷ []) ++ bs) ≡ More)
        → lines.line_shown (line ++ b ∷ bs) ≡ More
    by More s e next = ap lines.line_shown (sym (append_assoc line (b ∷ []) bs)) ∙ next s e
    by Whole s e next = cc
    by TooLong s e next = cc

line-none : (bytes : List ℕ) → first (Line bytes) [] ≡ None → lines.first_line bytes ≡ None
unfolding first
line-none bytes e = ap lines.first_line (sym (append-nil bytes)) ∙ no_line (lines.first_line (bytes ++ [])) e

pub line-open : (bytes : List ℕ) → first (Line bytes) [] ≡ None → lines.line_shown bytes ≡ More
unfolding lines.first_line
line-open bytes e = goes_open [] bytes refl (line-none bytes e)

abbrev pub LineStays : Type 0
LineStays = (bytes later : List ℕ) (cut : lines.Line) → lines.first_line bytes ≡ Some cut
    → lines.first_line (bytes ++ later) ≡ Some (record { line = cut.line; shows = cut.shows; rest = cut.rest ++ later })

pub line-stays : LineStays → (bytes more later : List ℕ) (cut : Cut) → first (Line bytes) more ≡ Some cut → first (Line bytes) (more ++ later) ≡ followed later (Some cut)
unfolding first
line-stays stays bytes more later cut h = by (lines.first_line (bytes ++ more)) refl h
  where
    by : (found : Option lines.Line) → lines.first_line (bytes ++ more) ≡ found → option_map line_cut found ≡ Some cut
        → option_map line_cut (lines.first_line (bytes ++ (more ++ later))) ≡ followed later (Some cut)
    by None e h = cc
    by (Some its) e h =
        ap (λ (l : List ℕ). option_map line_cut (lines.first_line l)) (sym (append_assoc bytes more later))
        ∙ ap (option_map line_cut) (stays (bytes ++ more) later its e) ∙ ap (followed later) h

pub line-goes_on : (bytes more later : List ℕ) → first (Line bytes) (more ++ later) ≡ first (Line (bytes ++ more)) later
unfolding first
line-goes_on bytes more later = ap (λ (l : List ℕ). option_map line_cut (lines.first_line l)) (sym (append_assoc bytes more later))

abbrev pub LineGoesOn : Type 0
LineGoesOn = (bytes later : List ℕ) → lines.first_line bytes ≡ None → lines.first_line (bytes ++ later) ≡ lines.line_behind bytes later

pub line-at_last : LineGoesOn → (bytes : List ℕ) (byte : ℕ) (cut : Cut) → first (Line bytes) [] ≡ None → first (Line bytes) (byte ∷ []) ≡ Some cut → cut.rest ≡ []
unfolding first
line-at_last goes bytes byte cut going h =
    by (lines.line_shown (bytes ++ byte ∷ [])) (sym (ap (option_map line_cut) (goes bytes (byte ∷ []) (line-none bytes going))) ∙ h)
  where
    by : (shown : LineShown) → option_map line_cut (lines.or_later shown (bytes ++ byte ∷ []) [] None) ≡ Some cut → cut.rest ≡ []
    by More e = cc
    by Whole e = ap (λ (c : Cut). c.rest) (sym (same_Some (line_cut (record { line = bytes ++ byte ∷ []; shows = Whole; rest = [] })) cut e))
    by TooLong e = ap (λ (c : Cut). c.rest) (sym (same_Some (line_cut (record { line = bytes ++ byte ∷ []; shows = TooLong; rest = [] })) cut e))

-- one byte that a line takes
pub line-taken : (old new : List ℕ) (byte count : ℕ) → lines.line_shown old ≡ More → lines.TakesLine old new (byte ∷ []) count → count ≡ 1
line-taken old new byte count going takes = by count refl takes.within
  where
    by : (n : ℕ) → count ≡ n → n ≤ 1 → count ≡ 1
    by zero is le =
        let same : new ≡ old = takes.bytes ∙ ap (λ (k : ℕ). old ++ take k (byte ∷ [])) is ∙ append-nil old in
        takes.all (ap lines.line_shown same ∙ going)
    by (suc zero) is le = is
    by (suc (suc n)) is le = absurd (omega arith)

pub line-bytes : (old new : List ℕ) (byte count : ℕ) → first (Line old) [] ≡ None → lines.TakesLine old new (byte ∷ []) count → new ≡ old ++ byte ∷ []
line-bytes old new byte count going takes = takes.bytes ∙ ap (λ (k : ℕ). old ++ take k (byte ∷ [])) (line-taken old new byte count (line-open old going) takes)

pub line-fed : LineGoesOn → (old new : List ℕ) (byte count : ℕ) → first (Line old) [] ≡ None → lines.TakesLine old new (byte ∷ []) count
    → first (Line old) (byte ∷ []) ≡ option_map line_cut (lines.or_later (lines.line_shown new) new [] None)
unfolding first
line-fed goes old new byte count going takes =
    ap (option_map line_cut) (goes old (byte ∷ []) (line-none old going) ∙ takes.cut
    ∙ ap (λ (k : ℕ). lines.or_later (lines.line_shown new) new (drop k (byte ∷ [])) None) (line-taken old new byte count (line-open old going) takes))
