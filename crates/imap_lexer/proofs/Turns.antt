-- Lines and literals in turn, as they are read byte by byte.
use Rattle.std.proofs.Common.{ℕ, zero, suc, ◌≡◌, ◌<◌, ◌≤◌, ◌+◌, ◌-◌, nat_lt, nat_eq, cond, Bool, true, false, List, [], ◌∷◌, ◌++◌, Option, Some, None, length, map, refl, ap, sym, ◌∙◌, subst, append-nil, append_assoc, length-append, ◌⊎◌, inl, inr, ⊎_elim, arith}
use Rattle.std.proofs.lemmas.List.Sums.{sum_by-cons}
use Rattle.std.proofs.lemmas.Bool.Decides.{nat_tests, Decides-eqb}
use Rattle.std.proofs.lemmas.Slice.Eq.{ends_is}
use Rattle.std.specs.List.{ends_with}
use Rattle.imap_lexer.specs.declared.units.Form.{Form}
use Rattle.imap_lexer.specs.declared.units.Fed.{Fed}
use Rattle.imap_lexer.specs.declared.units.Fed.TheVariants.{More, Continue, Unit as Whole, LineTooLong, LiteralTooLong}
use Rattle.imap_lexer.specs.declared.units.Shown.{Shown}
use Rattle.imap_lexer.specs.declared.units.Shown.TheVariants.{Unit as ShowsUnit}
use Rattle.imap_lexer.specs.Literals.{line_end, literal_behind}
use Rattle.imap_lexer.specs.Units.{Cut, Reading, behind_byte, behind_line, ending, first, line_limit, literal_limit, reading, reads, reads_byte, shortest, shown, unless_more, unread}
use Rattle.imap_lexer.specs.Lexer.{line_so_far}
use Rattle.imap_lexer.proofs.Places.{byte-literal, not_below}
use Rattle.imap_lexer.specs.Turns.{Turn, Written, AreTurns, IsLine, IsUnit, fronts, in_turn, line_bytes, literal_bytes, more_in, shown_in_turn, with_end}

-- what bytes show one after another, behind a reading
abbrev trace : Form → Reading → List ℕ → List Fed
trace form r [] = []
trace form r (byte ∷ bytes) = (reads_byte form r byte).shows ∷ trace form (reads_byte form r byte) bytes

abbrev at : Fed → List ℕ → ℕ → ℕ → ℕ → Reading
at shows line lines literals left = record { shows = shows; line = line; lines = lines; literals = literals; left = left }

map-map : {A B C : Type 0} (f : B → C) (g : A → B) (xs : List A) → map f (map g xs) ≡ map (λ x. f (g x)) xs
map-map f g [] = refl
map-map f g (x ∷ xs) = ap (λ ys. f (g x) ∷ ys) (map-map f g xs)

trace-fronts : (form : Form) (r : Reading) (bytes : List ℕ) → map (λ front. (reads form r front).shows) (fronts bytes) ≡ trace form r bytes
trace-fronts form r [] = refl
trace-fronts form r (b ∷ bs) =
    ap (λ (feds : List Fed). (reads_byte form r b).shows ∷ feds)
    (map-map (λ (front : List ℕ). (reads form r front).shows) (λ (front : List ℕ). b ∷ front) (fronts bs) ∙ trace-fronts form (reads_byte form r b) bs)

-- A byte of a line.

not_over : (a b : ℕ) → b ≤ a → nat_lt a b ≡ false
not_over a b h = grind (arith, nat_tests, h)

byte-quiet : (form : Form) (s : Fed) (line : List ℕ) (lines literals b : ℕ) → ends_with nat_eq (line ++ b ∷ []) line_end ≡ false → lines + length (line ++ b ∷ []) ≤ line_limit
    → reads_byte form (at s line lines literals 0) b ≡ at More (line ++ b ∷ []) lines literals 0
byte-quiet form s line lines literals b e h = rw (not_over line_limit (lines + length (line ++ b ∷ [])) h, e) refl

byte-ends : (form : Form) (s : Fed) (line : List ℕ) (lines literals b : ℕ) → ends_with nat_eq (line ++ b ∷ []) line_end ≡ true → lines + length (line ++ b ∷ []) ≤ line_limit
    → reads_byte form (at s line lines literals 0) b ≡ behind_line (line_so_far (line ++ b ∷ []) lines literals) (literal_behind form (line ++ b ∷ []))
byte-ends form s line lines literals b e h = rw (not_over line_limit (lines + length (line ++ b ∷ [])) h, e) refl

-- no front of a text ends with CRLF
abbrev Quiet : List ℕ → Type 0
Quiet text = (front behind : List ℕ) → text ≡ front ++ behind → ends_with nat_eq front line_end ≡ false

trace-same : (form : Form) (s : Fed) (line : List ℕ) (lines literals : ℕ) (bytes : List ℕ) → trace form (at s line lines literals 0) bytes ≡ trace form (at More line lines literals 0) bytes
trace-same form s line lines literals [] = refl
trace-same form s line lines literals (b ∷ bs) = refl

trace-line : (form : Form) (s : Fed) (seen : List ℕ) (lines literals : ℕ) (bs rest : List ℕ) → Quiet (seen ++ bs) → lines + length (seen ++ bs) ≤ line_limit
    → trace form (at s seen lines literals 0) (bs ++ rest) ≡ more_in bs ++ trace form (at More (seen ++ bs) lines literals 0) rest
trace-line form s seen lines literals [] rest quiet fits =
    trace-same form s seen lines literals rest ∙ ap (λ (l : List ℕ). trace form (at More l lines literals 0) rest) (sym (append-nil seen))
trace-line form s seen lines literals (b ∷ bs) rest quiet fits =
    let assoc : (seen ++ b ∷ []) ++ bs ≡ seen ++ b ∷ bs = append_assoc seen (b ∷ []) bs in
    let short : lines + length (seen ++ b ∷ []) ≤ line_limit = omega (arith, fits, length-append seen (b ∷ []), length-append seen (b ∷ bs)) in
    rw (byte-quiet form s seen lines literals b (quiet (seen ++ b ∷ []) bs (sym assoc)) short)
    (ap (λ (feds : List Fed). More ∷ feds)
    (trace-line form More (seen ++ b ∷ []) lines literals bs rest (subst Quiet (sym assoc) quiet) (subst (λ (l : List ℕ). lines + length l ≤ line_limit) (sym assoc) fits)
    ∙ ap (λ (l : List ℕ). more_in bs ++ trace form (at More l lines literals 0) rest) assoc))

-- where a line holds no CRLF, none ends before its own

seam : (line front behind : List ℕ) → line ++ 13 ∷ [] ≡ front ++ line_end ++ behind → (rest : List ℕ) × (line ≡ front ++ line_end ++ rest)
seam [] [] behind e = absurd cc
seam (a ∷ []) [] behind e = absurd cc
seam (a ∷ b ∷ ls) [] behind e = (ls, cc)
seam [] (y ∷ []) behind e = absurd cc
seam [] (y ∷ z ∷ ys) behind e = absurd cc
seam (a ∷ ls) (y ∷ ys) behind e =
    let same : a ≡ y = cc in
    let tail : ls ++ 13 ∷ [] ≡ ys ++ line_end ++ behind = cc in
    let more = seam ls ys behind tail in
    (more.0, rw (same, ← more.1) refl)

ends-true : (text : List ℕ) → ends_with nat_eq text line_end ≡ true → (front : List ℕ) × (text ≡ front ++ line_end)
ends-true text e = (_, (ends_is Decides-eqb text line_end (ends_with nat_eq text line_end) refl).0 e)

ends-own : (front : List ℕ) → ends_with nat_eq (front ++ line_end) line_end ≡ true
ends-own front = (ends_is Decides-eqb (front ++ line_end) line_end (ends_with nat_eq (front ++ line_end) line_end) refl).1 front refl

not_true : (b : Bool) → (b ≡ true → ⊥) → b ≡ false
not_true true h = absurd (h refl)
not_true false h = refl

quiet-line : (line : List ℕ) → IsLine line → Quiet (line ++ 13 ∷ [])
quiet-line line one front behind e = not_true (ends_with nat_eq front line_end) (λ h.
    let x = ends-true front h in
    let more = seam line x.0 behind (e ∙ ap (λ (l : List ℕ). l ++ behind) x.1) in
    one x.0 more.0 more.1)

-- A line and what its end shows.

end-more : (line rest : List ℕ) → with_end line ++ rest ≡ (line ++ 13 ∷ []) ++ 10 ∷ rest
end-more line rest = append_assoc line line_end rest ∙ sym (append_assoc line (13 ∷ []) (10 ∷ rest))

more-cr : (line : List ℕ) (feds : List Fed) → more_in (line ++ 13 ∷ []) ++ feds ≡ more_in line ++ More ∷ feds
more-cr [] feds = refl
more-cr (b ∷ bs) feds = ap (λ (l : List Fed). More ∷ l) (more-cr bs feds)

trace-end : (form : Form) (s : Fed) (line : List ℕ) (lines literals : ℕ) (rest : List ℕ) (r : Reading) → IsLine line → lines + length (with_end line) ≤ line_limit
    → behind_line (line_so_far (with_end line) lines literals) (literal_behind form (with_end line)) ≡ r
    → trace form (at s [] lines literals 0) (with_end line ++ rest) ≡ more_in line ++ More ∷ r.shows ∷ trace form r rest
trace-end form s line lines literals rest r one fits e =
    let lf : (line ++ 13 ∷ []) ++ 10 ∷ [] ≡ with_end line = append_assoc line (13 ∷ []) (10 ∷ []) in
    let short : lines + length (line ++ 13 ∷ []) ≤ line_limit = omega (arith, fits, length-append line (13 ∷ []), length-append line line_end) in
    let last : reads_byte form (at More (line ++ 13 ∷ []) lines literals 0) 10 ≡ r =
    byte-ends form More (line ++ 13 ∷ []) lines literals 10 (rw lf (ends-own line)) (rw lf fits) ∙ ap (λ (l : List ℕ). behind_line (line_so_far l lines literals) (literal_behind form l)) lf ∙ e in
    ap (trace form (at s [] lines literals 0)) (end-more line rest)
    ∙ trace-line form s [] lines literals (line ++ 13 ∷ []) (10 ∷ rest) (quiet-line line one) short
    ∙ ap (λ (r' : Reading). more_in (line ++ 13 ∷ []) ++ r'.shows ∷ trace form r' rest) last
    ∙ more-cr line (r.shows ∷ trace form r rest)

trace-literal : (form : Form) (s : Fed) (line : List ℕ) (lines literals left : ℕ) (literal rest : List ℕ) → left ≡ length literal
    → trace form (at s line lines literals left) (literal ++ rest) ≡ more_in literal ++ trace form (at More line lines literals 0) rest
trace-literal form s line lines literals left [] rest e =
    ap (λ n. trace form (at s line lines literals n) rest) e ∙ trace-same form s line lines literals rest
trace-literal form s line lines literals left (b ∷ bs) rest e =
    let one : reads_byte form (at s line lines literals left) b ≡ at More line lines literals (left - 1) = byte-literal form (at s line lines literals left) b (omega (arith, e)) in
    rw one (ap (λ (l : List Fed). More ∷ l) (trace-literal form More line lines literals (left - 1) bs rest (omega (arith, e))))

announced-fits : (line : List ℕ) (lines literals count : ℕ) → literals + count ≤ literal_limit
    → behind_line (line_so_far line lines literals) (Some count) ≡ at Continue [] (lines + length line) (literals + count) count
announced-fits line lines literals count h = rw (not_over literal_limit (literals + count) h) refl

lines-step : (turn : Turn) (turns : List Turn) (last : List ℕ) → line_bytes (turn ∷ turns) last ≡ length (with_end turn.line) + line_bytes turns last
lines-step turn turns last = omega (arith, sum_by-cons (λ (t : Turn). length (with_end t.line)) turn turns)

literals-step : (turn : Turn) (turns : List Turn) → literal_bytes (turn ∷ turns) ≡ length turn.literal + literal_bytes turns
literals-step turn turns = sum_by-cons (λ (t : Turn). length t.literal) turn turns

trace-turns : (form : Form) (s : Fed) (turns : List Turn) (last : List ℕ) (lines literals : ℕ) → AreTurns form turns → IsLine last → literal_behind form (with_end last) ≡ None
    → lines + line_bytes turns last ≤ line_limit → literals + literal_bytes turns ≤ literal_limit
    → trace form (at s [] lines literals 0) (in_turn turns last) ≡ shown_in_turn turns last
trace-turns form s [] last lines literals are one none fits within =
    ap (trace form (at s [] lines literals 0)) (sym (append-nil (with_end last)))
    ∙ trace-end form s last lines literals [] (at Whole (with_end last) lines literals 0) one (omega (arith, fits)) (rw none refl)
trace-turns form s (turn ∷ turns) last lines literals are one none fits within =
    let len : ℕ = length (with_end turn.line) in
    let r : Reading = at Continue [] (lines + len) (literals + length turn.literal) (length turn.literal) in
    trace-end form s turn.line lines literals (turn.literal ++ in_turn turns last) r are.0.line (omega (arith, fits, lines-step turn turns last))
    (rw are.0.announced (announced-fits (with_end turn.line) lines literals (length turn.literal) (omega (arith, within, literals-step turn turns))))
    ∙ ap (λ (l : List Fed). more_in turn.line ++ More ∷ Continue ∷ l)
    (trace-literal form Continue [] (lines + len) (literals + length turn.literal) (length turn.literal) turn.literal (in_turn turns last) refl
    ∙ ap (λ (l : List Fed). more_in turn.literal ++ l)
    (trace-turns form More turns last (lines + len) (literals + length turn.literal) are.1 one none (omega (arith, fits, lines-step turn turns last)) (omega (arith, within, literals-step turn turns))))

pub unit-fronts : (form : Form) (turns : List Turn) (last : List ℕ) → IsUnit form turns last → map (shown form) (fronts (in_turn turns last)) ≡ shown_in_turn turns last
unfolding reading
unit-fronts form turns last u =
    trace-fronts form unread (in_turn turns last)
    ∙ trace-turns form More turns last 0 0 u.turns_are u.last_is u.unannounced (omega (arith, u.lines_fit)) (omega (arith, u.literals_fit))

-- Only the last front of a unit shows that it is whole, and the others show no end.

abbrev EndsAtLast : List Fed → Type 0
EndsAtLast [] = ⊥
EndsAtLast (fed ∷ feds) = ((fed ≡ Whole) × (feds ≡ [])) ⊎ ((ending fed ≡ None) × EndsAtLast feds)

behind-more : (bytes : List ℕ) (feds : List Fed) → EndsAtLast feds → EndsAtLast (more_in bytes ++ feds)
behind-more [] feds h = h
behind-more (b ∷ bs) feds h = inr (refl, behind-more bs feds h)

turns-end : (turns : List Turn) (last : List ℕ) → EndsAtLast (shown_in_turn turns last)
turns-end [] last = behind-more last (More ∷ Whole ∷ []) (inr (refl, inl (refl, refl)))
turns-end (turn ∷ turns) last =
    behind-more turn.line (More ∷ Continue ∷ (more_in turn.literal ++ shown_in_turn turns last))
    (inr (refl, inr (refl, behind-more turn.literal (shown_in_turn turns last) (turns-end turns last))))

cut-at-last : (form : Form) (r : Reading) (bytes rest : List ℕ) → EndsAtLast (trace form r bytes)
    → shortest (λ front. ending (reads form r front).shows) (bytes ++ rest) ≡ Some (record { unit = bytes; shows = ShowsUnit; rest = rest })
cut-at-last form r [] rest h = absurd h
cut-at-last form r (b ∷ []) rest (inl whole) = rw whole.0 refl
cut-at-last form r (b ∷ c ∷ cs) rest (inl whole) = absurd (let no = whole.1 in cc)
cut-at-last form r (b ∷ bs) rest (inr more) = rw (more.0, cut-at-last form (reads_byte form r b) bs rest more.1) refl

pub unit-first : (form : Form) (turns : List Turn) (last rest : List ℕ) → IsUnit form turns last
    → first form (in_turn turns last ++ rest) ≡ Some (record { unit = in_turn turns last; shows = ShowsUnit; rest = rest })
unfolding first reading
unit-first form turns last rest u =
    cut-at-last form unread (in_turn turns last) rest
    (subst EndsAtLast (sym (trace-turns form More turns last 0 0 u.turns_are u.last_is u.unannounced (omega (arith, u.lines_fit)) (omega (arith, u.literals_fit)))) (turns-end turns last))

-- The other way: what is cut off as a unit is lines and literals in turn.

is_whole : (fed : Fed) → ending fed ≡ Some ShowsUnit → fed ≡ Whole
is_whole More h = cc
is_whole Continue h = cc
is_whole Whole h = refl
is_whole LineTooLong h = cc
is_whole LiteralTooLong h = cc

ends-at_cut : (form : Form) (r : Reading) (bytes : List ℕ) (cut : Cut) → shortest (λ front. ending (reads form r front).shows) bytes ≡ Some cut → cut.shows ≡ ShowsUnit
    → EndsAtLast (trace form r cut.unit)
ends-at_cut form r [] cut h whole = absurd (let no = h in cc)
ends-at_cut form r (b ∷ bs) cut h whole = by (λ found e w. ends-at_cut form (reads_byte form r b) bs found e w) (ending (reads_byte form r b).shows) refl h
  where
    Again : Type 0
    Again = (found : Cut) → shortest (λ front. ending (reads form (reads_byte form r b) front).shows) bs ≡ Some found → found.shows ≡ ShowsUnit
        → EndsAtLast (trace form (reads_byte form r b) found.unit)

    later : Option Cut
    later = shortest (λ front. ending (reads form (reads_byte form r b) front).shows) bs

    inner : Again → (found : Option Cut) → later ≡ found → behind_byte b found ≡ Some cut → ending (reads_byte form r b).shows ≡ None → EndsAtLast (trace form r cut.unit)
    inner again None e i none = absurd cc
    inner again (Some found) e i none =
        let same : record { unit = b ∷ found.unit; shows = found.shows; rest = found.rest } ≡ cut = cc in
        subst (λ (c : Cut). EndsAtLast (trace form r c.unit)) same
        (inr (none, again found e (ap (λ (c : Cut). c.shows) same ∙ whole)))

    by : Again → (v : Option Shown) → ending (reads_byte form r b).shows ≡ v → unless_more v b bs (behind_byte b later) ≡ Some cut → EndsAtLast (trace form r cut.unit)
    by again None e i = inner again later refl i e
    by again (Some s) e i =
        let same : record { unit = b ∷ []; shows = s; rest = bs } ≡ cut = cc in
        subst (λ (c : Cut). EndsAtLast (trace form r c.unit)) same
        (inl (is_whole (reads_byte form r b).shows (e ∙ ap Some (ap (λ (c : Cut). c.shows) same ∙ whole)), refl))

-- What is behind the line so far: the rest of its literal, and lines and literals in turn that begin with it.
record Rest (form : Form) (seen : List ℕ) (lines literals left : ℕ) (bytes : List ℕ) : Type 0 where
  piece : List ℕ
  rest : List ℕ
  turns : List Turn
  last : List ℕ
  parts : bytes ≡ piece ++ rest
  size : length piece ≡ left
  text : seen ++ rest ≡ in_turn turns last
  turns_are : AreTurns form turns
  last_is : IsLine last
  unannounced : literal_behind form (with_end last) ≡ None
  lines_fit : lines + line_bytes turns last ≤ line_limit
  literals_fit : literals + literal_bytes turns ≤ literal_limit

-- a front of bytes with one more is one without it, or all of them
last-byte : (seen : List ℕ) (b : ℕ) (front behind : List ℕ) → seen ++ b ∷ [] ≡ front ++ behind → (behind ≡ []) ⊎ ((more : List ℕ) × (seen ≡ front ++ more))
last-byte seen b [] behind e = inr (seen, refl)
last-byte [] b (y ∷ []) [] e = inl refl
last-byte [] b (y ∷ []) (z ∷ zs) e = absurd cc
last-byte [] b (y ∷ z ∷ ys) behind e = absurd cc
last-byte (a ∷ others) b (y ∷ ys) behind e =
    let same : a ≡ y = cc in
    let tail : others ++ b ∷ [] ≡ ys ++ behind = cc in
    ⊎_elim (λ n. inl n) (λ m. inr (m.0, rw (same, ← m.1) refl)) (last-byte others b ys behind tail)

quiet-more : (seen : List ℕ) (b : ℕ) → Quiet seen → ends_with nat_eq (seen ++ b ∷ []) line_end ≡ false → Quiet (seen ++ b ∷ [])
quiet-more seen b quiet e front behind p =
    ⊎_elim (λ n. let all : front ≡ seen ++ b ∷ [] = sym (append-nil front) ∙ ap (λ (l : List ℕ). front ++ l) (sym n) ∙ sym p in rw all e) (λ m. quiet front m.0 m.1)
    (last-byte seen b front behind p)

quiet-none : Quiet []
quiet-none [] behind e = refl
quiet-none (y ∷ ys) behind e = absurd cc

-- the line that ends here
line-here : (seen : List ℕ) (b : ℕ) (line : List ℕ) → Quiet seen → seen ++ b ∷ [] ≡ with_end line → IsLine line
line-here seen b line quiet e front behind p =
    let whole : seen ++ b ∷ [] ≡ (front ++ line_end) ++ (behind ++ line_end) =
    e ∙ ap with_end p ∙ append_assoc (front ++ line_end) behind line_end in
    ⊎_elim (λ (n : behind ++ line_end ≡ []). absurd (no_end behind n))
    (λ m. let no : false ≡ true = sym (quiet (front ++ line_end) m.0 m.1) ∙ ends-own front in cc)
    (last-byte seen b (front ++ line_end) (behind ++ line_end) whole)
  where
    no_end : (l : List ℕ) → l ++ line_end ≡ [] → ⊥
    no_end [] n = cc
    no_end (x ∷ xs) n = cc

none-left : (piece : List ℕ) → length piece ≡ 0 → piece ≡ []
none-left [] e = refl
none-left (b ∷ bs) e = absurd (omega (arith, e))

-- the same rest, where a reading goes on
rest-literal : (form : Form) (seen : List ℕ) (lines literals left b : ℕ) (bs : List ℕ) → 0 < left → Rest form seen lines literals (left - 1) bs → Rest form seen lines literals left (b ∷ bs)
rest-literal form seen lines literals left b bs h r = record {
  piece = b ∷ r.piece;
  rest = r.rest;
  turns = r.turns;
  last = r.last;
  parts = ap (λ (l : List ℕ). b ∷ l) r.parts;
  size = omega (arith, h, r.size);
  text = r.text;
  turns_are = r.turns_are;
  last_is = r.last_is;
  unannounced = r.unannounced;
  lines_fit = r.lines_fit;
  literals_fit = r.literals_fit;
}

rest-line : (form : Form) (seen : List ℕ) (lines literals b : ℕ) (bs : List ℕ) → Rest form (seen ++ b ∷ []) lines literals 0 bs → Rest form seen lines literals 0 (b ∷ bs)
rest-line form seen lines literals b bs r =
    let same : r.rest ≡ bs = ap (λ (l : List ℕ). l ++ r.rest) (sym (none-left r.piece r.size)) ∙ sym r.parts in
    record {
      piece = [];
      rest = b ∷ r.rest;
      turns = r.turns;
      last = r.last;
      parts = ap (λ (l : List ℕ). b ∷ l) (sym same);
      size = refl;
      text = sym (append_assoc seen (b ∷ []) r.rest) ∙ r.text;
      turns_are = r.turns_are;
      last_is = r.last_is;
      unannounced = r.unannounced;
      lines_fit = r.lines_fit;
      literals_fit = r.literals_fit;
    }

rest-last : (form : Form) (seen : List ℕ) (lines literals b : ℕ) (line : List ℕ) → Quiet seen → seen ++ b ∷ [] ≡ with_end line → lines + length (seen ++ b ∷ []) ≤ line_limit → literals ≤ literal_limit
    → literal_behind form (seen ++ b ∷ []) ≡ None → Rest form seen lines literals 0 (b ∷ [])
rest-last form seen lines literals b line quiet e fits within none = record {
  piece = [];
  rest = b ∷ [];
  turns = [];
  last = line;
  parts = refl;
  size = refl;
  text = e;
  turns_are = tt;
  last_is = line-here seen b line quiet e;
  unannounced = ap (literal_behind form) (sym e) ∙ none;
  lines_fit = let same : length (seen ++ b ∷ []) ≡ length (with_end line) = ap length e in omega (arith, fits, same);
  literals_fit = omega (arith, within);
}

rest-turn : (form : Form) (seen : List ℕ) (lines literals b count : ℕ) (bs line : List ℕ) → Quiet seen → seen ++ b ∷ [] ≡ with_end line
    → literal_behind form (seen ++ b ∷ []) ≡ Some count → Rest form [] (lines + length (seen ++ b ∷ [])) (literals + count) count bs → Rest form seen lines literals 0 (b ∷ bs)
rest-turn form seen lines literals b count bs line quiet e some r = record {
  piece = [];
  rest = b ∷ bs;
  turns = record { line = line; literal = r.piece } ∷ r.turns;
  last = r.last;
  parts = refl;
  size = refl;
  text = sym (append_assoc seen (b ∷ []) bs) ∙ ap (λ (l : List ℕ). l ++ bs) e ∙ ap (λ (l : List ℕ). with_end line ++ l) (r.parts ∙ ap (λ (l : List ℕ). r.piece ++ l) r.text);
  turns_are = (
    record { line = line-here seen b line quiet e; announced = ap (literal_behind form) (sym e) ∙ some ∙ ap Some (sym r.size) },
    r.turns_are,
  );
  last_is = r.last_is;
  unannounced = r.unannounced;
  lines_fit = let same : length (seen ++ b ∷ []) ≡ length (with_end line) = ap length e in let more = r.lines_fit in omega (arith, more, same, lines-step (record { line = line; literal = r.piece }) r.turns r.last);
  literals_fit = let more = r.literals_fit in let size = r.size in omega (arith, more, size, literals-step (record { line = line; literal = r.piece }) r.turns);
}

none-behind : (form : Form) (r : Reading) (bytes : List ℕ) → trace form r bytes ≡ [] → bytes ≡ []
none-behind form r [] e = refl
none-behind form r (b ∷ bs) e = cc

rests : (form : Form) (s : Fed) (seen : List ℕ) (lines literals left : ℕ) (bytes : List ℕ) → Quiet seen → literals ≤ literal_limit → EndsAtLast (trace form (at s seen lines literals left) bytes)
    → Rest form seen lines literals left bytes
rests form s seen lines literals left [] quiet within h = absurd h
rests form s seen lines literals left (b ∷ bs) quiet within h = by (λ s seen lines literals left q w e. rests form s seen lines literals left bs q w e) left refl
  where
    seen' : List ℕ
    seen' = seen ++ b ∷ []

    -- what is shown here, and what comes behind
    Ends : Reading → Type 0
    Ends r = ((r.shows ≡ Whole) × (trace form r bs ≡ [])) ⊎ ((ending r.shows ≡ None) × EndsAtLast (trace form r bs))

    Again : Type 0
    Again = (s : Fed) (seen : List ℕ) (lines literals left : ℕ) → Quiet seen → literals ≤ literal_limit → EndsAtLast (trace form (at s seen lines literals left) bs) → Rest form seen lines literals left bs

    at_count : Again → (line : List ℕ) (count : ℕ) (over : Bool) → seen' ≡ with_end line → literal_behind form seen' ≡ Some count → nat_lt literal_limit (literals + count) ≡ over
        → Ends (cond over (at LiteralTooLong seen' lines literals 0) (at Continue [] (lines + length seen') (literals + count) count)) → Rest form seen lines literals 0 (b ∷ bs)
    at_count again line count true e some over (inl whole) = absurd (let no = whole.0 in cc)
    at_count again line count true e some over (inr more) = absurd (let no = more.0 in cc)
    at_count again line count false e some over (inl whole) = absurd (let no = whole.0 in cc)
    at_count again line count false e some over (inr more) =
        rest-turn form seen lines literals b count bs line quiet e some
        (again Continue [] (lines + length seen') (literals + count) count quiet-none (not_below literal_limit (literals + count) over) more.1)

    at_end : Again → (line : List ℕ) (found : Option ℕ) → seen' ≡ with_end line → lines + length seen' ≤ line_limit → literal_behind form seen' ≡ found
        → Ends (behind_line (line_so_far seen' lines literals) found) → Rest form seen lines literals 0 (b ∷ bs)
    at_end again line None e fits none (inl whole) =
        subst (λ (l : List ℕ). Rest form seen lines literals 0 (b ∷ l)) (sym (none-behind form (at Whole seen' lines literals 0) bs whole.1))
        (rest-last form seen lines literals b line quiet e fits within none)
    at_end again line None e fits none (inr more) = absurd (let no = more.0 in cc)
    at_end again line (Some count) e fits some ends = at_count again line count (nat_lt literal_limit (literals + count)) e some refl ends

    at_byte : Again → (ends : Bool) → ends_with nat_eq seen' line_end ≡ ends → lines + length seen' ≤ line_limit
        → Ends (cond ends (behind_line (line_so_far seen' lines literals) (literal_behind form seen')) (line_so_far seen' lines literals)) → Rest form seen lines literals 0 (b ∷ bs)
    at_byte again true e fits ends = let line = ends-true seen' e in at_end again line.0 (literal_behind form seen') line.1 fits refl ends
    at_byte again false e fits (inl whole) = absurd (let no = whole.0 in cc)
    at_byte again false e fits (inr more) = rest-line form seen lines literals b bs (again More seen' lines literals 0 (quiet-more seen b quiet e) within more.1)

    at_line : Again → (long : Bool) → nat_lt line_limit (lines + length seen') ≡ long
        → Ends (cond long (at LineTooLong seen' lines literals 0)
        (cond (ends_with nat_eq seen' line_end) (behind_line (line_so_far seen' lines literals) (literal_behind form seen')) (line_so_far seen' lines literals))) → Rest form seen lines literals 0 (b ∷ bs)
    at_line again true e (inl whole) = absurd (let no = whole.0 in cc)
    at_line again true e (inr more) = absurd (let no = more.0 in cc)
    at_line again false e ends = at_byte again (ends_with nat_eq seen' line_end) refl (not_below line_limit (lines + length seen') e) ends

    at_literal : Again → Ends (at More seen lines literals (left - 1)) → 0 < left → Rest form seen lines literals left (b ∷ bs)
    at_literal again (inl whole) begun = absurd (let no = whole.0 in cc)
    at_literal again (inr more) begun = rest-literal form seen lines literals left b bs begun (again More seen lines literals (left - 1) quiet within more.1)

    by : Again → (n : ℕ) → left ≡ n → Rest form seen lines literals left (b ∷ bs)
    by again zero e =
        subst (λ (n : ℕ). Rest form seen lines literals n (b ∷ bs)) (sym e)
        (at_line again (nat_lt line_limit (lines + length seen')) refl (subst (λ (n : ℕ). Ends (reads_byte form (at s seen lines literals n) b)) e h))
    by again (suc n) e = at_literal again (subst Ends (byte-literal form (at s seen lines literals left) b (omega (arith, e))) h) (omega (arith, e))

pub unit-written : (form : Form) (bytes : List ℕ) (cut : Cut) → first form bytes ≡ Some cut → cut.shows ≡ ShowsUnit → Written form cut.unit
unfolding first reading
unit-written form bytes cut h whole =
    let r = rests form More [] 0 0 0 cut.unit quiet-none (omega arith) (ends-at_cut form unread bytes cut h whole) in
    record {
      turns = r.turns;
      last = r.last;
      is_unit = record {
        turns_are = r.turns_are;
        last_is = r.last_is;
        unannounced = r.unannounced;
        lines_fit = let fits = r.lines_fit in omega (arith, fits);
        literals_fit = let fits = r.literals_fit in omega (arith, fits);
      };
      bytes = r.parts ∙ ap (λ (l : List ℕ). l ++ r.rest) (none-left r.piece r.size) ∙ r.text;
    }
