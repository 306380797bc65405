-- Scripts, their lines and what these say.
use Rattle.std.proofs.Common.{◌≡◌, ℕ, ◌+◌, ◌-◌, ◌<◌, ◌≤◌, Bool, true, false, not, List, [], ◌∷◌, ◌++◌, length, get_or, take, drop, ◌*◌, refl, sym, ◌∙◌, ap, subst, arith, append_assoc, append-nil, length-append, length-drop, ◌==◌, nat_lt, nat_le, ◌&&◌, if◌then◌else◌}
use Rattle.std.specs.Prelude.{Option, Some, None, Result, Ok, Err, IfSome, All, codes, bytes_eq, option_map}
use Rattle.std.specs.List.{onto_first, before_first, after_first, position_or_len, list_all, starts_with}
use Rattle.std.specs.Char.{digit_value, is_ascii_digit}
use Rattle.std.specs.Str.Parse.{digits_value}
use Rattle.std.proofs.lemmas.Str.Parse.{digits_value-take-le}
use Rattle.std.proofs.lemmas.Bool.Decides.{nat_tests}
use Rattle.std.proofs.lemmas.Option.{cond_some, option_and_then_some}
use Rattle.std.proofs.lemmas.List.Sums.{count_by-le-length, AllPass-from_list_all}
use Rattle.std.proofs.lemmas.Int.Digits.{digits_value_more}
use Rattle.std.proofs.lemmas.List.Elements.{All-cons, All-nil}
use Rattle.port_model.specs.declared.calls.Kind.TheVariants.{Imap}
use Rattle.port_model.specs.declared.events.Event.{Event}
use Rattle.port_model.specs.declared.events.Event.TheVariants.{Opens, Piece, Ends, Loses}
use Rattle.port_model.specs.Streams.{last_moment}
use Rattle.port_model.specs.Script.{script_lines, is_number, number_up_to, in_front, sized, piece, sent_piece, word, behind_word, text_bytes, line_event, follows, opens, says_nothing, session_number, closing_event, next_event, with_line, events_after, script_events, IsPiece, IsOnOpen, AreOnOpen, AreEvents}

-- Numbers.

pub digit_value-decimal : (c : ℕ) → 48 ≤ c → c ≤ 57 → digit_value c ≡ c - 48
digit_value-decimal c low high = grind (arith, nat_tests)

pub number_up_to-greater : (most : ℕ) (digits : List ℕ) (k : ℕ) → most < digits_value 10 (take k digits) → number_up_to most digits ≡ None
number_up_to-greater most digits k above =
    let whole = digits_value-take-le 10 digits k (omega arith) in
    let is_above : nat_le (digits_value 10 digits) most ≡ false = grind (arith, nat_tests) in
    grind (arith, nat_tests)

pub number_step : (digits : List ℕ) (i value digit : ℕ) → is_number digits ≡ true → i < length digits → digit ≡ get_or digits i 0 - 48 → value ≡ digits_value 10 (take i digits) → value * 10 + digit ≡ digits_value 10 (take (i + 1) digits)
number_step digits i value digit numeral within is so_far =
    let all : list_all is_ascii_digit digits ≡ true = grind (arith, nat_tests) in
    let here = AllPass-from_list_all is_ascii_digit digits all i 0 within in
    let low : 48 ≤ get_or digits i 0 = grind (arith, nat_tests) in
    let high : get_or digits i 0 ≤ 57 = grind (arith, nat_tests) in
    let of_digit = digit_value-decimal (get_or digits i 0) low high in
    omega (arith, digits_value_more 10 digits i within)

-- The bytes of a text.

pub text-step : (done : List ℕ) (c : ℕ) (bytes later whole : Option (List ℕ)) → option_map (λ cs. done ++ cs) bytes ≡ whole → bytes ≡ in_front c later → option_map (λ cs. (done ++ c ∷ []) ++ cs) later ≡ whole
text-step done c bytes None whole is first = ap (option_map (λ cs. done ++ cs)) (sym first) ∙ is
text-step done c bytes (Some later) whole is first = ap Some (append_assoc done (c ∷ []) later) ∙ ap (option_map (λ cs. done ++ cs)) (sym first) ∙ is

pub text-long : (done : List ℕ) (c : ℕ) (bytes later whole : Option (List ℕ)) → option_map (λ cs. done ++ cs) bytes ≡ whole → bytes ≡ in_front c later → 65536 ≤ length done → sized whole ≡ None
text-long done c bytes None whole is first long = ap sized (sym is ∙ ap (option_map (λ cs. done ++ cs)) first)
text-long done c bytes (Some later) whole is first long =
    let size = length-append done (c ∷ later) in
    let is_long : nat_le (length (done ++ c ∷ later)) 65536 ≡ false = grind (arith, nat_tests) in
    ap sized (sym is ∙ ap (option_map (λ cs. done ++ cs)) first) ∙ grind (arith, nat_tests)

-- Lines.

-- the lines behind a byte that ends none
cut-later : (c : ℕ) (cs : List ℕ) (n : ℕ) (ls : List (List ℕ)) → ls ≡ take n cs ∷ script_lines (drop (n + 1) cs) → onto_first c ls ≡ take (1 + n) (c ∷ cs) ∷ script_lines (drop (1 + n + 1) (c ∷ cs))
cut-later c cs n ls is =
    let e : 1 + n + 1 ≡ Prim.Native.Nat.suc (n + 1) = omega arith in
    let f : 1 + n ≡ Prim.Native.Nat.suc n = omega arith in
    rw (e, f) (ap (onto_first c) is)

pub script_lines-first : (text : List ℕ) → 0 < length text → script_lines text ≡ before_first (λ c. c == 10) text ∷ script_lines (after_first (λ c. c == 10) text)
script_lines-first [] some = absurd (omega arith)
script_lines-first (c ∷ []) some =
    elim (c == 10) as (λ b. if b then [] ∷ [] else (c ∷ []) ∷ [] ≡ take (if not b then 1 + 0 else 0) (c ∷ []) ∷ script_lines (drop ((if not b then 1 + 0 else 0) + 1) (c ∷ [])))
    [ true ↦ refl | false ↦ refl ]
script_lines-first (c ∷ d ∷ ds) some =
    let n = position_or_len (λ x. x == 10) (d ∷ ds) in
    elim (c == 10) as (λ b. if b then [] ∷ script_lines (d ∷ ds) else onto_first c (script_lines (d ∷ ds)) ≡ take (if not b then 1 + n else 0) (c ∷ d ∷ ds) ∷ script_lines (drop ((if not b then 1 + n else 0) + 1) (c ∷ d ∷ ds)))
    [ true ↦ refl | false ↦ cut-later c (d ∷ ds) n (script_lines (d ∷ ds)) (script_lines-first (d ∷ ds) (omega arith)) ]

length-after_first : (p : ℕ → Bool) (text : List ℕ) → 0 < length text → length (after_first p text) + 1 ≤ length text
length-after_first p text some = omega (arith, length-drop (position_or_len p text + 1) text)

length-onto_first : (c : ℕ) (ls : List (List ℕ)) → length (onto_first c ls) ≤ length ls + 1
length-onto_first c [] = omega arith
length-onto_first c (l ∷ ls) = omega arith

pub length-script_lines : (text : List ℕ) → length (script_lines text) ≤ length text
length-script_lines [] = omega arith
length-script_lines (c ∷ cs) =
    let later = length-script_lines cs in
    elim (c == 10) as (λ b. length (if b then [] ∷ script_lines cs else onto_first c (script_lines cs)) ≤ length (c ∷ cs))
    [ true ↦ omega arith | false ↦ omega (arith, length-onto_first c (script_lines cs)) ]

-- The events of lines.

-- what lines say that come behind some events, which as many lines say
abbrev pub behind : List Event → ℕ → Result (List Event) ℕ → Result (List Event) ℕ
behind done number (Ok later) = Ok (done ++ later)
behind done number (Err n) = Err (number + n)

behind-with_nothing : (done : List Event) (number : ℕ) (later : Result (List Event) ℕ) → behind done number (with_line [] later) ≡ behind done (number + 1) later
behind-with_nothing done number (Ok later) = refl
behind-with_nothing done number (Err n) = let e : number + (n + 1) ≡ number + 1 + n = omega arith in ap Err e

behind-with_event : (done : List Event) (number : ℕ) (event : Event) (later : Result (List Event) ℕ) → behind done number (with_line (event ∷ []) later) ≡ behind (done ++ event ∷ []) (number + 1) later
behind-with_event done number event (Ok later) = ap Ok (sym (append_assoc done (event ∷ []) later))
behind-with_event done number event (Err n) = let e : number + (n + 1) ≡ number + 1 + n = omega arith in ap Err e

pub events_after-nothing : (before : List Event) (line : List ℕ) (lines : List (List ℕ)) → says_nothing line ≡ true → events_after before (line ∷ lines) ≡ with_line [] (events_after before lines)
events_after-nothing before line lines nothing = rw (nothing, events_after)

pub events_after-bad : (before : List Event) (line : List ℕ) (lines : List (List ℕ)) → says_nothing line ≡ false → next_event before line ≡ None → events_after before (line ∷ lines) ≡ Err 1
events_after-bad before line lines something bad = rw (something, bad, events_after)

pub events_after-good : (before : List Event) (line : List ℕ) (lines : List (List ℕ)) (event : Event) → says_nothing line ≡ false → next_event before line ≡ Some event
    → events_after before (line ∷ lines) ≡ with_line (event ∷ []) (events_after (before ++ event ∷ []) lines)
events_after-good before line lines event something good = rw (something, good, events_after)

-- Where the lines up to some place are good, their events are known, and what is left of the text says the rest.
pub record AreDone (text left : List ℕ) (done : List Event) (number : ℕ) : Type 0 where
  pub so_far : behind done number (events_after done (script_lines left)) ≡ script_events text

-- a line of what is left
pub record IsLine (left line rest : List ℕ) : Type 0 where
  pub some : 0 < length left
  pub first : line ≡ before_first (λ c. c == 10) left
  pub later : rest ≡ after_first (λ c. c == 10) left

pub line-shorter : (left line rest : List ℕ) → IsLine left line rest → length rest + 1 ≤ length left
line-shorter left line rest is = rw is.later (length-after_first (λ c. c == 10) left is.some)

lines-first : (left line rest : List ℕ) → IsLine left line rest → script_lines left ≡ line ∷ script_lines rest
lines-first left line rest is = script_lines-first left is.some ∙ rw (is.first, is.later)

-- the first bad line stands behind some good ones
pub script_events-bad : (text left line rest : List ℕ) (done : List Event) (number : ℕ) → AreDone text left done number → IsLine left line rest → says_nothing line ≡ false → next_event done line ≡ None
    → script_events text ≡ Err (number + 1)
script_events-bad text left line rest done number before is something bad =
    sym before.so_far ∙ ap (λ ls. behind done number (events_after done ls)) (lines-first left line rest is)
    ∙ ap (behind done number) (events_after-bad done line (script_lines rest) something bad)

pub AreDone-nothing : (text left line rest : List ℕ) (done : List Event) (number : ℕ) → AreDone text left done number → IsLine left line rest → says_nothing line ≡ true → AreDone text rest done (number + 1)
AreDone-nothing text left line rest done number before is nothing = record {
  so_far = sym (behind-with_nothing done number (events_after done (script_lines rest)))
      ∙ ap (behind done number) (sym (events_after-nothing done line (script_lines rest) nothing))
      ∙ ap (λ ls. behind done number (events_after done ls)) (sym (lines-first left line rest is)) ∙ before.so_far;
}

pub AreDone-event : (text left line rest : List ℕ) (done : List Event) (number : ℕ) (event : Event) → AreDone text left done number → IsLine left line rest → says_nothing line ≡ false → next_event done line ≡ Some event
    → AreDone text rest (done ++ event ∷ []) (number + 1)
AreDone-event text left line rest done number event before is something good = record {
  so_far = sym (behind-with_event done number event (events_after (done ++ event ∷ []) (script_lines rest)))
      ∙ ap (behind done number) (sym (events_after-good done line (script_lines rest) event something good))
      ∙ ap (λ ls. behind done number (events_after done ls)) (sym (lines-first left line rest is)) ∙ before.so_far;
}

-- no line is left
pub script_events-all : (text left : List ℕ) (done : List Event) (number : ℕ) → AreDone text left done number → length left ≡ 0 → script_events text ≡ Ok done
script_events-all text [] done number before none = sym before.so_far ∙ ap Ok (append-nil done)
script_events-all text (c ∷ cs) done number before none = absurd (omega arith)

-- what a good line's event is
pub record IsNext (before : List Event) (line : List ℕ) (event : Event) : Type 0 where
  pub said : line_event line ≡ Some event
  pub may : follows before event ≡ true

pub next_event-Some : (before : List Event) (line : List ℕ) (event : Event) → next_event before line ≡ Some event → IsNext before line event
next_event-Some before line event good =
    option_and_then_some (λ e. if follows before e then Some e else None) (line_event line) event good
    (λ e is then_some. let parts = cond_some (follows before e) e event then_some in record {
      said = is ∙ ap Some parts.1;
      may = subst (λ (x : Event). follows before x ≡ true) parts.1 parts.0;
    })

-- Pieces.

choice-fits : {A : Type 0} (P : A → Type 0) (b : Bool) (x y : Option A) → (b ≡ true → IfSome x P) → (b ≡ false → IfSome y P) → IfSome (if b then x else y) P
choice-fits P true x y then_x else_y = then_x refl
choice-fits P false x y then_x else_y = else_y refl

abbrev HasSize : List ℕ → Type 0
HasSize bytes = (0 < length bytes) × (length bytes ≤ 65536)

number_up_to-fits : (most : ℕ) (digits : List ℕ) → IfSome (number_up_to most digits) (λ n. n ≤ most)
number_up_to-fits most digits =
    choice-fits (λ n. n ≤ most) (is_number digits && nat_le (digits_value 10 digits) most) (Some (digits_value 10 digits)) None
    (λ fits. grind (arith, nat_tests)) (λ _. tt)

sized-fits : (bytes : Option (List ℕ)) → IfSome (sized bytes) HasSize
sized-fits None = tt
sized-fits (Some bytes) =
    choice-fits HasSize (nat_lt 0 (length bytes) && nat_le (length bytes) 65536) (Some bytes) None
    (λ fits. (grind (arith, nat_tests), grind (arith, nat_tests))) (λ _. tt)

piece-fits : (number moment : Option ℕ) (bytes : Option (List ℕ)) → IfSome moment (λ n. n ≤ last_moment) → IfSome bytes HasSize → IfSome (piece number moment bytes) IsPiece
piece-fits None moment bytes early filled = tt
piece-fits (Some number) None bytes early filled = tt
piece-fits (Some number) (Some moment) None early filled = tt
piece-fits (Some number) (Some moment) (Some bytes) early filled = (filled.0, filled.1, early)

sent_piece-fits : (line : List ℕ) → IfSome (sent_piece line) IsPiece
sent_piece-fits line =
    piece-fits (number_up_to 0xffff_ffff (word line)) (number_up_to last_moment (word (behind_word line))) (sized (text_bytes (behind_word (behind_word line))))
    (number_up_to-fits last_moment (word (behind_word line))) (sized-fits (text_bytes (behind_word (behind_word line))))

number-fits : (make : ℕ → Event) (number : Option ℕ) → ((n : ℕ) → IsPiece (make n)) → IfSome (option_map make number) IsPiece
number-fits make None fits = tt
number-fits make (Some n) fits = fits n

closing_event-fits : (line : List ℕ) → IfSome (closing_event line) IsPiece
unfolding closing_event
closing_event-fits line =
    choice-fits IsPiece (starts_with (λ a b. a == b) line (codes "end ")) (option_map Ends (session_number (drop 4 line)))
    (if starts_with (λ a b. a == b) line (codes "lose ") then option_map Loses (session_number (drop 5 line)) else None)
    (λ _. number-fits Ends (session_number (drop 4 line)) (λ _. tt))
    (λ _. choice-fits IsPiece (starts_with (λ a b. a == b) line (codes "lose ")) (option_map Loses (session_number (drop 5 line))) None
    (λ _. number-fits Loses (session_number (drop 5 line)) (λ _. tt)) (λ _. tt))

line_event-fits : (line : List ℕ) (event : Event) → line_event line ≡ Some event → IsPiece event
line_event-fits line event said =
    let fits : IfSome (line_event line) IsPiece =
    choice-fits IsPiece (bytes_eq line (codes "open imap")) (Some (Opens Imap)) (if starts_with (λ a b. a == b) line (codes "send ") then sent_piece (drop 5 line) else closing_event line) (λ _. tt)
    (λ _. choice-fits IsPiece (starts_with (λ a b. a == b) line (codes "send ")) (sent_piece (drop 5 line)) (closing_event line) (λ _. sent_piece-fits (drop 5 line)) (λ _. closing_event-fits line)) in
    subst (λ (o : Option Event). IfSome o IsPiece) said fits

pub sent_piece-parts : (line first rest second text : List ℕ) → first ≡ before_first (λ c. c == 32) line → rest ≡ after_first (λ c. c == 32) line → second ≡ before_first (λ c. c == 32) rest → text ≡ after_first (λ c. c == 32) rest
    → sent_piece line ≡ piece (number_up_to 0xffff_ffff first) (number_up_to last_moment second) (sized (text_bytes text))
sent_piece-parts line first rest second text first_is rest_is second_is text_is = rw (first_is, second_is, text_is, rest_is)

pub piece-no_moment : (number moment : Option ℕ) (bytes : Option (List ℕ)) → moment ≡ None → None ≡ piece number moment bytes
piece-no_moment None moment bytes none = refl
piece-no_moment (Some number) moment bytes none = rw none

pub piece-parts : (number moment : Option ℕ) (bytes : Option (List ℕ)) (n m : ℕ) (cs : List ℕ) → number ≡ Some n → moment ≡ Some m → bytes ≡ Some cs → Some (Piece n cs m) ≡ piece number moment bytes
piece-parts number moment bytes n m cs number_is moment_is bytes_is = rw (number_is, moment_is, bytes_is)

-- What the events of lines keep to.

pub record AreKept (before : List Event) (lines : List (List ℕ)) (events : List Event) : Type 0 where
  pub pieces : All IsPiece events
  pub on_open : AreOnOpen before events
  pub few : length events ≤ length lines

follows-on_open : (before : List Event) (event : Event) → follows before event ≡ true → IsOnOpen before event
follows-on_open before (Opens kind) good = tt
follows-on_open before (Piece who bytes moment) good = good
follows-on_open before (Ends who) good = good
follows-on_open before (Loses who) good = good

nothing-kept : (before : List Event) (line : List ℕ) (lines : List (List ℕ)) (events : List Event) (later : Result (List Event) ℕ)
    → ((es : List Event) → later ≡ Ok es → AreKept before lines es) → with_line [] later ≡ Ok events → AreKept before (line ∷ lines) events
nothing-kept before line lines events (Err n) kept is = absurd (cc)
nothing-kept before line lines events (Ok es) kept is =
    let same : es ≡ events = cc in
    let more = kept events (ap Ok same) in
    record { pieces = more.pieces; on_open = more.on_open; few = omega (arith, more.few) }

event-kept : (before : List Event) (line : List ℕ) (lines : List (List ℕ)) (event : Event) (events : List Event) → IsNext before line event → (later : Result (List Event) ℕ)
    → ((es : List Event) → later ≡ Ok es → AreKept (before ++ event ∷ []) lines es) → with_line (event ∷ []) later ≡ Ok events → AreKept before (line ∷ lines) events
event-kept before line lines event events next (Err n) kept is = absurd (cc)
event-kept before line lines event events next (Ok es) kept is =
    let more = kept es refl in
    let whole : event ∷ es ≡ events = cc in
    subst (AreKept before (line ∷ lines)) whole record {
      pieces = All-cons IsPiece event es (line_event-fits line event next.said) more.pieces;
      on_open = (follows-on_open before event next.may, more.on_open);
      few = omega (arith, more.few);
    }

-- what is known of the lines that follow, whatever came before them
abbrev KeepLater : List (List ℕ) → Type 0
KeepLater lines = (before events : List Event) → events_after before lines ≡ Ok events → AreKept before lines events

line-kept : (before : List Event) (line : List ℕ) (lines : List (List ℕ)) (events : List Event) (nothing : Bool) (next : Option Event) → says_nothing line ≡ nothing → next_event before line ≡ next
    → KeepLater lines → events_after before (line ∷ lines) ≡ Ok events → AreKept before (line ∷ lines) events
line-kept before line lines events true next says said kept is =
    nothing-kept before line lines events (events_after before lines) (kept before) (sym (events_after-nothing before line lines says) ∙ is)
line-kept before line lines events false None says said kept is = let bad = events_after-bad before line lines says said in absurd (cc)
line-kept before line lines events false (Some event) says said kept is =
    event-kept before line lines event events (next_event-Some before line event said) (events_after (before ++ event ∷ []) lines) (kept (before ++ event ∷ []))
    (sym (events_after-good before line lines event says said) ∙ is)

events_after-kept : (lines : List (List ℕ)) → KeepLater lines
events_after-kept [] before events is =
    let none : [] ≡ events = cc in
    subst (AreKept before []) none record { pieces = All-nil IsPiece; on_open = tt; few = omega arith }
events_after-kept (line ∷ lines) before events is =
    line-kept before line lines events (says_nothing line) (next_event before line) refl refl (events_after-kept lines) is

pub script_events-kept : (text : List ℕ) (events : List Event) → length text ≤ 67108864 → script_events text ≡ Ok events → AreEvents events
script_events-kept text events small is =
    let kept = events_after-kept (script_lines text) [] events is in
    record {
      pieces = kept.pieces;
      on_open = kept.on_open;
      numbers = omega (arith, count_by-le-length opens events, kept.few, length-script_lines text);
    }
