-- Where the first unit of some bytes ends, as bytes come.
use Rattle.std.proofs.Common.{ℕ, ◌≡◌, List, [], ◌∷◌, ◌++◌, Option, Some, None, refl, ap, sym, ◌∙◌, subst, append-nil}
use Rattle.imap_lexer.specs.declared.units.Form.{Form}
use Rattle.imap_lexer.specs.declared.units.Fed.{Fed}
use Rattle.imap_lexer.specs.declared.units.Shown.{Shown}
use Rattle.imap_lexer.specs.Units.{Cut, reading, shown, ending, ended, first, shortest, unless_more, behind_byte}

-- what bytes show at their end, by the form
abbrev pub ends : Form → List ℕ → Option Shown
ends form front = ending (shown form front)

-- a byte in front leaves no cut where there was none
no_cut_behind : (byte : ℕ) (later : Option Cut) → behind_byte byte later ≡ None → later ≡ None
no_cut_behind byte None h = refl
no_cut_behind byte (Some cut) h = cc

no_cut : (shows : Option Shown) (byte : ℕ) (rest : List ℕ) (later : Option Cut) → unless_more shows byte rest later ≡ None → (shows ≡ None) × (later ≡ None)
no_cut None byte rest later h = (refl, h)
no_cut (Some s) byte rest later h = cc

ended-behind : (shows : Option Shown) (byte : ℕ) (bytes : List ℕ) → behind_byte byte (ended shows bytes) ≡ ended shows (byte ∷ bytes)
ended-behind None byte bytes = refl
ended-behind (Some s) byte bytes = refl

-- what one byte more makes of bytes without a unit
pub snoc : (shows : List ℕ → Option Shown) (bytes : List ℕ) (byte : ℕ) → shortest shows bytes ≡ None
    → shortest shows (bytes ++ byte ∷ []) ≡ ended (shows (bytes ++ byte ∷ [])) (bytes ++ byte ∷ [])
snoc shows [] byte h = elim (shows (byte ∷ [])) as (λ (v : Option Shown). unless_more v byte [] None ≡ ended v (byte ∷ [])) [ None ↦ refl | Some s ↦ refl ]
snoc shows (c ∷ cs) byte h =
    let parts = no_cut (shows (c ∷ [])) c cs (behind_byte c (shortest (λ front. shows (c ∷ front)) cs)) h in
    let later = snoc (λ front. shows (c ∷ front)) cs byte (no_cut_behind c (shortest (λ front. shows (c ∷ front)) cs) parts.1) in
    rw (parts.0, later) (ended-behind (shows (c ∷ cs ++ byte ∷ [])) c (cs ++ byte ∷ []))

-- bytes that come later are behind the first unit
abbrev pub with_more : List ℕ → Option Cut → Option Cut
with_more later None = None
with_more later (Some cut) = Some (record { unit = cut.unit; shows = cut.shows; rest = cut.rest ++ later })

stays_behind : (byte : ℕ) (later : List ℕ) (cut : Option Cut) → behind_byte byte (with_more later cut) ≡ with_more later (behind_byte byte cut)
stays_behind byte later None = refl
stays_behind byte later (Some cut) = refl

stays_unless : (shows : Option Shown) (byte : ℕ) (rest later : List ℕ) (cut more : Option Cut) → (shows ≡ None → more ≡ with_more later cut)
    → unless_more shows byte (rest ++ later) more ≡ with_more later (unless_more shows byte rest cut)
stays_unless None byte rest later cut more h = h refl
stays_unless (Some s) byte rest later cut more h = refl

some_of_unless : (shows : Option Shown) (byte : ℕ) (rest : List ℕ) (cut : Option Cut) (found : Cut) → unless_more shows byte rest cut ≡ Some found → shows ≡ None → cut ≡ Some found
some_of_unless None byte rest cut found h e = h
some_of_unless (Some s) byte rest cut found h e = cc

some_behind : (byte : ℕ) (cut : Option Cut) (found : Cut) → behind_byte byte cut ≡ Some found → (inner : Cut) × (cut ≡ Some inner)
some_behind byte None found h = cc
some_behind byte (Some cut) found h = (cut, refl)

pub stays : (shows : List ℕ → Option Shown) (bytes later : List ℕ) (found : Cut) → shortest shows bytes ≡ Some found
    → shortest shows (bytes ++ later) ≡ with_more later (shortest shows bytes)
stays shows [] later found h = cc
stays shows (c ∷ cs) later found h =
    let shows' : List ℕ → Option Shown = λ front. shows (c ∷ front) in
    stays_unless (shows (c ∷ [])) c cs later (behind_byte c (shortest shows' cs)) (behind_byte c (shortest shows' (cs ++ later)))
    (λ e. let inner = some_behind c (shortest shows' cs) found (some_of_unless (shows (c ∷ [])) c cs (behind_byte c (shortest shows' cs)) found h e) in
    ap (behind_byte c) (stays shows' cs later inner.0 inner.1) ∙ stays_behind c later (shortest shows' cs))

-- The unit and what is behind it are the bytes.
abbrev IsSplit : List ℕ → Option Cut → Type 0
IsSplit bytes None = Unit {0}
IsSplit bytes (Some cut) = bytes ≡ cut.unit ++ cut.rest

split_behind : (byte : ℕ) (bytes : List ℕ) (cut : Option Cut) → IsSplit bytes cut → IsSplit (byte ∷ bytes) (behind_byte byte cut)
split_behind byte bytes None h = tt
split_behind byte bytes (Some cut) h = ap (λ (l : List ℕ). byte ∷ l) h

split_unless : (shows : Option Shown) (byte : ℕ) (bytes : List ℕ) (cut : Option Cut) → IsSplit (byte ∷ bytes) cut → IsSplit (byte ∷ bytes) (unless_more shows byte bytes cut)
split_unless None byte bytes cut h = h
split_unless (Some s) byte bytes cut h = refl

pub split : (shows : List ℕ → Option Shown) (bytes : List ℕ) → IsSplit bytes (shortest shows bytes)
split shows [] = tt
split shows (c ∷ cs) = split_unless (shows (c ∷ [])) c cs (behind_byte c (shortest (λ front. shows (c ∷ front)) cs))
    (split_behind c cs (shortest (λ front. shows (c ∷ front)) cs) (split (λ front. shows (c ∷ front)) cs))

-- the same over units of a form

-- a byte more completes a unit where all the bytes show one
pub first-next : (form : Form) (bytes : List ℕ) (byte : ℕ) → first form bytes ≡ None
    → first form (bytes ++ byte ∷ []) ≡ ended (ending (shown form (bytes ++ byte ∷ []))) (bytes ++ byte ∷ [])
unfolding first
first-next form bytes byte h = snoc (ends form) bytes byte h

pub first-parts : (form : Form) (bytes : List ℕ) (cut : Cut) → first form bytes ≡ Some cut → bytes ≡ cut.unit ++ cut.rest
unfolding first
first-parts form bytes cut h = subst (IsSplit bytes) h (split (ends form) bytes)

pub first-stays : (form : Form) (bytes later : List ℕ) (cut : Cut) → first form bytes ≡ Some cut
    → first form (bytes ++ later) ≡ Some (record { unit = cut.unit; shows = cut.shows; rest = cut.rest ++ later })
unfolding first
first-stays form bytes later cut h = stays (ends form) bytes later cut h ∙ ap (with_more later) h

whole_of_ended : (shows : Option Shown) (bytes : List ℕ) (cut : Cut) → ended shows bytes ≡ Some cut → (cut.unit ≡ bytes) × (cut.rest ≡ [])
whole_of_ended None bytes cut h = cc
whole_of_ended (Some shows) bytes cut h =
    let same : record { unit = bytes; shows = shows; rest = [] } ≡ cut = cc in
    (sym (ap (λ (c : Cut). c.unit) same), sym (ap (λ (c : Cut). c.rest) same))

pub first-at_last : (form : Form) (bytes : List ℕ) (byte : ℕ) (cut : Cut) → first form bytes ≡ None
    → first form (bytes ++ byte ∷ []) ≡ Some cut → (cut.unit ≡ bytes ++ byte ∷ []) × (cut.rest ≡ [])
first-at_last form bytes byte cut h e = whole_of_ended (ends form (bytes ++ byte ∷ [])) (bytes ++ byte ∷ []) cut (sym (first-next form bytes byte h) ∙ e)

-- The same as a lexer meets it: a byte more, and what all the bytes show.

pub fed-next : (form : Form) (bytes new : List ℕ) (byte : ℕ) (fed : Fed) → first form bytes ≡ None → new ≡ bytes ++ byte ∷ [] → fed ≡ shown form new
    → first form new ≡ ended (ending fed) new
fed-next form bytes new byte fed h is_new is_shown = rw (is_shown, is_new) (first-next form bytes byte h)

-- The first unit is the shortest prefix that is one.

-- the cut, if there is one, shows what its unit does
abbrev IsWhole : (List ℕ → Option Shown) → Option Cut → Type 0
IsWhole shows None = Unit {0}
IsWhole shows (Some cut) = shows cut.unit ≡ Some cut.shows

whole_behind : (shows : List ℕ → Option Shown) (byte : ℕ) (cut : Option Cut) → IsWhole (λ front. shows (byte ∷ front)) cut → IsWhole shows (behind_byte byte cut)
whole_behind shows byte None h = tt
whole_behind shows byte (Some cut) h = h

whole_unless : (shows : List ℕ → Option Shown) (v : Option Shown) (byte : ℕ) (rest : List ℕ) (cut : Option Cut) → shows (byte ∷ []) ≡ v → IsWhole shows cut → IsWhole shows (unless_more v byte rest cut)
whole_unless shows None byte rest cut e h = h
whole_unless shows (Some s) byte rest cut e h = e

pub whole : (shows : List ℕ → Option Shown) (bytes : List ℕ) → IsWhole shows (shortest shows bytes)
whole shows [] = tt
whole shows (c ∷ cs) = whole_unless shows (shows (c ∷ [])) c cs (behind_byte c (shortest (λ front. shows (c ∷ front)) cs)) refl
    (whole_behind shows c (shortest (λ front. shows (c ∷ front)) cs) (whole (λ front. shows (c ∷ front)) cs))

-- no prefix of some bytes shows anything, but for the empty one, and for all of them where that is said
abbrev NoneBefore : (List ℕ → Option Shown) → List ℕ → Type 0
NoneBefore shows bytes = (byte : ℕ) (front behind : List ℕ) (next : ℕ) → bytes ≡ (byte ∷ front) ++ next ∷ behind → shows (byte ∷ front) ≡ None

abbrev NoneUpTo : (List ℕ → Option Shown) → List ℕ → Type 0
NoneUpTo shows bytes = (byte : ℕ) (front behind : List ℕ) → bytes ≡ (byte ∷ front) ++ behind → shows (byte ∷ front) ≡ None

pub none_shows : (shows : List ℕ → Option Shown) (bytes : List ℕ) → shortest shows bytes ≡ None → NoneUpTo shows bytes
none_shows shows [] h byte front behind e = cc
none_shows shows (c ∷ cs) h byte [] behind e =
    let parts = no_cut (shows (c ∷ [])) c cs (behind_byte c (shortest (λ front. shows (c ∷ front)) cs)) h in
    let same : c ≡ byte = cc in subst (λ (b : ℕ). shows (b ∷ []) ≡ None) same parts.0
none_shows shows (c ∷ cs) h byte (next ∷ front) behind e =
    let parts = no_cut (shows (c ∷ [])) c cs (behind_byte c (shortest (λ front. shows (c ∷ front)) cs)) h in
    let same : c ≡ byte = cc in
    let rest : cs ≡ (next ∷ front) ++ behind = cc in
    subst (λ (b : ℕ). shows (b ∷ next ∷ front) ≡ None) same
    (none_shows (λ front. shows (c ∷ front)) cs (no_cut_behind c (shortest (λ front. shows (c ∷ front)) cs) parts.1) next front behind rest)

-- no prefix of the unit of the cut, if there is one, shows anything
abbrev IsShortest : (List ℕ → Option Shown) → Option Cut → Type 0
IsShortest shows None = Unit {0}
IsShortest shows (Some cut) = NoneBefore shows cut.unit

shortest_behind : (shows : List ℕ → Option Shown) (c : ℕ) (cut : Option Cut) → shows (c ∷ []) ≡ None → IsShortest (λ front. shows (c ∷ front)) cut → IsShortest shows (behind_byte c cut)
shortest_behind shows c None more h = tt
shortest_behind shows c (Some cut) more h = λ byte front. elim front as (λ (f : List ℕ). (behind : List ℕ) (next : ℕ) → c ∷ cut.unit ≡ (byte ∷ f) ++ next ∷ behind → shows (byte ∷ f) ≡ None) [
  | [] ↦ λ behind next e. let same : c ≡ byte = cc in subst (λ (b : ℕ). shows (b ∷ []) ≡ None) same more
  | d ∷ ds ↦ λ behind next e.
      let same : c ≡ byte = cc in
      let rest : cut.unit ≡ (d ∷ ds) ++ next ∷ behind = cc in
      subst (λ (b : ℕ). shows (b ∷ d ∷ ds) ≡ None) same (h d ds behind next rest)
]

shortest_unless : (shows : List ℕ → Option Shown) (v : Option Shown) (c : ℕ) (rest : List ℕ) (cut : Option Cut) → shows (c ∷ []) ≡ v → IsShortest (λ front. shows (c ∷ front)) cut
    → IsShortest shows (unless_more v c rest (behind_byte c cut))
shortest_unless shows None c rest cut e h = shortest_behind shows c cut e h
shortest_unless shows (Some s) c rest cut e h = λ byte front. elim front as (λ (f : List ℕ). (behind : List ℕ) (next : ℕ) → c ∷ [] ≡ (byte ∷ f) ++ next ∷ behind → shows (byte ∷ f) ≡ None) [
  | [] ↦ λ behind next same. cc
  | d ∷ ds ↦ λ behind next same. cc
]

pub is_shortest : (shows : List ℕ → Option Shown) (bytes : List ℕ) → IsShortest shows (shortest shows bytes)
is_shortest shows [] = tt
is_shortest shows (c ∷ cs) = shortest_unless shows (shows (c ∷ [])) c cs (shortest (λ front. shows (c ∷ front)) cs) refl (is_shortest (λ front. shows (c ∷ front)) cs)

pub first-is_whole : (form : Form) (bytes : List ℕ) (cut : Cut) → first form bytes ≡ Some cut → ending (shown form cut.unit) ≡ Some cut.shows
unfolding first
first-is_whole form bytes cut h = subst (IsWhole (ends form)) h (whole (ends form) bytes)

pub first-shortest : (form : Form) (bytes : List ℕ) (cut : Cut) → first form bytes ≡ Some cut → NoneBefore (ends form) cut.unit
unfolding first
first-shortest form bytes cut h = subst (IsShortest (ends form)) h (is_shortest (ends form) bytes)

pub first-none : (form : Form) (bytes : List ℕ) → first form bytes ≡ None → NoneUpTo (ends form) bytes
unfolding first
first-none form bytes h = none_shows (ends form) bytes h

-- where there is no unit yet, the bytes show none
pub first-shows : (form : Form) (bytes : List ℕ) → first form bytes ≡ None → ending (shown form bytes) ≡ None
unfolding reading
first-shows form [] h = refl
first-shows form (c ∷ cs) h = first-none form (c ∷ cs) h c cs [] (sym (append-nil (c ∷ cs)))
