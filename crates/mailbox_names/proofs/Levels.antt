-- Which texts a pattern finds where it looks at names.
use Rattle.std.proofs.Common.{ℕ, ◌≡◌, ◌+◌, ◌==◌, ◌<◌, ◌&&◌, ◌||◌, Bool, true, false, not, if◌then◌else◌, List, [], ◌∷◌, ◌++◌, length, map, get_or, take, refl, sym, ap, ◌∙◌, arith}
use Rattle.std.specs.List.{list_any, filter, flat_map}
use Rattle.std.specs.Cmp.Lexicographic.{bytes_decides}
use Rattle.std.proofs.lemmas.Bool.{false≢true}
use Rattle.std.proofs.lemmas.List.{take_more, take_all}
use Rattle.std.proofs.lemmas.List.Folds.{list_any-append}
use Rattle.mailbox_names.specs.declared.listed.Listed.{Listed}
use Rattle.mailbox_names.specs.Names.{same_name, has_name, inbox, is_inbox, mailbox_name, separator, levels_of}
use Rattle.mailbox_names.specs.Patterns.{matches}
use Rattle.mailbox_names.specs.Listing.{finds, wants_levels, candidates, listed}
use Rattle.mailbox_names.specs.Finding.{is_level_of, gives, found_if, Adds, AreFound}
use Rattle.mailbox_names.specs.Fronts.{AreFronts}
use Rattle.mailbox_names.proofs.Sets.{any_map, are_ordered}

-- ---- levels of a front

abbrev pub here : Bool → List ℕ → List (List ℕ)
here b front = if b then front ∷ [] else []

here_behind : (a : ℕ) (b : Bool) (front : List ℕ) → map (λ level. a ∷ level) (here b front) ≡ here b (a ∷ front)
here_behind a true front = refl
here_behind a false front = refl

append_none : {X : Type 0} (xs : List X) → xs ++ [] ≡ xs
append_none [] = refl
append_none (x ∷ xs) = ap (λ l. x ∷ l) (append_none xs)

append_more : {X : Type 0} (xs ys zs : List X) → (xs ++ ys) ++ zs ≡ xs ++ (ys ++ zs)
append_more [] ys zs = refl
append_more (x ∷ xs) ys zs = ap (λ l. x ∷ l) (append_more xs ys zs)

map_append : {X Y : Type 0} (f : X → Y) (xs ys : List X) → map f (xs ++ ys) ≡ map f xs ++ map f ys
map_append f [] ys = refl
map_append f (x ∷ xs) ys = ap (λ l. f x ∷ l) (map_append f xs ys)

levels_longer : (front : List ℕ) (b : ℕ) → levels_of (front ++ b ∷ []) ≡ levels_of front ++ here (b == separator) front
levels_longer [] b = append_none (here (b == separator) [])
levels_longer (a ∷ front) b =
    ap (λ (l : List (List ℕ)). here (a == separator) [] ++ map (λ level. a ∷ level) l) (levels_longer front b)
    ∙ (ap (λ (l : List (List ℕ)). here (a == separator) [] ++ l) (map_append (λ level. a ∷ level) (levels_of front) (here (b == separator) front) ∙ ap (λ (l : List (List ℕ)). map (λ level. a ∷ level) (levels_of front) ++ l) (here_behind a (b == separator) front))
    ∙ sym (append_more (here (a == separator) []) (map (λ level. a ∷ level) (levels_of front)) (here (b == separator) (a ∷ front))))

one_here : (text front : List ℕ) (b : Bool) → list_any (λ level. same_name (mailbox_name level) text) (here b front) ≡ (b && same_name (mailbox_name front) text)
one_here text front true = or_none (same_name (mailbox_name front) text)
  where
    or_none : (b : Bool) → (b || false) ≡ b
    or_none true = refl
    or_none false = refl
one_here text front false = refl

level_longer : (front text : List ℕ) (b : ℕ) → is_level_of (front ++ b ∷ []) text ≡ (is_level_of front text || ((b == separator) && same_name (mailbox_name front) text))
level_longer front text b =
    ap (list_any (λ level. same_name (mailbox_name level) text)) (levels_longer front b)
    ∙ (list_any-append (λ level. same_name (mailbox_name level) text) (levels_of front) (here (b == separator) front)
    ∙ ap (λ x. is_level_of front text || x) (one_here text front (b == separator)))

-- ---- what is found

-- a level that isn't INBOX is as it is
pub kept_as : (level : List ℕ) → same_name (mailbox_name level) inbox ≡ false → mailbox_name level ≡ level
kept_as level other = by (is_inbox level) refl
  where
    by : (b : Bool) → is_inbox level ≡ b → mailbox_name level ≡ level
    by true e = absurd (false≢true (sym other ∙ rw e refl))
    by false e = rw e refl

-- a text that is found is what the pattern finds
module _ (pattern : List ℕ) (matched finds_inbox : Bool) (found : finds_inbox ≡ finds pattern inbox) where
  found_is : (text : List ℕ) → (same_name text inbox ≡ false → matched ≡ matches pattern text) → found_if matched finds_inbox text ≡ finds pattern text
  found_is text matches_is = by (same_name text inbox) refl
    where
      by : (b : Bool) → same_name text inbox ≡ b → found_if matched finds_inbox text ≡ finds pattern text
      by true e = rw e (found ∙ ap (finds pattern) (sym ((bytes_decides text inbox).0 e)) ∙ rw e refl)
      by false e = rw e (matches_is e)

  pub level_found : (level : List ℕ) → matched ≡ matches pattern level → found_if matched finds_inbox (mailbox_name level) ≡ finds pattern (mailbox_name level)
  level_found level matches_is = found_is (mailbox_name level) (λ other. matches_is ∙ ap (matches pattern) (sym (kept_as level other)))

  pub name_found : (name : List ℕ) → matched ≡ matches pattern name → found_if matched finds_inbox name ≡ finds pattern name
  name_found name matches_is = found_is name (λ other. matches_is)

-- what is found of a text is what is found of another that is the same
same_found : (pattern text other : List ℕ) → (finds pattern text && same_name text other) ≡ (finds pattern other && same_name text other)
same_found pattern text other = by (same_name text other) refl
  where
    and_false : (a b : Bool) → (a && false) ≡ (b && false)
    and_false true true = refl
    and_false true false = refl
    and_false false true = refl
    and_false false false = refl

    by : (b : Bool) → same_name text other ≡ b → (finds pattern text && b) ≡ (finds pattern other && b)
    by true e = ap (λ l. finds pattern l && true) ((bytes_decides text other).0 e)
    by false e = and_false (finds pattern text) (finds pattern other)

longer : (s F L S old : Bool) → ((s && (F && S)) || ((F && L) || old)) ≡ ((F && (L || (s && S))) || old)
longer true true true true old = refl
longer true true true false old = refl
longer true true false S old = refl
longer true false L S old = refl
longer false true true S old = refl
longer false true false S old = refl
longer false false L S old = refl

-- the levels of a front that is one byte longer
pub next_level : (pattern name : List ℕ) (fronts : List Bool) (finds_inbox : Bool) (i : ℕ) → finds_inbox ≡ finds pattern inbox → AreFronts pattern name fronts → i < length name
    → (before between after : List (List ℕ))
    → Adds (λ text. (get_or name i 0 == separator) && (found_if (get_or fronts i false) finds_inbox (mailbox_name (take i name)) && same_name (mailbox_name (take i name)) text)) between after
    → Adds (λ text. finds pattern text && is_level_of (take i name) text) before between
    → Adds (λ text. finds pattern text && is_level_of (take (i + 1) name) text) before after
next_level pattern name fronts finds_inbox i found are few before between after added kept = λ text.
    let level = take i name in
    let s = get_or name i 0 == separator in
    let S = same_name (mailbox_name level) text in
    let old = has_name text before in
    added text
    ∙ (ap (λ b. (s && b) || has_name text between) (ap (λ b. b && S) (level_found pattern (get_or fronts i false) finds_inbox found level (are.each i (omega arith))) ∙ same_found pattern (mailbox_name level) text)
    ∙ (ap (λ b. (s && (finds pattern text && S)) || b) (kept text)
    ∙ (longer s (finds pattern text) (is_level_of level text) S old
    ∙ ap (λ b. (finds pattern text && b) || old) (sym (level_longer level text (get_or name i 0)) ∙ ap (λ l. is_level_of l text) (sym (take_more name i 0 few))))))

all_of : (F S W L old : Bool) → ((F && S) || ((W && (F && L)) || old)) ≡ ((F && (S || (W && L))) || old)
all_of true true W L old = refl
all_of true false W L old = refl
all_of false S true L old = refl
all_of false S false L old = refl

-- what is found of a name: itself, and of its levels
pub name_given : (pattern name : List ℕ) (fronts : List Bool) (finds_inbox levels : Bool) → finds_inbox ≡ finds pattern inbox → levels ≡ wants_levels pattern → AreFronts pattern name fronts
    → (before between after : List (List ℕ))
    → Adds (λ text. found_if (get_or fronts (length name) false) finds_inbox name && same_name name text) between after
    → Adds (λ text. levels && (finds pattern text && is_level_of name text)) before between
    → Adds (λ text. gives pattern text name) before after
name_given pattern name fronts finds_inbox levels found wanted are before between after added kept = λ text.
    let matches_is : get_or fronts (length name) false ≡ matches pattern name = are.each (length name) (omega arith) ∙ ap (matches pattern) (take_all (length name) name (omega arith)) in
    let S = same_name name text in
    let old = has_name text before in
    added text
    ∙ (ap (λ b. b || has_name text between) (ap (λ b. b && S) (name_found pattern (get_or fronts (length name) false) finds_inbox found name matches_is) ∙ same_found pattern name text)
    ∙ (ap (λ b. (finds pattern text && S) || b) (kept text)
    ∙ (ap (λ w. (finds pattern text && S) || ((w && (finds pattern text && is_level_of name text)) || old)) wanted
    ∙ all_of (finds pattern text) S (wants_levels pattern) (is_level_of name text) old)))

-- ---- what a pattern finds among names

pub any_filter : {X : Type 0} (p q : X → Bool) (xs : List X) → list_any p (filter q xs) ≡ list_any (λ x. q x && p x) xs
any_filter p q [] = refl
any_filter p q (x ∷ xs) = by (q x) (any_filter p q xs)
  where
    by : (b : Bool) → list_any p (filter q xs) ≡ list_any (λ y. q y && p y) xs → list_any p (if b then x ∷ filter q xs else filter q xs) ≡ ((b && p x) || list_any (λ y. q y && p y) xs)
    by true rest = ap (λ b. p x || b) rest
    by false rest = rest

any_flat : {X Y : Type 0} (p : Y → Bool) (f : X → List Y) (xs : List X) → list_any p (flat_map f xs) ≡ list_any (λ x. list_any p (f x)) xs
any_flat p f [] = refl
any_flat p f (x ∷ xs) = list_any-append p (f x) (flat_map f xs) ∙ ap (λ b. list_any p (f x) || b) (any_flat p f xs)

-- what passes both tests, where the first is the same for all that pass the second
pub any_found : (pattern text : List ℕ) (texts : List (List ℕ)) → list_any (λ t. finds pattern t && same_name t text) texts ≡ (finds pattern text && has_name text texts)
any_found pattern text [] = none (finds pattern text)
  where
    none : (b : Bool) → false ≡ (b && false)
    none true = refl
    none false = refl
any_found pattern text (t ∷ texts) =
    ap (λ b. b || list_any (λ x. finds pattern x && same_name x text) texts) (same_found pattern t text)
    ∙ (ap (λ b. (finds pattern text && same_name t text) || b) (any_found pattern text texts) ∙ parted (finds pattern text) (same_name t text) (has_name text texts))
  where
    parted : (f a b : Bool) → ((f && a) || (f && b)) ≡ (f && (a || b))
    parted true a b = refl
    parted false a b = refl

any_given : (pattern text : List ℕ) (names : List (List ℕ))
    → list_any (gives pattern text) names ≡ (finds pattern text && (has_name text names || (wants_levels pattern && list_any (λ name. is_level_of name text) names)))
any_given pattern text [] = none (finds pattern text) (wants_levels pattern)
  where
    none : (b w : Bool) → false ≡ (b && (false || (w && false)))
    none true true = refl
    none true false = refl
    none false w = refl
any_given pattern text (name ∷ names) =
    ap (λ b. gives pattern text name || b) (any_given pattern text names)
    ∙ joined (finds pattern text) (wants_levels pattern) (same_name name text) (is_level_of name text) (has_name text names) (list_any (λ n. is_level_of n text) names)
  where
    joined : (F W s l S L : Bool) → ((F && (s || (W && l))) || (F && (S || (W && L)))) ≡ (F && ((s || S) || (W && (l || L))))
    joined false W s l S L = refl
    joined true W true l S L = refl
    joined true true false true S L = or_true S
      where
        or_true : (b : Bool) → true ≡ (b || true)
        or_true true = refl
        or_true false = refl
    joined true true false false S L = refl
    joined true false false l S L = refl

-- the texts that are found are the candidates that the pattern finds
pub candidates_found : (pattern text : List ℕ) (names : List (List ℕ)) → has_name text (filter (finds pattern) (candidates pattern names)) ≡ list_any (gives pattern text) names
candidates_found pattern text names =
    any_filter (λ t. same_name t text) (finds pattern) (candidates pattern names)
    ∙ (any_found pattern text (candidates pattern names)
    ∙ (ap (λ b. finds pattern text && b) (by (wants_levels pattern)) ∙ sym (any_given pattern text names)))
  where
    levels_are : has_name text (map mailbox_name (flat_map levels_of names)) ≡ list_any (λ name. is_level_of name text) names
    levels_are = any_map (λ t. same_name t text) mailbox_name (flat_map levels_of names) ∙ any_flat (λ level. same_name (mailbox_name level) text) levels_of names

    or_none : (b : Bool) → b ≡ (b || false)
    or_none true = refl
    or_none false = refl

    by : (w : Bool) → has_name text (if w then names ++ map mailbox_name (flat_map levels_of names) else names) ≡ (has_name text names || (w && list_any (λ name. is_level_of name text) names))
    by true = list_any-append (λ t. same_name t text) names (map mailbox_name (flat_map levels_of names)) ∙ ap (λ b. has_name text names || b) levels_are
    by false = or_none (has_name text names)

-- ---- what is told

map_same : {X Y : Type 0} (f g : X → Y) (xs : List X) → ((x : X) → f x ≡ g x) → map f xs ≡ map g xs
map_same f g [] same = refl
map_same f g (x ∷ xs) same = ap (λ y. y ∷ map f xs) (same x) ∙ ap (λ l. g x ∷ l) (map_same f g xs same)

map_twice : {X Y Z : Type 0} (f : X → Y) (g : Y → Z) (xs : List X) → map (λ x. g (f x)) xs ≡ map g (map f xs)
map_twice f g [] = refl
map_twice f g (x ∷ xs) = ap (λ l. g (f x) ∷ l) (map_twice f g xs)

abbrev pub told_of : List (List ℕ) → List ℕ → Listed
told_of names name = record { name = name; noselect = not (has_name name names) }

pub told_all : {K : Type 0} (f : K → List ℕ) (pattern : List ℕ) (names there : List (List ℕ)) (keys : List K) → ((text : List ℕ) → has_name text there ≡ has_name text names)
    → AreFound pattern names (map f keys) → map (λ k. told_of there (f k)) keys ≡ listed pattern names
unfolding listed
told_all f pattern names there keys same found =
    map_twice f (told_of there) keys
    ∙ (map_same (told_of there) (told_of names) (map f keys) (λ name. ap (λ b. record { name = name; noselect = not b }) (same name))
    ∙ ap (map (told_of names)) (are_ordered (map f keys) (filter (finds pattern) (candidates pattern names)) found.order (λ text. found.each text ∙ sym (candidates_found pattern text names))))
