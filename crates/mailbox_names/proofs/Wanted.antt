-- Which names a pattern finds nothing of.
use Rattle.std.proofs.Common.{ℕ, ◌≡◌, ◌==◌, ◌&&◌, ◌||◌, Bool, true, false, not, nat_eq, List, [], ◌∷◌, ◌++◌, map, ⊎_elim, refl, sym, ap, subst, ◌∙◌}
use Rattle.std.specs.List.{list_any, filter, starts_with}
use Rattle.std.specs.Cmp.Lexicographic.{bytes_decides}
use Rattle.std.proofs.lemmas.Bool.{true≢false, false≢true, and_parts, and_from, or_cases, or_left, or_right, eqb-true, eq-eqb}
use Rattle.std.proofs.lemmas.List.Folds.{list_any-append}
use Rattle.mailbox_names.specs.Names.{same_name, has_name, inbox, mailbox_name, separator, levels_of}
use Rattle.mailbox_names.specs.Patterns.{is_wildcard, matches}
use Rattle.mailbox_names.specs.Listing.{finds, wants_levels, candidates, in_order, listed}
use Rattle.mailbox_names.specs.Finding.{is_level_of, gives, plain_front, front_of}
use Rattle.mailbox_names.specs.Fronts.{is_wanted, IsPart}
use Rattle.mailbox_names.proofs.Sets.{same_bool, any_map, same_names, ordered, ordered_has}
use Rattle.mailbox_names.proofs.Levels.{kept_as, told_of, candidates_found, here}

-- ---- what begins with a front

abbrev Begins : List ℕ → List ℕ → Type 0
Begins front name = (rest : List ℕ) × (name ≡ front ++ rest)

starts_self : (front rest : List ℕ) → starts_with nat_eq (front ++ rest) front ≡ true
starts_self [] rest = refl
starts_self (p ∷ front) rest = and_from (p == p) (starts_with nat_eq (front ++ rest) front) (eq-eqb p p refl) (starts_self front rest)

starts : (front name : List ℕ) → Begins front name → starts_with nat_eq name front ≡ true
starts front name begins = subst (λ l. starts_with nat_eq l front ≡ true) (sym begins.1) (starts_self front begins.0)

append_more : {X : Type 0} (xs ys zs : List X) → (xs ++ ys) ++ zs ≡ xs ++ (ys ++ zs)
append_more [] ys zs = refl
append_more (x ∷ xs) ys zs = ap (λ l. x ∷ l) (append_more xs ys zs)

begins_behind : (front level name : List ℕ) → Begins front level → Begins level name → Begins front name
begins_behind front level name a b = (a.0 ++ b.0, b.1 ∙ (ap (λ l. l ++ b.0) a.1 ∙ append_more front a.0 b.0))

same_cons : (b p : ℕ) (name rest : List ℕ) → b ≡ p → name ≡ rest → (b ∷ name) ≡ (p ∷ rest)
same_cons b p name rest e f = ap (λ n. n ∷ name) e ∙ ap (λ l. p ∷ l) f

-- what a pattern matches begins with its plain front
front_matched : (pattern text : List ℕ) → matches pattern text ≡ true → Begins (plain_front pattern) text
unfolding matches
front_matched [] text m = (text, refl)
front_matched (p ∷ pattern) text m = by (is_wildcard p) refl text m (front_matched pattern)
  where
    by : (w : Bool) → is_wildcard p ≡ w → (text : List ℕ) → matches (p ∷ pattern) text ≡ true → ((name : List ℕ) → matches pattern name ≡ true → Begins (plain_front pattern) name) → Begins (plain_front (p ∷ pattern)) text
    by true e text m rest = rw e (text, refl)
    by false e [] m rest = absurd (false≢true (rw e at m))
    by false e (b ∷ name) m rest =
        let parts = and_parts (b == p) (matches pattern name) (rw e at m) in
        let its = rest name parts.1 in
        rw e (its.0, same_cons b p name (plain_front pattern ++ its.0) (eqb-true b p parts.0) its.1)

-- a name begins with each of its levels
any_level : (p : List ℕ → Bool) (name : List ℕ) → list_any p (levels_of name) ≡ true → (level : List ℕ) × Begins level name × (p level ≡ true)
any_level p [] there = absurd (false≢true there)
any_level p (b ∷ name) there =
    ⊎_elim (first (b == separator))
    (λ (behind : list_any p (map (λ level. b ∷ level) (levels_of name)) ≡ true).
    let its = any_level (λ level. p (b ∷ level)) name (sym (any_map p (λ level. b ∷ level) (levels_of name)) ∙ behind) in
    (b ∷ its.0, (its.1.0, ap (λ l. b ∷ l) its.1.1), its.2))
    (or_cases (list_any p (here (b == separator) [])) (list_any p (map (λ level. b ∷ level) (levels_of name))) (sym (list_any-append p (here (b == separator) []) (map (λ level. b ∷ level) (levels_of name))) ∙ there))
  where
    first : (s : Bool) → list_any p (here s []) ≡ true → (level : List ℕ) × Begins level (b ∷ name) × (p level ≡ true)
    first true h = ([], (b ∷ name, refl), ⊎_elim (λ (h : p [] ≡ true). h) (λ (h : false ≡ true). absurd (false≢true h)) (or_cases (p []) false h))
    first false h = absurd (false≢true h)

-- ---- a name of which something is found has the front

-- a text that isn't INBOX
text_wanted : (pattern text name : List ℕ) → same_name text inbox ≡ false → gives pattern text name ≡ true → is_wanted (plain_front pattern) name ≡ true
text_wanted pattern text name other given =
    let parts = and_parts (finds pattern text) (same_name name text || (wants_levels pattern && is_level_of name text)) given in
    let begins : Begins (plain_front pattern) text = front_matched pattern text (rw other at parts.0) in
    or_right (same_name name inbox) (starts_with nat_eq name (plain_front pattern))
    (⊎_elim (λ (same : same_name name text ≡ true). starts (plain_front pattern) name (subst (Begins (plain_front pattern)) (sym ((bytes_decides name text).0 same)) begins))
    (λ (below : (wants_levels pattern && is_level_of name text) ≡ true).
    let its = any_level (λ level. same_name (mailbox_name level) text) name (and_parts (wants_levels pattern) (is_level_of name text) below).1 in
    let is : mailbox_name its.0 ≡ text = (bytes_decides (mailbox_name its.0) text).0 its.2 in
    let level_is : its.0 ≡ text = sym (kept_as its.0 (ap (λ l. same_name l inbox) is ∙ other)) ∙ is in
    starts (plain_front pattern) name (begins_behind (plain_front pattern) text name begins (subst (λ l. Begins l name) level_is its.1)))
    (or_cases (same_name name text) (wants_levels pattern && is_level_of name text) parts.1))

-- INBOX, which isn't looked for as a level
inbox_wanted : (pattern text name : List ℕ) → same_name text inbox ≡ true → (wants_levels pattern && finds pattern inbox) ≡ false → gives pattern text name ≡ true → same_name name inbox ≡ true
inbox_wanted pattern text name same none given =
    let is : text ≡ inbox = (bytes_decides text inbox).0 same in
    let parts = and_parts (finds pattern text) (same_name name text || (wants_levels pattern && is_level_of name text)) given in
    ⊎_elim (λ (h : same_name name text ≡ true). subst (λ l. same_name name l ≡ true) is h)
    (λ (below : (wants_levels pattern && is_level_of name text) ≡ true).
    absurd (true≢false (sym (and_from (wants_levels pattern) (finds pattern inbox) (and_parts (wants_levels pattern) (is_level_of name text) below).0 (subst (λ l. finds pattern l ≡ true) is parts.0)) ∙ none)))
    (or_cases (same_name name text) (wants_levels pattern && is_level_of name text) parts.1)

wanted : (pattern text name : List ℕ) → gives pattern text name ≡ true → is_wanted (front_of pattern) name ≡ true
wanted pattern text name given = by (wants_levels pattern && finds pattern inbox) refl
  where
    inner : (s : Bool) → same_name text inbox ≡ s → (wants_levels pattern && finds pattern inbox) ≡ false → is_wanted (plain_front pattern) name ≡ true
    inner true same none = or_left (same_name name inbox) (starts_with nat_eq name (plain_front pattern)) (inbox_wanted pattern text name same none given)
    inner false other none = text_wanted pattern text name other given

    by : (b : Bool) → (wants_levels pattern && finds pattern inbox) ≡ b → is_wanted (front_of pattern) name ≡ true
    by true e = rw e (or_right (same_name name inbox) true refl)
    by false e = rw e (inner (same_name text inbox) refl e)

-- ---- a part of the names that has all of those

any_member : (q : List ℕ → Bool) (names : List (List ℕ)) → list_any q names ≡ true → (name : List ℕ) × (has_name name names ≡ true) × (q name ≡ true)
any_member q [] there = absurd (false≢true there)
any_member q (name ∷ names) there =
    ⊎_elim (λ (here : q name ≡ true). (name, or_left (same_name name name) (has_name name names) ((bytes_decides name name).1 refl), here))
    (λ (behind : list_any q names ≡ true). let its = any_member q names behind in (its.0, or_right (same_name name its.0) (has_name its.0 names) its.1, its.2))
    (or_cases (q name) (list_any q names) there)

member_any : (q : List ℕ → Bool) (names : List (List ℕ)) (name : List ℕ) → has_name name names ≡ true → q name ≡ true → list_any q names ≡ true
member_any q [] name there passes = absurd (false≢true there)
member_any q (other ∷ names) name there passes =
    ⊎_elim (λ (here : same_name other name ≡ true). or_left (q other) (list_any q names) (subst (λ n. q n ≡ true) (sym ((bytes_decides other name).0 here)) passes))
    (λ (behind : has_name name names ≡ true). or_right (q other) (list_any q names) (member_any q names name behind passes)) (or_cases (same_name other name) (has_name name names) there)

map_same_on : {Y : Type 0} (f g : List ℕ → Y) (names : List (List ℕ)) → ((name : List ℕ) → has_name name names ≡ true → f name ≡ g name) → map f names ≡ map g names
map_same_on f g [] same = refl
map_same_on f g (name ∷ names) same =
    ap (λ y. y ∷ map f names) (same name (or_left (same_name name name) (has_name name names) ((bytes_decides name name).1 refl)))
    ∙ ap (λ l. g name ∷ l) (map_same_on f g names (λ n there. same n (or_right (same_name name n) (has_name n names) there)))

module _ (pattern : List ℕ) (names part : List (List ℕ)) (is : IsPart (front_of pattern) names part) where
  same_given : (text : List ℕ) → list_any (gives pattern text) part ≡ list_any (gives pattern text) names
  same_given text =
      same_bool (list_any (gives pattern text) part) (list_any (gives pattern text) names)
      (λ there. let its = any_member (gives pattern text) part there in
      member_any (gives pattern text) names its.0 (and_parts (is_wanted (front_of pattern) its.0) (has_name its.0 names) (sym (is its.0) ∙ its.1)).1 its.2)
      (λ there. let its = any_member (gives pattern text) names there in
      member_any (gives pattern text) part its.0 (is its.0 ∙ and_from (is_wanted (front_of pattern) its.0) (has_name its.0 names) (wanted pattern text its.0 its.2) its.1) its.2)

  abbrev found : List (List ℕ) → List (List ℕ)
  found l = in_order (filter (finds pattern) (candidates pattern l))

  found_has : (text : List ℕ) (l : List (List ℕ)) → has_name text (found l) ≡ list_any (gives pattern text) l
  found_has text l = ordered_has text (filter (finds pattern) (candidates pattern l)) ∙ candidates_found pattern text l

  same_found_of : found part ≡ found names
  same_found_of =
      same_names (found part) (found names) (ordered (filter (finds pattern) (candidates pattern part))) (ordered (filter (finds pattern) (candidates pattern names)))
      (λ text. found_has text part ∙ (same_given text ∙ sym (found_has text names)))

  told_same : (name : List ℕ) → has_name name (found names) ≡ true → told_of part name ≡ told_of names name
  told_same name there =
      let its = any_member (gives pattern name) names (sym (found_has name names) ∙ there) in
      let finds_it = (and_parts (finds pattern name) (same_name its.0 name || (wants_levels pattern && is_level_of its.0 name)) its.2).0 in
      let itself : gives pattern name name ≡ true =
      and_from (finds pattern name) (same_name name name || (wants_levels pattern && is_level_of name name)) finds_it (or_left (same_name name name) (wants_levels pattern && is_level_of name name) ((bytes_decides name name).1 refl)) in
      ap (λ b. record { name = name; noselect = not b }) (is name ∙ ap (λ b. b && has_name name names) (wanted pattern name name itself))

  pub part_listed : listed pattern part ≡ listed pattern names
  unfolding listed
  part_listed = ap (map (told_of part)) same_found_of ∙ map_same_on (told_of part) (told_of names) (found names) told_same
