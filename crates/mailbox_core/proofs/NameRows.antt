-- The names that rows have.
use Rattle.std.proofs.Common.{ℕ, ◌≡◌, ◌==◌, ◌&&◌, ◌||◌, Bool, true, false, cond, nat_eq, List, [], ◌∷◌, ◌++◌, map, Option, Some, None, is_some, Bor, refl, sym, ap, subst, ◌∙◌}
use Rattle.std.specs.List.{list_any, filter, find, starts_with}
use Rattle.std.specs.Option.{option_copied}
use Rattle.std.specs.Cmp.Lexicographic.{bytes_decides}
use Rattle.std.proofs.lemmas.Bool.{true≢false, and_parts, and_from}
use Rattle.std.proofs.lemmas.List.Folds.{list_any-append}
use Rattle.row_tables.specs.Names.{ComesNext, has_mailbox_name, mailbox_is_after, mailbox_named, is_after}
use Rattle.row_tables.specs.TableRows.{TableRows}
use Rattle.row_tables.specs.declared.heads.Mailbox.{Mailbox as Head}
use Rattle.row_tables.specs.declared.contents.BodyPart.{BodyPart}
use Rattle.mailbox_names.specs.Names.{same_name, has_name, inbox}
use Rattle.mailbox_names.specs.Fronts.{is_wanted, IsPart}
use Rattle.mail_world.specs.Worlds.{World, Mailbox, is_owned_by}
use Rattle.mail_world.specs.Listing.{names_of}
use Rattle.mail_stands.specs.Stands.{Stands}
use Rattle.mailbox_core.specs.Listing.{IsNextName, NoneAfter, names_in}

-- ---- names of mailboxes

named_rows : (user : ℕ) (name : List ℕ) (rows : List Head) → has_name name (map (λ (r : Head). r.name) (filter (λ (r : Head). r.owner == user) rows)) ≡ list_any (has_mailbox_name user name) rows
named_rows user name [] = refl
named_rows user name (r ∷ rows) = by (r.owner == user) (named_rows user name rows)
  where
    and_true : (b : Bool) → b ≡ (b && true)
    and_true true = refl
    and_true false = refl

    and_false : (b c : Bool) → c ≡ ((b && false) || c)
    and_false true c = refl
    and_false false c = refl

    by : (b : Bool) → has_name name (map (λ (r : Head). r.name) (filter (λ (r : Head). r.owner == user) rows)) ≡ list_any (has_mailbox_name user name) rows
        → has_name name (map (λ (r : Head). r.name) (cond b (r ∷ filter (λ (r : Head). r.owner == user) rows) (filter (λ (r : Head). r.owner == user) rows))) ≡ ((same_name r.name name && b) || list_any (has_mailbox_name user name) rows)
    by true rest = ap (λ c. same_name r.name name || c) rest ∙ ap (λ c. c || list_any (has_mailbox_name user name) rows) (and_true (same_name r.name name))
    by false rest = rest ∙ and_false (same_name r.name name) (list_any (has_mailbox_name user name) rows)

find_any : {X : Type 0} (p : X → Bool) (xs : List X) → is_some (find p xs) ≡ list_any p xs
find_any p [] = refl
find_any p (x ∷ xs) = by (p x) (find_any p xs)
  where
    by : (b : Bool) → is_some (find p xs) ≡ list_any p xs → is_some (cond b (Some x) (find p xs)) ≡ (b || list_any p xs)
    by true rest = refl
    by false rest = rest

any_weaker : {X : Type 0} (p q : X → Bool) (xs : List X) → ((x : X) → p x ≡ true → q x ≡ true) → list_any p xs ≡ true → list_any q xs ≡ true
any_weaker p q [] more there = there
any_weaker p q (x ∷ xs) more there = by (p x) refl there (any_weaker p q xs more)
  where
    or_true : (b : Bool) → (b || true) ≡ true
    or_true true = refl
    or_true false = refl

    by : (b : Bool) → p x ≡ b → (b || list_any p xs) ≡ true → (list_any p xs ≡ true → list_any q xs ≡ true) → (q x || list_any q xs) ≡ true
    by true e there rest = ap (λ c. c || list_any q xs) (more x e)
    by false e there rest = ap (λ c. q x || c) (rest there) ∙ or_true (q x)

copied_some : {X : Type 0} (o : Option (Bor X)) → is_some o ≡ is_some (option_copied o)
copied_some None = refl
copied_some (Some x) = refl

pub has_as_found : (user : ℕ) (name : List ℕ) (rows : List Head) (found : Option (Bor Head)) → option_copied found ≡ mailbox_named user name rows
    → is_some found ≡ has_name name (map (λ (r : Head). r.name) (filter (λ (r : Head). r.owner == user) rows))
has_as_found user name rows found is = copied_some found ∙ (ap is_some is ∙ (find_any (has_mailbox_name user name) rows ∙ sym (named_rows user name rows)))

module _ (user : ℕ) (name : List ℕ) (rows : List Head) where
  abbrev names : List (List ℕ)
  names = map (λ (r : Head). r.name) (filter (λ (r : Head). r.owner == user) rows)

  abbrev within : Head → Head → Bool
  within row s = is_after name s.name && is_after s.name row.name && (s.owner == user)

  pub none_next : find (mailbox_is_after user name) rows ≡ None → NoneAfter name names
  none_next none other there = by (is_after name other) refl
    where
      by : (b : Bool) → is_after name other ≡ b → is_after name other ≡ false
      by false e = e
      by true e =
          let some = any_weaker (has_mailbox_name user other) (mailbox_is_after user name) rows
          (λ r h. let parts = and_parts (same_name r.name other) (r.owner == user) h in and_from (is_after name r.name) (r.owner == user) (subst (λ n. is_after name n ≡ true) (sym ((bytes_decides r.name other).0 parts.0)) e) parts.1)
          (sym (named_rows user other rows) ∙ there) in
          absurd (true≢false (sym some ∙ (sym (find_any (mailbox_is_after user name) rows) ∙ ap is_some none)))

  pub some_next : (row : Head) → ComesNext user name rows row → IsNextName name row.name names
  some_next row next = record {
    there = named_rows user row.name rows ∙ (sym (find_any (has_mailbox_name user row.name) rows) ∙ ap is_some next.first);
    after = next.after;
    between = λ other there e. by other there e (is_after other row.name) refl;
  }
    where
      by : (other : List ℕ) → has_name other names ≡ true → is_after name other ≡ true → (b : Bool) → is_after other row.name ≡ b → is_after other row.name ≡ false
      by other there e false f = f
      by other there e true f =
          let some = any_weaker (has_mailbox_name user other) (within row) rows
          (λ r h. let parts = and_parts (same_name r.name other) (r.owner == user) h in
          let same = sym ((bytes_decides r.name other).0 parts.0) in
          and_from (is_after name r.name && is_after r.name row.name) (r.owner == user)
          (and_from (is_after name r.name) (is_after r.name row.name) (subst (λ n. is_after name n ≡ true) same e) (subst (λ n. is_after n row.name ≡ true) same f)) parts.1)
          (sym (named_rows user other rows) ∙ there) in
          absurd (true≢false (sym some ∙ (sym (find_any (within row) rows) ∙ ap is_some next.between)))

-- ---- INBOX beside the names with a front

pub inbox_there : (front : List ℕ) (all got : List (List ℕ)) → ((name : List ℕ) → has_name name got ≡ (starts_with nat_eq name front && has_name name all)) → has_name inbox all ≡ true
    → IsPart front all (got ++ inbox ∷ [])
inbox_there front all got is there name = list_any-append (λ n. same_name n name) got (inbox ∷ []) ∙ (ap (λ b. b || (same_name inbox name || false)) (is name) ∙ by (same_name inbox name) refl)
  where
    or_true : (b : Bool) → (b || true) ≡ true
    or_true true = refl
    or_true false = refl

    none : (s h : Bool) → ((s && h) || false) ≡ ((false || s) && h)
    none true true = refl
    none true false = refl
    none false h = refl

    flipped : (b : Bool) → same_name inbox name ≡ b → same_name name inbox ≡ b
    flipped true e = (bytes_decides name inbox).1 (sym ((bytes_decides inbox name).0 e))
    flipped false e = other (same_name name inbox) refl
      where
        other : (c : Bool) → same_name name inbox ≡ c → same_name name inbox ≡ false
        other true f = absurd (true≢false (sym ((bytes_decides inbox name).1 (sym ((bytes_decides name inbox).0 f))) ∙ e))
        other false f = f

    by : (b : Bool) → same_name inbox name ≡ b → ((starts_with nat_eq name front && has_name name all) || (b || false)) ≡ (is_wanted front name && has_name name all)
    by true e = or_true (starts_with nat_eq name front && has_name name all)
        ∙ sym (and_from (is_wanted front name) (has_name name all) (ap (λ s. s || starts_with nat_eq name front) (flipped true e)) (subst (λ n. has_name n all ≡ true) ((bytes_decides inbox name).0 e) there))
    by false e = none (starts_with nat_eq name front) (has_name name all) ∙ ap (λ s. (s || starts_with nat_eq name front) && has_name name all) (sym (flipped false e))

pub no_inbox : (front : List ℕ) (all got : List (List ℕ)) → ((name : List ℕ) → has_name name got ≡ (starts_with nat_eq name front && has_name name all)) → has_name inbox all ≡ false → IsPart front all got
no_inbox front all got is none name = is name ∙ by (same_name name inbox) refl
  where
    and_false : (b c : Bool) → (b && false) ≡ (c && false)
    and_false true true = refl
    and_false true false = refl
    and_false false true = refl
    and_false false false = refl

    by : (b : Bool) → same_name name inbox ≡ b → (starts_with nat_eq name front && has_name name all) ≡ ((b || starts_with nat_eq name front) && has_name name all)
    by true e = let gone : has_name name all ≡ false = ap (λ n. has_name n all) ((bytes_decides name inbox).0 e) ∙ none in ap (λ h. starts_with nat_eq name front && h) gone ∙ (and_false (starts_with nat_eq name front) true ∙ ap (λ h. true && h) (sym gone))
    by false e = refl

-- ---- names that are kept by a test

pub filter_part : (front : List ℕ) (all : List (List ℕ)) → IsPart front all (filter (is_wanted front) all)
filter_part front [] name = none (is_wanted front name)
  where
    none : (b : Bool) → false ≡ (b && false)
    none true = refl
    none false = refl
filter_part front (n ∷ all) name = by (is_wanted front n) refl (same_name n name) refl (filter_part front all name)
  where
    or_out : (w h : Bool) → (w && h) ≡ (w && (false || h))
    or_out w h = refl

    wanted_too : same_name n name ≡ true → is_wanted front name ≡ is_wanted front n
    wanted_too e = ap (is_wanted front) (sym ((bytes_decides n name).0 e))

    by : (w : Bool) → is_wanted front n ≡ w → (s : Bool) → same_name n name ≡ s → has_name name (filter (is_wanted front) all) ≡ (is_wanted front name && has_name name all)
        → has_name name (cond w (n ∷ filter (is_wanted front) all) (filter (is_wanted front) all)) ≡ (is_wanted front name && (s || has_name name all))
    by true e true f rest = ap (λ s. s || has_name name (filter (is_wanted front) all)) f ∙ sym (ap (λ w. w && true) (wanted_too f ∙ e))
    by true e false f rest = ap (λ s. s || has_name name (filter (is_wanted front) all)) f ∙ rest
    by false e true f rest = rest ∙ (ap (λ w. w && has_name name all) (wanted_too f ∙ e) ∙ sym (ap (λ w. w && true) (wanted_too f ∙ e)))
    by false e false f rest = rest

pub filter_cons : {X : Type 0} (p : X → Bool) (x : X) (xs : List X) → filter p (x ∷ []) ++ filter p xs ≡ filter p (x ∷ xs)
filter_cons p x xs = by (p x)
  where
    by : (b : Bool) → cond b (x ∷ []) [] ++ filter p xs ≡ cond b (x ∷ filter p xs) (filter p xs)
    by true = refl
    by false = refl

-- ---- over tables that stand for a world

heads_owned : (user : ℕ) (mailboxes : List Mailbox) → map (λ (r : Head). r.name) (filter (λ (r : Head). r.owner == user) (map (λ (m : Mailbox). m.head) mailboxes)) ≡ map (λ (m : Mailbox). m.head.name) (filter (is_owned_by user) mailboxes)
heads_owned user [] = refl
heads_owned user (m ∷ mailboxes) = by (m.head.owner == user) (filter (λ (r : Head). r.owner == user) (map (λ (x : Mailbox). x.head) mailboxes)) (heads_owned user mailboxes)
  where
    by : (b : Bool) (rows : List Head) → map (λ (r : Head). r.name) rows ≡ map (λ (x : Mailbox). x.head.name) (filter (is_owned_by user) mailboxes)
        → map (λ (r : Head). r.name) (cond b (m.head ∷ rows) rows) ≡ map (λ (x : Mailbox). x.head.name) (cond b (m ∷ filter (is_owned_by user) mailboxes) (filter (is_owned_by user) mailboxes))
    by true rows rest = ap (λ l. m.head.name ∷ l) rest
    by false rows rest = rest

pub names_stand : (content : BodyPart → List ℕ) (t : TableRows) (w : World) (subscribed : Bool) (user : ℕ) → Stands content t w → names_in subscribed user t ≡ names_of subscribed user w
names_stand content t w true user stands = rw stands.subscriptions refl
names_stand content t w false user stands = rw stands.mailboxes (heads_owned user w.mailboxes)

-- ---- a name that is added

pub pushed_name : (items new : List (Bor (List ℕ))) (n : Bor (List ℕ)) → new ≡ items ++ n ∷ [] → map (λ (x : Bor (List ℕ)). x.now) new ≡ map (λ (x : Bor (List ℕ)). x.now) items ++ n.now ∷ []
pushed_name items new n is = ap (map (λ (x : Bor (List ℕ)). x.now)) is ∙ mapped items
  where
    mapped : (l : List (Bor (List ℕ))) → map (λ (x : Bor (List ℕ)). x.now) (l ++ n ∷ []) ≡ map (λ (x : Bor (List ℕ)). x.now) l ++ n.now ∷ []
    mapped [] = refl
    mapped (x ∷ l) = ap (λ r. x.now ∷ r) (mapped l)
