-- What the rows of a mailbox say of it is what it is in the world that the tables stand for.
use Rattle.std.proofs.Common.{ℕ, ◌≡◌, ◌+◌, ◌<◌, ◌&&◌, ◌||◌, ◌==◌, Bool, true, false, not, cond, List, [], ◌∷◌, map, Option, Some, None, is_some, refl, sym, ap, subst, ◌∙◌, arith, ⊎_elim}
use Rattle.std.specs.Prelude.{codes, nat_le}
use Rattle.std.specs.List.{AllByRecursion, list_any, list_all, filter, find, position, position_from}
use Rattle.std.specs.Option.{option_map, option_and_then}
use Rattle.std.specs.Cmp.Lexicographic.{bytes_decides}
use Rattle.std.proofs.lemmas.Bool.{false≢true, eqb-true, eq-eqb, ne_eqb, and_parts, and_from, or_cases, or_left, or_right}
use Rattle.std.proofs.lemmas.Option.{none-some, same_Some}
use Rattle.std.proofs.lemmas.Iterator.Adapters.{position_from-zero}
use Rattle.ordered_rows.specs.RowKey.{RowKey, number_key, same_key}
use Rattle.ordered_rows.specs.Listed.{row_at, has_key}
use Rattle.ordered_rows.specs.InsertLaws.{InsertLaws}
use Rattle.row_tables.specs.Keys.{uid_flag_key, mailbox_key, flag_key, flag_name_key}
use Rattle.row_tables.specs.Indexes.{has_flag_name, flag_name_id}
use Rattle.row_tables.specs.TableRows.{TableRows}
use Rattle.row_tables.specs.References.{flags_of as flag_rows_of, uids_of as row_uids}
use Rattle.row_tables.specs.declared.contents.BodyPart.{BodyPart}
use Rattle.row_tables.specs.declared.marks.FlagName.{FlagName}
use Rattle.row_tables.specs.declared.marks.FlagRow.{FlagRow}
use Rattle.mail_world.specs.Flags.{is_flag}
use Rattle.mail_world.specs.Worlds.{World, Mailbox, Entry, mailbox_at, entry_at}
use Rattle.mail_world.specs.Summaries.{uids_of, is_unseen, first_unseen, keywords_of}
use Rattle.mail_world.specs.Legal.{Ascend}
use Rattle.mail_stands.specs.Facts.{entry_in, flags_of, has_flag_named}
use Rattle.mail_stands.specs.Flagging.{is_flagged, is_flagged_by}
use Rattle.mail_stands.specs.Stands.{Stands, AreWhole}
use Rattle.mailbox_core.specs.declared.summing.Summary.{Summary}
use Rattle.mailbox_core.specs.Summing.{IsSummary}
use Rattle.mailbox_core.specs.SummaryRows.{AreKeywords, IsRowSummary, is_id_of, is_keyword, is_row_of}
use Rattle.mailbox_core.proofs.Found.{find_passes}
use Rattle.mailbox_core.proofs.Words.{any_map, same_bool}
use Rattle.mailbox_core.proofs.KeywordSets.{is_word_of, all_sorted, all_have, words_named, seen_named, same_words}

-- ---- lists

-- what passes a test among those of which all this holds
any_with : {X : Type 0} (Q : X → Type 0) (p : X → Bool) (xs : List X) → AllByRecursion Q xs → list_any p xs ≡ true → (x : X) × Q x × (p x ≡ true)
any_with Q p [] all there = absurd (false≢true there)
any_with Q p (x ∷ xs) all there =
    ⊎_elim (λ (here : p x ≡ true). (x, all.0, here)) (λ (behind : list_any p xs ≡ true). any_with Q p xs all.1 behind) (or_cases (p x) (list_any p xs) there)

-- what is found is among the elements
found_any : {X : Type 0} (g p : X → Bool) (xs : List X) (x : X) → find g xs ≡ Some x → p x ≡ true → list_any p xs ≡ true
found_any g p [] x found passes = absurd (none-some x found)
found_any {X} g p (y ∷ xs) x found passes = by (g y) found (λ rest. found_any g p xs x rest passes)
  where
    by : (b : Bool) → cond b (Some y) (find g xs) ≡ Some x → (find g xs ≡ Some x → list_any p xs ≡ true) → (p y || list_any p xs) ≡ true
    by true is rest = or_left (p y) (list_any p xs) (subst (λ z. p z ≡ true) (sym (same_Some y x is)) passes)
    by false is rest = or_right (p y) (list_any p xs) (rest is)

found_all : {X : Type 0} (Q : X → Type 0) (g : X → Bool) (xs : List X) (x : X) → AllByRecursion Q xs → find g xs ≡ Some x → Q x
found_all Q g [] x all found = absurd (none-some x found)
found_all Q g (y ∷ xs) x all found = by (g y) found (λ rest. found_all Q g xs x all.1 rest)
  where
    by : (b : Bool) → cond b (Some y) (find g xs) ≡ Some x → (find g xs ≡ Some x → Q x) → Q x
    by true is rest = subst Q (same_Some y x is) all.0
    by false is rest = rest is

any_filter : {X : Type 0} (p q : X → Bool) (xs : List X) → list_any p (filter q xs) ≡ list_any (λ x. q x && p x) xs
any_filter p q [] = refl
any_filter p q (x ∷ xs) = by (q x) (any_filter p q xs)
  where
    by : (b : Bool) → list_any p (filter q xs) ≡ list_any (λ y. q y && p y) xs → list_any p (cond b (x ∷ filter q xs) (filter q xs)) ≡ ((b && p x) || list_any (λ y. q y && p y) xs)
    by true rest = ap (λ b. p x || b) rest
    by false rest = rest

pub filter_map : {X : Type 0} (q : ℕ → Bool) (f : X → ℕ) (xs : List X) → filter q (map f xs) ≡ map f (filter (λ x. q (f x)) xs)
filter_map q f [] = refl
filter_map q f (x ∷ xs) = by (q (f x)) (filter_map q f xs)
  where
    by : (b : Bool) → filter q (map f xs) ≡ map f (filter (λ y. q (f y)) xs) → cond b (f x ∷ filter q (map f xs)) (filter q (map f xs)) ≡ map f (cond b (x ∷ filter (λ y. q (f y)) xs) (filter (λ y. q (f y)) xs))
    by true rest = ap (λ l. f x ∷ l) rest
    by false rest = rest

positions_map : {X : Type 0} (p : ℕ → Bool) (q : X → Bool) (f : X → ℕ) (place : ℕ) (xs : List X) → AllByRecursion (λ x. p (f x) ≡ q x) xs → position_from p place (map f xs) ≡ position_from q place xs
positions_map p q f place [] all = refl
positions_map p q f place (x ∷ xs) all = rw (all.0, positions_map p q f (place + 1) xs all.1) refl

pub weaker : {X : Type 0} (P Q : X → Type 0) → ((x : X) → P x → Q x) → (xs : List X) → AllByRecursion P xs → AllByRecursion Q xs
weaker P Q h [] all = tt
weaker P Q h (x ∷ xs) all = (h x all.0, weaker P Q h xs all.1)

-- ---- entries at their UIDs

still_at : (e : Entry) (es all : List Entry) → AllByRecursion (λ m. e.uid < m) (map (λ (x : Entry). x.uid) es) → AllByRecursion (λ (x : Entry). entry_at x.uid all ≡ Some x) es → AllByRecursion (λ (x : Entry). entry_at x.uid (e ∷ all) ≡ Some x) es
still_at e [] all above at = tt
still_at e (x ∷ es) all above at = (rw (ne_eqb e.uid x.uid (λ same. omega (arith, above.0, same))) at.0, still_at e es all above.1 at.1)

each_at : (es : List Entry) → Ascend (map (λ (x : Entry). x.uid) es) → AllByRecursion (λ (x : Entry). entry_at x.uid es ≡ Some x) es
each_at [] up = tt
each_at (e ∷ es) up = (rw (eq-eqb e.uid e.uid refl) refl, still_at e es es up.0 (each_at es up.1))

-- ---- over tables that stand for a world

abbrev pub SameKeys : Type 0
SameKeys = (a b : RowKey) → same_key a b ≡ true → a ≡ b

module _ (same : SameKeys) (laws : InsertLaws flag_name_key) (content : BodyPart → List ℕ) (t : TableRows) (w : World) (id : ℕ) (m : Mailbox) (whole : AreWhole t) (s : Stands content t w) (at : mailbox_at id w.mailboxes ≡ Some m)
    (rows_at : AllByRecursion (λ (r : FlagRow). row_at flag_key (flag_key r) t.marks.flags ≡ Some r) t.marks.flags) where
  abbrev names : List FlagName
  names = t.marks.flag_names

  abbrev rows : List FlagRow
  rows = t.marks.flags

  at_uid : (uid : ℕ) → entry_in id uid w.mailboxes ≡ entry_at uid m.entries
  at_uid uid = ap (λ (o : Option Mailbox). option_and_then (λ x. entry_at uid x.entries) o) at

  -- a message has a row of a flag where it has the flag
  flagged_at : (uid : ℕ) (name : List ℕ) → is_flagged id uid name names rows ≡ has_flag_named name (flags_of (entry_at uid m.entries))
  flagged_at uid name = s.flags id uid name ∙ ap (λ (o : Option Entry). has_flag_named name (flags_of o)) (at_uid uid)

  pub entries_at : AllByRecursion (λ (e : Entry). entry_at e.uid m.entries ≡ Some e) m.entries
  entries_at = each_at m.entries (s.legal.mailboxes id m at).itself.uids

  proper : (e : Entry) → entry_at e.uid m.entries ≡ Some e → list_all is_flag e.message.flags ≡ true
  proper e found = ((s.legal.mailboxes id m at).itself.entries e.uid e found).flags.proper

  flagged : (e : Entry) (name : List ℕ) → entry_at e.uid m.entries ≡ Some e → is_flagged id e.uid name names rows ≡ has_flag_named name e.message.flags
  flagged e name found = flagged_at e.uid name ∙ ap (λ (o : Option Entry). has_flag_named name (flags_of o)) found

  -- ---- the unseen

  pub each_unseen : AllByRecursion (λ (e : Entry). not (is_flagged id e.uid (codes "\\Seen") names rows) ≡ is_unseen e) m.entries
  each_unseen =
      weaker (λ (e : Entry). entry_at e.uid m.entries ≡ Some e) (λ (e : Entry). not (is_flagged id e.uid (codes "\\Seen") names rows) ≡ is_unseen e)
      (λ e found. ap not (flagged e (codes "\\Seen") found ∙ sym (seen_named e.message.flags (proper e found)))) m.entries entries_at

  pub unseen_is : position (λ uid. not (is_flagged id uid (codes "\\Seen") names rows)) (uids_of m.entries) ≡ first_unseen m.entries
  unseen_is =
      let test : ℕ → Bool = λ uid. not (is_flagged id uid (codes "\\Seen") names rows) in
      position_from-zero test (uids_of m.entries)
      ∙ (positions_map test is_unseen (λ (e : Entry). e.uid) 0 m.entries each_unseen
      ∙ sym (position_from-zero is_unseen m.entries))

  -- ---- keywords

  -- the flag of a name that an id's row has
  named_by : (q : List ℕ) (flag : ℕ) → is_row_of q (row_at flag_name_key (number_key flag) names) ≡ true → flag_name_id q names ≡ Some flag
  named_by q flag e = by (row_at flag_name_key (number_key flag) names) refl e
    where
      by : (o : Option FlagName) → row_at flag_name_key (number_key flag) names ≡ o → is_row_of q o ≡ true → flag_name_id q names ≡ Some flag
      by None found e = absurd (false≢true e)
      by (Some n) found e =
          let its_name : n.name ≡ q = (bytes_decides n.name q).0 e in
          let its_id : n.id ≡ flag = ap (λ (k : RowKey). k.number) (same (number_key n.id) (number_key flag) (find_passes (has_key flag_name_key (number_key flag)) names n found)) in
          let itself : find (has_flag_name n.name) names ≡ Some n = found_all (λ (r : FlagName). find (has_flag_name r.name) names ≡ Some r) (has_key flag_name_key (number_key flag)) names n whole.distinct.flag_names found in
          ap (λ (o : Option FlagName). option_map (λ (r : FlagName). r.id) o) (subst (λ (l : List ℕ). find (has_flag_name l) names ≡ Some n) its_name itself) ∙ ap Some its_id

  -- the row of the id that a name has
  row_named : (q : List ℕ) (flag : ℕ) → flag_name_id q names ≡ Some flag → is_row_of q (row_at flag_name_key (number_key flag) names) ≡ true
  row_named q flag e = by (find (has_flag_name q) names) refl e
    where
      by : (o : Option FlagName) → find (has_flag_name q) names ≡ o → option_map (λ (r : FlagName). r.id) o ≡ Some flag → is_row_of q (row_at flag_name_key (number_key flag) names) ≡ true
      by None found is = absurd (none-some flag is)
      by (Some n) found is =
          let there : row_at flag_name_key (number_key n.id) names ≡ Some n = laws.at_key (has_flag_name q) n names whole.ordered.flag_names found in
          ap (is_row_of q) (subst (λ k. row_at flag_name_key (number_key k) names ≡ Some n) (same_Some n.id flag is) there) ∙ find_passes (has_flag_name q) names n found

  -- a row of a flag in the mailbox
  row_in : (q : List ℕ) (uid flag : ℕ) → is_some (row_at flag_key (uid_flag_key id uid flag) rows) ≡ true → is_id_of q names flag ≡ true → list_any (λ (r : FlagRow). (r.mailbox == id) && is_id_of q names r.flag) rows ≡ true
  row_in q uid flag there e = by (row_at flag_key (uid_flag_key id uid flag) rows) refl there
    where
      by : (o : Option FlagRow) → row_at flag_key (uid_flag_key id uid flag) rows ≡ o → is_some o ≡ true → list_any (λ (r : FlagRow). (r.mailbox == id) && is_id_of q names r.flag) rows ≡ true
      by None found is = absurd (false≢true is)
      by (Some r) found is =
          let its = same (flag_key r) (uid_flag_key id uid flag) (find_passes (has_key flag_key (uid_flag_key id uid flag)) rows r found) in
          found_any (has_key flag_key (uid_flag_key id uid flag)) (λ (x : FlagRow). (x.mailbox == id) && is_id_of q names x.flag) rows r found
          (and_from (r.mailbox == id) (is_id_of q names r.flag) (eq-eqb r.mailbox id (ap (λ (k : RowKey). k.number) its)) (subst (λ f. is_id_of q names f ≡ true) (sym (ap (λ (k : RowKey). k.item) its)) e))

  -- a flag of a message is a row
  to_rows : (q : List ℕ) → list_any (λ (e : Entry). list_any (is_word_of q) e.message.flags) m.entries ≡ true → list_any (λ (r : FlagRow). (r.mailbox == id) && is_id_of q names r.flag) rows ≡ true
  to_rows q there =
      let its = any_with (λ (e : Entry). entry_at e.uid m.entries ≡ Some e) (λ (e : Entry). list_any (is_word_of q) e.message.flags) m.entries entries_at there in
      let parts = and_parts (is_keyword q) (has_flag_named q its.0.message.flags) (sym (words_named q its.0.message.flags (proper its.0 its.1)) ∙ its.2) in
      by its.0.uid parts.0 (flag_name_id q names) refl (flagged its.0 q its.1 ∙ parts.1)
    where
      by : (uid : ℕ) → is_keyword q ≡ true → (o : Option ℕ) → flag_name_id q names ≡ o → is_flagged_by id uid rows (flag_name_id q names) ≡ true → list_any (λ (r : FlagRow). (r.mailbox == id) && is_id_of q names r.flag) rows ≡ true
      by uid word None e is = absurd (false≢true (sym (ap (is_flagged_by id uid rows) e) ∙ is))
      by uid word (Some flag) e is =
          row_in q uid flag (sym (ap (is_flagged_by id uid rows) e) ∙ is) (and_from (is_keyword q) (is_row_of q (row_at flag_name_key (number_key flag) names)) word (row_named q flag e))

  -- a message that has a flag
  entry_with : (q : List ℕ) (uid : ℕ) → is_keyword q ≡ true → has_flag_named q (flags_of (entry_at uid m.entries)) ≡ true → list_any (λ (e : Entry). list_any (is_word_of q) e.message.flags) m.entries ≡ true
  entry_with q uid word is = by (entry_at uid m.entries) refl is
    where
      by : (o : Option Entry) → entry_at uid m.entries ≡ o → has_flag_named q (flags_of o) ≡ true → list_any (λ (e : Entry). list_any (is_word_of q) e.message.flags) m.entries ≡ true
      by None found is = absurd (false≢true is)
      by (Some e) found is =
          let here : entry_at e.uid m.entries ≡ Some e = found_all (λ (x : Entry). entry_at x.uid m.entries ≡ Some x) (λ (x : Entry). x.uid == uid) m.entries e entries_at found in
          found_any (λ (x : Entry). x.uid == uid) (λ (x : Entry). list_any (is_word_of q) x.message.flags) m.entries e found (words_named q e.message.flags (proper e here) ∙ and_from (is_keyword q) (has_flag_named q e.message.flags) word is)

  -- a row of a flag is one of a message
  to_entries : (q : List ℕ) → list_any (λ (r : FlagRow). (r.mailbox == id) && is_id_of q names r.flag) rows ≡ true → list_any (λ (e : Entry). list_any (is_word_of q) e.message.flags) m.entries ≡ true
  to_entries q there =
      let its = any_with (λ (r : FlagRow). row_at flag_key (flag_key r) rows ≡ Some r) (λ (r : FlagRow). (r.mailbox == id) && is_id_of q names r.flag) rows rows_at there in
      let r : FlagRow = its.0 in
      let parts = and_parts (r.mailbox == id) (is_id_of q names r.flag) its.2 in
      let word = and_parts (is_keyword q) (is_row_of q (row_at flag_name_key (number_key r.flag) names)) parts.1 in
      let here : row_at flag_key (uid_flag_key id r.uid r.flag) rows ≡ Some r = subst (λ n. row_at flag_key (uid_flag_key n r.uid r.flag) rows ≡ Some r) (eqb-true r.mailbox id parts.0) its.1 in
      let is : is_flagged id r.uid q names rows ≡ true = ap (is_flagged_by id r.uid rows) (named_by q r.flag word.1) ∙ ap is_some here in
      entry_with q r.uid word.0 (sym (flagged_at r.uid q) ∙ is)

  rows_have : (q : List ℕ) → list_any (is_id_of q names) (map (λ (r : FlagRow). r.flag) (flag_rows_of id rows)) ≡ list_any (λ (r : FlagRow). (r.mailbox == id) && is_id_of q names r.flag) rows
  rows_have q = any_map (is_id_of q names) (λ (r : FlagRow). r.flag) (flag_rows_of id rows) ∙ any_filter (λ (r : FlagRow). is_id_of q names r.flag) (λ (r : FlagRow). r.mailbox == id) rows

  pub keywords_are : (words : List (List ℕ)) → AreKeywords names (map (λ (r : FlagRow). r.flag) (flag_rows_of id rows)) words → words ≡ keywords_of m.entries
  keywords_are words are =
      same_words words (keywords_of m.entries) are.order (all_sorted m.entries)
      (λ q. are.each q ∙ (rows_have q ∙ (same_bool (list_any (λ (r : FlagRow). (r.mailbox == id) && is_id_of q names r.flag) rows) (list_any (λ (e : Entry). list_any (is_word_of q) e.message.flags) m.entries) (to_entries q) (to_rows q) ∙ sym (all_have q m.entries))))

  -- ---- all that is told

  pub summed : row_uids id t.marks.mailbox_messages ≡ uids_of m.entries → row_at mailbox_key (number_key id) t.heads.mailboxes ≡ Some m.head → (its : Summary) → IsRowSummary t id its → IsSummary its m
  summed uids head its are =
      let heads = are.head m.head head in
      let its_uids : its.uids ≡ uids_of m.entries = are.uids ∙ uids in
      record {
        uids = its_uids;
        recent =
            are.recent ∙ (ap (λ (l : List ℕ). filter (λ uid. nat_le its.first_recent uid) l) its_uids
            ∙ (ap (λ n. filter (λ uid. nat_le n uid) (uids_of m.entries)) heads.1 ∙ filter_map (λ uid. nat_le m.head.first_recent uid) (λ (e : Entry). e.uid) m.entries));
        first_unseen = are.first_unseen ∙ (ap (λ (l : List ℕ). position (λ uid. not (is_flagged id uid (codes "\\Seen") names rows)) l) its_uids ∙ unseen_is);
        keywords = keywords_are its.keywords are.keywords;
        uidnext = heads.0;
        first_recent = heads.1;
      }
