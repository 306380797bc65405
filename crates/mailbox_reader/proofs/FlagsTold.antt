-- The flags that the rows of a message have are those of its entry in the world that the tables stand for.
use Rattle.std.proofs.Common.{ℕ, ◌≡◌, ◌&&◌, ◌||◌, ◌==◌, Bool, true, false, cond, List, [], ◌∷◌, ◌++◌, map, Option, Some, None, is_some, refl, sym, ap, subst, ◌∙◌}
use Rattle.std.specs.List.{AllByRecursion, list_any, list_all, filter, find}
use Rattle.std.specs.List.Sorted.{IsStrictlySortedBy}
use Rattle.std.specs.Prelude.{codes}
use Rattle.std.specs.Option.{option_and_then, option_map}
use Rattle.std.proofs.lemmas.Bool.{false≢true, eqb-true, eq-eqb, and_parts, and_from}
use Rattle.std.proofs.lemmas.Option.{none-some, same_Some}
use Rattle.ordered_rows.specs.RowKey.{number_key}
use Rattle.ordered_rows.specs.Listed.{row_at}
use Rattle.ordered_rows.specs.InsertLaws.{InsertLaws}
use Rattle.row_tables.specs.Keys.{uid_flag_key, flag_key, flag_name_key}
use Rattle.row_tables.specs.Indexes.{flag_name_id}
use Rattle.row_tables.specs.TableRows.{TableRows}
use Rattle.row_tables.specs.References.{flags_at}
use Rattle.row_tables.specs.declared.contents.BodyPart.{BodyPart}
use Rattle.row_tables.specs.declared.marks.FlagName.{FlagName}
use Rattle.row_tables.specs.declared.marks.FlagRow.{FlagRow}
use Rattle.imap_grammar.specs.declared.flags.Flag.{Flag}
use Rattle.imap_grammar.specs.declared.flags.Flag.TheVariants.{Keyword, Seen}
use Rattle.imap_grammar.specs.Flags.{flag_text}
use Rattle.mail_world.specs.Flags.{is_flag, has_flag}
use Rattle.mail_world.specs.Worlds.{World, Mailbox, Entry, mailbox_at, entry_at}
use Rattle.mail_world.specs.Summaries.{with_keywords}
use Rattle.mail_stands.specs.Facts.{entry_in, flags_of, has_flag_named}
use Rattle.mail_stands.specs.Flagging.{is_flagged, is_flagged_by}
use Rattle.mail_stands.specs.Stands.{Stands, AreWhole}
use Rattle.mailbox_reader.specs.Telling.{system_flags, told_flags}
use Rattle.mailbox_reader.specs.FlagRows.{TellsRows, is_flagged_in, is_id_of, is_keyword, is_row_of}
use Rattle.mailbox_reader.proofs.FlagNames.{SameKeys, named_by, row_named}
use Rattle.mailbox_reader.proofs.Words.{any_map, or_none, same_bool}
use Rattle.mailbox_reader.proofs.KeywordSets.{is_word_of, keywords_sorted, keywords_has, words_named, system_named, seen_named, same_words}

-- ---- lists

any_alike : {X : Type 0} (p q : X → Bool) → ((x : X) → p x ≡ q x) → (xs : List X) → list_any p xs ≡ list_any q xs
any_alike p q alike [] = refl
any_alike p q alike (x ∷ xs) = rw (alike x, any_alike p q alike xs) refl

any_where : {X : Type 0} (b : Bool) (p : X → Bool) (xs : List X) → list_any (λ x. b && p x) xs ≡ (b && list_any p xs)
any_where true p [] = refl
any_where true p (x ∷ xs) = ap (λ c. p x || c) (any_where true p xs)
any_where false p [] = refl
any_where false p (x ∷ xs) = any_where false p xs

none_of : {X : Type 0} (xs : List X) → list_any (λ (x : X). false) xs ≡ false
none_of [] = refl
none_of (x ∷ xs) = none_of xs

filter_alike : {X : Type 0} (p q : X → Bool) (xs : List X) → AllByRecursion (λ x. p x ≡ q x) xs → filter p xs ≡ filter q xs
filter_alike p q [] all = refl
filter_alike p q (x ∷ xs) all = rw (all.0, filter_alike p q xs all.1) refl

weaker : {X : Type 0} (P Q : X → Type 0) → ((x : X) → P x → Q x) → (xs : List X) → AllByRecursion P xs → AllByRecursion Q xs
weaker P Q h [] all = tt
weaker P Q h (x ∷ xs) all = (h x all.0, weaker P Q h xs all.1)

-- ---- rows

-- a row of a flag is among those of the message where it is there
at_rows : (id uid flag : ℕ) (rows : List FlagRow) → list_any (λ r. r.flag == flag) (flags_at id uid rows) ≡ is_some (row_at flag_key (uid_flag_key id uid flag) rows)
at_rows id uid flag [] = refl
at_rows id uid flag (r ∷ rows) = by (r.uid == uid) (r.mailbox == id) (r.flag == flag) refl (at_rows id uid flag rows)
  where
    by : (b c d : Bool) → (r.flag == flag) ≡ d → list_any (λ x. x.flag == flag) (flags_at id uid rows) ≡ is_some (row_at flag_key (uid_flag_key id uid flag) rows)
        → list_any (λ x. x.flag == flag) (cond (b && c) (r ∷ flags_at id uid rows) (flags_at id uid rows)) ≡ is_some (cond (d && b && c) (Some r) (row_at flag_key (uid_flag_key id uid flag) rows))
    by true true true e rest = rw e refl
    by true true false e rest = rw e rest
    by true false true e rest = rest
    by true false false e rest = rest
    by false c true e rest = rest
    by false c false e rest = rest

-- whether an id is the one, if there is one
abbrev is_the : Option ℕ → ℕ → Bool
is_the None n = false
is_the (Some flag) n = n == flag

any_the : (id uid : ℕ) (rows : List FlagRow) (o : Option ℕ) → list_any (λ r. is_the o r.flag) (flags_at id uid rows) ≡ is_flagged_by id uid rows o
any_the id uid rows None = none_of (flags_at id uid rows)
any_the id uid rows (Some flag) = at_rows id uid flag rows

module _ (content : BodyPart → List ℕ) (t : TableRows) (w : World) (id uid : ℕ) (s : Stands content t w) where
  abbrev names : List FlagName
  names = t.marks.flag_names

  abbrev its : List Flag
  its = flags_of (entry_in id uid w.mailboxes)

  proper : list_all is_flag its ≡ true
  proper = in_mailbox (mailbox_at id w.mailboxes) refl
    where
      in_mailbox : (o : Option Mailbox) → mailbox_at id w.mailboxes ≡ o → list_all is_flag (flags_of (option_and_then (λ m. entry_at uid m.entries) o)) ≡ true
      in_mailbox None at = refl
      in_mailbox (Some m) at = in_entry (entry_at uid m.entries) refl
        where
          in_entry : (e : Option Entry) → entry_at uid m.entries ≡ e → list_all is_flag (flags_of e) ≡ true
          in_entry None found = refl
          in_entry (Some e) found = ((s.legal.mailboxes id m at).itself.entries uid e found).flags.proper

  pub seen_is : is_flagged id uid (codes "\\Seen") names t.marks.flags ≡ has_flag Seen its
  seen_is = s.flags id uid (codes "\\Seen") ∙ sym (seen_named its proper)

  module _ (same : SameKeys) (laws : InsertLaws flag_name_key) (whole : AreWhole t) where
    -- the row of an id has a name where the id is that of the name
    row_is : (q : List ℕ) (n : ℕ) → is_row_of q (row_at flag_name_key (number_key n) names) ≡ is_the (flag_name_id q names) n
    row_is q n = same_bool (is_row_of q (row_at flag_name_key (number_key n) names)) (is_the (flag_name_id q names) n) (λ e. ap (λ o. is_the o n) (named_by same laws t whole q n e) ∙ eq-eqb n n refl) (by (flag_name_id q names) refl)
      where
        by : (o : Option ℕ) → flag_name_id q names ≡ o → is_the o n ≡ true → is_row_of q (row_at flag_name_key (number_key n) names) ≡ true
        by None e is = absurd (false≢true is)
        by (Some flag) e is = row_named same laws t whole q n (e ∙ ap Some (sym (eqb-true n flag is)))

    ids_have : (q : List ℕ) → list_any (is_id_of q names) (map (λ (r : FlagRow). r.flag) (flags_at id uid t.marks.flags)) ≡ list_any (is_word_of q) its
    ids_have q =
        let at = flags_at id uid t.marks.flags in
        any_map (is_id_of q names) (λ (r : FlagRow). r.flag) at
        ∙ (any_alike (λ (r : FlagRow). is_id_of q names r.flag) (λ r. is_keyword q && is_the (flag_name_id q names) r.flag) (λ r. ap (λ b. is_keyword q && b) (row_is q r.flag)) at
        ∙ (any_where (is_keyword q) (λ (r : FlagRow). is_the (flag_name_id q names) r.flag) at
        ∙ (ap (λ b. is_keyword q && b) (any_the id uid t.marks.flags (flag_name_id q names) ∙ s.flags id uid q)
        ∙ sym (words_named q its proper))))

    told_are : (flags : List Flag) → TellsRows t id uid flags → flags ≡ told_flags its
    unfolding IsStrictlySortedBy
    told_are flags are =
        let words_are : are.words ≡ with_keywords its [] =
        same_words are.words (with_keywords its []) are.keywords.order (keywords_sorted its [] tt)
        (λ q. are.keywords.each q ∙ (ids_have q ∙ sym (keywords_has q its [] ∙ or_none (list_any (is_word_of q) its)))) in
        let system_are : filter (is_flagged_in t id uid) system_flags ≡ filter (λ flag. has_flag flag its) system_flags =
        filter_alike (is_flagged_in t id uid) (λ flag. has_flag flag its) system_flags
        (weaker (λ flag. has_flag flag its ≡ has_flag_named (flag_text flag) its) (λ flag. is_flagged_in t id uid flag ≡ has_flag flag its) (λ flag e. s.flags id uid (flag_text flag) ∙ sym e) system_flags (system_named its proper)) in
        are.flags_are ∙ (ap (λ (l : List Flag). l ++ map Keyword are.words) system_are ∙ ap (λ (l : List (List ℕ)). filter (λ flag. has_flag flag its) system_flags ++ map Keyword l) words_are)

    -- the flags of a message that is there
    pub tells_entry : (flags : List Flag) → TellsRows t id uid flags → true ≡ is_some (entry_in id uid w.mailboxes) → Some flags ≡ option_map (λ entry. told_flags entry.message.flags) (entry_in id uid w.mailboxes)
    tells_entry flags are there = ap (λ (l : List Flag). Some l) (told_are flags are) ∙ by (entry_in id uid w.mailboxes) there
      where
        by : (o : Option Entry) → true ≡ is_some o → Some (told_flags (flags_of o)) ≡ option_map (λ entry. told_flags entry.message.flags) o
        by None e = absurd (false≢true (sym e))
        by (Some entry) e = refl
