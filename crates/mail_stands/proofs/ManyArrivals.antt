-- A mail that comes into several mailboxes, one after another.
use Rattle.std.proofs.Common.{ℕ, ◌≡◌, ◌==◌, ◌||◌, Bool, true, false, cond, List, [], ◌∷◌, map, Some, None, refl, sym, ap, subst, ◌∙◌}
use Rattle.std.specs.Prelude.{is_some, if◌then◌else◌}
use Rattle.std.specs.List.{AllByRecursion, flat_map, list_any}
use Rattle.std.proofs.lemmas.Bool.{eqb-true, and_right}
use Rattle.std.proofs.lemmas.List.{map-id}
use Rattle.std.proofs.lemmas.Simd.{map-map}
use Rattle.date_grammar.specs.declared.parts.Stamp.{Stamp}
use Rattle.mime_tree.specs.declared.reasons.Mail.{Mail}
use Rattle.ordered_rows.specs.RowKey.{number_key}
use Rattle.ordered_rows.specs.Listed.{row_at}
use Rattle.ordered_rows.specs.InsertLaws.{InsertLaws}
use Rattle.row_tables.specs.Keys.{uid_key, uid_flag_key, mailbox_key, mailbox_message_key, flag_key}
use Rattle.row_tables.specs.TableRows.{TableRows}
use Rattle.row_tables.specs.References.{HasMessage, HasUser}
use Rattle.row_tables.specs.Fits.{IsText, Runs}
use Rattle.row_tables.specs.declared.heads.Mailbox.{Mailbox as Head}
use Rattle.mail_world.specs.Worlds.{World, Mailbox, mailbox_at, entry_at, has_id, is_among}
use Rattle.mail_world.specs.Arrivals.{appended, delivered, has_no_room, has_no_uids, takes_mail, with_messages}
use Rattle.mail_stands.specs.Leading.{KeepsOwners}
use Rattle.mail_stands.specs.Arriving.{with_arrival}
use Rattle.mail_stands.specs.Delivering.{AreOnce, arrival_of}
use Rattle.mail_stands.proofs.Lists.{all-weaker, all_both}
use Rattle.mail_stands.proofs.Owners.{SameKeys, Replaces, replaced_owner}
use Rattle.mail_stands.proofs.Renamed.{none_any}
use Rattle.mail_stands.proofs.Replacing.{keeps_all, keeps_both}
use Rattle.mail_stands.proofs.Arrivals.{arrived}
use Rattle.mail_stands.proofs.Appending.{runs_then}

-- ---- over any tables

-- Another message can come into the mailbox.
pub record CanArrive (t : TableRows) (row : Head) : Type 0 where
  pub found : row_at mailbox_key (number_key row.id) t.heads.mailboxes ≡ Some row
  pub owner : HasUser t row.owner
  pub text : IsText row.name
  pub free : row_at mailbox_message_key (uid_key row.id row.uidnext) t.marks.mailbox_messages ≡ None
  pub bare : (flag : ℕ) → row_at flag_key (uid_flag_key row.id row.uidnext flag) t.marks.flags ≡ None

module _ (same : SameKeys) (replaces : Replaces) (entry_laws : InsertLaws mailbox_message_key) (message : ℕ) (date : Stamp) (taken : List ℕ) where
  -- with the message in one mailbox
  abbrev pub with_one : TableRows → Head → TableRows
  with_one t row = arrived t row message date [] (is_among row.id taken)

  -- and in each of several
  abbrev pub with_all : TableRows → List Head → TableRows
  with_all t [] = t
  with_all t (row ∷ rows) = with_all (with_one t row) rows

  others_can : (t : TableRows) (row other : Head) → (row.id == other.id) ≡ false → CanArrive t other → CanArrive (with_one t row) other
  others_can t row other differs can = record {
    found = replaces.other (with_arrival (is_among row.id taken) row) (number_key other.id) t.heads.mailboxes differs ∙ can.found;
    owner = can.owner;
    text = can.text;
    free = entry_laws.other _ (uid_key other.id other.uidnext) t.marks.mailbox_messages (and_right (row.uidnext == other.uidnext) (row.id == other.id) differs) ∙ can.free;
    bare = can.bare;
  }

  pub still_can : (t : TableRows) (row : Head) (rows : List Head) → AllByRecursion (λ other. (row.id == other.id) ≡ false) rows → AllByRecursion (CanArrive t) rows → AllByRecursion (CanArrive (with_one t row)) rows
  still_can t row rows differ can =
      all_both (λ other. (row.id == other.id) ≡ false) (CanArrive t) (CanArrive (with_one t row)) (λ other d c. others_can t row other d c) rows differ can

  pub all_run : (t : TableRows) (rows : List Head) → HasMessage t message → AllByRecursion (CanArrive t) rows → AreOnce rows → Runs t (flat_map (arrival_of message date taken) rows) (with_all t rows)
  all_run t [] there can once = refl
  all_run t (row ∷ rows) there can once =
      runs_then t (arrival_of message date taken row) (flat_map (arrival_of message date taken) rows) (with_one t row) (with_all (with_one t row) rows)
      ((can.0.free, (ap is_some can.0.found, there)), ((can.0.text, ap is_some can.0.found, can.0.owner), refl))
      (all_run (with_one t row) rows there (still_can t row rows once.0 can.1) once.1)

  pub all_keep : (t : TableRows) (rows : List Head) → AllByRecursion (CanArrive t) rows → AreOnce rows → KeepsOwners t (with_all t rows)
  all_keep t [] can once = keeps_all t
  all_keep t (row ∷ rows) can once =
      keeps_both t (with_one t row) (with_all (with_one t row) rows)
      (record { users = λ id there. there; mailboxes = replaced_owner same replaces t.heads.mailboxes row.id row (with_arrival (is_among row.id taken) row) refl refl can.0.found })
      (all_keep (with_one t row) rows (still_can t row rows once.0 can.1) once.1)

-- ---- in the world

-- The mailbox of the row has room for a message.
pub record HasRoom (world : World) (row : Head) : Type 0 where
  pub mailbox : Mailbox
  pub at : mailbox_at row.id world.mailboxes ≡ Some mailbox
  pub head : mailbox.head ≡ row
  pub free : entry_at mailbox.head.uidnext mailbox.entries ≡ None
  pub room : has_no_room 1 mailbox ≡ false
  pub uids : has_no_uids 1 mailbox ≡ false

module _ (mail : Mail) (date : Stamp) (taken : List ℕ) where
  abbrev with_mail : Mailbox → Mailbox
  with_mail m = with_messages (is_among m.head.id taken) (record { flags = []; date = date; mail = mail } ∷ []) m

  abbrev pub into : World → Head → World
  into world row = appended world row.id [] date mail (is_among row.id taken)

  abbrev pub into_all : World → List Head → World
  into_all world [] = world
  into_all world (row ∷ rows) = into_all (into world row) rows

  -- a mailbox with the mail, if it is one of the rows
  abbrev one_with : List Head → Mailbox → Mailbox
  one_with rows m = if list_any (λ row. has_id row.id m) rows then with_mail m else m

  one_step : (row : Head) (rows : List Head) → AllByRecursion (λ other. (row.id == other.id) ≡ false) rows → (m : Mailbox)
      → one_with rows (if has_id row.id m then with_messages (is_among row.id taken) (record { flags = []; date = date; mail = mail } ∷ []) m else m) ≡ one_with (row ∷ rows) m
  one_step row rows differ m = by (has_id row.id m) refl
    where
      by : (b : Bool) → has_id row.id m ≡ b
          → one_with rows (cond b (with_messages (is_among row.id taken) (record { flags = []; date = date; mail = mail } ∷ []) m) m) ≡ cond (b || list_any (λ other. has_id other.id m) rows) (with_mail m) m
      by false e = refl
      by true e =
          let same = eqb-true m.head.id row.id e in
          let others : list_any (λ other. has_id other.id m) rows ≡ false = none_any (λ other. has_id other.id m) rows (subst (λ k. AllByRecursion (λ (other : Head). (k == other.id) ≡ false) rows) (sym same) differ) in
          ap (λ b. cond b (with_mail (with_messages (is_among row.id taken) (record { flags = []; date = date; mail = mail } ∷ []) m)) (with_messages (is_among row.id taken) (record { flags = []; date = date; mail = mail } ∷ []) m)) others
          ∙ ap (λ k. with_messages (is_among k taken) (record { flags = []; date = date; mail = mail } ∷ []) m) (sym same)

  map_same : (f g : Mailbox → Mailbox) (ms : List Mailbox) → AllByRecursion (λ m. f m ≡ g m) ms → map f ms ≡ map g ms
  map_same f g [] all = refl
  map_same f g (m ∷ ms) all = ap (λ x. x ∷ map f ms) all.0 ∙ ap (λ l. g m ∷ l) (map_same f g ms all.1)

  each : {P : Mailbox → Type 0} → ((m : Mailbox) → P m) → (ms : List Mailbox) → AllByRecursion P ms
  each h [] = tt
  each h (m ∷ ms) = (h m, each h ms)

  into_is : (world : World) (rows : List Head) → AreOnce rows → into_all world rows ≡ record world { mailboxes = map (one_with rows) world.mailboxes }
  into_is world [] once = ap (λ ms. record world { mailboxes = ms }) (sym (map-id world.mailboxes))
  into_is world (row ∷ rows) once =
      into_is (into world row) rows once.1
      ∙ ap (λ ms. record world { mailboxes = ms })
      (map-map (one_with rows) (λ m. if has_id row.id m then with_messages (is_among row.id taken) (record { flags = []; date = date; mail = mail } ∷ []) m else m) world.mailboxes
      ∙ map_same _ (one_with (row ∷ rows)) world.mailboxes (each (one_step row rows once.0) world.mailboxes))

  -- what comes into each that takes it is delivered
  pub all_delivered : (world : World) (users : List ℕ) (rows : List Head) → AreOnce rows → AllByRecursion (λ m. list_any (λ row. has_id row.id m) rows ≡ takes_mail users m) world.mailboxes
      → into_all world rows ≡ delivered world users mail date taken
  all_delivered world users rows once same =
      into_is world rows once
      ∙ ap (λ ms. record world { mailboxes = ms })
      (map_same (one_with rows) (λ m. if takes_mail users m then with_mail m else m) world.mailboxes
      (all-weaker (λ m. list_any (λ row. has_id row.id m) rows ≡ takes_mail users m) (λ m. one_with rows m ≡ (if takes_mail users m then with_mail m else m))
      (λ m e. ap (λ b. cond b (with_mail m) m) e) world.mailboxes same))
