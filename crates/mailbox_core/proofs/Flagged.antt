-- The UIDs of the rows of a flag.
use Rattle.std.proofs.Common.{ℕ, ◌≡◌, ◌<◌, ◌==◌, ◌&&◌, Bool, true, false, cond, List, [], ◌∷◌, map, Some, is_some, refl, sym, ap, subst, ◌∙◌}
use Rattle.std.specs.Prelude.{IsSome, nat_lt}
use Rattle.std.specs.Ordering.{is_lt}
use Rattle.std.specs.declared.cmp.Ordering.TheVariants.{Less}
use Rattle.std.specs.List.{AllByRecursion, filter}
use Rattle.std.specs.List.Sorted.{IsStrictlySortedBy}
use Rattle.std.proofs.lemmas.Bool.{eqb-true, ltb-true}
use Rattle.ordered_rows.specs.RowKey.{RowKey, key_cmp}
use Rattle.ordered_rows.specs.Listed.{IsInOrder, row_at, row_cmp}
use Rattle.row_tables.specs.Keys.{uid_key, uid_flag_key, mailbox_message_key, flag_key}
use Rattle.row_tables.specs.References.{FlagRefers, flags_of, uids_of}
use Rattle.row_tables.specs.TableRows.{TableRows}
use Rattle.row_tables.specs.declared.marks.MailboxMessage.{MailboxMessage}
use Rattle.row_tables.specs.declared.marks.FlagRow.{FlagRow}
use Rattle.mailbox_core.specs.SummaryRows.{flagged_uids}
use Rattle.mailbox_core.proofs.Parting.{Rises, is_in}

abbrev pub Places : Type 0
Places = (k : RowKey) (a b : ℕ) → is_lt (key_cmp (record k { place = a }) (record k { place = b })) ≡ nat_lt a b

-- a UID is that of a row of the flag where the row is there
pub in_rows : (id uid flag : ℕ) (rows : List FlagRow) → is_in uid (flagged_uids flag (flags_of id rows)) ≡ is_some (row_at flag_key (uid_flag_key id uid flag) rows)
in_rows id uid flag [] = refl
in_rows id uid flag (r ∷ rows) = by (r.mailbox == id) (r.flag == flag) (r.uid == uid) refl refl (in_rows id uid flag rows)
  where
    by : (b c d : Bool) → (r.flag == flag) ≡ c → (r.uid == uid) ≡ d → is_in uid (flagged_uids flag (flags_of id rows)) ≡ is_some (row_at flag_key (uid_flag_key id uid flag) rows)
        → is_in uid (flagged_uids flag (cond b (r ∷ flags_of id rows) (flags_of id rows))) ≡ is_some (cond (c && d && b) (Some r) (row_at flag_key (uid_flag_key id uid flag) rows))
    by true true true e f rest = rw (e, f) refl
    by true true false e f rest = rw (e, f) rest
    by true false true e f rest = rw e rest
    by true false false e f rest = rw e rest
    by false true true e f rest = rest
    by false true false e f rest = rest
    by false false true e f rest = rest
    by false false false e f rest = rest

-- a UID is that of a message where the row is there
pub in_messages : (id uid : ℕ) (rows : List MailboxMessage) → is_in uid (uids_of id rows) ≡ is_some (row_at mailbox_message_key (uid_key id uid) rows)
in_messages id uid [] = refl
in_messages id uid (r ∷ rows) = by (r.mailbox == id) (r.uid == uid) refl (in_messages id uid rows)
  where
    by : (b d : Bool) → (r.uid == uid) ≡ d → is_in uid (uids_of id rows) ≡ is_some (row_at mailbox_message_key (uid_key id uid) rows)
        → is_in uid (map (λ x. x.uid) (cond b (r ∷ filter (λ x. x.mailbox == id) rows) (filter (λ x. x.mailbox == id) rows))) ≡ is_some (cond (d && b) (Some r) (row_at mailbox_message_key (uid_key id uid) rows))
    by true true e rest = rw e refl
    by true false e rest = rw e rest
    by false true e rest = rest
    by false false e rest = rest

-- flags are those of messages that are there
pub all_messages : (t : TableRows) (id flag : ℕ) (rows : List FlagRow) → AllByRecursion (FlagRefers t) rows → AllByRecursion (λ uid. is_in uid (uids_of id t.marks.mailbox_messages) ≡ true) (flagged_uids flag (flags_of id rows))
all_messages t id flag [] refer = tt
all_messages t id flag (r ∷ rows) refer = by (r.mailbox == id) (r.flag == flag) refl refl (all_messages t id flag rows refer.1)
  where
    by : (b c : Bool) → (r.mailbox == id) ≡ b → (r.flag == flag) ≡ c → AllByRecursion (λ uid. is_in uid (uids_of id t.marks.mailbox_messages) ≡ true) (flagged_uids flag (flags_of id rows))
        → AllByRecursion (λ uid. is_in uid (uids_of id t.marks.mailbox_messages) ≡ true) (flagged_uids flag (cond b (r ∷ flags_of id rows) (flags_of id rows)))
    by true true at e rest = rw e (in_messages id r.uid t.marks.mailbox_messages ∙ subst (λ n. IsSome (row_at mailbox_message_key (uid_key n r.uid) t.marks.mailbox_messages)) (eqb-true r.mailbox id at) refer.0.1, rest)
    by true false at e rest = rw e rest
    by false c at e rest = rest

module _ (places : Places) (id flag : ℕ) where
  less : (x y : FlagRow) → x.mailbox ≡ id → y.mailbox ≡ id → x.flag ≡ flag → y.flag ≡ flag → row_cmp flag_key x y ≡ Less → x.uid < y.uid
  less x y at there e f order =
      let same : key_cmp (uid_flag_key id x.uid flag) (uid_flag_key id y.uid flag) ≡ Less =
      subst (λ n. key_cmp (uid_flag_key id x.uid flag) (uid_flag_key n y.uid flag) ≡ Less) there
      (subst (λ n. key_cmp (uid_flag_key n x.uid flag) (uid_flag_key y.mailbox y.uid flag) ≡ Less) at
      (subst (λ n. key_cmp (uid_flag_key x.mailbox x.uid flag) (uid_flag_key y.mailbox y.uid n) ≡ Less) f
      (subst (λ n. key_cmp (uid_flag_key x.mailbox x.uid n) (uid_flag_key y.mailbox y.uid y.flag) ≡ Less) e order))) in
      ltb-true x.uid y.uid (sym (places (uid_flag_key id x.uid flag) x.uid y.uid) ∙ ap is_lt same)

  each_above : (x : FlagRow) → x.mailbox ≡ id → x.flag ≡ flag → (ys : List FlagRow) → AllByRecursion (λ y. row_cmp flag_key x y ≡ Less) ys → AllByRecursion (λ u. x.uid < u) (flagged_uids flag (flags_of id ys))
  each_above x at e [] all = tt
  each_above x at e (y ∷ ys) all = by (y.mailbox == id) (y.flag == flag) refl refl (each_above x at e ys all.1)
    where
      by : (b c : Bool) → (y.mailbox == id) ≡ b → (y.flag == flag) ≡ c → AllByRecursion (λ u. x.uid < u) (flagged_uids flag (flags_of id ys))
          → AllByRecursion (λ u. x.uid < u) (flagged_uids flag (cond b (y ∷ flags_of id ys) (flags_of id ys)))
      by true true there f rest = rw f (less x y at (eqb-true y.mailbox id there) e (eqb-true y.flag flag f) all.0, rest)
      by true false there f rest = rw f rest
      by false c there f rest = rest

  pub flagged_rise : (rows : List FlagRow) → IsInOrder flag_key rows → Rises (flagged_uids flag (flags_of id rows))
  unfolding IsStrictlySortedBy
  flagged_rise [] order = tt
  flagged_rise (r ∷ rows) order = by (r.mailbox == id) (r.flag == flag) refl refl (flagged_rise rows order.1)
    where
      by : (b c : Bool) → (r.mailbox == id) ≡ b → (r.flag == flag) ≡ c → Rises (flagged_uids flag (flags_of id rows)) → Rises (flagged_uids flag (cond b (r ∷ flags_of id rows) (flags_of id rows)))
      by true true at f rest = rw f (each_above r (eqb-true r.mailbox id at) (eqb-true r.flag flag f) rows order.0, rest)
      by true false at f rest = rw f rest
      by false c at f rest = rest
