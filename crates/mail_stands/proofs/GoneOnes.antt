-- Gone messages among others, and keys of one mailbox and of another.
use Rattle.std.proofs.Common.{ℕ, ◌≡◌, ◌==◌, Bool, true, false, cond, not, List, [], ◌∷◌, map, Option, Some, None, refl, sym, ap, ◌∙◌, arith}
use Rattle.std.specs.Prelude.{◌&&◌, ◌||◌, nat_lt, is_some}
use Rattle.std.specs.List.{AllByRecursion, filter, list_any}
use Rattle.std.specs.Option.{option_or}
use Rattle.std.proofs.lemmas.Bool.{true≢false, eqb-true, and_right, le-ltb}
use Rattle.std.proofs.lemmas.List.Folds.{find-append}
use Rattle.ordered_rows.specs.RowKey.{same_key}
use Rattle.ordered_rows.specs.Listed.{row_at}
use Rattle.row_tables.specs.Keys.{uid_key, uid_flag_key, flag_key}
use Rattle.row_tables.specs.declared.marks.FlagRow.{FlagRow}
use Rattle.mail_world.specs.Worlds.{Entry, Gone, gone_at}
use Rattle.mail_world.specs.Storing.{with_gone, with_all_gone}
use Rattle.mail_stands.specs.Flagging.{is_flagged_by}
use Rattle.mail_stands.proofs.Deleting.{find-kept, find-lost}

-- messages as gone ones
abbrev pub pairs_of : ℕ → List Entry → List Gone
pairs_of modseq entries = map (λ e. record { uid = e.uid; modseq = modseq }) entries

with_gone_at : (uid : ℕ) (pair : Gone) (gone : List Gone) → gone_at uid (with_gone pair gone) ≡ cond (pair.uid == uid) (Some pair) (gone_at uid gone)
with_gone_at uid pair gone =
    find-append (λ o. o.uid == uid) (filter (λ o. nat_lt o.uid pair.uid) gone) (pair ∷ filter (λ o. not (nat_lt o.uid pair.uid)) gone)
    ∙ by (nat_lt uid pair.uid) refl
  where
    below : (o : Gone) → (o.uid == uid) ≡ true → nat_lt o.uid pair.uid ≡ nat_lt uid pair.uid
    below o here = ap (λ n. nat_lt n pair.uid) (eqb-true o.uid uid here)

    or_same : (b : Bool) (o p q : Option Gone) → o ≡ q → p ≡ None → (b ≡ true → o ≡ None) → option_or o (cond b (Some pair) p) ≡ cond b (Some pair) q
    or_same true o p q e f h = ap (λ x. option_or x (Some pair)) (h refl)
    or_same false o p q e f h = ap (option_or o) f ∙ (or_none o ∙ e)
      where
        or_none : (x : Option Gone) → option_or x None ≡ x
        or_none None = refl
        or_none (Some x) = refl

    itself : (pair.uid == uid) ≡ true → nat_lt uid pair.uid ≡ true → ⊥
    itself same less = absurd (true≢false (sym less ∙ (ap (λ n. nat_lt uid n) (eqb-true pair.uid uid same) ∙ le-ltb uid uid (omega arith))))

    by : (b : Bool) → nat_lt uid pair.uid ≡ b
        → option_or (gone_at uid (filter (λ o. nat_lt o.uid pair.uid) gone)) (cond (pair.uid == uid) (Some pair) (gone_at uid (filter (λ o. not (nat_lt o.uid pair.uid)) gone))) ≡ cond (pair.uid == uid) (Some pair) (gone_at uid gone)
    by true e =
        or_same (pair.uid == uid) _ _ _ (find-kept (λ o. o.uid == uid) (λ o. nat_lt o.uid pair.uid) (λ o here. below o here ∙ e) gone)
        (find-lost (λ o. o.uid == uid) (λ o. not (nat_lt o.uid pair.uid)) (λ o here. ap not (below o here ∙ e)) gone) (λ same. absurd (itself same e))
    by false e =
        ap (λ o. option_or o (cond (pair.uid == uid) (Some pair) (gone_at uid (filter (λ o. not (nat_lt o.uid pair.uid)) gone)))) (find-lost (λ o. o.uid == uid) (λ o. nat_lt o.uid pair.uid) (λ o here. below o here ∙ e) gone)
        ∙ ap (cond (pair.uid == uid) (Some pair)) (find-kept (λ o. o.uid == uid) (λ o. not (nat_lt o.uid pair.uid)) (λ o here. ap not (below o here ∙ e)) gone)

pub all_gone_at : (uid modseq : ℕ) (entries : List Entry) (gone : List Gone) → gone_at uid (with_all_gone modseq entries gone) ≡ option_or (gone_at uid (pairs_of modseq entries)) (gone_at uid gone)
all_gone_at uid modseq [] gone = refl
all_gone_at uid modseq (e ∷ entries) gone =
    with_gone_at uid (record { uid = e.uid; modseq = modseq }) (with_all_gone modseq entries gone) ∙ by (e.uid == uid) (all_gone_at uid modseq entries gone)
  where
    by : (b : Bool) → gone_at uid (with_all_gone modseq entries gone) ≡ option_or (gone_at uid (pairs_of modseq entries)) (gone_at uid gone)
        → cond b (Some (record { uid = e.uid; modseq = modseq })) (gone_at uid (with_all_gone modseq entries gone)) ≡ option_or (cond b (Some (record { uid = e.uid; modseq = modseq })) (gone_at uid (pairs_of modseq entries))) (gone_at uid gone)
    by true rest = refl
    by false rest = rest

-- ---- keys

pub uids_elsewhere : (id k uid : ℕ) (uids : List ℕ) → (id == k) ≡ false → list_any (λ j. same_key j (uid_key k uid)) (map (uid_key id) uids) ≡ false
uids_elsewhere id k uid [] other = refl
uids_elsewhere id k uid (u ∷ uids) other = ap (λ b. b || list_any (λ j. same_key j (uid_key k uid)) (map (uid_key id) uids)) (and_right (u == uid) (id == k) other) ∙ uids_elsewhere id k uid uids other

pub flags_elsewhere : (id k uid f : ℕ) (rows : List FlagRow) → AllByRecursion (λ r. r.mailbox ≡ id) rows → (id == k) ≡ false → list_any (λ j. same_key j (uid_flag_key k uid f)) (map flag_key rows) ≡ false
flags_elsewhere id k uid f [] its other = refl
flags_elsewhere id k uid f (r ∷ rows) its other =
    ap (λ b. b || list_any (λ j. same_key j (uid_flag_key k uid f)) (map flag_key rows)) (and_right ((r.flag == f) && (r.uid == uid)) (r.mailbox == k) (ap (λ m. m == k) its.0 ∙ other)) ∙ flags_elsewhere id k uid f rows its.1 other

-- ---- flags of a message, where two lists find the same

pub same_flagged : (k u : ℕ) (a b : List FlagRow) → ((f : ℕ) → is_some (row_at flag_key (uid_flag_key k u f) a) ≡ is_some (row_at flag_key (uid_flag_key k u f) b)) → (o : Option ℕ) → is_flagged_by k u a o ≡ is_flagged_by k u b o
same_flagged k u a b same None = refl
same_flagged k u a b same (Some f) = same f

pub none_flagged : (k u : ℕ) (a : List FlagRow) → ((f : ℕ) → row_at flag_key (uid_flag_key k u f) a ≡ None) → (o : Option ℕ) → is_flagged_by k u a o ≡ false
none_flagged k u a none None = refl
none_flagged k u a none (Some f) = ap is_some (none f)
