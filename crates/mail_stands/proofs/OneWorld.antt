-- Tables stand for one world.
use Rattle.std.proofs.Common.{ℕ, ◌≡◌, ◌<◌, ◌≤◌, ◌==◌, Bool, true, false, cond, List, [], ◌∷◌, map, Option, Some, None, refl, sym, ap, subst, ◌∙◌, ⊎_elim, arith}
use Rattle.std.specs.List.{find, list_all, AllByRecursion}
use Rattle.std.specs.Option.{option_map, option_and_then}
use Rattle.std.proofs.lemmas.Bool.{eqb-true, eq-eqb, ne_eqb, cases_order}
use Rattle.std.proofs.lemmas.Option.{same_Some}
use Rattle.date_grammar.specs.declared.parts.Stamp.{Stamp}
use Rattle.ordered_rows.specs.Listed.{row_at}
use Rattle.row_tables.specs.Keys.{uid_key, mailbox_message_key}
use Rattle.row_tables.specs.TableRows.{TableRows}
use Rattle.row_tables.specs.declared.heads.Mailbox.{Mailbox as Head}
use Rattle.row_tables.specs.declared.contents.BodyPart.{BodyPart}
use Rattle.mime_tree.specs.declared.reasons.Mail.{Mail}
use Rattle.row_store.specs.Holding.{Stored}
use Rattle.shredder.specs.MessageRows.{HasRows}
use Rattle.mail_world.specs.Flags.{is_flag}
use Rattle.mail_world.specs.Worlds.{World, Mailbox, Entry, Gone, mailbox_at, entry_at, gone_at}
use Rattle.mail_world.specs.Legal.{IsLegal, Ascend}
use Rattle.mail_stands.specs.Facts.{Tied, IsEntryRow, entry_in, gone_row, flags_of, has_flag_named, mails_in}
use Rattle.mail_stands.specs.Stands.{Stands}
use Rattle.mail_stands.specs.Sameness.{InTurn, IsSameEntry, IsSameMailbox, IsSameWorld}
use Rattle.mail_stands.proofs.Lists.{all-weaker, all-unmap, none_passes, number_is}
use Rattle.mail_stands.proofs.Heading.{each_at}
use Rattle.mail_stands.proofs.FlagTexts.{named_same}

-- ---- lists in order that are tied at each number

above_none : {X : Type 0} (f : X → ℕ) (n : ℕ) (xs : List X) → AllByRecursion (λ x. n < f x) xs → find (λ x. f x == n) xs ≡ None
above_none f n xs all = none_passes (λ x. f x == n) xs (all-weaker (λ x. n < f x) (λ x. (f x == n) ≡ false) (λ x less. ne_eqb (f x) n (λ same. omega (arith, less, same))) xs all)

above : {X : Type 0} (f : X → ℕ) (m n : ℕ) (xs : List X) → n ≤ m → AllByRecursion (λ k. m < k) (map f xs) → AllByRecursion (λ x. n < f x) xs
above f m n xs le all = all-weaker (λ x. m < f x) (λ x. n < f x) (λ x less. omega (arith, less, le)) xs (all-unmap (λ k. m < k) f xs all)

pub pairs : {X Y : Type 0} (f : X → ℕ) (g : Y → ℕ) (S : X → Y → Type 0) (xs : List X) (ys : List Y) → Ascend (map f xs) → Ascend (map g ys)
    → ((n : ℕ) → Tied S (find (λ x. f x == n) xs) (find (λ y. g y == n) ys)) → InTurn S xs ys
pairs f g S [] [] a b at = tt
pairs f g S [] (y ∷ ys) a b at = absurd (subst (λ t. Tied S None (cond t (Some y) (find (λ z. g z == g y) ys))) (eq-eqb (g y) (g y) refl) (at (g y))).tie
pairs f g S (x ∷ xs) [] a b at = absurd (subst (λ t. Tied S (cond t (Some x) (find (λ z. f z == f x) xs)) None) (eq-eqb (f x) (f x) refl) (at (f x))).tie
pairs {X} {Y} f g S (x ∷ xs) (y ∷ ys) a b at =
    ⊎_elim (λ same. (here same, pairs f g S xs ys a.1 b.1 (rest same))) (λ other. ⊎_elim (λ less. absurd (left_alone less)) (λ less. absurd (right_alone less)) other) (cases_order (f x) (g y))
  where
    at_x : Tied S (Some x) (cond (g y == f x) (Some y) (find (λ z. g z == f x) ys))
    at_x = subst (λ t. Tied S (cond t (Some x) (find (λ z. f z == f x) xs)) (cond (g y == f x) (Some y) (find (λ z. g z == f x) ys))) (eq-eqb (f x) (f x) refl) (at (f x))

    at_y : Tied S (cond (f x == g y) (Some x) (find (λ z. f z == g y) xs)) (Some y)
    at_y = subst (λ t. Tied S (cond (f x == g y) (Some x) (find (λ z. f z == g y) xs)) (cond t (Some y) (find (λ z. g z == g y) ys))) (eq-eqb (g y) (g y) refl) (at (g y))

    here : f x ≡ g y → S x y
    here same = (subst (λ t. Tied S (Some x) (cond t (Some y) (find (λ z. g z == f x) ys))) (eq-eqb (g y) (f x) (sym same)) at_x).tie

    left_alone : f x < g y → ⊥
    left_alone less =
        (subst (λ o. Tied S (Some x) o) (above_none g (f x) ys (above g (g y) (f x) ys (omega (arith, less)) b.0))
        (subst (λ t. Tied S (Some x) (cond t (Some y) (find (λ z. g z == f x) ys))) (ne_eqb (g y) (f x) (λ same. omega (arith, less, same))) at_x)).tie

    right_alone : g y < f x → ⊥
    right_alone less =
        (subst (λ o. Tied S o (Some y)) (above_none f (g y) xs (above f (f x) (g y) xs (omega (arith, less)) a.0))
        (subst (λ t. Tied S (cond t (Some x) (find (λ z. f z == g y) xs)) (Some y)) (ne_eqb (f x) (g y) (λ same. omega (arith, less, same))) at_y)).tie

    rest : f x ≡ g y → (n : ℕ) → Tied S (find (λ z. f z == n) xs) (find (λ z. g z == n) ys)
    rest same n = by (f x == n) refl
      where
        by : (t : Bool) → (f x == n) ≡ t → Tied S (find (λ z. f z == n) xs) (find (λ z. g z == n) ys)
        by true e =
            let is = eqb-true (f x) n e in
            subst (λ o. Tied S o (find (λ z. g z == n) ys)) (sym (above_none f n xs (above f (f x) n xs (omega (arith, is)) a.0)))
            (subst (λ o. Tied S None o) (sym (above_none g n ys (above g (g y) n ys (omega (arith, is, same)) b.0))) (record { tie = tt }))
        by false e =
            subst (λ t. Tied S (find (λ z. f z == n) xs) (cond t (Some y) (find (λ z. g z == n) ys))) (ap (λ k. k == n) (sym same) ∙ e)
            (subst (λ t. Tied S (cond t (Some x) (find (λ z. f z == n) xs)) (cond (g y == n) (Some y) (find (λ z. g z == n) ys))) e (at n))

all_same : {X : Type 0} (xs ys : List X) → InTurn (λ x y. x ≡ y) xs ys → xs ≡ ys
all_same [] [] same = refl
all_same [] (y ∷ ys) same = absurd same
all_same (x ∷ xs) [] same = absurd same
all_same (x ∷ xs) (y ∷ ys) same = ap (λ z. z ∷ xs) same.0 ∙ ap (λ zs. y ∷ zs) (all_same xs ys same.1)

-- ---- entries

both_tied : {X Y : Type 0} (R : X → Y → Type 0) (S : Y → Y → Type 0) (o : Option X) (p q : Option Y) → Tied R o p → Tied R o q
    → ((r : X) (x y : Y) → p ≡ Some x → q ≡ Some y → R r x → R r y → S x y) → Tied S p q
both_tied R S None None None a b h = record { tie = tt }
both_tied R S None None (Some y) a b h = absurd b.tie
both_tied R S None (Some x) q a b h = absurd a.tie
both_tied R S (Some r) None q a b h = absurd a.tie
both_tied R S (Some r) (Some x) None a b h = absurd b.tie
both_tied R S (Some r) (Some x) (Some y) a b h = record { tie = h r x y refl refl a.tie b.tie }

stamp_same : (a b : Stamp) → a.seconds ≡ b.seconds → a.zone ≡ b.zone → a ≡ b
stamp_same a b e f = ap (λ s. record a { seconds = s }) e ∙ ap (λ z. record b { zone = z }) f

module _ (one : (s : Stored) (message : ℕ) (a b : Mail) → HasRows s message a → HasRows s message b → a ≡ b) (content : BodyPart → List ℕ) (t : TableRows) (a b : World) (sa : Stands content t a) (sb : Stands content t b) where
  entries_tied : (id : ℕ) (m n : Mailbox) → mailbox_at id a.mailboxes ≡ Some m → mailbox_at id b.mailboxes ≡ Some n → (uid : ℕ) → Tied IsSameEntry (entry_at uid m.entries) (entry_at uid n.entries)
  entries_tied id m n am bn uid =
      both_tied (IsEntryRow (mails_in content t)) IsSameEntry (row_at mailbox_message_key (uid_key id uid) t.marks.mailbox_messages) (entry_at uid m.entries) (entry_at uid n.entries)
      (subst (λ o. Tied (IsEntryRow (mails_in content t)) (row_at mailbox_message_key (uid_key id uid) t.marks.mailbox_messages) (option_and_then (λ x. entry_at uid x.entries) o)) am (sa.entries id uid))
      (subst (λ o. Tied (IsEntryRow (mails_in content t)) (row_at mailbox_message_key (uid_key id uid) t.marks.mailbox_messages) (option_and_then (λ x. entry_at uid x.entries) o)) bn (sb.entries id uid))
      (λ r x y xs ys rx ry. record {
        uid = number_is (λ e. e.uid) uid m.entries x xs ∙ sym (number_is (λ e. e.uid) uid n.entries y ys);
        modseq = sym rx.modseq ∙ ry.modseq;
        date = stamp_same x.message.date y.message.date (sym rx.seconds ∙ ry.seconds) (sym rx.zone ∙ ry.zone);
        mail = one (mails_in content t) r.message x.message.mail y.message.mail rx.rows ry.rows;
        flags = named_same x.message.flags y.message.flags (proper a sa.legal m am x xs) (proper b sb.legal n bn y ys) (λ name.
            sym (named a m am x xs (λ o. has_flag_named name (flags_of o))) ∙ (sym (sa.flags id uid name) ∙ (sb.flags id uid name ∙ named b n bn y ys (λ o. has_flag_named name (flags_of o)))));
      })
    where
      proper : (w : World) (legal : IsLegal w) (x : Mailbox) → mailbox_at id w.mailboxes ≡ Some x → (e : Entry) → entry_at uid x.entries ≡ Some e → list_all is_flag e.message.flags ≡ true
      proper w legal x at e found = ((legal.mailboxes id x at).itself.entries uid e found).flags.proper

      named : (w : World) (x : Mailbox) → mailbox_at id w.mailboxes ≡ Some x → (e : Entry) → entry_at uid x.entries ≡ Some e → (h : Option Entry → Bool) → h (entry_in id uid w.mailboxes) ≡ h (Some e)
      named w x at e found h = ap (λ o. h (option_and_then (λ z. entry_at uid z.entries) o)) at ∙ ap h found

  gone_tied : (id : ℕ) (m n : Mailbox) → mailbox_at id a.mailboxes ≡ Some m → mailbox_at id b.mailboxes ≡ Some n → (uid : ℕ) → Tied (λ x y. x ≡ y) (gone_at uid m.gone) (gone_at uid n.gone)
  gone_tied id m n am bn uid =
      by (gone_at uid m.gone) (gone_at uid n.gone)
      (ap (λ o. option_map (gone_row id) (option_and_then (λ z. gone_at uid z.gone) o)) (sym am) ∙ (sym (sa.gone id uid) ∙ (sb.gone id uid ∙ ap (λ o. option_map (gone_row id) (option_and_then (λ z. gone_at uid z.gone) o)) bn)))
    where
      by : (o p : Option Gone) → option_map (gone_row id) o ≡ option_map (gone_row id) p → Tied (λ x y. x ≡ y) o p
      by None None e = record { tie = tt }
      by None (Some y) e = absurd cc
      by (Some x) None e = absurd cc
      by (Some x) (Some y) e = let same = same_Some (gone_row id x) (gone_row id y) e in record { tie = ap (λ k. record x { uid = k }) (ap (λ r. r.uid) same) ∙ ap (λ k. record y { modseq = k }) (ap (λ r. r.modseq) same) }

  one_mailbox : (m n : Mailbox) → m.head ≡ n.head → mailbox_at m.head.id a.mailboxes ≡ Some m → mailbox_at n.head.id b.mailboxes ≡ Some n → IsSameMailbox m n
  one_mailbox m n head am bn =
      let at = ap (λ h. mailbox_at h.id b.mailboxes) head ∙ bn in
      let legal_m = (sa.legal.mailboxes m.head.id m am).itself in
      let legal_n = (sb.legal.mailboxes n.head.id n bn).itself in
      record {
        head = head;
        entries = pairs (λ e. e.uid) (λ e. e.uid) IsSameEntry m.entries n.entries legal_m.uids legal_n.uids (entries_tied m.head.id m n am at);
        gone = all_same m.gone n.gone (pairs (λ p. p.uid) (λ p. p.uid) (λ x y. x ≡ y) m.gone n.gone legal_m.gone_uids legal_n.gone_uids (gone_tied m.head.id m n am at));
      }

  each_mailbox : (ms ns : List Mailbox) → map (λ m. m.head) ms ≡ map (λ m. m.head) ns → AllByRecursion (λ m. mailbox_at m.head.id a.mailboxes ≡ Some m) ms → AllByRecursion (λ n. mailbox_at n.head.id b.mailboxes ≡ Some n) ns
      → InTurn IsSameMailbox ms ns
  each_mailbox [] [] same at bt = tt
  each_mailbox [] (n ∷ ns) same at bt = absurd cc
  each_mailbox (m ∷ ms) [] same at bt = absurd cc
  each_mailbox (m ∷ ms) (n ∷ ns) same at bt = (one_mailbox m n (first m.head n.head _ _ same) at.0 bt.0, each_mailbox ms ns (others m.head n.head _ _ same) at.1 bt.1)
    where
      first : (x y : Head) (xs ys : List Head) → x ∷ xs ≡ y ∷ ys → x ≡ y
      first x y xs ys e = cc

      others : (x y : Head) (xs ys : List Head) → x ∷ xs ≡ y ∷ ys → xs ≡ ys
      others x y xs ys e = cc

  pub one_world : IsSameWorld a b
  one_world = record {
    users = sym sa.users ∙ sb.users;
    mailboxes = each_mailbox a.mailboxes b.mailboxes (sym sa.mailboxes ∙ sb.mailboxes) (each_at a sa.legal) (each_at b sb.legal);
    subscriptions = sym sa.subscriptions ∙ sb.subscriptions;
    next = sym sa.next ∙ sb.next;
  }
