-- The first message without a row of a flag.
use Rattle.std.proofs.Common.{ℕ, ◌≡◌, Bool, true, not, List, [], ◌∷◌, Some, None, refl, sym, ap, ◌∙◌}
use Rattle.std.specs.List.{position, position_from}
use Rattle.std.specs.List.Sorted.{IsStrictlySortedBy}
use Rattle.std.specs.Ordering.{nat_cmp}
use Rattle.std.proofs.lemmas.Iterator.Adapters.{position_from-zero}
use Rattle.row_tables.specs.TableRows.{TableRows}
use Rattle.row_tables.specs.Indexes.{flag_name_id}
use Rattle.row_tables.specs.References.{AreOrdered, AreClosed, flags_of, uids_of}
use Rattle.mail_stands.specs.Flagging.{is_flagged, is_flagged_by}
use Rattle.mailbox_core.specs.SummaryRows.{flagged_uids, parts_at}
use Rattle.mailbox_core.proofs.Parting.{is_in, parts, positions_all, sorted_rise}
use Rattle.mailbox_core.proofs.Flagged.{Places, in_rows, all_messages, flagged_rise}

nowhere : (uids : List ℕ) → parts_at 0 uids [] ≡ position_from (λ uid. true) 0 uids
nowhere [] = refl
nowhere (uid ∷ uids) = refl

module _ (t : TableRows) (id : ℕ) (name : List ℕ) where
  -- no message has a flag that has no name
  pub unseen_unnamed : flag_name_id name t.marks.flag_names ≡ None → (uids : List ℕ) → parts_at 0 uids [] ≡ position (λ uid. not (is_flagged id uid name t.marks.flag_names t.marks.flags)) uids
  unseen_unnamed none uids =
      let test : ℕ → Bool = λ uid. not (is_flagged id uid name t.marks.flag_names t.marks.flags) in
      nowhere uids ∙ (positions_all (λ uid. true) test 0 uids (λ uid. ap (λ o. not (is_flagged_by id uid t.marks.flags o)) (sym none)) ∙ sym (position_from-zero test uids))

  pub unseen_by : Places → AreOrdered t → AreClosed t → (flag : ℕ) → Some flag ≡ flag_name_id name t.marks.flag_names → IsStrictlySortedBy nat_cmp (uids_of id t.marks.mailbox_messages)
      → parts_at 0 (uids_of id t.marks.mailbox_messages) (flagged_uids flag (flags_of id t.marks.flags)) ≡ position (λ uid. not (is_flagged id uid name t.marks.flag_names t.marks.flags)) (uids_of id t.marks.mailbox_messages)
  unseen_by places ordered closed flag named order =
      let uids = uids_of id t.marks.mailbox_messages in
      let test : ℕ → Bool = λ uid. not (is_flagged id uid name t.marks.flag_names t.marks.flags) in
      parts 0 uids (flagged_uids flag (flags_of id t.marks.flags)) (sorted_rise uids order) (flagged_rise places id flag t.marks.flags ordered.flags) (all_messages t id flag t.marks.flags closed.flags)
      ∙ (positions_all (λ uid. not (is_in uid (flagged_uids flag (flags_of id t.marks.flags)))) test 0 uids
      (λ uid. ap not (in_rows id uid flag t.marks.flags ∙ ap (is_flagged_by id uid t.marks.flags) named)) ∙ sym (position_from-zero test uids))
