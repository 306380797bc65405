-- What stands for a world goes on doing so when files are loaded again.
use Rattle.std.proofs.Common.{◌≡◌, ℕ, List, [], ◌∷◌, Option, inl, inr, sym, ap, ◌∙◌, subst}
use Rattle.std.specs.List.{AllByRecursion}
use Rattle.disk_model.specs.Told.{Told}
use Rattle.disk_model.specs.declared.disk.Files.{Files}
use Rattle.row_tables.specs.TableRows.{TableRows, no_rows}
use Rattle.row_tables.specs.declared.contents.BodyPart.{BodyPart}
use Rattle.row_store.specs.ThreeFiles.{FileBytes, IfRead, IsJointImage, IsLeftSince, LogMoments}
use Rattle.row_store.specs.Holding.{Stored, stored_by, Holds}
use Rattle.row_store.specs.Crashes.{HoldsOne, LeavesStates}
use Rattle.shredder.specs.Distinct.{AreDistinct}
use Rattle.mail_world.specs.Worlds.{World}
use Rattle.mail_stands.specs.Facts.{AreEntries, mails_in}
use Rattle.mail_stands.specs.Stands.{Stands}
use Rattle.mailbox_core.specs.Left.{HoldsWorld, Left, StandForOne, StandsFor, StandsForOne}
use Rattle.mailbox_core.proofs.Leaving.{if_read}

-- contents that are the same by each id are the same
same_mails : (content other : BodyPart → List ℕ) (t : TableRows) → ((id : ℕ) → (stored_by content t).contents id ≡ (stored_by other t).contents id) → mails_in content t ≡ mails_in other t
same_mails content other t same = λ i. record { tables = record no_rows { mails = t.mails; shared = t.shared }; contents = λ id. same id i }

stands_by : (content other : BodyPart → List ℕ) (t : TableRows) (world : World) → ((id : ℕ) → (stored_by content t).contents id ≡ (stored_by other t).contents id) → Stands content t world → Stands other t world
stands_by content other t world same stands =
    let mails = same_mails content other t same in
    record {
      legal = stands.legal;
      users = stands.users;
      mailboxes = stands.mailboxes;
      names = stands.names;
      subscriptions = stands.subscriptions;
      next = stands.next;
      entries = subst (λ (m : Stored). AreEntries m t.marks.mailbox_messages world.mailboxes) mails stands.entries;
      gone = stands.gone;
      flags = stands.flags;
      distinct = subst AreDistinct mails stands.distinct;
    }

-- files hold one thing
pub record HoldOneThing : Type 0 where
  pub tables : (files : FileBytes) (t u : TableRows) (c d : ℕ → Option (List ℕ)) → Holds files t c → Holds files u d → t ≡ u
  pub contents : (files : FileBytes) (t u : TableRows) (c d : ℕ → Option (List ℕ)) → Holds files t c → Holds files u d → (id : ℕ) → c id ≡ d id

module _ (one : HoldOneThing) (files : FileBytes) (content : BodyPart → List ℕ) (t : TableRows) (held : Holds files t (stored_by content t).contents) where
  stand_as : (state : Stored) (world : World) → Holds files state.tables state.contents → StandsFor state world → Stands content t world
  stand_as state world holds stands =
      let tables : state.tables ≡ t = one.tables files state.tables t state.contents (stored_by content t).contents holds held in
      let by_id : (id : ℕ) → (stored_by stands.content state.tables).contents id ≡ (stored_by content t).contents id =
      λ id. ap (λ (s : Stored). s.contents id) (sym stands.contents) ∙ one.contents files state.tables t state.contents (stored_by content t).contents holds held id in
      let by_id_here : (id : ℕ) → (stored_by stands.content t).contents id ≡ (stored_by content t).contents id =
      subst (λ (u : TableRows). (id : ℕ) → (stored_by stands.content u).contents id ≡ (stored_by content t).contents id) tables by_id in
      stands_by stands.content content t world by_id_here (subst (λ (u : TableRows). Stands stands.content u world) tables stands.stands)

  one_of : (state : Stored) (worlds : List World) → Holds files state.tables state.contents → StandsForOne worlds state → StandForOne content t worlds
  one_of state [] holds stand = stand
  one_of state (world ∷ worlds) holds (inl stand) = inl (stand_as state world holds stand)
  one_of state (world ∷ worlds) holds (inr stand) = inr (one_of state worlds holds stand)

  pub loaded_stand : (worlds : List World) → HoldsWorld files worlds → StandForOne content t worlds
  loaded_stand worlds holds = one_of holds.0 worlds holds.1 holds.2

-- ---- what is left, image by image

shows : (image : FileBytes) (worlds : List World) (states : List Stored) → AllByRecursion (StandsForOne worlds) states → HoldsOne image states → HoldsWorld image worlds
shows image worlds [] stand holds = absurd holds
shows image worlds (state ∷ states) stand (inl holds) = (state, holds, stand.0)
shows image worlds (state ∷ states) stand (inr holds) = shows image worlds states stand.1 holds

module _ {D : Type 0} (told : Told D) (files : Files D) (since : LogMoments) (worlds : List World) (left : Left told files since worlds) where
  pub joint_images : IfRead told files (λ _. (image : FileBytes) → IsJointImage told files image → HoldsWorld image worlds)
  joint_images =
      if_read told files (λ _. (image : FileBytes) → IsJointImage told files image → HoldsOne image left.states) (λ _. (image : FileBytes) → IsJointImage told files image → HoldsWorld image worlds)
      (λ bytes holds image is. shows image worlds left.states left.stand (holds image is)) left.joint

  pub left_images : IfRead told files (λ _. (image : FileBytes) → IsLeftSince told files since image → HoldsWorld image worlds)
  left_images =
      if_read told files (λ _. LeavesStates told files since left.states) (λ _. (image : FileBytes) → IsLeftSince told files since image → HoldsWorld image worlds)
      (λ bytes leaves image is. shows image worlds left.states left.stand (leaves.each image is)) left.moments
