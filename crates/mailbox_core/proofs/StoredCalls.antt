-- Flags that are stored, from what was planned.
use Rattle.std.proofs.Common.{◌≡◌, ◌<◌, ℕ, true, false, [], ◌∷◌, length, Some, Result, Ok, IsErrOf, inl, inr, refl, sym, subst, arith}
use Rattle.disk_model.specs.Told.{Told}
use Rattle.ordered_rows.specs.RowKey.{number_key}
use Rattle.ordered_rows.specs.Listed.{row_at}
use Rattle.row_tables.specs.Keys.{mailbox_key}
use Rattle.row_tables.specs.TableRows.{TableRows}
use Rattle.row_tables.specs.Fits.{IsText}
use Rattle.row_tables.specs.declared.heads.Mailbox.{Mailbox as Head}
use Rattle.row_store.specs.ThreeFiles.{moments}
use Rattle.row_store.specs.Holding.{stored, in_row}
use Rattle.row_store.specs.Crashes.{Stays}
use Rattle.row_store.specs.Kept.{Store}
use Rattle.mail_world.specs.Names.{is_mailbox_name}
use Rattle.mail_world.specs.Worlds.{World}
use Rattle.mail_stands.specs.Stands.{Stands}
use Rattle.mailbox_core.specs.declared.faults.MailFault.{MailFault}
use Rattle.mailbox_core.specs.Calls.{Behaves, IsMade}
use Rattle.mailbox_core.specs.Storing.{HasTextName}
use Rattle.mailbox_core.proofs.Arrived.{all_found}
use Rattle.mailbox_core.proofs.Behaving.{quiet_files}
use Rattle.mailbox_core.proofs.Leaving.{joint_more, joint_of, leaves_more, stand_more, stored_stands}
use Rattle.mailbox_core.proofs.Lengths.{mailbox_is_text}
use Rattle.mailbox_core.proofs.Owners.{keeps_all}

abbrev ok_of : {T : Type 0} → T → Result T MailFault
ok_of answer = Ok answer

-- ---- nothing changes, and Ok is answered

module _ {D T : Type 0} (told : Told D) (store : Store D) (answer : T) (stays : Stays told (Unit {0}) store.files store.files (stored store.tables)) where
  pub behaves_same : store.placed ≡ [] → store.spent ≡ false → Behaves told (ok_of answer) store store
  behaves_same placed spent = record {
    after = store.tables;
    owners = keeps_all store.tables;
    crash = record {
      settled = λ ok. stays.settled tt;
      joint = joint_more told store.files (stored store.tables) (stored store.tables ∷ []) stays.joint;
      within = leaves_more told store.files (moments told store.files) (stored store.tables) (stored store.tables ∷ []) stays.within;
      since = λ since states left.
          leaves_more told store.files since (stored store.tables) (stored store.tables ∷ states) (leaves_more told store.files since (stored store.tables) states (stays.since since states left));
    };
    done = λ ok. (refl, placed, spent);
    unchanged = λ refusal e. refl;
    untouched = λ e. refl;
    faults = quiet_files told store.files (IsErrOf (ok_of answer) MailFault.Failed) (λ e. cc);
  }

  pub made_same : (world next : World) → Stands in_row store.tables world → next ≡ world → IsMade told (ok_of answer) store store world next answer
  made_same world next stands same = record {
    answers = refl;
    stands = λ ok. subst (λ (w : World). Stands in_row store.tables w) (sym same) stands;
    settled = λ ok. stays.settled tt;
    within = record {
      states = stored store.tables ∷ [];
      stand = (inr (inl (stored_stands store.tables world stands)), tt);
      joint = stays.joint;
      moments = stays.within;
    };
    since = λ since earlier left.
        let later = stays.since since left.states left.moments in
        record {
          states = left.states;
          stand = stand_more next (world ∷ earlier) left.states left.stand;
          joint = joint_of told store.files since left.states later;
          moments = later;
        };
  }

-- ---- the name of a mailbox

-- of tables that stand for a world it is a text
pub text_name : (t : TableRows) (world : World) (id : ℕ) → Stands in_row t world → HasTextName t id
text_name t world id stands row found = mailbox_is_text row.name (all_found (λ (r : Head). is_mailbox_name r.name ≡ true) _ t.heads.mailboxes row stands.names found)

pub long_name : (t : TableRows) (id : ℕ) (row : Head) → row_at mailbox_key (number_key id) t.heads.mailboxes ≡ Some row → 4294967295 < length row.name → HasTextName t id → ⊥
long_name t id row found long texts = let text : IsText row.name = texts row found in omega (arith, long, text)
