-- Empty tables stand for the store as it is made.
use Rattle.std.proofs.Common.{ℕ, List, refl}
use Rattle.std.proofs.lemmas.Option.{none-some}
use Rattle.row_tables.specs.TableRows.{no_rows}
use Rattle.row_tables.specs.declared.contents.BodyPart.{BodyPart}
use Rattle.shredder.specs.Distinct.{AreDistinct}
use Rattle.mail_world.specs.Worlds.{no_world}
use Rattle.mail_world.specs.Legal.{IsLegal}
use Rattle.mail_stands.specs.Facts.{mails_in}
use Rattle.mail_stands.specs.Stands.{Stands}

nothing-distinct : (content : BodyPart → List ℕ) → AreDistinct (mails_in content no_rows)
nothing-distinct content = record {
  names = λ i j name here there. absurd (none-some name here);
  addresses = λ i j texts here there. absurd (none-some texts here);
  contents = λ i j bytes here there. absurd (none-some bytes here);
  digests = λ i bytes here. absurd (none-some bytes here);
}

pub nothing-stands : IsLegal no_world → (content : BodyPart → List ℕ) → Stands content no_rows no_world
nothing-stands legal content = record {
  legal = legal;
  users = refl;
  mailboxes = refl;
  names = tt;
  subscriptions = refl;
  next = refl;
  entries = λ id uid. record { tie = tt };
  gone = λ id uid. refl;
  flags = λ id uid name. refl;
  distinct = nothing-distinct content;
}
