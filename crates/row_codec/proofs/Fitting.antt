-- The texts of changes that fit.
use Rattle.std.proofs.Common.{List, [], ◌∷◌}
use Rattle.row_tables.specs.TableRows.{TableRows}
use Rattle.row_tables.specs.Fits.{Fits, Runs, applied}
use Rattle.row_tables.specs.declared.change.RowChange.{RowChange}
use Rattle.row_tables.specs.declared.change.RowChange.TheVariants.{InsertUser, InsertMailbox, InsertMessageRow, InsertMailboxMessage, InsertDeletedMessage, InsertFlagName, InsertFlagRow, InsertBodyPart, InsertPartNumber, InsertFieldName, InsertHeaderField, InsertAddressRow, InsertAddressField, InsertDateField, InsertMessageId, InsertUnparsedMessage, InsertSubscription, UpdateMailbox, UpdateMailboxMessage, UpdateCounters, RemoveMailboxMessage, RemoveFlagRow, RemoveSubscription, DropMailbox}
use Rattle.row_codec.specs.Encoding.{HasTexts, HaveTexts}

fitting_texts : (t : TableRows) (change : RowChange) → Fits t change → HasTexts change
fitting_texts t (InsertUser x) fits = (tt, (fits.0, tt))
fitting_texts t (InsertMailbox x) fits = (tt, (tt, (fits.0, (tt, (tt, tt)))))
fitting_texts t (InsertMessageRow x) fits = (tt, tt)
fitting_texts t (InsertMailboxMessage x) fits = (tt, (tt, (tt, (tt, (tt, tt)))))
fitting_texts t (InsertDeletedMessage x) fits = (tt, (tt, tt))
fitting_texts t (InsertFlagName x) fits = (tt, fits.0)
fitting_texts t (InsertFlagRow x) fits = (tt, (tt, tt))
fitting_texts t (InsertBodyPart x) fits = (tt, (tt, fits.0))
fitting_texts t (InsertPartNumber x) fits = (tt, (fits.0, (tt, tt)))
fitting_texts t (InsertFieldName x) fits = (tt, fits.0)
fitting_texts t (InsertHeaderField x) fits = (tt, (fits.0, (tt, (tt, (tt, fits.1)))))
fitting_texts t (InsertAddressRow x) fits = (tt, (fits.0, (fits.1, fits.2)))
fitting_texts t (InsertAddressField x) fits = (tt, (fits.0, (tt, (tt, (tt, tt)))))
fitting_texts t (InsertDateField x) fits = (tt, (fits.0, (tt, (fits.1, (tt, tt)))))
fitting_texts t (InsertMessageId x) fits = (tt, (fits.0, (tt, (tt, fits.1))))
fitting_texts t (InsertUnparsedMessage x) fits = (tt, tt)
fitting_texts t (InsertSubscription x) fits = (tt, fits.0)
fitting_texts t (UpdateMailbox x) fits = (tt, (tt, (fits.0, (tt, (tt, tt)))))
fitting_texts t (UpdateMailboxMessage x) fits = (tt, (tt, (tt, (tt, (tt, tt)))))
fitting_texts t (UpdateCounters x) fits = tt
fitting_texts t (RemoveMailboxMessage x) fits = (tt, tt)
fitting_texts t (RemoveFlagRow x) fits = (tt, (tt, tt))
fitting_texts t (RemoveSubscription x) fits = (tt, fits.0)
fitting_texts t (DropMailbox x) fits = tt
fitting_texts t _ fits = absurd fits

pub running_texts : (t after : TableRows) (changes : List RowChange) → Runs t changes after → HaveTexts changes
running_texts t after [] runs = tt
running_texts t after (change ∷ changes) runs = (fitting_texts t change runs.0, running_texts (applied t change) after changes runs.1)
