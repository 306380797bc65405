-- The ids of a value's addresses.
use Rattle.std.proofs.Common.{ℕ, List, [], ◌∷◌, ◌++◌, Option, Some, None}
use Rattle.mime_tree.specs.declared.values.Item.{Item}
use Rattle.row_tables.specs.declared.contents.AddressRow.{AddressRow}
use Rattle.shredder.specs.MessageRows.{AddressTexts, HasAddress, IsAddressId, texts_of}
use Rattle.shredder.specs.Making.{AreAddressIds}

module _ (rows later : List AddressRow) (kept : (id : ℕ) (texts : AddressTexts) → HasAddress rows id texts → HasAddress later id texts) where
  id_kept : (texts : Option AddressTexts) (id : ℕ) → IsAddressId rows texts id → IsAddressId later texts id
  id_kept None id h = h
  id_kept (Some texts) id h = kept id texts h

  pub ids_kept : (items : List Item) (ids : List ℕ) → AreAddressIds rows items ids → AreAddressIds later items ids
  ids_kept [] [] h = h
  ids_kept [] (id ∷ ids) h = h
  ids_kept (i ∷ items) [] h = h
  ids_kept (i ∷ items) (id ∷ ids) h = (id_kept (texts_of i) id h.0, ids_kept items ids h.1)

pub ids_and : (rows : List AddressRow) (items : List Item) (ids : List ℕ) (item : Item) (id : ℕ) → AreAddressIds rows items ids → IsAddressId rows (texts_of item) id → AreAddressIds rows (items ++ item ∷ []) (ids ++ id ∷ [])
ids_and rows [] [] item id h k = (k, tt)
ids_and rows [] (i ∷ ids) item id h k = absurd h
ids_and rows (i ∷ items) [] item id h k = absurd h
ids_and rows (i ∷ items) (j ∷ ids) item id h k = (h.0, ids_and rows items ids item id h.1 k)
