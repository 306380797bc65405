use Rattle.std.proofs.Common.{◌≡◌, ℕ, ◌+◌, ◌++◌, ◌∷◌, [], List, length, length-append, arith, take, sym, ap, ◌∙◌, subst}
use Rattle.std.proofs.lemmas.List.{take_more, take_all}
use Rattle.mime_tree.specs.declared.values.Item.{Item}
use Rattle.row_tables.specs.TableRows.{TableRows}
use Rattle.shredder.specs.MessageRows.{IsAddressId, texts_of}
use Rattle.shredder.specs.Making.{AreAddressIds, Leads, Nowhere, holding}
use Rattle.shredder.proofs.Steps.{leads_then, leads_so, leads_keeps}
use Rattle.shredder.proofs.AddressIds.{ids_kept, ids_and}
use Rattle.shredder.proofs.addresses.add_items.Goals as goal

pub loop-item-preserved : goal.loop-item-preserved
loop-item-preserved c = (
  omega (arith, c.loop-item.invariant.0, ap length c.in_ok-push.ensures.items, length-append c.loop-item.ids.items (c.in_ok-id.id ∷ [])),
  λ message now bodies b.
      let t = c.args.tables.now in
      let added0 = holding c.args.shared.now.added bodies in
      let added1 = holding c.loop-item.shared.added bodies in
      let added2 = holding c.add_item.new.shared.added bodies in
      let changes0 = c.args.changes.now.items in
      let changes1 = c.loop-item.changes.items in
      let changes2 = c.add_item.new.changes.items in
      let items = c.args.items.now in
      let k = c.loop-item.item-index in
      let item : Item = c.item-item.result in
      let ids : List ℕ = c.loop-item.ids.items in
      let id : ℕ = c.in_ok-id.id in
      let P : TableRows → Type 0 = λ after. AreAddressIds after.shared.addresses (take k items) ids in
      let Q : TableRows → Type 0 = λ after. IsAddressId after.shared.addresses (texts_of item) id in
      let i = c.loop-item.invariant.1 message now bodies b in
      let s = c.in_ok-id.ensures message i.after bodies i.between in
      let keeps = leads_keeps message t c.row_laws.ensures i.after added1 added2 changes1 changes2 Nowhere Q i.between s in
      let taken : take (k + 1) items ≡ take k items ++ item ∷ [] = take_more items k item c.loop-item-test.true ∙ ap (λ (x : Item). take k items ++ x ∷ []) (sym c.item-item.is) in
      let pushed : c.push.new.self.items ≡ ids ++ id ∷ [] = c.in_ok-push.ensures.items in
      let holds : AreAddressIds s.after.shared.addresses (take k items ++ item ∷ []) (ids ++ id ∷ []) = ids_and s.after.shared.addresses (take k items) ids item id (ids_kept i.after.shared.addresses s.after.shared.addresses keeps.addresses (take k items) ids i.holds) s.holds in
      let R : TableRows → Type 0 = λ after. AreAddressIds after.shared.addresses (take (k + 1) items) c.push.new.self.items in
      let so = leads_so message t i.after added1 added2 changes1 changes2 Nowhere Nowhere Q R (λ path h. h) s
      (subst (λ l. AreAddressIds s.after.shared.addresses l c.push.new.self.items) (sym taken) (subst (AreAddressIds s.after.shared.addresses (take k items ++ item ∷ [])) (sym pushed) holds)) in
      leads_then message t now added0 added1 added2 changes0 changes1 changes2 Nowhere Nowhere Nowhere P R (λ path h. h) (λ path h. h) i so,
)

pub returns-clause-ids : goal.returns-clause-ids
returns-clause-ids c message now bodies b =
    let items = c.args.items.now in
    let all : take c.loop-item.item-index items ≡ items = take_all c.loop-item.item-index items c.loop-item-test.false in
    subst (λ (l : List Item). Leads message c.args.tables.now now (holding c.args.shared.now.added bodies) c.args.changes.now.items Nowhere (λ after. AreAddressIds after.shared.addresses l c.loop-item.ids.items) (holding c.loop-item.shared.added bodies) c.loop-item.changes.items) all
    (c.loop-item.invariant.1 message now bodies b)
