use Rattle.std.proofs.Common.{◌≡◌, ℕ, ◌+◌, ◌++◌, ◌∷◌, [], List, length, take, ap, ◌∙◌, sym, subst, rules}
use Rattle.std.proofs.lemmas.List.{take_more, take_all}
use Rattle.mime_tree.specs.declared.values.Field.{Field}
use Rattle.row_tables.specs.TableRows.{TableRows}
use Rattle.shredder.specs.Making.{Leads, Here, holding}
use Rattle.shredder.proofs.Steps.{leads_then}
use Rattle.shredder.proofs.FieldSteps.{HasSome, fields_step, fields_done, some_before}
use Rattle.shredder.proofs.headers.add_fields.Goals as goal

pub loop-place-preserved : goal.loop-place-preserved
loop-place-preserved c now bodies b part empty =
    let t = c.args.tables.now in
    let message : ℕ = c.args.message in
    let path = c.args.path.now in
    let fields = c.args.fields.now in
    let k = c.loop-place.place in
    let field : Field = c.index-fields-place.result in
    let added0 = holding c.args.shared.now.added bodies in
    let added1 = holding c.loop-place.shared.added bodies in
    let added2 = holding c.add_field.new.shared.added bodies in
    let changes0 = c.args.changes.now.items in
    let changes1 = c.loop-place.changes.items in
    let changes2 = c.add_field.new.changes.items in
    let some : TableRows → Type 0 = λ after. HasSome after message path (take k fields) in
    let more : TableRows → Type 0 = λ after. HasSome after message path (take (k + 1) fields) in
    let i = c.loop-place.invariant now bodies b part empty in
    let count : length (take k fields) ≡ k = search rules in
    let step = c.in_ok-add_field.ensures i.after bodies i.between i.holds.0 (some_before i.after message path (take k fields) k count i.holds) in
    let taken : take k fields ++ field ∷ [] ≡ take (k + 1) fields = sym (take_more fields k field c.loop-place-test.true ∙ ap (λ (x : Field). take k fields ++ x ∷ []) (sym c.index-fields-place.is)) in
    let next = subst (λ (l : List Field). Leads message t i.after added1 changes1 (Here path) (λ after. HasSome after message path l) added2 changes2) taken
    (fields_step c.row_laws.ensures message t path (take k fields) k field i.after added1 added2 changes1 changes2 count i.between i.holds step) in
    leads_then message t now added0 added1 added2 changes0 changes1 changes2 (Here path) (Here path) (Here path) some more (λ p h. h) (λ p h. h) i next

pub returns : goal.returns
returns c now bodies b part empty =
    let fields = c.args.fields.now in
    let all : take c.loop-place.place fields ≡ fields = take_all c.loop-place.place fields c.loop-place-test.false in
    let added0 = holding c.args.shared.now.added bodies in
    let added1 = holding c.loop-place.shared.added bodies in
    let changes0 = c.args.changes.now.items in
    let changes1 = c.loop-place.changes.items in
    fields_done c.row_laws.ensures c.args.message c.args.tables.now c.args.path.now fields now added0 added1 changes0 changes1
    (subst (λ (l : List Field). Leads c.args.message c.args.tables.now now added0 changes0 (Here c.args.path.now) (λ after. HasSome after c.args.message c.args.path.now l) added1 changes1) all (c.loop-place.invariant now bodies b part empty))
