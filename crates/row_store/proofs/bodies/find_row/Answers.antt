use Rattle.std.proofs.Common.{◌≡◌, true, ◌==◌, Some, sym, ap, ◌∙◌, subst}
use mathlib.Core.Bool.{true≢false}
use Rattle.std.specs.List.{list_any}
use Rattle.std.specs.Option.{option_map}
use Rattle.row_tables.specs.declared.contents.BodyPart.{BodyPart}
use Rattle.row_store.specs.Refusals.{RowHas}
use Rattle.row_store.proofs.FoundRows.{in_body_ids, in_others}
use Rattle.row_store.proofs.bodies.find_row.Goals as goal

pub search-init : goal.search-init
search-init c id (row, at, has) =
    subst (λ l. list_any (λ n. n == id) l ≡ true) (sym c.body_ids-ids.ensures)
    (in_body_ids c.args.digest.now id c.args.tables.now.shared.bodyparts (ap (option_map (λ (r : BodyPart). r.digest)) at ∙ ap Some (has.1 ∙ sym c.requires)))

pub search-preserved : goal.search-preserved
search-preserved c id h =
    let there = subst (λ l. list_any (λ n. n == id) l ≡ true) c.in-Some.ensures.steps (c.search.invariant id h) in
    in_others c.in-Some.id id c.next.new.self there
    (λ e. true≢false (sym (c.row_has.ensures.1 (subst (λ i. RowHas c.args.tables.now.shared.bodyparts i c.args.bytes.now) (sym e) h)) ∙ c.if-row_has.false))

pub returns-clause-none : goal.returns-clause-none
returns-clause-none c id h = true≢false (sym (subst (λ l. list_any (λ n. n == id) l ≡ true) c.in_default.ensures.steps.0 (c.search.invariant id h)))
