use Rattle.std.proofs.Common.{sym, ap, ◌∙◌}
use Rattle.mailbox_core.specs.Renaming.{ends_name}
use Rattle.mailbox_core.proofs.Fronts.{not_renamed, renamed_if}
use Rattle.mailbox_core.proofs.new_names.rest_of.Goals as goal
use Rattle.mailbox_core.proofs.new_names.rest_of.Goals.{in_default-via-in-Some+else-ends_name, in_default-via-in_default}

pub returns-in-Some : goal.returns-in-Some
returns-in-Some c =
    (renamed_if c.args.from.now c.args.name.now _ c.in-Some.ensures.cases.0 (sym c.if-ends_name.true ∙ c.ends_name.ensures ∙ ap ends_name c.in-Some.ensures.cases.1), c.in-Some.ensures.cases.1)

pub returns-in_default : goal.returns-in_default
returns-in_default c =
    elim c.in_default.branch [
      | in_default-via-in-Some+else-ends_name w ↦ renamed_if c.args.from.now c.args.name.now _ w.in-Some.ensures.cases.0 (sym w.if-ends_name.false ∙ w.ends_name.ensures ∙ ap ends_name w.in-Some.ensures.cases.1)
      | in_default-via-in_default w ↦ not_renamed c.args.from.now c.args.name.now w.in_default.ensures.cases
    ]
