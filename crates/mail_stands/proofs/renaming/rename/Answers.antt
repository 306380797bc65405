use Rattle.mail_stands.proofs.Renamed.{rename_keeps, rename_leads, rename_runs, rename_same, renamed_rows}
use Rattle.mail_stands.proofs.renaming.rename.Goals as goal

pub returns-clause-refusal : goal.returns-clause-refusal
returns-clause-refusal c = rename_same

pub returns-clause-rows : goal.returns-clause-rows
returns-clause-rows c content t world owner from s = renamed_rows content t world owner from s

pub returns-clause-leads : goal.returns-clause-leads
returns-clause-leads c = rename_leads c.keys.ensures.same c.insertion.ensures (record { same = c.row_after_replace.ensures.same; other = c.row_after_replace.ensures.other }) c.stores_stay_legal.ensures.changed

pub returns-clause-fit : goal.returns-clause-fit
returns-clause-fit c t owner from to rows ordered closed can are =
    (_, rename_runs c.insertion.ensures t owner from ordered c.keys.ensures.same (record { same = c.row_after_replace.ensures.same; other = c.row_after_replace.ensures.other }) closed to rows can are)

pub returns-clause-owners : goal.returns-clause-owners
returns-clause-owners c t after owner from to rows ordered are runs =
    rename_keeps c.insertion.ensures t owner from ordered c.keys.ensures.same (record { same = c.row_after_replace.ensures.same; other = c.row_after_replace.ensures.other }) after to rows are runs
