use Rattle.ordered_rows.proofs.AfterEdits.{inserted_same, inserted_other}
use Rattle.ordered_rows.proofs.Groups.{filtered_same, filtered_other, found_same, found_other}
use Rattle.ordered_rows.proofs.Keys.{order-with_row}
use Rattle.ordered_rows.proofs.Numbers.{behind_all, at_its_key}
use Rattle.ordered_rows.proofs.laws.insertion.Goals as goal

pub returns : goal.returns
returns g c =
    let key = g.R.Keyed.key_of in
    record {
      same = inserted_same key;
      other = inserted_other key;
      order = order-with_row key;
      behind = behind_all key;
      passing = filtered_same key;
      failing = filtered_other key;
      finds = found_same key;
      passes_by = found_other key;
      at_key = at_its_key key;
    }
