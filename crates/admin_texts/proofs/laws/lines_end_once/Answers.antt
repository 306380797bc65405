use Rattle.admin_texts.proofs.OneEnd.{lines_end_once}
use Rattle.admin_texts.proofs.laws.lines_end_once.Goals as goal

pub returns : goal.returns
returns c = lines_end_once
