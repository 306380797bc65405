use Rattle.admin_texts.proofs.OneEnd.{texts_end_once}
use Rattle.admin_texts.proofs.laws.texts_end_once.Goals as goal

pub returns : goal.returns
returns c = texts_end_once
