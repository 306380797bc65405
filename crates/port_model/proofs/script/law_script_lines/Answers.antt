use Rattle.port_model.proofs.ScriptLinesLemmas.{all_good, first_bad}
use Rattle.port_model.proofs.script.law_script_lines.Goals as goal

pub returns-clause-good : goal.returns-clause-good
returns-clause-good c = all_good

pub returns-clause-bad : goal.returns-clause-bad
returns-clause-bad c = first_bad
