use Rattle.hid_script.proofs.AgreementLemmas.{lines_agree, polls_bring_to_rest}
use Rattle.hid_script.proofs.laws.devices_agree_after_lines.Goals as goal

pub returns-clause-agree : goal.returns-clause-agree
returns-clause-agree c = lines_agree

pub returns-clause-rest : goal.returns-clause-rest
returns-clause-rest c = polls_bring_to_rest
