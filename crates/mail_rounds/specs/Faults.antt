-- What a core's fault is to a round.
use Rattle.mail_rounds.specs.declared.mail_core.CoreFault.{CoreFault}
use Rattle.mail_rounds.specs.declared.mail_core.CoreFault.TheVariants.{Failed, NoMemory}
use Rattle.mail_rounds.specs.declared.rounds.RoundFault.{RoundFault}
use Rattle.mail_rounds.specs.declared.rounds.RoundFault.TheVariants.{StoreFault, NoMemory as RoundNoMemory}

abbrev pub fault_of : CoreFault → RoundFault
fault_of Failed = StoreFault
fault_of NoMemory = RoundNoMemory
