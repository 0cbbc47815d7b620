use Rattle.law_complete.proofs.Run.{no_faults, quiet_faultless}
use Rattle.law_complete.proofs.faults.faults_have_no_sound_server.Goals as goal

pub returns : goal.returns
returns c = record { beside = no_faults; quiet = quiet_faultless }
