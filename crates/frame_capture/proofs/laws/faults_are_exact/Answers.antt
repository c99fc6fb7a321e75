use Rattle.frame_capture.proofs.OneFault.{faults_are_of_no_file, faults_are_one}
use Rattle.frame_capture.proofs.laws.faults_are_exact.Goals as goal

pub returns-clause-no_file : goal.returns-clause-no_file
returns-clause-no_file c = faults_are_of_no_file

pub returns-clause-one : goal.returns-clause-one
returns-clause-one c = faults_are_one
