use Rattle.section_dump.proofs.ExactFaults.{faults_are_of_no_image, faults_are_one}
use Rattle.section_dump.proofs.laws.faults_are_exact.Goals as goal

pub returns-clause-no_image : goal.returns-clause-no_image
returns-clause-no_image c = faults_are_of_no_image

pub returns-clause-one : goal.returns-clause-one
returns-clause-one c = faults_are_one
