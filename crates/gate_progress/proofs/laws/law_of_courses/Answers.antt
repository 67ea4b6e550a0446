use Rattle.gate_progress.proofs.Courses.{courses_law}
use Rattle.gate_progress.proofs.laws.law_of_courses.Goals as goal

pub returns : goal.returns
returns c = courses_law
