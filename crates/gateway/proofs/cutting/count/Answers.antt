use Rattle.gateway.proofs.Cuts.{covers, resumes}
use Rattle.gateway.proofs.cutting.count.Goals as goal

pub returns-clause-covers : goal.returns-clause-covers
returns-clause-covers c = covers

pub returns-clause-resumes : goal.returns-clause-resumes
returns-clause-resumes c = resumes
