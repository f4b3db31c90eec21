use Rattle.pull_laws.proofs.Verdicts.{one_verdict, ends_with_verdict, end_alike, is_complete}
use Rattle.pull_laws.proofs.calls_end_with_the_verdict.Goals as goal

pub returns-clause-one : goal.returns-clause-one
returns-clause-one c = λ words files saved one other is also. one_verdict words files saved one other is also

pub returns-clause-verdict : goal.returns-clause-verdict
returns-clause-verdict c =
    λ words files saved status call is over. ends_with_verdict words files saved status call is over

pub returns-clause-alike : goal.returns-clause-alike
returns-clause-alike c = λ words files saved one other over also. end_alike words files saved one other over also

pub returns-clause-complete : goal.returns-clause-complete
returns-clause-complete c =
    λ words files saved one other over also zero. is_complete words files saved one other over also zero
