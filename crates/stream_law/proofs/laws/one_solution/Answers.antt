use Rattle.stream_law.proofs.OneSolution.{solves, moves_same, counts_same}
use Rattle.stream_law.proofs.Rounds.{moves_in, counts_by}
use Rattle.stream_law.proofs.laws.one_solution.Goals as goal

pub returns : goal.returns
returns c = λ v t old rank ranks ranked low. ((moves_in v t old ranks, counts_by v old (moves_in v t old ranks), solves v t old rank ranked ranks low), λ n m new other first second. (moves_same v t old rank ranked n m new other first second, counts_same v t old rank ranked n m new other first second))
