-- `judging::judge_both` meets its contract: each way out is one law. Assumes nothing.
use Rattle.std.proofs.lemmas.Result.{err_from_is_err_and}
use Rattle.judging.proofs.Judging.{judging-first, judging-second, judging-sound}
use Rattle.judging.proofs.judge_both.Goals as goal

pub returns-in_err-map_err : goal.returns-in_err-map_err
returns-in_err-map_err c =
    let p = err_from_is_err_and c.from_residual.result c.from_residual.ensures.1 in
    rw (p.1, p.2) (judging-first _ _ _ _ c.judge_alone.ensures c.map_err.ensures.cases _ c.in_err-map_err.was)

pub returns-in_err-map_err-2 : goal.returns-in_err-map_err-2
returns-in_err-map_err-2 c =
    let p = err_from_is_err_and c.from_residual-in_err-map_err-2.result c.from_residual-in_err-map_err-2.ensures.1 in
    rw (p.1, p.2)
    (judging-second _ _ _ _ c.judge_alone.ensures c.map_err.ensures.cases _ c.in_ok-map_err.was _ _ c.judge_alone-2.ensures c.map_err-2.ensures.cases _ c.in_err-map_err-2.was)

pub returns : goal.returns
returns c =
    judging-sound _ _ _ _ c.judge_alone.ensures c.map_err.ensures.cases _ c.in_ok-map_err.was _ _ c.judge_alone-2.ensures c.map_err-2.ensures.cases _ c.in_ok-map_err-2.was
