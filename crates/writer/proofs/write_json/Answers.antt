-- `write_json`: by what the judge and the search say. Assumes nothing.
use Rattle.std.proofs.lemmas.Result.{err_from_is_err_and}
use Rattle.writer.proofs.WrittenLaws.{json_ill, json_formless, json_text}
use Rattle.writer.proofs.write_json.Goals as goal

pub returns-in_err-judge : goal.returns-in_err-judge
returns-in_err-judge c =
    let p = err_from_is_err_and c.from_residual.result c.from_residual.ensures.1 in
    rw (p.1, p.2) (json_ill c.in_err-judge.ensures c.args.out.now)

pub returns-in-Some : goal.returns-in-Some
returns-in-Some c = json_formless c.in_ok-judge.ensures c.in-Some.ensures c.args.out.now

pub returns : goal.returns
returns c = json_text c.in_ok-judge.ensures c.in_default.ensures c.write_text.ensures
