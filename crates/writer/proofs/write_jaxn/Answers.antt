-- `write_jaxn`: by what the judge says. Assumes nothing.
use Rattle.std.proofs.lemmas.Result.{err_from_is_err_and}
use Rattle.writer.proofs.WrittenLaws.{jaxn_ill, jaxn_text}
use Rattle.writer.proofs.write_jaxn.Goals as goal

pub returns-in_err-judge : goal.returns-in_err-judge
returns-in_err-judge c =
    let p = err_from_is_err_and c.from_residual.result c.from_residual.ensures.1 in
    rw (p.1, p.2) (jaxn_ill c.in_err-judge.ensures c.args.out.now)

pub returns : goal.returns
returns c = jaxn_text c.in_ok-judge.ensures c.write_text.ensures
