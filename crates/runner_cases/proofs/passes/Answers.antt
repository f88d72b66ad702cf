use Rattle.image_run.specs.Image.{printed}
use Rattle.runner_cases.specs.Cases.{passing}
use Rattle.runner_cases.proofs.Laws.{same_is}
use Rattle.runner_cases.proofs.passes.Goals as goal

pub returns : goal.returns
unfolding passing
returns c = rw (c.eq.ensures, c.as_bytes.ensures.value, c.report_file.ensures) (same_is (printed c.args.input.now) c.args.due.now)
