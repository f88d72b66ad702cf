use Rattle.refusals.proofs.Passed.{set-register-passed}
use Rattle.calls.proofs.register.set_register.Goals as goal

pub put_register-requires : goal.put_register-requires
put_register-requires c = (set-register-passed c.args.row.now _ _ c.in_ok-set_register_check.ensures).long
