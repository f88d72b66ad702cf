use Rattle.refusals.proofs.Passed.{load-passed}
use Rattle.calls.proofs.cells.load.Goals as goal

pub place_image-requires : goal.place_image-requires
place_image-requires c = load-passed c.args.cells.now c.args.image.now c.args.start c.in_ok-load_check.ensures
