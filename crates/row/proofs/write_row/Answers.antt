use Rattle.std.proofs.Common.{[], ◌<◌, ◌^◌, arith}
use mir.Facts.{to_z_pos}
use mir.Syntax.{w64}
use Rattle.definition.specs.Calls.{row_of}
use Rattle.row.specs.Meaning.{machine_at}
use Rattle.row.proofs.Lists.{all-stored}
use Rattle.row.proofs.write_row.Goals as goal

pub returns : goal.returns
unfolding row_of
returns c =
    let m = c.args.m.now in
    let fence : m.fence < 2 ^ 63 = omega arith in
    rw (c.put_timer.ensures, c.put.ensures, to_z_pos w64 fence, c.put_console.ensures, c.put_marks.ensures, c.put_numbers.ensures, c.cell_into-2.ensures, c.cell_into.ensures)
    (all-stored (row_of (machine_at [] [] [] m)) c.args.row.now c.requires.0)
