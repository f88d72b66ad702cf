use Rattle.std.proofs.Common.{◌≡◌, ◌+◌, ◌-◌, ◌≤◌, length}
use Rattle.expression.specs.Values.{values}
use Rattle.expression.specs.Labels.{lookup}
use Rattle.assembly.specs.Reader.{rows}
use Rattle.assembler.specs.Meaning.{shape}
use Rattle.assembler.proofs.lines.count_lines.Given as goal

abbrev pub invariant-loop-rest : goal.invariant-loop-rest
invariant-loop-rest l = record {
  room : l.count ≤ l.room;
  some : l.count + length l.rest ≤ length l.text;
  same : shape l.count (rows (values (lookup l.labels)) 32 (l.room - l.count) l.rest) ≡ shape 0 (rows (values (lookup l.labels)) 32 l.room l.text);
}

abbrev pub decreases-loop-rest : goal.decreases-loop-rest
decreases-loop-rest l = length l.rest
