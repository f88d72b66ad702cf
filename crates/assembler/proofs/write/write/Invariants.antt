use Rattle.std.proofs.Common.{◌≡◌, ◌-◌, true, map}
use Rattle.expression.specs.Values.{values}
use Rattle.expression.specs.Labels.{lookup}
use Rattle.assembly.specs.Reader.{rows}
use Rattle.assembly.specs.Assemble.{line_cell, put_cells}
use Rattle.assembler.specs.Meaning.{is_whole, text_lines}
use Rattle.assembler.proofs.write.write.Given as goal

abbrev pub invariant-loop-k : goal.invariant-loop-k
invariant-loop-k l = record {
  whole : is_whole (rows (values (lookup l.labels)) 32 (l.count - l.k) l.rest) ≡ true;
  same : put_cells l.k (map line_cell (text_lines (lookup l.labels) (l.count - l.k) l.rest)) l.image ≡ put_cells 0 (map line_cell (text_lines (lookup l.labels) l.count l.text)) l.initial.image;
}
