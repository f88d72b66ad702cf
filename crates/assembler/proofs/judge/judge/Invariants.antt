use Rattle.std.proofs.Common.{◌≡◌, ◌-◌, ◌≤◌, true, Ok}
use Rattle.expression.specs.Values.{values}
use Rattle.expression.specs.Labels.{lookup}
use Rattle.assembly.specs.Reader.{rows}
use Rattle.assembler.specs.Meaning.{is_whole, text_lines, judge}
use Rattle.assembler.proofs.judge.judge.Given as goal

abbrev pub invariant-loop-k : goal.invariant-loop-k
invariant-loop-k l = record {
  few : l.set ≤ l.k;
  whole : is_whole (rows (values (lookup l.labels)) 32 (l.count - l.k) l.rest) ≡ true;
  same : judge (lookup l.labels) l.k l.set l.verdict (text_lines (lookup l.labels) (l.count - l.k) l.rest) ≡ judge (lookup l.labels) 0 0 (Ok tt) (text_lines (lookup l.labels) l.count l.text);
}
