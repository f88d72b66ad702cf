-- A run of the machine at place k of n, in the four buffers.
use Rattle.std.specs.Prelude.{◌≡◌, ℕ, length}
use Rattle.definition.specs.declared.Ran.{Ran}
use Rattle.definition.specs.Calls.{Lent, lent, Called, called, run_call}
use Rattle.bench.specs.Bench.{machine_at}
use Rattle.bench.specs.Turn.{with_machine}
use Rattle.seats.specs.declared.Buffers.{Buffers}

abbrev pub lent_of : Buffers → Lent
lent_of b = lent b.cells.now b.queues.now b.outputs.now b.rows.now

-- They are still the caller's, of the same lengths.
pub record AreSame (old new : Buffers) : Type 0 where
  pub cells : new.cells.ghost_name ≡ old.cells.ghost_name
  pub queues : new.queues.ghost_name ≡ old.queues.ghost_name
  pub outputs : new.outputs.ghost_name ≡ old.outputs.ghost_name
  pub rows : new.rows.ghost_name ≡ old.rows.ghost_name
  pub cells_long : length new.cells.now ≡ length old.cells.now
  pub queues_long : length new.queues.now ≡ length old.queues.now
  pub outputs_long : length new.outputs.now ≡ length old.outputs.now
  pub rows_long : length new.rows.now ≡ length old.rows.now

abbrev pub ran_at : ℕ → ℕ → ℕ → Lent → Called Ran Lent
ran_at n k budget b = let r = run_call budget (machine_at n k b) in called r.answer (with_machine n k r.left b)
