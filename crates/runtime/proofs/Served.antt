-- What the console or the timer serves, as the definition says it.
use Rattle.std.specs.Prelude.{◌≡◌, refl, ℕ, ◌<◌, length, ℤ, pos, true, false, cond}
use Rattle.std.proofs.Common.{◌∙◌, ap}
use borrow.Author.Tests.{ne_eqb, leb-false}
use Rattle.definition.specs.declared.Reg.{Reg}
use Rattle.definition.specs.declared.Error.{Error}
use Rattle.definition.specs.declared.Executed.{Executed}
use Rattle.definition.specs.Registers.{supervisor}
use Rattle.definition.specs.Exception.{ending}
use Rattle.definition.specs.declared.Request.TheVariants.{Reads, Writes}
use Rattle.definition.specs.declared.Stop.TheVariants.{OutputFull}
use Rattle.definition.specs.Memory.{word}
use Rattle.definition.specs.Io.{Console, read_port, write_port, output_full}
use Rattle.definition.specs.Timer.{set_timer, tick, read_timer}
use Rattle.definition.specs.Exec.{Core, Res, ok, err}
use Rattle.definition.specs.Instructions.{set_register}
use Rattle.definition.specs.Runtime.{Machine, with_core, with_console, with_timer, executed, conclude, poll, serve, stops, ends, attempt, after_attempt, guard, turn}

-- A port read: the register took its word, or refused it.
module _ (m : Machine) (p : ℕ) (r : Reg) (cost : ℕ) (c d : Core) (n : ℕ) (k : Console) (e : (n, k) ≡ read_port p m.console) where
  concluded_as : (x : Res (Unit {0})) → x ≡ set_register r (word (pos (read_timer p m.timer n))) c → conclude cost (with_console k m) x ≡ serve m (Reads p r) cost c
  unfolding serve
  concluded_as x f =
      ap (conclude cost (with_console k m)) f
      ∙ ap (λ (z : ℕ × Console). conclude cost (with_console z.1 m) (set_register r (word (pos (read_timer p m.timer z.0))) c)) e

  pub served_ok : ok tt d ≡ set_register r (word (pos (read_timer p m.timer n))) c → poll (with_timer (tick cost m.timer) (executed cost d (with_console k m))) ≡ serve m (Reads p r) cost c
  unfolding conclude
  served_ok f = concluded_as (ok tt d) f

  pub served_err : (x : Error) → err x d ≡ set_register r (word (pos (read_timer p m.timer n))) c → ends (ending x) (with_core d (with_console k m)) ≡ serve m (Reads p r) cost c
  unfolding conclude
  served_err x f = concluded_as (err x d) f

pub served_full : (m : Machine) (p : ℕ) (w : ℤ) (cost : ℕ) (c : Core) → output_full p m.console ≡ true → stops OutputFull m ≡ serve m (Writes p w) cost c
unfolding serve
served_full m p w cost c h = rw h refl

pub served_set : (m : Machine) (p : ℕ) (w : ℤ) (cost : ℕ) (c : Core) → output_full p m.console ≡ false → p ≡ 120 → poll (with_timer (set_timer w m.timer) (executed cost c m)) ≡ serve m (Writes p w) cost c
unfolding serve
served_set m p w cost c h e = rw (h, e) refl

pub served_write : (m : Machine) (p : ℕ) (w : ℤ) (cost : ℕ) (c : Core) (k : Console) → output_full p m.console ≡ false → (p ≡ 120 → ⊥) → k ≡ write_port p w m.console → poll (with_timer (tick cost m.timer) (executed cost c (with_console k m))) ≡ serve m (Writes p w) cost c
unfolding serve conclude
served_write m p w cost c k h n e = rw (h, ne_eqb p 120 n, e) refl

-- where the record isn't full, the byte has its place
pub has_room : (p : ℕ) (k : Console) → p ≡ 111 → output_full p k ≡ false → k.written < length k.output
unfolding output_full
has_room p k e h = leb-false _ _ (rw e at h)

-- ---- the instruction, then what it asks

module _ (m : Machine) (g : ℕ) (e : g ≡ cond (supervisor m.core.regs) 0 m.fence) (c : Core) where
  pub turned_ok : (x : Executed) → ok x c ≡ attempt g m.core → serve m x.request x.cost c ≡ turn m
  unfolding turn after_attempt guard
  turned_ok x h = ap (after_attempt m) (h ∙ ap (λ (n : ℕ). attempt n m.core) e)

  pub turned_err : (x : Error) → err x c ≡ attempt g m.core → ends (ending x) (with_core c m) ≡ turn m
  unfolding turn after_attempt guard
  turned_err x h = ap (after_attempt m) (h ∙ ap (λ (n : ℕ). attempt n m.core) e)
