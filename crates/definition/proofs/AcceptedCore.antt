-- What acceptance says of cells and registers, and that every instruction keeps it: the two instances of Keeps.
use Rattle.definition.specs.declared.Request.{Request}
use Rattle.definition.specs.declared.Request.TheVariants.{Nothing}
use mathlib.Core.Path.{◌≡◌, refl, sym, ap, ◌∙◌}
use mathlib.Core.Bool.{false, true≢false}
use mathlib.Core.List.{List}
use Prim.Native.Nat.{ℕ, ◌*◌, ◌<◌}
use native.Mathlib.Omega.{arith}
use native.Mathlib.Decide.{ℕ_discrete}
use lib.IntN.{ℤ}
use lib.ListN.{length}
use Rattle.definition.specs.declared.Cell.{Cell}
use Rattle.definition.specs.declared.Registers.{Registers}
use Rattle.definition.specs.Memory.{word, cell_count, cell_at, put_cell}
use Rattle.definition.specs.Registers.{supervisor}
use Rattle.definition.specs.Encoding.{sound, sound_at}
use Rattle.definition.specs.Exec.{Core, with_regs, with_cells}
use Rattle.definition.specs.Runtime.{Machine}
use Rattle.definition.proofs.Bits.{put_other}
use Rattle.definition.specs.Accepted.{Addr, Sound, AcceptedCore}
use Rattle.definition.proofs.Cells.{length-put, count-put, cell_other, cell_same}
use Rattle.definition.proofs.Keeps.{Laws}

-- ---- an accepted core

pub word_sound : (w : ℤ) → Sound (word w)
unfolding sound sound_at
word_sound w = refl

put-sound : (l : List ℤ) (k : ℕ) (v : Cell) → k < cell_count l → Sound v → ((n : ℕ) → n < cell_count l → Sound (cell_at l n)) → (n : ℕ) → n < cell_count (put_cell l k v) → Sound (cell_at (put_cell l k v) n)
put-sound l k v hk s h n hn = go (ℕ_discrete n k)
  where
    go : Dec (n ≡ k) → Sound (cell_at (put_cell l k v) n)
    go (yes e) = ap sound (ap (cell_at (put_cell l k v)) e ∙ cell_same l k v hk) ∙ s
    go (no e) = ap sound (cell_other l k n v e) ∙ h n (rw (count-put l k v) at hn)

pub accepted-put : {f : ℕ} (c : Core) → AcceptedCore f c → (n : ℕ) → n < cell_count c.cells → (v : Cell) → Sound v → AcceptedCore f (with_cells (put_cell c.cells n v) c)
accepted-put c a n h v s =
    record {
      three = length-put c.cells n v ∙ a.three ∙ ap (λ x. 3 * x) (sym (count-put c.cells n v));
      low = rw (count-put c.cells n v) a.low;
      high = rw (count-put c.cells n v) a.high;
      fenced = rw (count-put c.cells n v) a.fenced;
      pc_a = a.pc_a;
      sp_a = a.sp_a;
      a_s = a.a_s;
      b_s = a.b_s;
      cells_s = put-sound c.cells n v h s a.cells_s;
    }

-- the cells of one accepted core, and other registers
pub with-registers : {f : ℕ} (c : Core) (s : Registers) → AcceptedCore f c → Addr s.pc → Addr s.sp → Sound s.a → Sound s.b → AcceptedCore f (with_regs s c)
with-registers c s h p q a b =
    record { three = h.three; low = h.low; high = h.high; fenced = h.fenced; pc_a = p; sp_a = q; a_s = a; b_s = b; cells_s = h.cells_s }

-- In either mode the core stays accepted.
pub any_laws : (g f : ℕ) → Laws g (AcceptedCore f) Sound (Unit {0}) (λ (q : Request). Unit {0})
any_laws g f =
    record {
      loud = λ c a h. tt;
      quiet_q = tt;
      loud_q = λ l q. tt;
      word_s = word_sound;
      a_sd = λ c a. a.a_s;
      b_sd = λ c a. a.b_s;
      cell_sd = λ c a. a.cells_s;
      pc_a = λ c a. a.pc_a;
      sp_a = λ c a. a.sp_a;
      few = λ c a. a.high;
      put = λ c a n h l v s. accepted-put c a n h v s;
      to-a = λ c a v s. with-registers c _ a a.pc_a a.sp_a s a.b_s;
      to-b = λ c a v s. with-registers c _ a a.pc_a a.sp_a a.a_s s;
      to-pc = λ c a n h. with-registers c _ a h a.sp_a a.a_s a.b_s;
      to-sp = λ c a n h. with-registers c _ a a.pc_a h a.a_s a.b_s;
      to-sr = λ l c a w. with-registers c _ a a.pc_a a.sp_a a.a_s a.b_s;
      to-empties = λ c a n. with-registers c _ a a.pc_a a.sp_a a.a_s a.b_s;
      to-flag = λ c a k h on. with-registers c _ a a.pc_a a.sp_a a.a_s a.b_s;
    }

-- In user mode, besides, S stays clear and the console is asked nothing.
pub record User (f : ℕ) (c : Core) : Type 0 where
  pub accepted : AcceptedCore f c
  pub clear : supervisor c.regs ≡ false

abbrev pub Silent : Request → Type 0
Silent q = q ≡ Nothing

pub user-laws : (g f : ℕ) → Laws g (User f) Sound ⊥ Silent
unfolding supervisor
user-laws g f =
    record {
      loud = λ c u h. true≢false (sym h ∙ u.clear);
      quiet_q = refl;
      loud_q = λ l q. absurd l;
      word_s = word_sound;
      a_sd = λ c u. u.accepted.a_s;
      b_sd = λ c u. u.accepted.b_s;
      cell_sd = λ c u. u.accepted.cells_s;
      pc_a = λ c u. u.accepted.pc_a;
      sp_a = λ c u. u.accepted.sp_a;
      few = λ c u. u.accepted.high;
      put = λ c u n h l v s. record { accepted = accepted-put c u.accepted n h v s; clear = u.clear };
      to-a = λ c u v s. record { accepted = (any_laws g f).to-a c u.accepted v s; clear = u.clear };
      to-b = λ c u v s. record { accepted = (any_laws g f).to-b c u.accepted v s; clear = u.clear };
      to-pc = λ c u n h. record { accepted = (any_laws g f).to-pc c u.accepted n h; clear = u.clear };
      to-sp = λ c u n h. record { accepted = (any_laws g f).to-sp c u.accepted n h; clear = u.clear };
      to-sr = λ l. absurd l;
      to-empties = λ c u n. record { accepted = (any_laws g f).to-empties c u.accepted n; clear = u.clear };
      to-flag = λ c u k h on. record { accepted = (any_laws g f).to-flag c u.accepted k h on; clear = put_other k on c.regs.sr (omega arith) 9 (λ e. omega arith) ∙ u.clear };
    }

-- And the cells below the fence f are those of l.
pub record Kernel (f : ℕ) (l : List ℤ) (c : Core) : Type 0 where
  pub user : User f c
  pub size : length c.cells ≡ length l
  pub same : (n : ℕ) → n < f → cell_at c.cells n ≡ cell_at l n

pub kernel-laws : (f : ℕ) (l : List ℤ) → Laws f (Kernel f l) Sound ⊥ Silent
kernel-laws f l =
    let u = user-laws f f in
    record {
      loud = λ c k h. u.loud c k.user h;
      quiet_q = refl;
      loud_q = λ l q. absurd l;
      word_s = word_sound;
      a_sd = λ c k. u.a_sd c k.user;
      b_sd = λ c k. u.b_sd c k.user;
      cell_sd = λ c k. u.cell_sd c k.user;
      pc_a = λ c k. u.pc_a c k.user;
      sp_a = λ c k. u.sp_a c k.user;
      few = λ c k. u.few c k.user;
      put = λ c k n h g v s. record { user = u.put c k.user n h g v s; size = length-put c.cells n v ∙ k.size; same = λ i b. cell_other c.cells n i v (λ (e : i ≡ n). omega arith) ∙ k.same i b };
      to-a = λ c k v s. record { user = u.to-a c k.user v s; size = k.size; same = k.same };
      to-b = λ c k v s. record { user = u.to-b c k.user v s; size = k.size; same = k.same };
      to-pc = λ c k n h. record { user = u.to-pc c k.user n h; size = k.size; same = k.same };
      to-sp = λ c k n h. record { user = u.to-sp c k.user n h; size = k.size; same = k.same };
      to-sr = λ l. absurd l;
      to-empties = λ c k n. record { user = u.to-empties c k.user n; size = k.size; same = k.same };
      to-flag = λ c k n h on. record { user = u.to-flag c k.user n h on; size = k.size; same = k.same };
    }

-- a machine in user mode
abbrev pub InUser : Machine → Type 0
InUser m = User m.fence m.core
