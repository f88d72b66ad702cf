-- Reading a line with values is reading it with trees and then taking their values: what is accepted does not hang on the labels. Assumes nothing.
use mathlib.Core.Path.{◌≡◌, refl, ◌∙◌}
use mathlib.Core.Bool.{Bool, true, false, cond}
use mathlib.Core.List.{List, ◌∷◌}
use mathlib.Core.Option.{Option, some, none}
use Prim.Native.Nat.{ℕ}
use lib.ListN.{length}
use lib.Dec.{leb, ltb, eqb}
use Rattle.expression.specs.declared.Value.{Value}
use Rattle.definition.specs.Encoding.{legal}
use Rattle.expression.specs.Grammar.{Expr}
use Rattle.expression.specs.Reader.{same, Outcome, gives, refused, then, head, tail, front, past, is_space, is_letter, skip, trees, numbered, read_sum}
use Rattle.expression.specs.Values.{values, eval, evaluated}
use Rattle.expression.proofs.Spans.{by_bool}
use Rattle.expression.specs.Table.{is_labelled}
use Rattle.expression.proofs.Fused.{values-of-trees, numbered-fused}
use Rattle.assembly.specs.Grammar.{Arg, None, Imm, Reg, Dir, Ind, Idx, mode, Body, Word, line, mnemonics, dot_word}
use Rattle.assembly.specs.Reader.{number_of, register, expect, indexed, operand, coded, operands, word_after, content, ended, row}
use Rattle.assembly.specs.Assemble.{arg_of, body_of, line_values}

unfoldable pub outcome_of : {X Y : Type 0} → (X → Y) → Outcome X → Outcome Y
outcome_of f (gives x t) = gives (f x) t
outcome_of f refused = refused

then_map : {X Y Z : Type 0} (g : Y → Z) (o : Outcome X) (k : X → List ℕ → Outcome Y) (l : X → List ℕ → Outcome Z) → ((x : X) (r : List ℕ) → l x r ≡ outcome_of g (k x r)) → then o l ≡ outcome_of g (then o k)
unfolding then outcome_of
then_map g (gives x t) k l h = h x t
then_map g refused k l h = refl

then-fused : {X W Y Z : Type 0} (f : X → W) (g : Y → Z) (o : Outcome X) (p : Outcome W) (k : X → List ℕ → Outcome Y) (l : W → List ℕ → Outcome Z) → p ≡ outcome_of f o → ((x : X) (r : List ℕ) → l (f x) r ≡ outcome_of g (k x r)) → then p l ≡ outcome_of g (then o k)
unfolding then outcome_of
then-fused f g (gives x t) p k l e h = rw e (h x t)
then-fused f g refused p k l e h = rw e

expect-fused : {X Y : Type 0} (f : X → Y) (b : ℕ) (x : X) (t : List ℕ) → expect b (f x) t ≡ outcome_of f (expect b x t)
unfolding expect outcome_of
expect-fused f b x t = by_bool (eqb (head t) b) (λ e. rw e) (λ e. rw e)

evaluated-is : (ls : List ℕ → Option ℕ) (o : Outcome Expr) → evaluated ls o ≡ outcome_of (eval ls) o
unfolding evaluated outcome_of
evaluated-is ls (gives e r) = refl
evaluated-is ls refused = refl

module _ (ls : List ℕ → Option ℕ) (d : ℕ) where
  abbrev arg : Arg Expr → Arg Value
  arg x = arg_of (eval ls) x

  abbrev body : Body Expr → Body Value
  body b = body_of (eval ls) b

  sum-fused : (t : List ℕ) → read_sum (values ls) d t ≡ outcome_of (eval ls) (read_sum trees d t)
  sum-fused t = values-of-trees ls d t ∙ evaluated-is ls (read_sum trees d t)

  number-fused : (m : Bool) (t : List ℕ) → numbered (values ls) m t ≡ outcome_of (eval ls) (numbered trees m t)
  number-fused m t = numbered-fused ls m t ∙ evaluated-is ls (numbered trees m t)

  index-fused : (n : ℕ) (m : Bool) (t : List ℕ) → then (numbered (values ls) m t) (λ i u. expect 93 (Idx n i) u) ≡ outcome_of arg (then (numbered trees m t) (λ i u. expect 93 (Idx n i) u))
  unfolding arg_of
  index-fused n m t =
      then-fused (eval ls) arg (numbered trees m t) (numbered (values ls) m t) (λ i u. expect 93 (Idx n i) u) (λ i u. expect 93 (Idx n i) u) (number-fused m t) (λ i u. expect-fused arg 93 (Idx n i) u)

  indexed-fused : (n : ℕ) (t : List ℕ) → indexed (values ls) d n t ≡ outcome_of arg (indexed trees d n t)
  unfolding indexed arg_of
  indexed-fused n t =
      by_bool (eqb (head t) 43)
      (λ e. rw e (index-fused n false (tail t)))
      (λ e. by_bool (eqb (head t) 45)
      (λ g. rw (e, g) (index-fused n true (tail t)))
      (λ g. rw (e, g) (expect-fused arg 93 (Ind n) t)))

  operand-fused : (t : List ℕ) → operand (values ls) d t ≡ outcome_of arg (operand trees d t)
  unfolding operand arg_of outcome_of
  operand-fused t =
      by_bool (eqb (head t) 37)
      (λ e. rw e (then_map arg (register (tail t)) (λ r u. gives (Reg r) u) (λ r u. gives (Reg r) u) (λ r u. refl)))
      (λ e. by_bool (eqb (head t) 91)
      (λ g. by_bool (eqb (head (skip (tail t))) 37)
      (λ h. rw (e, g, h) (then_map arg (register (tail (skip (tail t)))) (indexed trees d) (indexed (values ls) d) indexed-fused))
      (λ h. rw (e, g, h) (then-fused (eval ls) arg (read_sum trees d (skip (tail t))) (read_sum (values ls) d (skip (tail t))) (λ x u. expect 93 (Dir x) u) (λ x u. expect 93 (Dir x) u) (sum-fused (skip (tail t))) (λ x u. expect-fused arg 93 (Dir x) u))))
      (λ g. rw (e, g) (then-fused (eval ls) arg (read_sum trees d t) (read_sum (values ls) d t) (λ x u. gives (Imm x) u) (λ x u. gives (Imm x) u) (sum-fused t) (λ x u. refl))))

  mode-same : (x : Arg Expr) → mode (arg x) ≡ mode x
  unfolding mode arg_of
  mode-same None = refl
  mode-same (Imm x) = refl
  mode-same (Reg r) = refl
  mode-same (Dir x) = refl
  mode-same (Ind r) = refl
  mode-same (Idx r x) = refl

  coded-fused : (o : ℕ) (x y : Arg Expr) (t : List ℕ) → coded (values ls) d o (arg x) (arg y) t ≡ outcome_of body (coded trees d o x y t)
  unfolding coded body_of outcome_of
  coded-fused o x y t = rw (mode-same x, mode-same y) (by_bool (legal o (mode x) (mode y)) (λ e. rw e) (λ e. rw e))

  none-same : arg None ≡ None
  unfolding arg_of
  none-same = refl

  second-fused : (o : ℕ) (x : Arg Expr) (u : List ℕ) → cond (eqb (head u) 44) (then (operand (values ls) d (skip (tail u))) (λ y v. coded (values ls) d o (arg x) y v)) (coded (values ls) d o (arg x) None u) ≡ outcome_of body (cond (eqb (head u) 44) (then (operand trees d (skip (tail u))) (λ y v. coded trees d o x y v)) (coded trees d o x None u))
  unfolding arg_of
  second-fused o x u =
      by_bool (eqb (head u) 44)
      (λ e. rw e (then-fused arg body (operand trees d (skip (tail u))) (operand (values ls) d (skip (tail u))) (λ y v. coded trees d o x y v) (λ y v. coded (values ls) d o (arg x) y v) (operand-fused (skip (tail u))) (λ y v. coded-fused o x y v)))
      (λ e. rw e (coded-fused o x None u))

  operands-fused : (o : ℕ) (t : List ℕ) → operands (values ls) d o t ≡ outcome_of body (operands trees d o t)
  unfolding operands outcome_of body_of arg_of
  operands-fused o t =
      by_bool (legal o 0 0) (λ l. rw l) (λ l.
      by_bool (is_space (head t))
      (λ e. rw (l, e) (then-fused arg body (operand trees d (skip t)) (operand (values ls) d (skip t)) (λ x u. cond (eqb (head u) 44) (then (operand trees d (skip (tail u))) (λ y v. coded trees d o x y v)) (coded trees d o x None u)) (λ x u. cond (eqb (head u) 44) (then (operand (values ls) d (skip (tail u))) (λ y v. coded (values ls) d o x y v)) (coded (values ls) d o x None u)) (operand-fused (skip t)) (λ x u. second-fused o x u)))
      (λ e. rw (l, e)))

  word-fused : (t : List ℕ) → word_after (values ls) d t ≡ outcome_of body (word_after trees d t)
  unfolding word_after body_of outcome_of
  word-fused t =
      by_bool (is_space (head t))
      (λ e. rw e (then-fused (eval ls) body (read_sum trees d (skip t)) (read_sum (values ls) d (skip t)) (λ x u. gives (Word x) u) (λ x u. gives (Word x) u) (sum-fused (skip t)) (λ x u. refl)))
      (λ e. rw e)

  content-fused : (t : List ℕ) → content (values ls) d t ≡ outcome_of body (content trees d t)
  unfolding content outcome_of
  content-fused t =
      by_bool (eqb (head t) 46)
      (λ e. by_bool (same dot_word (46 ∷ front is_letter (tail t))) (λ g. rw (e, g) (word-fused (past is_letter (tail t)))) (λ g. rw (e, g)))
      (λ e. by_bool (ltb (number_of mnemonics (front is_letter t)) 33) (λ g. rw (e, g) (operands-fused (number_of mnemonics (front is_letter t)) (past is_letter t))) (λ g. rw (e, g)))

  ended-fused : (n : Option (List ℕ)) (t : List ℕ) → ended (values ls) d n (content (values ls) d t) ≡ outcome_of (line_values ls) (ended trees d n (content trees d t))
  unfolding ended outcome_of
  ended-fused n t =
      then-fused body (line_values ls) (content trees d t) (content (values ls) d t) (λ b u. cond (eqb (head u) 10) (gives (line n b) (tail u)) refused) (λ b u. cond (eqb (head u) 10) (gives (line n b) (tail u)) refused) (content-fused t) (λ b u. end-fused b u)
    where
      end-fused : (b : Body Expr) (u : List ℕ) → cond (eqb (head u) 10) (gives (line n (body b)) (tail u)) refused ≡ outcome_of (line_values ls) (cond (eqb (head u) 10) (gives (line n b) (tail u)) refused)
      end-fused b u = by_bool (eqb (head u) 10) (λ e. rw e) (λ e. rw e)

  pub row-fused : (t : List ℕ) → row (values ls) d t ≡ outcome_of (line_values ls) (row trees d t)
  unfolding row outcome_of
  row-fused t =
      by_bool (is_labelled t)
      (λ e. by_bool (leb (length (front is_letter (skip t))) 16)
      (λ g. rw (e, g) (ended-fused (some (front is_letter (skip t))) (skip (tail (past is_letter (skip t))))))
      (λ g. rw (e, g)))
      (λ e. rw e (ended-fused none (skip t)))
