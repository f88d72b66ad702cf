use Rattle.std.proofs.Common.{rules, ◌≡◌, None, refl, sym, ap, ◌∙◌, arith, option_copied}
use Rattle.expression.specs.Reader.{then}
use Rattle.expression.specs.Labels.{lookup}
use Rattle.expression.specs.Code.{told}
use Rattle.expression.proofs.Laws.{closed_is, closed-none, atom-brackets, atom-bare, links-first, links-more, links-stop, links-less, product-links}
use Rattle.expression.proofs.+atom_product_sum.Goals.{atom-else-depth-gt0-via-else-depth-gt0, atom-else-depth-gt0-via-then-depth-gt0+in-None-1}
use Rattle.expression.proofs.+atom_product_sum.Goals as goal

pub atom-returns-in_err-value : goal.atom-returns-in_err-value
unfolding then
atom-returns-in_err-value t c = rw c.from_residual.ensures (atom-brackets (lookup c.args.labels.now) c.args.depth c.args.s.now _ _ c.if-depth-gt0.true (sym (ap option_copied c.in-Some.is) ∙ c.token.ensures) (sym (ap told c.in_err-value.was) ∙ c.links.ensures))

pub atom-returns-in_err-token : goal.atom-returns-in_err-token
unfolding then
atom-returns-in_err-token t c = rw c.from_residual-in_err-token.ensures (closed-none _ _ (sym (ap option_copied c.in_err-token.was) ∙ c.token-2.ensures) ∙ atom-brackets (lookup c.args.labels.now) c.args.depth c.args.s.now _ _ c.if-depth-gt0.true (sym (ap option_copied c.in-Some.is) ∙ c.token.ensures) (sym (ap told c.in_ok-value.was) ∙ c.links.ensures))

pub atom-returns : goal.atom-returns
unfolding then
atom-returns t c = closed_is _ _ _ (sym (ap option_copied c.in_ok-token.was) ∙ c.token-2.ensures) ∙ atom-brackets (lookup c.args.labels.now) c.args.depth c.args.s.now _ _ c.if-depth-gt0.true (sym (ap option_copied c.in-Some.is) ∙ c.token.ensures) (sym (ap told c.in_ok-value.was) ∙ c.links.ensures)

pub atom-returns-2 : goal.atom-returns-2
atom-returns-2 t c = c.leaf.ensures ∙
    (elim c.else-depth-gt0.branch [
      | atom-else-depth-gt0-via-else-depth-gt0 w ↦ let e : c.args.depth ≡ 0 = omega (arith, w.if-depth-gt0.false) in rw e refl
      | atom-else-depth-gt0-via-then-depth-gt0+in-None-1 w ↦ atom-bare (lookup c.args.labels.now) c.args.depth c.args.s.now (let n : w.token.result ≡ None = search rules in sym (ap option_copied n) ∙ w.token.ensures)
    ])

pub links-returns-in_err-value : goal.links-returns-in_err-value
unfolding then
links-returns-in_err-value t c = rw c.from_residual.ensures (links-first (lookup c.args.labels.now) c.args.level c.args.depth c.args.s.now _ (sym (ap told c.in_err-value.was) ∙ c.operand.ensures))

pub links-loop-operator-init : goal.links-loop-operator-init
unfolding then
links-loop-operator-init t c = links-first (lookup c.args.labels.now) c.args.level c.args.depth c.args.s.now _ (sym (ap told c.in_ok-value.was) ∙ c.operand.ensures)

pub links-returns-in_err-next : goal.links-returns-in_err-next
unfolding then
links-returns-in_err-next t c = rw c.from_residual-in_err-next.ensures (links-more (lookup c.args.labels.now) c.args.level c.args.depth c.loop-operator.value _ _ _ _ (sym (ap told c.in-Some.is) ∙ c.split_operator.ensures) (sym (ap told c.in_err-next.was) ∙ c.operand-in-Some.ensures) ∙ c.loop-operator.invariant)

pub links-loop-operator-smaller : goal.links-loop-operator-smaller
links-loop-operator-smaller t c = links-less (lookup c.args.labels.now) c.args.level c.args.depth _ _ _ _ _ (sym (ap told c.in-Some.is) ∙ c.split_operator.ensures) (sym (ap told c.in_ok-next.was) ∙ c.operand-in-Some.ensures)

pub links-loop-operator-preserved : goal.links-loop-operator-preserved
unfolding then
links-loop-operator-preserved t c = rw c.apply-value.ensures (links-more (lookup c.args.labels.now) c.args.level c.args.depth c.loop-operator.value _ _ _ _ (sym (ap told c.in-Some.is) ∙ c.split_operator.ensures) (sym (ap told c.in_ok-next.was) ∙ c.operand-in-Some.ensures) ∙ c.loop-operator.invariant)

pub links-returns : goal.links-returns
links-returns t c = links-stop (lookup c.args.labels.now) c.args.level c.args.depth c.loop-operator.value _ (sym (ap told c.in_default.is) ∙ c.split_operator.ensures) ∙ c.loop-operator.invariant

pub operand-returns-in-Sum : goal.operand-returns-in-Sum
operand-returns-in-Sum t c = c.links.ensures ∙ (product-links (lookup c.args.labels.now) c.args.depth c.args.s.now ∙ rw c.in-Sum.is refl)
