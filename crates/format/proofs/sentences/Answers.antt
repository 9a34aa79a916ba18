-- `format::sentences`: each test decides one of the sentences.
use mathlib.Core.Path.{◌≡◌, sym, ◌∙◌}
use mathlib.Core.Bool.{Bool, true, false, not, cond}
use Prim.Native.Nat.{ℕ}
use lib.Dec.{eqb}
use borrow.Author.Tests.{eq-eqb, ne_eqb, not-true, not-false}
use Rattle.answer.specs.declared.Reason.TheVariants.{FieldInvalid}
use Rattle.format.specs.Choice.{Choice, sentences, supports, by_usage, illegal}
use mathlib.Core.Path.{ap}
use Rattle.format.proofs.sentences.Goals as goal

-- what is left to decide for 10b and 11b where PROTECT and SPT support them
abbrev rest : ℕ → ℕ → ℕ → Choice
rest s f u = cond (eqb f 0b10) (by_usage u 0 1) (cond (eqb s 0) (illegal FieldInvalid) (cond (eqb s 1) (by_usage u 0 2) (by_usage u 1 3)))

refuses : (s p f u : ℕ) → (f ≡ 0 → ⊥) → (f ≡ 1 → ⊥) → supports p s ≡ false → sentences s p f u ≡ illegal FieldInvalid
unfolding sentences
refuses s p f u a b e = rw (ne_eqb f 0 a, ne_eqb f 1 b) (decide (supports p s) e)
  where
    decide : (t : Bool) → t ≡ false → cond (not t) (illegal FieldInvalid) (rest s f u) ≡ illegal FieldInvalid
    decide t e = rw e

goes_on : (s p f u : ℕ) → (f ≡ 0 → ⊥) → (f ≡ 1 → ⊥) → supports p s ≡ true → sentences s p f u ≡ rest s f u
unfolding sentences
goes_on s p f u a b e = rw (ne_eqb f 0 a, ne_eqb f 1 b) (decide (supports p s) e)
  where
    decide : (t : Bool) → t ≡ true → cond (not t) (illegal FieldInvalid) (rest s f u) ≡ rest s f u
    decide t e = rw e

pub returns-then-fmtpinfo-eq0 : goal.returns-then-fmtpinfo-eq0
unfolding sentences
returns-then-fmtpinfo-eq0 c = c.by_usage.ensures ∙ rw c.if-fmtpinfo-eq0.true

pub returns-then-fmtpinfo-eq1 : goal.returns-then-fmtpinfo-eq1
unfolding sentences
returns-then-fmtpinfo-eq1 c = c.illegal.ensures ∙ rw c.if-fmtpinfo-eq1.true

pub returns-then-not-supports : goal.returns-then-not-supports
returns-then-not-supports c = c.illegal-then-not-supports.ensures ∙ sym (refuses _ _ _ _ c.if-fmtpinfo-eq0.false c.if-fmtpinfo-eq1.false (sym c.supports.ensures ∙ not-true _ (ap not c.if-not-supports.true)))

pub returns-then-fmtpinfo-eq2 : goal.returns-then-fmtpinfo-eq2
returns-then-fmtpinfo-eq2 c = c.by_usage-then-fmtpinfo-eq2.ensures ∙ sym (goes_on _ _ _ _ c.if-fmtpinfo-eq0.false c.if-fmtpinfo-eq1.false (sym c.supports.ensures ∙ not-false _ (ap not c.if-not-supports.false)) ∙ rw (eq-eqb _ 2 c.if-fmtpinfo-eq2.true))

pub returns-then-spt-eq0 : goal.returns-then-spt-eq0
returns-then-spt-eq0 c = c.illegal-then-spt-eq0.ensures ∙ sym (goes_on _ _ _ _ c.if-fmtpinfo-eq0.false c.if-fmtpinfo-eq1.false (sym c.supports.ensures ∙ not-false _ (ap not c.if-not-supports.false)) ∙ rw (ne_eqb _ 2 c.if-fmtpinfo-eq2.false, eq-eqb _ 0 c.if-spt-eq0.true))

pub returns-then-spt-eq1 : goal.returns-then-spt-eq1
returns-then-spt-eq1 c = c.by_usage-then-spt-eq1.ensures ∙ sym (goes_on _ _ _ _ c.if-fmtpinfo-eq0.false c.if-fmtpinfo-eq1.false (sym c.supports.ensures ∙ not-false _ (ap not c.if-not-supports.false)) ∙ rw (ne_eqb _ 2 c.if-fmtpinfo-eq2.false, ne_eqb _ 0 c.if-spt-eq0.false, eq-eqb _ 1 c.if-spt-eq1.true))

pub returns : goal.returns
returns c = c.by_usage-2.ensures ∙ sym (goes_on _ _ _ _ c.if-fmtpinfo-eq0.false c.if-fmtpinfo-eq1.false (sym c.supports.ensures ∙ not-false _ (ap not c.if-not-supports.false)) ∙ rw (ne_eqb _ 2 c.if-fmtpinfo-eq2.false, ne_eqb _ 0 c.if-spt-eq0.false, ne_eqb _ 1 c.if-spt-eq1.false))
