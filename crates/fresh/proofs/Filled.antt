-- What a good filling leaves: a segment of its description, fresh; and a transfer's blocks of it.
-- Assumes nothing.
use mathlib.Core.Path.{◌≡◌, sym, ap, ◌∙◌}
use mathlib.Core.List.{List}
use Prim.Native.Nat.{ℕ, ◌+◌, ◌-◌, ◌*◌, ◌≤◌}
use native.Mathlib.Nat.{add-mul}
use native.Mathlib.Omega.{arith}
use borrow.Author.Tests.{ne_eqb}
use lib.ListN.{length}
use Rattle.answer.specs.Answer.{is_good}
use Rattle.answer.specs.Answer as answers
use Rattle.answer.proofs.Demands.{good_leaves}
use Rattle.segment.specs.declared.Description.{Description}
use Rattle.segment.specs.Segment.{IsSegment, intervals_of, size_of, stored_of, length_of}
use Rattle.segment.specs.Rules.{segment_rules}
use Rattle.segment.specs.Places.{offset_of, span_of, blocks_from}
use Rattle.segment.proofs.Places.{span_flat}
use Rattle.segment.proofs.Rules.{rules_segment}
use Rattle.command.specs.declared.Command.{Command}
use Rattle.filling.specs.Fresh.{fresh_intervals, fresh, filled}
use Rattle.transfer.specs.Transfer.{blocks_of}
use Rattle.fresh.proofs.Runs.{middle, run_length}

-- ---- n blocks of intervals, by intervals
module _ (d : Description) (s : IsSegment d) (fields : d.kind ≡ 0 → ⊥) where
  blocks_flat : (n : ℕ) → n * stored_of d ≡ n * intervals_of d * (size_of d + 8)
  unfolding span_of
  blocks_flat n = sym (span_flat d s n fields)

  pub fresh_length : length (fresh_intervals (size_of d) (d.count * intervals_of d)) ≡ length_of d
  unfolding length_of
  fresh_length = run_length (size_of d) (d.count * intervals_of d) ∙ sym (blocks_flat d.count)

  -- a transfer's blocks of a fresh segment are fresh
  pub fresh_blocks : (c : Command) → d.first ≤ c.address → c.address + c.length ≤ d.first + d.count
      → blocks_of d c (fresh_intervals (size_of d) (d.count * intervals_of d)) ≡ fresh_intervals (size_of d) (c.length * intervals_of d)
  unfolding blocks_of blocks_from offset_of span_of
  fresh_blocks c from to =
      let n = intervals_of d in
      let a = c.address - d.first in
      let rest = d.count - (a + c.length) in
      let blocks : a + (c.length + rest) ≡ d.count = omega arith in
      let all : d.count * n ≡ a * n + (c.length * n + rest * n) = ap (λ (x : ℕ). x * n) (sym blocks) ∙ add-mul a (c.length + rest) n ∙ ap (λ (x : ℕ). a * n + x) (add-mul c.length rest n) in
      rw (blocks_flat a, blocks_flat c.length, all) (middle (size_of d) (a * n) (c.length * n) (rest * n))

-- ---- what was filled
module _ (d : Description) (old : List ℕ) (good : (filled d old).answer ≡ answers.good) where
  pub filled_rules : segment_rules d (length old) ≡ answers.good
  unfolding filled
  filled_rules = good

  pub filled_facts : IsSegment d
  filled_facts = (rules_segment d (length old) (ap is_good filled_rules)).0

  pub filled_fresh : (d.kind ≡ 0 → ⊥) → (filled d old).left ≡ fresh_intervals (size_of d) (d.count * intervals_of d)
  unfolding filled fresh
  filled_fresh fields = good_leaves (segment_rules d (length old)) old (fresh d) (ap is_good filled_rules) ∙ rw (ne_eqb d.kind 0 fields)

  pub filled_length : (d.kind ≡ 0 → ⊥) → length (filled d old).left ≡ length_of d
  filled_length fields = ap length (filled_fresh fields) ∙ fresh_length d filled_facts fields
