-- `insertion::insert_block`: one stored interval after the other is put in its place.
use Rattle.std.proofs.Common.{◌≡◌, ℕ, ◌+◌, ◌-◌, ◌*◌, ◌≤◌, List, length, take, drop, sym, refl, ap, ◌∙◌, le_of_eq, le_refl, one-mul, zero-add, arith}
use Rattle.words.proofs.BigEndian.{part_length}
use Rattle.blocks.proofs.Filling.{within, turn, done, begin}
use Rattle.blocks.proofs.Places.{put_all}
use Rattle.blocks.proofs.Pieces.{of_part}
use Rattle.insertion.specs.declared.Marks.{Marks}
use Rattle.insertion.specs.Insertion.{with_field, stored_block}
use Rattle.insertion.proofs.Laws.{marks_later, block_length, interval_behind}
use Rattle.insertion.proofs.insert_block.Goals as goal

interval_of : (size i : ℕ) (m : Marks) (s new : List ℕ) → i + size ≤ length s → new ≡ with_field (length (take (i + size - i) (drop i s))) m (take (i + size - i) (drop i s))
    → new ≡ with_field size m (drop i s)
interval_of size i m s new h e =
    of_part (with_field size m) size i s new (interval_behind size m) h
    (e ∙ ap (λ (n : ℕ). with_field n m (take (i + size - i) (drop i s))) (part_length i size s h))

pub loop-i-init : goal.loop-i-init
unfolding stored_block
loop-i-init c =
    let whole = c.requires.size_value in
    begin _ _ _ _ 0 _ _ _ _ _ _ whole (rw zero-add c.requires.size_value_2) (le_refl _) refl (block_length _ _ _ _ (le_of_eq whole)) (omega arith) (omega arith) (omega arith)

pub loop-i-preserved : goal.loop-i-preserved
loop-i-preserved c =
    let l = c.loop-i in
    let here = within l.invariant (omega arith) in
    turn l.invariant (omega arith) (omega arith) (omega arith) _ _ (omega arith) c.insert_interval.auto.d (interval_of _ (l.i * c.args.size) _ _ _ here c.insert_interval.ensures) (marks_later 1 _ _ _ (sym (one-mul _)) refl)

pub returns : goal.returns
returns c =
    done c.loop-i.invariant (omega arith) ∙ put_all _ _ (block_length _ _ _ _ (le_of_eq c.requires.size_value) ∙ c.requires.size_value_2)
