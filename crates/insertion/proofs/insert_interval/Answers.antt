-- `insertion::insert_interval`: the data, and behind it the field.
use Rattle.std.proofs.Common.{◌≡◌, ℕ, ◌+◌, ◌-◌, List, ◌++◌, length, drop, ◌∙◌, append-nil, arith, length-append, length-drop, drop_of_length-le}
use lib.Seq.{take-append_seam, take-length}
use borrow.Rule.Slice.PartMut.{put_mid}
use Rattle.words.specs.Parts.{put}
use Rattle.words.proofs.Parts.{put_back}
use Rattle.guard.specs.Guard.{guard}
use Rattle.field.specs.Field.{field_bytes}
use Rattle.field.proofs.Laws.{field_length}
use Rattle.insertion.specs.declared.Marks.{Marks}
use Rattle.insertion.specs.Insertion.{with_field}
use Rattle.insertion.proofs.insert_interval.Goals as goal

-- the field put behind the data, up to the end
interval_made : (m : Marks) (g : ℕ) (s d d₁ d₂ : List ℕ) → length s + 8 ≡ length d → d₁ ≡ s → g ≡ guard s → d₂ ≡ field_bytes g m.application m.reference
    → put_mid (length s) (length (d₁ ++ drop (length s) d) - length s) (d₁ ++ drop (length s) d) d₂ ≡ with_field (length s) m s
unfolding with_field put
interval_made m g s d d₁ d₂ room e₁ eg e₂ =
    let n = length s in
    let old = s ++ drop n d in
    let f = field_bytes (guard s) m.application m.reference in
    let eight : length f ≡ 8 = field_length _ _ _ in
    let whole : length old ≡ n + 8 = simp (length-append, length-drop) (omega arith) in
    let nothing = drop_of_length-le old {i = n + length f} (omega arith) in
    rw (e₁, e₂, eg) (put_back n (length old) old f (omega arith) (omega arith) ∙ rw (take-append_seam, nothing, append-nil, take-length))

pub returns : goal.returns
returns c = interval_made _ _ c.args.s.now c.args.d.now c.copy-g.new.d _ c.requires c.copy-g.ensures.1 c.copy-g.ensures.0 c.write.ensures
