-- Where judging stands at an interval.
-- Assumes nothing.
use mathlib.Core.Path.{◌≡◌, refl, ap, ◌∙◌}
use mathlib.Core.Bool.{Bool, true, false, cond}
use Prim.Native.Nat.{ℕ, ◌+◌, ◌*◌, ◌%◌, ◌^◌, ◌<◌}
use native.Mathlib.Nat.{mod-lt, mod-add-mod, add_assoc, zero-add}
use lib.Dec.{eqb, lit<}
use Rattle.segment.specs.declared.Description.{Description}
use Rattle.segment.specs.Segment.{intervals_of}
use Rattle.command.specs.declared.Command.{Command}
use Rattle.command.specs.Tags.{tag_of}
use Rattle.interval.specs.declared.Place.{Place}
use Rattle.words.proofs.Turns.{after}
use Rattle.judge.specs.Judge.{next_interval, next_block}
use Rattle.judge.proofs.PlaceLaws.{place_after_interval, place_after_block}
use Rattle.rules.specs.Rules.{start_of, first_tag}
use Rattle.rules.specs.Intervals.{place_at}

-- the first tag is one of four bytes
pub tag_small : (d : Description) (c : Command) → tag_of c < 2 ^ 32 → first_tag d c < 2 ^ 32
unfolding first_tag
tag_small d c h = by (eqb d.kind 1)
  where
    by : (b : Bool) → cond b (c.address % 2 ^ 32) (tag_of c) < 2 ^ 32
    by true = mod-lt c.address (lit< tt)
    by false = h

-- j blocks on from the start, and i intervals from there
pub place_is : (d : Description) (c : Command) → first_tag d c < 2 ^ 32 → (j i : ℕ)
    → after next_interval i (after (next_block (intervals_of d)) j (start_of d c)) ≡ place_at d c j i
unfolding start_of
place_is d c small j i =
    let n = intervals_of d in
    let p : Place = record { address = c.address + j; interval = 0 + j * n; tag = (first_tag d c + j * n) % 2 ^ 32 } in
    let tags : ((first_tag d c + j * n) % 2 ^ 32 + i) % 2 ^ 32 ≡ (first_tag d c + (j * n + i)) % 2 ^ 32 = mod-add-mod (first_tag d c + j * n) (2 ^ 32) i ∙ ap (λ (x : ℕ). x % 2 ^ 32) (add_assoc (first_tag d c) (j * n) i) in
    ap (after next_interval i) (place_after_block n j (start_of d c) small)
    ∙ place_after_interval i p (mod-lt (first_tag d c + j * n) (lit< tt)) ∙ rw (zero-add, tags) refl

-- the same at the first interval of a block
pub block_place : (d : Description) (c : Command) → first_tag d c < 2 ^ 32 → (j : ℕ) → after (next_block (intervals_of d)) j (start_of d c) ≡ place_at d c j 0
unfolding after
block_place d c small j = place_is d c small j 0
