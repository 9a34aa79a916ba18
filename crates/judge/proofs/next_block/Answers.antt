-- `judge::next_block`: the place one block and its intervals on.
use Rattle.std.proofs.Common.{◌≡◌, ℕ, ◌+◌, ◌%◌, ◌^◌, refl, ◌∙◌}
use Rattle.interval.specs.declared.Place.{Place}
use Rattle.judge.specs.Judge.{place_on, next_block}
use Rattle.judge.proofs.next_block.Goals as goal

next : (n : ℕ) (p : Place) {q : Place} {tag : ℕ} → q ≡ place_on p 1 n tag → tag ≡ (p.tag + n) % 2 ^ 32 → q ≡ next_block n p
next n p e t = e ∙ rw t refl

pub returns : goal.returns
returns c = next _ c.args.p c.place_on.ensures refl
