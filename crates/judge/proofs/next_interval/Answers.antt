-- `judge::next_interval`: the place one interval on, at the same address.
use Rattle.std.proofs.Common.{◌≡◌, ℕ, ◌+◌, ◌%◌, ◌^◌, refl, ◌∙◌, add-zero}
use Rattle.interval.specs.declared.Place.{Place}
use Rattle.judge.specs.Judge.{place_on, next_interval}
use Rattle.judge.proofs.next_interval.Goals as goal

next : (p : Place) {q : Place} {tag : ℕ} → q ≡ place_on p 0 1 tag → tag ≡ (p.tag + 1) % 2 ^ 32 → q ≡ next_interval p
next p e t = e ∙ rw (t, add-zero p.address) refl

pub returns : goal.returns
returns c = next c.args.p c.place_on.ensures refl
