-- Where judging stands after j intervals or j blocks.
-- Assumes nothing.
use Rattle.std.proofs.Common.{◌≡◌, ℕ, zero, suc, ◌+◌, ◌*◌, ◌%◌, ◌^◌, ◌<◌, sym, refl, ap, ◌∙◌, add-zero, mod-lt, mod-eq_of_lt, suc-mul, mul-zero, zero-mul, mul-one, arith, lit<}
use native.Mathlib.Nat.{mod-add-mod}
use Rattle.interval.specs.declared.Place.{Place}
use Rattle.words.proofs.Turns.{after}
use Rattle.judge.specs.Judge.{place_on, next_interval, next_block}

-- a addresses and n intervals on
abbrev pub moved : ℕ → ℕ → Place → Place
moved a n p = place_on p a n ((p.tag + n) % 2 ^ 32)

moved_none : (p : Place) → p.tag < 2 ^ 32 → moved 0 0 p ≡ p
moved_none p h = simp (add-zero, mod-eq_of_lt h)

gather : (x a b : ℕ) → x + a + b ≡ x + (b + a)
gather x a b = omega arith

moved_moved : (a n b m : ℕ) (p : Place) → moved b m (moved a n p) ≡ moved (b + a) (m + n) p
moved_moved a n b m p =
    let tags : ((p.tag + n) % 2 ^ 32 + m) % 2 ^ 32 ≡ (p.tag + (m + n)) % 2 ^ 32 = mod-add-mod (p.tag + n) (2 ^ 32) m ∙ ap (λ (x : ℕ). x % 2 ^ 32) (gather p.tag n m) in
    rw (gather p.address a b, gather p.interval n m, tags)

moved_after : (next : Place → Place) (a n : ℕ) → ((p : Place) → next p ≡ moved a n p) → (j : ℕ) (p : Place) → p.tag < 2 ^ 32
    → after next j p ≡ moved (j * a) (j * n) p
unfolding after
moved_after next a n e zero p h = rw (zero-mul, zero-mul) (sym (moved_none p h))
moved_after next a n e (suc j) p h =
    rw (suc-mul, suc-mul)
    (ap (after next j) (e p) ∙ moved_after next a n e j (moved a n p) (mod-lt (p.tag + n) (lit< tt)) ∙ moved_moved a n (j * a) (j * n) p)

-- "Each later expected tag is one more than the one before, modulo 4,294,967,296, interval after interval"
pub place_after_interval : (j : ℕ) (p : Place) → p.tag < 2 ^ 32
    → after next_interval j p ≡ record { address = p.address; interval = p.interval + j; tag = (p.tag + j) % 2 ^ 32 }
place_after_interval j p h = moved_after next_interval 0 1 (λ q. rw add-zero refl) j p h ∙ simp (mul-one, mul-zero, add-zero)

pub place_after_block : (n j : ℕ) (p : Place) → p.tag < 2 ^ 32
    → after (next_block n) j p ≡ record { address = p.address + j; interval = p.interval + j * n; tag = (p.tag + j * n) % 2 ^ 32 }
place_after_block n j p h = moved_after (next_block n) 1 n (λ q. refl) j p h ∙ simp mul-one
