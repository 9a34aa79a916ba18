-- Laws on what was put at a place of a list: before it, behind it and there.
-- Assumes nothing.
use mathlib.Core.Path.{◌≡◌, sym, ap, ◌∙◌}
use mathlib.Core.List.{List, ◌++◌, append_assoc, append-nil}
use Prim.Native.Nat.{ℕ, ◌+◌, ◌-◌, ◌≤◌}
use native.Mathlib.Nat.{zero-add}
use native.Mathlib.Omega.{arith}
use lib.ListN.{length, take, drop, length-append}
use lib.Seq.{take-append-le, take-append_seam, take-take, drop_at, drop-append-add, drop-drop, length-take-le, drop-length}
use Rattle.words.specs.Parts.{put}

-- ---- what was put at a place
module _ (at : ℕ) (new old : List ℕ) (fits : at + length new ≤ length old) where
  before : length (take at old) ≡ at
  before = length-take-le at old (omega arith)

  pub put_before : (n : ℕ) → n ≤ at → take n (put at new old) ≡ take n old
  unfolding put
  put_before n h = take-append-le n (take at old) _ (rw before h) ∙ take-take n at old h

  pub put_there : take (length new) (drop at (put at new old)) ≡ new
  unfolding put
  put_there = ap (take (length new)) (drop_at (take at old) _ at before) ∙ take-append_seam new _

  pub put_behind : (n : ℕ) → at + length new ≤ n → drop n (put at new old) ≡ drop n old
  unfolding put
  put_behind n h =
      let seam : length (take at old ++ new) ≡ at + length new = rw (length-append, before) in
      let rest : n ≡ at + length new + (n - (at + length new)) = omega arith in
      let seen : n ≡ length (take at old ++ new) + (n - (at + length new)) = rw seam rest in
      ap (drop n) (sym (append_assoc (take at old) new (drop (at + length new) old)))
      ∙ ap (λ (k : ℕ). drop k ((take at old ++ new) ++ drop (at + length new) old)) seen
      ∙ drop-append-add (take at old ++ new) (drop (at + length new) old) (n - (at + length new))
      ∙ drop-drop (n - (at + length new)) (at + length new) old ∙ ap (λ (k : ℕ). drop k old) (sym rest)

pub put_all : (new old : List ℕ) → length new ≡ length old → put 0 new old ≡ new
unfolding put
put_all new old e = rw (zero-add, e, drop-length, append-nil)
