-- A loop that puts one piece after the other into a list, from a place up to an end: what stands, what is left to make, and what lies behind the end make up the whole.
-- Assumes nothing.
use mathlib.Core.Path.{◌≡◌, refl, ap₂, ◌∙◌}
use mathlib.Core.List.{List, [], ◌++◌, append_assoc, append-nil}
use Prim.Native.Nat.{ℕ, ◌+◌, ◌-◌, ◌*◌, ◌<◌, ◌≤◌}
use native.Mathlib.Nat.{zero-add}
use native.Mathlib.Omega.{arith}
use lib.ListN.{length, take, drop, take-append-drop}
use borrow.Rule.Slice.PartMut.{mid_of, put_mid, mid_len}
use Rattle.words.specs.Parts.{put}
use Rattle.words.specs.Runs.{runs}
use Rattle.words.proofs.Parts.{put_length, put_back}
use Rattle.words.proofs.Runs.{peel_within, peel_rest, peel_end, fill_next}
use Rattle.blocks.proofs.Places.{put_behind}
use Rattle.blocks.proofs.Pieces.{runs_none}

pub record Filling {A : Type 0} (piece : A → List ℕ → List ℕ) (next : A → A) (P p end : ℕ) (src old whole : List ℕ) (left i a : ℕ) (t : A) (dst : List ℕ) : Type 0 where
  pub kept : length dst ≡ length old
  pub from : i + left * P ≡ length src
  pub to : a + left * p ≡ end
  pub inside : end ≤ length old
  pub made : (take a dst ++ runs piece next P left t (drop i src)) ++ drop end dst ≡ whole

module _ {A : Type 0} {piece : A → List ℕ → List ℕ} {next : A → A} {P p end : ℕ} {src old whole : List ℕ} {left i a : ℕ} {t : A} {dst : List ℕ} (f : Filling piece next P p end src old whole left i a t dst) where
  -- the next piece's elements stand in the list that it is made of, and there is room for it
  pub within : 0 < left → i + P ≤ length src
  within h = peel_within left i P (length src) h f.from

  pub room : 0 < left → a + p ≤ length dst
  room h = omega (arith, peel_within left a p end h f.to, f.kept, f.inside)

  -- the part that was lent comes back with the next piece
  pub turn : {left' i' a' : ℕ} → left' ≡ left - 1 → i' ≡ i + P → a' ≡ a + p → (new : List ℕ) (then : A) → 0 < left → length new ≡ length (mid_of a (a + p - a) dst) → new ≡ piece t (drop i src) → then ≡ next t
      → Filling piece next P p end src old whole left' i' a' then (put_mid a (a + p - a) dst new)
  turn fewer forth forth' new then h lent e on =
      let fits : a + p ≤ length dst = room h in
      let long : length new ≡ p = lent ∙ mid_len a (a + p) dst fits ∙ omega arith in
      let put_in : put_mid a (a + p - a) dst new ≡ put a new dst = put_back a (a + p) dst new (omega arith) (omega arith) in
      let enough : a + length new ≤ length dst = rw long fits in
      let behind : a + length new ≤ end = rw long (peel_within left a p end h f.to) in
      rw (fewer, forth, forth', put_in, on)
      (record {
        kept = put_length a new dst enough ∙ f.kept;
        from = peel_rest left i P (length src) h f.from;
        to = peel_rest left a p end h f.to;
        inside = f.inside;
        made = ap₂ (λ (x y : List ℕ). x ++ y) (fill_next piece next P left a i p t src dst new _ h long fits e refl) (put_behind a new dst enough end behind) ∙ f.made;
      })

  pub done : left ≤ 0 → dst ≡ whole
  done h =
      let none : runs piece next P left t (drop i src) ≡ [] = runs_none piece next P left t (drop i src) h in
      let here : a ≡ end = omega (arith, peel_end left a p end h f.to, f.to) in
      rw (none, append-nil, here, take-append-drop) at f.made

pub begin : {A : Type 0} {left i a : ℕ} (piece : A → List ℕ → List ℕ) (next : A → A) (P p at end k : ℕ) (t : A) (src old new : List ℕ) → k * P ≡ length src → at + k * p ≡ end → end ≤ length old
    → runs piece next P k t src ≡ new → length new ≡ k * p → left ≡ k → i ≡ 0 → a ≡ at → Filling piece next P p end src old (put at new old) left i a t old
unfolding put
begin piece next P p at end k t src old new e l h all long whole first place =
    let ends : at + length new ≡ end = omega arith in
    rw (whole, first, place)
    (record { kept = refl; from = rw zero-add e; to = l; inside = h; made = rw (ends, all) (append_assoc (take at old) new (drop end old)) })
