-- What is written is what is read, and what is read is what was written.
-- Assumes nothing.
use mathlib.Core.Path.{◌≡◌, refl, sym, ap, ap₂, ◌∙◌}
use mathlib.Core.List.{List, [], ◌++◌, append_assoc, append-nil}
use Prim.Native.Nat.{ℕ, ◌^◌, ◌<◌}
use native.Mathlib.Omega.{arith}
use lib.ListN.{length, take, drop, length-append, length-drop, take-append-drop}
use lib.Seq.{drop-drop, take_all}
use Rattle.words.specs.BigEndian.{bytes}
use Rattle.words.specs.Parts.{Bytes}
use Rattle.words.proofs.BigEndian.{bytes_length, number_there, bytes_there}
use Rattle.field.specs.Field.{stored_guard, stored_application, stored_reference, field_bytes}

module _ (g a r : ℕ) where
  pub guard_read_back : g < 2 ^ 16 → stored_guard (field_bytes g a r) ≡ g
  unfolding stored_guard field_bytes
  guard_read_back h = number_there 0 2 g [] _ refl h

  pub application_read_back : a < 2 ^ 16 → stored_application (field_bytes g a r) ≡ a
  unfolding stored_application field_bytes
  application_read_back h = number_there 2 2 a (bytes 2 g) _ (bytes_length 2 g) h

  pub reference_read_back : r < 2 ^ 32 → stored_reference (field_bytes g a r) ≡ r
  unfolding stored_reference field_bytes
  reference_read_back h =
      let both : length (bytes 2 g ++ bytes 2 a) ≡ 4 = simp (length-append, bytes_length) in
      let apart : bytes 2 g ++ (bytes 2 a ++ bytes 4 r) ≡ (bytes 2 g ++ bytes 2 a) ++ (bytes 4 r ++ []) = rw (append-nil, append_assoc) in
      rw apart (number_there 4 4 r (bytes 2 g ++ bytes 2 a) [] both h)

pub written_back : (f : List ℕ) → length f ≡ 8 → Bytes f → field_bytes (stored_guard f) (stored_application f) (stored_reference f) ≡ f
unfolding field_bytes stored_guard stored_application stored_reference
written_back f e p =
    ap₂ (λ (x y : List ℕ). x ++ y) (bytes_there 0 2 f (omega arith) p)
    (ap₂ (λ (x y : List ℕ). x ++ y) (bytes_there 2 2 f (omega arith) p) (bytes_there 4 4 f (omega arith) p ∙ last)
    ∙ ap (λ (x : List ℕ). take 2 (drop 2 f) ++ x) (sym (drop-drop 2 2 f)) ∙ take-append-drop 2 (drop 2 f))
    ∙ take-append-drop 2 f
  where
    last : take 4 (drop 4 f) ≡ drop 4 f
    last = take_all 4 (drop 4 f) (rw length-drop (omega arith))
