-- "any two permitted answers coincide": of each public function, over its contract as it stands. Whatever the arguments a are, two
-- answers x and y that the contract permits are one, and so is each byte lent to be written, as the calls leave it in s and in t.
-- Assumes nothing.
use mathlib.Core.Path.{◌≡◌, refl, sym, ap₂, ◌∙◌}
use mathlib.Core.List.{List, [], ◌∷◌}
use Prim.Native.Nat.{ℕ, zero, suc, ◌<◌}
use native.Mathlib.Omega.{arith}
use lib.ListN.{length, get_or}
use Rattle.guard.specs.declared.Table.{Table}
use Rattle.guard.specs.declared.Rows.{Rows}
use Rattle.guard.proofs.guard_by_division.Reads as guard-by-division-reads
use Rattle.guard.proofs.Table.new.Reads as new-of-table-reads
use Rattle.guard.proofs.Table.guard.Reads as guard-of-table-reads
use Rattle.guard.proofs.Table.copy.Reads as copy-of-table-reads
use Rattle.guard.proofs.guard_by_table.Reads as guard-by-table-reads
use Rattle.guard.proofs.Rows.new.Reads as new-of-rows-reads
use Rattle.guard.proofs.Rows.guard.Reads as guard-of-rows-reads

pub guard_by_division : (κs : _) (a : _) (x y : _) (s t : _) → guard-by-division-reads.Post κs a x s → guard-by-division-reads.Post κs a y t → x ≡ y
guard_by_division κs a x y s t p q = p ∙ sym q

-- lists of one length that have the same entries
entries_same : (n : ℕ) (t t' : List ℕ) → length t ≡ n → length t' ≡ n → ((v : ℕ) → v < n → get_or t v 0 ≡ get_or t' v 0) → t ≡ t'
entries_same zero [] [] l l' e = refl
entries_same zero (x ∷ t) t' l l' e = absurd (omega arith)
entries_same zero [] (x ∷ t') l l' e = absurd (omega arith)
entries_same (suc n) [] t' l l' e = absurd (omega arith)
entries_same (suc n) (x ∷ t) [] l l' e = absurd (omega arith)
entries_same (suc n) (x ∷ t) (y ∷ t') l l' e =
    ap₂ (λ (z : ℕ) (s : List ℕ). z ∷ s) (e 0 (omega arith)) (entries_same n t t' (omega arith) (omega arith) (λ v h. e (suc v) (omega arith)))

-- x and y have arrays of 256 numbers
pub table_new : (κs : _) (a : _) (x y : Table) (s t : _) → length x.entries ≡ 256 → length y.entries ≡ 256 → new-of-table-reads.Post κs a x s → new-of-table-reads.Post κs a y t → x.entries ≡ y.entries
table_new κs a x y s t l l' p q = entries_same 256 x.entries y.entries l l' (λ v h. x.right.entry v h ∙ sym (y.right.entry v h))

pub table_guard : (κs : _) (a : _) (x y : _) (s t : _) → guard-of-table-reads.Post κs a x s → guard-of-table-reads.Post κs a y t → x ≡ y
table_guard κs a x y s t p q = p ∙ sym q

pub table_copy : (κs : _) (a : _) (x y : _) (s t : _) → copy-of-table-reads.Post κs a x s → copy-of-table-reads.Post κs a y t → (x ≡ y) × (s.1.0.now ≡ t.1.0.now)
table_copy κs a x y s t p q = (p.0 ∙ sym q.0, p.1 ∙ sym q.1)

pub guard_by_table : (κs : _) (a : _) (x y : _) (s t : _) → guard-by-table-reads.Post κs a x s → guard-by-table-reads.Post κs a y t → x ≡ y
guard_by_table κs a x y s t p q = p ∙ sym q

-- x and y have arrays of 64 numbers
pub rows_new : (κs : _) (a : _) (x y : Rows) (s t : _) → length x.numbers ≡ 64 → length y.numbers ≡ 64 → new-of-rows-reads.Post κs a x s → new-of-rows-reads.Post κs a y t → x.numbers ≡ y.numbers
rows_new κs a x y s t l l' p q = entries_same 64 x.numbers y.numbers l l' (λ v h. x.right.entry v h ∙ sym (y.right.entry v h))

pub rows_guard : (κs : _) (a : _) (x y : _) (s t : _) → guard-of-rows-reads.Post κs a x s → guard-of-rows-reads.Post κs a y t → x ≡ y
rows_guard κs a x y s t p q = p ∙ sym q
